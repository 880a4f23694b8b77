use Rattle.std.proofs.Common.{rules, ◌↔◌, ◌<◌, ℕ, IsTrue, get_or, length}
use Rattle.std.specs.Int.{IsInRange}
use Rattle.settings.proofs.Digits.{digits_alone}
use Rattle.settings.proofs.numbers.has_digits_alone.Goals as goal

pub returns : goal.returns
returns c =
    let each : IsTrue c.all.result ↔ ((i : ℕ) → i < length c.args.text.now → IsInRange 48 57 (get_or c.args.text.now i 0)) = search rules in
    digits_alone _ _ each
