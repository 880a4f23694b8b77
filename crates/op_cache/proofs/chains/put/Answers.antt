use Rattle.std.proofs.Common.{◌+◌, suc, take, drop, ◌∷◌, ◌++◌, ap, ◌∙◌, arith, ◌≡◌, ℕ}
use Rattle.std.proofs.lemmas.List.{set_split}
use Rattle.op_cache.proofs.chains.put.Goals as goal

pub returns-then-at-len-clause-put : goal.returns-then-at-len-clause-put
returns-then-at-len-clause-put g c =
    let items = c.args.entries.now.items in
    let at = c.args.at in
    let one : suc at ≡ at + 1 = omega arith in
    set_split items at c.args.entry (omega arith) ∙ ap (λ (k : ℕ). take at items ++ c.args.entry ∷ drop k items) one
