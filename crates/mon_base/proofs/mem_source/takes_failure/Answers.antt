use Rattle.std.proofs.Common.{◌≡◌, ◌∷◌, ◌<◌, get_or, length, sym, subst, List, ℕ, IsPermutation}
use Rattle.std.proofs.lemmas.List.Sorted.{IsPermutation-remove}
use Rattle.mon_base.proofs.mem_source.takes_failure.Goals as goal

pub returns-in-Some-clause-spent : goal.returns-in-Some-clause-spent
returns-in-Some-clause-spent c =
    let places = c.args.fail_at.now.items in
    let i = c.in-Some.i in
    let found = subst (λ (xs : List ℕ). (i < length xs) × (get_or xs i c.args.given ≡ c.args.given)) c.deref.ensures.value c.in-Some.ensures.some in
    subst (λ (xs : List ℕ). IsPermutation places (c.args.given ∷ xs)) (sym c.remove.ensures.items) (IsPermutation-remove places i c.args.given found.0 (sym found.1))
