-- What the rows of one subformula more cost.
use Rattle.std.proofs.Common.{◌≡◌, ℕ, ◌+◌, ◌*◌, ◌≤◌, refl, ap, ◌∙◌, arith, List, take, get_or, Some}
use Rattle.std.specs.Prelude.{slice_get}
use Rattle.std.specs.List.{sum_by}
use Rattle.std.proofs.Math.Nat.{add-mul, mul-le-mul_right}
use Rattle.std.proofs.lemmas.List.Sums.{sum_by_more, sum_by_more_le}
use Rattle.std.proofs.lemmas.Option.{slice_get_within}
use Rattle.bdd_ops.specs.Shelf.{Shelf, handle_pairs, IsLarge}
use Rattle.subformulas.specs.declared.table.Sub.{Sub}
use Rattle.monitor_step.proofs.Rows.Counted.{here_is}

-- the rows counted so far and those of one subformula more
pub rows_counted : (f : Sub → ℕ) (subs : List Sub) (k : ℕ) (sub : Sub) → slice_get subs k ≡ Some sub → sum_by f (take (k + 1) subs) ≡ sum_by f (take k subs) + f sub
rows_counted f subs k sub at = sum_by_more f subs k sub (slice_get_within subs k sub at) ∙ ap (λ x. sum_by f (take k subs) + f x) (here_is subs k sub at)

pub rows_most : (f : Sub → ℕ) (subs : List Sub) (k : ℕ) (sub : Sub) → slice_get subs k ≡ Some sub → sum_by f (take k subs) + f sub ≤ sum_by f subs
rows_most f subs k sub at =
    let e : sum_by f (take k subs) + f (get_or subs k sub) ≡ sum_by f (take k subs) + f sub = ap (λ x. sum_by f (take k subs) + f x) (here_is subs k sub at) in
    let l = sum_by_more_le f subs k sub (slice_get_within subs k sub at) in omega (arith, e, l)

-- so many rows, each of which costs no more than n
pub cost_more : (a b c before now after n : ℕ) → now ≤ before + a * n → after ≤ now + b * n → a + b ≡ c → after ≤ before + c * n
cost_more a b c before now after n one two e = let m = add-mul a b n in let f : (a + b) * n ≡ c * n = ap (λ (x : ℕ). x * n) e in omega (arith, one, two, m, f)

pub cost_most : (a b c before now after n : ℕ) → now ≤ before + a * n → after ≤ now + b * n → a + b ≤ c → after ≤ before + c * n
cost_most a b c before now after n one two l = let h = cost_more a b (a + b) before now after n one two refl in let m = mul-le-mul_right n l in omega (arith, h, m)

-- what a subformula's rows cost, by the room at entry
pub cost_by_room : (now then : Shelf) (before after rows : ℕ) → now.table.room ≡ then.table.room → now.memo.entries ≡ then.memo.entries → IsLarge then →
    (IsLarge now → after ≤ before + rows * (6 * handle_pairs now.table)) → after ≤ before + rows * (6 * handle_pairs then.table)
cost_by_room now then before after rows room entries large cost =
    let wide : (now.table.room + 2) * (now.table.room + 3) ≡ (then.table.room + 2) * (then.table.room + 3) = ap (λ (n : ℕ). (n + 2) * (n + 3)) room in
    let pairs : rows * (6 * handle_pairs now.table) ≡ rows * (6 * handle_pairs then.table) = ap (λ (n : ℕ). rows * (6 * ((n + 2) * (n + 2)))) room in
    let paid = cost (omega (arith, wide, entries, large)) in
    omega (arith, paid, pairs)
