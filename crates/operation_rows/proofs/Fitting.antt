-- When rows one after the other fit.
use Rattle.std.proofs.Common.{◌≡◌, ℕ, ◌+◌, ◌<◌, ◌≤◌, List, [], ◌∷◌, ◌++◌, length, refl, ap, ◌∙◌, arith, ⊎_elim, Bool, true, false, Option, Some, None}
use Rattle.std.specs.Prelude.{if◌then◌else◌, nat_lt}
use Rattle.std.proofs.lemmas.Bool.{cases_Bool}
use Rattle.std.proofs.lemmas.Bool.Decides.{Decides-ltb}
use Rattle.node_tree.specs.Tree.{Tree}
use Rattle.operation_rows.specs.Rows.{Row, row_need, one_more, first_full}
use Rattle.operation_rows.proofs.Sizes.{Has, has_left, has_right, has_cases, size_same}

pub fits_test : (room need : ℕ) → need ≤ room → nat_lt room need ≡ false
fits_test room need l = ⊎_elim (λ t. absurd (let q : room < need = (Decides-ltb room need).0 t in omega arith)) (λ f. f) (cases_Bool (nat_lt room need))

pub full_test : (room need : ℕ) → room < need → nat_lt room need ≡ true
full_test room need l = (Decides-ltb room need).1 l

none_more : (o : Option ℕ) → one_more o ≡ None → o ≡ None
none_more None e = refl
none_more (Some n) e = let no : ⊥ = cc in absurd no

-- the first row fits, and the others do
first_cases : (b : Bool) (o : Option ℕ) → (if b then Some 1 else one_more o) ≡ None → (b ≡ false) × (o ≡ None)
first_cases true o e = let no : ⊥ = cc in absurd no
first_cases false o e = (refl, none_more o e)

module _ (room : ℕ) (kept : List Tree) where
  -- a further row fits
  pub rows_then : (rows : List Row) (r : Row) → first_full room kept rows ≡ None → row_need kept r ≤ room → first_full room kept (rows ++ r ∷ []) ≡ None
  rows_then [] r e l = rw (fits_test room (row_need kept r) l) refl
  rows_then (q ∷ rows) r e l =
      let p = first_cases (nat_lt room (row_need kept q)) (first_full room kept rows) e in
      rw (p.0, rows_then rows r p.1 l) refl

  -- or is the first that doesn't
  pub rows_stop : (rows : List Row) (r : Row) (more : List Row) → first_full room kept rows ≡ None → room < row_need kept r → first_full room kept (rows ++ r ∷ more) ≡ Some (length rows + 1)
  rows_stop [] r more e l = rw (full_test room (row_need kept r) l) refl
  rows_stop (q ∷ rows) r more e l =
      let p = first_cases (nat_lt room (row_need kept q)) (first_full room kept rows) e in
      rw (p.0, rows_stop rows r more p.1 l) (ap (λ (n : ℕ). Some n) (omega arith))

  stopped_by : (b : Bool) (n : ℕ) (o more : Option ℕ) → ((m : ℕ) → o ≡ Some m → more ≡ Some m) → (if b then Some 1 else one_more o) ≡ Some n → (if b then Some 1 else one_more more) ≡ Some n
  stopped_by true n o more h e = e
  stopped_by false n None more h e = let no : ⊥ = cc in absurd no
  stopped_by false n (Some m) more h e = rw (h m refl) e

  -- a row that doesn't fit is the first one whatever follows
  pub rows_stopped : (rows more : List Row) (n : ℕ) → first_full room kept rows ≡ Some n → first_full room kept (rows ++ more) ≡ Some n
  rows_stopped [] more n e = let no : ⊥ = cc in absurd no
  rows_stopped (q ∷ rows) more n e = stopped_by (nat_lt room (row_need kept q)) n (first_full room kept rows) (first_full room kept (rows ++ more)) (rows_stopped rows more) e

-- what is kept counts by its trees alone, whatever their order
pub full_same : (room : ℕ) (xs ys : List Tree) (rows : List Row) → ((t : Tree) → Has xs t → Has ys t) →
    ((t : Tree) → Has ys t → Has xs t) → first_full room xs rows ≡ first_full room ys rows
full_same room xs ys [] f g = refl
full_same room xs ys (r ∷ rows) f g =
    let first : row_need xs r ≡ row_need ys r =
    size_same (xs ++ (r.beside ++ r.tree ∷ [])) (ys ++ (r.beside ++ r.tree ∷ []))
    (wider xs ys (r.beside ++ r.tree ∷ []) f) (wider ys xs (r.beside ++ r.tree ∷ []) g) in
    ap (λ (n : ℕ). if nat_lt room n then Some 1 else one_more (first_full room xs rows)) first
    ∙ ap (λ (o : Option ℕ). if nat_lt room (row_need ys r) then Some 1 else one_more o) (full_same room xs ys rows f g)
  where
    wider : (xs ys zs : List Tree) → ((t : Tree) → Has xs t → Has ys t) → (t : Tree) → Has (xs ++ zs) t → Has (ys ++ zs) t
    wider xs ys zs f t h = ⊎_elim (λ k. has_left ys zs t (f t k)) (λ k. has_right ys zs t k) (has_cases xs zs t h)
