-- Passes over items, an item at a time.
use Rattle.std.proofs.Common.{◌≡◌, ℕ, ◌+◌, ◌<◌, List, [], ◌∷◌, ◌++◌, length, zero, suc, refl, Option, Some, None, ap, arith, take, drop}
use Rattle.std.specs.Prelude.{map, slice_index_or}
use Rattle.std.specs.List.{AllByRecursion}
use Rattle.qtl_syntax.specs.Tree.{Item, item_of}
use Rattle.qtl_syntax.specs.declared.formula.Item as rust_item
use Rattle.qtl_truth.specs.Items.{before_of}
use Rattle.wellformed.specs.Faults.{found_in, first_in}
use Rattle.wellformed.specs.Walk.{found_at}
use Rattle.wellformed.proofs.Found.{before_more}

-- a place of a list has an element, which stands between what comes before and what comes after
pub record Split {A : Type 0} (xs : List A) (k : ℕ) : Type 0 where
  pub here : A
  pub after : drop k xs ≡ here ∷ drop (k + 1) xs
  pub before : take (k + 1) xs ≡ take k xs ++ here ∷ []

record Cut {A : Type 0} (xs : List A) (k : ℕ) : Type 0 where
  here : A
  after : drop k xs ≡ here ∷ drop (suc k) xs
  before : take (suc k) xs ≡ take k xs ++ here ∷ []

cut_at : {A : Type 0} (xs : List A) (k : ℕ) → k < length xs → Cut xs k
cut_at [] k l = absurd (omega arith)
cut_at (x ∷ xs) zero l = record { here = x; after = refl; before = refl }
cut_at (x ∷ xs) (suc k) l =
    let s = cut_at xs k (omega arith) in
    record { here = s.here; after = s.after; before = ap (λ ys. x ∷ ys) s.before }

pub split_at : {A : Type 0} (xs : List A) (k : ℕ) → k < length xs → Split xs k
split_at xs k l =
    let s = cut_at xs k l in
    let e : k + 1 ≡ suc k = omega arith in
    record { here = s.here; after = rw e s.after; before = rw e s.before }

pub before_next : (items : List rust_item.Item) (m : ℕ) (s : Split items m) → before_of (take (m + 1) items) ≡ item_of s.here ∷ before_of (take m items)
before_next items m s = rw s.before (before_more (take m items) s.here)

none_here : (o : Option ℕ) (m : ℕ) (later : Option (ℕ × ℕ)) → o ≡ None → found_in m o later ≡ later
none_here o m later e = rw e refl

some_here : (o : Option ℕ) (m node : ℕ) (later : Option (ℕ × ℕ)) → o ≡ Some node → found_in m o later ≡ Some (m, node)
some_here o m node later e = rw e refl

-- an item in which a pass finds nothing
pub next_item : (pass : List Item → Item → List Item → Option ℕ) (items : List rust_item.Item) (m : ℕ) (all : Option (ℕ × ℕ)) → m < length items →
    found_at pass (before_of (take m items)) (map item_of (drop m items)) ≡ None → all ≡ first_in pass (before_of (take m items)) m (map item_of (drop m items)) →
    all ≡ first_in pass (before_of (take (m + 1) items)) (m + 1) (map item_of (drop (m + 1) items))
next_item pass items m all l none e =
    let s = split_at items m l in
    let nothing = rw s.after at none in
    let f = rw s.after at e in
    rw (before_next items m s) (rw (none_here _ m _ nothing) at f)

-- an item in which it finds a node
pub this_item : (pass : List Item → Item → List Item → Option ℕ) (items : List rust_item.Item) (m node : ℕ) (all : Option (ℕ × ℕ)) → m < length items →
    found_at pass (before_of (take m items)) (map item_of (drop m items)) ≡ Some node → all ≡ first_in pass (before_of (take m items)) m (map item_of (drop m items)) →
    all ≡ Some (m, node)
this_item pass items m node all l some e =
    let s = split_at items m l in
    let found = rw s.after at some in
    let f = rw s.after at e in
    rw (some_here _ m node _ found) at f

-- what holds of each item holds of one
pub all_at : (P : Item → Type 0) (items : List rust_item.Item) (m : ℕ) (item : rust_item.Item) → m < length items → item ≡ slice_index_or items m item →
    AllByRecursion P (map item_of items) → P (item_of item)
all_at P [] m item l is h = absurd (omega arith)
all_at P (x ∷ items) zero item l is h = rw is h.0
all_at P (x ∷ items) (suc m) item l is h = all_at P items m item (omega arith) is h.1
