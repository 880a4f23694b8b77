-- An operation as one more row, over roots and the letters behind them.
use Rattle.std.proofs.Common.{◌≡◌, ℕ, zero, suc, ◌+◌, ◌^◌, ◌<◌, not, List, [], ◌∷◌, ◌++◌, length, map, refl, ap, sym, ◌∙◌, arith, ⊎_elim, inl, inr, subst, Some}
use Rattle.std.specs.Prelude.{Result, Ok, Err, slice_index_or}
use Rattle.std.specs.List.{Contains}
use Rattle.node_tree.specs.Tree.{Tree, IsOrdered, IsReduced, value}
use Rattle.node_tree.specs.Levels.{LevelsBelow}
use Rattle.node_table.specs.Table.{Table, tree_of, IsValid}
use Rattle.node_table.specs.Collects.{AllValid}
use Rattle.bdd_ops.specs.declared.store.NodesFull.{NodesFull}
use Rattle.bdd_ops.specs.Operates.{AllStay, Operates}
use Rattle.operation_rows.specs.declared.rows.RowFull.{RowFull}
use Rattle.operation_rows.specs.declared.updated.Updated.{Updated}
use Rattle.operation_rows.specs.Rows.{Row, row, timed, MakesUpdate}
use Rattle.bdd_ops.specs.declared.op.Op.TheVariants.{And}
use Rattle.operation_rows.specs.Kinds.{applied}
use Rattle.operation_rows.specs.Lines.{MakesRow, EndsRows, IsKept, without_ages}
use Rattle.timed_bits.specs.Ages.{HasAgesTo}
use Rattle.timed_bits.specs.Changes.{age_drop, dropped, stamped, age_where, either_age}
use Rattle.timed_bits.specs.Entries.{IsAgeTree}
use Rattle.timed_bits.proofs.Ages.{age_drop-ages}
use Rattle.timed_bits.proofs.Others.{says_itself, and-ages, without-or_stamp}
use Rattle.operation_rows.proofs.Sizes.{Has, has_left, has_right, has_cases, has_handle}
use Rattle.operation_rows.proofs.Making.{SameTrees, map_both, none_made, more_made, more_full}

-- a fact of each handle of two lists, of one

left_of : (P : ℕ → Type 0) (xs ys : List ℕ) → ((j : ℕ) → j < length (xs ++ ys) → P (slice_index_or (xs ++ ys) j 0)) → (j : ℕ) → j < length xs → P (slice_index_or xs j 0)
left_of P [] ys h j l = absurd (omega (arith, l))
left_of P (x ∷ xs) ys h zero l = h 0 (omega arith)
left_of P (x ∷ xs) ys h (suc j) l = left_of P xs ys (λ k m. h (suc k) (omega (arith, m))) j (omega (arith, l))

right_of : (P : ℕ → Type 0) (xs ys : List ℕ) → ((j : ℕ) → j < length (xs ++ ys) → P (slice_index_or (xs ++ ys) j 0)) → (j : ℕ) → j < length ys → P (slice_index_or ys j 0)
right_of P [] ys h j l = h j l
right_of P (x ∷ xs) ys h j l = right_of P xs ys (λ k m. h (suc k) (omega (arith, m))) j l

both_of : (P : ℕ → Type 0) (xs ys : List ℕ) → ((j : ℕ) → j < length xs → P (slice_index_or xs j 0)) → ((j : ℕ) → j < length ys → P (slice_index_or ys j 0)) → (j : ℕ) → j < length (xs ++ ys) → P (slice_index_or (xs ++ ys) j 0)
both_of P [] ys p q j l = q j l
both_of P (x ∷ xs) ys p q zero l = p 0 (omega arith)
both_of P (x ∷ xs) ys p q (suc j) l = both_of P xs ys (λ k m. p (suc k) (omega (arith, m))) q j (omega (arith, l))

-- roots and letters are valid together
pub all_valid : (t : Table) (roots letters given : List ℕ) → given ≡ roots ++ letters → AllValid t roots → AllValid t letters → AllValid t given
all_valid t roots letters given e v w = subst (AllValid t) (sym e) (both_of (IsValid t) roots letters v w)

-- a handle of a list, by its place
pub valid_in : (t : Table) (hs : List ℕ) (h : ℕ) → AllValid t hs → Contains hs h → IsValid t h
valid_in t hs h v (k, l, e) = at hs k v l e
  where
    at : (hs : List ℕ) (k : ℕ) → AllValid t hs → k < length hs → slice_index_or hs k h ≡ h → IsValid t h
    at [] k v l e = absurd (omega (arith, l))
    at (x ∷ hs) zero v l e = subst (IsValid t) e (v 0 (omega arith))
    at (x ∷ hs) (suc k) v l e = at hs k (λ j m. v (suc j) (omega (arith, m))) (omega (arith, l)) e

pub kept_valid : (t : Table) (roots letters : List ℕ) (h : ℕ) → AllValid t roots → AllValid t letters → IsKept roots letters h → IsValid t h
kept_valid t roots letters h v w (inl k) = valid_in t roots h v k
kept_valid t roots letters h v w (inr k) = valid_in t letters h w k

-- each operand is a root or a letter
abbrev pub AreKept : (roots letters operands : List ℕ) → Type 0
AreKept roots letters [] = Unit {0}
AreKept roots letters (h ∷ hs) = IsKept roots letters h × AreKept roots letters hs

operand_trees : (t : Table) (roots letters hs : List ℕ) → AreKept roots letters hs → (x : Tree) → Has (map (tree_of t) hs) x → Has (map (tree_of t) roots ++ map (tree_of t) letters) x
operand_trees t roots letters [] k x h = absurd h
operand_trees t roots letters (y ∷ hs) k x (inl e) = by k.0
  where
    by : IsKept roots letters y → Has (map (tree_of t) roots ++ map (tree_of t) letters) x
    by (inl c) = has_left (map (tree_of t) roots) _ x (subst (Has (map (tree_of t) roots)) e (has_handle (tree_of t) roots y c))
    by (inr c) = has_right (map (tree_of t) roots) _ x (subst (Has (map (tree_of t) letters)) e (has_handle (tree_of t) letters y c))
operand_trees t roots letters (y ∷ hs) k x (inr h) = operand_trees t roots letters hs k.1 x h

same_trees : (t : Table) (roots letters given operands : List ℕ) → given ≡ roots ++ letters → AreKept roots letters operands →
    SameTrees (map (tree_of t) (operands ++ given)) (map (tree_of t) roots ++ map (tree_of t) letters)
same_trees t roots letters given operands e k = record {
  there = λ x h. ⊎_elim (λ o. operand_trees t roots letters operands k x o) (λ o. subst (λ xs. Has xs x) split o)
      (has_cases (map (tree_of t) operands) (map (tree_of t) given) x (subst (λ xs. Has xs x) (map_both (tree_of t) operands given) h));
  back = λ x h. subst (λ xs. Has xs x) (sym (map_both (tree_of t) operands given)) (has_right (map (tree_of t) operands) _ x (subst (λ xs. Has xs x) (sym split) h));
}
  where
    split : map (tree_of t) given ≡ map (tree_of t) roots ++ map (tree_of t) letters
    split = ap (map (tree_of t)) e ∙ map_both (tree_of t) roots letters

-- an operation over roots and letters is one more row
module _ (tree : Tree) (operands roots letters given : List ℕ) (mid new : Table) (number : ℕ) (e : given ≡ roots ++ letters) (k : AreKept roots letters operands) where
  roots_stay : AllStay mid new given → AllStay mid new roots
  roots_stay s = left_of (λ h. IsValid new h × (tree_of new h ≡ tree_of mid h)) roots letters (subst (AllStay mid new) e s)

  letters_stay : AllStay mid new given → AllStay mid new letters
  letters_stay s = right_of (λ h. IsValid new h × (tree_of new h ≡ tree_of mid h)) roots letters (subst (AllStay mid new) e s)

  pub row_ok : (h : ℕ) → Operates tree operands given mid new (Ok h) → MakesRow number tree roots letters mid new (Ok h)
  row_ok h o = record {
    room = o.room;
    shared = o.shared;
    roots_stay = roots_stay o.roots_stay;
    letters_stay = letters_stay o.roots_stay;
    valid = o.valid;
    is = o.is;
    made = λ rows old n before.
        more_made rows (map (tree_of mid) letters) tree operands given roots old mid new before (same_trees mid roots letters given operands e k) h (Ok h) refl o (roots_stay o.roots_stay);
    full = λ rows old n before. tt;
  }

  pub row_full : (x : NodesFull) (f : RowFull) → f.row ≡ number → Operates tree operands given mid new (Err x) → MakesRow number tree roots letters mid new (Err f)
  row_full x f at o = record {
    room = o.room;
    shared = o.shared;
    roots_stay = roots_stay o.roots_stay;
    letters_stay = letters_stay o.roots_stay;
    valid = tt;
    is = tt;
    made = λ rows old n before. tt;
    full = λ rows old n before more.
        more_full rows (map (tree_of mid) letters) tree operands given roots old mid new before (same_trees mid roots letters given operands e k) x (Err x) refl o more
        ∙ ap (λ (i : ℕ). Some i) (omega (arith, at, n));
  }

-- rows and one more

snoc : (rows more : List Row) (x : Row) → (rows ++ x ∷ []) ++ more ≡ rows ++ x ∷ more
snoc [] more x = refl
snoc (r ∷ rows) more x = ap (λ rs. r ∷ rs) (snoc rows more x)

snoc-length : (rows : List Row) (x : Row) → length (rows ++ x ∷ []) ≡ length rows + 1
snoc-length [] x = refl
snoc-length (r ∷ rows) x = let h = snoc-length rows x in omega (arith, h)

module _ (number : ℕ) (tree : Tree) (roots letters : List ℕ) (mid w : Table) where
  -- a row that does not fit ends the rows
  pub end_err : (f : RowFull) (more : List Row) (now next : Tree) → MakesRow number tree roots letters mid w (Err f) →
      EndsRows number (row (map (tree_of mid) letters) tree ∷ more) now next roots mid w (Err f)
  end_err f more now next m rows old n before = record {
    room = m.room ∙ before.room;
    shared = m.shared;
    roots_stay = λ j l. ((m.roots_stay j l).0, (m.roots_stay j l).1 ∙ (before.roots_stay j l).1);
    now = tt;
    next = tt;
    full = m.full rows old n before more;
  }

  -- after a row that fits come the others
  pub end_more : (h : ℕ) (more : List Row) (now next : Tree) (new : Table) (r : Result Updated RowFull) → MakesRow number tree roots letters mid w (Ok h) →
      EndsRows (number + 1) more now next roots w new r → EndsRows number (row (map (tree_of mid) letters) tree ∷ more) now next roots mid new r
  end_more h more now next new r m rest rows old n before =
      let x = row (map (tree_of mid) letters) tree in
      let l = snoc-length rows x in
      subst (λ rs. MakesUpdate (timed rs now next) roots old new r) (snoc rows more x)
      (rest (rows ++ x ∷ []) old (omega (arith, l, n)) (m.made rows old n before))

  -- the last row, of which the remembered tree is the first letter
  pub end_last : (h e : ℕ) (others : List ℕ) → letters ≡ e ∷ others → MakesRow number tree roots letters mid w (Ok h) →
      EndsRows number (row (map (tree_of mid) letters) tree ∷ []) tree (tree_of mid e) roots mid w (Ok (record { now = h; next = e }))
  end_last h e others first m rows old n before =
      let made = m.made rows old n before in
      let stay : AllStay mid w (e ∷ others) = subst (AllStay mid w) first m.letters_stay in
      record {
        room = made.room;
        shared = m.shared;
        roots_stay = made.roots_stay;
        now = (m.valid, m.is);
        next = stay 0 (omega arith);
        full = made.fit;
      }

-- the first row comes after none
pub ends_all : (more : List Row) (now next : Tree) (roots : List ℕ) (t new : Table) (r : Result Updated RowFull) → AllValid t roots → EndsRows 1 more now next roots t new r →
    MakesUpdate (timed more now next) roots t new r
ends_all more now next roots t new r v h = h [] t (omega arith) (none_made roots t v)

-- what is kept is valid after a row, with the tree that it had
pub one_valid : (t : Table) (h : ℕ) → IsValid t h → AllValid t (h ∷ [])
one_valid t h v zero l = v
one_valid t h v (suc j) l = absurd (omega (arith, l))

pub stays_valid : (t w : Table) (hs : List ℕ) → AllStay t w hs → AllValid w hs
stays_valid t w hs s j l = (s j l).0

pub stays_tree : (t w : Table) (hs : List ℕ) (h : ℕ) → AllStay t w hs → Contains hs h → IsValid w h × (tree_of w h ≡ tree_of t h)
stays_tree t w hs h s (k, l, e) = at hs k s l e
  where
    at : (hs : List ℕ) (k : ℕ) → AllStay t w hs → k < length hs → slice_index_or hs k h ≡ h → IsValid w h × (tree_of w h ≡ tree_of t h)
    at [] k s l e = absurd (omega (arith, l))
    at (x ∷ hs) zero s l e = subst (λ y. IsValid w y × (tree_of w y ≡ tree_of t y)) e (s 0 (omega arith))
    at (x ∷ hs) (suc k) s l e = at hs k (λ j m. s (suc j) (omega (arith, m))) (omega (arith, l)) e

-- what is dropped is an age tree
pub dropped-ages : (first width delta n : ℕ) (m : Tree) → n < 2 ^ width → HasAgesTo first width n m → IsAgeTree first width (age_drop first width delta n m)
dropped-ages first width delta n m l (age, h, most) = ((λ bits. dropped delta n (age bits)), age_drop-ages first width delta n m age l h)

-- and so are ages without those where f holds, with the stamp of f
pub without-ages : (first width : ℕ) (a f : Tree) → IsOrdered f → IsReduced f → LevelsBelow first f → IsAgeTree first width a → IsAgeTree first width (without_ages first width a f)
without-ages first width a f o r b (age, h) =
    ((λ bits. either_age (age_where (not (value f bits)) (age bits)) (stamped (value f bits))), without-or_stamp first width a f age (λ bits. value f bits) h (says_itself first f o r b))

-- and ages where f holds
pub within-ages : (first width : ℕ) (a f : Tree) → IsOrdered f → IsReduced f → LevelsBelow first f → IsAgeTree first width a → IsAgeTree first width (applied And f a)
within-ages first width a f o r b (age, h) =
    ((λ bits. age_where (value f bits) (age bits)), and-ages first width f a (λ bits. value f bits) age (says_itself first f o r b) h)
