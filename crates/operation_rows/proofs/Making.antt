-- What operations leave as rows.
use Rattle.std.proofs.Common.{◌≡◌, ◌⊎◌, ℕ, zero, suc, ◌+◌, ◌<◌, ◌≤◌, ◌↔◌, List, [], ◌∷◌, ◌++◌, length, map, refl, ap, sym, ◌∙◌, arith, ⊎_elim, inl, inr, subst, Some}
use Rattle.std.specs.Prelude.{true, false, not, Result, Ok, Err, IsErr, IfOk, slice_index_or}
use Rattle.std.specs.List.{Contains}
use Rattle.std.proofs.lemmas.Bool.{cases_lt}
use Rattle.node_tree.specs.Tree.{Tree, Zero, One, size}
use Rattle.node_table.specs.Table.{Table, tree_of, IsValid, IsShared}
use Rattle.node_table.specs.Collects.{AllValid}
use Rattle.bdd_ops.specs.declared.store.NodesFull.{NodesFull}
use Rattle.bdd_ops.specs.declared.op.Op.{Op}
use Rattle.bdd_ops.specs.declared.op.Op.TheVariants.{AndNot}
use Rattle.bdd_ops.specs.Apply.{map_leaves, apply_tree}
use Rattle.bdd_ops.specs.Numbers.{truth_of}
use Rattle.bdd_ops.specs.Applied.{op_tree}
use Rattle.bdd_ops.specs.Operates.{AllStay, need_with, Operates}
use Rattle.bdd_ops.proofs.Growing.{grows_none}
use Rattle.bdd_ops.proofs.Stages.{made_ok}
use Rattle.bdd_ops.proofs.Tries.{same_map, fits_all, stay_same, both_valid, first_ok}
use Rattle.operation_rows.specs.declared.rows.RowFull.{RowFull}
use Rattle.operation_rows.specs.declared.updated.Updated.{Updated}
use Rattle.operation_rows.specs.Rows.{Row, row, row_need, first_full, plain, MakesUpdate}
use Rattle.operation_rows.specs.Kinds.{one_row}
use Rattle.operation_rows.specs.Lines.{Made}
use Rattle.operation_rows.proofs.Fitting.{rows_then, rows_stop, rows_stopped}
use Rattle.operation_rows.proofs.Sizes.{Has, has_left, has_right, has_cases, has_handle, size_le, size_same}

never : false ≡ true → ⊥
never e = cc

pub map_both : (f : ℕ → Tree) (xs ys : List ℕ) → map f (xs ++ ys) ≡ map f xs ++ map f ys
map_both f [] ys = refl
map_both f (x ∷ xs) ys = ap (λ zs. f x ∷ zs) (map_both f xs ys)

pub stay_map : (old new : Table) (hs : List ℕ) → AllStay old new hs → map (tree_of new) hs ≡ map (tree_of old) hs
stay_map old new hs s = same_map (tree_of new) (tree_of old) hs (λ j l. (s j l).1)

-- a result fits where its operation didn't refuse
fits_ok : (room need h : ℕ) (r : Result ℕ NodesFull) → r ≡ Ok h → (IsErr r ↔ (room < need)) → need ≤ room
fits_ok room need h r e f = ⊎_elim (λ (l : room < need). absurd (never (subst IsErr e (f.1 l)))) (λ (l : need ≤ room). l) (cases_lt room need)

full_err : (room need : ℕ) (x : NodesFull) (r : Result ℕ NodesFull) → r ≡ Err x → (IsErr r ↔ (room < need)) → room < need
full_err room need x r e f = f.0 (subst IsErr (sym e) refl)

-- the same trees, whatever their order
pub record SameTrees (xs ys : List Tree) : Type 0 where
  pub there : (t : Tree) → Has xs t → Has ys t
  pub back : (t : Tree) → Has ys t → Has xs t

-- before the first row nothing is made
pub none_made : (roots : List ℕ) (t : Table) → AllValid t roots → Made [] roots t t
none_made roots t v = record { room = refl; roots_stay = stay_same t roots v; fit = refl }

-- one more row: an operation whose operands and roots have the trees that are kept beside the row. Its letters are the handles
-- of rows before that stand among the operands or among the roots that it was given
module _ (rows : List Row) (beside : List Tree) (tree : Tree) (operands given roots : List ℕ) (old mid new : Table) (before : Made rows roots old mid)
    (same : SameTrees (map (tree_of mid) (operands ++ given)) (map (tree_of mid) roots ++ beside)) where
  next_need : need_with tree (operands ++ given) mid ≡ row_need (map (tree_of old) roots) (row beside tree)
  next_need =
      size_same (tree ∷ map (tree_of mid) (operands ++ given)) (map (tree_of old) roots ++ (beside ++ tree ∷ [])) there back
    where
      kept : List Tree
      kept = map (tree_of old) roots

      old_kept : map (tree_of mid) roots ≡ map (tree_of old) roots
      old_kept = stay_map old mid roots before.roots_stay

      side : (t : Tree) → Has (map (tree_of mid) roots ++ beside) t → Has (map (tree_of old) roots ++ (beside ++ tree ∷ [])) t
      side t h =
          ⊎_elim (λ k. has_left (map (tree_of old) roots) _ t (subst (λ xs. Has xs t) old_kept k)) (λ k. has_right (map (tree_of old) roots) _ t (has_left beside _ t k))
          (has_cases (map (tree_of mid) roots) beside t h)

      there : (t : Tree) → Has (tree ∷ map (tree_of mid) (operands ++ given)) t → Has (map (tree_of old) roots ++ (beside ++ tree ∷ [])) t
      there t (inl e) = has_right (map (tree_of old) roots) _ t (has_right beside _ t (inl e))
      there t (inr h) = side t (same.there t h)

      back : (t : Tree) → Has (map (tree_of old) roots ++ (beside ++ tree ∷ [])) t → Has (tree ∷ map (tree_of mid) (operands ++ given)) t
      back t h =
          ⊎_elim (λ k. inr (same.back t (has_left (map (tree_of mid) roots) _ t (subst (λ xs. Has xs t) (sym old_kept) k))))
          (λ k. ⊎_elim (λ b. inr (same.back t (has_right (map (tree_of mid) roots) _ t b))) (λ b. ⊎_elim (λ e. inl e) (λ n. absurd n) b) (has_cases beside (tree ∷ []) t k))
          (has_cases (map (tree_of old) roots) (beside ++ tree ∷ []) t h)

  next_stays : AllStay mid new roots → AllStay old new roots
  next_stays s j l = ((s j l).0, (s j l).1 ∙ (before.roots_stay j l).1)

  pub more_made : (h : ℕ) (r : Result ℕ NodesFull) → r ≡ Ok h → Operates tree operands given mid new r → AllStay mid new roots → Made (rows ++ row beside tree ∷ []) roots old new
  more_made h r e o s = record {
    room = o.room ∙ before.room;
    roots_stay = next_stays s;
    fit =
        let n = fits_ok mid.room (need_with tree (operands ++ given) mid) h r e o.full in let m = next_need in let room = before.room in
        rows_then old.room (map (tree_of old) roots) rows (row beside tree) before.fit (omega (arith, n, m, room));
  }

  pub more_full : (x : NodesFull) (r : Result ℕ NodesFull) → r ≡ Err x → Operates tree operands given mid new r → (more : List Row) →
      first_full old.room (map (tree_of old) roots) (rows ++ row beside tree ∷ more) ≡ Some (length rows + 1)
  more_full x r e o more =
      let n = full_err mid.room (need_with tree (operands ++ given) mid) x r e o.full in let m = next_need in let room = before.room in
      rows_stop old.room (map (tree_of old) roots) rows (row beside tree) more before.fit (omega (arith, n, m, room))

-- each operand is a root
abbrev pub AreRoots : List ℕ → List ℕ → Type 0
AreRoots roots [] = Unit {0}
AreRoots roots (h ∷ hs) = Contains roots h × AreRoots roots hs

operand_trees : (f : ℕ → Tree) (roots hs : List ℕ) → AreRoots roots hs → (t : Tree) → Has (map f hs) t → Has (map f roots) t
operand_trees f roots [] r t h = absurd h
operand_trees f roots (x ∷ hs) r t (inl e) = subst (Has (map f roots)) e (has_handle f roots x r.0)
operand_trees f roots (x ∷ hs) r t (inr h) = operand_trees f roots hs r.1 t h

-- operands that are roots
roots_same : (operands roots : List ℕ) (t : Table) → AreRoots roots operands → SameTrees (map (tree_of t) (operands ++ roots)) (map (tree_of t) roots ++ [])
roots_same operands roots t among = record {
  there = λ x h. has_left (map (tree_of t) roots) [] x
      (⊎_elim (λ k. operand_trees (tree_of t) roots operands among x k) (λ k. k) (has_cases (map (tree_of t) operands) (map (tree_of t) roots) x (subst (λ xs. Has xs x) (map_both (tree_of t) operands roots) h)));
  back = λ x h. ⊎_elim (λ k. subst (λ xs. Has xs x) (sym (map_both (tree_of t) operands roots)) (has_right (map (tree_of t) operands) _ x k)) (λ n. absurd n) (has_cases (map (tree_of t) roots) [] x h);
}

module _ (tree : Tree) (operands roots : List ℕ) (old new : Table) (valid : AllValid old roots) (among : AreRoots roots operands) where
  pub one_made : (h : ℕ) (r : Result ℕ NodesFull) → r ≡ Ok h → Operates tree operands roots old new r → Made (row [] tree ∷ []) roots old new
  one_made h r e o = more_made [] [] tree operands roots roots old old new (none_made roots old valid) (roots_same operands roots old among) h r e o o.roots_stay

  -- one operation on roots is one row
  pub one_ok : (h : ℕ) (r : Result ℕ NodesFull) → r ≡ Ok h → Operates tree operands roots old new r → MakesUpdate (one_row tree) roots old new (Ok (record { now = h; next = h }))
  one_ok h r e o =
      let valid : IsValid new h = subst (λ x. IfOk x (λ k. IsValid new k)) e o.valid in
      let is : tree_of new h ≡ tree = subst (λ x. IfOk x (λ k. tree_of new k ≡ tree)) e o.is in record {
        room = o.room;
        shared = o.shared;
        roots_stay = o.roots_stay;
        now = (valid, is);
        next = (valid, is);
        full = (one_made h r e o).fit;
      }

  pub one_full : (x : NodesFull) (f : RowFull) (r : Result ℕ NodesFull) → r ≡ Err x → f.row ≡ 1 → Operates tree operands roots old new r → MakesUpdate (one_row tree) roots old new (Err f)
  one_full x f r e at o = record {
    room = o.room;
    shared = o.shared;
    roots_stay = o.roots_stay;
    now = tt;
    next = tt;
    full = more_full [] [] tree operands roots roots old old new (none_made roots old valid) (roots_same operands roots old among) x r e o [] ∙ ap (λ (n : ℕ). Some n) (omega (arith, at));
  }

-- the leaf zero beside roots
pub leaf_ok : (h : ℕ) (roots : List ℕ) (t : Table) → IsShared t → AllValid t roots → IsValid t h → tree_of t h ≡ Zero → MakesUpdate (one_row Zero) roots t t (Ok (record { now = h; next = h }))
leaf_ok h roots t s v vh e =
    let n : size (tree_of t h ∷ map (tree_of t) roots) ≤ t.room = fits_all t h roots s vh v in
    let less : size (map (tree_of t) roots ++ Zero ∷ []) ≤ size (tree_of t h ∷ map (tree_of t) roots) =
    size_le _ (tree_of t h ∷ map (tree_of t) roots) (λ x k. ⊎_elim (λ i. inr i) (λ j. ⊎_elim (λ z. inl (e ∙ z)) (λ n. absurd n) j) (has_cases (map (tree_of t) roots) (Zero ∷ []) x k)) in record {
      room = refl;
      shared = s;
      roots_stay = stay_same t roots v;
      now = (vh, e);
      next = (vh, e);
      full = rows_then t.room (map (tree_of t) roots) [] (row [] Zero) refl (omega (arith, n, less));
    }

-- a second row over the first one: its operands are the first row and a root, and each of their trees is known
module _ (first tree : Tree) (u v : ℕ) (x : Updated) (roots : List ℕ) (old mid new : Table) (before : MakesUpdate (one_row first) roots old mid (Ok x))
    (left : (u ≡ x.now) ⊎ Contains roots u) (right : (v ≡ x.now) ⊎ Contains roots v) (used : (u ≡ x.now) ⊎ (v ≡ x.now)) where
  first_made : Made (row [] first ∷ []) roots old mid
  first_made = record { room = before.room; roots_stay = before.roots_stay; fit = before.full }

  operand : (h : ℕ) (t : Tree) → (h ≡ x.now) ⊎ Contains roots h → tree_of mid h ≡ t → Has (map (tree_of mid) roots ++ first ∷ []) t
  operand h t (inl e) k = has_right (map (tree_of mid) roots) _ t (inl (sym before.now.1 ∙ ap (tree_of mid) (sym e) ∙ k))
  operand h t (inr c) k = has_left (map (tree_of mid) roots) _ t (subst (Has (map (tree_of mid) roots)) k (has_handle (tree_of mid) roots h c))

  the_first : (t : Tree) → first ≡ t → (u ≡ x.now) ⊎ (v ≡ x.now) → Has (tree_of mid u ∷ (tree_of mid v ∷ map (tree_of mid) roots)) t
  the_first t e (inl k) = inl (ap (tree_of mid) k ∙ before.now.1 ∙ e)
  the_first t e (inr k) = inr (inl (ap (tree_of mid) k ∙ before.now.1 ∙ e))

  two_there : (t : Tree) → Has (tree_of mid u ∷ (tree_of mid v ∷ map (tree_of mid) roots)) t → Has (map (tree_of mid) roots ++ first ∷ []) t
  two_there t (inl e) = operand u t left e
  two_there t (inr (inl e)) = operand v t right e
  two_there t (inr (inr h)) = has_left (map (tree_of mid) roots) _ t h

  two_same : SameTrees (map (tree_of mid) ((u ∷ (v ∷ [])) ++ roots)) (map (tree_of mid) roots ++ first ∷ [])
  two_same = record {
    there = two_there;
    back = λ t h. ⊎_elim (λ k. inr (inr k)) (λ k. ⊎_elim (λ e. the_first t e used) (λ n. absurd n) k) (has_cases (map (tree_of mid) roots) (first ∷ []) t h);
  }

  pub two_ok : (h : ℕ) (r : Result ℕ NodesFull) → r ≡ Ok h → Operates tree (u ∷ (v ∷ [])) roots mid new r →
      MakesUpdate (plain (row [] first ∷ (row (first ∷ []) tree ∷ [])) tree) roots old new (Ok (record { now = h; next = h }))
  two_ok h r e o =
      let made = more_made (row [] first ∷ []) (first ∷ []) tree (u ∷ (v ∷ [])) roots roots old mid new first_made two_same h r e o o.roots_stay in
      let valid : IsValid new h = subst (λ x. IfOk x (λ k. IsValid new k)) e o.valid in
      let is : tree_of new h ≡ tree = subst (λ x. IfOk x (λ k. tree_of new k ≡ tree)) e o.is in record {
        room = made.room;
        shared = o.shared;
        roots_stay = made.roots_stay;
        now = (valid, is);
        next = (valid, is);
        full = made.fit;
      }

  pub two_full : (y : NodesFull) (f : RowFull) (r : Result ℕ NodesFull) → r ≡ Err y → f.row ≡ 2 → Operates tree (u ∷ (v ∷ [])) roots mid new r →
      MakesUpdate (plain (row [] first ∷ (row (first ∷ []) tree ∷ [])) tree) roots old new (Err f)
  two_full y f r e at o = record {
    room = o.room ∙ before.room;
    shared = o.shared;
    roots_stay = λ j l. ((o.roots_stay j l).0, (o.roots_stay j l).1 ∙ (before.roots_stay j l).1);
    now = tt;
    next = tt;
    full = more_full (row [] first ∷ []) (first ∷ []) tree (u ∷ (v ∷ [])) roots roots old mid new first_made two_same y r e o [] ∙ ap (λ (n : ℕ). Some n) (omega (arith, at));
  }

-- a first row that is refused is that of both
pub first_stops : (first tree : Tree) (roots : List ℕ) (old mid : Table) (f : RowFull) → MakesUpdate (one_row first) roots old mid (Err f) →
    MakesUpdate (plain (row [] first ∷ (row (first ∷ []) tree ∷ [])) tree) roots old mid (Err f)
first_stops first tree roots old mid f m = record {
  room = m.room;
  shared = m.shared;
  roots_stay = m.roots_stay;
  now = tt;
  next = tt;
  full = rows_stopped old.room (map (tree_of old) roots) (row [] first ∷ []) (row (first ∷ []) tree ∷ []) f.row m.full;
}

-- a root keeps its tree
pub root_stays : (old new : Table) (roots : List ℕ) (h : ℕ) → AllStay old new roots → Contains roots h → tree_of new h ≡ tree_of old h
root_stays old new roots h s (k, l, e) = stay_at roots s k l e
  where
    stay_at : (hs : List ℕ) → AllStay old new hs → (k : ℕ) → k < length hs → slice_index_or hs k h ≡ h → tree_of new h ≡ tree_of old h
    stay_at [] s k l e = absurd (omega (arith, l))
    stay_at (x ∷ hs) s zero l e = subst (λ (y : ℕ). tree_of new y ≡ tree_of old y) e (s 0 (omega arith)).1
    stay_at (x ∷ hs) s (suc k) l e = stay_at hs (λ j m. s (suc j) (omega (arith, m))) k (omega (arith, l)) e

-- an operation whose tree a valid handle has: nothing changes, and what stands in the table fits in it
pub known_ok : (tree : Tree) (u v : ℕ) (roots : List ℕ) (t : Table) (h : ℕ) → IsShared t → IsValid t u → IsValid t v → AllValid t roots → IsValid t h × (tree_of t h ≡ tree) →
    Operates tree (u ∷ (v ∷ [])) roots t t (Ok h)
known_ok tree u v roots t h s vu vv vr known =
    first_ok tree (u ∷ (v ∷ [])) roots t t h (both_valid t u v vu vv) vr (made_ok t t tree h known.0 known.1 (grows_none t tree s))

-- a negation is an operation whose first operand is the leaf one
pub negates : (u h : ℕ) (roots : List ℕ) (t new : Table) (r : Result ℕ NodesFull) → tree_of t u ≡ One → Operates (op_tree AndNot t u h) (u ∷ (h ∷ [])) roots t new r →
    Operates (map_leaves not (tree_of t h)) (h ∷ []) roots t new r
negates u h roots t new r e o = record {
  room = o.room;
  shared = o.shared;
  valid = o.valid;
  is = subst (λ x. IfOk r (λ k. tree_of new k ≡ apply_tree (truth_of AndNot) x (tree_of t h))) e o.is;
  ordered = o.ordered;
  reduced = o.reduced;
  operands_stay = λ j l. o.operands_stay (suc j) (omega (arith, l));
  roots_stay = o.roots_stay;
  full = subst (λ x. IsErr r ↔ (t.room < size (apply_tree (truth_of AndNot) x (tree_of t h) ∷ (x ∷ map (tree_of t) (h ∷ roots))))) e o.full;
}

-- an operation on two handles whose trees are known
pub of_trees : (op : Op) (u v : ℕ) (p q : Tree) (roots : List ℕ) (mid new : Table) (r : Result ℕ NodesFull) → tree_of mid u ≡ p → tree_of mid v ≡ q →
    Operates (op_tree op mid u v) (u ∷ (v ∷ [])) roots mid new r → Operates (apply_tree (truth_of op) p q) (u ∷ (v ∷ [])) roots mid new r
of_trees op u v p q roots mid new r a b o =
    subst (λ x. Operates (apply_tree (truth_of op) p x) (u ∷ (v ∷ [])) roots mid new r) b (subst (λ x. Operates (apply_tree (truth_of op) x (tree_of mid v)) (u ∷ (v ∷ [])) roots mid new r) a o)
