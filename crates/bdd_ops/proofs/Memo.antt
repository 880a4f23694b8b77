-- What a memo of operations keeps, and what its steps are counted by.
use Rattle.std.proofs.Common.{◌≡◌, ◌⊎◌, ℕ, ◌+◌, ◌<◌, ◌≤◌, List, [], length, cond, refl, ap, sym, ◌∙◌, arith, subst, inl, inr}
use Rattle.std.specs.Prelude.{Bool, true, false, ◌==◌, ◌↔◌, Some, None}
use Rattle.node_tree.specs.Tree.{depth}
use Rattle.node_table.specs.Table.{Table, tree_of, IsValid, KeepsTrees}
use Rattle.op_cache.specs.declared.key.Place.{Place}
use Rattle.op_cache.specs.Keys.{same_place}
use Rattle.op_cache.specs.Memo.{Memo, result_at, Adds}
use Rattle.op_cache.proofs.Places.{Decides-place}
use Rattle.bdd_ops.specs.declared.op.Op.{Op}
use Rattle.bdd_ops.specs.declared.op.Op.TheVariants.{And, Or, AndNot, Implies, Iff}
use Rattle.bdd_ops.specs.Apply.{apply_tree}
use Rattle.bdd_ops.specs.Numbers.{truth_of, number_of, place}
use Rattle.bdd_ops.specs.Applied.{HoldsResults, LeavesOthers, Costs, op_tree, depths}

-- ---- places

pub same : (p q : Place) → same_place p q ≡ true → p ≡ q
same p q e = (Decides-place p q).0 e

op_at : ℕ → Op
op_at n = cond (n == 0) And (cond (n == 1) Or (cond (n == 2) AndNot (cond (n == 3) Implies Iff)))

op_back : (o : Op) → op_at (number_of o) ≡ o
unfolding op_at
op_back And = refl
op_back Or = refl
op_back AndNot = refl
op_back Implies = refl
op_back Iff = refl

pub same_op : (a b : Op) → number_of a ≡ number_of b → a ≡ b
same_op a b e = sym (op_back a) ∙ ap op_at e ∙ op_back b

-- ---- results

pub sound_kept : (t u : Table) (pairs : List (Place × ℕ)) → KeepsTrees t u → HoldsResults t pairs → HoldsResults u pairs
sound_kept t u pairs k s = record {
  each = λ op l r h e.
      (let x = s.each op l r h e in
      let a = k.trees l x.0 in let b = k.trees r x.1 in let c = k.trees h x.2 in
      (a.0, b.0, c.0, c.1 ∙ x.3 ∙ sym (ap (λ y. apply_tree (truth_of op) y (tree_of u r)) a.1 ∙ ap (λ y. apply_tree (truth_of op) (tree_of t l) y) b.1)));
}

pub sound_added : (t : Table) (old new : List (Place × ℕ)) (op : Op) (u v h : ℕ) → HoldsResults t old → IsValid t u → IsValid t v → IsValid t h → tree_of t h ≡ op_tree op t u v → Adds old (place
    op u v) h new → HoldsResults t new
sound_added t old new op u v h s a b c e adds = record {
  each = λ o l r k p.
      elim (same_place (place op u v) (place o l r)) as (λ b. same_place (place op u v) (place o l r) ≡ b → cond b (Some h) (result_at old (place o l r)) ≡ Some k
      → IsValid t l × IsValid t r × IsValid t k × (tree_of t k ≡ op_tree o t l r)) [
        | true ↦ λ i p.
            let one = same (place op u v) (place o l r) i in
            let ol : u ≡ l = ap (λ (p : Place). p.left) one in let or : v ≡ r = ap (λ (p : Place). p.right) one in
            let oo : op ≡ o = same_op op o (ap (λ (p : Place). p.op) one) in
            let ok : h ≡ k = cc in (
              subst (IsValid t) ol a,
              subst (IsValid t) or b,
              subst (IsValid t) ok c,
              ap (tree_of t) (sym ok) ∙ e ∙ ap (λ x. op_tree x t u v) oo ∙ ap (λ x. op_tree o t x v) ol ∙ ap (λ x. op_tree o t l x) or,
            )
        | false ↦ λ i p. s.each o l r k p
      ] refl (sym (adds.results (place o l r)) ∙ p);
}

pub op_below : (op : Op) → number_of op < 5
op_below And = omega arith
op_below Or = omega arith
op_below AndNot = omega arith
op_below Implies = omega arith
op_below Iff = omega arith

-- a pair of another number leaves the operations' results
pub sound_other : (t : Table) (old new : List (Place × ℕ)) (p : Place) (h : ℕ) → 5 ≤ p.op → HoldsResults t old → Adds old p h new → HoldsResults t new
sound_other t old new p h above s adds = record {
  each = λ op a b r e. s.each op a b r (sym (elsewhere op a b) ∙ e);
}
  where
    elsewhere : (op : Op) (a b : ℕ) → result_at new (place op a b) ≡ result_at old (place op a b)
    elsewhere op a b =
        adds.results (place op a b) ∙ elim (same_place p (place op a b)) as (λ x. same_place p (place op a b) ≡ x → cond x (Some h) (result_at old (place op a b)) ≡ result_at old (place op a b))
        [ true ↦ λ i. absurd (let e = ap (λ (q : Place). q.op) (same p (place op a b) i) in let l = op_below op in omega (arith, above, e, l)) | false ↦ λ i. refl ] refl

pub others_same : (t : Table) (pairs : List (Place × ℕ)) (op u v : ℕ) → LeavesOthers t pairs pairs op u v
others_same t pairs op u v = record { other_op = λ q n. refl; deeper = λ q a b d. refl }

pub others_chained : (t : Table) (a b c : List (Place × ℕ)) (op u v : ℕ) → LeavesOthers t a b op u v → LeavesOthers t b c op u v → LeavesOthers t a c op u v
others_chained t a b c op u v x y = record { other_op = λ q n. y.other_op q n ∙ x.other_op q n; deeper = λ q i j d. y.deeper q i j d ∙ x.deeper q i j d }

-- a call on trees that are less deep, in a table that kept its trees
pub others_below : (s t : Table) (a b : List (Place × ℕ)) (op u v k l : ℕ) → KeepsTrees t s → IsValid t k → IsValid t l → depths t k l < depths t u v → LeavesOthers s a b op k l →
    LeavesOthers t a b op u v
others_below s t a b op u v k l keeps vk vl less x = record {
  other_op = x.other_op;
  deeper = λ q i j d.
      (let y = keeps.trees q.left i in let z = keeps.trees q.right j in
      let e = ap depth (keeps.trees k vk).1 in let f = ap depth (keeps.trees l vl).1 in
      let g = ap depth y.1 in let h = ap depth z.1 in
      x.deeper q y.0 z.0 (omega (arith, e, f, g, h, d, less)));
}

pub others_added : (t : Table) (a b : List (Place × ℕ)) (op u v h : ℕ) → Adds a (record { op = op; left = u; right = v }) h b → LeavesOthers t a b op u v
others_added t a b op u v h adds =
    let here : Place = record { op = op; left = u; right = v } in
    record {
      other_op = λ q n. adds.results q ∙ elim (same_place here q) as (λ b. same_place here q ≡ b → cond b (Some h) (result_at a q) ≡ result_at a q)
          [ true ↦ λ i. absurd (n (sym (ap (λ (p : Place). p.op) (same here q i)))) | false ↦ λ i. refl ] refl;
      deeper = λ q x y d. adds.results q ∙ elim (same_place here q) as (λ b. same_place here q ≡ b → cond b (Some h) (result_at a q) ≡ result_at a q) [
        | true ↦ λ i.
            let one = same here q i in
            let ol = ap (λ (p : Place). depth (tree_of t p.left)) one in let or = ap (λ (p : Place). depth (tree_of t p.right)) one in
            absurd (omega (arith, ol, or, d))
        | false ↦ λ i. refl
      ] refl;
    }

-- what a call of `store` left: the pair is added, or nothing changed since the memo holds all that it can
pub stored_cases : (r : Bool) (old new : Memo ℕ) (p : Place) (h : ℕ) → ((r ≡ false) ↔ (length old.pairs ≡ old.entries)) → (r ≡ true → Adds old.pairs p h new.pairs) → (r ≡ false → new ≡ old) →
    Adds old.pairs p h new.pairs ⊎ ((new ≡ old) × (length old.pairs ≡ old.entries))
stored_cases true old new p h full a b = inl (a refl)
stored_cases false old new p h full a b = inr (b refl, full.0 refl)

-- what a call of `store` left, of another number
pub sound_stored : (t : Table) (old new : Memo ℕ) (p : Place) (h : ℕ) (r : Bool) → 5 ≤ p.op → HoldsResults t old.pairs → (r ≡ true → Adds old.pairs p h new.pairs) → (r ≡ false → new ≡ old) →
    HoldsResults t new.pairs
sound_stored t old new p h true above s a b = sound_other t old.pairs new.pairs p h above s (a refl)
sound_stored t old new p h false above s a b = subst (λ (m : Memo ℕ). HoldsResults t m.pairs) (sym (b refl)) s

-- ---- steps

pub costs_none : (m : Memo ℕ) (s n : ℕ) → Costs m m s s n
costs_none m s n = record { entries = refl; grows = omega arith; steps = λ l. omega arith }

-- two steps and a part that was dropped
pub costs_part : (m n : Memo ℕ) (s k r d whole : ℕ) → Costs m n (s + 2) k r → r ≤ d → d < whole → Costs m n s k whole
costs_part m n s k r d whole c le less = record { entries = c.entries; grows = c.grows; steps = λ l. (let x = c.steps l in omega (arith, x, le, less)) }

-- a part that was made, and another
pub costs_chained : (m n o : Memo ℕ) (s k j r : ℕ) → Costs m n s k 0 → Costs n o k j r → Costs m o s j r
costs_chained m n o s k j r a b = record {
  entries = b.entries ∙ a.entries;
  grows = (let x = a.grows in let y = b.grows in omega (arith, x, y));
  steps = λ l.
      (let x = a.grows in let y = b.grows in let e = b.entries in
      let p = a.steps (omega (arith, y, e, l)) in let q = b.steps l in omega (arith, p, q));
}

-- what was dropped after both parts
pub costs_dropped : (m o : Memo ℕ) (s j whole : ℕ) → Costs m o (s + 2) j 0 → 0 < whole → Costs m o s j whole
costs_dropped m o s j whole c some = record { entries = c.entries; grows = c.grows; steps = λ l. (let x = c.steps l in omega (arith, x, some)) }

-- both parts, and the pair of the whole
pub costs_stored : (m o p : Memo ℕ) (s j h : ℕ) (q : Place) → Costs m o (s + 2) j 0 → p.entries ≡ o.entries → (Adds o.pairs q h p.pairs ⊎ ((p ≡ o) × (length o.pairs ≡ o.entries))) → Costs m p s j 0
costs_stored m o p s j h q c e (inl a) = record {
  entries = e ∙ c.entries;
  grows = (let x = c.grows in let n = a.count in omega (arith, x, n));
  steps = λ l. (let n = a.count in let x = c.steps (omega (arith, n, e, l)) in omega (arith, x, n));
}
costs_stored m o p s j h q c e (inr b) =
    let n : length p.pairs ≡ length o.pairs = ap (λ (x : Memo ℕ). length x.pairs) b.0 in
    record {
      entries = e ∙ c.entries;
      grows = (let x = c.grows in omega (arith, x, n));
      steps = λ l. absurd (let f = b.1 in omega (arith, n, f, e, l));
    }

pub sound_empty : (t : Table) → HoldsResults t []
sound_empty t = record { each = λ op u v h e. (let x : None ≡ Some h = e in absurd (none_some h x)) }
  where
    none_some : (h : ℕ) → None ≡ Some h → ⊥
    none_some h e = cc
