-- The memo of an operation that takes a level out, beside that of the operations on two trees.
use Rattle.std.proofs.Common.{◌≡◌, ◌≢◌, ◌⊎◌, ℕ, ◌+◌, ◌<◌, ◌≤◌, List, [], length, cond, refl, ap, sym, ◌∙◌, arith, subst, inl, inr}
use Rattle.std.specs.Prelude.{true, false, Some, None}
use Rattle.node_tree.specs.Tree.{Tree, depth}
use Rattle.node_table.specs.Table.{Table, tree_of, IsValid, KeepsTrees}
use Rattle.op_cache.specs.declared.key.Place.{Place}
use Rattle.op_cache.specs.Keys.{same_place}
use Rattle.op_cache.specs.Memo.{Memo, result_at, Adds}
use Rattle.bdd_ops.specs.declared.op.Op.{Op}
use Rattle.bdd_ops.specs.declared.level.Merge.{Merge}
use Rattle.bdd_ops.specs.declared.level.Merge.TheVariants.{Low, High, Either, Both}
use Rattle.bdd_ops.specs.Numbers.{number_of}
use Rattle.bdd_ops.specs.Parts.{IsBranch}
use Rattle.bdd_ops.specs.Applied.{LeavesOthers, Costs, depths}
use Rattle.bdd_ops.specs.Level.{merge_number, HoldsTrees, LeavesRest}
use Rattle.bdd_ops.proofs.Memo.{same, op_below}

-- ---- numbers

pub merge_above : (k : Merge) → 5 ≤ merge_number k
merge_above Low = omega arith
merge_above High = omega arith
merge_above Either = omega arith
merge_above Both = omega arith

pub numbers_differ : (k : Merge) (op : Op) → merge_number k ≢ number_of op
numbers_differ k op e = let a = op_below op in let b = merge_above k in omega (arith, a, b, e)

abbrev pub at_one : ℕ → ℕ → Place
at_one n h = record { op = n; left = h; right = h }

-- ---- results

pub remembers_none : (f : Tree → Tree) (n : ℕ) (t : Table) → HoldsTrees f n t []
remembers_none f n t = record { each = λ u v k e. (let x : None ≡ Some k = e in absurd (none_some k x)) }
  where
    none_some : (k : ℕ) → None ≡ Some k → ⊥
    none_some k e = cc

-- where the number's pairs are as before, in a table that keeps its trees
pub remembers_kept : (f : Tree → Tree) (n : ℕ) (t w : Table) (old new : List (Place × ℕ)) → KeepsTrees t w → ((q : Place) → q.op ≡ n → result_at new q ≡ result_at old q) → HoldsTrees f n t
    old → HoldsTrees f n w new
remembers_kept f n t w old new k same_pairs s = record {
  each = λ u v h e.
      (let x = s.each u v h (sym (same_pairs (record { op = n; left = u; right = v }) refl) ∙ e) in
      let a = k.trees u x.1 in let b = k.trees h x.3 in
      (x.0, a.0, subst IsBranch (sym a.1) x.2, b.0, b.1 ∙ x.4 ∙ sym (ap f a.1)));
}

pub remembers_added : (f : Tree → Tree) (n : ℕ) (t : Table) (old new : List (Place × ℕ)) (u h : ℕ) → HoldsTrees f n t old → IsValid t u → IsBranch (tree_of t u) → IsValid t h → tree_of t h ≡
    f (tree_of t u) → Adds old (at_one n u) h new → HoldsTrees f n t new
remembers_added f n t old new u h s vu bu vh e adds = record {
  each = λ a b k p.
      elim (same_place (at_one n u) (record { op = n; left = a; right = b })) as (λ x. same_place (at_one n u) (record { op = n; left = a; right = b }) ≡ x → cond x (Some h) (result_at old
      (record { op = n; left = a; right = b })) ≡ Some k
      → (a ≡ b) × IsValid t a × IsBranch (tree_of t a) × IsValid t k × (tree_of t k ≡ f (tree_of t a))) [
        | true ↦ λ i p.
            let one = same (at_one n u) (record { op = n; left = a; right = b }) i in
            let ua : u ≡ a = ap (λ (q : Place). q.left) one in let ub : u ≡ b = ap (λ (q : Place). q.right) one in
            let hk : h ≡ k = cc in
            (sym ua ∙ ub, subst (IsValid t) ua vu, subst (λ x. IsBranch (tree_of t x)) ua bu, subst (IsValid t) hk vh, ap (tree_of t) (sym hk) ∙ e ∙ ap (λ x. f (tree_of t x)) ua)
        | false ↦ λ i p. s.each a b k p
      ] refl (sym (adds.results (record { op = n; left = a; right = b })) ∙ p);
}

-- ---- what stays

pub rest_same : (t : Table) (pairs : List (Place × ℕ)) (a b u v : ℕ) → LeavesRest t pairs pairs a b u v
rest_same t pairs a b u v = record { other_op = λ q m n. refl; deeper = λ q i j d. refl }

pub rest_wider : (t : Table) (old new : List (Place × ℕ)) (a n u v : ℕ) → LeavesRest t old new n n u v → LeavesRest t old new a n u v
rest_wider t old new a n u v o = record { other_op = λ q i j. o.other_op q j j; deeper = o.deeper }

pub rest_chained : (t : Table) (x y z : List (Place × ℕ)) (a b u v : ℕ) → LeavesRest t x y a b u v → LeavesRest t y z a b u v → LeavesRest t x z a b u v
rest_chained t x y z a b u v p q = record { other_op = λ k m n. q.other_op k m n ∙ p.other_op k m n; deeper = λ k i j d. q.deeper k i j d ∙ p.deeper k i j d }

pub rest_below : (s t : Table) (x y : List (Place × ℕ)) (a b u v k l : ℕ) → KeepsTrees t s → IsValid t k → IsValid t l → depths t k l < depths t u v → LeavesRest s x y a b k l → LeavesRest t
    x y a b u v
rest_below s t x y a b u v k l keeps vk vl less r = record {
  other_op = r.other_op;
  deeper = λ q i j d.
      (let y = keeps.trees q.left i in let z = keeps.trees q.right j in
      let e = ap depth (keeps.trees k vk).1 in let f = ap depth (keeps.trees l vl).1 in
      let g = ap depth y.1 in let h = ap depth z.1 in
      r.deeper q y.0 z.0 (omega (arith, e, f, g, h, d, less)));
}

pub rest_added : (t : Table) (x y : List (Place × ℕ)) (n b u h : ℕ) → Adds x (at_one n u) h y → LeavesRest t x y n b u u
rest_added t x y n b u h adds = record {
  other_op = λ q i j. adds.results q ∙ elim (same_place (at_one n u) q) as (λ z. same_place (at_one n u) q ≡ z → cond z (Some h) (result_at x q) ≡ result_at x q)
      [ true ↦ λ e. absurd (i (sym (ap (λ (p : Place). p.op) (same (at_one n u) q e)))) | false ↦ λ e. refl ] refl;
  deeper = λ q i j d. adds.results q ∙ elim (same_place (at_one n u) q) as (λ z. same_place (at_one n u) q ≡ z → cond z (Some h) (result_at x q) ≡ result_at x q) [
    | true ↦ λ e.
        let one = same (at_one n u) q e in
        let ol = ap (λ (p : Place). depth (tree_of t p.left)) one in let or = ap (λ (p : Place). depth (tree_of t p.right)) one in
        absurd (omega (arith, ol, or, d))
    | false ↦ λ e. refl
  ] refl;
}

-- ---- steps, of which the first is spent on the handle itself

pub level_low : (m n : Memo ℕ) (s q k r d whole : ℕ) → q ≡ s + 1 → Costs m n (q + 1) k r → r ≤ d → d < whole → Costs m n (s + 1) k whole
level_low m n s q k r d whole e c le less = record { entries = c.entries; grows = c.grows; steps = λ l. (let x = c.steps l in omega (arith, x, e, le, less)) }

pub level_both : (m n o : Memo ℕ) (s q k j r : ℕ) → q ≡ s + 1 → Costs m n (q + 1) k 0 → Costs n o (k + 1) j r → Costs m o (s + 3) j r
level_both m n o s q k j r e a b = record {
  entries = b.entries ∙ a.entries;
  grows = (let x = a.grows in let y = b.grows in omega (arith, x, y));
  steps = λ l.
      (let y = b.grows in let i = b.entries in
      let p = a.steps (omega (arith, y, i, l)) in let z = b.steps l in omega (arith, p, z, e));
}

pub level_high : (m o : Memo ℕ) (s j r d whole : ℕ) → Costs m o (s + 3) j r → r ≤ d → d < whole → Costs m o (s + 1) j whole
level_high m o s j r d whole c le less = record { entries = c.entries; grows = c.grows; steps = λ l. (let x = c.steps l in omega (arith, x, le, less)) }

pub level_stored : (m o p : Memo ℕ) (s j h : ℕ) (q : Place) → Costs m o (s + 3) j 0 → p.entries ≡ o.entries → (Adds o.pairs q h p.pairs ⊎ ((p ≡ o) × (length o.pairs ≡ o.entries))) → Costs m
    p (s + 1) j 0
level_stored m o p s j h q c e (inl a) = record {
  entries = e ∙ c.entries;
  grows = (let x = c.grows in let n = a.count in omega (arith, x, n));
  steps = λ l. (let n = a.count in let x = c.steps (omega (arith, n, e, l)) in omega (arith, x, n));
}
level_stored m o p s j h q c e (inr b) =
    let n : length p.pairs ≡ length o.pairs = ap (λ (x : Memo ℕ). length x.pairs) b.0 in
    record {
      entries = e ∙ c.entries;
      grows = (let x = c.grows in omega (arith, x, n));
      steps = λ l. absurd (let f = b.1 in omega (arith, n, f, e, l));
    }

pub costs_wider : (m n : Memo ℕ) (s k x y : ℕ) → Costs m n s k x → x ≤ y → Costs m n s k y
costs_wider m n s k x y c le = record { entries = c.entries; grows = c.grows; steps = λ l. (let z = c.steps l in omega (arith, z, le)) }
