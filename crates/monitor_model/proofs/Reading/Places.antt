-- The remembered trees of a monitor as a list are those of its temporal subformulas, in order.
use Rattle.std.proofs.Common.{◌≡◌, ℕ, zero, suc, ◌+◌, ◌-◌, ◌<◌, ◌≤◌, refl, sym, ap, ◌∙◌, subst, arith, List, [], ◌∷◌, length, map, take, Bool, true, false, Some, IsTrue}
use Rattle.std.specs.Prelude.{if◌then◌else◌, IsSomeAnd, slice_get, slice_index_or}
use Rattle.std.proofs.lemmas.List.Sums.{sum_by-cons}
use Rattle.std.proofs.lemmas.List.{get_or-take, length-map, length-take-le, take-map}
use Rattle.subformulas.specs.Memory.{is_temporal}
use Rattle.subformulas.specs.declared.table.Sub.{Sub}
use Rattle.subformulas.proofs.Unfold.{by_some}
use Rattle.node_tree.specs.Tree.{Tree, Zero}
use Rattle.node_table.specs.Table.{tree_of}
use Rattle.monitor_model.specs.Rows.{of_temporal}
use Rattle.monitor_model.specs.State.{State, temporal_count, kept, memory_of, remembered, tree_number}

-- a temporal subformula is one more
pub count_yes : (u : Sub) (subs : List Sub) → is_temporal u.kind ≡ true →
    temporal_count (u ∷ subs) ≡ suc (temporal_count subs)
count_yes u subs e =
    let c = sum_by-cons (λ (z : Sub). if is_temporal z.kind then 1 else 0) u subs in
    let d = ap (λ b. (if b then 1 else 0) + temporal_count subs) e in
    omega (arith, c, d)

-- and another one is not
pub count_no : (u : Sub) (subs : List Sub) → is_temporal u.kind ≡ false →
    temporal_count (u ∷ subs) ≡ temporal_count subs
count_no u subs e =
    let c = sum_by-cons (λ (z : Sub). if is_temporal z.kind then 1 else 0) u subs in
    let d = ap (λ b. (if b then 1 else 0) + temporal_count subs) e in
    omega (arith, c, d)

-- the place of a temporal subformula is one of those of the remembered trees
pub place_below : (subs : List Sub) (k : ℕ) (u : Sub) → slice_get subs k ≡ Some u →
    IsTrue (is_temporal u.kind) → temporal_count (take k subs) < temporal_count subs
place_below [] k u g t = absurd (let none : ⊥ = cc in none)
place_below (r ∷ subs) zero u g t =
    let same : r ≡ u = cc in
    let yes : is_temporal r.kind ≡ true =
    subst (λ (z : Sub). is_temporal z.kind ≡ true) (sym same) t in
    let c = count_yes r subs yes in
    omega (arith, c)
place_below (r ∷ subs) (suc k) u g t =
    by_test (is_temporal r.kind) refl (place_below subs k u g t)
  where
    by_test : (b : Bool) → is_temporal r.kind ≡ b →
        temporal_count (take k subs) < temporal_count subs →
        temporal_count (r ∷ take k subs) < temporal_count (r ∷ subs)
    by_test true e h =
        let c = count_yes r subs e in
        let d = count_yes r (take k subs) e in
        omega (arith, c, d, h)
    by_test false e h =
        let c = count_no r subs e in
        let d = count_no r (take k subs) e in
        omega (arith, c, d, h)

-- the tree of each temporal subformula stands at its place
abbrev AreInOrder : (ℕ → Tree) → ℕ → List Sub → List Tree → Type 0
AreInOrder memory n subs ts =
    (j : ℕ) → IsSomeAnd (slice_get subs j) (λ u. IsTrue (is_temporal u.kind)) →
    memory (n + j) ≡ slice_index_or ts (temporal_count (take j subs)) Zero

-- a list of as many trees as there are temporal subformulas, in order, is that of their trees
pub in_order : (memory : ℕ → Tree) (n : ℕ) (subs : List Sub) (ts : List Tree) →
    length ts ≡ temporal_count subs → AreInOrder memory n subs ts → of_temporal memory n subs ≡ ts
in_order memory n [] [] l h = refl
in_order memory n [] (t ∷ ts) l h = absurd (omega (arith, l))
in_order memory n (u ∷ subs) ts l h =
    by_test (λ us a f. in_order memory (n + 1) subs us a f) (is_temporal u.kind) refl ts l h
  where
    next : (j : ℕ) → n + 1 + j ≡ n + suc j
    next j = omega arith

    by_test : ((us : List Tree) → length us ≡ temporal_count subs →
        AreInOrder memory (n + 1) subs us → of_temporal memory (n + 1) subs ≡ us) → (b : Bool) →
        is_temporal u.kind ≡ b → (ts : List Tree) → length ts ≡ temporal_count (u ∷ subs) →
        AreInOrder memory n (u ∷ subs) ts →
        (if b then memory n ∷ of_temporal memory (n + 1) subs
        else of_temporal memory (n + 1) subs) ≡ ts
    by_test go true e [] l h = absurd (let c = count_yes u subs e in omega (arith, l, c))
    by_test go true e (t ∷ ts) l h =
        let c = count_yes u subs e in
        let z : n ≡ n + 0 = omega arith in
        let first : memory n ≡ t = ap memory z ∙ h 0 e in
        let rest = go ts (omega (arith, l, c)) (λ j p.
        ap memory (next j) ∙ (h (suc j) p
        ∙ ap (λ (i : ℕ). slice_index_or (t ∷ ts) i Zero) (count_yes u (take j subs) e))) in
        ap (λ v. v ∷ of_temporal memory (n + 1) subs) first ∙ ap (λ us. t ∷ us) rest
    by_test go false e ts l h =
        go ts (l ∙ count_no u subs e) (λ j p.
        ap memory (next j) ∙ (h (suc j) p
        ∙ ap (λ (i : ℕ). slice_index_or ts i Zero) (count_no u (take j subs) e)))

-- so are the trees of the first handles of a monitor
pub trees_remembered : (m : State) → kept m ≤ length m.handles →
    of_temporal (memory_of m) 1 m.plan.subs ≡ remembered m
trees_remembered m l =
    in_order (memory_of m) 1 m.plan.subs (remembered m)
    (length-map (take (kept m) m.handles) (tree_of m.shelf.table)
    ∙ length-take-le (kept m) m.handles l) at
  where
    at : (j : ℕ) → IsSomeAnd (slice_get m.plan.subs j) (λ u. IsTrue (is_temporal u.kind)) →
        memory_of m (1 + j) ≡
        slice_index_or (remembered m) (temporal_count (take j m.plan.subs)) Zero
    at j p =
        let z : 1 + j - 1 ≡ j = omega arith in
        let (u, g, t) = by_some _ _ p in
        let place = temporal_count (take j m.plan.subs) in
        let trees = map (tree_of m.shelf.table) m.handles in
        ap (λ (i : ℕ). tree_number m (temporal_count (take i m.plan.subs))) z
        ∙ (sym (get_or-take (kept m) trees place Zero (place_below m.plan.subs j u g t))
        ∙ ap (λ ts. slice_index_or ts place Zero)
        (take-map (tree_of m.shelf.table) (kept m) m.handles))
