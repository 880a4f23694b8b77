-- What a try of an operation that takes a level out costs at most.
use Rattle.std.proofs.Common.{◌≡◌, ◌⊎◌, ℕ, zero, suc, ◌+◌, ◌*◌, ◌<◌, ◌≤◌, List, [], ◌∷◌, ◌++◌, length, refl, ap, sym, ◌∙◌, arith, subst, ⊎_elim, inl, inr}
use Rattle.std.specs.Prelude.{Bool, true, false, ◌||◌, nat_eq, Option, Some, None, Result}
use Rattle.std.specs.Option.{is_some}
use Rattle.std.specs.Set.{is_member}
use Rattle.std.specs.Map.{keys_of}
use Rattle.std.specs.List.{list_any}
use Rattle.std.proofs.lemmas.Bool.{or_cases, cases_lt}
use Rattle.std.proofs.lemmas.Bool.Decides.{Decides-eqb}
use Rattle.std.proofs.Math.Nat.{mul-le-mul_left}
use Rattle.std.proofs.lemmas.List.{length-append}
use Rattle.std.proofs.lemmas.List.Folds.{list_any-append}
use Rattle.std.proofs.lemmas.Map.Made.{length-le_from_is_member, is_some-lookup}
use Rattle.node_tree.specs.Tree.{Tree, depth}
use Rattle.node_table.specs.declared.node.Node.{Node}
use Rattle.node_table.specs.declared.table.Full.{Full}
use Rattle.node_table.specs.Table.{Table, node_at, tree_of, IsValid, numbers, IsShared}
use Rattle.node_table.proofs.Sharing.{within}
use Rattle.op_cache.specs.declared.key.Place.{Place}
use Rattle.op_cache.specs.Keys.{same_place}
use Rattle.op_cache.specs.Memo.{Memo, result_at, IsMemo}
use Rattle.op_cache.proofs.Places.{places_laws}
use Rattle.bdd_ops.specs.declared.level.Merge.{Merge}
use Rattle.bdd_ops.specs.Numbers.{number_of}
use Rattle.bdd_ops.specs.Parts.{IsBranch}
use Rattle.bdd_ops.specs.Applied.{HoldsResults, depths, unfinished}
use Rattle.bdd_ops.specs.Level.{at_level, merged, merge_number, inner, HoldsTrees, LeavesRest, Changes}
use Rattle.bdd_ops.specs.Shelf.{handle_pairs, try_steps}
use Rattle.bdd_ops.proofs.Stages.{unfinished-le}
use Rattle.bdd_ops.proofs.Rest.{at_one}
use Rattle.bdd_ops.proofs.Bounds.{left_or, right_or, handles, has_number, handles-length, grid, grid-length, keys-length, place_in_grid, squares, depth-le}

-- each number twice
twice : ℕ → List ℕ → List Place
twice n [] = []
twice n (u ∷ us) = at_one n u ∷ twice n us

twice-length : (n : ℕ) (us : List ℕ) → length (twice n us) ≡ length us
unfolding twice
twice-length n [] = refl
twice-length n (u ∷ us) = (let h = twice-length n us in omega (arith, h))

in_twice : (n u : ℕ) (us : List ℕ) → is_member nat_eq us u ≡ true → is_member same_place (twice n us) (at_one n u) ≡ true
unfolding twice
in_twice n u [] m = absurd (let x : false ≡ true = m in cc)
in_twice n u (v ∷ vs) m =
    ⊎_elim (λ e. left_or _ _ (ap (λ x. same_place (at_one n u) (at_one n x)) (sym ((Decides-eqb u v).0 e)) ∙ places_laws.refl (at_one n u))) (λ e. right_or _ _ (in_twice n u vs e)) (or_cases _ _ m)

-- a node's number is among those that have one
has_node : (t : Table) (h : ℕ) → IsShared t → IsValid t h → IsBranch (tree_of t h) → is_member nat_eq (numbers t) h ≡ true
has_node t zero sh v b = absurd (subst IsBranch sh.zero.1 b)
has_node t (suc zero) sh v b = absurd (subst IsBranch sh.one.1 b)
has_node t (suc (suc k)) sh v b = node (node_at t (suc (suc k))) refl v
  where
    node : (o : Option Node) → node_at t (suc (suc k)) ≡ o → is_some o ≡ true → is_member nat_eq (numbers t) (suc (suc k)) ≡ true
    node None e w = absurd (let x : false ≡ true = w in cc)
    node (Some s) e w = has_number (node_at t) (length t.nodes) (suc (suc k)) s e (within t (suc (suc k)) s e)

place_in_twice : (f : Tree → Tree) (n : ℕ) (t : Table) (pairs : List (Place × ℕ)) → IsShared t → HoldsTrees f n t pairs → (q : Place) (o : Option ℕ) → result_at pairs q ≡ o → is_some o ≡ true
    → q.op ≡ n → is_member same_place (twice n (numbers t)) q ≡ true
place_in_twice f n t pairs sh re q None e w i = absurd (let x : false ≡ true = w in cc)
place_in_twice f n t pairs sh re q (Some h) e w i =
    let here : q ≡ record { op = n; left = q.left; right = q.right } = ap (λ (k : ℕ). record { op = k; left = q.left; right = q.right }) i in
    let x = re.each q.left q.right h (ap (result_at pairs) (sym here) ∙ e) in
    let both : at_one n q.left ≡ q = ap (λ (k : ℕ). record { op = n; left = q.left; right = k }) x.0 ∙ sym here in
    subst (λ p. is_member same_place (twice n (numbers t)) p ≡ true) both (in_twice n q.left (numbers t) (has_node t q.left sh x.1 x.2))

-- such an operation's pairs are no more than there are pairs of handles, and nodes
most_changed : (k : Merge) (level u v : ℕ) (s t : Table) (old new : List (Place × ℕ)) → old ≡ [] → IsShared t → (m : Memo ℕ) → m.pairs ≡ new → IsMemo m → HoldsResults t new → HoldsTrees (at_level
    (merged k) level) (merge_number k) t new → LeavesRest s old new (merge_number k) (number_of (inner k)) u v →
    length new ≤ (t.room + 2) * (t.room + 2) + t.room
most_changed k level u v s t old new none sh m is memo sound re rest =
    let all = grid (number_of (inner k)) (handles t) (handles t) in
    let mine = twice (merge_number k) (numbers t) in
    let n = length-le_from_is_member places_laws (keys_of m.pairs) (mine ++ all) memo.distinct (λ q i. list_any-append (same_place q) mine all ∙ three q (subst (λ x. is_some (result_at x q)
    ≡ true) is (is_some-lookup (same_place q) m.pairs ∙ i)) (told q.op (merge_number k)) (told q.op (number_of (inner k)))) in
    let l = length-append mine all in
    let a = twice-length (merge_number k) (numbers t) in
    let g = grid-length (number_of (inner k)) (handles t) (handles t) in
    let h = handles-length t in
    let b = sh.bound in
    let c = keys-length m.pairs in
    let d = ap (λ (x : List (Place × ℕ)). length x) is in
    let sq : length (handles t) * length (handles t) ≤ (t.room + 2) * (t.room + 2) = squares (length (handles t)) (t.room + 2) (omega (arith, h, b)) in
    omega (arith, n, l, a, g, b, c, d, sq)
  where
    told : (x y : ℕ) → (x ≡ y) ⊎ (x ≡ y → ⊥)
    told x y = by_test (nat_eq x y) refl
      where
        by_test : (b : Bool) → nat_eq x y ≡ b → (x ≡ y) ⊎ (x ≡ y → ⊥)
        by_test true e = inl ((Decides-eqb x y).0 e)
        by_test false e = inr (λ i. let z = (Decides-eqb x y).1 i in cc)

    three : (q : Place) → is_some (result_at new q) ≡ true → (q.op ≡ merge_number k) ⊎ (q.op ≡ merge_number k → ⊥) → (q.op ≡ number_of (inner k)) ⊎ (q.op ≡ number_of (inner k) → ⊥) →
        (list_any (same_place q) (twice (merge_number k) (numbers t)) || list_any (same_place q) (grid (number_of (inner k)) (handles t) (handles t))) ≡ true
    three q i (inl e) y = left_or _ _ (place_in_twice (at_level (merged k) level) (merge_number k) t new sh re q (result_at new q) refl i e)
    three q i (inr n) (inl e) = right_or _ _ (place_in_grid (inner k) t new sound q (result_at new q) refl i e)
    three q i (inr n) (inr o) = absurd (let z : is_some (result_at old q) ≡ true = ap is_some (sym (rest.other_op q n o)) ∙ i in let y : false ≡ true = subst (λ x. is_some (result_at x q) ≡
        true) none z in cc)

-- what a try costs from an empty memo that is large enough
pub change_closely : (k : Merge) (level h : ℕ) (t w : Table) (m n : Memo ℕ) (s j : ℕ) (r : Result ℕ Full) → IsShared t → IsValid t h → m.pairs ≡ [] → (t.room + 2) * (t.room + 3) ≤ m.entries
    → IsMemo n → Changes k level h t w m n s j r → j ≤ s + try_steps t
change_closely k level h t w m n s j r sh vh none large memo a =
    let same : w.room ≡ t.room = a.made.grows.keeps.room in
    let most : length n.pairs ≤ (t.room + 2) * (t.room + 2) + t.room =
    subst (λ (x : ℕ). length n.pairs ≤ (x + 2) * (x + 2) + x) same (most_changed k level h h t w m.pairs n.pairs none a.made.grows.shared n refl memo a.sound a.remembers a.others) in
    let e = a.costs.entries in
    let c = a.costs.steps (omega (arith, most, large, e)) in
    let d = depth-le t h sh vh in
    let less = unfinished-le r (depths t h h) in
    sum t.room s j (length n.pairs) (unfinished r (depths t h h)) (depth (tree_of t h)) (omega (arith, c)) most less d
  where
    sum : (x s k q d i : ℕ) → k ≤ s + 1 + 2 * q + 2 * d → q ≤ (x + 2) * (x + 2) + x → d ≤ i + i → i ≤ x → k ≤ s + (2 * ((x + 2) * (x + 2)) + 6 * x + 1)
    sum x s k q d i a b c e = omega (arith, a, b, c, e)

small : (n : ℕ) → 2 * n ≤ n * n + 3
small n = ⊎_elim (λ (l : n < 2). omega (arith, l)) (λ (l : 2 ≤ n). (let x = mul-le-mul_left n l in omega (arith, x))) (cases_lt n 2)

pub try_few : (t : Table) → try_steps t ≤ 3 * handle_pairs t
try_few t = sum t.room (small t.room)
  where
    sum : (x : ℕ) → 2 * x ≤ x * x + 3 → 2 * ((x + 2) * (x + 2)) + 6 * x + 1 ≤ 3 * ((x + 2) * (x + 2))
    sum x a = omega (arith, a)
