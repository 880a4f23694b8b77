-- How many pairs an operation can have in a memo, how deep a table's trees are, and so what a try costs at most.
use Rattle.std.proofs.Common.{◌≡◌, ◌⊎◌, ℕ, zero, suc, ◌+◌, ◌*◌, ◌<◌, ◌≤◌, List, [], ◌∷◌, ◌++◌, length, cond, refl, ap, sym, ◌∙◌, arith, subst, ⊎_elim, inl, inr}
use Rattle.std.specs.Prelude.{Bool, true, false, ◌||◌, nat_eq, nat_le, Option, Some, None, Result}
use Rattle.std.specs.Option.{is_some}
use Rattle.std.specs.Set.{is_member}
use Rattle.std.specs.Map.{keys_of}
use Rattle.std.specs.List.{list_any, IsDistinct, AllByRecursion}
use Rattle.std.proofs.lemmas.Bool.{or_cases, cases_lt}
use Rattle.std.proofs.lemmas.Bool.Decides.{Decides-eqb, nat_tests}
use Rattle.std.proofs.Math.Bool.{or-true}
use Rattle.std.proofs.Math.Nat.{mul-le-mul_left}
use Rattle.std.proofs.lemmas.List.{length-append, length-map}
use Rattle.std.proofs.lemmas.List.Folds.{list_any-append}
use Rattle.std.proofs.lemmas.Map.Keys.{IsDistinct-cons}
use Rattle.std.proofs.lemmas.Map.Made.{length-le_from_is_member, is_some-lookup}
use Rattle.node_tree.specs.Tree.{Tree, Zero, One, Branch, tree_eq, branches, depth}
use Rattle.node_tree.proofs.Same.{same_tree}
use Rattle.node_tree.proofs.Counting.{tree_eq_laws}
use Rattle.node_table.specs.declared.node.Node.{Node}
use Rattle.node_table.specs.declared.table.Full.{Full}
use Rattle.node_table.specs.Table.{Table, node_at, tree_of, IsValid, numbers, numbers_below, held, live_of, IsShared}
use Rattle.node_table.proofs.Sharing.{live-held, within}
use Rattle.op_cache.specs.declared.key.Place.{Place}
use Rattle.op_cache.specs.Keys.{same_place}
use Rattle.op_cache.specs.Memo.{Memo, result_at, IsMemo}
use Rattle.op_cache.proofs.Places.{places_laws}
use Rattle.bdd_ops.specs.declared.op.Op.{Op}
use Rattle.bdd_ops.specs.Numbers.{number_of, place}
use Rattle.bdd_ops.specs.Applied.{HoldsResults, LeavesOthers, depths, unfinished, Applies}
use Rattle.bdd_ops.proofs.Stages.{unfinished-le}

pub left_or : (a b : Bool) → a ≡ true → (a || b) ≡ true
left_or a b e = ap (λ x. x || b) e

pub right_or : (a b : Bool) → b ≡ true → (a || b) ≡ true
right_or a b e = ap (λ x. a || x) e ∙ or-true a

-- ---- the handles of a table

pub handles : Table → List ℕ
handles t = 0 ∷ (1 ∷ numbers t)

number_here : (f : ℕ → Option Node) (n k : ℕ) (s : Node) → f k ≡ Some s → k ≡ n → is_member nat_eq (numbers_below f (suc n)) k ≡ true
number_here f n k s e i =
    ap (λ b. is_member nat_eq (cond b (n ∷ numbers_below f n) (numbers_below f n)) k) (ap is_some (sym (ap f i) ∙ e))
    ∙ left_or _ _ ((Decides-eqb k n).1 i)

number_later : (f : ℕ → Option Node) (n k : ℕ) (b : Bool) → is_member nat_eq (numbers_below f n) k ≡ true → is_member nat_eq (cond b (n ∷ numbers_below f n) (numbers_below f n)) k ≡ true
number_later f n k true m = right_or _ _ m
number_later f n k false m = m

pub has_number : (f : ℕ → Option Node) (n k : ℕ) (s : Node) → f k ≡ Some s → k < n → is_member nat_eq (numbers_below f n) k ≡ true
has_number f zero k s e l = absurd (omega (arith, l))
has_number f (suc n) k s e l =
    ⊎_elim (λ (h : k < n). number_later f n k (is_some (f n)) (has_number f n k s e h)) (λ (h : n ≤ k). number_here f n k s e (omega (arith, h, l))) (cases_lt k n)

has_handle : (t : Table) (h : ℕ) → IsValid t h → is_member nat_eq (handles t) h ≡ true
unfolding handles
has_handle t zero v = refl
has_handle t (suc zero) v = refl
has_handle t (suc (suc k)) v = right_or _ _ (right_or _ _ (node (node_at t (suc (suc k))) refl v))
  where
    node : (o : Option Node) → node_at t (suc (suc k)) ≡ o → is_some o ≡ true → is_member nat_eq (numbers t) (suc (suc k)) ≡ true
    node None e w = absurd (let x : false ≡ true = w in cc)
    node (Some s) e w = has_number (node_at t) (length t.nodes) (suc (suc k)) s e (within t (suc (suc k)) s e)

pub handles-length : (t : Table) → length (handles t) ≡ live_of t + 2
unfolding handles
handles-length t = omega arith

-- ---- the places of an operation

pub at_place : ℕ → ℕ → ℕ → Place
at_place op u v = record { op = op; left = u; right = v }

row : ℕ → ℕ → List ℕ → List Place
row op u [] = []
row op u (v ∷ vs) = at_place op u v ∷ row op u vs

pub grid : ℕ → List ℕ → List ℕ → List Place
grid op [] vs = []
grid op (u ∷ us) vs = row op u vs ++ grid op us vs

row-length : (op u : ℕ) (vs : List ℕ) → length (row op u vs) ≡ length vs
unfolding row
row-length op u [] = refl
row-length op u (v ∷ vs) = (let h = row-length op u vs in omega (arith, h))

pub grid-length : (op : ℕ) (us vs : List ℕ) → length (grid op us vs) ≡ length us * length vs
unfolding grid
grid-length op [] vs = omega arith
grid-length op (u ∷ us) vs = (let a = length-append (row op u vs) (grid op us vs) in let b = row-length op u vs in let c = grid-length op us vs in omega (arith, a, b, c))

in_row : (op u v : ℕ) (vs : List ℕ) → is_member nat_eq vs v ≡ true → is_member same_place (row op u vs) (at_place op u v) ≡ true
unfolding row
in_row op u v [] m = absurd (let x : false ≡ true = m in cc)
in_row op u v (w ∷ ws) m =
    ⊎_elim (λ e. left_or _ _ (ap (λ x. same_place (at_place op u v) (at_place op u x)) (sym ((Decides-eqb v w).0 e)) ∙ places_laws.refl (at_place op u v)))
    (λ e. right_or _ _ (in_row op u v ws e)) (or_cases _ _ m)

in_grid : (op u v : ℕ) (us vs : List ℕ) → is_member nat_eq us u ≡ true → is_member nat_eq vs v ≡ true → is_member same_place (grid op us vs) (at_place op u v) ≡ true
unfolding grid
in_grid op u v [] vs m n = absurd (let x : false ≡ true = m in cc)
in_grid op u v (w ∷ ws) vs m n =
    list_any-append (same_place (at_place op u v)) (row op w vs) (grid op ws vs)
    ∙ ⊎_elim (λ e. left_or _ _ (subst (λ x. is_member same_place (row op x vs) (at_place op u v) ≡ true) ((Decides-eqb u w).0 e) (in_row op u v vs n)))
    (λ e. right_or _ _ (in_grid op u v ws vs e n)) (or_cases _ _ m)

pub keys-length : (pairs : List (Place × ℕ)) → length (keys_of pairs) ≡ length pairs
keys-length pairs = length-map pairs (λ (p : Place × ℕ). p.0)

-- an operation's place is one of its handles' places
pub place_in_grid : (op : Op) (t : Table) (pairs : List (Place × ℕ)) → HoldsResults t pairs → (q : Place) (o : Option ℕ) → result_at pairs q ≡ o → is_some o ≡ true → q.op ≡ number_of op →
    is_member same_place (grid (number_of op) (handles t) (handles t)) q ≡ true
unfolding at_place
place_in_grid op t pairs sound q None e w i = absurd (let x : false ≡ true = w in cc)
place_in_grid op t pairs sound q (Some h) e w i =
    let here : q ≡ place op q.left q.right = ap (λ (n : ℕ). record { op = n; left = q.left; right = q.right }) i in
    let x = sound.each op q.left q.right h (ap (result_at pairs) (sym here) ∙ e) in
    subst (λ p. is_member same_place (grid (number_of op) (handles t) (handles t)) p ≡ true) (sym here)
    (in_grid (number_of op) q.left q.right (handles t) (handles t) (has_handle t q.left x.0) (has_handle t q.right x.1))

pub squares : (a b : ℕ) → a ≤ b → a * a ≤ b * b
squares a b h = let x = mul-le-mul_left a h in let y = mul-le-mul_left b h in omega (arith, x, y)

-- an operation's pairs are no more than there are pairs of handles
pub most_pairs : (op : Op) (u v : ℕ) (s t : Table) (old new : Memo ℕ) → IsShared t → IsMemo new → HoldsResults t new.pairs → LeavesOthers s old.pairs new.pairs (number_of op) u v → length
    new.pairs ≤ length old.pairs + (t.room + 2) * (t.room + 2)
unfolding at_place
most_pairs op u v s t old new sh memo sound others =
    let all = grid (number_of op) (handles t) (handles t) in
    let n = length-le_from_is_member places_laws (keys_of new.pairs) (keys_of old.pairs ++ all) memo.distinct (λ q m. list_any-append (same_place q) (keys_of old.pairs) all ∙ either q m
    (cases_op q)) in
    let l = length-append (keys_of old.pairs) all in
    let k = grid-length (number_of op) (handles t) (handles t) in
    let h = handles-length t in
    let b = sh.bound in
    let a : length (keys_of new.pairs) ≡ length new.pairs = keys-length new.pairs in
    let c : length (keys_of old.pairs) ≡ length old.pairs = keys-length old.pairs in
    let sq : length (handles t) * length (handles t) ≤ (t.room + 2) * (t.room + 2) = squares (length (handles t)) (t.room + 2) (omega (arith, h, b)) in
    omega (arith, n, l, k, a, c, sq)
  where
    cases_op : (q : Place) → (q.op ≡ number_of op) ⊎ (q.op ≡ number_of op → ⊥)
    cases_op q = by_test (nat_eq q.op (number_of op)) refl
      where
        by_test : (b : Bool) → nat_eq q.op (number_of op) ≡ b → (q.op ≡ number_of op) ⊎ (q.op ≡ number_of op → ⊥)
        by_test true e = inl ((Decides-eqb q.op (number_of op)).0 e)
        by_test false e = inr (λ i. let x = (Decides-eqb q.op (number_of op)).1 i in cc)

    either : (q : Place) → is_member same_place (keys_of new.pairs) q ≡ true → (q.op ≡ number_of op) ⊎ (q.op ≡ number_of op → ⊥) →
        (list_any (same_place q) (keys_of old.pairs) || list_any (same_place q) (grid (number_of op) (handles t) (handles t))) ≡ true
    either q m (inl i) = right_or _ _ (place_in_grid op t new.pairs sound q (result_at new.pairs q) refl (is_some-lookup (same_place q) new.pairs ∙ m) i)
    either q m (inr n) = left_or _ _ (sym (is_some-lookup (same_place q) old.pairs) ∙ ap is_some (sym (others.other_op q n)) ∙ is_some-lookup (same_place q) new.pairs ∙ m)

-- ---- depth

-- the branches on the way down to the deepest one
spine : Tree → List Tree
spine Zero = []
spine One = []
spine (Branch l a b) = Branch l a b ∷ cond (nat_le (depth b) (depth a)) (spine a) (spine b)

deeper_length : (l : ℕ) (a b : Tree) (c : Bool) → nat_le (depth b) (depth a) ≡ c → length (spine a) ≡ depth a → length (spine b) ≡ depth b → length (cond c (spine a) (spine b)) + 1 ≡ depth
    (Branch l a b)
deeper_length l a b true e x y = grind (arith, nat_tests)
deeper_length l a b false e x y = grind (arith, nat_tests)

spine-length : (t : Tree) → length (spine t) ≡ depth t
unfolding spine
spine-length Zero = refl
spine-length One = refl
spine-length (Branch l a b) = (let h = deeper_length l a b (nat_le (depth b) (depth a)) refl (spine-length a) (spine-length b) in omega (arith, h))

one_inside : (a b q : Tree) (c : Bool) → (is_member tree_eq (spine a) q ≡ true → is_member tree_eq (branches a) q ≡ true) → (is_member tree_eq (spine b) q ≡ true → is_member tree_eq
    (branches b) q ≡ true) →
    is_member tree_eq (cond c (spine a) (spine b)) q ≡ true → (list_any (tree_eq q) (branches a) || list_any (tree_eq q) (branches b)) ≡ true
one_inside a b q true x y e = left_or _ _ (x e)
one_inside a b q false x y e = right_or _ _ (y e)

spine-inside : (t q : Tree) → is_member tree_eq (spine t) q ≡ true → is_member tree_eq (branches t) q ≡ true
unfolding spine
spine-inside Zero q m = m
spine-inside One q m = m
spine-inside (Branch l a b) q m =
    ⊎_elim (λ e. left_or _ _ e) (λ e. right_or _ _ (list_any-append (tree_eq q) (branches a) (branches b) ∙ one_inside a b q (nat_le (depth b) (depth a)) (spine-inside a q) (spine-inside b
    q) e)) (or_cases _ _ m)

one_depth : (a b q : Tree) (c : Bool) → (is_member tree_eq (spine a) q ≡ true → depth q ≤ depth a) → (is_member tree_eq (spine b) q ≡ true → depth q ≤ depth b) → is_member tree_eq (cond c
    (spine a) (spine b)) q ≡ true → (depth q ≤ depth a) ⊎ (depth q ≤ depth b)
one_depth a b q true x y e = inl (x e)
one_depth a b q false x y e = inr (y e)

-- no branch of the spine is deeper than the tree
spine-depth : (t q : Tree) → is_member tree_eq (spine t) q ≡ true → depth q ≤ depth t
unfolding spine
spine-depth Zero q m = absurd (let x : false ≡ true = m in cc)
spine-depth One q m = absurd (let x : false ≡ true = m in cc)
spine-depth (Branch l a b) q m =
    ⊎_elim (λ e. (let x = ap depth (same_tree q (Branch l a b) e) in omega (arith, x)))
    (λ e. ⊎_elim (λ (x : depth q ≤ depth a). omega (arith, x)) (λ (x : depth q ≤ depth b). omega (arith, x)) (one_depth a b q (nat_le (depth b) (depth a)) (spine-depth a q) (spine-depth b q)
    e)) (or_cases _ _ m)

none_same : (x : Tree) (ys : List Tree) → list_any (tree_eq x) ys ≡ false → AllByRecursion (λ y. tree_eq x y ≡ false) ys
none_same x [] h = tt
none_same x (y ∷ ys) h =
    elim (tree_eq x y) as (λ b. tree_eq x y ≡ b → (b || list_any (tree_eq x) ys) ≡ false → (b ≡ false) × AllByRecursion (λ y. tree_eq x y ≡ false) ys)
    [ true ↦ λ e h. cc | false ↦ λ e h. (refl, none_same x ys h) ] refl h

-- a branch is deeper than the spine of each child
above_spine : (l : ℕ) (a b : Tree) (c x : Bool) → list_any (tree_eq (Branch l a b)) (cond c (spine a) (spine b)) ≡ x → x ≡ false
above_spine l a b c false e = refl
above_spine l a b true true e = absurd (let h = spine-depth a (Branch l a b) e in omega (arith, h))
above_spine l a b false true e = absurd (let h = spine-depth b (Branch l a b) e in omega (arith, h))

one_distinct : (a b : Tree) (c : Bool) → IsDistinct tree_eq (spine a) → IsDistinct tree_eq (spine b) → IsDistinct tree_eq (cond c (spine a) (spine b))
one_distinct a b true x y = x
one_distinct a b false x y = y

spine-distinct : (t : Tree) → IsDistinct tree_eq (spine t)
unfolding spine IsDistinct
spine-distinct Zero = tt
spine-distinct One = tt
spine-distinct (Branch l a b) =
    let c = nat_le (depth b) (depth a) in
    IsDistinct-cons tree_eq (Branch l a b) (cond c (spine a) (spine b))
    (none_same (Branch l a b) (cond c (spine a) (spine b)) (above_spine l a b c (list_any (tree_eq (Branch l a b)) (cond c (spine a) (spine b))) refl))
    (one_distinct a b c (spine-distinct a) (spine-distinct b))

-- a table's trees are no deeper than it has nodes
pub depth-le : (t : Table) (h : ℕ) → IsShared t → IsValid t h → depth (tree_of t h) ≤ t.room
depth-le t h sh v =
    let n = length-le_from_is_member tree_eq_laws (spine (tree_of t h)) (held t) (spine-distinct (tree_of t h)) (λ q m. sh.closed h v q (spine-inside (tree_of t h) q m)) in
    let l = spine-length (tree_of t h) in let k = live-held t in let b = sh.bound in
    omega (arith, n, l, k, b)

-- ---- a try

-- what a try costs, where the memo has room for each pair of handles
pub try_bounded : (op : Op) (u v : ℕ) (t w : Table) (m n : Memo ℕ) (s k : ℕ) (r : Result ℕ Full) → IsShared t → IsValid t u → IsValid t v → IsMemo n → Applies op u v t w m n s k r → length
    m.pairs + (t.room + 2) * (t.room + 2) < m.entries → k ≤ s + (2 * ((t.room + 2) * (t.room + 2)) + 4 * t.room)
try_bounded op u v t w m n s k r sh vu vv memo a roomy =
    let same : w.room ≡ t.room = a.made.grows.keeps.room in
    let most : length n.pairs ≤ length m.pairs + (t.room + 2) * (t.room + 2) =
    subst (λ (x : ℕ). length n.pairs ≤ length m.pairs + (x + 2) * (x + 2)) same (most_pairs op u v t w m n a.made.grows.shared memo a.sound a.others) in
    let e = a.costs.entries in
    let c = a.costs.steps (omega (arith, most, roomy, e)) in
    let du = depth-le t u sh vu in let dv = depth-le t v sh vv in
    let less = unfinished-le r (depths t u v) in
    small (t.room) s k (length m.pairs) (length n.pairs) (unfinished r (depths t u v)) (depth (tree_of t u)) (depth (tree_of t v)) c most less du dv
  where
    small : (x s k p q d i j : ℕ) → k + 2 * p ≤ s + 2 * q + 2 * d → q ≤ p + (x + 2) * (x + 2) → d ≤ i + j → i ≤ x → j ≤ x → k ≤ s + (2 * ((x + 2) * (x + 2)) + 4 * x)
    small x s k p q d i j a b c e f = omega (arith, a, b, c, e, f)
