-- The numbers that have a node, and how many they are.
use Rattle.std.proofs.Common.{◌≡◌, ℕ, zero, suc, ◌+◌, ◌<◌, ◌≤◌, List, ◌∷◌, length, refl, ap, sym, ◌∙◌, arith, ⊎_elim, map}
use Rattle.std.specs.Prelude.{true, false, cond, ◌||◌, ◌≢◌, ◌==◌, Option, Some, None, is_some}
use Rattle.std.specs.Set.{is_member}
use Rattle.std.specs.List.{IsDistinct, AllByRecursion}
use Rattle.std.proofs.lemmas.Bool.{or_cases, cases_eq}
use Rattle.std.proofs.lemmas.Bool.Decides.{Decides-eqb}
use Rattle.std.proofs.Math.Bool.{or-true}
use Rattle.node_tree.specs.Tree.{Tree, tree_eq}
use Rattle.node_tree.proofs.Same.{tree_eq-refl, same_tree}
use Rattle.node_table.specs.declared.node.Node.{Node}
use Rattle.node_table.specs.Table.{numbers_below}

abbrev pub In : List Tree → Tree → Type 0
In xs q = is_member tree_eq xs q ≡ true

-- a number's tree is among those of the numbers
pub has : (g : ℕ → Tree) (f : ℕ → Option Node) (n h : ℕ) (s : Node) → f h ≡ Some s → h < n → In (map g (numbers_below f n)) (g h)
has g f zero h s e l = absurd (omega (arith, l))
has g f (suc n) h s e l =
    elim (f n) as (λ o. f n ≡ o → In (map g (cond (is_some o) (n ∷ numbers_below f n) (numbers_below f n))) (g h)) [
      | None ↦ λ i. ⊎_elim (λ (q : h ≡ n). (let x = ap f q in cc)) (λ (q : h ≢ n). has g f n h s e (omega (arith, l, q))) (cases_eq h n)
      | Some t ↦ λ i. ⊎_elim
          (λ (q : h ≡ n). ap (λ b. b || is_member tree_eq (map g (numbers_below f n)) (g h)) (ap (λ k. tree_eq (g h) (g k)) (sym q) ∙ tree_eq-refl (g h)))
          (λ (q : h ≢ n). ap (λ b. tree_eq (g h) (g n) || b) (has g f n h s e (omega (arith, l, q))) ∙ or-true _)
          (cases_eq h n)
    ] refl

-- a tree among those of the numbers is a number's
pub only : (g : ℕ → Tree) (f : ℕ → Option Node) (n : ℕ) (q : Tree) → In (map g (numbers_below f n)) q → (h : ℕ) × (s : Node) × (h < n) × (f h ≡ Some s) × (g h ≡ q)
only g f zero q m = cc
only g f (suc n) q m =
    elim (f n) as (λ o. f n ≡ o → In (map g (cond (is_some o) (n ∷ numbers_below f n) (numbers_below f n))) q → (h : ℕ) × (s : Node) × (h < suc n) × (f h ≡ Some s) × (g h ≡ q)) [
      | None ↦ λ i m. (let r = only g f n q m in (r.0, r.1, omega (arith, r.2), r.3, r.4))
      | Some t ↦ λ i m. ⊎_elim
          (λ x. (n, t, omega arith, i, sym (same_tree q (g n) x)))
          (λ x. (let r = only g f n q x in (r.0, r.1, omega (arith, r.2), r.3, r.4)))
          (or_cases _ _ m)
    ] refl m

module _ (g : ℕ → Tree) (f : ℕ → Option Node) (one : (h k : ℕ) (s t : Node) → f h ≡ Some s → f k ≡ Some t → g h ≡ g k → h ≡ k) where
  apart : (h : ℕ) (s : Node) → f h ≡ Some s → (n : ℕ) → n ≤ h → AllByRecursion (λ y. tree_eq (g h) y ≡ false) (map g (numbers_below f n))
  apart h s e zero l = tt
  apart h s e (suc n) l =
      elim (f n) as (λ o. f n ≡ o → AllByRecursion (λ y. tree_eq (g h) y ≡ false) (map g (cond (is_some o) (n ∷ numbers_below f n) (numbers_below f n)))) [
        | None ↦ λ i. apart h s e n (omega (arith, l))
        | Some t ↦ λ i. (
          elim (tree_eq (g h) (g n)) as (λ b. tree_eq (g h) (g n) ≡ b → b ≡ false) [
            | true ↦ λ x. (let k : h ≡ n = one h n s t e i (same_tree (g h) (g n) x) in absurd (omega (arith, k, l)))
            | false ↦ λ x. refl
          ] refl,
          apart h s e n (omega (arith, l)),
        )
      ] refl

  -- numbers that differ have trees that differ
  pub distinct : (n : ℕ) → IsDistinct tree_eq (map g (numbers_below f n))
  unfolding IsDistinct
  distinct zero = tt
  distinct (suc n) =
      elim (f n) as (λ o. f n ≡ o → IsDistinct tree_eq (map g (cond (is_some o) (n ∷ numbers_below f n) (numbers_below f n))))
      [ None ↦ λ i. distinct n | Some t ↦ λ i. (apart n t i n (omega arith), distinct n) ] refl

-- at most each number from 2 on has a node
pub few : (f : ℕ → Option Node) → f 0 ≡ None → f 1 ≡ None → (n : ℕ) → 2 ≤ n → length (numbers_below f n) + 2 ≤ n
few f z o zero l = absurd (omega (arith, l))
few f z o (suc zero) l = absurd (omega (arith, l))
few f z o (suc (suc zero)) l = rw (o, z) (omega arith)
few f z o (suc (suc (suc n))) l =
    let h = few f z o (suc (suc n)) (omega arith) in
    elim (f (suc (suc n))) as (λ x. length (cond (is_some x) (suc (suc n) ∷ numbers_below f (suc (suc n))) (numbers_below f (suc (suc n)))) + 2 ≤ suc (suc (suc n)))
    [ None ↦ omega (arith, h) | Some s ↦ omega (arith, h) ]

-- where each number from 2 on has a node, none is missing
pub all_taken : (f : ℕ → Option Node) (n : ℕ) → ((h : ℕ) → 2 ≤ h → h < n → f h ≡ None → ⊥) → n ≤ length (numbers_below f n) + 2
all_taken f zero h = omega arith
all_taken f (suc zero) h = omega arith
all_taken f (suc (suc zero)) h = omega arith
all_taken f (suc (suc (suc n))) h =
    let r = all_taken f (suc (suc n)) (λ k a b e. h k a (omega (arith, b)) e) in
    elim (f (suc (suc n))) as (λ x. (x ≡ None → ⊥) → suc (suc (suc n)) ≤ length (cond (is_some x) (suc (suc n) ∷ numbers_below f (suc (suc n))) (numbers_below f (suc (suc n)))) + 2)
    [ None ↦ λ i. absurd (i refl) | Some s ↦ λ i. omega (arith, r) ] (h (suc (suc n)) (omega arith) (omega arith))

-- numbers without a node add nothing
pub none_past : (f : ℕ → Option Node) (n m : ℕ) → n ≤ m → ((h : ℕ) → n ≤ h → h < m → f h ≡ None) → numbers_below f m ≡ numbers_below f n
none_past f n zero l h = let e : n ≡ 0 = omega (arith, l) in ap (numbers_below f) (sym e)
none_past f n (suc m) l h =
    ⊎_elim (λ (q : n ≡ suc m). ap (numbers_below f) (sym q))
    (λ (q : n ≢ suc m).
    ap (λ o. cond (is_some o) (m ∷ numbers_below f m) (numbers_below f m)) (h m (omega (arith, l, q)) (omega arith)) ∙ none_past f n m (omega (arith, l, q)) (λ k a b. h k a (omega (arith, b))))
    (cases_eq n (suc m))

-- the numbers depend on where there are nodes alone
pub same_numbers : (f g : ℕ → Option Node) (n : ℕ) → ((h : ℕ) → h < n → is_some (g h) ≡ is_some (f h)) → numbers_below g n ≡ numbers_below f n
same_numbers f g zero h = refl
same_numbers f g (suc n) h =
    ap (λ b. cond b (n ∷ numbers_below g n) (numbers_below g n)) (h n (omega arith)) ∙ ap (λ (ns : List ℕ). cond (is_some (f n)) (n ∷ ns) ns) (same_numbers f g n (λ k l. h k (omega (arith, l))))

-- one node more is one number more
pub one_more : (f g : ℕ → Option Node) (number : ℕ) (slot : Node) → f number ≡ None → ((h : ℕ) → g h ≡ cond (h == number) (Some slot) (f h)) → (n : ℕ) → number < n → length (numbers_below g n) ≡ length (numbers_below f n) + 1
one_more f g number slot free put zero l = absurd (omega (arith, l))
one_more f g number slot free put (suc n) l =
    ⊎_elim
    (λ (q : n ≡ number).
    let here : g n ≡ Some slot = put n ∙ ap (λ b. cond b (Some slot) (f n)) ((Decides-eqb n number).1 q) in
    let was : f n ≡ None = ap f q ∙ free in
    let rest = same_numbers f g n (λ h k. ap is_some (other h (omega (arith, q, k)))) in
    let now : length (numbers_below g (suc n)) ≡ length (n ∷ numbers_below f n) = ap (λ o. length (cond (is_some o) (n ∷ numbers_below g n) (numbers_below g n))) here ∙ ap (λ (ns : List ℕ). length (n ∷ ns)) rest in
    let before : length (numbers_below f (suc n)) ≡ length (numbers_below f n) = ap (λ o. length (cond (is_some o) (n ∷ numbers_below f n) (numbers_below f n))) was in
    omega (arith, now, before))
    (λ (q : n ≢ number).
    let rest = one_more f g number slot free put n (omega (arith, l, q)) in
    let same : g n ≡ f n = other n q in
    ap (λ o. length (cond (is_some o) (n ∷ numbers_below g n) (numbers_below g n))) same
    ∙ elim (f n) as (λ o. length (cond (is_some o) (n ∷ numbers_below g n) (numbers_below g n)) ≡ length (cond (is_some o) (n ∷ numbers_below f n) (numbers_below f n)) + 1) [ None ↦ rest | Some s ↦ omega (arith, rest) ])
    (cases_eq n number)
  where
    other : (h : ℕ) → h ≢ number → g h ≡ f h
    other h a = put h ∙ elim (h == number) as (λ b. (h == number) ≡ b → cond b (Some slot) (f h) ≡ f h) [ true ↦ λ i. absurd (a ((Decides-eqb h number).0 i)) | false ↦ λ i. refl ] refl
