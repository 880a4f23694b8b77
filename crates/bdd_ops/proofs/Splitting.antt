-- An operation's tree and those of the parts at the lesser level.
use Rattle.std.proofs.Common.{◌≡◌, ◌⊎◌, ℕ, ◌+◌, ◌<◌, ◌≤◌, min, refl, ap, sym, ◌∙◌, arith, subst, ⊎_elim, inl, inr}
use Rattle.std.specs.Prelude.{Bool, true, false, cond, ◌==◌, nat_lt}
use Rattle.std.proofs.lemmas.Bool.{cases_order, cases_lt}
use Rattle.std.proofs.lemmas.Bool.Decides.{Decides-eqb, Decides-ltb, nat_tests}
use Rattle.node_tree.specs.Tree.{Tree, Zero, One, Branch, IsOrderedFrom, join, top, depth}
use Rattle.node_tree.proofs.Joins.{ordered_from_top, top_from_ordered}
use Rattle.node_tree.proofs.Setting.{weaken}
use Rattle.node_table.specs.declared.handle.Branch as branch
use Rattle.node_table.specs.Table.{Table, tree_of, IsValid, IsShared}
use Rattle.node_table.specs.Tells.{TellsTree}
use Rattle.bdd_ops.specs.declared.parts.Split.{Split}
use Rattle.bdd_ops.specs.Apply.{merge, apply_tree}
use Rattle.bdd_ops.specs.Parts.{IsBranch, IsNode, level_of, low_of, high_of, low_at, high_at}
use Rattle.bdd_ops.specs.Split.{Splits}
use Rattle.bdd_ops.proofs.Values.{apply-ordered}

eqb_itself : (n : ℕ) → (n == n) ≡ true
eqb_itself n = (Decides-eqb n n).1 refl

eqb_apart_above : (m n : ℕ) → n < m → (m == n) ≡ false
eqb_apart_above m n l = grind (arith, nat_tests)

ltb_yes : (m n : ℕ) → m < n → nat_lt m n ≡ true
ltb_yes m n l = (Decides-ltb m n).1 l

ltb_no : (m n : ℕ) → n ≤ m → nat_lt m n ≡ false
ltb_no m n l = grind (arith, nat_tests)

low_here : (l : ℕ) (a b : Tree) → low_at l (Branch l a b) ≡ a
low_here l a b = ap (λ t. cond t a (Branch l a b)) (eqb_itself l)

high_here : (l : ℕ) (a b : Tree) → high_at l (Branch l a b) ≡ b
high_here l a b = ap (λ t. cond t b (Branch l a b)) (eqb_itself l)

low_below : (l m : ℕ) (a b : Tree) → l < m → low_at l (Branch m a b) ≡ Branch m a b
low_below l m a b h = ap (λ t. cond t a (Branch m a b)) (eqb_apart_above m l h)

high_below : (l m : ℕ) (a b : Tree) → l < m → high_at l (Branch m a b) ≡ Branch m a b
high_below l m a b h = ap (λ t. cond t b (Branch m a b)) (eqb_apart_above m l h)

merge-less : (l : ℕ) (f g : Tree → Tree) (m : ℕ) (c d : Tree) → l < m → merge l f g (Branch m c d) ≡ join l (f (Branch m c d)) (g (Branch m c d))
merge-less l f g m c d h = ap (λ z. cond z (join l (f (Branch m c d)) (g (Branch m c d))) (cond (l == m) (join l (f c) (g d)) (join m (merge l f g c) (merge l f g d)))) (ltb_yes l m h)

merge-same : (l : ℕ) (f g : Tree → Tree) (c d : Tree) → merge l f g (Branch l c d) ≡ join l (f c) (g d)
merge-same l f g c d =
    ap (λ z. cond z (join l (f (Branch l c d)) (g (Branch l c d))) (cond (l == l) (join l (f c) (g d)) (join l (merge l f g c) (merge l f g d)))) (ltb_no l l (omega arith))
    ∙ ap (λ z. cond z (join l (f c) (g d)) (join l (merge l f g c) (merge l f g d))) (eqb_itself l)

merge-more : (l : ℕ) (f g : Tree → Tree) (m : ℕ) (c d : Tree) → m < l → merge l f g (Branch m c d) ≡ join m (merge l f g c) (merge l f g d)
merge-more l f g m c d h =
    ap (λ z. cond z (join l (f (Branch m c d)) (g (Branch m c d))) (cond (l == m) (join l (f c) (g d)) (join m (merge l f g c) (merge l f g d)))) (ltb_no l m (omega (arith, h)))
    ∙ ap (λ z. cond z (join l (f c) (g d)) (join m (merge l f g c) (merge l f g d))) (eqb_apart_above l m h)

same_join : (f : Bool → Bool → Bool) (l : ℕ) (a b c d p q r s : Tree) → p ≡ a → q ≡ b → r ≡ c → s ≡ d → join l (apply_tree f a b) (apply_tree f c d) ≡ join l (apply_tree f p q) (apply_tree f r s)
same_join f l a b c d p q r s e g h i =
    ap (λ x. join l (apply_tree f x b) (apply_tree f c d)) (sym e) ∙ ap (λ x. join l (apply_tree f p x) (apply_tree f c d)) (sym g)
    ∙ ap (λ x. join l (apply_tree f p q) (apply_tree f x d)) (sym h) ∙ ap (λ x. join l (apply_tree f p q) (apply_tree f r x)) (sym i)

-- where neither tree stands above l and one stands at it, the operation goes by the parts at l
pub apply-step : (f : Bool → Bool → Bool) (u v : Tree) (l : ℕ) → l < 65536 → l ≤ top u → l ≤ top v → (top u ≡ l) ⊎ (top v ≡ l) → apply_tree f u v ≡ join l (apply_tree f (low_at l u) (low_at
    l v)) (apply_tree f (high_at l u) (high_at l v))
apply-step f Zero Zero l s a b c = absurd (⊎_elim (λ e. omega (arith, e)) (λ e. omega (arith, e)) c)
apply-step f Zero One l s a b c = absurd (⊎_elim (λ e. omega (arith, e)) (λ e. omega (arith, e)) c)
apply-step f One Zero l s a b c = absurd (⊎_elim (λ e. omega (arith, e)) (λ e. omega (arith, e)) c)
apply-step f One One l s a b c = absurd (⊎_elim (λ e. omega (arith, e)) (λ e. omega (arith, e)) c)
apply-step f Zero (Branch m x y) l s a b c =
    let e : m ≡ l = ⊎_elim (λ e. absurd (omega (arith, e))) (λ e. e) c in
    subst (λ l. apply_tree f Zero (Branch m x y) ≡ join l (apply_tree f Zero (low_at l (Branch m x y))) (apply_tree f Zero (high_at l (Branch m x y)))) e
    (let p = low_here m x y in let q = high_here m x y in cc)
apply-step f One (Branch m x y) l s a b c =
    let e : m ≡ l = ⊎_elim (λ e. absurd (omega (arith, e))) (λ e. e) c in
    subst (λ l. apply_tree f One (Branch m x y) ≡ join l (apply_tree f One (low_at l (Branch m x y))) (apply_tree f One (high_at l (Branch m x y)))) e
    (let p = low_here m x y in let q = high_here m x y in cc)
apply-step f (Branch k t u) Zero l s a b c =
    let e : k ≡ l = ⊎_elim (λ e. e) (λ e. absurd (omega (arith, e))) c in
    subst (λ l. apply_tree f (Branch k t u) Zero ≡ join l (apply_tree f (low_at l (Branch k t u)) Zero) (apply_tree f (high_at l (Branch k t u)) Zero)) e
    (let p = low_here k t u in let q = high_here k t u in cc)
apply-step f (Branch k t u) One l s a b c =
    let e : k ≡ l = ⊎_elim (λ e. e) (λ e. absurd (omega (arith, e))) c in
    subst (λ l. apply_tree f (Branch k t u) One ≡ join l (apply_tree f (low_at l (Branch k t u)) One) (apply_tree f (high_at l (Branch k t u)) One)) e
    (let p = low_here k t u in let q = high_here k t u in cc)
apply-step f (Branch k t u) (Branch m x y) l s a b c =
    ⊎_elim
    (λ (e : k ≡ m).
    let n : m ≡ l = ⊎_elim (λ c. sym e ∙ c) (λ c. c) c in
    let both : apply_tree f (Branch m t u) (Branch m x y) ≡ join m (apply_tree f (low_at m (Branch m t u)) (low_at m (Branch m x y))) (apply_tree f (high_at m (Branch m t u)) (high_at m
    (Branch m x y))) =
    merge-same m (apply_tree f t) (apply_tree f u) x y ∙ same_join f m t x u y _ _ _ _ (low_here m t u) (low_here m x y) (high_here m t u) (high_here m x y) in
    subst (λ l. apply_tree f (Branch k t u) (Branch m x y) ≡ join l (apply_tree f (low_at l (Branch k t u)) (low_at l (Branch m x y))) (apply_tree f (high_at l (Branch k t u)) (high_at l
    (Branch m x y)))) n
    (subst (λ k. apply_tree f (Branch k t u) (Branch m x y) ≡ join m (apply_tree f (low_at m (Branch k t u)) (low_at m (Branch m x y))) (apply_tree f (high_at m (Branch k t u)) (high_at m
    (Branch m x y)))) (sym e) both))
    (⊎_elim
    (λ (h : k < m).
    let n : k ≡ l = ⊎_elim (λ c. c) (λ c. absurd (omega (arith, h, c, a))) c in
    subst (λ l. apply_tree f (Branch k t u) (Branch m x y) ≡ join l (apply_tree f (low_at l (Branch k t u)) (low_at l (Branch m x y))) (apply_tree f (high_at l (Branch k t u)) (high_at l
    (Branch m x y)))) n
    (merge-less k (apply_tree f t) (apply_tree f u) m x y h ∙ same_join f k t (Branch m x y) u (Branch m x y) _ _ _ _ (low_here k t u) (low_below k m x y h) (high_here k t u) (high_below k m x y h)))
    (λ (h : m < k).
    let n : m ≡ l = ⊎_elim (λ c. absurd (omega (arith, h, c, b))) (λ c. c) c in
    subst (λ l. apply_tree f (Branch k t u) (Branch m x y) ≡ join l (apply_tree f (low_at l (Branch k t u)) (low_at l (Branch m x y))) (apply_tree f (high_at l (Branch k t u)) (high_at l
    (Branch m x y)))) n
    (merge-more k (apply_tree f t) (apply_tree f u) m x y h ∙ same_join f m (Branch k t u) x (Branch k t u) y _ _ _ _ (low_below m k t u h) (low_here m x y) (high_below m k t u h) (high_here m x y))))
    (cases_order k m)

-- parts at a level stand below it
low_at-ordered : (l : ℕ) (t : Tree) → IsOrderedFrom l t → IsOrderedFrom (l + 1) (low_at l t)
low_at-ordered l Zero o = tt
low_at-ordered l One o = tt
low_at-ordered l (Branch m x y) o =
    elim (m == l) as (λ e. (m == l) ≡ e → IsOrderedFrom (l + 1) (cond e x (Branch m x y))) [
      | true ↦ λ e. weaken x (m + 1) (l + 1) (let s = (Decides-eqb m l).0 e in omega arith) o.1
      | false ↦ λ e. ((let n : m ≡ l → ⊥ = λ n. (let t = (Decides-eqb m l).1 n in cc) in let p = o.0 in omega (arith, n)), o.1, o.2)
    ] refl

high_at-ordered : (l : ℕ) (t : Tree) → IsOrderedFrom l t → IsOrderedFrom (l + 1) (high_at l t)
high_at-ordered l Zero o = tt
high_at-ordered l One o = tt
high_at-ordered l (Branch m x y) o =
    elim (m == l) as (λ e. (m == l) ≡ e → IsOrderedFrom (l + 1) (cond e y (Branch m x y))) [
      | true ↦ λ e. weaken y (m + 1) (l + 1) (let s = (Decides-eqb m l).0 e in omega arith) o.2
      | false ↦ λ e. ((let n : m ≡ l → ⊥ = λ n. (let t = (Decides-eqb m l).1 n in cc) in let p = o.0 in omega (arith, n)), o.1, o.2)
    ] refl

-- parts are no deeper, and at the root's level less deep
pub depth-low : (l : ℕ) (t : Tree) → (depth (low_at l t) ≤ depth t) × (depth (high_at l t) ≤ depth t)
depth-low l Zero = (omega arith, omega arith)
depth-low l One = (omega arith, omega arith)
depth-low l (Branch m x y) =
    elim (m == l) as (λ e. (depth (cond e x (Branch m x y)) ≤ depth (Branch m x y)) × (depth (cond e y (Branch m x y)) ≤ depth (Branch m x y)))
    [ true ↦ (omega arith, omega arith) | false ↦ (omega arith, omega arith) ]

pub depth-at_top : (l : ℕ) (t : Tree) → l < 65536 → top t ≡ l → (depth (low_at l t) < depth t) × (depth (high_at l t) < depth t)
depth-at_top l Zero s e = absurd (omega (arith, e))
depth-at_top l One s e = absurd (omega (arith, e))
depth-at_top l (Branch m x y) s e =
    let p = (Decides-eqb m l).1 e in
    subst (λ b. (depth (cond b x (Branch m x y)) < depth (Branch m x y)) × (depth (cond b y (Branch m x y)) < depth (Branch m x y))) (sym p) (omega arith, omega arith)

-- ---- the parts of an operation

-- what holds of the parts of an operation's tree
pub record Parts (f : Bool → Bool → Bool) (t : Table) (u v : ℕ) (s : Split) : Type 0 where
  pub whole : apply_tree f (tree_of t u) (tree_of t v) ≡ join s.level (apply_tree f (tree_of t s.left_low) (tree_of t s.right_low)) (apply_tree f (tree_of t s.left_high) (tree_of t s.right_high))
  pub below_low : s.level < top (apply_tree f (tree_of t s.left_low) (tree_of t s.right_low))
  pub below_high : s.level < top (apply_tree f (tree_of t s.left_high) (tree_of t s.right_high))
  pub depth_low : depth (tree_of t s.left_low) + depth (tree_of t s.right_low) < depth (tree_of t u) + depth (tree_of t v)
  pub depth_high : depth (tree_of t s.left_high) + depth (tree_of t s.right_high) < depth (tree_of t u) + depth (tree_of t v)

one_is_least : (m n l : ℕ) → l ≡ min m n → (m ≡ l) ⊎ (n ≡ l)
one_is_least m n l e = ⊎_elim (λ h. inl (omega (arith, h, e))) (λ h. inr (omega (arith, h, e))) (cases_lt m n)

below : (f : Bool → Bool → Bool) (l : ℕ) (a b x y : Tree) → l < 65536 → x ≡ a → y ≡ b → IsOrderedFrom (l + 1) a → IsOrderedFrom (l + 1) b → l < top (apply_tree f x y)
below f l a b x y small e g p q =
    let o : IsOrderedFrom (l + 1) x = subst (IsOrderedFrom (l + 1)) (sym e) p in let r : IsOrderedFrom (l + 1) y = subst (IsOrderedFrom (l + 1)) (sym g) q in
    let h = top_from_ordered (apply_tree f x y) (l + 1) (omega (arith, small)) (apply-ordered f x y (l + 1) o r) in omega (arith, h)

pub parts : (f : Bool → Bool → Bool) (t : Table) (u v : ℕ) (s : Split) → IsShared t → IsValid t u → IsValid t v → Splits t u v s → Parts f t u v s
parts f t u v s sh vu vv p =
    let l = s.level in let tu = tree_of t u in let tv = tree_of t v in
    let le_u : l ≤ top tu = (let e = p.least in omega (arith, e)) in
    let le_v : l ≤ top tv = (let e = p.least in omega (arith, e)) in
    let least : (top tu ≡ l) ⊎ (top tv ≡ l) = one_is_least (top tu) (top tv) l p.least in
    let ou = ordered_from_top tu l le_u (sh.ordered u vu) in let ov = ordered_from_top tv l le_v (sh.ordered v vv) in
    let ul = p.left_low.1 in let uh = p.left_high.1 in let vl = p.right_low.1 in let vh = p.right_high.1 in
    let du = depth-low l tu in let dv = depth-low l tv in
    record {
      whole = apply-step f tu tv l p.small le_u le_v least ∙ same_join f l _ _ _ _ _ _ _ _ ul vl uh vh;
      below_low = below f l (low_at l tu) (low_at l tv) (tree_of t s.left_low) (tree_of t s.right_low) p.small ul vl (low_at-ordered l tu ou) (low_at-ordered l tv ov);
      below_high = below f l (high_at l tu) (high_at l tv) (tree_of t s.left_high) (tree_of t s.right_high) p.small uh vh (high_at-ordered l tu ou) (high_at-ordered l tv ov);
      depth_low = ⊎_elim (λ m. (let d = depth-at_top l tu p.small m in omega (arith, ap depth ul, ap depth vl, d.0, dv.0)))
          (λ m. (let d = depth-at_top l tv p.small m in omega (arith, ap depth ul, ap depth vl, d.0, du.0))) least;
      depth_high = ⊎_elim (λ m. (let d = depth-at_top l tu p.small m in omega (arith, ap depth uh, ap depth vh, d.1, dv.1)))
          (λ m. (let d = depth-at_top l tv p.small m in omega (arith, ap depth uh, ap depth vh, d.1, du.1))) least;
    }
