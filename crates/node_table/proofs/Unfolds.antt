-- Laws of the trees under numbers.
use Rattle.std.proofs.Common.{◌≡◌, ℕ, zero, suc, ◌+◌, ◌<◌, ◌≤◌, refl, ap, sym, ◌∙◌, arith}
use Rattle.std.specs.Prelude.{true, Option, Some, None}
use Rattle.std.specs.Option.{is_some}
use Rattle.node_tree.specs.Tree.{Zero, One, Branch, top, IsOrderedFrom, IsReduced}
use Rattle.node_tree.proofs.Setting.{weaken}
use Rattle.node_table.specs.declared.node.Node.{Node}
use Rattle.node_table.specs.Unfold.{node_tree, tree_in, all_levels, all_levels-big, tree_at, is_valid, level_of, level_at, IsWell}

-- levels go no further than the leaves'
pub level_at-le : (f : ℕ → Option Node) → IsWell f → (h : ℕ) → level_at f h ≤ 65536
level_at-le f w zero = omega arith
level_at-le f w (suc zero) = omega arith
level_at-le f w (suc (suc k)) =
    elim (f (suc (suc k))) as (λ o. f (suc (suc k)) ≡ o → level_of o ≤ 65536)
    [ None ↦ λ e. omega arith | Some n ↦ λ e. omega (arith, w.level (suc (suc k)) n e) ] refl

-- with branches enough for the levels that are left, a tree is whole
pub enough : (f : ℕ → Option Node) → IsWell f → (n m h : ℕ) → 65536 < n + level_at f h → 65536 < m + level_at f h → tree_in f n h ≡ tree_in f m h
enough f w zero m h p q = absurd (omega (arith, level_at-le f w h))
enough f w (suc n) zero h p q = absurd (omega (arith, level_at-le f w h))
enough f w (suc n) (suc m) zero p q = refl
enough f w (suc n) (suc m) (suc zero) p q = refl
enough f w (suc n) (suc m) (suc (suc k)) p q =
    elim (f (suc (suc k))) as (λ o. f (suc (suc k)) ≡ o → 65536 < suc n + level_of o → 65536 < suc m + level_of o → node_tree o (tree_in f n) ≡ node_tree o (tree_in f m)) [
      | None ↦ λ e p q. refl
      | Some s ↦ λ e p q.
          let a = w.low (suc (suc k)) s e in let b = w.high (suc (suc k)) s e in
          let low = enough f w n m s.low (omega (arith, a.1)) (omega (arith, a.1)) in
          let high = enough f w n m s.high (omega (arith, b.1)) (omega (arith, b.1)) in
          cc (low, high)
    ] refl p q

-- a held node's tree is its Branch
pub tree_at-node : (f : ℕ → Option Node) → IsWell f → (h : ℕ) (s : Node) → f h ≡ Some s → tree_at f h ≡ Branch s.level (tree_at f s.low) (tree_at f s.high)
tree_at-node f w zero s e = let z = w.no_zero in cc
tree_at-node f w (suc zero) s e = let z = w.no_one in cc
tree_at-node f w (suc (suc k)) s e =
    enough f w all_levels (suc all_levels) (suc (suc k)) (omega (arith, all_levels-big)) (omega (arith, all_levels-big)) ∙ ap (λ o. node_tree o (tree_in f all_levels)) e

pub tree_at-zero : (f : ℕ → Option Node) → IsWell f → tree_at f 0 ≡ Zero
tree_at-zero f w = enough f w all_levels (suc all_levels) 0 (omega (arith, all_levels-big)) (omega (arith, all_levels-big))

pub tree_at-one : (f : ℕ → Option Node) → IsWell f → tree_at f 1 ≡ One
tree_at-one f w = enough f w all_levels (suc all_levels) 1 (omega (arith, all_levels-big)) (omega (arith, all_levels-big))

-- what was held keeps its tree where more is held
pub grown : (f g : ℕ → Option Node) → IsWell f → ((h : ℕ) (s : Node) → f h ≡ Some s → g h ≡ Some s) → (n h : ℕ) → is_valid f h ≡ true → tree_in f n h ≡ tree_in g n h
grown f g w more zero h v = refl
grown f g w more (suc n) zero v = refl
grown f g w more (suc n) (suc zero) v = refl
grown f g w more (suc n) (suc (suc k)) v =
    elim (f (suc (suc k))) as (λ o. f (suc (suc k)) ≡ o → is_some o ≡ true → node_tree o (tree_in f n) ≡ node_tree (g (suc (suc k))) (tree_in g n)) [
      | None ↦ λ e v. cc
      | Some s ↦ λ e v.
          let low = grown f g w more n s.low (w.low (suc (suc k)) s e).0 in
          let high = grown f g w more n s.high (w.high (suc (suc k)) s e).0 in
          let there = more (suc (suc k)) s e in
          cc (low, high) ∙ sym (ap (λ o. node_tree o (tree_in g n)) there)
    ] refl v

pub valid-grown : (f g : ℕ → Option Node) → ((h : ℕ) (s : Node) → f h ≡ Some s → g h ≡ Some s) → (h : ℕ) → is_valid f h ≡ true → is_valid g h ≡ true
valid-grown f g more zero v = refl
valid-grown f g more (suc zero) v = refl
valid-grown f g more (suc (suc k)) v =
    elim (f (suc (suc k))) as (λ o. f (suc (suc k)) ≡ o → is_some o ≡ true → is_some (g (suc (suc k))) ≡ true)
    [ None ↦ λ e v. cc | Some s ↦ λ e v. ap is_some (more (suc (suc k)) s e) ] refl v

same_slot : (s t : Node) → s.level ≡ t.level → s.low ≡ t.low → s.high ≡ t.high → s ≡ t
same_slot s t a b c =
    ap (λ (l : ℕ). record { level = l; low = s.low; high = s.high }) a
    ∙ ap (λ (l : ℕ). record { level = t.level; low = l; high = s.high }) b
    ∙ ap (λ (l : ℕ). record { level = t.level; low = t.low; high = l }) c

-- no two numbers have one tree
pub one_number : (f : ℕ → Option Node) → IsWell f → (n h k : ℕ) → is_valid f h ≡ true → is_valid f k ≡ true → 65536 < n + level_at f h → 65536 < n + level_at f k → tree_in f n h ≡ tree_in f n k → h ≡ k
one_number f w zero h k v u p q e = absurd (omega (arith, level_at-le f w h))
one_number f w (suc n) zero zero v u p q e = refl
one_number f w (suc n) zero (suc zero) v u p q e = cc
one_number f w (suc n) (suc zero) zero v u p q e = cc
one_number f w (suc n) (suc zero) (suc zero) v u p q e = refl
one_number f w (suc n) zero (suc (suc k)) v u p q e =
    elim (f (suc (suc k))) as (λ o. is_some o ≡ true → Zero ≡ node_tree o (tree_in f n) → zero ≡ suc (suc k))
    [ None ↦ λ u e. cc | Some s ↦ λ u e. cc ] u e
one_number f w (suc n) (suc zero) (suc (suc k)) v u p q e =
    elim (f (suc (suc k))) as (λ o. is_some o ≡ true → One ≡ node_tree o (tree_in f n) → suc zero ≡ suc (suc k))
    [ None ↦ λ u e. cc | Some s ↦ λ u e. cc ] u e
one_number f w (suc n) (suc (suc h)) zero v u p q e =
    elim (f (suc (suc h))) as (λ o. is_some o ≡ true → node_tree o (tree_in f n) ≡ Zero → suc (suc h) ≡ zero)
    [ None ↦ λ v e. cc | Some s ↦ λ v e. cc ] v e
one_number f w (suc n) (suc (suc h)) (suc zero) v u p q e =
    elim (f (suc (suc h))) as (λ o. is_some o ≡ true → node_tree o (tree_in f n) ≡ One → suc (suc h) ≡ suc zero)
    [ None ↦ λ v e. cc | Some s ↦ λ v e. cc ] v e
one_number f w (suc n) (suc (suc h)) (suc (suc k)) v u p q e =
    elim (f (suc (suc h))) as (λ o. f (suc (suc h)) ≡ o → is_some o ≡ true → 65536 < suc n + level_of o → node_tree o (tree_in f n) ≡ node_tree (f (suc (suc k))) (tree_in f n) → suc (suc h) ≡ suc (suc k)) [
      | None ↦ λ i v p e. cc
      | Some s ↦ λ i v p e.
          elim (f (suc (suc k))) as (λ o. f (suc (suc k)) ≡ o → is_some o ≡ true → 65536 < suc n + level_of o → node_tree (Some s) (tree_in f n) ≡ node_tree o (tree_in f n) → suc (suc h) ≡ suc (suc k)) [
            | None ↦ λ j u q e. cc
            | Some t ↦ λ j u q e.
                let a = w.low (suc (suc h)) s i in let b = w.low (suc (suc k)) t j in
                let c = w.high (suc (suc h)) s i in let d = w.high (suc (suc k)) t j in
                let level : s.level ≡ t.level = cc in
                let lows : tree_in f n s.low ≡ tree_in f n t.low = cc in
                let highs : tree_in f n s.high ≡ tree_in f n t.high = cc in
                let low = one_number f w n s.low t.low a.0 b.0 (omega (arith, a.1)) (omega (arith, b.1)) lows in
                let high = one_number f w n s.high t.high c.0 d.0 (omega (arith, c.1)) (omega (arith, d.1)) highs in
                w.single (suc (suc h)) (suc (suc k)) s i (j ∙ ap (λ z. Some z) (sym (same_slot s t level low high)))
          ] refl u q e
    ] refl v p e

-- a tree starts at its node's level, and is ordered and reduced
pub canonical_in : (f : ℕ → Option Node) → IsWell f → (n h : ℕ) → is_valid f h ≡ true → 65536 < n + level_at f h → (top (tree_in f n h) ≡ level_at f h) × IsOrderedFrom (level_at f h) (tree_in f n h) × IsReduced (tree_in f n h)
canonical_in f w zero h v p = absurd (omega (arith, level_at-le f w h))
canonical_in f w (suc n) zero v p = (refl, tt, tt)
canonical_in f w (suc n) (suc zero) v p = (refl, tt, tt)
canonical_in f w (suc n) (suc (suc k)) v p =
    elim (f (suc (suc k))) as (λ o. f (suc (suc k)) ≡ o → is_some o ≡ true → 65536 < suc n + level_of o → (top (node_tree o (tree_in f n)) ≡ level_of o) × IsOrderedFrom (level_of o) (node_tree o (tree_in f n)) × IsReduced (node_tree o (tree_in f n))) [
      | None ↦ λ i v p. cc
      | Some s ↦ λ i v p.
          let a = w.low (suc (suc k)) s i in let b = w.high (suc (suc k)) s i in
          let low = canonical_in f w n s.low a.0 (omega (arith, a.1)) in
          let high = canonical_in f w n s.high b.0 (omega (arith, b.1)) in (
            refl,
            (omega arith, weaken (tree_in f n s.low) (level_at f s.low) (s.level + 1) (omega (arith, a.1)) low.1, weaken (tree_in f n s.high) (level_at f s.high) (s.level + 1) (omega (arith, b.1)) high.1),
            ((λ e. w.apart (suc (suc k)) s i (one_number f w n s.low s.high a.0 b.0 (omega (arith, a.1)) (omega (arith, b.1)) e)), low.2, high.2),
          )
    ] refl v p

pub tree_at-one_number : (f : ℕ → Option Node) → IsWell f → (h k : ℕ) → is_valid f h ≡ true → is_valid f k ≡ true → tree_at f h ≡ tree_at f k → h ≡ k
tree_at-one_number f w h k v u e = one_number f w all_levels h k v u (omega (arith, all_levels-big)) (omega (arith, all_levels-big)) e

pub tree_at-canonical : (f : ℕ → Option Node) → IsWell f → (h : ℕ) → is_valid f h ≡ true → (top (tree_at f h) ≡ level_at f h) × IsOrderedFrom (level_at f h) (tree_at f h) × IsReduced (tree_at f h)
tree_at-canonical f w h v = canonical_in f w all_levels h v (omega (arith, all_levels-big))

-- a valid number from 2 on has a node
pub found_from_valid : (f : ℕ → Option Node) (h : ℕ) → 2 ≤ h → is_valid f h ≡ true → (s : Node) × (f h ≡ Some s)
found_from_valid f zero l v = absurd (omega (arith, l))
found_from_valid f (suc zero) l v = absurd (omega (arith, l))
found_from_valid f (suc (suc k)) l v =
    elim (f (suc (suc k))) as (λ o. is_some o ≡ true → (s : Node) × (o ≡ Some s)) [ None ↦ λ v. cc | Some s ↦ λ v. (s, refl) ] v
