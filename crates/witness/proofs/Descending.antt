-- Setting a block's bits goes down to the blocks behind it.
use Rattle.std.proofs.Common.{◌≡◌, ℕ, zero, suc, ◌+◌, ◌-◌, ◌*◌, ◌^◌, ◌<◌, ◌≤◌, ⊎_elim, sym, subst, arith, mul-le-mul_right, Bool, true, false, cond, List, [], ◌∷◌}
use Rattle.std.specs.Prelude.{nat_le, nat_eq}
use Rattle.std.specs.List.{AllByRecursion}
use Rattle.node_tree.specs.Tree.{Tree, Zero, One, Branch, IsOrdered, IsOrderedFrom, IsReduced}
use Rattle.node_tree.specs.Restrict.{restrict}
use Rattle.node_tree.specs.Levels.{AllLevels}
use Rattle.node_tree.proofs.Setting.{restrict_reduced, weaken}
use Rattle.bdd_ops.specs.Reading.{set_block}
use Rattle.bdd_ops.proofs.Walks.{below_next}
use Rattle.monitor_model.specs.Setting.{Setting, first_of}
use Rattle.monitor_model.proofs.Shapes.Levels.{join_levels}
use Rattle.witness.specs.Turns.{HasTurns, IsLevelOf}

-- the levels that are left

module _ (P : ℕ → Type 0) where
  either_levels : (b : Bool) (t u : Tree) → AllLevels P t → AllLevels P u → AllLevels P (cond b t u)
  either_levels true t u h k = h
  either_levels false t u h k = k

  restrict_levels : (l : ℕ) (v : Bool) (t : Tree) → AllLevels P t → AllLevels P (restrict l v t)
  restrict_levels l v Zero h = tt
  restrict_levels l v One h = tt
  restrict_levels l v (Branch m a b) h =
      either_levels (nat_eq m l) _ _ (either_levels v b a h.2 h.1) (join_levels P m _ _ h.0 (restrict_levels l v a h.1) (restrict_levels l v b h.2))

  pub block_levels : (n first code : ℕ) (t : Tree) → AllLevels P t → AllLevels P (set_block first n code t)
  block_levels zero first code t h = h
  block_levels (suc n) first code t h =
      either_levels (nat_le (2 ^ n) code) _ _
      (block_levels n (first + 1) (code - 2 ^ n) (restrict first true t) (restrict_levels first true t h))
      (block_levels n (first + 1) code (restrict first false t) (restrict_levels first false t h))

either_from : (b : Bool) (n : ℕ) (t u : Tree) → IsOrderedFrom n t → IsOrderedFrom n u → IsOrderedFrom n (cond b t u)
either_from true n t u h k = h
either_from false n t u h k = k

pub block_behind : (n first code : ℕ) (t : Tree) → IsOrderedFrom first t → IsReduced t → IsOrderedFrom (first + n) (set_block first n code t)
block_behind zero first code t o r = let z : first + 0 ≡ first = omega arith in subst (λ (k : ℕ). IsOrderedFrom k t) (sym z) o
block_behind (suc n) first code t o r =
    let z : first + 1 + n ≡ first + suc n = omega arith in
    subst (λ (k : ℕ). IsOrderedFrom k (set_block first (suc n) code t)) z
    (either_from (nat_le (2 ^ n) code) (first + 1 + n) _ _
    (block_behind n (first + 1) (code - 2 ^ n) (restrict first true t) (below_next first true t o r) (restrict_reduced first true t r))
    (block_behind n (first + 1) code (restrict first false t) (below_next first false t o r) (restrict_reduced first false t r)))

-- a tree whose levels are at least n is ordered from there on
ordered_at : (n : ℕ) (t : Tree) → IsOrdered t → AllLevels (λ l. n ≤ l) t → IsOrderedFrom n t
ordered_at n Zero o h = tt
ordered_at n One o h = tt
ordered_at n (Branch l a b) o h = (h.0, o.1, o.2)

-- of an ordered tree no level is less than where it begins
from_levels : (n : ℕ) (t : Tree) → IsOrderedFrom n t → AllLevels (λ l. n ≤ l) t
from_levels n Zero o = tt
from_levels n One o = tt
from_levels n (Branch l a b) o =
    let low = o.0 in
    (low, from_levels n a (weaken a (l + 1) n (omega arith) o.1), from_levels n b (weaken b (l + 1) n (omega arith) o.2))

map_two : (P Q R : ℕ → Type 0) → ((l : ℕ) → P l → Q l → R l) → (t : Tree) → AllLevels P t → AllLevels Q t → AllLevels R t
map_two P Q R f Zero h k = tt
map_two P Q R f One h k = tt
map_two P Q R f (Branch l a b) h k = (f l h.0 k.0, map_two P Q R f a h.1 k.1, map_two P Q R f b h.2 k.2)

-- the blocks of later variables lie behind an earlier one
times_more : (x y b : ℕ) → x < y → x * b + b ≤ y * b
times_more x y b l =
    let more = mul-le-mul_right {m = x + 1} {n = y} b (omega (arith, l)) in
    let next : (x + 1) * b ≡ x * b + b = omega arith in
    omega (arith, more, next)

module _ (s : Setting) where
  -- a level of a variable that is greater than x lies behind the block of x
  behind : (x l : ℕ) (ys : List ℕ) → AllByRecursion (λ y. x < y) ys → IsLevelOf s ys l → first_of s x + s.bits ≤ l
  behind x l [] h at = absurd at
  behind x l (y ∷ ys) h at = ⊎_elim (λ here. let m = times_more x y s.bits h.0 in let k = here.0 in omega (arith, m, k)) (behind x l ys h.1) at

  -- the first variable's block is the first that there is
  pub turns_first : (x : ℕ) (later : List ℕ) (t : Tree) → AllByRecursion (λ y. x < y) later → IsOrdered t → HasTurns s (x ∷ later) t → IsOrderedFrom (first_of s x) t
  turns_first x later t h o turns =
      ordered_at (first_of s x) t o
      (map_two (IsLevelOf s (x ∷ later)) (IsLevelOf s (x ∷ later)) (λ l. first_of s x ≤ l)
      (λ l at same. ⊎_elim (λ here. here.0) (λ there. let b = behind x l later h there in omega (arith, b)) at) t turns turns)

  -- with its bits set, the levels are those of the later ones
  pub turns_later : (x code : ℕ) (later : List ℕ) (t : Tree) → IsOrderedFrom (first_of s x) t → IsReduced t → HasTurns s (x ∷ later) t →
      HasTurns s later (set_block (first_of s x) s.bits code t)
  turns_later x code later t o r turns =
      map_two (IsLevelOf s (x ∷ later)) (λ l. first_of s x + s.bits ≤ l) (IsLevelOf s later)
      (λ l at low. ⊎_elim (λ here. let high = here.1 in absurd (omega (arith, high, low))) (λ there. there) at)
      (set_block (first_of s x) s.bits code t)
      (block_levels (IsLevelOf s (x ∷ later)) s.bits (first_of s x) code t turns)
      (from_levels (first_of s x + s.bits) (set_block (first_of s x) s.bits code t) (block_behind s.bits (first_of s x) code t o r))
