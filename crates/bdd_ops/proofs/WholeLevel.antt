-- Whole operations that take a level out of a tree.
use Rattle.std.proofs.Common.{◌≡◌, ℕ, zero, suc, ◌+◌, ◌*◌, ◌<◌, ◌≤◌, List, [], ◌∷◌, length, ap, ◌∙◌, sym, refl, arith, subst}
use Rattle.std.specs.Prelude.{Bool, Result, Ok, Err, IfOk, slice_index_or}
use Rattle.node_tree.specs.Tree.{Tree, value}
use Rattle.node_tree.specs.Restrict.{restrict, with_bit}
use Rattle.node_tree.proofs.Setting.{restrict_value}
use Rattle.node_table.specs.declared.table.Full.{Full}
use Rattle.node_table.specs.Table.{Table, tree_of, IsValid, KeepsTrees, IsShared}
use Rattle.node_table.specs.Collects.{AllValid, Collects}
use Rattle.op_cache.specs.Memo.{Memo, IsMemo}
use Rattle.bdd_ops.specs.declared.level.Merge.{Merge}
use Rattle.bdd_ops.specs.declared.store.NodesFull.{NodesFull}
use Rattle.bdd_ops.specs.Applied.{Makes, HoldsResults}
use Rattle.bdd_ops.specs.Level.{at_level, merged, child, HoldsTrees, Changes}
use Rattle.bdd_ops.specs.Shelf.{Shelf, handle_pairs, try_steps, IsLarge}
use Rattle.bdd_ops.specs.Operates.{AllStay, Operates}
use Rattle.bdd_ops.proofs.Memo.{sound_empty}
use Rattle.bdd_ops.proofs.LevelLaws.{restrict-is}
use Rattle.bdd_ops.proofs.Rest.{remembers_none}
use Rattle.bdd_ops.proofs.LevelBounds.{change_closely, try_few}
use Rattle.bdd_ops.proofs.Tries.{stay_valid, tried_before, first_ok, stay_collected, again_ok, again_full}

-- an empty memo holds nothing wrong
pub nothing_wrong : (x : Shelf) (t : Table) (m : Memo ℕ) → record { table = t; memo = m } ≡ x → x.memo.pairs ≡ [] → HoldsResults t m.pairs
nothing_wrong x t m e none = subst (HoldsResults t) (sym (ap (λ (y : Shelf). y.memo.pairs) e ∙ none)) (sound_empty t)

pub nothing_remembered : (f : Tree → Tree) (n : ℕ) (x : Shelf) (t : Table) (m : Memo ℕ) → record { table = t; memo = m } ≡ x → x.memo.pairs ≡ [] → HoldsTrees f n t m.pairs
nothing_remembered f n x t m e none = subst (HoldsTrees f n t) (sym (ap (λ (y : Shelf). y.memo.pairs) e ∙ none)) (remembers_none f n t)

pub level_closely : (k : Merge) (level h : ℕ) (x : Shelf) (t w : Table) (m n : Memo ℕ) (s j : ℕ) (r : Result ℕ Full) → record { table = t; memo = m } ≡ x → x.memo.pairs ≡ [] → IsShared t →
    IsValid t h → IsMemo n → Changes k level h t w m n s j r → IsLarge x → j ≤ s + try_steps x.table
level_closely k level h x t w m n s j r e none sh vh memo a =
    let empty : m.pairs ≡ [] = ap (λ (y : Shelf). y.memo.pairs) e ∙ none in
    subst (λ (y : Shelf). IsLarge y → j ≤ s + try_steps y.table) e (λ large. change_closely k level h t w m n s j r sh vh empty large memo a)

pub level_bounded : (k : Merge) (level h : ℕ) (x : Shelf) (t w : Table) (m n : Memo ℕ) (s j : ℕ) (r : Result ℕ Full) → record { table = t; memo = m } ≡ x → x.memo.pairs ≡ [] → IsShared t →
    IsValid t h → IsMemo n → Changes k level h t w m n s j r → IsLarge x → j ≤ s + 3 * handle_pairs x.table
level_bounded k level h x t w m n s j r e none sh vh memo a large =
    let c = level_closely k level h x t w m n s j r e none sh vh memo a large in let d = try_few x.table in omega (arith, c, d)

pub same_first : (xs : List ℕ) (d : ℕ) → 0 < length xs → slice_index_or xs 0 d ≡ slice_index_or xs 0 0
same_first [] d l = absurd (omega (arith, l))
same_first (x ∷ xs) d l = refl

module _ (f : Tree → Tree) (operands roots : List ℕ) (some : 0 < length operands) (h : ℕ) (eh : h ≡ slice_index_or operands 0 0) (t r : Table) (room : r.room ≡ t.room) (so : AllStay t r
    operands) (sr : AllStay t r roots) (p : Table) (e : p ≡ r) where
  abbrev first : ℕ
  first = slice_index_or operands 0 0

  -- what was begun over a store that was made ready
  began : (new : Table) (z : Result ℕ NodesFull) → Operates (f (tree_of r first)) operands roots r new z → Operates (f (tree_of t first)) operands roots t new z
  began new z o = tried_before (f (tree_of t first)) operands roots t r new z room so sr (subst (λ x. Operates x operands roots r new z) (ap f (so 0 some).1) o)

  -- the first try made the tree
  pub first_made : (new : Table) (made : ℕ) → Makes (f (tree_of p h)) p new (Ok made) → Operates (f (tree_of t first)) operands roots t new (Ok made)
  first_made new made m =
      began new (Ok made) (first_ok (f (tree_of r first)) operands roots r new made (stay_valid t r operands so) (stay_valid t r roots sr)
      (subst (λ x. Makes (f (tree_of x first)) x new (Ok made)) e (subst (λ y. Makes (f (tree_of p y)) p new (Ok made)) eh m)))

  module _ (mid w new : Table) (k : KeepsTrees p mid) (c : Collects mid w roots operands) where
    kept : KeepsTrees r mid
    kept = subst (λ x. KeepsTrees x mid) e k

    same : f (tree_of w h) ≡ f (tree_of r first)
    same = ap (λ x. f (tree_of w x)) eh ∙ ap f ((stay_collected (f (tree_of r first)) operands roots r mid w new kept (stay_valid t r operands so) (stay_valid t r roots sr) c).0 0 some).1

    -- the second try made it
    pub again_made : (made : ℕ) → Makes (f (tree_of w h)) w new (Ok made) → Operates (f (tree_of t first)) operands roots t new (Ok made)
    again_made made m = began new (Ok made) (again_ok (f (tree_of r first)) operands roots r mid w new kept (stay_valid t r operands so) (stay_valid t r roots sr) c made (subst (λ x. Makes x
        w new (Ok made)) same m))

    -- nor had the second try room
    pub again_none : (x : NodesFull) (z : Full) → Makes (f (tree_of w h)) w new (Err z) → Operates (f (tree_of t first)) operands roots t new (Err x)
    again_none x z m = began new (Err x) (again_full (f (tree_of r first)) operands roots r mid w new kept (stay_valid t r operands so) (stay_valid t r roots sr) c x z (subst (λ y. Makes y w
        new (Err z)) same m))

-- one handle is a list of valid ones
pub one_valid : (t : Table) (h : ℕ) → IsValid t h → AllValid t (h ∷ [])
one_valid t h v zero l = v
one_valid t h v (suc j) l = absurd (omega (arith, l))

-- restriction, as taking a child
pub restricts : (level : ℕ) (bit : Bool) (h : ℕ) (roots : List ℕ) (t new : Table) (k : Merge) (r : Result ℕ NodesFull) → k ≡ child bit → Operates (at_level (merged k) level (tree_of t h)) (h
    ∷ []) roots t new r → Operates (restrict level bit (tree_of t h)) (h ∷ []) roots t new r
restricts level bit h roots t new k r e o = subst (λ x. Operates x (h ∷ []) roots t new r) (ap (λ y. at_level (merged y) level (tree_of t h)) e ∙ restrict-is level bit (tree_of t h)) o

pub restrict_values : (level : ℕ) (bit : Bool) (h : ℕ) (t new : Table) (r : Result ℕ NodesFull) → IsShared t → IsValid t h → IfOk r (λ n. tree_of new n ≡ restrict level bit (tree_of t h)) →
    IfOk r (λ n. (bits : List Bool) → value (tree_of new n) bits ≡ value (tree_of t h) (with_bit bits level bit))
restrict_values level bit h t new (Ok n) sh v e = λ bits. ap (λ x. value x bits) e ∙ restrict_value level bit (tree_of t h) 0 (sh.ordered h v) bits
restrict_values level bit h t new (Err e) sh v i = tt
