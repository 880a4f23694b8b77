-- What the calls of the edit quantifiers_over_the_seen_texts_alone ask: with these it is refused for what it makes, and not for
-- what it calls. Nothing else cites this file.
use Rattle.std.proofs.Common.{◌≡◌, ℕ, zero, suc, ◌+◌, ◌<◌, ◌≤◌, List, [], ◌∷◌, ◌++◌, Bool, true, false, sym, arith, subst}
use Rattle.std.specs.Prelude.{◌/◌, ◌%◌, nat_eq, if◌then◌else◌, Result, Ok, Err}
use Rattle.std.specs.Result.{result_unwrap_or}
use Rattle.std.specs.List.{Contains}
use Rattle.node_tree.specs.Tree.{Tree, Zero, Branch, tree_eq, join}
use Rattle.node_tree.specs.Levels.{LevelsBelow}
use Rattle.node_table.specs.Table.{Table, tree_of, IsValid}
use Rattle.bdd_ops.specs.declared.code_cubes.BlockCode.{BlockCode}
use Rattle.bdd_ops.specs.declared.literals.Literal.{Literal}
use Rattle.bdd_ops.specs.declared.op.Op.{Op}
use Rattle.bdd_ops.specs.declared.store.NodesFull.{NodesFull}
use Rattle.bdd_ops.specs.Applied.{op_tree}
use Rattle.bdd_ops.specs.Codes.{literal_at, code_literals, block_code_literals}
use Rattle.bdd_ops.specs.Cube.{literal_tree, cube_tree, AscendFrom}
use Rattle.bdd_ops.specs.Numbers.{truth_of}
use Rattle.bdd_ops.specs.Operates.{Operates}
use Rattle.timed_bits.proofs.Others.{apply-below}
use Rattle.operation_rows.specs.declared.rows.RowFull.{RowFull}
use Rattle.operation_rows.specs.declared.updated.Updated.{Updated}
use Rattle.operation_rows.specs.Kinds.{one_row}
use Rattle.operation_rows.specs.Rows.{Update, MakesUpdate}
use Rattle.operation_rows.proofs.Lines.{stays_tree}

-- each literal's level is below n
abbrev pub AllBelow : ℕ → List Literal → Type 0
AllBelow n [] = Unit {0}
AllBelow n (l ∷ ls) = (l.level < n) × AllBelow n ls

all_append : (n m : ℕ) (xs : List Literal) (l : Literal) → n ≤ m → AllBelow n xs → l.level < m → AllBelow m (xs ++ l ∷ [])
all_append n m [] l h b k = (k, tt)
all_append n m (x ∷ xs) l h b k = (let e = b.0 in omega (arith, e, h), all_append n m xs l h b.1 k)

ascend_append : (n m : ℕ) (xs : List Literal) (l : Literal) → n ≤ l.level → AscendFrom n xs → AllBelow m xs → m ≤ l.level → AscendFrom n (xs ++ l ∷ [])
ascend_append n m [] l h a b k = (h, tt)
ascend_append n m (x ∷ xs) l h a b k = (a.0, ascend_append (x.level + 1) m xs l (let e = b.0 in omega (arith, e, k)) a.1 b.1 k)

code_below : (first n c : ℕ) → AllBelow (first + n) (code_literals first n c)
code_below first zero c = tt
code_below first (suc n) c = all_append (first + n) (first + suc n) (code_literals first n (c / 2)) (literal_at (first + n) (nat_eq (c % 2) 1)) (omega arith) (code_below first n (c / 2)) (omega arith)

code_ascends : (first n c : ℕ) → AscendFrom first (code_literals first n c)
code_ascends first zero c = tt
code_ascends first (suc n) c = ascend_append first (first + n) (code_literals first n (c / 2)) (literal_at (first + n) (nat_eq (c % 2) 1)) (omega arith) (code_ascends first n (c / 2)) (code_below first n (c / 2)) (omega arith)

from_none : (n : ℕ) (ls : List Literal) → AscendFrom n ls → AscendFrom 0 (ls ++ [])
from_none n [] a = tt
from_none n (l ∷ ls) a = (omega arith, rest (l.level + 1) ls a.1)
  where
    rest : (n : ℕ) (ls : List Literal) → AscendFrom n ls → AscendFrom n (ls ++ [])
    rest n [] a = tt
    rest n (l ∷ ls) a = (a.0, rest (l.level + 1) ls a.1)

-- the literals of one block's code ascend
pub one_ascends : (c : BlockCode) → AscendFrom 0 (block_code_literals c ++ [])
one_ascends c = from_none c.block.first (code_literals c.block.first c.block.bits c.code) (code_ascends c.block.first c.block.bits c.code)

join-below : (n l : ℕ) (u v : Tree) → l < n → LevelsBelow n u → LevelsBelow n v → LevelsBelow n (join l u v)
join-below n l u v p h k = by (tree_eq u v)
  where
    by : (b : Bool) → LevelsBelow n (if b then u else Branch l u v)
    by true = h
    by false = (p, h, k)

literal-below : (n : ℕ) (l : Literal) (t : Tree) → l.level < n → LevelsBelow n t → LevelsBelow n (literal_tree l t)
literal-below n l t p h = by l.bit
  where
    by : (b : Bool) → LevelsBelow n (if b then join l.level Zero t else join l.level t Zero)
    by true = join-below n l.level Zero t p tt h
    by false = join-below n l.level t Zero p h tt

cube-below : (n m : ℕ) (ls : List Literal) → n ≤ m → AllBelow n ls → LevelsBelow m (cube_tree (ls ++ []))
cube-below n m [] h b = tt
cube-below n m (l ∷ ls) h b = literal-below m l (cube_tree (ls ++ [])) (let e = b.0 in omega (arith, e, h)) (cube-below n m ls h b.1)

-- a root is valid after a row
pub root_valid : (u : Update) (x : Result Updated RowFull) (h : ℕ) (roots : List ℕ) (old mid : Table) → MakesUpdate u roots old mid x → Contains roots h → IsValid mid h
root_valid u x h roots old mid m c = (stays_tree old mid roots h m.roots_stay c).0

-- what an operation makes is valid, and so is its operand where it doesn't fit
pub made_valid : (tree : Tree) (u v : ℕ) (roots : List ℕ) (mid new : Table) (r : Result ℕ NodesFull) → Operates tree (u ∷ (v ∷ [])) roots mid new r → IsValid new (result_unwrap_or r u)
made_valid tree u v roots mid new (Ok k) o = o.valid
made_valid tree u v roots mid new (Err e) o = (o.operands_stay 0 (omega arith)).0

-- no level of it stands behind a block that no level of the operand stands behind, if the other is the cube of a code
pub made_deepest : (op : Op) (c : BlockCode) (n h : ℕ) (roots : List ℕ) (old mid new : Table) (x : Updated) (r : Result ℕ NodesFull) (k : ℕ) → k ≡ result_unwrap_or r h → c.block.first + c.block.bits ≤ n → LevelsBelow n (tree_of old h) →
    Contains roots h → MakesUpdate (one_row (cube_tree (block_code_literals c ++ []))) roots old mid (Ok x) → Operates (op_tree op mid h x.now) (h ∷ (x.now ∷ [])) roots mid new r →
    LevelsBelow n (tree_of new k)
made_deepest op c n h roots old mid new x r k e l b among m o =
    let operand : LevelsBelow n (tree_of mid h) = subst (LevelsBelow n) (sym (stays_tree old mid roots h m.roots_stay among).1) b in
    let code : LevelsBelow n (tree_of mid x.now) = subst (LevelsBelow n) (sym m.now.1) (cube-below (c.block.first + c.block.bits) n (code_literals c.block.first c.block.bits c.code) l (code_below c.block.first c.block.bits c.code)) in
    subst (λ (j : ℕ). LevelsBelow n (tree_of new j)) (sym e) (by r o operand (apply-below n (truth_of op) (tree_of mid h) (tree_of mid x.now) operand code))
  where
    by : (r : Result ℕ NodesFull) → Operates (op_tree op mid h x.now) (h ∷ (x.now ∷ [])) roots mid new r → LevelsBelow n (tree_of mid h) → LevelsBelow n (op_tree op mid h x.now) → LevelsBelow n (tree_of new (result_unwrap_or r h))
    by (Ok k) o p q = subst (LevelsBelow n) (sym o.is) q
    by (Err e) o p q = subst (LevelsBelow n) (sym (o.operands_stay 0 (omega arith)).1) p
