-- Cubes are ordered and reduced, and hold where all their literals do.
use Rattle.std.proofs.Common.{◌≡◌, ℕ, ◌+◌, ◌<◌, ◌≤◌, List, [], ◌∷◌, length, take, drop, ◌-◌, cond, refl, ap, sym, ◌∙◌, arith, subst}
use Rattle.std.specs.Prelude.{Bool, true, false, ◌&&◌, not, Result, Ok, Err, IsErr, slice_index_or}
use Rattle.std.proofs.lemmas.List.{take_all}
use Rattle.node_tree.specs.Tree.{Tree, Zero, One, join, bit, value, branches, IsOrderedFrom}
use Rattle.node_tree.proofs.Joins.{join_low, join_high}
use Rattle.node_tree.proofs.Setting.{join_ordered, join_value}
use Rattle.bdd_ops.specs.declared.literals.Literal.{Literal}
use Rattle.bdd_ops.specs.Cube.{literal_tree, cube_tree, holds, all_hold, AscendFrom}
use Rattle.node_table.specs.declared.table.Full.{Full}
use Rattle.node_table.specs.Table.{Table, tree_of, IsShared}
use Rattle.bdd_ops.specs.Applied.{Grows, Makes}
use Rattle.bdd_ops.proofs.Growing.{In, IsPart, grows_none, widened, chained, full_back}
use Rattle.bdd_ops.proofs.Stages.{never, made_ok}

literal-value : (l : Literal) (t : Tree) (bits : List Bool) → value (literal_tree l t) bits ≡ (holds l bits && value t bits)
literal-value l t bits = by_bit l.bit
  where
    high : (x : Bool) → cond x (value t bits) false ≡ (x && value t bits)
    high true = refl
    high false = refl

    low : (x : Bool) → cond x false (value t bits) ≡ (not x && value t bits)
    low true = refl
    low false = refl

    by_bit : (b : Bool) → value (cond b (join l.level Zero t) (join l.level t Zero)) bits ≡ (cond b (bit bits l.level) (not (bit bits l.level)) && value t bits)
    by_bit true = join_value l.level Zero t bits ∙ high (bit bits l.level)
    by_bit false = join_value l.level t Zero bits ∙ low (bit bits l.level)

pub cube-value : (ls : List Literal) (bits : List Bool) → value (cube_tree ls) bits ≡ all_hold ls bits
cube-value [] bits = refl
cube-value (l ∷ ls) bits = literal-value l (cube_tree ls) bits ∙ ap (λ x. holds l bits && x) (cube-value ls bits)

pub literal-ordered : (l : Literal) (t : Tree) (n : ℕ) → n ≤ l.level → IsOrderedFrom (l.level + 1) t → IsOrderedFrom n (literal_tree l t)
literal-ordered l t n h o = by_bit l.bit
  where
    by_bit : (b : Bool) → IsOrderedFrom n (cond b (join l.level Zero t) (join l.level t Zero))
    by_bit true = join_ordered l.level n Zero t h tt o
    by_bit false = join_ordered l.level n t Zero h o tt

pub cube-ordered : (ls : List Literal) (n : ℕ) → AscendFrom n ls → IsOrderedFrom n (cube_tree ls)
cube-ordered [] n a = tt
cube-ordered (l ∷ ls) n a = literal-ordered l (cube_tree ls) n a.0 (cube-ordered ls (l.level + 1) a.1)

pub literal-part : (l : Literal) (t : Tree) → IsPart t (literal_tree l t)
literal-part l t q m = by_bit l.bit
  where
    by_bit : (b : Bool) → In (branches (cond b (join l.level Zero t) (join l.level t Zero))) q
    by_bit true = join_high l.level Zero t q m
    by_bit false = join_low l.level t Zero q m

-- ---- making a cube

pub low-made : (l : Literal) (t : Tree) → l.bit ≡ false → join l.level t Zero ≡ literal_tree l t
low-made l t e = ap (λ b. cond b (join l.level Zero t) (join l.level t Zero)) (sym e)

pub high-made : (l : Literal) (t : Tree) → l.bit ≡ true → join l.level Zero t ≡ literal_tree l t
high-made l t e = ap (λ b. cond b (join l.level Zero t) (join l.level t Zero)) (sym e)

-- a part had no room
pub part_err : (part whole : Tree) (t w : Table) (r z : Result ℕ Full) → IsPart part whole → IsShared t → IsErr r → IsErr z → Makes part t w r → Makes whole t w z
part_err part whole t w r (Ok h) p s e i m = absurd (never i)
part_err part whole t w (Ok h) (Err y) p s e i m = absurd (never e)
part_err part whole t w (Err x) (Err y) p s e i m = record {
  valid = tt;
  is = tt;
  grows = widened t w part whole p m.grows;
  full = (λ y. full_back t t part whole (grows_none t whole s) p (m.full.0 refl), λ y. refl);
}

-- a part was made, and then the whole or not
pub part_made : (part whole : Tree) (t w x : Table) (h : ℕ) (r : Result ℕ Full) → IsPart part whole → Makes part t w (Ok h) → Makes whole w x r → Makes whole t x r
part_made part whole t w x h r p m n = let g = widened t w part whole p m.grows in ends r n (chained t w x whole g n.grows) g
  where
    ends : (r : Result ℕ Full) → Makes whole w x r → Grows t x whole → Grows t w whole → Makes whole t x r
    ends (Ok k) n g i = made_ok t x whole k n.valid n.is g
    ends (Err e) n g i = record { valid = tt; is = tt; grows = g; full = (λ y. full_back t w whole whole i (λ q m. m) (n.full.0 refl), λ y. refl) }

-- the rest of a cube had no room
pub cube-err : (l : Literal) (ls : List Literal) (t w : Table) (r z : Result ℕ Full) → IsShared t → IsErr r → IsErr z → Makes (cube_tree ls) t w r → Makes (cube_tree (l ∷ ls)) t w z
cube-err l ls t w r z = part_err (cube_tree ls) (cube_tree (l ∷ ls)) t w r z (literal-part l (cube_tree ls))

-- the rest of a cube was made, and its first literal or not
pub cube-made : (l : Literal) (ls : List Literal) (t w x : Table) (h : ℕ) (r : Result ℕ Full) → Makes (cube_tree ls) t w (Ok h) → Makes (literal_tree l (tree_of w h)) w x r → Makes
    (cube_tree (l ∷ ls)) t x r
cube-made l ls t w x h r m n =
    part_made (cube_tree ls) (cube_tree (l ∷ ls)) t w x h r (literal-part l (cube_tree ls)) m (subst (λ y. Makes (literal_tree l y) w x r) m.is n)

pub no_literals : (ls : List Literal) → length ls < 1 → One ≡ cube_tree ls
no_literals [] h = refl
no_literals (l ∷ ls) h = absurd (omega (arith, h))

-- a cube by its first literal and the rest
pub cube-again : (ls : List Literal) (d : Literal) (t w x : Table) (h : ℕ) (r : Result ℕ Full) → 1 ≤ length ls → Makes (cube_tree (take (length ls - 1) (drop 1 ls))) t w (Ok h) → Makes
    (literal_tree (slice_index_or ls 0 d) (tree_of w h)) w x r → Makes (cube_tree ls) t x r
cube-again [] d t w x h r some m n = absurd (omega (arith, some))
cube-again (l ∷ ls) d t w x h r some m n =
    let e : length (l ∷ ls) - 1 ≡ length ls = omega arith in
    let all : take (length (l ∷ ls) - 1) ls ≡ ls = ap (λ (k : ℕ). take k ls) e ∙ take_all (length ls) ls (omega arith) in
    cube-made l ls t w x h r (subst (λ y. Makes (cube_tree y) t w (Ok h)) all m) n
