-- Cubes made from the codes of blocks.
use Rattle.std.proofs.Common.{◌≡◌, ℕ, zero, suc, ◌+◌, ◌-◌, ◌/◌, ◌%◌, ◌<◌, ◌≤◌, List, [], ◌∷◌, ◌++◌, length, drop, refl, ap, sym, ◌∙◌, arith, subst, append_assoc}
use Rattle.std.specs.Prelude.{Result, Ok, IsErr, nat_eq, slice_index_or}
use Rattle.std.proofs.lemmas.List.{drop_more}
use Rattle.node_tree.specs.Tree.{Tree, branches, IsOrdered, top}
use Rattle.node_tree.proofs.Joins.{ordered_from_top, top_from_ordered}
use Rattle.node_table.specs.declared.table.Full.{Full}
use Rattle.node_table.specs.Table.{Table, tree_of, IsShared}
use Rattle.bdd_ops.specs.declared.literals.Literal.{Literal}
use Rattle.bdd_ops.specs.declared.code_cubes.BlockCode.{BlockCode}
use Rattle.bdd_ops.specs.Applied.{Makes}
use Rattle.bdd_ops.specs.Cube.{literal_tree, cube_tree, cube_over, AscendFrom}
use Rattle.bdd_ops.specs.Codes.{literal_at, code_literals, block_code_literals, code_list_literals, HasLevels}
use Rattle.bdd_ops.proofs.Growing.{In, IsPart}
use Rattle.bdd_ops.proofs.Cubes.{literal-part, literal-ordered, cube-ordered, part_err, part_made}

-- ---- what stands over a tree

pub over_part : (ls : List Literal) (t : Tree) → IsPart t (cube_over ls t)
over_part [] t q m = m
over_part (l ∷ ls) t q m = literal-part l (cube_over ls t) q (over_part ls t q m)

over_append : (xs ys : List Literal) (t : Tree) → cube_over (xs ++ ys) t ≡ cube_over xs (cube_over ys t)
over_append [] ys t = refl
over_append (x ∷ xs) ys t = ap (literal_tree x) (over_append xs ys t)

over_cube : (xs ys : List Literal) → cube_tree (xs ++ ys) ≡ cube_over xs (cube_tree ys)
over_cube [] ys = refl
over_cube (x ∷ xs) ys = ap (literal_tree x) (over_cube xs ys)

-- ---- one bit of a code

-- the tree of n bits over that of the bit behind them is the tree of k bits
abbrev IsLast : (first c : ℕ) (t : Tree) (n k : ℕ) → Type 0
IsLast first c t n k = cube_over (code_literals first n (c / 2)) (literal_tree (literal_at (first + n) (nat_eq (c % 2) 1)) t) ≡ cube_over (code_literals first k c) t

pub bit_over : (first n c : ℕ) (t : Tree) → 1 ≤ n → IsLast first c t (n - 1) n
bit_over first n c t some = let e : suc (n - 1) ≡ n = omega (arith, some) in subst (λ (k : ℕ). IsLast first c t (n - 1) k) e (sym (over_append (code_literals first (n - 1) (c / 2)) _ t))

module _ (l : Literal) (t w x : Table) (m : ℕ) (before : Makes (tree_of w m) t w (Ok m)) where
  -- the bit was made over what stood
  pub bit_ok : (h : ℕ) → Makes (literal_tree l (tree_of w m)) w x (Ok h) → Makes (tree_of x h) t x (Ok h)
  bit_ok h b = subst (λ y. Makes y t x (Ok h)) (sym b.is) (part_made (tree_of w m) (literal_tree l (tree_of w m)) t w x m (Ok h) (literal-part l (tree_of w m)) before b)

  -- the bit had no room
  pub bit_err : (whole : Tree) (ls : List Literal) (r z : Result ℕ Full) → cube_over ls (literal_tree l (tree_of w m)) ≡ whole → IsShared t → IsErr r → IsErr z → Makes (literal_tree l
      (tree_of w m)) w x r → Makes whole t x z
  bit_err whole ls r z e s i j b =
      part_err (literal_tree l (tree_of w m)) whole t x r z (subst (IsPart (literal_tree l (tree_of w m))) e (over_part ls (literal_tree l (tree_of w m)))) s i j
      (part_made (tree_of w m) (literal_tree l (tree_of w m)) t w x m r (literal-part l (tree_of w m)) before b)

-- what a bit is made of stands at its level, or below
pub bit_below : (l : Literal) (t : Tree) → l.level < 65536 → l.level < top t → IsOrdered t → l.level ≤ top (literal_tree l t)
bit_below l t small b o =
    top_from_ordered (literal_tree l t) l.level (omega (arith, small)) (literal-ordered l t l.level (omega arith) (ordered_from_top t (l.level + 1) (omega (arith, b)) o))

-- ---- one code after another

ascend_after : (xs ys : List Literal) (n : ℕ) → AscendFrom n (xs ++ ys) → (m : ℕ) × AscendFrom m ys
ascend_after [] ys n a = (n, a)
ascend_after (x ∷ xs) ys n a = ascend_after xs ys (x.level + 1) a.1

ascend_code : (first n c m : ℕ) (ys : List Literal) → AscendFrom m (code_literals first (suc n) c ++ ys) → AscendFrom (first + n + 1) ys
ascend_code first n c m ys a =
    let last = literal_at (first + n) (nat_eq (c % 2) 1) in
    (ascend_after (code_literals first n (c / 2)) (last ∷ ys) m (subst (AscendFrom m) (append_assoc (code_literals first n (c / 2)) (last ∷ []) ys) a)).1.1

ascend_drop : (cs : List BlockCode) (k n : ℕ) → AscendFrom n (code_list_literals cs) → (m : ℕ) × AscendFrom m (code_list_literals (drop k cs))
ascend_drop cs zero n a = (n, a)
ascend_drop [] (suc k) n a = (n, a)
ascend_drop (c ∷ cs) (suc k) n a = let b = ascend_after (block_code_literals c) (code_list_literals cs) n a in ascend_drop cs k b.0 b.1

-- a block ends above what stands behind it
below_code : (first n c m : ℕ) (ys : List Literal) → first + n ≤ 65536 → AscendFrom m (code_literals first n c ++ ys) → 1 ≤ n → first + n ≤ top (cube_tree ys)
below_code first zero c m ys h a some = absurd (omega (arith, some))
below_code first (suc n) c m ys h a some =
    top_from_ordered (cube_tree ys) (first + suc n) h
    (let e : first + n + 1 ≡ first + suc n = omega arith in cube-ordered ys (first + suc n) (subst (λ (k : ℕ). AscendFrom k ys) e (ascend_code first n c m ys a)))

drop_part : (cs : List BlockCode) (k : ℕ) → IsPart (cube_tree (code_list_literals (drop k cs))) (cube_tree (code_list_literals cs))
drop_part cs zero q m = m
drop_part [] (suc k) q m = m
drop_part (c ∷ cs) (suc k) q m =
    subst (λ y. In (branches y) q) (sym (over_cube (block_code_literals c) (code_list_literals cs)))
    (over_part (block_code_literals c) (cube_tree (code_list_literals cs)) q (drop_part cs k q m))

module _ (cs : List BlockCode) (left : ℕ) (d : BlockCode) (some : 1 ≤ left) (few : left ≤ length cs) where
  abbrev At : BlockCode
  At = slice_index_or cs (left - 1) d

  abbrev Behind : Tree
  Behind = cube_tree (code_list_literals (drop left cs))

  abbrev Next : Tree
  Next = cube_tree (code_list_literals (drop (left - 1) cs))

  one_more : drop (left - 1) cs ≡ At ∷ drop left cs
  one_more = let e : left - 1 + 1 ≡ left = omega (arith, some) in drop_more cs (left - 1) d (omega (arith, some, few)) ∙ ap (λ (k : ℕ). At ∷ drop k cs) e

  next_is : cube_over (block_code_literals At) Behind ≡ Next
  next_is = sym (over_cube (block_code_literals At) (code_list_literals (drop left cs))) ∙ ap (λ x. cube_tree (code_list_literals x)) (sym one_more)

  -- the next block ends above what was made
  pub code_below : (made : Tree) → made ≡ cube_tree (code_list_literals (drop left cs)) → HasLevels (slice_index_or cs (left - 1) d) → AscendFrom 0 (code_list_literals cs) →
      1 ≤ (slice_index_or cs (left - 1) d).block.bits → (slice_index_or cs (left - 1) d).block.first + (slice_index_or cs (left - 1) d).block.bits ≤ top made
  code_below made e h a bits =
      let b = ascend_drop cs (left - 1) 0 a in
      subst (λ t. At.block.first + At.block.bits ≤ top t) (sym e)
      (below_code At.block.first At.block.bits At.code b.0 (code_list_literals (drop left cs)) h (subst (λ x. AscendFrom b.0 (code_list_literals x)) one_more b.1) bits)

  module _ (t w x : Table) (m : ℕ) (r : Result ℕ Full) (before : Makes (cube_tree (code_list_literals (drop left cs))) t w (Ok m))
      (b : Makes (cube_over (block_code_literals (slice_index_or cs (left - 1) d)) (tree_of w m)) w x r) where
    -- the next code was made over those behind it, or not
    pub code_more : Makes (cube_tree (code_list_literals (drop (left - 1) cs))) t x r
    code_more =
        part_made Behind Next t w x m r (subst (IsPart Behind) next_is (over_part (block_code_literals At) Behind)) before
        (subst (λ y. Makes y w x r) next_is (subst (λ y. Makes (cube_over (block_code_literals At) y) w x r) before.is b))

    -- it had no room
    pub code_err : (z : Result ℕ Full) → IsShared t → IsErr r → IsErr z → Makes (cube_tree (code_list_literals cs)) t x z
    code_err z s i j = part_err Next (cube_tree (code_list_literals cs)) t x r z (drop_part cs (left - 1)) s i j code_more

-- ---- lists of codes

pub code_list_literals-append : (xs ys : List BlockCode) → code_list_literals (xs ++ ys) ≡ code_list_literals xs ++ code_list_literals ys
code_list_literals-append [] ys = refl
code_list_literals-append (x ∷ xs) ys =
    ap (λ ls. block_code_literals x ++ ls) (code_list_literals-append xs ys) ∙ sym (append_assoc (block_code_literals x) (code_list_literals xs) (code_list_literals ys))
