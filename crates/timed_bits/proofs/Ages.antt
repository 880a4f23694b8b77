-- What the operations make of ages.
use Rattle.std.proofs.Common.{◌≡◌, ℕ, zero, suc, ◌+◌, ◌^◌, ◌<◌, ◌≤◌, ◌⊎◌, inl, inr, List, Bool, true, false, cond, ◌&&◌, ◌||◌, Option, Some, None, refl, sym, ap, ◌∙◌, arith}
use Rattle.std.specs.Prelude.{nat_lt, nat_le, nat_eq, IfSome}
use Rattle.std.proofs.lemmas.Bool.{cond_both, leb-true, leb-false, ltb-true}
use Rattle.std.proofs.lemmas.Bool.Decides.{Decides-ltb}
use Rattle.node_tree.specs.Tree.{Tree, Zero, One, Branch, tree_eq, bit, value, join, IsOrderedFrom, IsOrdered, IsReduced}
use Rattle.node_tree.specs.Levels.{LevelsBelow}
use Rattle.node_tree.proofs.OneTree.{one_tree}
use Rattle.bdd_ops.specs.Apply.{leaf_of}
use Rattle.timed_bits.specs.Ages.{spelled, is_age, SameBefore, HasAges}
use Rattle.timed_bits.specs.Changes.{chain_of, read_on, at_entries, dropped, capped, is_there, stamped, is_one, age_where, either_age, age_drop, age_cap, any_time, at_time, stamp}
use Rattle.timed_bits.specs.Entries.{entry, age_at, SaysOfAge}
use Rattle.timed_bits.proofs.Bits.{double}
use Rattle.timed_bits.proofs.Chains.{chain_of-ordered, chain_of-reduced, chain_of-value}
use Rattle.timed_bits.proofs.Entries.{age-read, entry-same, at_entries-value, IsFit, at_entries-ordered, at_entries-reduced}

or_false : (b : Bool) → (b || false) ≡ b
or_false true = refl
or_false false = refl

power : (width : ℕ) → 0 < 2 ^ width
power zero = omega arith
power (suc w) = let h = power w in let e = double w in omega (arith, h, e)

leaf_of-ordered : (first : ℕ) (b : Bool) → IsOrderedFrom first (leaf_of b)
leaf_of-ordered first true = tt
leaf_of-ordered first false = tt

leaf_of-reduced : (b : Bool) → IsReduced (leaf_of b)
leaf_of-reduced true = tt
leaf_of-reduced false = tt

-- a chain, or a truth, fits at an entry
pub chains-fit : (first width : ℕ) (f : Tree → Option ℕ) → IsFit first (λ u. chain_of first width (f u))
chains-fit first width f = record { ordered = λ u. chain_of-ordered first width (f u); reduced = λ u. chain_of-reduced first width (f u) }

pub leaves-fit : (first : ℕ) (f : Tree → Bool) → IsFit first (λ u. leaf_of (f u))
leaves-fit first f = record { ordered = λ u. leaf_of-ordered first (f u); reduced = λ u. leaf_of-reduced (f u) }

-- ages that move

moved : (first width : ℕ) (t : Tree) (age : List Bool → Option ℕ) (f : Option ℕ → Option ℕ) → HasAges first width t age → ((o : Option ℕ) → IfSome (f o) (λ a. a < 2 ^ width)) →
    HasAges first width (at_entries first (λ u. chain_of first width (f (read_on 0 u))) t) (λ bits. f (age bits))
moved first width t age f h small = record {
  ordered = at_entries-ordered first (λ u. chain_of first width (f (read_on 0 u))) (chains-fit first width (λ u. f (read_on 0 u))) t 0 (omega arith) h.ordered;
  reduced = at_entries-reduced first (λ u. chain_of first width (f (read_on 0 u))) (chains-fit first width (λ u. f (read_on 0 u))) t;
  fits = λ bits. small (age bits);
  before = λ bits other e. ap f (h.before bits other e);
  values = λ bits.
      at_entries-value first (λ u. chain_of first width (f (read_on 0 u))) t bits
      ∙ (ap (λ o. value (chain_of first width (f o)) bits) (age-read first width t age h bits)
      ∙ chain_of-value first width (f (age bits)) bits (small (age bits)));
}

pub dropped-fits : (width delta most : ℕ) (o : Option ℕ) → most < 2 ^ width → IfSome (dropped delta most o) (λ a. a < 2 ^ width)
dropped-fits width delta most None h = tt
dropped-fits width delta most (Some a) h =
    cond_both (nat_le (a + delta) most) (Some (a + delta)) None (λ o. IfSome o (λ a. a < 2 ^ width))
    (λ e. (let le = leb-true (a + delta) most e in omega (arith, le, h))) (λ e. tt)

pub capped-fits : (width delta cap : ℕ) (o : Option ℕ) → cap < 2 ^ width → IfSome (capped delta cap o) (λ a. a < 2 ^ width)
capped-fits width delta cap None h = tt
capped-fits width delta cap (Some a) h = omega arith

-- age_drop drops each age
pub age_drop-ages : (first width delta most : ℕ) (t : Tree) (age : List Bool → Option ℕ) → most < 2 ^ width → HasAges first width t age →
    HasAges first width (age_drop first width delta most t) (λ bits. dropped delta most (age bits))
age_drop-ages first width delta most t age m h = moved first width t age (dropped delta most) h (λ o. dropped-fits width delta most o m)

-- age_cap caps each age
pub age_cap-ages : (first width delta cap : ℕ) (t : Tree) (age : List Bool → Option ℕ) → cap < 2 ^ width → HasAges first width t age →
    HasAges first width (age_cap first width delta cap t) (λ bits. capped delta cap (age bits))
age_cap-ages first width delta cap t age m h = moved first width t age (capped delta cap) h (λ o. capped-fits width delta cap o m)

-- truths of ages

leaf_of-value : (b : Bool) (bits : List Bool) → value (leaf_of b) bits ≡ b
leaf_of-value true bits = refl
leaf_of-value false bits = refl

leaf_of-before : (first : ℕ) (b : Bool) → LevelsBelow first (leaf_of b)
leaf_of-before first true = tt
leaf_of-before first false = tt

leaves-before : (first : ℕ) (g : Tree → Bool) (t : Tree) → LevelsBelow first (at_entries first (λ u. leaf_of (g u)) t)
leaves-before first g Zero = leaf_of-before first (g Zero)
leaves-before first g One = leaf_of-before first (g One)
leaves-before first g (Branch l a b) =
    let x = at_entries first (λ u. leaf_of (g u)) a in let y = at_entries first (λ u. leaf_of (g u)) b in
    cond_both (nat_lt l first) (join l x y) (leaf_of (g (Branch l a b))) (LevelsBelow first)
    (λ e. cond_both (tree_eq x y) x (Branch l x y) (LevelsBelow first) (λ i. leaves-before first g a) (λ i. (ltb-true l first e, leaves-before first g a, leaves-before first g b)))
    (λ e. leaf_of-before first (g (Branch l a b)))

says : (first width : ℕ) (t : Tree) (age : List Bool → Option ℕ) (f : Option ℕ → Bool) → HasAges first width t age →
    SaysOfAge first (at_entries first (λ u. leaf_of (f (read_on 0 u))) t) (λ bits. f (age bits))
says first width t age f h = record {
  ordered = at_entries-ordered first (λ u. leaf_of (f (read_on 0 u))) (leaves-fit first (λ u. f (read_on 0 u))) t 0 (omega arith) h.ordered;
  reduced = at_entries-reduced first (λ u. leaf_of (f (read_on 0 u))) (leaves-fit first (λ u. f (read_on 0 u))) t;
  stands = leaves-before first (λ u. f (read_on 0 u)) t;
  values = λ bits.
      at_entries-value first (λ u. leaf_of (f (read_on 0 u))) t bits
      ∙ (leaf_of-value (f (age_at first t bits)) bits ∙ ap f (age-read first width t age h bits));
}

-- any_time says whether there is an age
pub any_time-says : (first width : ℕ) (t : Tree) (age : List Bool → Option ℕ) → HasAges first width t age →
    SaysOfAge first (any_time first width t) (λ bits. is_there (age bits))
any_time-says first width t age h = says first width t age is_there h

-- at_time says whether the age is n
pub at_time-says : (first width n : ℕ) (t : Tree) (age : List Bool → Option ℕ) → HasAges first width t age →
    SaysOfAge first (at_time first width n t) (λ bits. is_age (age bits) n)
at_time-says first width n t age h = says first width t age (λ o. is_age o n) h

-- the stamp

pub is_one-leaf_of : (b : Bool) → is_one (leaf_of b) ≡ b
is_one-leaf_of true = refl
is_one-leaf_of false = refl

-- a tree before the block has a leaf at each entry
pub entry-leaf : (first : ℕ) (t : Tree) (bits : List Bool) → LevelsBelow first t → entry first t bits ≡ leaf_of (value t bits)
entry-leaf first Zero bits h = refl
entry-leaf first One bits h = refl
entry-leaf first (Branch l a b) bits h =
    cond_both (nat_lt l first) _ _ (λ u. u ≡ leaf_of (value (Branch l a b) bits))
    (λ e. elim (bit bits l) as (λ x. cond x (entry first b bits) (entry first a bits) ≡ leaf_of (cond x (value b bits) (value a bits)))
    [ true ↦ entry-leaf first b bits h.2 | false ↦ entry-leaf first a bits h.1 ])
    (λ e. absurd (let f : nat_lt l first ≡ true = (Decides-ltb l first).1 h.0 in cc))

stamped-fits : (width : ℕ) (b : Bool) → IfSome (stamped b) (λ a. a < 2 ^ width)
stamped-fits width false = tt
stamped-fits width true = power width

-- a tree before the block looks at bits before the block alone
pub value-before : (first : ℕ) (t : Tree) → LevelsBelow first t → (bits other : List Bool) → SameBefore first bits other → value t bits ≡ value t other
value-before first t h bits other e =
    sym (is_one-leaf_of (value t bits))
    ∙ (ap is_one (sym (entry-leaf first t bits h) ∙ (entry-same first t bits other e ∙ entry-leaf first t other h)) ∙ is_one-leaf_of (value t other))

-- the stamp has age 0 where the tree is true
pub stamp-ages : (first width : ℕ) (t : Tree) → IsOrdered t → IsReduced t → LevelsBelow first t → HasAges first width (stamp first width t) (λ bits. stamped (value t bits))
stamp-ages first width t o r h = record {
  ordered = at_entries-ordered first (λ u. chain_of first width (stamped (is_one u))) (chains-fit first width (λ u. stamped (is_one u))) t 0 (omega arith) o;
  reduced = at_entries-reduced first (λ u. chain_of first width (stamped (is_one u))) (chains-fit first width (λ u. stamped (is_one u))) t;
  fits = λ bits. stamped-fits width (value t bits);
  before = λ bits other e. ap stamped (value-before first t h bits other e);
  values = λ bits.
      at_entries-value first (λ u. chain_of first width (stamped (is_one u))) t bits
      ∙ (ap (λ u. value (chain_of first width (stamped (is_one u))) bits) (entry-leaf first t bits h)
      ∙ (ap (λ x. value (chain_of first width (stamped x)) bits) (is_one-leaf_of (value t bits))
      ∙ chain_of-value first width (stamped (value t bits)) bits (stamped-fits width (value t bits))));
}

-- ages determine the tree

same_ages : (first width : ℕ) (s t : Tree) (x y : List Bool → Option ℕ) → HasAges first width s x → HasAges first width t y → ((bits : List Bool) → x bits ≡ y bits) → s ≡ t
same_ages first width s t x y h i e =
    one_tree s t h.ordered h.reduced i.ordered i.reduced
    (λ bits. h.values bits ∙ (ap (λ o. is_age o (spelled bits first width)) (e bits) ∙ sym (i.values bits)))

dropped-none_old : (most : ℕ) (o : Option ℕ) → IfSome o (λ a. a ≤ most) → dropped 0 most o ≡ o
dropped-none_old most None h = refl
dropped-none_old most (Some a) h =
    cond_both (nat_le (a + 0) most) (Some (a + 0)) None (λ o. o ≡ Some a) (λ e. ap (λ x. Some x) (omega arith)) (λ e. absurd (let m = leb-false (a + 0) most e in omega (arith, m, h)))

-- no time passed: the tree stays
pub age_drop-now : (first width most : ℕ) (t : Tree) (age : List Bool → Option ℕ) → most < 2 ^ width → HasAges first width t age → ((bits : List Bool) → IfSome (age bits) (λ a. a ≤ most)) → age_drop first width 0 most t ≡ t
age_drop-now first width most t age m h le = same_ages first width _ t _ age (age_drop-ages first width 0 most t age m h) h (λ bits. dropped-none_old most (age bits) (le bits))

capped-none_old : (cap : ℕ) (o : Option ℕ) → IfSome o (λ a. a ≤ cap) → capped 0 cap o ≡ o
capped-none_old cap None h = refl
capped-none_old cap (Some a) h = ap (λ x. Some x) (omega arith)

-- likewise with a cap
pub age_cap-now : (first width cap : ℕ) (t : Tree) (age : List Bool → Option ℕ) → cap < 2 ^ width → HasAges first width t age → ((bits : List Bool) → IfSome (age bits) (λ a. a ≤ cap)) → age_cap first width 0 cap t ≡ t
age_cap-now first width cap t age m h le = same_ages first width _ t _ age (age_cap-ages first width 0 cap t age m h) h (λ bits. capped-none_old cap (age bits) (le bits))

-- where two age trees have ages at the same bits, they have one any_time
pub any_time-same : (first width : ℕ) (s t : Tree) (x y : List Bool → Option ℕ) → HasAges first width s x → HasAges first width t y → ((bits : List Bool) → is_there (x bits) ≡ is_there (y bits)) → any_time first width s ≡ any_time first width t
any_time-same first width s t x y h i e =
    let p = any_time-says first width s x h in let q = any_time-says first width t y i in
    one_tree (any_time first width s) (any_time first width t) p.ordered p.reduced q.ordered q.reduced (λ bits. p.values bits ∙ (e bits ∙ sym (q.values bits)))

-- two trees

age_where-is : (b : Bool) (o : Option ℕ) (n : ℕ) → (b && is_age o n) ≡ is_age (age_where b o) n
age_where-is true o n = refl
age_where-is false o n = refl

age_where-fits : (b : Bool) (o : Option ℕ) (width : ℕ) → IfSome o (λ a. a < 2 ^ width) → IfSome (age_where b o) (λ a. a < 2 ^ width)
age_where-fits true o width h = h
age_where-fits false o width h = tt

-- the ages where another tree is true
pub ages_where : (first width : ℕ) (t u : Tree) (age : List Bool → Option ℕ) (says : List Bool → Bool) → HasAges first width t age → IsOrdered u → IsReduced u →
    ((bits other : List Bool) → SameBefore first bits other → says bits ≡ says other) → ((bits : List Bool) → value u bits ≡ (says bits && value t bits)) →
    HasAges first width u (λ bits. age_where (says bits) (age bits))
ages_where first width t u age says h o r early e = record {
  ordered = o;
  reduced = r;
  fits = λ bits. age_where-fits (says bits) (age bits) width (h.fits bits);
  before = λ bits other s. ap (λ b. age_where b (age bits)) (early bits other s) ∙ ap (age_where (says other)) (h.before bits other s);
  values = λ bits. e bits ∙ (ap (λ v. says bits && v) (h.values bits) ∙ age_where-is (says bits) (age bits) (spelled bits first width));
}

either-is : (o p : Option ℕ) (n : ℕ) → (o ≡ None) ⊎ (p ≡ None) → (is_age o n || is_age p n) ≡ is_age (either_age o p) n
either-is None p n d = refl
either-is (Some a) None n d = or_false (nat_eq a n)
either-is (Some a) (Some b) n (inl e) = cc
either-is (Some a) (Some b) n (inr e) = cc

either-fits : (o p : Option ℕ) (width : ℕ) → IfSome o (λ a. a < 2 ^ width) → IfSome p (λ a. a < 2 ^ width) → IfSome (either_age o p) (λ a. a < 2 ^ width)
either-fits None p width h i = i
either-fits (Some a) p width h i = h

-- the ages of two trees that never both have one
pub ages_either : (first width : ℕ) (s t u : Tree) (x y : List Bool → Option ℕ) → HasAges first width s x → HasAges first width t y → IsOrdered u → IsReduced u →
    ((bits : List Bool) → (x bits ≡ None) ⊎ (y bits ≡ None)) → ((bits : List Bool) → value u bits ≡ (value s bits || value t bits)) →
    HasAges first width u (λ bits. either_age (x bits) (y bits))
ages_either first width s t u x y h i o r apart e = record {
  ordered = o;
  reduced = r;
  fits = λ bits. either-fits (x bits) (y bits) width (h.fits bits) (i.fits bits);
  before = λ bits other s. ap (λ o. either_age o (y bits)) (h.before bits other s) ∙ ap (either_age (x other)) (i.before bits other s);
  values = λ bits.
      e bits ∙ (ap (λ v. v || value t bits) (h.values bits) ∙ (ap (λ v. is_age (x bits) (spelled bits first width) || v) (i.values bits)
      ∙ either-is (x bits) (y bits) (spelled bits first width) (apart bits)));
}
