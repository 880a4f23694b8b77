-- What the trees of a list tell apart.
use Rattle.std.proofs.Common.{◌≡◌, ◌≢◌, ℕ, zero, suc, ◌+◌, ◌-◌, ◌^◌, ◌<◌, ◌≤◌, ◌↔◌, List, [], ◌∷◌, length, map, take, refl, ap, sym, ◌∙◌, arith, subst, inl, inr, ⊎_elim}
use Rattle.std.specs.Prelude.{Bool, true, false, not, ◌||◌, ◌&&◌, slice_index_or, IsTrue}
use Rattle.std.specs.List.{AllByRecursion, Any, list_any}
use Rattle.std.proofs.lemmas.List.{take_all}
use Rattle.std.proofs.lemmas.List.Folds.{Any-from_list_any, list_any-from_Any, list_any_more}
use Rattle.node_tree.specs.Tree.{Tree, tree_eq, value, IsOrdered, IsReduced}
use Rattle.node_tree.proofs.Same.{Tells, same_tells}
use Rattle.node_tree.proofs.Apart.{same_or_differ}
use Rattle.node_table.specs.Table.{Table, tree_of, IsValid, is_marked, IsShared}
use Rattle.node_table.specs.Collects.{AllValid}
use Rattle.bdd_ops.specs.Reading.{set_block, with_code}
use Rattle.bdd_ops.proofs.Walks.{set_block-value}
use Rattle.code_reclaim.specs.Told.{differs, told_apart, IsToldApart}
use Rattle.code_reclaim.specs.Candidates.{is_candidate}
use Rattle.code_reclaim.specs.Search.{Strikes}
use Rattle.code_reclaim.proofs.Searching.{same_tree_of}
use Rattle.code_reclaim.proofs.Walking.{not_not, was_candidate}
use Rattle.code_reclaim.proofs.Trees.{block_ordered, block_reduced}

-- some bits tell a tree's two settings apart
abbrev pub HasBits : (first bits code : ℕ) → Tree → Type 0
HasBits first bits code t = (others : List Bool) × (value t (with_code others first bits code) ≢ value t (with_code others first bits (2 ^ bits - 1)))

-- a tree that differs between the code and all ones has bits that tell its two settings apart
pub differs_bits : (first bits code : ℕ) (t : Tree) → IsOrdered t → IsReduced t → differs first bits code t ≡ true → HasBits first bits code t
differs_bits first bits code t o r e =
    ⊎_elim
    (λ s. absurd (by_test (same_tells (set_block first bits code t) (set_block first bits (2 ^ bits - 1) t)) s e))
    (λ d. (d.0, λ f. d.1 (set_block-value bits first code t o d.0 ∙ f ∙ sym (set_block-value bits first (2 ^ bits - 1) t o d.0))))
    (same_or_differ (set_block first bits code t) (set_block first bits (2 ^ bits - 1) t) (block_ordered bits first code t 0 o) (block_reduced bits first code t r)
    (block_ordered bits first (2 ^ bits - 1) t 0 o) (block_reduced bits first (2 ^ bits - 1) t r))
  where
    by_test : {s u : Tree} → Tells (tree_eq s u) s u → s ≡ u → not (tree_eq s u) ≡ true → ⊥
    by_test (inl p) q e = let f : false ≡ true = sym (ap not p.0) ∙ e in cc
    by_test (inr p) q e = p.1 q

-- and back
pub bits_differ : (first bits code : ℕ) (t : Tree) → IsOrdered t → HasBits first bits code t → differs first bits code t ≡ true
bits_differ first bits code t o h = by_test (same_tells (set_block first bits code t) (set_block first bits (2 ^ bits - 1) t))
  where
    by_test : Tells (tree_eq (set_block first bits code t) (set_block first bits (2 ^ bits - 1) t)) (set_block first bits code t) (set_block first bits (2 ^ bits - 1) t) → differs first bits code t ≡ true
    by_test (inl p) = absurd (h.1 (sym (set_block-value bits first code t o h.0) ∙ ap (λ s. value s h.0) p.1 ∙ set_block-value bits first (2 ^ bits - 1) t o h.0))
    by_test (inr p) = ap not p.0

-- a test of the trees of a list's handles
any_of : (p : Tree → Bool) (f : ℕ → Tree) (hs : List ℕ) → list_any p (map f hs) ≡ list_any (λ h. p (f h)) hs
any_of p f [] = refl
any_of p f (h ∷ hs) = ap (λ b. p (f h) || b) (any_of p f hs)

-- trees of valid handles are ordered and reduced
trees_sound : (t : Table) → IsShared t → (hs : List ℕ) → AllValid t hs → (P : Tree → Type 0) → ((h : ℕ) → IsValid t h → P (tree_of t h)) → (k : ℕ) (x : Tree) → k < length (map (tree_of t) hs) → slice_index_or (map (tree_of t) hs) k x ≡ x → P x
trees_sound t s [] v P f k x l e = absurd (omega (arith, l))
trees_sound t s (h ∷ hs) v P f zero x l e = subst P e (f h (v 0 (omega arith)))
trees_sound t s (h ∷ hs) v P f (suc k) x l e = trees_sound t s hs (λ j m. v (suc j) (omega (arith, m))) P f k x (omega (arith, l)) e

pub told_values : (t : Table) → IsShared t → (hs : List ℕ) → AllValid t hs → (first bits code : ℕ) (found : Bool) → found ≡ told_apart (map (tree_of t) hs) first bits code →
    IsTrue found ↔ IsToldApart (map (tree_of t) hs) first bits code
told_values t s hs v first bits code found e = (
  λ y.
      let a = Any-from_list_any (differs first bits code) (map (tree_of t) hs) (sym e ∙ y) in (
        a.0,
        a.1,
        a.2,
        a.3,
        differs_bits first bits code a.1 (trees_sound t s hs v IsOrdered (λ h w. s.ordered h w) a.0 a.1 a.2 a.3) (trees_sound t s hs v IsReduced (λ h w. s.reduced h w) a.0 a.1 a.2 a.3) a.4,
      ),
  λ a. e ∙ list_any-from_Any (differs first bits code) (map (tree_of t) hs) (
    a.0,
    a.1,
    a.2,
    a.3,
    bits_differ first bits code a.1 (trees_sound t s hs v IsOrdered (λ h w. s.ordered h w) a.0 a.1 a.2 a.3) a.4,
  ),
)

-- what holds of each tree of a list holds of one that some place has
each_of_some : (P Q R : Tree → Type 0) → ((t : Tree) → P t → Q t → R t) → (trees : List Tree) →
    AllByRecursion P trees → Any Q trees → Any R trees
each_of_some P Q R f [] p (k, t, l, e, q) = absurd (omega (arith, l))
each_of_some P Q R f (u ∷ trees) p (zero, t, l, e, q) =
    (zero, t, l, e, f t (subst P e p.0) q)
each_of_some P Q R f (u ∷ trees) p (suc k, t, l, e, q) =
    let (j, w, m, g, r) = each_of_some P Q R f trees p.1 (k, t, omega (arith, l), e, q) in
    (suc j, w, omega (arith, m), g, r)

-- whether trees tell a code apart is whether some tree has bits that do
pub told_apart_tells : (trees : List Tree) (first bits code : ℕ) → AllByRecursion IsOrdered trees →
    AllByRecursion IsReduced trees →
    (told_apart trees first bits code ≡ true) ↔ IsToldApart trees first bits code
told_apart_tells trees first bits code o r = (
  λ e.
      each_of_some IsReduced (λ t. IsOrdered t × (differs first bits code t ≡ true))
      (HasBits first bits code) (λ t p q. differs_bits first bits code t q.0 p q.1) trees r
      (each_of_some IsOrdered (λ t. differs first bits code t ≡ true)
      (λ t. IsOrdered t × (differs first bits code t ≡ true)) (λ t p q. (p, q)) trees o
      (Any-from_list_any (differs first bits code) trees e)),
  λ a.
      list_any-from_Any (differs first bits code) trees
      (each_of_some IsOrdered (HasBits first bits code) (λ t. differs first bits code t ≡ true)
      (λ t p q. bits_differ first bits code t p q) trees o a),
)

-- one more handle's tree strikes what it tells apart
by_parts : (start first here before after : Bool) → before ≡ (start && not first) → (before ≡ false → after ≡ false) → (before ≡ true → not after ≡ here) → after ≡ (start && not (first || here))
by_parts false first here before after e f g = f e
by_parts true true here before after e f g = f e
by_parts true false here before after e f g = sym (not_not after) ∙ ap not (g e)

pub struck_more : (t u new : Table) (hs : List ℕ) (i h first bits from : ℕ) (start before after : List Bool) → u.nodes ≡ t.nodes → i < length hs → h ≡ slice_index_or hs i h → Strikes first bits from h u new before after →
    ((j : ℕ) → is_candidate before j ≡ (is_candidate start j && not (list_any (λ k. differs first bits (from + j) (tree_of t k)) (take i hs)))) →
    (j : ℕ) → is_candidate after j ≡ (is_candidate start j && not (list_any (λ k. differs first bits (from + j) (tree_of t k)) (take (i + 1) hs)))
struck_more t u new hs i h first bits from start before after n l e s was j =
    by_parts (is_candidate start j) (list_any (λ k. differs first bits (from + j) (tree_of t k)) (take i hs)) (differs first bits (from + j) (tree_of t (slice_index_or hs i h))) (is_candidate before j) (is_candidate after j)
    (was j) (s.others j)
    (λ f. (s.codes j f).answer ∙ ap (differs first bits (from + j)) (same_tree_of t u n h) ∙ ap (λ (k : ℕ). differs first bits (from + j) (tree_of t k)) e)
    ∙ ap (λ b. is_candidate start j && not b) (sym (list_any_more (λ k. differs first bits (from + j) (tree_of t k)) hs i h l))

-- what is marked tells no candidate apart
pub marks_more : (old new : Table) (h first bits from : ℕ) (before after : List Bool) → Strikes first bits from h old new before after →
    ((j : ℕ) → is_candidate before j ≡ true → (k : ℕ) → is_marked old k ≡ true → differs first bits (from + j) (tree_of old k) ≡ false) →
    (j : ℕ) → is_candidate after j ≡ true → (k : ℕ) → is_marked new k ≡ true → differs first bits (from + j) (tree_of new k) ≡ false
marks_more old new h first bits from before after s marks j f k e =
    let was = was_candidate before after s.others j f in
    ap (differs first bits (from + j)) (same_tree_of old new s.nodes k) ∙ ⊎_elim (λ x. marks j was k x) (λ x. x) ((s.codes j was).marks (ap not f) k e)

-- and all the trees strike what some tree tells apart
pub struck_at_end : (t : Table) (hs : List ℕ) (i first bits from : ℕ) (start after : List Bool) → length hs ≤ i →
    ((j : ℕ) → is_candidate after j ≡ (is_candidate start j && not (list_any (λ k. differs first bits (from + j) (tree_of t k)) (take i hs)))) →
    (j : ℕ) → is_candidate after j ≡ (is_candidate start j && not (told_apart (map (tree_of t) hs) first bits (from + j)))
struck_at_end t hs i first bits from start after l was j =
    was j
    ∙ ap (λ (ks : List ℕ). is_candidate start j && not (list_any (λ k. differs first bits (from + j) (tree_of t k)) ks)) (take_all i hs l)
    ∙ ap (λ b. is_candidate start j && not b) (sym (any_of (differs first bits (from + j)) (tree_of t) hs))

-- a list of one candidate
pub told_of_one : (t : Table) (hs : List ℕ) (first bits code : ℕ) (after : List Bool) →
    ((j : ℕ) → is_candidate after j ≡ (is_candidate (true ∷ []) j && not (told_apart (map (tree_of t) hs) first bits (code + j)))) → not (is_candidate after 0) ≡ told_apart (map (tree_of t) hs) first bits code
told_of_one t hs first bits code after s =
    ap not (s 0) ∙ not_not (told_apart (map (tree_of t) hs) first bits (code + 0)) ∙ ap (told_apart (map (tree_of t) hs) first bits) (let e : code + 0 ≡ code = omega arith in e)
