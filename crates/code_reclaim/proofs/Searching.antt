-- A search below a handle, by marks.
use Rattle.std.proofs.Common.{◌≡◌, ◌≢◌, ◌⊎◌, ℕ, ◌+◌, ◌<◌, ◌≤◌, ◌↔◌, List, map, cond, refl, ap, sym, ◌∙◌, arith, subst, inl, inr, ⊎_elim}
use Rattle.std.specs.Prelude.{Bool, true, false, ◌||◌, nat_eq, ◌==◌, slice_index_or, Option, None, IsTrue}
use Rattle.std.proofs.lemmas.Bool.Decides.{eqb_tells}
use Rattle.node_tree.specs.Tree.{Tree, Branch, tree_eq, top, IsOrderedFrom, IsReduced, depth}
use Rattle.node_tree.proofs.Same.{Tells, same_tells}
use Rattle.node_tree.proofs.Joins.{top_from_ordered}
use Rattle.node_table.specs.declared.node.Node.{Node}
use Rattle.node_table.specs.Unfold.{tree_at, is_valid}
use Rattle.node_table.specs.Table.{Table, tree_of, IsValid, is_marked, IsShared}
use Rattle.code_reclaim.specs.Told.{differs}
use Rattle.code_reclaim.specs.Search.{HasChildren, IsClear, Searches}
use Rattle.code_reclaim.proofs.Trees.{differs_branch}

-- ---- handles tell trees

pub same_numbers : (t : Table) (u v : ℕ) → IsShared t → IsValid t u → IsValid t v → nat_eq u v ≡ tree_eq (tree_of t u) (tree_of t v)
same_numbers t u v s p q = by_test (eqb_tells u v) (same_tells (tree_of t u) (tree_of t v))
  where
    by_test : ((nat_eq u v ≡ true) × (u ≡ v)) ⊎ ((nat_eq u v ≡ false) × (u ≢ v)) → Tells (tree_eq (tree_of t u) (tree_of t v)) (tree_of t u) (tree_of t v) → nat_eq u v ≡ tree_eq (tree_of t u) (tree_of t v)
    by_test (inl x) (inl y) = x.0 ∙ sym y.0
    by_test (inl x) (inr y) = absurd (y.1 (ap (tree_of t) x.1))
    by_test (inr x) (inl y) = absurd (x.1 (s.one_handle u v p q y.1))
    by_test (inr x) (inr y) = x.0 ∙ sym y.0

-- ---- tables with the same nodes

pub same_tree_of : (t u : Table) → u.nodes ≡ t.nodes → (h : ℕ) → tree_of u h ≡ tree_of t h
same_tree_of t u e h = ap (λ (ns : List (Option Node)). tree_at (λ k. slice_index_or ns k None) h) e

pub same_trees : (t u : Table) → u.nodes ≡ t.nodes → (hs : List ℕ) → map (tree_of u) hs ≡ map (tree_of t) hs
same_trees t u e hs = ap (λ (ns : List (Option Node)). map (tree_at (λ k. slice_index_or ns k None)) hs) e

pub same_valid : (t u : Table) → u.nodes ≡ t.nodes → (h : ℕ) → IsValid t h → IsValid u h
same_valid t u e h v = ap (λ (ns : List (Option Node)). is_valid (λ k. slice_index_or ns k None) h) e ∙ v

-- ---- one handle marked more

-- the table after a mark, which said whether it was the first one of its handle
pub record Marks (h : ℕ) (old new : Table) (first : Bool) : Type 0 where
  pub first_one : IsTrue first ↔ (is_marked old h ≡ false)
  pub marked : (k : ℕ) → is_marked new k ≡ cond (k == h) true (is_marked old k)
  pub room : new.room ≡ old.room
  pub nodes : new.nodes ≡ old.nodes

pub marked_then : (h : ℕ) (old new : Table) (first : Bool) → Marks h old new first → (k : ℕ) → is_marked new k ≡ true → (is_marked old k ≡ true) ⊎ (k ≡ h)
marked_then h old new first m k e = by_test (eqb_tells k h)
  where
    by_test : ((nat_eq k h ≡ true) × (k ≡ h)) ⊎ ((nat_eq k h ≡ false) × (k ≢ h)) → (is_marked old k ≡ true) ⊎ (k ≡ h)
    by_test (inl x) = inr x.1
    by_test (inr x) = inl (sym (ap (λ b. cond b true (is_marked old k)) x.0) ∙ sym (m.marked k) ∙ e)

-- it was marked already
was_marked : (h : ℕ) (old new : Table) → Marks h old new false → is_marked old h ≡ true
was_marked h old new m = by_mark (is_marked old h) refl
  where
    by_mark : (b : Bool) → is_marked old h ≡ b → b ≡ true
    by_mark true e = refl
    by_mark false e = let f : false ≡ true = m.first_one.1 e in cc

-- ---- a marked node with its children

module _ (h : ℕ) (old mid : Table) (said : Bool) (mark : Marks h old mid said) (first low high : ℕ) (c : HasChildren mid h first low high) where
  tree_is : tree_of old h ≡ Branch c.at (tree_of old low) (tree_of old high)
  tree_is = sym (same_tree_of old mid mark.nodes h) ∙ c.tree ∙ ap (λ x. Branch c.at x (tree_of mid high)) (same_tree_of old mid mark.nodes low) ∙ ap (Branch c.at (tree_of old low)) (same_tree_of old mid mark.nodes high)

  pub less_low : depth (tree_of mid low) < depth (tree_of old h)
  less_low = (let e = ap depth tree_is in let f = ap depth (same_tree_of old mid mark.nodes low) in omega (arith, e, f))

  -- the high child after a walk below the low one
  pub less_high : (after : Table) → after.nodes ≡ mid.nodes → depth (tree_of after high) < depth (tree_of old h)
  less_high after same = (let e = ap depth tree_is in let f = ap depth (same_tree_of old after (same ∙ mark.nodes) high) in omega (arith, e, f))

-- ---- a search for one code

module _ (first bits code : ℕ) (h : ℕ) (old mid : Table) (said : Bool) (shared : IsShared old) (valid : IsValid old h) (clear : IsClear (differs first bits code) (top (tree_of old h)) old)
    (mark : Marks h old mid said) where
  abbrev test : Tree → Bool
  test = differs first bits code

  -- a handle that is marked fails the test
  pub passed_over : said ≡ false → Searches test h old mid false
  passed_over e =
      let was : is_marked old h ≡ true = was_marked h old mid (subst (Marks h old mid) e mark) in
      record {
        room = mark.room;
        nodes = mark.nodes;
        answer = sym (clear h was (omega arith));
        marks = λ _ k f. ⊎_elim (λ x. inl x) (λ x. inl (ap (is_marked old) x ∙ was)) (marked_then h old mid said mark k f);
      }

  -- the handle is looked at itself
  pub looked_at : (found : Bool) → found ≡ test (tree_of mid h) → Searches test h old mid found
  looked_at found e =
      let answer : found ≡ test (tree_of old h) = e ∙ ap test (same_tree_of old mid mark.nodes h) in
      record {
        room = mark.room;
        nodes = mark.nodes;
        answer = answer;
        marks = λ f k g. ⊎_elim (λ x. inl x) (λ x. inr (ap (λ (z : ℕ). test (tree_of old z)) x ∙ sym answer ∙ f)) (marked_then h old mid said mark k g);
      }

  module _ (low high : ℕ) (fits : first ≤ 65536) (c : HasChildren mid h first low high) where
    is_branch : tree_of old h ≡ Branch c.at (tree_of old low) (tree_of old high)
    is_branch = tree_is h old mid said mark first low high c

    ordered : IsOrderedFrom 0 (Branch c.at (tree_of old low) (tree_of old high))
    ordered = subst (IsOrderedFrom 0) is_branch (shared.ordered h valid)

    reduced : IsReduced (Branch c.at (tree_of old low) (tree_of old high))
    reduced = subst IsReduced is_branch (shared.reduced h valid)

    splits : test (tree_of old h) ≡ (test (tree_of old low) || test (tree_of old high))
    splits = ap test is_branch ∙ differs_branch first bits code c.at (tree_of old low) (tree_of old high) c.above ordered.1 reduced

    top_is : top (tree_of old h) ≡ c.at
    top_is = ap top is_branch

    below_low : c.at + 1 ≤ top (tree_of old low)
    below_low = top_from_ordered (tree_of old low) (c.at + 1) (let l = c.above in omega (arith, l, fits)) ordered.1

    below_high : c.at + 1 ≤ top (tree_of old high)
    below_high = top_from_ordered (tree_of old high) (c.at + 1) (let l = c.above in omega (arith, l, fits)) ordered.2

    -- what is marked at the child's level or below
    clear_child : (child : ℕ) → c.at + 1 ≤ top (tree_of old child) → (k : ℕ) → is_marked mid k ≡ true → top (tree_of old child) ≤ top (tree_of old k) → test (tree_of old k) ≡ false
    clear_child child b k e l =
        ⊎_elim
        (λ x. clear k x (omega (arith, top_is, b, l)))
        (λ x. (let m : top (tree_of old k) ≡ c.at = ap (λ (z : ℕ). top (tree_of old z)) x ∙ top_is in absurd (omega (arith, m, b, l))))
        (marked_then h old mid said mark k e)

    -- the low child can be searched
    pub clear_low : IsClear test (top (tree_of mid low)) mid
    clear_low k e l =
        ap test (same_tree_of old mid mark.nodes k)
        ∙ clear_child low below_low k e (subst (λ t. top t ≤ top (tree_of old k)) (same_tree_of old mid mark.nodes low) (subst (λ t. top (tree_of mid low) ≤ top t) (same_tree_of old mid mark.nodes k) l))

    module _ (after : Table) (found_low : Bool) (one : Searches test low mid after found_low) where
      same_after : after.nodes ≡ old.nodes
      same_after = one.nodes ∙ mark.nodes

      low_is : found_low ≡ test (tree_of old low)
      low_is = one.answer ∙ ap test (same_tree_of old mid mark.nodes low)

      -- what is marked after the first search, where it found nothing
      marked_since : found_low ≡ false → (k : ℕ) → is_marked after k ≡ true → (is_marked mid k ≡ true) ⊎ (test (tree_of old k) ≡ false)
      marked_since n k e = ⊎_elim (λ x. inl x) (λ x. inr (ap test (sym (same_tree_of old mid mark.nodes k)) ∙ x)) (one.marks n k e)

      -- the low child differs, whatever is searched then
      pub found_below : found_low ≡ true → (new : Table) → new.room ≡ after.room → new.nodes ≡ after.nodes → Searches test h old new true
      found_below y new room nodes = record {
        room = room ∙ one.room ∙ mark.room;
        nodes = nodes ∙ same_after;
        answer = sym (splits ∙ ap (λ b. b || test (tree_of old high)) (sym low_is ∙ y));
        marks = λ f. absurd (let g : true ≡ false = f in cc);
      }

      pub clear_high : found_low ≡ false → IsClear test (top (tree_of after high)) after
      clear_high n k e l =
          ap test (same_tree_of old after same_after k)
          ∙ ⊎_elim
          (λ x. clear_child high below_high k x (subst (λ t. top t ≤ top (tree_of old k)) (same_tree_of old after same_after high) (subst (λ t. top (tree_of after high) ≤ top t) (same_tree_of old after same_after k) l)))
          (λ x. x)
          (marked_since n k e)

      -- the answer is the high child's
      pub found_after : found_low ≡ false → (new : Table) (found : Bool) → Searches test high after new found → Searches test h old new found
      found_after n new found two =
          let high_is : found ≡ test (tree_of old high) = two.answer ∙ ap test (same_tree_of old after same_after high) in
          let answer : found ≡ test (tree_of old h) = sym (splits ∙ ap (λ b. b || test (tree_of old high)) (sym low_is ∙ n) ∙ sym high_is) in
          record {
            room = two.room ∙ one.room ∙ mark.room;
            nodes = two.nodes ∙ same_after;
            answer = answer;
            marks = λ f k e.
                ⊎_elim
                (λ x. ⊎_elim
                (λ y. ⊎_elim (λ z. inl z) (λ z. inr (ap (λ (w : ℕ). test (tree_of old w)) z ∙ sym answer ∙ f)) (marked_then h old mid said mark k y))
                (λ y. inr y)
                (marked_since n k x))
                (λ x. inr (ap test (sym (same_tree_of old after same_after k)) ∙ x))
                (two.marks f k e);
          }
