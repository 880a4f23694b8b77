-- Numbers are marked, and wait for their children.
use Rattle.std.proofs.Common.{◌≡◌, ◌≢◌, ℕ, zero, suc, ◌+◌, ◌<◌, ◌≤◌, List, [], ◌∷◌, ◌++◌, length, length-append, take, set, length-set, refl, ap, sym, ◌∙◌, arith, subst, ⊎_elim, inl, inr, get_or-set_other, get_or-set_same}
use Rattle.std.specs.Prelude.{Bool, true, false, cond, ◌||◌, ◌⊎◌, nat_eq, Option, Some, slice_index_or}
use Rattle.std.specs.List.{count_by}
use Rattle.std.specs.Option.{is_some}
use Rattle.std.specs.Set.{is_member}
use Rattle.std.proofs.Math.Bool.{or-true}
use Rattle.std.proofs.Math.ListN.{get_or-append}
use Rattle.std.proofs.Math.Seq.{get_or-append_seam}
use Rattle.std.proofs.lemmas.Bool.{cases_eq, cases_lt, or_cases}
use Rattle.std.proofs.lemmas.Bool.Decides.{Decides-eqb}
use Rattle.std.proofs.lemmas.List.{take_all}
use Rattle.std.proofs.lemmas.List.Folds.{list_any-append}
use Rattle.std.proofs.lemmas.List.Sums.{count_by-le-length, count_by_more_no, count_by_more_yes, sum_by-set}
use Rattle.node_tree.specs.Tree.{Tree, Zero, One, Branch, tree_eq, branches}
use Rattle.node_tree.proofs.Same.{tree_eq-refl, same_tree}
use Rattle.node_table.specs.declared.node.Node.{Node}
use Rattle.node_table.specs.Unfold.{tree_at, is_valid, IsWell}
use Rattle.node_table.specs.Marks.{has_mark, is_kept, IsReached, Reaches, ReachesAll, MarksNodes, IsClosed, Spreads}
use Rattle.node_table.specs.Table.{numbers_below}
use Rattle.node_table.proofs.Unfolds.{tree_at-node, found_from_valid}
use Rattle.node_table.proofs.Rounds.{unequal}

-- the children of the first numbers that wait are kept
pub record IsDone (f : ℕ → Option Node) (marks waiting : List ℕ) (round at : ℕ) : Type 0 where
  pub children : (j : ℕ) (s : Node) → j < at → f (slice_index_or waiting j 0) ≡ Some s → (is_kept marks round s.low ≡ true) × (is_kept marks round s.high ≡ true)

-- ---- one mark

pub has_same : (m : List ℕ) (h r : ℕ) → h < length m → has_mark (set m h r) r h ≡ true
has_same m h r l = ap (λ x. nat_eq x r) (get_or-set_same m h r 0 l) ∙ (Decides-eqb r r).1 refl

pub has_other : (m : List ℕ) (h r k : ℕ) → k ≢ h → has_mark (set m h r) r k ≡ has_mark m r k
has_other m h r k a = ap (λ x. nat_eq x r) (get_or-set_other m h k r 0 a)

pub kept_from_mark : (m : List ℕ) (r h : ℕ) → has_mark m r h ≡ true → is_kept m r h ≡ true
kept_from_mark m r zero e = refl
kept_from_mark m r (suc zero) e = refl
kept_from_mark m r (suc (suc k)) e = e

pub kept_leaf : (m : List ℕ) (r h : ℕ) → h < 2 → is_kept m r h ≡ true
kept_leaf m r zero l = refl
kept_leaf m r (suc zero) l = refl
kept_leaf m r (suc (suc k)) l = absurd (omega (arith, l))

pub mark_from_kept : (m : List ℕ) (r h : ℕ) → 2 ≤ h → is_kept m r h ≡ has_mark m r h
mark_from_kept m r zero l = absurd (omega (arith, l))
mark_from_kept m r (suc zero) l = absurd (omega (arith, l))
mark_from_kept m r (suc (suc k)) l = refl

pub kept_grows : (m n : List ℕ) (r : ℕ) → ((k : ℕ) → has_mark m r k ≡ true → has_mark n r k ≡ true) → (h : ℕ) → is_kept m r h ≡ true → is_kept n r h ≡ true
kept_grows m n r g zero e = refl
kept_grows m n r g (suc zero) e = refl
kept_grows m n r g (suc (suc k)) e = g (suc (suc k)) e

abbrev weight : Bool → ℕ
weight b = cond b 1 0

-- one more that passes the test
count_set : (p : ℕ → Bool) (xs : List ℕ) (i y : ℕ) → i < length xs → p (slice_index_or xs i 0) ≡ false → p y ≡ true → count_by p (set xs i y) ≡ count_by p xs + 1
count_set p xs i y l a b =
    let e : count_by p (set xs i y) + weight (p (slice_index_or xs i 0)) ≡ count_by p xs + weight (p y) = sum_by-set (λ x. weight (p x)) xs i y 0 l in
    omega (arith, e, ap weight a, ap weight b)

pub reaches_before : (m : List ℕ) (r h : ℕ) → is_kept m r h ≡ true → Reaches m m r h
reaches_before m r h e = record { grows = λ k e. e; here = e; only = λ k e. inl e }

module _ (m w : List ℕ) (r h : ℕ) (x : IsReached m w r) (two : 2 ≤ h) (unmarked : has_mark m r h ≡ false) (fits : h < length m) where
  mark_cases : (k : ℕ) → has_mark (set m h r) r k ≡ true → (has_mark m r k ≡ true) ⊎ (k ≡ h)
  mark_cases k e = ⊎_elim (λ (q : k ≡ h). inr q) (λ (q : k ≢ h). inl (sym (has_other m h r k q) ∙ e)) (cases_eq k h)

  marks_grow : (k : ℕ) → has_mark m r k ≡ true → has_mark (set m h r) r k ≡ true
  marks_grow k e = ⊎_elim (λ (q : k ≡ h). subst (λ z. has_mark (set m h r) r z ≡ true) (sym q) (has_same m h r fits)) (λ (q : k ≢ h). has_other m h r k q ∙ e) (cases_eq k h)

  pub reaches_new : Reaches m (set m h r) r h
  reaches_new = record { grows = marks_grow; here = kept_from_mark (set m h r) r h (has_same m h r fits); only = mark_cases }

  pub reached_new : IsReached (set m h r) (w ++ h ∷ []) r
  reached_new = record {
    started = x.started;
    two = λ k e. ⊎_elim (λ q. x.two k q) (λ (q : k ≡ h). omega (arith, q, two)) (mark_cases k e);
    listed = λ k e. ⊎_elim
        (λ q. (let y = x.listed k q in (y.0, omega (arith, y.1, length-append w (h ∷ [])), get_or-append w (h ∷ []) 0 y.0 y.1 ∙ y.2)))
        (λ (q : k ≡ h). (length w, omega (arith, length-append w (h ∷ [])), get_or-append_seam w h [] 0 ∙ sym q))
        (mark_cases k e);
    marked = λ j l. ⊎_elim
        (λ (q : j < length w). subst (λ z. has_mark (set m h r) r z ≡ true) (sym (get_or-append w (h ∷ []) 0 j q)) (marks_grow (slice_index_or w j 0) (x.marked j q)))
        (λ (q : length w ≤ j).
        let e : j ≡ length w = omega (arith, q, l, length-append w (h ∷ [])) in
        subst (λ i. has_mark (set m h r) r (slice_index_or (w ++ h ∷ []) i 0) ≡ true) (sym e) (subst (λ z. has_mark (set m h r) r z ≡ true) (sym (get_or-append_seam w h [] 0)) (has_same m h r fits)))
        (cases_lt j (length w));
    count = (let c = count_set (λ y. nat_eq y r) m h r fits unmarked ((Decides-eqb r r).1 refl) in omega (arith, c, x.count, length-append w (h ∷ [])));
  }

  -- there is room for one more
  pub room_left : length w < length m
  room_left =
      let c = count_set (λ y. nat_eq y r) m h r fits unmarked ((Decides-eqb r r).1 refl) in
      omega (arith, c, x.count, count_by-le-length (λ y. nat_eq y r) (set m h r), length-set m h r)

-- what waits is no more than the marks
pub waiting-le : (m w : List ℕ) (r : ℕ) → IsReached m w r → length w ≤ length m
waiting-le m w r x = omega (arith, x.count, count_by-le-length (λ y. nat_eq y r) m)

-- ---- several marks

pub reaches_none : (m : List ℕ) (r : ℕ) (hs : List ℕ) → ReachesAll m m r hs 0
reaches_none m r hs = record { grows = λ k e. e; here = λ j l. absurd (omega (arith, l)); only = λ k e. inl e }

pub reaches_more : (a b c : List ℕ) (r : ℕ) (hs : List ℕ) (i : ℕ) → ReachesAll a b r hs i → Reaches b c r (slice_index_or hs i 0) → ReachesAll a c r hs (i + 1)
reaches_more a b c r hs i x y = record {
  grows = λ k e. y.grows k (x.grows k e);
  here = λ j l. ⊎_elim (λ (q : j < i). kept_grows b c r y.grows (slice_index_or hs j 0) (x.here j q))
      (λ (q : i ≤ j). (let e : j ≡ i = omega (arith, l, q) in subst (λ z. is_kept c r (slice_index_or hs z 0) ≡ true) (sym e) y.here)) (cases_lt j i);
  only = λ k e. ⊎_elim (λ p. ⊎_elim (λ q. inl q) (λ q. inr (q.0, omega (arith, q.1), q.2)) (x.only k p)) (λ (q : k ≡ slice_index_or hs i 0). inr (i, omega arith, q)) (y.only k e);
}

-- ---- marks that spread

-- a branch of a branch of a tree is one of the tree
pub branch_of_branch : (t q p : Tree) → is_member tree_eq (branches t) q ≡ true → is_member tree_eq (branches q) p ≡ true → is_member tree_eq (branches t) p ≡ true
branch_of_branch Zero q p a b = cc
branch_of_branch One q p a b = cc
branch_of_branch (Branch l x y) q p a b =
    ⊎_elim
    (λ (e : tree_eq q (Branch l x y) ≡ true). subst (λ z. is_member tree_eq (branches z) p ≡ true) (same_tree q (Branch l x y) e) b)
    (λ e. ap (λ c. tree_eq p (Branch l x y) || c) (list_any-append (tree_eq p) (branches x) (branches y)
    ∙ ⊎_elim (λ f. ap (λ c. c || is_member tree_eq (branches y) p) (branch_of_branch x q p f b)) (λ f. ap (λ c. is_member tree_eq (branches x) p || c) (branch_of_branch y q p f b) ∙ or-true _)
    (or_cases _ _ (sym (list_any-append (tree_eq q) (branches x) (branches y)) ∙ e))) ∙ or-true _)
    (or_cases _ _ a)

-- a branch is among its own branches
pub branch_itself : (l : ℕ) (x y : Tree) → is_member tree_eq (branches (Branch l x y)) (Branch l x y) ≡ true
branch_itself l x y = ap (λ b. b || is_member tree_eq (branches x ++ branches y) (Branch l x y)) (tree_eq-refl (Branch l x y))

module _ (f : ℕ → Option Node) (well : IsWell f) where
  -- a node's tree is among its own branches
  pub node_itself : (h : ℕ) (s : Node) → f h ≡ Some s → is_member tree_eq (branches (tree_at f h)) (tree_at f h) ≡ true
  node_itself h s e = subst (λ t. is_member tree_eq (branches t) t ≡ true) (sym (tree_at-node f well h s e)) (branch_itself s.level (tree_at f s.low) (tree_at f s.high))

  pub spreads_none : (m : List ℕ) (r : ℕ) → MarksNodes f m r → Spreads f m m r
  spreads_none m r nodes = record { grows = λ k e. e; only = λ k e. (let n = nodes k e in (k, e, node_itself k n.0 n.1)) }

  -- a child of a node stands in its tree
  low_branch : (h : ℕ) (s t : Node) → f h ≡ Some s → f s.low ≡ Some t → is_member tree_eq (branches (tree_at f h)) (tree_at f s.low) ≡ true
  low_branch h s t e c =
      subst (λ x. is_member tree_eq (branches x) (tree_at f s.low) ≡ true) (sym (tree_at-node f well h s e))
      (ap (λ b. tree_eq (tree_at f s.low) (Branch s.level (tree_at f s.low) (tree_at f s.high)) || b)
      (list_any-append (tree_eq (tree_at f s.low)) (branches (tree_at f s.low)) (branches (tree_at f s.high)) ∙ ap (λ b. b || is_member tree_eq (branches (tree_at f s.high)) (tree_at f s.low)) (node_itself s.low t c)) ∙ or-true _)

  high_branch : (h : ℕ) (s t : Node) → f h ≡ Some s → f s.high ≡ Some t → is_member tree_eq (branches (tree_at f h)) (tree_at f s.high) ≡ true
  high_branch h s t e c =
      subst (λ x. is_member tree_eq (branches x) (tree_at f s.high) ≡ true) (sym (tree_at-node f well h s e))
      (ap (λ b. tree_eq (tree_at f s.high) (Branch s.level (tree_at f s.low) (tree_at f s.high)) || b)
      (list_any-append (tree_eq (tree_at f s.high)) (branches (tree_at f s.low)) (branches (tree_at f s.high)) ∙ ap (λ b. is_member tree_eq (branches (tree_at f s.low)) (tree_at f s.high) || b) (node_itself s.high t c) ∙ or-true _) ∙ or-true _)

  -- a marked number that is valid and no leaf has a node
  child_node : (m : List ℕ) (r h k : ℕ) → is_valid f h ≡ true → 2 ≤ k → k ≡ h → (s : Node) × (f k ≡ Some s)
  child_node m r h k v l e = found_from_valid f k l (subst (λ z. is_valid f z ≡ true) (sym e) v)

  -- both children of a marked node are reached
  module _ (o a b c : List ℕ) (wa wb wc : List ℕ) (r at : ℕ) (s : Node) (x : IsReached a wa r) (xc : IsReached c wc r) (within : at < length wa) (node : f (slice_index_or wa at 0) ≡ Some s)
      (nodes : MarksNodes f a r) (spreads : Spreads f o a r) (done : IsDone f a wa r at) (xb : IsReached b wb r) (low : Reaches a b r s.low) (high : Reaches b c r s.high)
      (before_a : (j : ℕ) → j < length wa → slice_index_or wb j 0 ≡ slice_index_or wa j 0) (before_b : (j : ℕ) → j < length wb → slice_index_or wc j 0 ≡ slice_index_or wb j 0) (longer : length wa ≤ length wb) where
    marked_at : has_mark a r (slice_index_or wa at 0) ≡ true
    marked_at = x.marked at within

    cases : (k : ℕ) → has_mark c r k ≡ true → (has_mark a r k ≡ true) ⊎ ((k ≡ s.low) ⊎ (k ≡ s.high))
    cases k e = ⊎_elim (λ p. ⊎_elim (λ q. inl q) (λ q. inr (inl q)) (low.only k p)) (λ q. inr (inr q)) (high.only k e)

    pub nodes_after : MarksNodes f c r
    nodes_after k e = ⊎_elim (λ p. nodes k p)
        (λ p. ⊎_elim (λ (q : k ≡ s.low). child_node c r s.low k (well.low (slice_index_or wa at 0) s node).0 (xc.two k e) q) (λ (q : k ≡ s.high). child_node c r s.high k (well.high (slice_index_or wa at 0) s node).0 (xc.two k e) q) p)
        (cases k e)

    pub spreads_after : Spreads f o c r
    spreads_after = record {
      grows = λ k e. high.grows k (low.grows k (spreads.grows k e));
      only = λ k e. ⊎_elim (λ p. spreads.only k p)
          (λ p.
          let y = spreads.only (slice_index_or wa at 0) marked_at in
          let n = nodes_after k e in
          ⊎_elim
          (λ (q : k ≡ s.low). (
            y.0,
            y.1,
            branch_of_branch (tree_at f y.0) (tree_at f (slice_index_or wa at 0)) (tree_at f k) y.2
                (subst (λ z. is_member tree_eq (branches (tree_at f (slice_index_or wa at 0))) (tree_at f z) ≡ true) (sym q) (low_branch (slice_index_or wa at 0) s n.0 node (ap f (sym q) ∙ n.1))),
          ))
          (λ (q : k ≡ s.high). (
            y.0,
            y.1,
            branch_of_branch (tree_at f y.0) (tree_at f (slice_index_or wa at 0)) (tree_at f k) y.2
                (subst (λ z. is_member tree_eq (branches (tree_at f (slice_index_or wa at 0))) (tree_at f z) ≡ true) (sym q) (high_branch (slice_index_or wa at 0) s n.0 node (ap f (sym q) ∙ n.1))),
          ))
          p)
          (cases k e);
    }

    pub done_after : IsDone f c wc r (at + 1)
    done_after = record {
      children = λ j t l e.
          (let in_a : j < length wa = omega (arith, l, within) in
          let same : slice_index_or wc j 0 ≡ slice_index_or wa j 0 = before_b j (omega (arith, in_a, longer)) ∙ before_a j in_a in
          ⊎_elim
          (λ (q : j < at).
          let d = done.children j t q (ap f (sym same) ∙ e) in
          (kept_grows a c r (λ k z. high.grows k (low.grows k z)) t.low d.0, kept_grows a c r (λ k z. high.grows k (low.grows k z)) t.high d.1))
          (λ (q : at ≤ j).
          let i : j ≡ at = omega (arith, q, l) in
          let own : s ≡ t = some_same s t (sym node ∙ ap (λ z. f (slice_index_or wa z 0)) (sym i) ∙ ap f (sym same) ∙ e) in
          subst (λ (z : Node). (is_kept c r z.low ≡ true) × (is_kept c r z.high ≡ true)) own (kept_grows b c r high.grows s.low low.here, high.here))
          (cases_lt j at));
    }
      where
        some_same : (s t : Node) → Some s ≡ Some t → s ≡ t
        some_same s t e = cc

  -- where all that waited is done, the marks are closed
  pub closed_at_end : (m w : List ℕ) (r at : ℕ) → IsReached m w r → IsDone f m w r at → length w ≤ at → IsClosed f m r
  closed_at_end m w r at x d l h s e k = let y = x.listed h k in d.children y.0 s (omega (arith, y.1, l)) (ap f y.2 ∙ e)

-- ---- how many are marked

-- none that passes the test
count_none : (p : ℕ → Bool) (xs : List ℕ) → ((i : ℕ) → i < length xs → p (slice_index_or xs i 0) ≡ false) → count_by p xs ≡ 0
count_none p xs none = sym (ap (λ (l : List ℕ). count_by p l) (take_all (length xs) xs (omega arith))) ∙ up_to (length xs) (omega arith)
  where
    up_to : (n : ℕ) → n ≤ length xs → count_by p (take n xs) ≡ 0
    up_to zero l = refl
    up_to (suc n) l =
        let e : n + 1 ≡ suc n = omega arith in
        subst (λ k. count_by p (take k xs) ≡ 0) e (count_by_more_no p xs n 0 (omega (arith, l)) (none n (omega (arith, l))) ∙ up_to n (omega (arith, l)))

-- where nothing is marked, nothing waits
pub reached_none : (m : List ℕ) (r : ℕ) → 0 < r → ((h : ℕ) → slice_index_or m h 0 < r) → IsReached m [] r
reached_none m r s less = record {
  started = s;
  two = λ k e. absurd (unmarked k e);
  listed = λ k e. absurd (unmarked k e);
  marked = λ j l. absurd (omega (arith, l));
  count = sym (count_none (λ y. nat_eq y r) m (λ i l. (let x = less i in unequal (slice_index_or m i 0) r (λ e. omega (arith, e, x)))));
}
  where
    unmarked : (k : ℕ) → has_mark m r k ≡ true → ⊥
    unmarked k e = let x = less k in let i : slice_index_or m k 0 ≡ r = (Decides-eqb (slice_index_or m k 0) r).0 e in omega (arith, i, x)

-- the nodes that are left are as many as the marks
pub marks_counted : (g : ℕ → Option Node) (m : List ℕ) (r : ℕ) → ((h : ℕ) → is_some (g h) ≡ has_mark m r h) → count_by (λ y. nat_eq y r) m ≡ length (numbers_below g (length m))
marks_counted g m r same = sym (ap (λ (l : List ℕ). count_by (λ y. nat_eq y r) l) (take_all (length m) m (omega arith))) ∙ up_to (length m) (omega arith)
  where
    up_to : (n : ℕ) → n ≤ length m → count_by (λ y. nat_eq y r) (take n m) ≡ length (numbers_below g n)
    up_to zero l = refl
    up_to (suc n) l =
        let e : n + 1 ≡ suc n = omega arith in
        let rest = up_to n (omega (arith, l)) in
        subst (λ k. count_by (λ y. nat_eq y r) (take k m) ≡ length (numbers_below g (suc n))) e
        (elim (has_mark m r n) as (λ b. has_mark m r n ≡ b → count_by (λ y. nat_eq y r) (take (n + 1) m) ≡ length (cond (is_some (g n)) (n ∷ numbers_below g n) (numbers_below g n))) [
          | true ↦ λ i. (
              let c = count_by_more_yes (λ y. nat_eq y r) m n 0 (omega (arith, l)) i in
              let d : length (cond (is_some (g n)) (n ∷ numbers_below g n) (numbers_below g n)) ≡ length (n ∷ numbers_below g n) = ap (λ b. length (cond b (n ∷ numbers_below g n) (numbers_below g n))) (same n ∙ i) in
              omega (arith, c, d, rest))
          | false ↦ λ i. (
              let c = count_by_more_no (λ y. nat_eq y r) m n 0 (omega (arith, l)) i in
              let d : length (cond (is_some (g n)) (n ∷ numbers_below g n) (numbers_below g n)) ≡ length (numbers_below g n) = ap (λ b. length (cond b (n ∷ numbers_below g n) (numbers_below g n))) (same n ∙ i) in
              omega (arith, c, d, rest))
        ] refl)
