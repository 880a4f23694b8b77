-- What is left after a collection is a table of the roots' trees.
use Rattle.std.proofs.Common.{◌≡◌, ℕ, zero, suc, ◌<◌, List, [], ◌∷◌, length, refl, ap, sym, ◌∙◌, arith, subst, ⊎_elim}
use Rattle.std.specs.Prelude.{Bool, true, false, ◌||◌, ◌⊎◌, Some, None, slice_index_or, map}
use Rattle.std.specs.Option.{is_some}
use Rattle.std.specs.Cmp.{both_ways}
use Rattle.std.specs.Set.{is_member}
use Rattle.std.proofs.lemmas.Bool.{or_cases}
use Rattle.std.proofs.Math.Bool.{or-true}
use Rattle.std.proofs.lemmas.List.Folds.{list_any-append}
use Rattle.node_tree.specs.Tree.{Tree, tree_eq, branches, branches_of}
use Rattle.node_table.specs.declared.node.Node.{Node}
use Rattle.node_table.specs.Unfold.{level_of, level_at, all_levels}
use Rattle.node_table.specs.Table.{Table, node_at, tree_of, IsValid, held, IsTable}
use Rattle.node_table.specs.Collects.{AllValid, Collects}
use Rattle.node_table.proofs.Unfolds.{grown, valid-grown}
use Rattle.node_table.proofs.Sharing.{held-branches, valid_from_found, only_tree}

-- a member of the branches of a list of trees is one of some tree's
member_of : (g : ℕ → Tree) (hs : List ℕ) (q : Tree) → is_member tree_eq (branches_of (map g hs)) q ≡ true → (j : ℕ) × (j < length hs) × (is_member tree_eq (branches (g (slice_index_or hs j 0))) q ≡ true)
member_of g [] q m = cc
member_of g (h ∷ hs) q m =
    ⊎_elim (λ x. (0, omega arith, x)) (λ x. (let r = member_of g hs q x in (suc r.0, omega (arith, r.1), r.2)))
    (or_cases _ _ (sym (list_any-append (tree_eq q) (branches (g h)) (branches_of (map g hs))) ∙ m))

of_member : (g : ℕ → Tree) (hs : List ℕ) (j : ℕ) (q : Tree) → j < length hs → is_member tree_eq (branches (g (slice_index_or hs j 0))) q ≡ true → is_member tree_eq (branches_of (map g hs)) q ≡ true
of_member g [] j q l m = absurd (omega (arith, l))
of_member g (h ∷ hs) zero q l m = list_any-append (tree_eq q) (branches (g h)) (branches_of (map g hs)) ∙ ap (λ b. b || is_member tree_eq (branches_of (map g hs)) q) m
of_member g (h ∷ hs) (suc j) q l m = list_any-append (tree_eq q) (branches (g h)) (branches_of (map g hs)) ∙ ap (λ b. is_member tree_eq (branches (g h)) q || b) (of_member g hs j q (omega (arith, l)) m) ∙ or-true _

module _ (t u : Table) (i : IsTable t) (same_room : u.room ≡ t.room) (same_length : length u.nodes ≡ length t.nodes) (kept : ℕ → Bool) (kept_zero : kept 0 ≡ true) (kept_one : kept 1 ≡ true)
    (closed : (h : ℕ) (s : Node) → node_at t h ≡ Some s → kept h ≡ true → (kept s.low ≡ true) × (kept s.high ≡ true))
    (stays : (h : ℕ) → kept h ≡ true → node_at u h ≡ node_at t h) (goes : (h : ℕ) → kept h ≡ false → node_at u h ≡ None) where
  kept_if_left : (h : ℕ) (s : Node) → node_at u h ≡ Some s → kept h ≡ true
  kept_if_left h s e = elim (kept h) as (λ b. kept h ≡ b → b ≡ true) [ true ↦ λ k. refl | false ↦ λ k. (let x = goes h k in cc) ] refl

  less : (h : ℕ) (s : Node) → node_at u h ≡ Some s → node_at t h ≡ Some s
  less h s e = sym (stays h (kept_if_left h s e)) ∙ e

  stays_valid : (h : ℕ) → IsValid t h → kept h ≡ true → IsValid u h × (level_at (node_at u) h ≡ level_at (node_at t) h)
  stays_valid zero v k = (refl, refl)
  stays_valid (suc zero) v k = (refl, refl)
  stays_valid (suc (suc h)) v k = (ap is_some (stays (suc (suc h)) k) ∙ v, ap level_of (stays (suc (suc h)) k))

  pub swept_table : IsTable u
  swept_table = record {
    well = record {
      no_zero = stays 0 kept_zero ∙ i.well.no_zero;
      no_one = stays 1 kept_one ∙ i.well.no_one;
      low = λ h s e. (let a = i.well.low h s (less h s e) in let x = stays_valid s.low a.0 (closed h s (less h s e) (kept_if_left h s e)).0 in (x.0, subst (λ l. s.level < l) (sym x.1) a.1));
      high = λ h s e. (let a = i.well.high h s (less h s e) in let x = stays_valid s.high a.0 (closed h s (less h s e) (kept_if_left h s e)).1 in (x.0, subst (λ l. s.level < l) (sym x.1) a.1));
      apart = λ h s e. i.well.apart h s (less h s e);
      level = λ h s e. i.well.level h s (less h s e);
      single = λ h k s p q. i.well.single h k s (less h s p) (less k s q);
    };
    leaves = omega (arith, i.leaves, same_length);
    few = omega (arith, i.few, same_length, same_room);
  }

  swept_trees : (h : ℕ) → IsValid u h → IsValid t h × (tree_of u h ≡ tree_of t h)
  swept_trees h v = (valid-grown (node_at u) (node_at t) less h v, grown (node_at u) (node_at t) swept_table.well less all_levels h v)

  module _ (roots more : List ℕ) (valid_roots : AllValid t roots) (valid_more : AllValid t more) (roots_kept : (j : ℕ) → j < length roots → kept (slice_index_or roots j 0) ≡ true) (more_kept : (j : ℕ) → j < length more → kept (slice_index_or more j 0) ≡ true)
      (only : (h : ℕ) (s : Node) → node_at t h ≡ Some s → kept h ≡ true → ((j : ℕ) × (j < length roots) × (is_member tree_eq (branches (tree_of t (slice_index_or roots j 0))) (tree_of t h) ≡ true)) ⊎ ((j : ℕ) × (j < length more) × (is_member tree_eq (branches (tree_of t (slice_index_or more j 0))) (tree_of t h) ≡ true))) where
    roots_stay : AllValid u roots
    roots_stay j l = (stays_valid (slice_index_or roots j 0) (valid_roots j l) (roots_kept j l)).0

    more_stay : AllValid u more
    more_stay j l = (stays_valid (slice_index_or more j 0) (valid_more j l) (more_kept j l)).0

    pub collected : Collects t u roots more
    collected = record {
      room = same_room;
      trees = swept_trees;
      roots_stay = roots_stay;
      more_stay = more_stay;
      nodes = λ q. both_ways (is_member tree_eq (held u) q) (is_member tree_eq (branches_of (map (tree_of t) roots)) q || is_member tree_eq (branches_of (map (tree_of t) more)) q)
          (λ a.
          let r = only_tree u q a in
          let there = less r.0 r.1 r.2 in
          let is : tree_of t r.0 ≡ q = sym (swept_trees r.0 (valid_from_found u swept_table r.0 r.1 r.2)).1 ∙ r.3 in
          ⊎_elim
          (λ c. ap (λ z. z || is_member tree_eq (branches_of (map (tree_of t) more)) q) (of_member (tree_of t) roots c.0 q c.1 (subst (λ z. is_member tree_eq (branches (tree_of t (slice_index_or roots c.0 0))) z ≡ true) is c.2)))
          (λ c. ap (λ z. is_member tree_eq (branches_of (map (tree_of t) roots)) q || z) (of_member (tree_of t) more c.0 q c.1 (subst (λ z. is_member tree_eq (branches (tree_of t (slice_index_or more c.0 0))) z ≡ true) is c.2)) ∙ or-true _)
          (only r.0 r.1 there (kept_if_left r.0 r.1 r.2)))
          (λ a. ⊎_elim
          (λ b. (let r = member_of (tree_of t) roots q b in let v = roots_stay r.0 r.1 in held-branches u swept_table (slice_index_or roots r.0 0) v q (subst (λ z. is_member tree_eq (branches z) q ≡ true) (sym (swept_trees (slice_index_or roots r.0 0) v).1) r.2)))
          (λ b. (let r = member_of (tree_of t) more q b in let v = more_stay r.0 r.1 in held-branches u swept_table (slice_index_or more r.0 0) v q (subst (λ z. is_member tree_eq (branches z) q ≡ true) (sym (swept_trees (slice_index_or more r.0 0) v).1) r.2)))
          (or_cases _ _ a));
    }
