-- Joined trees: their branches, and their level.
use Rattle.std.proofs.Common.{◌≡◌, ℕ, ◌≤◌, refl, ap, ◌∙◌}
use Rattle.std.specs.Prelude.{true, false, ◌||◌, cond}
use Rattle.std.specs.Set.{is_member}
use Rattle.std.proofs.lemmas.List.Folds.{list_any-append}
use Rattle.std.proofs.Math.Bool.{or-true}
use Rattle.node_tree.specs.Tree.{Tree, Zero, One, Branch, IsOrderedFrom, IsOrdered, tree_eq, join, top, branches}
use Rattle.node_tree.proofs.Same.{tree_eq-refl, same_tree}

-- a tree's levels are as far down as its uppermost one
pub ordered_from_top : (t : Tree) (n : ℕ) → n ≤ top t → IsOrdered t → IsOrderedFrom n t
ordered_from_top Zero n h o = tt
ordered_from_top One n h o = tt
ordered_from_top (Branch l a b) n h o = (h, o.1, o.2)

pub top_from_ordered : (t : Tree) (n : ℕ) → n ≤ 65536 → IsOrderedFrom n t → n ≤ top t
top_from_ordered Zero n h o = h
top_from_ordered One n h o = h
top_from_ordered (Branch l a b) n h o = o.0

-- trees that differ join to a branch
pub join-apart : (l : ℕ) (a b : Tree) → (a ≡ b → ⊥) → join l a b ≡ Branch l a b
join-apart l a b n = elim (tree_eq a b) as (λ c. tree_eq a b ≡ c → cond c a (Branch l a b) ≡ Branch l a b) [ true ↦ λ e. absurd (n (same_tree a b e)) | false ↦ λ e. refl ] refl

pub join-same : (l : ℕ) (a : Tree) → join l a a ≡ a
join-same l a = ap (λ c. cond c a (Branch l a a)) (tree_eq-refl a)

-- the branches of the parts are those of the whole
pub join_low : (l : ℕ) (x y q : Tree) → is_member tree_eq (branches x) q ≡ true → is_member tree_eq (branches (join l x y)) q ≡ true
join_low l x y q m =
    elim (tree_eq x y) as (λ e. is_member tree_eq (branches (cond e x (Branch l x y))) q ≡ true) [
      | true ↦ m
      | false ↦ ap (λ b. tree_eq q (Branch l x y) || b) (list_any-append (tree_eq q) (branches x) (branches y) ∙ ap (λ b. b || is_member tree_eq (branches y) q) m) ∙ or-true _
    ]

pub join_high : (l : ℕ) (x y q : Tree) → is_member tree_eq (branches y) q ≡ true → is_member tree_eq (branches (join l x y)) q ≡ true
join_high l x y q m =
    elim (tree_eq x y) as (λ e. tree_eq x y ≡ e → is_member tree_eq (branches (cond e x (Branch l x y))) q ≡ true) [
      | true ↦ λ e. ap (λ t. is_member tree_eq (branches t) q) (same_tree x y e) ∙ m
      | false ↦ λ e. ap (λ b. tree_eq q (Branch l x y) || b) (list_any-append (tree_eq q) (branches x) (branches y) ∙ ap (λ b. is_member tree_eq (branches x) q || b) m ∙ or-true _) ∙ or-true _
    ] refl
