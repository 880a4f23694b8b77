-- How many distinct trees a list has.
use Rattle.std.proofs.Common.{◌≡◌, ◌≤◌, List, [], ◌∷◌, refl, ap, sym, ◌∙◌}
use Rattle.std.specs.Prelude.{true, false, ◌||◌, cond}
use Rattle.std.specs.Bool.{Decides}
use Rattle.std.specs.Cmp.{IsEquivalence, decided}
use Rattle.std.specs.Set.{is_member, unique_keys, distinct_count}
use Rattle.std.specs.List.{list_any, IsDistinct, AllByRecursion}
use Rattle.std.proofs.lemmas.Map.Made.{length-le_from_is_member}
use Rattle.node_tree.specs.Tree.{Tree, tree_eq}
use Rattle.node_tree.proofs.Same.{tree_eq-refl, same_tree}

pub tree_eq_decides : (a b : Tree) → Decides (tree_eq a b) (a ≡ b)
tree_eq_decides a b = (same_tree a b, λ e. rw e (tree_eq-refl b))

pub tree_eq_laws : IsEquivalence tree_eq
tree_eq_laws = decided tree_eq tree_eq_decides

not_in : (x : Tree) (ys : List Tree) → list_any (tree_eq x) ys ≡ false → AllByRecursion (λ y. tree_eq x y ≡ false) ys
not_in x [] h = tt
not_in x (y ∷ ys) h =
    elim (tree_eq x y) as (λ b. tree_eq x y ≡ b → (b || list_any (tree_eq x) ys) ≡ false → (b ≡ false) × AllByRecursion (λ y. tree_eq x y ≡ false) ys)
    [ true ↦ λ e h. cc | false ↦ λ e h. (refl, not_in x ys h) ] refl h

pub member-unique : (xs : List Tree) (q : Tree) → is_member tree_eq (unique_keys tree_eq xs) q ≡ is_member tree_eq xs q
member-unique [] q = refl
member-unique (x ∷ xs) q =
    elim (is_member tree_eq xs x) as (λ b. is_member tree_eq xs x ≡ b → is_member tree_eq (cond b (unique_keys tree_eq xs) (x ∷ unique_keys tree_eq xs)) q ≡ (tree_eq q x || is_member tree_eq xs q)) [
      | true ↦ λ e. member-unique xs q ∙ elim (tree_eq q x) as (λ b. tree_eq q x ≡ b → is_member tree_eq xs q ≡ (b || is_member tree_eq xs q))
          [ true ↦ λ s. ap (λ t. is_member tree_eq xs t) (same_tree q x s) ∙ e | false ↦ λ s. refl ] refl
      | false ↦ λ e. ap (λ b. tree_eq q x || b) (member-unique xs q)
    ] refl

pub unique-distinct : (xs : List Tree) → IsDistinct tree_eq (unique_keys tree_eq xs)
unfolding IsDistinct
unique-distinct [] = tt
unique-distinct (x ∷ xs) =
    elim (is_member tree_eq xs x) as (λ b. is_member tree_eq xs x ≡ b → IsDistinct tree_eq (cond b (unique_keys tree_eq xs) (x ∷ unique_keys tree_eq xs)))
    [ true ↦ λ e. unique-distinct xs | false ↦ λ e. (not_in x (unique_keys tree_eq xs) (member-unique xs x ∙ e), unique-distinct xs) ] refl

-- more trees have no fewer distinct ones
pub distinct_count-le_from_members : (xs ys : List Tree) → ((q : Tree) → is_member tree_eq xs q ≡ true → is_member tree_eq ys q ≡ true) → distinct_count tree_eq xs ≤ distinct_count tree_eq ys
distinct_count-le_from_members xs ys h =
    length-le_from_is_member tree_eq_laws (unique_keys tree_eq xs) (unique_keys tree_eq ys) (unique-distinct xs)
    (λ q m. member-unique ys q ∙ h q (sym (member-unique xs q) ∙ m))
