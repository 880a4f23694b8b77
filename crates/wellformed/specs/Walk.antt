-- What the walk over the nodes of a formula finds, and the scopes that it carries.
use Rattle.std.specs.Prelude.{◌≡◌, ℕ, ◌+◌, List, [], ◌∷◌, length, map, take, drop, Option, Some, None, Bool, true, false}
use Rattle.qtl_syntax.specs.declared.formula.Item as rust_item
use Rattle.qtl_syntax.specs.Tree.{Text, Formula, Item, item_of}
use Rattle.qtl_truth.specs.Items.{before_of}
use Rattle.wellformed.specs.declared.walk.Test.{Test}
use Rattle.wellformed.specs.declared.walk.Test.TheVariants.{Late, Arity, Free}
use Rattle.wellformed.specs.declared.walk.Scope.{Scope}
use Rattle.wellformed.specs.declared.walk.Scope.TheVariants as code
use Rattle.wellformed.specs.Faults.{first_bad, is_late, is_wrong_call, is_free, late_pass, arity_pass, free_pass}

-- the names in a scope, the nearest first
abbrev pub names_in_scope : Scope → List Text
names_in_scope (code.Params params) = params.now
names_in_scope (code.Bound' name p outer) = name.now ∷ names_in_scope outer

-- what a test finds bad, under the items before the node's and the items from its own on
abbrev pub is_bad : Test → List Item → List Item → List Text × Formula → Bool
is_bad Late before rest node = is_late rest node
is_bad Arity before rest node = is_wrong_call before node
is_bad Free before rest node = is_free node

-- the same at item m of the items that the program holds
abbrev pub is_bad_at : Test → List rust_item.Item → ℕ → List Text × Formula → Bool
is_bad_at test items m node = is_bad test (before_of (take m items)) (map item_of (drop m items)) node

-- the pass of a test
abbrev pub pass_of : Test → List Item → Item → List Item → Option ℕ
pass_of Late = late_pass
pass_of Arity = arity_pass
pass_of Free = free_pass

-- what a pass finds in the first of the items, under those before
abbrev pub found_at : (List Item → Item → List Item → Option ℕ) → List Item → List Item → Option ℕ
found_at pass before [] = None
found_at pass before (item ∷ after) = pass before item after

-- the fault that the pass finds in item m of the items that the program holds
abbrev pub pass_at : Test → List rust_item.Item → ℕ → Option ℕ
pass_at test items m = found_at (pass_of test) (before_of (take m items)) (map item_of (drop m items))

-- the first bad one of xs, of which the first has the number n, is number m; where none is bad, m comes after them
abbrev pub IsFirst : {A : Type 0} → (A → Bool) → ℕ → List A → ℕ → Bool → Type 0
IsFirst bad n xs m true = first_bad bad n xs ≡ Some m
IsFirst bad n xs m false = (first_bad bad n xs ≡ None) × (m ≡ n + length xs)
