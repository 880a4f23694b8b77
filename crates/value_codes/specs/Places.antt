-- How a book keeps its pairs: a list of them, and per code the place of its pair in that list.
use Rattle.std.specs.Prelude.{◌≡◌, ℕ, ◌-◌, ◌^◌, ◌<◌, ◌≤◌, List, [], ◌∷◌, ◌++◌, length, map, nat_eq, nat_lt, if◌then◌else◌, Option, Some, None, IsSome, is_some, slice_get, slice_index_or}
use Rattle.std.specs.List.{count_by, IsDistinct}
use Rattle.std.specs.Cmp.Lexicographic.{pointwise}
use Rattle.qtl_syntax.specs.Tree.{Text}
use Rattle.value_codes.specs.Pairs.{Pairs}

-- the place of a code's pair
abbrev pub place_of : List (Option ℕ) → ℕ → Option ℕ
place_of places c = slice_index_or places c None

-- c is the first code from a place on that has no place
pub record IsFirstFree (places : List (Option ℕ)) (from c : ℕ) : Type 0 where
  pub within : c ≤ length places
  pub free : place_of places c ≡ None
  pub given : (d : ℕ) → from ≤ d → d < c → IsSome (place_of places d)

-- the list reaches this code
abbrev pub with_place : List (Option ℕ) → ℕ → List (Option ℕ)
with_place places c = if nat_lt c (length places) then places else places ++ None ∷ []

-- places and pairs agree, and each code below the hint is given
pub record IsKept (bits : ℕ) (pairs : Pairs) (places : List (Option ℕ)) (hint : ℕ) : Type 0 where
  pub some_bits : 1 ≤ bits
  pub few_bits : bits ≤ 20
  pub texts : IsDistinct (pointwise nat_eq) (map (λ p. p.0) pairs)
  pub placed : (i : ℕ) (t : Text) (c : ℕ) → slice_get pairs i ≡ Some (t, c) → place_of places c ≡ Some i
  pub paired : (c i : ℕ) → place_of places c ≡ Some i → (t : Text) × (slice_get pairs i ≡ Some (t, c))
  pub count : count_by is_some places ≡ length pairs
  pub room : length places ≤ 2 ^ bits - 1
  pub reach : hint ≤ length places
  pub given : (c : ℕ) → c < hint → IsSome (place_of places c)
