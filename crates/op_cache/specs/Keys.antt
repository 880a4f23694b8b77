-- Keys by the numbers of their operands.
use Rattle.std.specs.Prelude.{ℕ, Bool, ◌&&◌, nat_eq}
use Rattle.op_cache.specs.declared.key.Key.{Key}
use Rattle.op_cache.specs.declared.key.Place.{Place}

-- a key with each operand's number in its place
abbrev pub place_of : {H : Type 0} → (H → ℕ) → Key H → Place
place_of number key = record { op = key.op; left = number key.left; right = number key.right }

-- whether two places are one
abbrev pub same_place : Place → Place → Bool
same_place p q = nat_eq p.op q.op && nat_eq p.left q.left && nat_eq p.right q.right
