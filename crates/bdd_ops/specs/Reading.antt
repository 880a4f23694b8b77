-- A block of levels whose bits are set to a number.
use Rattle.std.specs.Prelude.{ℕ, zero, suc, ◌+◌, ◌-◌, ◌^◌, List, Bool, true, false, if◌then◌else◌, nat_le}
use Rattle.node_tree.specs.Tree.{Tree}
use Rattle.node_tree.specs.Restrict.{restrict, with_bit}

-- the tree with the bits of a block set to those of a number, the most significant first
abbrev pub set_block : (first bits code : ℕ) → Tree → Tree
set_block first zero code t = t
set_block first (suc n) code t =
    if nat_le (2 ^ n) code then set_block (first + 1) n (code - 2 ^ n) (restrict first true t) else set_block (first + 1) n code (restrict first false t)

-- bits with those of a block set to those of a number
abbrev pub with_code : List Bool → (first bits code : ℕ) → List Bool
with_code bits first zero code = bits
with_code bits first (suc n) code =
    if nat_le (2 ^ n) code then with_bit (with_code bits (first + 1) n (code - 2 ^ n)) first true else with_bit (with_code bits (first + 1) n code) first false
