-- The operations on truths, and their numbers in a memo.
use Rattle.std.specs.Prelude.{ℕ, Bool, ◌&&◌, ◌||◌, not}
use Rattle.op_cache.specs.declared.key.Place.{Place}
use Rattle.bdd_ops.specs.declared.op.Op.{Op}
use Rattle.bdd_ops.specs.declared.op.Op.TheVariants.{And, Or, AndNot, Implies, Iff}

abbrev pub truth_of : Op → Bool → Bool → Bool
truth_of And a b = a && b
truth_of Or a b = a || b
truth_of AndNot a b = a && not b
truth_of Implies a b = not a || b
truth_of Iff a b = (a && b) || (not a && not b)

abbrev pub number_of : Op → ℕ
number_of And = 0
number_of Or = 1
number_of AndNot = 2
number_of Implies = 3
number_of Iff = 4

-- where a memo has an operation's result on two handles
abbrev pub place : Op → ℕ → ℕ → Place
place op u v = record { op = number_of op; left = u; right = v }
