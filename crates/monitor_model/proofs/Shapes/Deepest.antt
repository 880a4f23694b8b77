-- The tree of a quantifier's child has no level behind the quantifier's block.
use Rattle.std.proofs.Common.{ℕ, ◌+◌, ◌*◌, ◌<◌, ◌≤◌, arith}
use Rattle.std.proofs.Math.Nat.{mul-le-mul_right}
use Rattle.node_tree.specs.Tree.{Tree}
use Rattle.subformulas.specs.Free.{IsFreeAt}
use Rattle.node_tree.specs.Levels.{LevelsBelow}
use Rattle.monitor_model.specs.Setting.{Setting, first_of}
use Rattle.monitor_model.specs.Shape.{IsOwnLevel, HasOwnLevels}
use Rattle.monitor_model.proofs.Shapes.Levels.{weaker_levels}

-- what `IsDeepest` says of a quantifier over x is the premise
pub child_below : (s : Setting) (child x : ℕ) → ((y : ℕ) → IsFreeAt s.subs child y → y ≤ x) → (t : Tree) → HasOwnLevels s child t → LevelsBelow (first_of s x + s.bits) t
child_below s child x most =
    weaker_levels (IsOwnLevel s child) (λ l. l < first_of s x + s.bits)
    (λ l (y, f, (a, b)).
    let m : y * s.bits ≤ x * s.bits = mul-le-mul_right s.bits (most y f) in
    omega arith)
