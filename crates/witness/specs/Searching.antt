-- A search for the least text on the way down a block.
use Rattle.std.specs.Prelude.{◌≡◌, ℕ, ◌+◌, ◌^◌, ◌<◌, Option, Some, None, false}
use Rattle.qtl_syntax.specs.Tree.{Text}
use Rattle.node_tree.specs.Tree.{Tree}
use Rattle.bdd_ops.specs.Reading.{set_block}
use Rattle.value_codes.specs.Pairs.{Pairs, value_of}
use Rattle.monitor_model.specs.State.{is_one}
use Rattle.report.specs.Witness.{IsLeast}
use Rattle.witness.specs.Least.{lesser}

-- the lesser of two texts that there may be
abbrev pub lesser_of : Option Text → Option Text → Option Text
lesser_of None other = other
lesser_of (Some t) other = Some (lesser t other)

-- the least text of which P holds, where it holds of one
abbrev pub IsLeastIfAny : (P : Text → Type 0) → Option Text → Type 0
IsLeastIfAny P None = (u : Text) → ¬ P u
IsLeastIfAny P (Some t) = IsLeast P t

-- one of 2^bits codes from `from` on stands for the text and, set in the levels from `level` on,
-- leaves a tree other than true
pub record CanLeave (pairs : Pairs) (level bits from : ℕ) (tree : Tree) (u : Text) : Type 0 where
  pub code : ℕ
  pub below : code < 2 ^ bits
  pub given : value_of pairs (from + code) ≡ Some u
  pub leaves : is_one (set_block level bits code tree) ≡ false
