-- The least text by bytes among those whose code leads to a tree that can be false.
use Rattle.std.specs.Prelude.{ℕ, [], ◌∷◌, Option, Some, None, if◌then◌else◌}
use Rattle.qtl_syntax.specs.Tree.{Text}
use Rattle.node_tree.specs.Tree.{Tree}
use Rattle.bdd_ops.specs.Reading.{set_block}
use Rattle.value_codes.specs.Pairs.{Pairs}
use Rattle.monitor_model.specs.State.{is_one}
use Rattle.report.specs.Witness.{is_before}

-- the lesser of a text and one that there may be
abbrev pub lesser : Text → Option Text → Text
lesser t None = t
lesser t (Some u) = if is_before u t then u else t

-- the least text of the pairs whose code, set in the block, leaves a tree other than true
abbrev pub least_failing : (first bits : ℕ) → Tree → Pairs → Option Text
least_failing first bits tree [] = None
least_failing first bits tree (p ∷ pairs) =
    if is_one (set_block first bits p.1 tree) then least_failing first bits tree pairs
    else Some (lesser p.0 (least_failing first bits tree pairs))
