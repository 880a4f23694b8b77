use Rattle.std.proofs.Common.{◌≡◌, ◌<◌, ℕ}
use Rattle.std.specs.Prelude.{Some, slice_get}
use Rattle.qtl_syntax.specs.Tree.{Text}
use Rattle.qtl_truth.specs.Truth.{IsText}
use Rattle.monitor_run.proofs.judge.are_texts.Given as goal

-- the texts so far are lists of bytes
abbrev pub invariant-loop-text : goal.invariant-loop-text
invariant-loop-text l = (j : ℕ) (t : Text) → j < l.text-index → slice_get l.texts j ≡ Some t → IsText t
