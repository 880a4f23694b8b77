use Rattle.std.proofs.Common.{sym, ◌∙◌}
use Rattle.wellformed.proofs.Found.{macro_here, macro_kept}
use Rattle.wellformed.proofs.macros.find_macro.Goals.{then-is_macro, else-is_macro}
use Rattle.wellformed.proofs.macros.find_macro.Goals as goal

pub loop-m-preserved : goal.loop-m-preserved
loop-m-preserved c = elim c.if-is_macro.branch [
  | then-is_macro w ↦ rw w.found-is (macro_here _ _ _ _ c.loop-m-test.true c.index-items-m.is (sym c.is_macro.ensures ∙ w.if-is_macro.true))
  | else-is_macro w ↦ rw w.found-is (macro_kept _ _ _ _ _ c.loop-m-test.true c.index-items-m.is (sym c.is_macro.ensures ∙ w.if-is_macro.false) c.loop-m.invariant)
]
