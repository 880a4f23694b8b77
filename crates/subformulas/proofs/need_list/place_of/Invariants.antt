use Rattle.std.proofs.Common.{◌≡◌, drop}
use Rattle.qtl_truth.specs.Matching.{arg_at}
use Rattle.subformulas.proofs.need_list.place_of.Given as goal

abbrev pub invariant-loop-place : goal.invariant-loop-place
invariant-loop-place l = arg_at l.places l.variable ≡ arg_at (drop l.place-index l.places) l.variable
