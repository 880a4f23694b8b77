use Rattle.std.proofs.Common.{◌<◌}
use Rattle.std.specs.List.{AllWithin}
use Rattle.op_cache.proofs.heads.clear.Given as goal

abbrev pub invariant-loop-head : goal.invariant-loop-head
invariant-loop-head l = AllWithin (λ h. h.round < 1) l.heads 0 l.head-index
