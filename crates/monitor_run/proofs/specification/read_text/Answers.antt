use Rattle.std.proofs.Common.{◌++◌, take}
use Rattle.std.proofs.KnownBytes.{Consumes-trans}
use Rattle.monitor_run.proofs.specification.read_text.Goals as goal

pub returns-in-Err-extend_from_slice-clause-taken : goal.returns-in-Err-extend_from_slice-clause-taken
returns-in-Err-extend_from_slice-clause-taken g c = (c.reads.text.items ++ take c.in-Ok.count c.read.new.buf, Consumes-trans _ _ _ _ _ c.reads.invariant.taken c.in-Ok.ensures.bytes.0)
