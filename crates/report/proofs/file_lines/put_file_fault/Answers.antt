use Rattle.std.proofs.Common.{sym}
use Rattle.report.proofs.file_lines.put_file_fault.Goals as goal

pub returns-clause-ok : goal.returns-clause-ok
returns-clause-ok g c = rw (sym c.name_of.ensures) c.put_line.ensures.ok

pub returns-clause-err : goal.returns-clause-err
returns-clause-err g c = rw (sym c.name_of.ensures) c.put_line.ensures.err
