use Rattle.std.proofs.Common.{◌∙◌, sym}
use Rattle.report.proofs.line.put_numbered.Goals as goal

pub returns-clause-ok : goal.returns-clause-ok
returns-clause-ok g c = rw (sym (c.as_bytes-digits.ensures.value ∙ c.format.ensures.text)) c.put_line.ensures.ok

pub returns-clause-err : goal.returns-clause-err
returns-clause-err g c = rw (sym (c.as_bytes-digits.ensures.value ∙ c.format.ensures.text)) c.put_line.ensures.err
