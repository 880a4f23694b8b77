use Rattle.std.proofs.Common.{◌∙◌, sym}
use Rattle.report.proofs.full_lines.put_nodes_full.Goals as goal

pub returns-clause-ok : goal.returns-clause-ok
returns-clause-ok g c =
    rw (sym (c.as_bytes.ensures.value ∙ c.format.ensures.text), sym (c.as_bytes-2.ensures.value ∙ c.format-2.ensures.text), sym (c.as_bytes-3.ensures.value ∙ c.format-3.ensures.text))
    (rw c.as_slice.ensures at c.put_parts.ensures.ok)

pub returns-clause-err : goal.returns-clause-err
returns-clause-err g c =
    rw (sym (c.as_bytes.ensures.value ∙ c.format.ensures.text), sym (c.as_bytes-2.ensures.value ∙ c.format-2.ensures.text), sym (c.as_bytes-3.ensures.value ∙ c.format-3.ensures.text))
    (rw c.as_slice.ensures at c.put_parts.ensures.err)
