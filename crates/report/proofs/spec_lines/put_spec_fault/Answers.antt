use Rattle.report.proofs.spec_lines.put_spec_fault.Goals as goal

pub returns-in-Syntax-clause-ok : goal.returns-in-Syntax-clause-ok
returns-in-Syntax-clause-ok g c = rw c.in-Syntax.is c.put_numbered-in-Syntax.ensures.ok

pub returns-in-Syntax-clause-err : goal.returns-in-Syntax-clause-err
returns-in-Syntax-clause-err g c = rw c.in-Syntax.is c.put_numbered-in-Syntax.ensures.err

pub returns-in-BoundTooLarge-clause-ok : goal.returns-in-BoundTooLarge-clause-ok
returns-in-BoundTooLarge-clause-ok g c = rw c.in-BoundTooLarge.is c.put_numbered-in-BoundTooLarge.ensures.ok

pub returns-in-BoundTooLarge-clause-err : goal.returns-in-BoundTooLarge-clause-err
returns-in-BoundTooLarge-clause-err g c = rw c.in-BoundTooLarge.is c.put_numbered-in-BoundTooLarge.ensures.err
