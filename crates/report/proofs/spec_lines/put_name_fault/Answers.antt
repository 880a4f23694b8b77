use Rattle.report.proofs.spec_lines.put_name_fault.Goals as goal

pub returns-in-DuplicateName-clause-err : goal.returns-in-DuplicateName-clause-err
returns-in-DuplicateName-clause-err g c = rw c.in-DuplicateName.is c.put_in_item.ensures.err

pub returns-in-LateMacro-clause-ok : goal.returns-in-LateMacro-clause-ok
returns-in-LateMacro-clause-ok g c = rw c.in-LateMacro.is c.put_at_node.ensures.ok

pub returns-in-LateMacro-clause-err : goal.returns-in-LateMacro-clause-err
returns-in-LateMacro-clause-err g c = rw c.in-LateMacro.is c.put_at_node.ensures.err

pub returns-in-MacroArity-clause-ok : goal.returns-in-MacroArity-clause-ok
returns-in-MacroArity-clause-ok g c = rw c.in-MacroArity.is c.put_at_node-in-MacroArity.ensures.ok

pub returns-in-MacroArity-clause-err : goal.returns-in-MacroArity-clause-err
returns-in-MacroArity-clause-err g c = rw c.in-MacroArity.is c.put_at_node-in-MacroArity.ensures.err

pub returns-in-ArityClash-clause-ok : goal.returns-in-ArityClash-clause-ok
returns-in-ArityClash-clause-ok g c = rw c.in-ArityClash.is c.put_at_node-in-ArityClash.ensures.ok

pub returns-in-ArityClash-clause-err : goal.returns-in-ArityClash-clause-err
returns-in-ArityClash-clause-err g c = rw c.in-ArityClash.is c.put_at_node-in-ArityClash.ensures.err

pub returns-in-FreeVariable-clause-ok : goal.returns-in-FreeVariable-clause-ok
returns-in-FreeVariable-clause-ok g c = rw c.in-FreeVariable.is c.put_at_node-in-FreeVariable.ensures.ok

pub returns-in-FreeVariable-clause-err : goal.returns-in-FreeVariable-clause-err
returns-in-FreeVariable-clause-err g c = rw c.in-FreeVariable.is c.put_at_node-in-FreeVariable.ensures.err

pub returns-in-TooManySubformulas-clause-ok : goal.returns-in-TooManySubformulas-clause-ok
returns-in-TooManySubformulas-clause-ok g c = rw c.in-TooManySubformulas.is c.put_numbered.ensures.ok

pub returns-in-TooManySubformulas-clause-err : goal.returns-in-TooManySubformulas-clause-err
returns-in-TooManySubformulas-clause-err g c = rw c.in-TooManySubformulas.is c.put_numbered.ensures.err

pub returns-in-TooManyVariables-clause-ok : goal.returns-in-TooManyVariables-clause-ok
returns-in-TooManyVariables-clause-ok g c = rw c.in-TooManyVariables.is c.put_numbered-in-TooManyVariables.ensures.ok

pub returns-in-TooManyVariables-clause-err : goal.returns-in-TooManyVariables-clause-err
returns-in-TooManyVariables-clause-err g c = rw c.in-TooManyVariables.is c.put_numbered-in-TooManyVariables.ensures.err
