use Rattle.qtl_syntax.proofs.OneFaultLaw.{one_fault, faults_spell_nothing, one_spelled}
use Rattle.qtl_syntax.proofs.laws.one_answer.Goals as goal

pub returns-clause-one_fault : goal.returns-clause-one_fault
returns-clause-one_fault c = one_fault

pub returns-clause-never_both : goal.returns-clause-never_both
returns-clause-never_both c = faults_spell_nothing

pub returns-clause-one_specification : goal.returns-clause-one_specification
returns-clause-one_specification c = one_spelled
