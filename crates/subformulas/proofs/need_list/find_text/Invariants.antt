use Rattle.subformulas.proofs.Searching.{IsSearched}
use Rattle.subformulas.proofs.need_list.find_text.Given as goal

abbrev pub invariant-loop-entry : goal.invariant-loop-entry
invariant-loop-entry l = IsSearched l.variable l.text l.args l.entries l.entry-index l.count
