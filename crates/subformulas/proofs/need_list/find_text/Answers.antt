use Rattle.std.proofs.Common.{◌<◌, ◌+◌, sym, ◌∙◌, length, subst}
use Rattle.subformulas.specs.declared.need_list.Need.{Need}
use Rattle.subformulas.proofs.Entries.{all_here, arg_read}
use Rattle.subformulas.proofs.Searching.{IsSearched, search_found, search_more, search_skip}
use Rattle.subformulas.proofs.need_list.find_text.Goals as goal
use Rattle.subformulas.proofs.need_list.find_text.Goals.{then-entry-variable+else-is_same, else-entry-variable}

abbrev none : Need
none = record { variable = 0; arg = 0 }

pub returns-then-is_same : goal.returns-then-is_same
returns-then-is_same c =
    let within = all_here (λ n. n.arg < length c.args.args.now) c.args.entries.now c.loop-entry.entry-index none c.loop-entry-test.true c.loop-entry.invariant.within in
    search_found c.args.variable c.args.text.now c.args.args.now c.args.entries.now c.loop-entry.entry-index c.loop-entry.count none c.loop-entry-test.true c.loop-entry.invariant
    c.if-entry-variable.true (sym (c.is_same.ensures.0 c.if-is_same.true) ∙ arg_read c.args.args.now _ c.index-args-entry.result within.0 c.index-args-entry.is)

pub loop-entry-preserved : goal.loop-entry-preserved
loop-entry-preserved c = elim c.if-entry-variable.branch [
  | then-entry-variable+else-is_same w ↦
      let within = all_here (λ n. n.arg < length c.args.args.now) c.args.entries.now c.loop-entry.entry-index none c.loop-entry-test.true c.loop-entry.invariant.within in
      let more = search_more c.args.variable c.args.text.now c.args.args.now c.args.entries.now c.loop-entry.entry-index c.loop-entry.count none c.loop-entry-test.true c.loop-entry.invariant
      w.if-entry-variable.true (λ is. let never = w.is_same.ensures.1 (arg_read c.args.args.now _ w.index-args-entry.result within.0 w.index-args-entry.is ∙ sym is) in let f = w.if-is_same.false in cc) in
      subst (IsSearched c.args.variable c.args.text.now c.args.args.now c.args.entries.now (c.loop-entry.entry-index + 1)) (sym w.count-is) more
  | else-entry-variable w ↦
      subst (IsSearched c.args.variable c.args.text.now c.args.args.now c.args.entries.now (c.loop-entry.entry-index + 1)) (sym w.count-is)
      (search_skip c.args.variable c.args.text.now c.args.args.now c.args.entries.now c.loop-entry.entry-index c.loop-entry.count none c.loop-entry-test.true c.loop-entry.invariant w.if-entry-variable.false)
]
