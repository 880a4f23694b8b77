use Rattle.std.proofs.Common.{length, sym, arith, append-nil}
use Rattle.qtl_truth.specs.Items.{before_of}
use Rattle.wellformed.proofs.Calls.{at_macro, at_prop, no_call}
use Rattle.wellformed.proofs.expand.+expansion.Goals as goal

pub call-expand-requires : goal.call-expand-requires
call-expand-requires t c =
    let k = at_macro c.args.items.now c.args.name.now c.in-Some.m c.index-items-m.result c.in-Pred.name c.in-Pred.params c.in-Pred.body c.in-Some.ensures c.index-items-m.is c.in-Pred.is in
    let sizes = k.sizes in
    let count = k.count in
    let few = c.requires.few in
    let d = c.decreases in
    (omega arith, rw (← count) few)

pub call-unreachable-requires : goal.call-unreachable-requires
call-unreachable-requires t c = at_prop c.args.items.now c.args.name.now c.in-Some.m c.index-items-m.result c.in-Prop.name c.in-Prop.body c.in-Some.ensures c.index-items-m.is c.in-Prop.is

pub call-returns-in_ok-copy-in-None-clause-core : goal.call-returns-in_ok-copy-in-None-clause-core
call-returns-in_ok-copy-in-None-clause-core t c =
    let k = no_call (before_of c.args.items.now) c.args.name.now c.in-None.ensures in
    let e = c.in_ok-copy-in-None.ensures in
    rw e (sym (k.body c.args.terms (length c.args.variables.now)))

pub call-returns-in_ok-copy-in-None-clause-count : goal.call-returns-in_ok-copy-in-None-clause-count
call-returns-in_ok-copy-in-None-clause-count t c =
    let k = no_call (before_of c.args.items.now) c.args.name.now c.in-None.ensures in let count = k.count in omega arith

pub call-returns-in_ok-copy-in-None-clause-variables : goal.call-returns-in_ok-copy-in-None-clause-variables
call-returns-in_ok-copy-in-None-clause-variables t c =
    let k = no_call (before_of c.args.items.now) c.args.name.now c.in-None.ensures in
    rw k.names (sym (append-nil c.args.variables.now))

pub call-returns-in-Pred-clause-core : goal.call-returns-in-Pred-clause-core
call-returns-in-Pred-clause-core t c =
    let k = at_macro c.args.items.now c.args.name.now c.in-Some.m c.index-items-m.result c.in-Pred.name c.in-Pred.params c.in-Pred.body c.in-Some.ensures c.index-items-m.is c.in-Pred.is in
    let a = c.as_slice.ensures in
    let b = c.as_slice-in-Pred.ensures in
    rw (k.body c.args.terms (length c.args.variables.now)) (rw (a, b) at c.expand.ensures.core)

pub call-returns-in-Pred-clause-count : goal.call-returns-in-Pred-clause-count
call-returns-in-Pred-clause-count t c =
    let k = at_macro c.args.items.now c.args.name.now c.in-Some.m c.index-items-m.result c.in-Pred.name c.in-Pred.params c.in-Pred.body c.in-Some.ensures c.index-items-m.is c.in-Pred.is in
    rw k.count c.expand.ensures.count

pub call-returns-in-Pred-clause-variables : goal.call-returns-in-Pred-clause-variables
call-returns-in-Pred-clause-variables t c =
    let k = at_macro c.args.items.now c.args.name.now c.in-Some.m c.index-items-m.result c.in-Pred.name c.in-Pred.params c.in-Pred.body c.in-Some.ensures c.index-items-m.is c.in-Pred.is in
    rw k.names c.expand.ensures.variables
