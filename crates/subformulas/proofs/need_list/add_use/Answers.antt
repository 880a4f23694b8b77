use Rattle.std.proofs.Common.{sym, ◌∙◌}
use Rattle.subformulas.specs.Adding.{place_text, AddsUse}
use Rattle.subformulas.proofs.Uses.{arg_below, listed_more, use_added}
use Rattle.subformulas.proofs.need_list.add_use.Goals as goal

pub add-requires-clause-within : goal.add-requires-clause-within
add-requires-clause-within c = arg_below _ c.args.places.now c.args.variable c.in-Some.arg c.requires.within (sym c.place_of.ensures ∙ c.in-Some.is)

pub returns-in_ok-push-in-Some-clause-added : goal.returns-in_ok-push-in-Some-clause-added
returns-in_ok-push-in-Some-clause-added c =
    let at = sym c.place_of.ensures ∙ c.in-Some.is in
    use_added c.args.args.now c.args.places.now c.args.variable c.in-Some.arg c.in_ok-nth-in-Some.nth c.args.entries.now.items c.add.new.entries.items c.args.uses.now.items c.push.new.self.items
    at (arg_below _ c.args.places.now c.args.variable c.in-Some.arg c.requires.within at) c.in_ok-nth-in-Some.ensures.texts c.in_ok-nth-in-Some.ensures.nth c.in_ok-push-in-Some.ensures.items

pub returns-in_ok-push-in-Some-clause-listed : goal.returns-in_ok-push-in-Some-clause-listed
returns-in_ok-push-in-Some-clause-listed c v l h =
    let args = c.args.args.now in
    let x = c.args.variable in
    let before = c.args.entries.now.items in
    let after = c.add.new.entries.items in
    let old = c.args.uses.now.items in
    let new = c.push.new.self.items in
    let at = sym c.place_of.ensures ∙ c.in-Some.is in
    let added : AddsUse args x (place_text args c.args.places.now x) before after old new =
    use_added args c.args.places.now x c.in-Some.arg c.in_ok-nth-in-Some.nth before after old new at (arg_below _ c.args.places.now x c.in-Some.arg c.requires.within at)
    c.in_ok-nth-in-Some.ensures.texts c.in_ok-nth-in-Some.ensures.nth c.in_ok-push-in-Some.ensures.items in
    listed_more args x (place_text args c.args.places.now x) before after old new added v l h c.in_ok-nth-in-Some.ensures.order c.in_ok-nth-in-Some.ensures.args (c.in_ok-nth-in-Some.ensures.variables v l h.below)
