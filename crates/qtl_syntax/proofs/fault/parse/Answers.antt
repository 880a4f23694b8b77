use Rattle.std.proofs.Common.{[]}
use Rattle.std.specs.Prelude.{map}
use Rattle.qtl_syntax.specs.Tree.{item_of}
use Rattle.qtl_syntax.specs.Grammar.{Spells}
use Rattle.qtl_syntax.specs.Places.{BoundTooLarge}
use Rattle.qtl_syntax.proofs.FaultLaw.{spelled_once, clear_text}
use Rattle.qtl_syntax.proofs.LawfulTree.{NoneTooLarge, good, lawful_items}
use Rattle.qtl_syntax.proofs.fault.parse.Goals as goal

pub returns-clause-ok : goal.returns-clause-ok
returns-clause-ok c =
    let spelled : Spells 256 c.in_ok-tokens.tokens (map item_of c.in_ok-items.items) = rw c.as_slice.ensures at c.in_ok-items.ensures.spelled in
    let clear : NoneTooLarge c.in_ok-tokens.tokens = λ at x. c.in_ok-items.ensures.clear BoundTooLarge at (rw c.as_slice.ensures x) in
    (c.in_ok-tokens.tokens, c.in_ok-tokens.ensures.cut, spelled, clear)

pub returns-clause-only : goal.returns-clause-only
returns-clause-only c =
    let spelled : Spells 256 c.in_ok-tokens.tokens (map item_of c.in_ok-items.items) = rw c.as_slice.ensures at c.in_ok-items.ensures.spelled in
    spelled_once c.args.text.now c.in_ok-tokens.tokens (map item_of c.in_ok-items.items) c.in_ok-tokens.ensures.cut spelled

pub returns-clause-clear : goal.returns-clause-clear
returns-clause-clear c =
    clear_text c.args.text.now c.in_ok-tokens.tokens c.in_ok-tokens.ensures.cut (λ refusal at x. c.in_ok-items.ensures.clear refusal at (rw c.as_slice.ensures x))

pub invariant_of-result : goal.invariant_of-result
invariant_of-result c =
    let spelled : Spells 256 c.in_ok-tokens.tokens (map item_of c.in_ok-items.items) = rw c.as_slice.ensures at c.in_ok-items.ensures.spelled in
    let clear : NoneTooLarge c.in_ok-tokens.tokens = λ at x. c.in_ok-items.ensures.clear BoundTooLarge at (rw c.as_slice.ensures x) in
    record { lawful = lawful_items 256 c.in_ok-tokens.tokens (map item_of c.in_ok-items.items) spelled (good c.args.text.now c.in_ok-tokens.tokens [] c.in_ok-tokens.ensures.cut clear) }
