-- A text has one fault or spells one specification, and never both.
use Rattle.std.proofs.Common.{◌≡◌, ℕ, List, subst}
use Rattle.qtl_syntax.specs.declared.token.Token.{Token}
use Rattle.qtl_syntax.specs.Tree.{Item}
use Rattle.qtl_syntax.specs.Cuts.{Cuts}
use Rattle.qtl_syntax.specs.Grammar.{Spells}
use Rattle.qtl_syntax.specs.Places.{Refusal, IsRefusedAt}
use Rattle.qtl_syntax.specs.Faults.{SpellsText, RuleHolds}
use Rattle.qtl_syntax.proofs.Once.{cuts_once}
use Rattle.qtl_syntax.proofs.Law.{one_specification}

-- all that the text spells, at any height, is this
pub spelled_once : (text : List ℕ) (ts : List Token) (items : List Item) → Cuts text ts → Spells 256 ts items → (height : ℕ) (others : List Item) → SpellsText height text others → others ≡ items
spelled_once text ts items c s height others t =
    let same : t.0 ≡ ts = cuts_once text t.0 ts t.1 c in
    one_specification height 256 ts others items (subst (λ v. Spells height v others) same t.2) s

-- no rule holds in the text, where none holds in its tokens
pub clear_text : (text : List ℕ) (ts : List Token) → Cuts text ts → ((refusal : Refusal) (at : ℕ) → ¬ IsRefusedAt ts refusal at) → (refusal : Refusal) (at : ℕ) → ¬ RuleHolds text refusal at
clear_text text ts c n refusal at r = n refusal at (subst (λ v. IsRefusedAt v refusal at) (cuts_once text r.0 ts r.1 c) r.2)
