-- What a whole text spells within the limits, and why it is refused.
use Rattle.std.specs.Prelude.{◌≡◌, ◌≢◌, ◌⊎◌, ℕ, List}
use Rattle.qtl_syntax.specs.declared.token.Token.{Token}
use Rattle.qtl_syntax.specs.declared.scan.TokenEnd.{TokenEnd}
use Rattle.qtl_syntax.specs.declared.scan.TokenEnd.TheVariants as token_end
use Rattle.qtl_syntax.specs.declared.read.ReadEnd.{ReadEnd}
use Rattle.qtl_syntax.specs.declared.read.ReadEnd.TheVariants as read_end
use Rattle.qtl_syntax.specs.declared.fault.SpecFault.{SpecFault}
use Rattle.qtl_syntax.specs.declared.fault.SpecFault.TheVariants as fault
use Rattle.qtl_syntax.specs.Tree.{Item}
use Rattle.qtl_syntax.specs.Cuts.{Cuts, IsNotToken}
use Rattle.qtl_syntax.specs.Grammar.{Spells}
use Rattle.qtl_syntax.specs.Places.{Refusal, Syntax, TooDeep, BoundTooLarge, IsTooLarge, IsRefusedAt, IsRefused}

-- the text's tokens spell these items, no formula being higher
abbrev pub SpellsText : ℕ → List ℕ → List Item → Type 0
SpellsText height text items = (ts : List Token) × Cuts text ts × Spells height ts items

-- they spell them within the limits: no formula is higher than 256, and no number of a bound is too large
abbrev pub SpellsWithin : List ℕ → List Item → Type 0
SpellsWithin text items = (ts : List Token) × Cuts text ts × Spells 256 ts items × ((at : ℕ) → ¬ IsTooLarge ts at)

-- a rule of refusal holds at a token of the text
abbrev pub RuleHolds : List ℕ → Refusal → ℕ → Type 0
RuleHolds text refusal at = (ts : List Token) × Cuts text ts × IsRefusedAt ts refusal at

-- the text is cut into tokens, this is the least one at which a rule holds, and this rule holds there
abbrev pub IsRefusedText : List ℕ → Refusal → ℕ → Type 0
IsRefusedText text refusal at = (ts : List Token) × Cuts text ts × IsRefused ts refusal at

-- the text has this fault: no token begins at the byte, or the token is the least that is refused; want of memory is free
abbrev pub IsFault : List ℕ → SpecFault → Type 0
IsFault text (fault.NotToken at) = IsNotToken text at
IsFault text (fault.Syntax at) = IsRefusedText text Syntax at
IsFault text (fault.TooDeep at) = IsRefusedText text TooDeep at
IsFault text (fault.BoundTooLarge at) = IsRefusedText text BoundTooLarge at
IsFault text fault.NoMemory = Unit {0}

-- a text has at most one fault beside want of memory
abbrev pub OneFault : Type 0
OneFault = (text : List ℕ) (one other : SpecFault) → one ≢ fault.NoMemory → other ≢ fault.NoMemory → IsFault text one → IsFault text other → one ≡ other

-- a text with a fault spells nothing within the limits
abbrev pub FaultsSpellNothing : Type 0
FaultsSpellNothing = (text : List ℕ) (one : SpecFault) (items : List Item) → one ≢ fault.NoMemory → IsFault text one → ¬ SpellsWithin text items

-- a text that spells something within the limits spells it at any height, and nothing else
abbrev pub OneSpelled : Type 0
OneSpelled = (text : List ℕ) (height : ℕ) (items others : List Item) → SpellsWithin text items → SpellsText height text others → others ≡ items

-- what the scanner's end is for the text
abbrev pub fault_of_tokens : TokenEnd → SpecFault
fault_of_tokens (token_end.NotToken at) = fault.NotToken at
fault_of_tokens token_end.NoMemory = fault.NoMemory

-- what the grammar's end is for the text
abbrev pub fault_of_items : ReadEnd → SpecFault
fault_of_items (read_end.Syntax at) = fault.Syntax at
fault_of_items (read_end.TooDeep at) = fault.TooDeep at
fault_of_items (read_end.BoundTooLarge at) = fault.BoundTooLarge at
fault_of_items read_end.NoMemory = fault.NoMemory

-- the text is read back as these items, or it is too deep
abbrev pub ReadsBack : List ℕ → List Item → Type 0
ReadsBack text items = SpellsWithin text items ⊎ ((at : ℕ) × IsRefusedText text TooDeep at)
