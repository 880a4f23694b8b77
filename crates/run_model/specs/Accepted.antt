-- What a specification's text decides: its items, or why it is refused.
use Rattle.std.specs.Prelude.{◌≡◌, ◌≢◌, ◌<◌, ◌≤◌, List, length, Option, None, IsSomeAnd}
use Rattle.qtl_syntax.specs.Tree.{Text, Item}
use Rattle.qtl_syntax.specs.Faults.{SpellsWithin, IsFault}
use Rattle.qtl_syntax.specs.declared.fault.SpecFault.{SpecFault}
use Rattle.qtl_syntax.specs.declared.fault.SpecFault.TheVariants as spec_fault
use Rattle.wellformed.specs.Faults.{first_fault}
use Rattle.run_model.specs.declared.TheConstants.{MAX_SPEC}

-- it has more bytes than it may have
abbrev pub IsTooLong : Option Text → Type 0
IsTooLong spec = IsSomeAnd spec (λ text. MAX_SPEC < length text)

-- it isn't too long, and has this fault
abbrev pub HasFault : Option Text → SpecFault → Type 0
HasFault spec fault =
    (fault ≢ spec_fault.NoMemory)
    × IsSomeAnd spec (λ text. (length text ≤ MAX_SPEC) × IsFault text fault)

-- it spells these items within the limits
abbrev pub Spells : Option Text → List Item → Type 0
Spells spec items = IsSomeAnd spec (λ text. (length text ≤ MAX_SPEC) × SpellsWithin text items)

-- it is accepted, and these are its items
pub record Accepts (spec : Option Text) (items : List Item) : Type 0 where
  pub spelled : Spells spec items
  pub clear : first_fault items ≡ None
