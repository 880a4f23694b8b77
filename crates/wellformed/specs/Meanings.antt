-- What names stand for where the program expands a formula.
use Rattle.std.specs.Prelude.{◌∷◌}
use Rattle.std.specs.List.{zip}
use Rattle.qtl_truth.specs.declared.numbered_atom.AtomTerm.TheVariants as number
use Rattle.wellformed.specs.declared.meaning.Meaning.{Meaning}
use Rattle.wellformed.specs.declared.meaning.Meaning.TheVariants as code
use Rattle.wellformed.specs.Expansion.{Names}

-- the names with what they stand for, the nearest first
abbrev pub names_of : Meaning → Names
names_of (code.Call params terms) = zip params.now terms.now
names_of (code.Bound' name v p outer) = (name.now, number.Variable v) ∷ names_of outer
