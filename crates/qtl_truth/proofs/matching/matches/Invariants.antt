use Rattle.std.proofs.Common.{◌≡◌, ◌≤◌, ◌↔◌, List, length, drop}
use Rattle.std.specs.Prelude.{Some}
use Rattle.qtl_syntax.specs.Tree.{Text}
use Rattle.qtl_truth.specs.NumberedAtom.{texts_under}
use Rattle.qtl_truth.specs.Matching.{IsGiven, ArgsBelow, place_variables, with_terms, variables_of}
use Rattle.qtl_truth.proofs.matching.matches.Given as goal

abbrev pub invariant-loop-k : goal.invariant-loop-k
invariant-loop-k l = record {
  exactly : (nu : List Text) → (texts_under nu l.terms ≡ Some l.args) ↔ (IsGiven nu l.args l.places.items × (texts_under nu (drop l.k l.terms) ≡ Some (drop l.k l.args)));
  each : with_terms (place_variables l.places.items) (drop l.k l.terms) ≡ variables_of l.terms;
  within : ArgsBelow (length l.args) l.places.items;
  room : 8 ≤ l.places.capacity;
}
