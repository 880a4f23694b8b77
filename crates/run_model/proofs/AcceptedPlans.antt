-- The table of an accepted specification is one that the monitor takes.
use Rattle.std.proofs.Common.{◌≡◌, ℕ, ◌+◌, List, [], ◌∷◌, ◌++◌, length, length-append, refl, sym, ap, ◌∙◌, arith, Bool, true, false, IsTrue}
use Rattle.std.proofs.lemmas.List.{length-map}
use Rattle.std.specs.Prelude.{bytes_eq, if◌then◌else◌, Option, Some, None}
use Rattle.std.specs.List.{range_with_len}
use Rattle.qtl_syntax.specs.Tree.{Text, Formula, True, False, Atom, Not, And, Or, Implies, Iff, Prev, Since, TimedSince, Once, TimedOnce, Always, TimedAlways, Interval, Exists, Forall, Item, Pred, Prop}
use Rattle.qtl_syntax.specs.Lawful.{are_lawful}
use Rattle.qtl_syntax.proofs.LawfulTree.{good, lawful_items}
use Rattle.wellformed.specs.CoreTree.{CoreFormula}
use Rattle.wellformed.specs.declared.core_formula.Variable.{Variable}
use Rattle.wellformed.specs.Expansion.{quantifiers_in, call_quantifiers, names_in, call_names, quantifier_names, expanded_props, props_quantifiers, variables_named, props_variables}
use Rattle.wellformed.specs.Faults.{first_count, first_name}
use Rattle.wellformed.proofs.Accepted.{neither}
use Rattle.wellformed.proofs.SoundProps.{accepted_sound}
use Rattle.subformulas.proofs.NumberedRows.{all_table, all_uses, bounds_of}
use Rattle.monitor_model.specs.Stands.{IsPlan}
use Rattle.run_model.specs.Accepted.{Accepts, Spells}
use Rattle.run_model.specs.Limits.{setting_in, variables_in}
use Rattle.run_model.specs.Job.{Job}

-- a variable for each quantifier
both_count : (xs ys : List Text) (a b : ℕ) → length xs ≡ a → length ys ≡ b → length (xs ++ ys) ≡ a + b
both_count xs ys a b p q = omega (arith, length-append xs ys, p, q)

one_more : (x : Text) (xs : List Text) (a : ℕ) → length xs ≡ a → length (x ∷ xs) ≡ 1 + a
one_more x xs a p = omega (arith, p)

module _ (call : Text → List Text) (count : Text → ℕ) (kept : (name : Text) → length (call name) ≡ count name) where
  names_count : (f : Formula) → length (names_in call f) ≡ quantifiers_in count f
  names_count True = refl
  names_count False = refl
  names_count (Atom name ts) = kept name
  names_count (Not f) = names_count f
  names_count (And f g) = both_count (names_in call f) (names_in call g) _ _ (names_count f) (names_count g)
  names_count (Or f g) = both_count (names_in call f) (names_in call g) _ _ (names_count f) (names_count g)
  names_count (Implies f g) = both_count (names_in call f) (names_in call g) _ _ (names_count f) (names_count g)
  names_count (Iff f g) = both_count (names_in call f) (names_in call g) _ _ (names_count f) (names_count g)
  names_count (Prev f) = names_count f
  names_count (Since f g) = both_count (names_in call f) (names_in call g) _ _ (names_count f) (names_count g)
  names_count (TimedSince b f g) = both_count (names_in call f) (names_in call g) _ _ (names_count f) (names_count g)
  names_count (Once f) = names_count f
  names_count (TimedOnce b f) = names_count f
  names_count (Always f) = names_count f
  names_count (TimedAlways b f) = names_count f
  names_count (Interval f g) = both_count (names_in call f) (names_in call g) _ _ (names_count f) (names_count g)
  names_count (Exists x f) = one_more x (names_in call f) _ (names_count f)
  names_count (Forall x f) = one_more x (names_in call f) _ (names_count f)

count_by : (b : Bool) (xs ys : List Text) (m n : ℕ) → length xs ≡ m → length ys ≡ n → length (if b then xs else ys) ≡ (if b then m else n)
count_by true xs ys m n p q = p
count_by false xs ys m n p q = q

calls_count : (before : List Item) (name : Text) → length (call_names before name) ≡ call_quantifiers before name
calls_count [] name = refl
calls_count (Prop p body ∷ before) name = calls_count before name
calls_count (Pred p params body ∷ before) name =
    count_by (bytes_eq p name) (names_in (call_names before) body) (call_names before name) _ _
    (names_count (call_names before) (call_quantifiers before) (calls_count before) body) (calls_count before name)

named_count : (p : ℕ) (names : List Text) → length (variables_named p names) ≡ length names
named_count p names = let variable : Text → Variable = λ x. record { name = x; property = p } in length-map names variable

variables_count : (before : List Item) (p : ℕ) (items : List Item) → length (props_variables before p items) ≡ props_quantifiers before items
variables_count before p [] = refl
variables_count before p (Pred name params body ∷ items) = variables_count (Pred name params body ∷ before) p items
variables_count before p (Prop name body ∷ items) =
    let own = names_count (call_names before) (call_quantifiers before) (calls_count before) body in
    let named = named_count p (quantifier_names before body) in
    let later = variables_count (Prop name body ∷ before) (p + 1) items in
    omega (arith, length-append (variables_named p (quantifier_names before body)) (props_variables (Prop name body ∷ before) (p + 1) items), own, named, later)

-- what is spelled within the limits is lawful
lawful_spelled : (spec : Option Text) (items : List Item) → Spells spec items → IsTrue (are_lawful items)
lawful_spelled (Some text) items (_, (ts, cut, spelled, clear)) = lawful_items 256 ts items spelled (good text ts [] cut clear)
lawful_spelled None items spelled = absurd spelled

-- the table of accepted items
pub accepted_plan : (job : Job) (spec : Option Text) (items : List Item) → Accepts spec items → IsPlan (setting_in job items)
accepted_plan job spec items accepted =
    let props : List (Text × CoreFormula) = expanded_props [] 0 items in
    let names = neither (first_name items) (first_count items) accepted.clear in
    let sound = accepted_sound items names.0 names.1 (lawful_spelled spec items accepted.spelled) in
    let in_order = sound.in_order ∙ ap (range_with_len 0) (sym (variables_count [] 0 items)) in
    record { table = all_table 0 props; uses = all_uses (length (variables_in items)) props in_order sound.closed; bounds = bounds_of props sound.bounds }
