-- What holds of the properties of an accepted specification without macros.
use Rattle.std.proofs.Common.{◌≡◌, ℕ, ◌+◌, ◌≤◌, List, [], ◌∷◌, length, refl, Some, None, Bool, true, false, IsTrue, arith}
use Rattle.std.specs.Prelude.{if◌then◌else◌, nat_lt}
use Rattle.std.specs.List.{range_with_len}
use Rattle.std.proofs.lemmas.Bool.Decides.{nat_tests}
use Rattle.qtl_syntax.specs.Lawful.{is_lawful_formula, is_lawful_item, are_lawful}
use Rattle.qtl_syntax.specs.Tree.{Text, Item, Pred, Prop}
use Rattle.wellformed.specs.declared.core_formula.CoreProp.{CoreProp}
use Rattle.wellformed.specs.declared.fault.NameFault.{NameFault}
use Rattle.wellformed.specs.declared.fault.NameFault.TheVariants.{LateMacro, MacroArity, ArityClash, FreeVariable, NoProperty, TooManySubformulas}
use Rattle.wellformed.specs.CoreTree.{CoreFormula, props_of}
use Rattle.wellformed.specs.Expansion.{AreClosed, quantifiers, expansion, expanded_props, props_quantifiers}
use Rattle.wellformed.specs.Faults.{above, arity_pass, at_item, at_node, clash_pass, duplicate_from, first_count, first_in, first_name, free_pass, has_prop, late_pass, props_size}
use Rattle.wellformed.specs.Sound.{is_closed, has_lawful_bounds, nodes_of, variables_bound, are_closed, have_lawful_bounds}
use Rattle.wellformed.proofs.Accepted.{first_item, item_closed, neither, no_node}
use Rattle.wellformed.proofs.Sound.{and_parts, and_true, both_bound, expansion_size, expansion_numbers, expansion_bounds, expansion_closed}

props_nodes : (before items : List Item) (next : ℕ) → nodes_of (expanded_props before next items) ≤ props_size before items
props_nodes before [] next = omega arith
props_nodes before (Pred name params body ∷ items) next = props_nodes (Pred name params body ∷ before) items next
props_nodes before (Prop name body ∷ items) next =
    let p = expansion_size before [] next body in
    let q = props_nodes (Prop name body ∷ before) items (next + quantifiers before body) in omega arith

props_numbers : (before items : List Item) (next : ℕ) → variables_bound (expanded_props before next items) ≡ range_with_len next (props_quantifiers before items)
props_numbers before [] next = refl
props_numbers before (Pred name params body ∷ items) next = props_numbers (Pred name params body ∷ before) items next
props_numbers before (Prop name body ∷ items) next =
    both_bound _ _ next _ _ (expansion_numbers before [] next body) (props_numbers (Prop name body ∷ before) items (next + quantifiers before body))

props_bounds : (before items : List Item) (next : ℕ) → IsTrue (are_lawful before) → IsTrue (are_lawful items) → IsTrue (have_lawful_bounds (expanded_props before next items))
props_bounds before [] next h k = refl
props_bounds before (Pred name params body ∷ items) next h k =
    let p = and_parts (is_lawful_item (Pred name params body)) (are_lawful items) k in
    props_bounds (Pred name params body ∷ before) items next (and_true (is_lawful_item (Pred name params body)) _ p.0 h) p.1
props_bounds before (Prop name body ∷ items) next h k =
    let p = and_parts (is_lawful_item (Prop name body)) (are_lawful items) k in
    let l = and_parts _ (is_lawful_formula body) p.0 in
    and_true (has_lawful_bounds (expansion before [] next body)) _ (expansion_bounds before [] next body h l.1)
    (props_bounds (Prop name body ∷ before) items (next + quantifiers before body) (and_true (is_lawful_item (Prop name body)) _ p.0 h) p.1)

props_closed : (before items : List Item) (n m next : ℕ) → AreClosed before → first_in free_pass before n items ≡ None → first_in arity_pass before m items ≡ None →
    IsTrue (are_closed (expanded_props before next items))
props_closed before [] n m next c p q = refl
props_closed before (Pred name params body ∷ items) n m next c p q =
    let a = first_item (free_pass before (Pred name params body) items) n _ p in
    let b = first_item (arity_pass before (Pred name params body) items) m _ q in
    let k = item_closed before (Pred name params body) a.0 b.0 in
    props_closed (Pred name params body ∷ before) items (n + 1) (m + 1) next (k, c) a.1 b.1
props_closed before (Prop name body ∷ items) n m next c p q =
    let a = first_item (free_pass before (Prop name body) items) n _ p in
    let b = first_item (arity_pass before (Prop name body) items) m _ q in
    let k = item_closed before (Prop name body) a.0 b.0 in
    and_true (is_closed [] (expansion before [] next body)) _ (expansion_closed before next body c k)
    (props_closed (Prop name body ∷ before) items (n + 1) (m + 1) (next + quantifiers before body) c a.1 b.1)

props_some : (before items : List Item) (next : ℕ) → has_prop items ≡ true → 1 ≤ length (expanded_props before next items)
props_some before [] next h = absurd (let no : ⊥ = cc in no)
props_some before (Pred name params body ∷ items) next h = props_some (Pred name params body ∷ before) items next h
props_some before (Prop name body ∷ items) next h = omega arith

has_one : (b : Bool) → (if b then None else Some NoProperty) ≡ None → b ≡ true
has_one true e = refl
has_one false e = absurd (let no : ⊥ = cc in no)

none_above : (b : Bool) (fault : NameFault) → (if b then Some fault else None) ≡ None → b ≡ false
none_above true fault e = absurd (let no : ⊥ = cc in no)
none_above false fault e = refl

at_most : (limit n : ℕ) → nat_lt limit n ≡ false → n ≤ limit
at_most limit n e = grind (arith, nat_tests)

length_props : (props : List CoreProp) → length (props_of props) ≡ length props
length_props [] = refl
length_props (p ∷ props) = let h = length_props props in omega arith

-- all that holds of the properties
pub record AreSound (props : List (Text × CoreFormula)) (variables : ℕ) : Type 0 where
  pub some : 1 ≤ length props
  pub few_variables : variables ≤ 64
  pub few_nodes : nodes_of props ≤ 4096
  pub in_order : variables_bound props ≡ range_with_len 0 variables
  pub closed : IsTrue (are_closed props)
  pub bounds : IsTrue (have_lawful_bounds props)

pub accepted_sound : (items : List Item) → first_name items ≡ None → first_count items ≡ None → IsTrue (are_lawful items) →
    AreSound (expanded_props [] 0 items) (props_quantifiers [] items)
accepted_sound items e f h =
    let a = neither (at_item (duplicate_from [] 0 items)) _ e in
    let b = neither (at_node LateMacro (first_in late_pass [] 0 items)) _ a.1 in
    let c = neither (at_node MacroArity (first_in arity_pass [] 0 items)) _ b.1 in
    let d = neither (at_node ArityClash (first_in clash_pass [] 0 items)) _ c.1 in
    let p = neither (if has_prop items then None else Some NoProperty) _ f in
    let q = neither (above 4096 (props_size [] items) TooManySubformulas) _ p.1 in
    let size = at_most 4096 (props_size [] items) (none_above _ _ q.0) in
    let nodes = props_nodes [] items 0 in
    record {
      some = props_some [] items 0 (has_one (has_prop items) p.0);
      few_variables = at_most 64 (props_quantifiers [] items) (none_above _ _ q.1);
      few_nodes = omega arith;
      in_order = props_numbers [] items 0;
      closed = props_closed [] items 0 0 0 tt (no_node FreeVariable _ d.1) (no_node MacroArity _ c.0);
      bounds = props_bounds [] items 0 refl h;
    }

-- the same of the properties that the program holds
pub sound_props : (props : List CoreProp) (items : List Item) (variables : ℕ) → props_of props ≡ expanded_props [] 0 items → variables ≡ props_quantifiers [] items →
    AreSound (expanded_props [] 0 items) (props_quantifiers [] items) → AreSound (props_of props) variables
sound_props props items variables e f s = rw (e, f) s

pub some_props : (props : List CoreProp) → 1 ≤ length (props_of props) → 1 ≤ length props
some_props props h = let e = length_props props in omega arith
