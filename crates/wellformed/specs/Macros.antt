-- The macros among items.
use Rattle.std.specs.Prelude.{◌≡◌, ℕ, ◌<◌, List, [], ◌∷◌, take, Bool, false, Option, Some, None, if◌then◌else◌, bytes_eq, slice_get, IsSomeAnd}
use Rattle.qtl_syntax.specs.Tree.{Text, Formula, Item, Pred, Prop, formula_of}
use Rattle.qtl_syntax.specs.declared.formula.Item as rust_item
use Rattle.qtl_syntax.specs.declared.formula.Item.TheVariants as code_item
use Rattle.qtl_truth.specs.Items.{before_of}

-- a macro: its parameters, its body, and the items before it, the nearest first
pub record Macro : Type 0 where
  pub params : List Text
  pub body : Formula
  pub before : List Item

-- the nearest macro of a name, among items of which the nearest comes first
abbrev pub macro_of : List Item → Text → Option Macro
macro_of [] name = None
macro_of (Prop p body ∷ before) name = macro_of before name
macro_of (Pred p params body ∷ before) name =
    if bytes_eq p name then Some (record { params = params; body = body; before = before }) else macro_of before name

-- the item is a macro of the name
abbrev pub is_macro_named : Item → Text → Bool
is_macro_named (Pred p params body) name = bytes_eq p name
is_macro_named (Prop p body) name = false

-- this macro of the program, under these items, was found
abbrev pub IsMacro : rust_item.Item → List Item → Option Macro → Type 0
IsMacro (code_item.Pred p params body) before o = o ≡ Some (record { params = params; body = formula_of body; before = before })
IsMacro (code_item.Prop p body) before o = ⊥

-- among the first n items, the nearest macro of the name is item m
abbrev pub IsMacroAt : List rust_item.Item → ℕ → Text → ℕ → Type 0
IsMacroAt items n name m =
    (m < n) × IsSomeAnd (slice_get items m) (λ item. IsMacro item (before_of (take m items)) (macro_of (before_of (take n items)) name))
