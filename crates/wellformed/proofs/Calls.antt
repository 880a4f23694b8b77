-- What stands for a call is what its macro says.
use Rattle.std.proofs.Common.{◌≡◌, ℕ, List, [], ◌∷◌, length, refl, Some, None, Bool, true, false, subst, arith, take, take_all}
use Rattle.std.specs.Prelude.{bytes_eq, if◌then◌else◌, slice_get, slice_index_or, IsSomeAnd}
use Rattle.std.proofs.lemmas.Option.{slice_get_read}
use Rattle.qtl_syntax.specs.declared.formula.Formula as rust_formula
use Rattle.qtl_syntax.specs.declared.formula.Item as rust_item
use Rattle.qtl_syntax.specs.declared.formula.Item.TheVariants as code_item
use Rattle.std.specs.List.{zip}
use Rattle.qtl_syntax.specs.Tree.{Text, Formula, Item, Pred, Prop, formula_of}
use Rattle.qtl_truth.specs.declared.numbered_atom.AtomTerm.{AtomTerm}
use Rattle.wellformed.specs.CoreTree.{Atom}
use Rattle.wellformed.specs.Expansion.{called, call_names, call_quantifiers, call_size, expansion, quantifiers, quantifier_names, size}
use Rattle.qtl_truth.specs.Items.{before_of}
use Rattle.wellformed.specs.Macros.{Macro, macro_of, IsMacro, IsMacroAt}

pub record Calls (before : List Item) (name : Text) (m : Macro) : Type 0 where
  pub body : (terms : List AtomTerm) (next : ℕ) → called before name terms next ≡ expansion m.before (zip m.params terms) next m.body
  pub names : call_names before name ≡ quantifier_names m.before m.body
  pub count : call_quantifiers before name ≡ quantifiers m.before m.body
  pub sizes : call_size before name ≡ size m.before m.body

front : (b : Bool) (p : Text) (params : List Text) (f : Formula) (before : List Item) (name : Text) (m : Macro) → bytes_eq p name ≡ b →
    (if b then Some (record { params = params; body = f; before = before }) else macro_of before name) ≡ Some m →
    (macro_of before name ≡ Some m → Calls before name m) → Calls (Pred p params f ∷ before) name m
front true p params f before name m is e h =
    let M : Macro = record { params = params; body = f; before = before } in
    let same : M ≡ m = cc in
    subst (Calls (Pred p params f ∷ before) name) same
    (record { body = λ terms next. rw is refl; names = rw is refl; count = rw is refl; sizes = rw is refl })
front false p params f before name m is e h =
    let k = h e in
    record { body = λ terms next. rw is (k.body terms next); names = rw is k.names; count = rw is k.count; sizes = rw is k.sizes }

pub calls_of : (before : List Item) (name : Text) (m : Macro) → macro_of before name ≡ Some m → Calls before name m
calls_of [] name m e = absurd (let no : ⊥ = cc in no)
calls_of (Prop p f ∷ before) name m e =
    let k = calls_of before name m e in
    record { body = k.body; names = k.names; count = k.count; sizes = k.sizes }
calls_of (Pred p params f ∷ before) name m e =
    front (bytes_eq p name) p params f before name m refl e (λ h. calls_of before name m h)

pub record NoCall (before : List Item) (name : Text) : Type 0 where
  pub body : (terms : List AtomTerm) (next : ℕ) → called before name terms next ≡ Atom (record { name = name; terms = terms })
  pub names : call_names before name ≡ []
  pub count : call_quantifiers before name ≡ 0

front_none : (b : Bool) (p : Text) (params : List Text) (f : Formula) (before : List Item) (name : Text) → bytes_eq p name ≡ b →
    (if b then Some (record { params = params; body = f; before = before }) else macro_of before name) ≡ None →
    (macro_of before name ≡ None → NoCall before name) → NoCall (Pred p params f ∷ before) name
front_none true p params f before name is e h = absurd (let no : ⊥ = cc in no)
front_none false p params f before name is e h =
    let k = h e in
    record { body = λ terms next. rw is (k.body terms next); names = rw is k.names; count = rw is k.count }

pub no_call : (before : List Item) (name : Text) → macro_of before name ≡ None → NoCall before name
no_call [] name e = record { body = λ terms next. refl; names = refl; count = refl }
no_call (Prop p f ∷ before) name e =
    let k = no_call before name e in
    record { body = k.body; names = k.names; count = k.count }
no_call (Pred p params f ∷ before) name e =
    front_none (bytes_eq p name) p params f before name refl e (λ h. no_call before name h)

take_whole : (items : List rust_item.Item) (name : Text) (m : ℕ) → IsMacroAt items (length items) name m →
    IsSomeAnd (slice_get items m) (λ item. IsMacro item (before_of (take m items)) (macro_of (before_of items) name))
take_whole items name m h = rw (take_all (length items) items (omega arith)) at h.1

is_macro_item : (items : List rust_item.Item) (name : Text) (m : ℕ) (item : rust_item.Item) → IsMacroAt items (length items) name m → item ≡ slice_index_or items m item →
    IsMacro item (before_of (take m items)) (macro_of (before_of items) name)
is_macro_item items name m item h is =
    let get = slice_get_read items (length items) m item refl h.0 is in
    rw get at (take_whole items name m h)

-- the macro that was found
pub at_macro : (items : List rust_item.Item) (name : Text) (m : ℕ) (item : rust_item.Item) (p : Text) (params : List Text) (body : rust_formula.Formula) →
    IsMacroAt items (length items) name m → item ≡ slice_index_or items m item → item ≡ code_item.Pred p params body →
    Calls (before_of items) name (record { params = params; body = formula_of body; before = before_of (take m items) })
at_macro items name m item p params body h is e =
    let k = is_macro_item items name m item h is in
    calls_of (before_of items) name (record { params = params; body = formula_of body; before = before_of (take m items) })
    (subst (λ (i : rust_item.Item). IsMacro i (before_of (take m items)) (macro_of (before_of items) name)) e k)

pub at_prop : (items : List rust_item.Item) (name : Text) (m : ℕ) (item : rust_item.Item) (p : Text) (body : rust_formula.Formula) →
    IsMacroAt items (length items) name m → item ≡ slice_index_or items m item → item ≡ code_item.Prop p body → ⊥
at_prop items name m item p body h is e =
    let k = is_macro_item items name m item h is in
    subst (λ (i : rust_item.Item). IsMacro i (before_of (take m items)) (macro_of (before_of items) name)) e k
