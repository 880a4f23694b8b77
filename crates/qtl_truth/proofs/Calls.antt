-- What an atom says, by the last of the items before it.
use Rattle.std.proofs.Common.{◌≡◌, ℕ, ◌-◌, ◌≤◌, ◌↔◌, List, [], ◌∷◌, ◌++◌, length, map, reverse, get_or, Option, Some, None, Bool, true, false, IsTrue, IsSome, IsSomeAnd, unwrap_or, refl, sym, ◌∙◌, ap, subst, arith}
use Rattle.std.specs.Prelude.{bytes_eq, slice_get}
use Rattle.std.specs.List.{zip}
use Rattle.std.proofs.lemmas.List.{map-append, reverse-append}
use Rattle.std.proofs.lemmas.Option.{slice_get_read}
use Rattle.std.proofs.lemmas.Slice.Eq.{bytes_eq-Decides}
use Rattle.qtl_syntax.specs.declared.formula.Formula as rust_formula
use Rattle.qtl_syntax.specs.declared.formula.Item as rust_item
use Rattle.qtl_syntax.specs.declared.formula.Item.TheVariants as code_item
use Rattle.qtl_syntax.specs.Tree.{Text, Item, Pred, formula_of, item_of}
use Rattle.qtl_truth.specs.declared.event.Event.{Event}
use Rattle.qtl_truth.specs.Items.{before_of}
use Rattle.qtl_truth.specs.Truth.{Says, Holds}

-- the last item is the nearest
before_last : (rest : List rust_item.Item) (last : rust_item.Item) → before_of (rest ++ last ∷ []) ≡ item_of last ∷ before_of rest
before_last rest last = ap reverse (map-append item_of rest (last ∷ [])) ∙ reverse-append (map item_of rest) (item_of last ∷ [])

before_pred : (items rest : List rust_item.Item) (last : rust_item.Item) (own : Text) (params : List Text) (body : rust_formula.Formula) →
    items ≡ rest ++ last ∷ [] → last ≡ code_item.Pred own params body → before_of items ≡ Pred own params (formula_of body) ∷ before_of rest
before_pred items rest last own params body is pred =
    ap before_of is ∙ before_last rest last ∙ ap (λ item. item_of item ∷ before_of rest) pred

-- with no item, an atom says that its event happens
pub says_event : (items : List rust_item.Item) (log : List Event) (i : ℕ) (e : Event) (name : Text) (o : Option (List Text)) (b : Bool) →
    length items ≡ 0 → 1 ≤ i → i ≤ length log → e ≡ get_or log (i - 1) e →
    (IsTrue b ↔ IsSomeAnd o (λ args. (e.name ≡ name) × (e.args ≡ args))) → IsTrue b ↔ IsSomeAnd o (λ args. Says (before_of items) log name args i)
says_event [] log i e name o b none from to is h =
    let get : slice_get log (i - 1) ≡ Some e = slice_get_read log (length log) (i - 1) e refl (omega arith) is in
    subst (λ found. IsTrue b ↔ IsSomeAnd o (λ args. IsSomeAnd found (λ d. (d.name ≡ name) × (d.args ≡ args)))) (sym get) h
says_event (item ∷ items) log i e name o b none from to is h = absurd (omega arith)

-- one claim for another
in_place : (b : Bool) (o : Option (List Text)) (P Q : List Text → Type 0) → ((args : List Text) → P args ↔ Q args) →
    (IsTrue b ↔ IsSomeAnd o P) → IsTrue b ↔ IsSomeAnd o Q
in_place b None P Q same h = h
in_place b (Some args) P Q same h = (λ x. (same args).0 (h.0 x), λ x. h.1 ((same args).1 x))

of_all : (b : Bool) (o : Option (List Text)) (P : List Text → Type 0) → IsSome o → (IsTrue b ↔ P (unwrap_or o [])) → IsTrue b ↔ IsSomeAnd o P
of_all b (Some args) P some h = h
of_all b None P some h = cc

other : (t : Bool) → (t ≡ true → ⊥) → t ≡ false
other true not = absurd (not refl)
other false not = refl

called : (before : List Item) (log : List Event) (i : ℕ) (own name : Text) (params : List Text) (body : rust_formula.Formula) (args : List Text) →
    own ≡ name → Holds before log i (zip params args) (formula_of body) ↔ Says (Pred own params (formula_of body) ∷ before) log name args i
called before log i own name params body args same =
    rw ((bytes_eq-Decides own name).1 same) (λ x. x, λ x. x)

passed : (before : List Item) (log : List Event) (i : ℕ) (own name : Text) (params : List Text) (body : rust_formula.Formula) (args : List Text) →
    (own ≡ name → ⊥) → Says before log name args i ↔ Says (Pred own params (formula_of body) ∷ before) log name args i
passed before log i own name params body args not =
    rw (other (bytes_eq own name) (λ e. not ((bytes_eq-Decides own name).0 e))) (λ x. x, λ x. x)

-- the last item is the macro that is called
pub says_body : (items rest : List rust_item.Item) (last : rust_item.Item) (own : Text) (params lent : List Text) (body : rust_formula.Formula)
    (log : List Event) (i : ℕ) (name : Text) (o : Option (List Text)) (b : Bool) →
    items ≡ rest ++ last ∷ [] → last ≡ code_item.Pred own params body → own ≡ name → IsSome o → lent ≡ params →
    (IsTrue b ↔ Holds (before_of rest) log i (zip lent (unwrap_or o [])) (formula_of body)) →
    IsTrue b ↔ IsSomeAnd o (λ args. Says (before_of items) log name args i)
says_body items rest last own params lent body log i name o b is pred same some own_params h =
    subst (λ before. IsTrue b ↔ IsSomeAnd o (λ args. Says before log name args i)) (sym (before_pred items rest last own params body is pred))
    (in_place b o _ _ (λ args. called (before_of rest) log i own name params body args same)
    (of_all b o (λ args. Holds (before_of rest) log i (zip params args) (formula_of body)) some
    (subst (λ given. IsTrue b ↔ Holds (before_of rest) log i (zip given (unwrap_or o [])) (formula_of body)) own_params h)))

-- the last item is a macro of another name
pub says_before : (items rest : List rust_item.Item) (last : rust_item.Item) (own : Text) (params : List Text) (body : rust_formula.Formula)
    (log : List Event) (i : ℕ) (name : Text) (o : Option (List Text)) (b : Bool) →
    items ≡ rest ++ last ∷ [] → last ≡ code_item.Pred own params body → (own ≡ name → ⊥) →
    (IsTrue b ↔ IsSomeAnd o (λ args. Says (before_of rest) log name args i)) →
    IsTrue b ↔ IsSomeAnd o (λ args. Says (before_of items) log name args i)
says_before items rest last own params body log i name o b is pred not h =
    subst (λ before. IsTrue b ↔ IsSomeAnd o (λ args. Says before log name args i)) (sym (before_pred items rest last own params body is pred))
    (in_place b o _ _ (λ args. passed (before_of rest) log i own name params body args not) h)
