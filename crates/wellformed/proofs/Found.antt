-- Macros that are found, an item at a time.
use Rattle.std.proofs.Common.{◌≡◌, ℕ, ◌+◌, ◌<◌, List, [], ◌∷◌, ◌++◌, length, refl, Option, Some, None, true, false, ap, sym, ◌∙◌, arith, get_or, take}
use Rattle.std.specs.Prelude.{map, MatchOption}
use Rattle.std.proofs.lemmas.List.{take_more, reverse-append, map-append}
use Rattle.std.proofs.lemmas.Option.{slice_get_read}
use Rattle.qtl_syntax.specs.Tree.{Text, Item, Pred, Prop, item_of}
use Rattle.qtl_syntax.specs.declared.formula.Item as rust_item
use Rattle.qtl_syntax.specs.declared.formula.Item.TheVariants as code_item
use Rattle.qtl_truth.specs.Items.{before_of}
use Rattle.wellformed.specs.Macros.{macro_of, is_macro_named, IsMacro, IsMacroAt}

pub before_more : (items : List rust_item.Item) (item : rust_item.Item) → before_of (items ++ item ∷ []) ≡ item_of item ∷ before_of items
before_more items item =
    let m = map-append item_of items (item ∷ []) in
    rw (m, reverse-append (map item_of items) (item_of item ∷ [])) refl

-- one item more
pub take_at : (items : List rust_item.Item) (m : ℕ) (item : rust_item.Item) → m < length items → item ≡ get_or items m item → take (m + 1) items ≡ take m items ++ item ∷ []
take_at items m item l is = take_more items m item l ∙ ap (λ (x : rust_item.Item). take m items ++ x ∷ []) (sym is)

pub before_take : (items : List rust_item.Item) (m : ℕ) (item : rust_item.Item) → m < length items → item ≡ get_or items m item →
    before_of (take (m + 1) items) ≡ item_of item ∷ before_of (take m items)
before_take items m item l is = rw (take_at items m item l is, before_more (take m items) item) refl

macro_named : (item : rust_item.Item) (before : List Item) (name : Text) → is_macro_named (item_of item) name ≡ true → IsMacro item before (macro_of (item_of item ∷ before) name)
macro_named (code_item.Pred p params body) before name h = rw h refl
macro_named (code_item.Prop p body) before name h = let no : ⊥ = cc in absurd no

macro_other : (item : Item) (before : List Item) (name : Text) → is_macro_named item name ≡ false → macro_of (item ∷ before) name ≡ macro_of before name
macro_other (Pred p params body) before name h = rw h refl
macro_other (Prop p body) before name h = refl

pub macro_here : (items : List rust_item.Item) (m : ℕ) (item : rust_item.Item) (name : Text) → m < length items → item ≡ get_or items m item →
    is_macro_named (item_of item) name ≡ true → IsMacroAt items (m + 1) name m
macro_here items m item name l is h =
    let get = slice_get_read items (length items) m item refl l is in
    (omega arith, rw (get, before_take items m item l is) (macro_named item (before_of (take m items)) name h))

pub macro_kept : (items : List rust_item.Item) (m : ℕ) (item : rust_item.Item) (name : Text) (found : Option ℕ) → m < length items → item ≡ get_or items m item →
    is_macro_named (item_of item) name ≡ false → MatchOption found (macro_of (before_of (take m items)) name ≡ None) (IsMacroAt items m name) →
    MatchOption found (macro_of (before_of (take (m + 1) items)) name ≡ None) (IsMacroAt items (m + 1) name)
macro_kept items m item name None l is h k = rw (before_take items m item l is, macro_other (item_of item) (before_of (take m items)) name h) k
macro_kept items m item name (Some n) l is h k =
    (let a = k.0 in omega arith, rw (before_take items m item l is, macro_other (item_of item) (before_of (take m items)) name h) k.1)
