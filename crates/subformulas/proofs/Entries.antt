-- Entries of a list of needs: where a new one goes, and what it adds.
use Rattle.std.proofs.Common.{◌≡◌, ℕ, ◌+◌, ◌<◌, ◌≤◌, List, [], ◌∷◌, ◌++◌, take, drop, length, get_or, Bool, true, false, refl, ap, sym, ◌∙◌, append-nil, add-one, drop-cons, arith}
use Rattle.std.specs.Prelude.{slice_index_or, nat_eq, if◌then◌else◌, bytes_eq}
use Rattle.std.specs.List.{AllByRecursion, list_any, insert}
use Rattle.std.proofs.lemmas.Bool.Decides.{nat_tests}
use Rattle.std.proofs.lemmas.List.{get_or_default, take-append-drop}
use Rattle.std.proofs.lemmas.List.Concat.{flat_map-append}
use Rattle.qtl_syntax.specs.Tree.{Text}
use Rattle.subformulas.specs.declared.need_list.Need.{Need}
use Rattle.subformulas.specs.NeedList.{AreByVariable, entry_texts, texts_for, with_text, with_texts}

-- what holds of each, in parts
all_append : (P : Need → Type 0) (fs bs : List Need) → AllByRecursion P fs → AllByRecursion P bs → AllByRecursion P (fs ++ bs)
all_append P [] bs h k = k
all_append P (f ∷ fs) bs h k = (h.0, all_append P fs bs h.1 k)

all_parts : (P : Need → Type 0) (fs bs : List Need) → AllByRecursion P (fs ++ bs) → AllByRecursion P fs × AllByRecursion P bs
all_parts P [] bs h = (tt, h)
all_parts P (f ∷ fs) bs h = let more = all_parts P fs bs h.1 in ((h.0, more.0), more.1)

all_weaker : (P Q : Need → Type 0) → ((n : Need) → P n → Q n) → (ns : List Need) → AllByRecursion P ns → AllByRecursion Q ns
all_weaker P Q w [] h = tt
all_weaker P Q w (n ∷ ns) h = (w n h.0, all_weaker P Q w ns h.1)

all_between : (P : Need → Type 0) (fs bs : List Need) (n : Need) → P n → AllByRecursion P (fs ++ bs) → AllByRecursion P (fs ++ n ∷ bs)
all_between P fs bs n p h = let parts = all_parts P fs bs h in all_append P fs (n ∷ bs) parts.0 (p, parts.1)

-- between earlier and later variables the order stays
order_between : (fs bs : List Need) (n : Need) → AreByVariable (fs ++ bs) → AllByRecursion (λ m. m.variable ≤ n.variable) fs → AllByRecursion (λ m. n.variable < m.variable) bs → AreByVariable (fs ++ n ∷ bs)
order_between [] bs n h front back = (all_weaker (λ m. n.variable < m.variable) (λ m. n.variable ≤ m.variable) (λ m l. omega (arith, l)) bs back, h)
order_between (f ∷ fs) bs n h front back = (all_between (λ m. f.variable ≤ m.variable) fs bs n front.0 h.0, order_between fs bs n h.1 front.1 back)

-- entries of other variables give x nothing
entry_of : (b : Bool) (x : ℕ) (n : Need) (t : Text) → nat_eq x n.variable ≡ b → (x ≡ n.variable → ⊥) → (if b then t ∷ [] else []) ≡ []
entry_of true x n t e other = let same : x ≡ n.variable = grind (arith, nat_tests) in absurd (other same)
entry_of false x n t e other = refl

no_texts : (x : ℕ) (args : List Text) (ns : List Need) → AllByRecursion (λ m. x < m.variable) ns → texts_for x args ns ≡ []
no_texts x args [] h = refl
no_texts x args (n ∷ ns) h = rw (entry_of (nat_eq x n.variable) x n (slice_index_or args n.arg []) refl (let l = h.0 in λ e. omega (arith, l, e)), no_texts x args ns h.1) refl

-- a new entry behind those of its variable gives its text behind theirs, and no other variable anything
texts_by : (b : Bool) (x : ℕ) (args : List Text) (fs bs : List Need) (n : Need) → nat_eq x n.variable ≡ b → AllByRecursion (λ m. n.variable < m.variable) bs →
    texts_for x args fs ++ ((if b then slice_index_or args n.arg [] ∷ [] else []) ++ texts_for x args bs)
    ≡ (texts_for x args fs ++ texts_for x args bs) ++ (if b then slice_index_or args n.arg [] ∷ [] else [])
texts_by true x args fs bs n e back =
    let same : x ≡ n.variable = grind (arith, nat_tests) in
    let none : texts_for x args bs ≡ [] = no_texts x args bs (rw same back) in
    rw (none, append-nil (texts_for x args fs)) refl
texts_by false x args fs bs n e back = sym (append-nil (texts_for x args fs ++ texts_for x args bs))

texts_between : (x : ℕ) (args : List Text) (fs bs : List Need) (n : Need) → AllByRecursion (λ m. n.variable < m.variable) bs →
    texts_for x args (fs ++ n ∷ bs) ≡ texts_for x args (fs ++ bs) ++ entry_texts x args n
texts_between x args fs bs n back =
    flat_map-append (entry_texts x args) fs (n ∷ bs)
    ∙ texts_by (nat_eq x n.variable) x args fs bs n refl back
    ∙ ap (λ ts. ts ++ entry_texts x args n) (sym (flat_map-append (entry_texts x args) fs bs))

-- a text that isn't there comes to the end
apart_by : (b : Bool) (x : ℕ) (n : Need) (t : Text) (ts : List Text) → nat_eq x n.variable ≡ b → (x ≡ n.variable → list_any (bytes_eq t) ts ≡ false) →
    ts ++ (if b then t ∷ [] else []) ≡ with_texts ts (if b then t ∷ [] else [])
apart_by true x n t ts e new = let same : x ≡ n.variable = grind (arith, nat_tests) in rw (new same) refl
apart_by false x n t ts e new = append-nil ts

-- what a new entry at its place adds
pub entry_adds : (x : ℕ) (args : List Text) (ns : List Need) (n : Need) (i : ℕ) (t : Text) → t ≡ slice_index_or args n.arg [] → AllByRecursion (λ m. n.variable < m.variable) (drop i ns) →
    list_any (bytes_eq t) (texts_for n.variable args ns) ≡ false →
    texts_for x args (insert ns i n) ≡ with_texts (texts_for x args ns) (entry_texts x args n)
entry_adds x args ns n i t is back new =
    texts_between x args (take i ns) (drop i ns) n back
    ∙ ap (λ ms. texts_for x args ms ++ entry_texts x args n) (take-append-drop i ns)
    ∙ apart_by (nat_eq x n.variable) x n (slice_index_or args n.arg []) (texts_for x args ns) refl (λ same. rw (← is, same) new)

pub entry_order : (ns : List Need) (n : Need) (i : ℕ) → AreByVariable ns → AllByRecursion (λ m. m.variable ≤ n.variable) (take i ns) → AllByRecursion (λ m. n.variable < m.variable) (drop i ns) →
    AreByVariable (insert ns i n)
entry_order ns n i h front back = order_between (take i ns) (drop i ns) n (rw (take-append-drop i ns) h) front back

-- texts of one entry, and then of others
with_more : (ts us vs : List Text) → with_texts ts (us ++ vs) ≡ with_texts (with_texts ts us) vs
with_more ts [] vs = refl
with_more ts (u ∷ us) vs = with_more (with_text ts u) us vs

-- entries from a place on
from_place : {A : Type 0} (xs : List A) (i : ℕ) (d : A) → i < length xs → drop i xs ≡ get_or xs i d ∷ drop (i + 1) xs
from_place xs i d l = let h = drop-cons xs i d l in rw (add-one, h) refl

pub all_here : {A : Type 0} (P : A → Type 0) (xs : List A) (i : ℕ) (d : A) → i < length xs → AllByRecursion P (drop i xs) → P (get_or xs i d) × AllByRecursion P (drop (i + 1) xs)
all_here P xs i d l h = rw (from_place xs i d l) at h

-- entries from a later variable's on are of later variables
pub all_later : (x : ℕ) (ns : List Need) (i : ℕ) (d : Need) → i < length ns → x < (get_or ns i d).variable → AreByVariable (drop i ns) → AllByRecursion (λ m. x < m.variable) (drop i ns)
all_later x ns i d l less h =
    let order = rw (from_place ns i d l) at h in
    rw (from_place ns i d l) (less, all_weaker (λ m. (get_or ns i d).variable ≤ m.variable) (λ m. x < m.variable) (λ m le. omega (arith, less, le)) (drop (i + 1) ns) order.0)

-- an argument that was read
pub arg_read : (args : List Text) (k : ℕ) (a : Text) → k < length args → a ≡ get_or args k a → a ≡ slice_index_or args k []
arg_read args k a l is = is ∙ get_or_default args k a [] l

-- the text of one entry of x, and none of another's
own_text : (b : Bool) (x : ℕ) (n : Need) (t : Text) → nat_eq x n.variable ≡ b → n.variable ≡ x →
    (if b then t ∷ [] else []) ≡ t ∷ []
own_text true x n t e same = refl
own_text false x n t e same = absurd (let never : ⊥ = grind (arith, nat_tests) in never)

no_text : (b : Bool) (x : ℕ) (n : Need) (t : Text) → nat_eq x n.variable ≡ b →
    (n.variable ≡ x → ⊥) → (if b then t ∷ [] else []) ≡ []
no_text true x n t e other =
    let same : n.variable ≡ x = grind (arith, nat_tests) in absurd (other same)
no_text false x n t e other = refl

-- the entry at a place gives its text where it is one of the variable
pub text_first : (x : ℕ) (args : List Text) (ns : List Need) (i : ℕ) (d : Need) → i < length ns →
    (get_or ns i d).variable ≡ x →
    texts_for x args (drop i ns) ≡
    slice_index_or args (get_or ns i d).arg [] ∷ texts_for x args (drop (i + 1) ns)
text_first x args ns i d l same =
    ap (λ ms. texts_for x args ms) (from_place ns i d l)
    ∙ ap (λ ts. ts ++ texts_for x args (drop (i + 1) ns))
    (own_text (nat_eq x (get_or ns i d).variable) x (get_or ns i d)
    (slice_index_or args (get_or ns i d).arg []) refl same)

-- and else none
pub text_none : (x : ℕ) (args : List Text) (ns : List Need) (i : ℕ) (d : Need) → i < length ns →
    ((get_or ns i d).variable ≡ x → ⊥) →
    texts_for x args (drop i ns) ≡ texts_for x args (drop (i + 1) ns)
text_none x args ns i d l other =
    ap (λ ms. texts_for x args ms) (from_place ns i d l)
    ∙ ap (λ ts. ts ++ texts_for x args (drop (i + 1) ns))
    (no_text (nat_eq x (get_or ns i d).variable) x (get_or ns i d)
    (slice_index_or args (get_or ns i d).arg []) refl other)
