-- The texts of terms, one term after another.
use Rattle.std.proofs.Common.{◌≡◌, ℕ, zero, suc, ◌+◌, ◌<◌, ◌≤◌, ◌⊎◌, inl, inr, List, [], ◌∷◌, length, min, drop, get_or, Option, Some, None, Bool, true, false, refl, sym, ◌∙◌, ap, arith}
use Rattle.std.specs.Prelude.{bytes_eq, if◌then◌else◌, unwrap_or, IsSome}
use Rattle.std.specs.List.{zip}
use Rattle.std.proofs.lemmas.Bool.{cases_lt}
use Rattle.std.proofs.lemmas.List.{at_drop_more, at_drop_all}
use Rattle.std.proofs.lemmas.Slice.Eq.{bytes_eq-Decides}
use Rattle.qtl_syntax.specs.declared.formula.Term.{Term}
use Rattle.qtl_syntax.specs.Tree.{Text}
use Rattle.qtl_truth.specs.Truth.{Assignment, text_at, text_of, with_first, texts_of}

parts : (o : Option Text) (p : Option (List Text)) (xs : List Text) → with_first o p ≡ Some xs → (t : Text) × (ys : List Text) × (xs ≡ t ∷ ys) × (o ≡ Some t) × (p ≡ Some ys)
parts None p xs e = absurd (let not : ⊥ = cc in not)
parts (Some t) None xs e = absurd (let not : ⊥ = cc in not)
parts (Some t) (Some ys) xs e = (t, ys, cc, cc, cc)

-- there are as many as there are terms
pub texts_length : (nu : Assignment) (ts : List Term) (xs : List Text) → texts_of nu ts ≡ Some xs → length ts ≡ length xs
texts_length nu [] xs e = let same : [] ≡ xs = cc in ap length same
texts_length nu (term ∷ ts) xs e =
    let p = parts (text_of nu term) (texts_of nu ts) xs e in
    let h = texts_length nu ts p.1 p.4 in
    omega (arith, ap length p.2)

if_first : (b : Bool) (o o' : Option Text) → b ≡ true → (if b then o else o') ≡ o
if_first true o o' e = refl
if_first false o o' e = cc

if_later : (b : Bool) (o o' : Option Text) → (b ≡ true → ⊥) → (if b then o else o') ≡ o'
if_later true o o' not = absurd (not refl)
if_later false o o' not = refl

-- what a variable has in the pairs from place i on, by whether the pair there has its name
from_place : (nu : Assignment) (x : Text) (i : ℕ) (p : Text × Text) → i < length nu → p ≡ get_or nu i p →
    text_at (drop i nu) x ≡ (if bytes_eq p.0 x then Some p.1 else text_at (drop (i + 1) nu) x)
from_place nu x i p within is =
    at_drop_more (λ pairs. text_at pairs x) nu i p within ∙ ap (λ q. text_at (q ∷ drop (i + 1) nu) x) (sym is)

pub text_here : (nu : Assignment) (x : Text) (i : ℕ) (p : Text × Text) → i < length nu → p ≡ get_or nu i p →
    text_at nu x ≡ text_at (drop i nu) x → p.0 ≡ x → Some p.1 ≡ text_at nu x
text_here nu x i p within is rest same =
    sym (rest ∙ from_place nu x i p within is ∙ if_first (bytes_eq p.0 x) _ _ ((bytes_eq-Decides p.0 x).1 same))

pub text_later : (nu : Assignment) (x : Text) (i : ℕ) (p : Text × Text) → i < length nu → p ≡ get_or nu i p →
    text_at nu x ≡ text_at (drop i nu) x → (p.0 ≡ x → ⊥) → text_at nu x ≡ text_at (drop (i + 1) nu) x
text_later nu x i p within is rest not =
    rest ∙ from_place nu x i p within is ∙ if_later (bytes_eq p.0 x) _ _ (λ e. not ((bytes_eq-Decides p.0 x).0 e))

-- the text of a parameter, by its term
abbrev pub given : Assignment → List Text → List Term → Text → Option Text
given nu [] terms x = None
given nu (p ∷ params) [] x = None
given nu (p ∷ params) (t ∷ terms) x = if bytes_eq p x then text_of nu t else given nu params terms x

given_none : (nu : Assignment) (params : List Text) (x : Text) → given nu params [] x ≡ None
given_none nu [] x = refl
given_none nu (p ∷ params) x = refl

first_given : (b : Bool) (a : Text) (o r s : Option Text) → o ≡ Some a → r ≡ s → (if b then Some a else r) ≡ (if b then o else s)
first_given true a o r s is same = sym is
first_given false a o r s is same = same

given_zip : (nu : Assignment) (params : List Text) (terms : List Term) (args : List Text) (x : Text) →
    texts_of nu terms ≡ Some args → text_at (zip params args) x ≡ given nu params terms x
given_zip nu [] terms args x e = refl
given_zip nu (p ∷ params) [] args x e =
    let none : args ≡ [] = cc in ap (λ as'. text_at (zip (p ∷ params) as') x) none
given_zip nu (p ∷ params) (t ∷ terms) args x e =
    let q = parts (text_of nu t) (texts_of nu terms) args e in
    ap (λ as'. text_at (zip (p ∷ params) as') x) q.2
    ∙ first_given (bytes_eq p x) q.0 (text_of nu t) _ _ q.3 (given_zip nu params terms q.1 x q.4)

-- the same, where each term has a text
pub given_all : (nu : Assignment) (params : List Text) (terms : List Term) (x : Text) (o : Option (List Text)) →
    texts_of nu terms ≡ o → IsSome o → text_at (zip params (unwrap_or o [])) x ≡ given nu params terms x
given_all nu params terms x (Some args) e some = given_zip nu params terms args x e
given_all nu params terms x None e some = cc

given_step : (nu : Assignment) (params : List Text) (terms : List Term) (x : Text) (k : ℕ) (p : Text) (t : Term) →
    k < length params → k < length terms → p ≡ get_or params k p → t ≡ get_or terms k t →
    given nu (drop k params) (drop k terms) x ≡ (if bytes_eq p x then text_of nu t else given nu (drop (k + 1) params) (drop (k + 1) terms) x)
given_step nu params terms x k p t in_params in_terms is_p is_t =
    at_drop_more (λ qs. given nu qs (drop k terms) x) params k p in_params
    ∙ at_drop_more (λ us. given nu (get_or params k p ∷ drop (k + 1) params) us x) terms k t in_terms
    ∙ ap (λ q. given nu (q ∷ drop (k + 1) params) (get_or terms k t ∷ drop (k + 1) terms) x) (sym is_p)
    ∙ ap (λ u. given nu (p ∷ drop (k + 1) params) (u ∷ drop (k + 1) terms) x) (sym is_t)

pub given_here : (nu : Assignment) (params : List Text) (terms : List Term) (x : Text) (k : ℕ) (p : Text) (t : Term) →
    k < length params → k < length terms → p ≡ get_or params k p → t ≡ get_or terms k t →
    given nu params terms x ≡ given nu (drop k params) (drop k terms) x → p ≡ x → text_of nu t ≡ given nu params terms x
given_here nu params terms x k p t in_params in_terms is_p is_t rest same =
    sym (rest ∙ given_step nu params terms x k p t in_params in_terms is_p is_t ∙ if_first (bytes_eq p x) _ _ ((bytes_eq-Decides p x).1 same))

term_at : (terms : List Term) (k : ℕ) → k < length terms → (t : Term) × (t ≡ get_or terms k t)
term_at [] k within = absurd (omega arith)
term_at (t ∷ terms) zero within = (t, refl)
term_at (t ∷ terms) (suc k) within = term_at terms k (omega arith)

pub given_later : (nu : Assignment) (params : List Text) (terms : List Term) (x : Text) (k : ℕ) (p : Text) →
    k < length params → k < length terms → p ≡ get_or params k p →
    given nu params terms x ≡ given nu (drop k params) (drop k terms) x → (p ≡ x → ⊥) →
    given nu params terms x ≡ given nu (drop (k + 1) params) (drop (k + 1) terms) x
given_later nu params terms x k p in_params in_terms is_p rest not =
    let there = term_at terms k in_terms in
    rest ∙ given_step nu params terms x k p there.0 in_params in_terms is_p there.1 ∙ if_later (bytes_eq p x) _ _ (λ e. not ((bytes_eq-Decides p x).0 e))

pub one_is_out : (a b k : ℕ) → min a b ≤ k → (a ≤ k) ⊎ (b ≤ k)
one_is_out a b k all = out a b k all (cases_lt k a)
  where
    out : (a b k : ℕ) → min a b ≤ k → (k < a) ⊎ (a ≤ k) → (a ≤ k) ⊎ (b ≤ k)
    out a b k all (inl more) = inr (omega arith)
    out a b k all (inr x) = inl x

pub given_end : (nu : Assignment) (params : List Text) (terms : List Term) (x : Text) (k : ℕ) →
    (length params ≤ k) ⊎ (length terms ≤ k) → given nu (drop k params) (drop k terms) x ≡ None
given_end nu params terms x k (inl past) = at_drop_all (λ qs. given nu qs (drop k terms) x) params k past
given_end nu params terms x k (inr past) =
    at_drop_all (λ us. given nu (drop k params) us x) terms k past ∙ given_none nu (drop k params) x
