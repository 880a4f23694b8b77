-- What the parameters of a macro stand for, one after the other.
use Rattle.std.proofs.Common.{◌≡◌, ℕ, ◌+◌, ◌<◌, ◌≤◌, List, [], ◌∷◌, length, zero, suc, refl, arith, get_or, drop, min}
use Rattle.std.specs.List.{zip}
use Rattle.qtl_syntax.specs.Tree.{Text}
use Rattle.qtl_truth.specs.declared.numbered_atom.AtomTerm.{AtomTerm}
use Rattle.qtl_truth.specs.declared.numbered_atom.AtomTerm.TheVariants.{Constant}
use Rattle.qtl_truth.proofs.Places.{drop_at}
use Rattle.wellformed.specs.Expansion.{meant}
use Rattle.wellformed.proofs.ItemSteps.{split_at}
use Rattle.wellformed.proofs.Same.{same_bytes, other_bytes}

pub meant_here : (params : List Text) (terms : List AtomTerm) (k : ℕ) (x name : Text) (t all : AtomTerm) → k < length params → k < length terms → x ≡ get_or params k x → t ≡ get_or terms k t →
    x ≡ name → all ≡ meant (zip (drop k params) (drop k terms)) name → all ≡ t
meant_here params terms k x name t all l m p q e h = rw (h, drop_at params k x l p, drop_at terms k t m q, same_bytes x name e) refl

pub meant_next : (params : List Text) (terms : List AtomTerm) (k : ℕ) (x name : Text) (all : AtomTerm) → k < length params → k < length terms → x ≡ get_or params k x →
    (x ≡ name → ⊥) → all ≡ meant (zip (drop k params) (drop k terms)) name → all ≡ meant (zip (drop (k + 1) params) (drop (k + 1) terms)) name
meant_next params terms k x name all l m p e h =
    let s = split_at terms k m in
    rw (h, drop_at params k x l p, s.after, other_bytes x name e) refl

-- pairs past an end
zip_right : {A B : Type 0} (xs : List A) → zip {K = A} {X = B} xs [] ≡ []
zip_right [] = refl
zip_right (x ∷ xs) = refl

zip_past : {A B : Type 0} (xs : List A) (ys : List B) (n : ℕ) → min (length xs) (length ys) ≤ n → zip (drop n xs) (drop n ys) ≡ []
zip_past [] ys zero h = refl
zip_past [] ys (suc n) h = refl
zip_past (x ∷ xs) [] zero h = refl
zip_past (x ∷ xs) [] (suc n) h = zip_right (drop n xs)
zip_past (x ∷ xs) (y ∷ ys) zero h = absurd (omega arith)
zip_past (x ∷ xs) (y ∷ ys) (suc n) h = zip_past xs ys n (omega arith)

pub meant_none : (params : List Text) (terms : List AtomTerm) (k : ℕ) (name : Text) (all : AtomTerm) → min (length params) (length terms) ≤ k →
    all ≡ meant (zip (drop k params) (drop k terms)) name → all ≡ Constant name
meant_none params terms k name all l h = rw (h, zip_past params terms k l) refl
