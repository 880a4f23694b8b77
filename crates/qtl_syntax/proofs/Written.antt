-- What the writer of the canonical text has written after a form with two operands.
use Rattle.std.proofs.Common.{◌≡◌, ℕ, List, [], ◌++◌, append_assoc, append-nil, Bool, true, false, refl, sym, ap, ◌∙◌, inl, inr}
use Rattle.std.specs.Prelude.{◌⊎◌, if◌then◌else◌, codes}
use Rattle.qtl_syntax.specs.declared.formula.Bound.{Bound}
use Rattle.qtl_syntax.specs.Tree.{Formula, And, Or, Implies, Iff, Since, TimedSince}
use Rattle.qtl_syntax.specs.Canonical.{is_plain, around, text_of}
use Rattle.qtl_syntax.specs.Signs.{sign_of}

-- the formula joins the two operands
abbrev pub Joins : Formula → Formula → Formula → Type 0
Joins h f g = (h ≡ And f g) ⊎ ((h ≡ Or f g) ⊎ ((h ≡ Implies f g) ⊎ ((h ≡ Iff f g) ⊎ ((h ≡ Since f g) ⊎ ((b : Bound) × (h ≡ TimedSince b f g))))))

binary_text : (h f g : Formula) → Joins h f g → text_of h ≡ around (is_plain f) (text_of f) ++ (sign_of h ++ around (is_plain g) (text_of g))
binary_text h f g (inl e) = rw e refl
binary_text h f g (inr (inl e)) = rw e refl
binary_text h f g (inr (inr (inl e))) = rw e refl
binary_text h f g (inr (inr (inr (inl e)))) = rw e refl
binary_text h f g (inr (inr (inr (inr (inl e))))) = rw e refl
binary_text h f g (inr (inr (inr (inr (inr x))))) = rw x.1 refl

abbrev pub opened : Bool → List ℕ
opened b = if b then [] else codes "("

abbrev pub closed : Bool → List ℕ
closed b = if b then [] else codes ")"

around_parts : (b : Bool) (t : List ℕ) → around b t ≡ opened b ++ (t ++ closed b)
around_parts true t = sym (append-nil t)
around_parts false t = refl

glued : (o p q r s t u v a b c d e f g : List ℕ) → p ≡ o ++ a → q ≡ p ++ b → r ≡ q ++ c → s ≡ r ++ d → t ≡ s ++ e → u ≡ t ++ f → v ≡ u ++ g → v ≡ o ++ ((a ++ (b ++ c)) ++ (d ++ (e ++ (f ++ g))))
glued o p q r s t u v a b c d e f g h i j k l m n = rw (n, m, l, k, j, i, h) (simp append_assoc (refl))

-- seven pieces, one after another
pub binary_written : (h f g : Formula) (o p q r s t u v : List ℕ) → Joins h f g → p ≡ o ++ opened (is_plain f) → q ≡ p ++ text_of f → r ≡ q ++ closed (is_plain f) → s ≡ r ++ sign_of h →
    t ≡ s ++ opened (is_plain g) → u ≡ t ++ text_of g → v ≡ u ++ closed (is_plain g) → v ≡ o ++ text_of h
binary_written h f g o p q r s t u v j e1 e2 e3 e4 e5 e6 e7 =
    let whole : text_of h ≡ (opened (is_plain f) ++ (text_of f ++ closed (is_plain f))) ++ (sign_of h ++ (opened (is_plain g) ++ (text_of g ++ closed (is_plain g)))) =
    rw (binary_text h f g j, around_parts (is_plain f) (text_of f), around_parts (is_plain g) (text_of g)) refl in
    glued o p q r s t u v _ _ _ _ _ _ _ e1 e2 e3 e4 e5 e6 e7 ∙ ap (λ w. o ++ w) (sym whole)
