-- At most one list is a witness.
use Rattle.std.proofs.Common.{◌≡◌, ℕ, refl, sym, ◌∙◌, ap, subst, List, [], ◌∷◌, true, Some, Ordering, Less, Equal, Greater}
use Rattle.std.specs.Cmp.Lexicographic.{slice_cmp, nat_list_cmp_total, texts_ties, bytes_decides}
use Rattle.std.specs.Ordering.{is_eq, is_lt, nat_cmp, ordering_reverse}
use Rattle.qtl_syntax.specs.Tree.{Text}
use Rattle.qtl_truth.specs.declared.event.Event.{Event}
use Rattle.wellformed.specs.CoreTree.{CoreFormula}
use Rattle.subformulas.specs.Assigned.{Texts, put}
use Rattle.subformulas.specs.Pinned.{marks}
use Rattle.subformulas.specs.Table.{Table}
use Rattle.subformulas.specs.Texts.{Has}
use Rattle.subformulas.specs.Unfolded.{formula_at}
use Rattle.report.specs.Laws.{OneWitness}
use Rattle.report.specs.Witness.{AreShown, CanFail, IsLeast, IsShown, below_chain, chain, is_before}
use Rattle.report.specs.declared.shown.Shown.{Shown}
use Rattle.report.specs.declared.shown.Value.{Value}
use Rattle.report.specs.declared.shown.Value.TheVariants.{Any, Known}

neither : (o : Ordering) → ¬ (is_lt o ≡ true) → ¬ (is_lt (ordering_reverse o) ≡ true) → is_eq o ≡ true
neither Less h k = absurd (h refl)
neither Equal h k = refl
neither Greater h k = absurd (k refl)

-- two texts of which neither stands before the other are the same
pub same_place : (a b : Text) → ¬ (is_before a b ≡ true) → ¬ (is_before b a ≡ true) → a ≡ b
same_place a b h k =
    (bytes_decides a b).0 (texts_ties a b ∙ neither (slice_cmp nat_cmp a b) h (λ e. k (ap is_lt (nat_list_cmp_total.antisymm b a) ∙ e)))

one_least : (P : Text → Type 0) (a b : Text) → IsLeast P a → IsLeast P b → a ≡ b
one_least P a b h k = same_place a b (k.1 a h.0) (h.1 b k.0)

same_shown : (n m : Text) (v w : Value) (s r : List Shown) → n ≡ m → v ≡ w → s ≡ r → record { name = n; value = v } ∷ s ≡ record { name = m; value = w } ∷ r
same_shown n m v w s r e d f = rw (e, d, f) refl

module _ (t : Table) (log : List Event) (i : ℕ) where
  -- one value, and one choice
  shown_once : (x : ℕ) (later : List ℕ) (f : CoreFormula) (nu : Texts) (v w : Value) (a b : Text) → IsShown t log i x later f nu v a → IsShown t log i x later f nu w b → (v ≡ w) × (a ≡ b)
  shown_once x later f nu Any Any a b h k = (refl, h.0 ∙ sym k.0)
  shown_once x later f nu Any (Known u) a b h k = absurd (k.1 (subst (λ (c : Text). CanFail t log i later f (put x c nu)) h.0 h.1))
  shown_once x later f nu (Known u) Any a b h k = absurd (h.1 (subst (λ (c : Text). CanFail t log i later f (put x c nu)) k.0 k.1))
  shown_once x later f nu (Known u) (Known w) a b h k = let same = one_least (λ c. Has (marks t.subs log i x) c × CanFail t log i later f (put x c nu)) u w h.2 k.2 in (ap Known same, h.0 ∙ same ∙ sym k.0)

  are_once : (xs : List ℕ) (f : CoreFormula) (nu : Texts) (shown other : List Shown) → AreShown t log i xs f nu shown → AreShown t log i xs f nu other → shown ≡ other
  are_once [] f nu shown other h k = h ∙ sym k
  are_once (x ∷ later) f nu [] other h k = absurd h
  are_once (x ∷ later) f nu (s ∷ shown) [] h k = absurd k
  are_once (x ∷ later) f nu (s ∷ shown) (r ∷ other) (name, a, is, more) (name', b, is', more') =
      let once = shown_once x later f nu s.value r.value a b is is' in
      let names : Some s.name ≡ Some r.name = sym name ∙ name' in
      let rest = are_once later f (put x a nu) shown other more (subst (λ c. AreShown t log i later f (put x c nu) other) (sym once.1) more') in
      same_shown s.name r.name s.value r.value shown other (let own : s.name ≡ r.name = cc in own) once.0 rest

pub one_witness : OneWitness
one_witness t log i k shown other h l = are_once t log i (chain (formula_at t.subs k)) (below_chain (formula_at t.subs k)) (λ x. []) shown other h l
