-- There is at most one book, and the next one is there exactly where the codes suffice.
use Rattle.std.proofs.Common.{◌≡◌, ◌≢◌, ℕ, zero, suc, ◌^◌, ◌<◌, ◌⊎◌, ◌↔◌, inl, inr, ⊎_elim, refl, sym, ◌∙◌, subst, arith, List, [], ◌∷◌, ◌++◌, Some, None}
use Rattle.std.specs.Prelude.{slice_get}
use Rattle.std.proofs.lemmas.Bool.{cases_order}
use Rattle.std.proofs.lemmas.Nat.{pow_pos}
use Rattle.qtl_syntax.specs.Tree.{Text}
use Rattle.qtl_truth.specs.declared.event.Event.{Event}
use Rattle.qtl_truth.specs.Truth.{IsLog}
use Rattle.subformulas.specs.declared.table.Sub.{Sub}
use Rattle.subformulas.specs.Memory.{Told}
use Rattle.subformulas.specs.Needs.{need, code_need, IsToldTexts}
use Rattle.subformulas.specs.Pinned.{pinned, marks}
use Rattle.subformulas.specs.Table.{IsTable}
use Rattle.subformulas.specs.Texts.{Has, unrepeated, Selects}
use Rattle.subformulas.proofs.Once.{selects_once}
use Rattle.subformulas.proofs.Plain.{has_cases, plain_untold}
use Rattle.value_codes.specs.Pairs.{Pairs, code_of, IsLeastFree}
use Rattle.monitor_model.specs.Books.{Gives, IsNextBook, IsBook}
use Rattle.monitor_model.specs.Laws.{CodesExact}
use Rattle.monitor_model.proofs.Books.Sound.{IsBookFor, sound, sound_next, needed_coded, uncoded_plain}
use Rattle.monitor_model.proofs.Books.Room.{next_exists, need_fits, unrepeated_apart}

-- a selected text is one of which the claim holds
pub selected : (P : Text → Type 0) (xs ys : List Text) → Selects P xs ys → (t : Text) →
    Has ys t → P t
selected P [] ys s t h = absurd (subst (λ l. Has l t) s h)
selected P (x ∷ xs) ys (inl (q, rest, e, s)) t h =
    ⊎_elim (λ f. subst P f q) (λ k. selected P xs rest s t k) (subst (λ l. Has l t) e h)
selected P (x ∷ xs) ys (inr (n, s)) t h = selected P xs ys s t h

-- where each text is decided there is such a list
pub selects_exist : (P : Text → Type 0) → ((t : Text) → P t ⊎ (¬ P t)) → (xs : List Text) →
    (ys : List Text) × Selects P xs ys
selects_exist P d [] = ([], refl)
selects_exist P d (x ∷ xs) =
    let (ys, s) = selects_exist P d xs in
    ⊎_elim (λ p. (x ∷ ys, inl (p, ys, refl, s))) (λ n. (ys, inr (n, s))) (d x)

-- there is one least free code
pub least_once : (book : Pairs) (c d : ℕ) → IsLeastFree book c → IsLeastFree book d → c ≡ d
least_once book c d p q = by_order (cases_order c d)
  where
    by_order : (c ≡ d) ⊎ ((c < d) ⊎ (d < c)) → c ≡ d
    by_order (inl e) = e
    by_order (inr (inl l)) = absurd (q.1 c l p.0)
    by_order (inr (inr l)) = absurd (p.1 d l q.0)

-- the codes that a list of texts takes are given by the book
gives_once : (bits : ℕ) (ts : List Text) (book a b : Pairs) → Gives bits ts book a →
    Gives bits ts book b → a ≡ b
gives_once bits [] book a b p q = p ∙ sym q
gives_once bits (t ∷ ts) book a b (c, n, l, m, g) (d, n', l', m', g') =
    let e = least_once book d c l' l in
    gives_once bits ts ((t, c) ∷ book) a b g
    (subst (λ (j : ℕ). Gives bits ts ((t, j) ∷ book) b) e g')

-- the same book before and the same told texts have one next book
pub next_once : (bits : ℕ) (pins told other needed : List Text) (a b a' b' : Pairs) →
    told ≡ other → a ≡ b → IsNextBook bits pins told needed a a' →
    IsNextBook bits pins other needed b b' → a' ≡ b'
next_once bits pins told other needed a b a' b' e f g h =
    gives_once bits _ _ a' b' g
    (subst (λ (ts : List Text). IsNextBook bits pins ts needed a b') (sym e)
    (subst (λ (book : Pairs). IsNextBook bits pins other needed book b') (sym f) h))

-- at most one book is that of a variable after i events
pub book_once : (bits : ℕ) (subs : List Sub) (log : List Event) (x i : ℕ) (a b : Pairs) →
    IsBook bits subs log x i a → IsBook bits subs log x i b → a ≡ b
book_once bits subs log x zero a b p q = gives_once bits (pinned subs x) [] a b p q
book_once bits subs log x (suc i) a b (c, s, e, p, k, at, g) (d, t, f, q, l, at', h) =
    let u = book_once bits subs log x i c d p q in
    let v = selects_once (Told subs log x i) (unrepeated (marks subs log i x)) s t k l in
    let w : Some f ≡ Some e = sym at' ∙ at in
    let z : f ≡ e = cc in
    next_once bits (pinned subs x) s t (need subs x e) c d a b v u g
    (subst (λ (y : Event). IsNextBook bits (pinned subs x) t (need subs x y) d b) z h)

-- over a book that drawing can use there is a next one exactly where the codes suffice
pub next_exactly : (bits : ℕ) (subs : List Sub) (table : IsTable 0 subs) (log : List Event)
    (x i : ℕ) (e : Event) → IsLog log → slice_get log i ≡ Some e → (told : List Text) →
    IsToldTexts subs log x i told → (before : Pairs) → IsBookFor bits subs log x i before →
    ((after : Pairs) × IsNextBook bits (pinned subs x) told (need subs x e) before after) ↔
    (code_need (pinned subs x) told (need subs x e) < 2 ^ bits)
next_exactly bits subs table log x i e is_log at told is_told before sound = (
  λ (after, next).
      let s = sound_next bits subs table log x is_log i e at told is_told before sound after next in
      let l = need_fits bits (pinned subs x) told (need subs x e) after s.paired s.below
      (λ t h. ⊎_elim (s.pinned_coded t)
      (λ k. coded after next t (has_cases told (need subs x e) t k))
      (has_cases (pinned subs x) (told ++ need subs x e) t h)) in
      let p = pow_pos bits in
      omega arith,
  next_exists bits (pinned subs x) told (need subs x e) before (unrepeated_apart _) sound.paired,
)
  where
    coded : (after : Pairs) →
        IsNextBook bits (pinned subs x) told (need subs x e) before after → (t : Text) →
        Has told t ⊎ Has (need subs x e) t → code_of after t ≢ None
    coded after next t (inl h) n =
        plain_untold subs table log x i t
        (uncoded_plain bits subs table log x is_log i e at told is_told before sound after next t n)
        (selected (Told subs log x i) _ told is_told t h)
    coded after next t (inr h) n =
        needed_coded bits subs table log x is_log i e at told is_told before sound after next t h n

-- so it is of each monitor that stands for a log
pub codes_exact : CodesExact
codes_exact s log i e books memory plan is_log at stands x told low is_told =
    next_exactly s.bits s.subs plan.table log x i e is_log at told is_told (books x)
    (sound s.bits s.subs plan.table log x is_log i (books x) (stands.books_are x low))
