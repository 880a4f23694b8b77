-- What stands after the first events of a log hangs on these events alone.
use Rattle.std.proofs.Common.{◌≡◌, ℕ, zero, suc, ◌-◌, ◌↔◌, inl, inr, sym, subst, arith, List, [], ◌∷◌, ◌++◌, take, Some}
use Rattle.std.specs.Prelude.{slice_get}
use Rattle.std.specs.List.{flat_map}
use Rattle.qtl_syntax.specs.Tree.{Text}
use Rattle.qtl_truth.specs.Laws.{SameTo}
use Rattle.qtl_truth.specs.declared.event.Event.{Event}
use Rattle.subformulas.specs.Assigned.{Texts, put}
use Rattle.subformulas.specs.Facts.{args_of}
use Rattle.subformulas.specs.Memory.{IsTemporal, memo_at, Differ, Told}
use Rattle.subformulas.specs.Needs.{IsToldTexts}
use Rattle.subformulas.specs.Pinned.{pinned, fresh}
use Rattle.subformulas.specs.Table.{IsTable}
use Rattle.subformulas.specs.Texts.{unrepeated, Selects}
use Rattle.subformulas.specs.Unfolded.{formula_at}
use Rattle.subformulas.specs.declared.table.Sub.{Sub}
use Rattle.subformulas.proofs.Agree.{joined}
use Rattle.subformulas.proofs.Prefix.{memo_past, prefix_same, fresh_past}
use Rattle.subformulas.proofs.Unfold.{temporal_at}
use Rattle.value_codes.specs.Pairs.{Pairs}
use Rattle.node_tree.specs.Tree.{Tree}
use Rattle.monitor_model.specs.Setting.{Setting}
use Rattle.monitor_model.specs.Books.{IsBook}
use Rattle.monitor_model.specs.Drawn.{readings, age_at}
use Rattle.monitor_model.specs.Stands.{IsPlan, IsRemembered, StandsFor}

differ_map : {A A' B B' : Type 0} → A ↔ A' → B ↔ B' → Differ A B → Differ A' B'
differ_map p q (inl d) = inl (p.0 d.0, λ b. d.1 (q.1 b))
differ_map p q (inr d) = inr (λ a. d.0 (p.1 a), q.0 d.1)

same_back : (i : ℕ) (log log' : List Event) → SameTo i log log' → SameTo i log' log
same_back i log log' s = record { events = λ j p q. sym (s.events j p q) }

same_less : (i : ℕ) (log log' : List Event) → SameTo (suc i) log log' → SameTo i log log'
same_less i log log' s = record { events = λ j p q. s.events j p (omega arith) }

selects_map : (P Q : Text → Type 0) → ((t : Text) → P t → Q t) → ((t : Text) → Q t → P t) → (xs ys : List Text) → Selects P xs ys → Selects Q xs ys
selects_map P Q f g [] ys h = h
selects_map P Q f g (x ∷ xs) ys (inl (p, rest, e, h)) = inl (f x p, rest, e, selects_map P Q f g xs rest h)
selects_map P Q f g (x ∷ xs) ys (inr (n, h)) = inr (λ q. n (g x q), selects_map P Q f g xs ys h)

module _ (subs : List Sub) (table : IsTable 0 subs) where
  memory_same : (log log' : List Event) (i : ℕ) → SameTo i log log' → (k : ℕ) (nu : Texts) (a : ℕ) → IsTemporal subs k → memo_at subs k log nu i a ↔ memo_at subs k log' nu i a
  memory_same log log' i s k nu a h = memo_past log log' i s (formula_at subs k) nu i a (temporal_at subs k table h) (omega arith)

  told_there : (log log' : List Event) (i x : ℕ) → SameTo i log log' → (t : Text) → Told subs log x i t → Told subs log' x i t
  told_there log log' i x s t (k, nu, a, h, d) =
      let other = subst (λ (u : Text). memo_at subs k log (put x (fresh subs log i) nu) i a ↔ memo_at subs k log' (put x u nu) i a) (fresh_past subs i log log' s)
      (memory_same log log' i s k (put x (fresh subs log i) nu) a h) in
      (k, nu, a, h, differ_map (memory_same log log' i s k (put x t nu) a h) other d)

  -- the texts that are told apart rest on the first events alone
  pub told_texts : (log log' : List Event) (i x : ℕ) (ts : List Text) → SameTo i log log' → IsToldTexts subs log x i ts → IsToldTexts subs log' x i ts
  told_texts log log' i x ts s h =
      subst (λ (es : List Event). Selects (Told subs log' x i) (unrepeated (pinned subs x ++ flat_map args_of es)) ts) (prefix_same i log log' s)
      (selects_map (Told subs log x i) (Told subs log' x i) (told_there log log' i x s) (told_there log' log i x (same_back i log log' s)) (unrepeated (pinned subs x ++ flat_map args_of (take i log))) ts h)

  book_there : (bits : ℕ) (log log' : List Event) (x i : ℕ) (book : Pairs) → SameTo i log log' → IsBook bits subs log x i book → IsBook bits subs log' x i book
  book_there bits log log' x zero book s h = h
  book_there bits log log' x (suc i) book s (before, told, e, b, t, at, n) =
      let q = s.events (suc i) (omega arith) (omega arith) in
      let f : suc i - 1 ≡ i = omega arith in
      let here : slice_get log i ≡ slice_get log' i = subst (λ (j : ℕ). slice_get log j ≡ slice_get log' j) f q in
      let less = same_less i log log' s in
      (before, told, e, book_there bits log log' x i before less b, told_texts log log' i x told less t, subst (λ o. o ≡ Some e) here at, n)

pub prefix_stands : (s : Setting) (log log' : List Event) (i : ℕ) (books : ℕ → Pairs) (memory : ℕ → Tree) → IsPlan s → SameTo i log log' →
    StandsFor s log i books memory → StandsFor s log' i books memory
prefix_stands s log log' i books memory plan same stands = record {
  books_are = λ x p. book_there s.subs plan.table s.bits log log' x i (books x) same (stands.books_are x p);
  no_more = stands.no_more;
  memory_is = λ k h. there k h (stands.memory_is k h);
}
  where
    there : (k : ℕ) → IsTemporal s.subs k → IsRemembered s log i books k (memory k) → IsRemembered s log' i books k (memory k)
    there k h d = record {
      ordered = d.ordered;
      reduced = d.reduced;
      values = λ p. joined (d.values p)
          (subst (λ (u : Text). memo_at s.subs k log (readings s books (fresh s.subs log i) p) i (age_at s p) ↔ memo_at s.subs k log' (readings s books u p) i (age_at s p))
          (fresh_past s.subs i log log' same) (memory_same s.subs plan.table log log' i same k (readings s books (fresh s.subs log i) p) (age_at s p) h));
    }
