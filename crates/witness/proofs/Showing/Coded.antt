-- A text with a code is an argument of the log, so a fresh text has none.
use Rattle.std.proofs.Common.{◌≡◌, ℕ, zero, suc, inl, inr, ⊎_elim, refl, sym, ◌∙◌, subst, List, [], ◌∷◌, ◌++◌, Option, Some, None}
use Rattle.std.specs.Prelude.{nat_lt, length, slice_get}
use Rattle.qtl_syntax.specs.Tree.{Text}
use Rattle.qtl_truth.specs.Truth.{IsLog}
use Rattle.qtl_truth.specs.declared.event.Event.{Event}
use Rattle.subformulas.specs.declared.table.Sub.{Sub}
use Rattle.subformulas.specs.Facts.{args_of, arguments}
use Rattle.subformulas.specs.Needs.{need}
use Rattle.subformulas.specs.Pinned.{fresh, marks, pinned}
use Rattle.subformulas.specs.Table.{IsTable}
use Rattle.subformulas.specs.Texts.{Has}
use Rattle.subformulas.proofs.Alike.{has_left, has_right}
use Rattle.subformulas.proofs.Plain.{fresh_new, has_cases, need_argument}
use Rattle.value_codes.specs.Pairs.{IsPaired, Pairs, code_of, value_of}
use Rattle.value_codes.proofs.Lookups.{code_reads, some_none}
use Rattle.monitor_model.specs.Books.{IsBook, IsNextBook, free_count, keep, with_room, without_code}
use Rattle.monitor_model.proofs.Books.Pairing.{EachPair, Swept, by_if, gives_each, swept, without_from}
use Rattle.monitor_model.proofs.Books.Sound.{sound}

-- the arguments of a prefix are those of a longer one
has_later : (log : List Event) (i : ℕ) (t : Text) → Has (arguments log i) t → Has (arguments log (suc i)) t
has_later [] zero t h = h
has_later [] (suc i) t h = h
has_later (e ∷ log) zero t h = absurd h
has_later (e ∷ log) (suc i) t h =
    ⊎_elim (λ here. has_left (args_of e) (arguments log (suc i)) t here) (λ there. has_right (args_of e) (arguments log (suc i)) t (has_later log i t there))
    (has_cases (args_of e) (arguments log i) t h)

has_now : (log : List Event) (i : ℕ) (e : Event) (t : Text) → slice_get log i ≡ Some e → Has (args_of e) t → Has (arguments log (suc i)) t
has_now [] i e t at h = absurd (let no : ⊥ = cc in no)
has_now (d ∷ log) zero e t at h = let same : d ≡ e = cc in has_left (args_of d) [] t (subst (λ c. Has (args_of c) t) (sym same) h)
has_now (d ∷ log) (suc i) e t at h = has_right (args_of d) (arguments log (suc i)) t (has_now log i e t at h)

module _ (bits : ℕ) (subs : List Sub) (table : IsTable 0 subs) (log : List Event) (x : ℕ) (is_log : IsLog log) where
  abbrev Marked : ℕ → ℕ → Text → Type 0
  Marked i c t = Has (marks subs log i x) t

  marked_later : (i : ℕ) (t : Text) → Has (marks subs log i x) t → Has (marks subs log (suc i) x) t
  marked_later i t h =
      ⊎_elim (has_left (pinned subs x) (arguments log (suc i)) t) (λ k. has_right (pinned subs x) (arguments log (suc i)) t (has_later log i t k))
      (has_cases (pinned subs x) (arguments log i) t h)

  -- so after an event
  next_marked : (i : ℕ) (e : Event) (told : List Text) (before book : Pairs) → slice_get log i ≡ Some e → IsPaired before → EachPair (Marked i) before →
      IsNextBook bits (pinned subs x) told (need subs x e) before book → EachPair (Marked (suc i)) book
  next_marked i e told before book at paired was next =
      gives_each (Marked (suc i)) bits (without_code before (need subs x e)) (with_room bits (pinned subs x) told (need subs x e) before) book next room
      (λ c t p h. has_right (pinned subs x) (arguments log (suc i)) t (has_now log i e t at (need_argument subs x e t (without_from before (need subs x e) t h).0)))
    where
      earlier : EachPair (Marked (suc i)) before
      earlier c t f = marked_later i t (was c t f)

      by_case : (c : ℕ) (t : Text) → Swept (pinned subs x ++ (told ++ need subs x e)) (value_of before c) (value_of (keep (pinned subs x ++ (told ++ need subs x e)) before) c) →
          value_of (keep (pinned subs x ++ (told ++ need subs x e)) before) c ≡ Some t → Marked (suc i) c t
      by_case c t (inl same) f = earlier c t (sym same ∙ f)
      by_case c t (inr (u, had, gone, out)) f = some_none _ t f gone

      kept : EachPair (Marked (suc i)) (keep (pinned subs x ++ (told ++ need subs x e)) before)
      kept c t f = by_case c t (swept (pinned subs x ++ (told ++ need subs x e)) before c paired) f

      room : EachPair (Marked (suc i)) (with_room bits (pinned subs x) told (need subs x e) before)
      room =
          by_if (EachPair (Marked (suc i))) (nat_lt (free_count bits before) (length (without_code before (need subs x e))))
          (keep (pinned subs x ++ (told ++ need subs x e)) before) before kept earlier

  pub coded_mark : (i : ℕ) (book : Pairs) → IsBook bits subs log x i book → EachPair (Marked i) book
  coded_mark zero book g =
      gives_each (Marked 0) bits (pinned subs x) [] book g (λ c t e. absurd (let no : ⊥ = cc in no)) (λ c t p h. has_left (pinned subs x) (arguments log 0) t h)
  coded_mark (suc i) book (before, told, e, was, is_told, at, next) =
      next_marked i e told before book at (sound bits subs table log x is_log i before was).paired (coded_mark i before was) next

  pub fresh_uncoded : (i : ℕ) (book : Pairs) → IsBook bits subs log x i book → code_of book (fresh subs log i) ≡ None
  fresh_uncoded i book h = by_code (code_of book (fresh subs log i)) refl
    where
      by_code : (o : Option ℕ) → code_of book (fresh subs log i) ≡ o → o ≡ None
      by_code None e = refl
      by_code (Some c) e =
          absurd (fresh_new subs log i x (coded_mark i book h c (fresh subs log i) (code_reads book (fresh subs log i) c (sound bits subs table log x is_log i book h).paired e)))
