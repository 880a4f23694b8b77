-- Books keep what drawing asks of them: a text without a code is plain, a pinned text has a code,
-- and a code without a pair reads like all ones.
use Rattle.std.proofs.Common.{◌≡◌, ◌≢◌, ℕ, zero, suc, ◌+◌, ◌-◌, ◌^◌, ◌<◌, inl, inr, ⊎_elim, sym, ap, ◌∙◌, refl, subst, arith, List, [], ◌∷◌, ◌++◌, length, true, false, Some, None}
use Rattle.std.specs.Prelude.{nat_eq, nat_lt, unwrap_or, slice_get}
use Rattle.std.specs.List.{flat_map, AllByRecursion}
use Rattle.std.proofs.lemmas.Bool.Decides.{eqb_tells}
use Rattle.qtl_syntax.specs.Tree.{Text}
use Rattle.qtl_truth.specs.declared.event.Event.{Event}
use Rattle.qtl_truth.specs.Truth.{IsText, IsEvent, IsLog}
use Rattle.subformulas.specs.Facts.{args_of}
use Rattle.subformulas.specs.Memory.{Told, SameMemory, IsPlain}
use Rattle.subformulas.specs.Needs.{need, IsToldTexts}
use Rattle.subformulas.specs.Pinned.{compared, constant_for, pinned, marks, fresh}
use Rattle.subformulas.specs.Table.{IsTable}
use Rattle.subformulas.specs.Texts.{Has, unrepeated}
use Rattle.subformulas.specs.declared.table.Sub.{Sub}
use Rattle.subformulas.proofs.Agree.{same, joined}
use Rattle.subformulas.proofs.Alike.{has_left, has_right}
use Rattle.subformulas.proofs.ByNumber.{all_at}
use Rattle.subformulas.proofs.Fresh.{cases_has}
use Rattle.subformulas.proofs.Needed.{unrepeated_has}
use Rattle.subformulas.proofs.Plain.{has_cases, told_mark, untold_plain, plain_next, plain_first, to_next, same_turned, need_argument}
use Rattle.value_codes.specs.Pairs.{Pairs, code_of, value_of, IsPaired}
use Rattle.value_codes.proofs.Lookups.{Tells, some_none}
use Rattle.monitor_model.specs.Books.{Gives, keep, without_code, free_count, with_room, IsNextBook, IsBook, reads}
use Rattle.monitor_model.proofs.Books.Pairing.{any_has, by_if, paired_kept, Swept, swept, code_back, gives_code, gives_all, gives_paired, EachPair, gives_each, without_has, without_from, selects}
use Rattle.monitor_model.proofs.Books.Reuse.{SameReadings}

-- what drawing asks of a book
pub record IsBookFor (bits : ℕ) (subs : List Sub) (log : List Event) (x i : ℕ) (book : Pairs) :
    Type 0 where
  pub paired : IsPaired book
  pub below : EachPair (λ c t. c < 2 ^ bits - 1) book
  pub texts : EachPair (λ c t. IsText t) book
  -- a text without a code gives the memory of a fresh text
  pub plain : (t : Text) → code_of book t ≡ None → IsPlain subs log x i t
  -- a constant of the variable has a code
  pub pinned_coded : (t : Text) → Has (pinned subs x) t → code_of book t ≢ None

none_compared : (subs : List Sub) (x : ℕ) →
    flat_map (λ s. constant_for x (compared s.kind)) subs ≡ []
none_compared [] x = refl
none_compared (s ∷ subs) x = none_compared subs x

-- no text is pinned yet, since no kind compares
pub no_pins : (subs : List Sub) (x : ℕ) → pinned subs x ≡ []
no_pins subs x = ap unrepeated (none_compared subs x)

-- constants are texts of bytes. Once a kind compares, the table has to say so of the constants,
-- since `IsTable` doesn't
pinned_text : (subs : List Sub) (x : ℕ) (t : Text) → Has (pinned subs x) t → IsText t
pinned_text subs x t h = absurd (subst (λ ts. Has ts t) (no_pins subs x) h)

-- what holds of each text of a list holds of one that it has
has_each : (P : Text → Type 0) (ts : List Text) (t : Text) → AllByRecursion P ts → Has ts t → P t
has_each P [] t all h = absurd h
has_each P (u ∷ ts) t all (inl e) = subst P e all.0
has_each P (u ∷ ts) t all (inr h) = has_each P ts t all.1 h

-- the arguments of an event of a log are texts of bytes
pub argument_text : (log : List Event) → IsLog log → (i : ℕ) (e : Event) (t : Text) →
    slice_get log i ≡ Some e → Has (args_of e) t → IsText t
argument_text log is_log i e t at h =
    ⊎_elim (λ k. has_each IsText e.args t (all_at IsEvent log i e is_log.events at).args k)
    (λ k. absurd k) (has_cases e.args [] t h)

module _ (bits : ℕ) (subs : List Sub) (table : IsTable 0 subs) (log : List Event) (x : ℕ)
    (is_log : IsLog log) where
  module _ (i : ℕ) (e : Event) (at : slice_get log i ≡ Some e) (told : List Text)
      (is_told : IsToldTexts subs log x i told) (before : Pairs)
      (sound : IsBookFor bits subs log x i before) where
    abbrev pub needed : List Text
    needed = need subs x e

    -- the texts whose pairs a sweep keeps
    abbrev stays : List Text
    stays = pinned subs x ++ (told ++ need subs x e)

    -- a text that is neither pinned, told apart nor needed is plain
    untold : (t : Text) → ¬ Has stays t → IsPlain subs log x i t
    untold t n =
        untold_plain subs table log x i t
        (λ h. n (has_right (pinned subs x) (told ++ needed) t (has_left told needed t
        (selects (Told subs log x i) _ told is_told t h
        (unrepeated_has (marks subs log i x) t (told_mark subs table log x i t h))))))

    reads_same : (book book' : Pairs) (c : ℕ) → value_of book' c ≡ value_of book c →
        SameMemory subs log x i (reads book (fresh subs log (i + 1)) c)
        (reads book' (fresh subs log (i + 1)) c)
    reads_same book book' c h =
        subst (λ o. SameMemory subs log x i (reads book (fresh subs log (i + 1)) c)
        (unwrap_or o (fresh subs log (i + 1)))) (sym h) (λ k nu a p. same)

    swept_same : SameReadings subs log i x before (keep stays before)
    swept_same c = by_case (swept stays before c sound.paired)
      where
        by_case : Swept stays (value_of before c) (value_of (keep stays before) c) →
            SameMemory subs log x i (reads before (fresh subs log (i + 1)) c)
            (reads (keep stays before) (fresh subs log (i + 1)) c)
        by_case (inl h) = reads_same before (keep stays before) c h
        by_case (inr (t, was, gone, out)) =
            let plain = untold t
            (λ h. let a = any_has stays t h in let b : true ≡ false = sym a ∙ out in cc) in
            let f = fresh subs log (i + 1) in
            subst (λ o. SameMemory subs log x i (unwrap_or o f) (reads (keep stays before) f c))
            (sym was)
            (subst (λ o. SameMemory subs log x i t (unwrap_or o f)) (sym gone)
            (to_next subs table log x i t plain))

    -- what a sweep, if there is one, leaves
    pub record Room (book : Pairs) : Type 0 where
      pub paired : IsPaired book
      pub below : EachPair (λ c t. c < 2 ^ bits - 1) book
      pub texts : EachPair (λ c t. IsText t) book
      pub reading : SameReadings subs log i x before book
      pub plain : (t : Text) → code_of book t ≡ None → IsPlain subs log x i t
      pub needs : (t : Text) → Has needed t → code_of book t ≡ None → code_of before t ≡ None
      pub pins : (t : Text) → Has (pinned subs x) t → code_of book t ≢ None

    each_kept : (P : ℕ → Text → Type 0) → EachPair P before → EachPair P (keep stays before)
    each_kept P h c t e = by_case (swept stays before c sound.paired)
      where
        by_case : Swept stays (value_of before c) (value_of (keep stays before) c) → P c t
        by_case (inl same) = h c t (sym same ∙ e)
        by_case (inr (u, was, gone, out)) = some_none _ t e gone

    -- a text that stays has the code that it had
    code_stays : (t : Text) → Has stays t → code_of (keep stays before) t ≡ None →
        code_of before t ≡ None
    code_stays t h n = code_back stays before t (any_has stays t h) n

    room_kept : Room (keep stays before)
    room_kept = record {
      paired = paired_kept stays before sound.paired;
      below = each_kept _ sound.below;
      texts = each_kept _ sound.texts;
      reading = swept_same;
      plain = λ t n. ⊎_elim (λ h. sound.plain t (code_stays t h n)) (untold t) (cases_has stays t);
      needs = λ t h n. code_stays t
          (has_right (pinned subs x) (told ++ needed) t (has_right told needed t h)) n;
      pins = λ t h n. sound.pinned_coded t h
          (code_stays t (has_left (pinned subs x) (told ++ needed) t h) n);
    }

    room_all : Room before
    room_all = record {
      paired = sound.paired;
      below = sound.below;
      texts = sound.texts;
      reading = λ c k nu a p. same;
      plain = sound.plain;
      needs = λ t h n. n;
      pins = sound.pinned_coded;
    }

    room : Room (with_room bits (pinned subs x) told needed before)
    room =
        by_if Room (nat_lt (free_count bits before) (length (without_code before needed)))
        (keep stays before) before room_kept room_all

    gives_same : (ts : List Text) (book after : Pairs) → Gives bits ts book after →
        ((t : Text) → Has ts t → IsPlain subs log x i t) → SameReadings subs log i x book after
    gives_same [] book after g p c k nu a h =
        reads_same book after c (ap (λ b. value_of b c) g) k nu a h
    gives_same (u ∷ ts) book after (d, n, l, m, g) p c k nu a h =
        joined (by_test (eqb_tells d c) k nu a h)
        (gives_same ts ((u, d) ∷ book) after g (λ t q. p t (inr q)) c k nu a h)
      where
        by_test : Tells (nat_eq d c) (d ≡ c) →
            SameMemory subs log x i (reads book (fresh subs log (i + 1)) c)
            (reads ((u, d) ∷ book) (fresh subs log (i + 1)) c)
        by_test (inl q) =
            let f = fresh subs log (i + 1) in
            let none : value_of book c ≡ None = subst (λ (j : ℕ). value_of book j ≡ None) q.1 l.0 in
            let some : value_of ((u, d) ∷ book) c ≡ Some u = rw q.0 refl in
            subst (λ o. SameMemory subs log x i (unwrap_or o f) (reads ((u, d) ∷ book) f c))
            (sym none)
            (subst (λ o. SameMemory subs log x i f (unwrap_or o f)) (sym some)
            (same_turned subs table log x i u f (to_next subs table log x i u (p u (inl refl)))))
        by_test (inr q) = reads_same book ((u, d) ∷ book) c (rw q.0 refl)

    module _ (after : Pairs)
        (next : IsNextBook bits (pinned subs x) told (need subs x e) before after) where
      new_plain : (t : Text) → Has (without_code before (need subs x e)) t → IsPlain subs log x i t
      new_plain t h = sound.plain t (without_from before (need subs x e) t h).1

      -- each code reads, in the new book, as a text that gives the same memory
      pub next_readings : SameReadings subs log i x before after
      next_readings c k nu a h =
          joined (room.reading c k nu a h) (gives_same _ _ after next new_plain c k nu a h)

      -- each needed text has a code
      pub needed_coded : (t : Text) → Has (need subs x e) t → code_of after t ≢ None
      needed_coded t h n =
          let m = room.needs t h (gives_code bits _ _ after next t n) in
          gives_all bits _ _ after next t (without_has before (need subs x e) t h m) n

      -- a text without a code was plain before the event, and isn't needed
      pub uncoded_plain : (t : Text) → code_of after t ≡ None → IsPlain subs log x i t
      uncoded_plain t n = room.plain t (gives_code bits _ _ after next t n)

      -- pinned texts keep their codes
      pins_stay : (t : Text) → Has (pinned subs x) t → code_of after t ≢ None
      pins_stay t h n = room.pins t h (gives_code bits _ _ after next t n)

      -- the next book is such a book after the event
      pub sound_next : IsBookFor bits subs log x (i + 1) after
      sound_next = record {
        paired = gives_paired bits _ _ after next room.paired;
        below = gives_each _ bits _ _ after next room.below (λ c t p h. p);
        texts = gives_each _ bits _ _ after next room.texts
            (λ c t p h. argument_text log is_log i e t at
            (need_argument subs x e t (without_from before (need subs x e) t h).0));
        plain = λ t n. plain_next subs table log x is_log i e at t (uncoded_plain t n)
            (λ h. needed_coded t h n);
        pinned_coded = pins_stay;
      }

  -- a book that has the pinned texts alone
  pub sound_first : (book : Pairs) → Gives bits (pinned subs x) [] book →
      IsBookFor bits subs log x 0 book
  sound_first book g = record {
    paired = gives_paired bits (pinned subs x) [] book g tt;
    below = gives_each _ bits (pinned subs x) [] book g
        (λ c t e. absurd (let f : None ≡ Some t = e in cc)) (λ c t p h. p);
    texts = gives_each _ bits (pinned subs x) [] book g
        (λ c t e. absurd (let f : None ≡ Some t = e in cc)) (λ c t p h. pinned_text subs x t h);
    plain = λ t n. plain_first subs table log x t
        (λ h. gives_all bits (pinned subs x) [] book g t h n);
    pinned_coded = gives_all bits (pinned subs x) [] book g;
  }

  -- the book of a variable after i events is one from which its trees can be drawn
  pub sound : (i : ℕ) (book : Pairs) → IsBook bits subs log x i book →
      IsBookFor bits subs log x i book
  sound zero book h = sound_first book h
  sound (suc i) book (before, told, e, was, is_told, at, next) =
      let f : i + 1 ≡ suc i = omega arith in
      subst (λ (n : ℕ). IsBookFor bits subs log x n book) f
      (sound_next i e at told is_told before (sound i before was) book next)
