-- How a state goes on: each step is that of its reading.
use Rattle.std.proofs.Common.{◌≡◌, ℕ, ◌+◌, ◌-◌, ◌<◌, ◌≤◌, List, [], ◌∷◌, ◌++◌, length, take, drop, get_or, refl, sym, ap, ◌∙◌, subst, arith, Bool, true, false, inl, inr}
use Rattle.std.specs.Prelude.{Option, Some, None, Result, Ok, Err, ◌&&◌, not, ◌==◌, vec_len}
use Rattle.std.proofs.lemmas.Bool.Decides.{nat_tests}
use Rattle.std.proofs.lemmas.List.{drop_all, drop-drop}
use Rattle.qtl_syntax.specs.Tree.{Text}
use Rattle.qtl_truth.specs.declared.event.Event.{Event}
use Rattle.log_reader.specs.Lines.{ends_line}
use Rattle.log_reader.specs.Faults as fault
use Rattle.log_reader.specs.Records.{cut, no_events, At}
use Rattle.log_reader.specs.Places.{is_inside, is_in_field, place_of}
use Rattle.log_reader.specs.Standing.{Reading, numbered, IsLater, left, answer, Goes, Fails, StandsIn, all_texts, behind_line, behind_event, is_blank_so_far, given_next, lasting, IsNext, Sought, Stands}
use Rattle.log_reader.specs.State.{span, reading_of, IsState, IsSame, behind_field, IsMade, IsNotMade, Turned}
use Rattle.log_reader.specs.declared.place.Place.{Place}
use Rattle.log_reader.specs.declared.place.Place.TheVariants.{Before, Plain, Inside, AtQuote, Behind}
use Rattle.log_reader.specs.declared.fault.LogFault.{LogFault}
use Rattle.log_reader.specs.declared.fault.LogFault.TheVariants.{QuoteOpen, AfterQuote, RecordTooLong, TooManyFields, EmptyName, BadTime, TimeBack, NoMemory}
use Rattle.log_reader.specs.declared.state.State.{State}
use Rattle.log_reader.specs.declared.state.Turn.{Turn}
use Rattle.log_reader.specs.declared.state.Turn.TheVariants.{More, Wait, Found}
use Rattle.log_reader.proofs.Spans.{next_byte}
use Rattle.log_reader.proofs.FeedLemmas.{fails_again}
use Rattle.log_reader.proofs.PlaceLemmas.{out_of_field}
use Rattle.log_reader.proofs.StandLemmas.{IsAt, agree, fails, goes_to_field, too_many, after_quote, too_long}
use Rattle.log_reader.proofs.EndLemmas.{goes_behind_blank, feed_fails, feed_goes, feed_answers, waits, quote_open, no_more, last_fails, last_answers, last_goes}

-- readings are the same where their parts are
pub same_reading : (r t : Reading) → t.timed ≡ r.timed → t.ended ≡ r.ended → t.given ≡ r.given → t.last_time ≡ r.last_time → t.fault ≡ r.fault → t.is_begun ≡ r.is_begun →
    t.length ≡ r.length → t.texts ≡ r.texts → t.field ≡ r.field → t.place ≡ r.place → t.rest ≡ r.rest → t ≡ r
same_reading r t a b c l d e f g h p q = λ i. record { timed = a i; ended = b i; given = c i; last_time = l i; fault = d i; is_begun = e i; length = f i; texts = g i; field = h i; place = p i; rest = q i }

pub span_empty : (n : ℕ) (bytes : Text) → span n n bytes ≡ []
span_empty n bytes = let z : n - n ≡ 0 = omega arith in ap (λ k. take k (drop n bytes)) z

pub blank_is : (texts : List Text) (place : Place) → is_blank_so_far texts place ≡ true → (texts ≡ []) × (place ≡ Before)
blank_is [] Before e = (refl, refl)
blank_is [] Plain e = let f : false ≡ true = e in absurd (let never : ⊥ = cc in never)
blank_is [] Inside e = let f : false ≡ true = e in absurd (let never : ⊥ = cc in never)
blank_is [] AtQuote e = let f : false ≡ true = e in absurd (let never : ⊥ = cc in never)
blank_is [] Behind e = let f : false ≡ true = e in absurd (let never : ⊥ = cc in never)
blank_is (t ∷ texts) place e = let f : false ≡ true = e in absurd (let never : ⊥ = cc in never)

-- a fault of one reading is that of another with the same count
pub fails_at : (bytes : Text) (r t : Reading) (f : fault.Fault) (named : LogFault) → t.timed ≡ r.timed → t.ended ≡ r.ended → t.given ≡ r.given → numbered (r.given + 1) f ≡ named →
    ((more : Text) (ended : Bool) → IsLater r.ended more ended → left r.given (cut (bytes ++ more) r.timed ended) ≡ no_events (At (r.given + 1) f)) → Fails bytes t named
fails_at bytes r t f named a b c e coming = record {
  fault = f;
  named = ap (λ n. numbered (n + 1) f) c ∙ e;
  coming = λ more ended later. rw (a, c) (coming more ended (subst (λ x. IsLater x more ended) b later));
}

-- the field was ended
pub field_behind : (s m : State) → IsState s → IsSame s m → m.seen ≡ s.seen → m.from ≡ s.from → m.before ≡ s.before → m.given ≡ s.given → m.last_time ≡ s.last_time → m.texts ≡ all_texts (reading_of s) →
    reading_of (record m { before = m.before + (m.seen - m.from + 1); seen = m.seen + 1; from = m.seen + 1; place = Before }) ≡ behind_field (reading_of s) (drop (s.seen + 1) s.held.items)
field_behind s m sound same seen from before given time texts =
    same_reading (behind_field (reading_of s) (drop (s.seen + 1) s.held.items)) (reading_of (record m { before = m.before + (m.seen - m.from + 1); seen = m.seen + 1; from = m.seen + 1; place = Before }))
    same.timed same.ended given time same.fault same.is_begun
    (omega arith) texts (span_empty (m.seen + 1) m.held.items) refl
    (ap (λ n. drop (n + 1) m.held.items) seen ∙ ap (λ h. drop (s.seen + 1) h.items) same.held)

-- the line was blank
pub blank_behind : (s : State) → is_blank_so_far s.texts s.place ≡ true →
    reading_of (record s { before = 0; seen = s.seen + 1; from = s.seen + 1 }) ≡ behind_line (reading_of s) (drop (s.seen + 1) s.held.items)
blank_behind s blank =
    let b = blank_is s.texts s.place blank in
    same_reading (behind_line (reading_of s) (drop (s.seen + 1) s.held.items)) (reading_of (record s { before = 0; seen = s.seen + 1; from = s.seen + 1 }))
    refl refl refl refl refl refl (omega arith) b.0 (span_empty (s.seen + 1) s.held.items) b.1 refl

module _ (bytes : Text) (s : State) (g : Goes bytes (reading_of s)) where
  module _ (started : s.is_begun ≡ true) (here : s.seen < vec_len s.held) where
    at : IsAt (reading_of s) (get_or s.held.items s.seen 0) (drop (s.seen + 1) s.held.items)
    at = (started, next_byte s.seen s.held.items (let held = s.held.ok.0 in omega arith))

    no_feed : (get_or s.held.items s.seen 0 == 10) ≡ false → ends_line g.line (get_or s.held.items s.seen 0) ≡ false
    no_feed e = rw e refl

    pub many_fields : get_or s.held.items s.seen 0 ≡ 44 → is_inside s.place ≡ false → (reading_of s).length < 65536 → 63 ≤ length s.texts → Fails bytes (reading_of s) (TooManyFields (s.given + 1))
    many_fields comma out short many =
        fails_at bytes (reading_of s) (reading_of s) fault.TooManyFields (TooManyFields (s.given + 1)) refl refl refl refl
        (fails bytes (reading_of s) g (get_or s.held.items s.seen 0) (drop (s.seen + 1) s.held.items) at (no_feed (rw comma refl)) fault.TooManyFields
        (too_many bytes (reading_of s) g (get_or s.held.items s.seen 0) (drop (s.seen + 1) s.held.items) at comma out short many))

    pub field_goes : (t : State) → get_or s.held.items s.seen 0 ≡ 44 → is_inside s.place ≡ false → (reading_of s).length < 65536 → length s.texts < 63 →
        reading_of t ≡ behind_field (reading_of s) (drop (s.seen + 1) s.held.items) → Goes bytes (reading_of t)
    field_goes t comma out short few e =
        subst (Goes bytes) (sym e) (goes_to_field bytes (reading_of s) g (get_or s.held.items s.seen 0) (drop (s.seen + 1) s.held.items) at comma out short few)

    -- no byte of the field, no comma and no line feed
    pub misplaced : is_in_field s.place (get_or s.held.items s.seen 0) ≡ false → (get_or s.held.items s.seen 0 ≡ 44 → ⊥) → (get_or s.held.items s.seen 0 == 10 && not (is_inside s.place)) ≡ false → (reading_of s).length < 65536 →
        Fails bytes (reading_of s) (AfterQuote (s.given + 1))
    misplaced out comma feed short =
        let no_comma : (get_or s.held.items s.seen 0 == 44) ≡ false = grind (arith, nat_tests) in
        let outside = out_of_field s.place (get_or s.held.items s.seen 0) out in
        let no_ten : (get_or s.held.items s.seen 0 == 10) ≡ false = plain_and (get_or s.held.items s.seen 0 == 10) (is_inside s.place) feed outside in
        fails_at bytes (reading_of s) (reading_of s) fault.AfterQuote (AfterQuote (s.given + 1)) refl refl refl refl
        (fails bytes (reading_of s) g (get_or s.held.items s.seen 0) (drop (s.seen + 1) s.held.items) at (no_feed no_ten) fault.AfterQuote
        (after_quote bytes (reading_of s) g (get_or s.held.items s.seen 0) (drop (s.seen + 1) s.held.items) at short out no_comma no_ten))
      where
        plain_and : (x y : Bool) → (x && not y) ≡ false → y ≡ false → x ≡ false
        plain_and true true e f = let no_place : true ≡ false = f in absurd (let never : ⊥ = cc in never)
        plain_and true false e f = e
        plain_and false y e f = refl

    -- byte 65,537
    pub long_record : (get_or s.held.items s.seen 0 == 10 && not (is_inside s.place)) ≡ false → 65536 ≤ (reading_of s).length → Fails bytes (reading_of s) (RecordTooLong (s.given + 1))
    long_record feed long =
        fails_at bytes (reading_of s) (reading_of s) fault.RecordTooLong (RecordTooLong (s.given + 1)) refl refl refl refl
        (fails bytes (reading_of s) g (get_or s.held.items s.seen 0) (drop (s.seen + 1) s.held.items) at
        (ap (λ q. get_or s.held.items s.seen 0 == 10 && not q) (agree g.line (reading_of s) g.fits).inside ∙ feed) fault.RecordTooLong
        (too_long bytes (reading_of s) g (get_or s.held.items s.seen 0) (drop (s.seen + 1) s.held.items) at long))

    module _ (feed : get_or s.held.items s.seen 0 ≡ 10) (out : is_inside s.place ≡ false) where
      at_feed : IsAt (reading_of s) 10 (drop (s.seen + 1) s.held.items)
      at_feed = (started, next_byte s.seen s.held.items (let held = s.held.ok.0 in omega arith) ∙ ap (λ b. b ∷ drop (s.seen + 1) s.held.items) feed)

      pub blank_goes : is_blank_so_far s.texts s.place ≡ true → Goes bytes (reading_of (record s { before = 0; seen = s.seen + 1; from = s.seen + 1 }))
      blank_goes blank = subst (Goes bytes) (sym (blank_behind s blank)) (goes_behind_blank bytes (reading_of s) g (drop (s.seen + 1) s.held.items) at_feed out blank)

      pub feed_made : (t : State) (e : Event) → is_blank_so_far s.texts s.place ≡ false → IsMade s t 1 e → Turned bytes (reading_of s) (reading_of t) (Ok (Found e))
      feed_made t e some made = (
        subst (Goes bytes) (sym made.reading) (feed_goes bytes (reading_of s) g (drop (s.seen + 1) s.held.items) at_feed out some e made.event),
        feed_answers bytes (reading_of s) g (drop (s.seen + 1) s.held.items) at_feed out some e made.event,
      )

      pub feed_not_made : (t : State) (f : LogFault) → is_blank_so_far s.texts s.place ≡ false → IsSame s t → IsNotMade s t f → Turned bytes (reading_of s) (reading_of t) (Err f)
      feed_not_made t f some same (inl h) = inl (h.0, subst (Goes bytes) (sym h.1) g)
      feed_not_made t f some same (inr h) =
          inr (fails_at bytes (reading_of s) (reading_of t) h.0.fault f same.timed same.ended h.1 h.0.named
          (feed_fails bytes (reading_of s) g (drop (s.seen + 1) s.held.items) at_feed out some h.0.fault h.0.bad))

  module _ (started : s.is_begun ≡ true) (end : s.seen ≡ vec_len s.held) where
    none : drop s.seen s.held.items ≡ []
    none = drop_all s.seen s.held.items (let held = s.held.ok.0 in omega arith)

    pub end_waits : s.ended ≡ false → Turned bytes (reading_of s) (reading_of s) (Ok Wait)
    end_waits on = (g, waits bytes (reading_of s) g started none on)

    pub end_blank : s.ended ≡ true → is_blank_so_far s.texts s.place ≡ true → Turned bytes (reading_of s) (reading_of s) (Ok Wait)
    end_blank over blank = (g, no_more bytes (reading_of s) g started none over (ap is_inside (blank_is s.texts s.place blank).1) blank)

    pub end_open : s.ended ≡ true → is_inside s.place ≡ true → Fails bytes (reading_of s) (QuoteOpen (s.given + 1))
    end_open over inside =
        fails_at bytes (reading_of s) (reading_of s) fault.QuoteOpen (QuoteOpen (s.given + 1)) refl refl refl refl (quote_open bytes (reading_of s) g started none over inside)

    module _ (over : s.ended ≡ true) (out : is_inside s.place ≡ false) (some : is_blank_so_far s.texts s.place ≡ false) where
      pub end_made : (t : State) (e : Event) → IsMade s t 0 e → Turned bytes (reading_of s) (reading_of t) (Ok (Found e))
      end_made t e made = (
        subst (Goes bytes) (sym (made.reading ∙ ap (behind_event (reading_of s) e.time) (ap (λ n. drop n s.held.items) (omega arith) ∙ none))) (last_goes bytes (reading_of s) g started none over out some e made.event),
        last_answers bytes (reading_of s) g started none over out some e made.event,
      )

      pub end_not_made : (t : State) (f : LogFault) → IsSame s t → IsNotMade s t f → Turned bytes (reading_of s) (reading_of t) (Err f)
      end_not_made t f same (inl h) = inl (h.0, subst (Goes bytes) (sym h.1) g)
      end_not_made t f same (inr h) =
          inr (fails_at bytes (reading_of s) (reading_of t) h.0.fault f same.timed same.ended h.1 h.0.named
          (last_fails bytes (reading_of s) g started none over out some h.0.fault h.0.bad))

-- what a step says does not depend on how far the reading before it was
pub turned_as : (bytes : Text) (r q t : Reading) (result : Result Turn LogFault) → q.timed ≡ r.timed → q.ended ≡ r.ended → q.given ≡ r.given → Turned bytes q t result → Turned bytes r t result
turned_as bytes r q t (Ok More) a b c h = h
turned_as bytes r q t (Ok Wait) a b c h = (h.0, sym (λ i. answer (left (c i) (cut bytes (a i) (b i)))) ∙ h.1)
turned_as bytes r q t (Ok (Found e)) a b c h = (h.0, sym (λ i. answer (left (c i) (cut bytes (a i) (b i)))) ∙ h.1)
turned_as bytes r q t (Err f) a b c h = h

-- a fault that lasts
lasting_named : (number : ℕ) (f : fault.Fault) → lasting (numbered number f) ≡ Some (numbered number f)
lasting_named number fault.QuoteOpen = refl
lasting_named number fault.AfterQuote = refl
lasting_named number fault.RecordTooLong = refl
lasting_named number fault.TooManyFields = refl
lasting_named number fault.EmptyName = refl
lasting_named number fault.BadTime = refl
lasting_named number (fault.TimeBack before now) = refl

-- the reading with a fault, or without one
pub faulty : (bytes : Text) (t : Reading) (o : Option LogFault) → Goes bytes t → Goes bytes (record t { fault = o })
faulty bytes t o g = record {
  line = g.line;
  fits = record { texts = g.fits.texts; field = g.fits.field; place = g.fits.place; length = g.fits.length; right = g.fits.right; first = g.fits.first };
  coming = λ more ended later. g.coming more ended later;
}

-- the answer as it is of two readings of one count
same_answer : (bytes : Text) (r q : Reading) → q.timed ≡ r.timed → q.ended ≡ r.ended → q.given ≡ r.given → answer (left r.given (cut bytes r.timed r.ended)) ≡ answer (left q.given (cut bytes q.timed q.ended))
same_answer bytes r q a b c = sym (λ i. answer (left (c i) (cut bytes (a i) (b i))))

pub sought_wait : (bytes : Text) (r q t : Reading) → q.timed ≡ r.timed → q.ended ≡ r.ended → q.given ≡ r.given → t.fault ≡ None → Turned bytes q t (Ok Wait) → Sought bytes r t (Ok None)
sought_wait bytes r q t a b c right h = record {
  next = inr (sym (same_answer bytes r q a b c ∙ h.1));
  stands = subst (StandsIn bytes t) (sym right) h.0;
}

pub sought_found : (bytes : Text) (r q t : Reading) (e : Event) → q.timed ≡ r.timed → q.ended ≡ r.ended → q.given ≡ r.given → t.fault ≡ None → Turned bytes q t (Ok (Found e)) → Sought bytes r t (Ok (Some e))
sought_found bytes r q t e a b c right h = record {
  next = inr (sym (same_answer bytes r q a b c ∙ h.1));
  stands = subst (StandsIn bytes t) (sym right) h.0;
}

pub sought_fault : (bytes : Text) (r q t : Reading) (f : LogFault) → q.timed ≡ r.timed → q.ended ≡ r.ended → q.given ≡ r.given → t.timed ≡ q.timed → t.ended ≡ q.ended → t.given ≡ q.given →
    Turned bytes q t (Err f) → Sought bytes r (record t { fault = lasting f }) (Err f)
sought_fault bytes r q t f a b c d e g (inl h) = record {
  next = inl (ap (λ x. Err x) h.0);
  stands = subst (λ o. StandsIn bytes (record t { fault = o }) o) (sym (ap lasting h.0)) (faulty bytes t None h.1);
}
sought_fault bytes r q t f a b c d e g (inr h) = record {
  next = inr (sym (same_answer bytes r t (d ∙ a) (e ∙ b) (g ∙ c) ∙ fails_again bytes t f h));
  stands =
      subst (λ o. StandsIn bytes (record t { fault = o }) o) (sym (ap lasting (sym h.named) ∙ lasting_named (t.given + 1) h.fault ∙ ap (λ x. Some x) h.named))
      (record { fault = h.fault; named = h.named; coming = λ more ended later. h.coming more ended later });
}

pub not_memory : (f : LogFault) → (f ≡ NoMemory → ⊥) → lasting f ≡ Some f
not_memory (QuoteOpen number) h = refl
not_memory (AfterQuote number) h = refl
not_memory (RecordTooLong number) h = refl
not_memory (TooManyFields number) h = refl
not_memory (EmptyName number) h = refl
not_memory (BadTime number) h = refl
not_memory (TimeBack number before now) h = refl
not_memory NoMemory h = absurd (h refl)

-- the state behind the mark
pub behind_mark : (bytes : Text) (s : State) (n : ℕ) → s.from ≡ s.seen → IsState s → Goes bytes (record (reading_of s) { is_begun = true; rest = drop n (drop s.seen s.held.items) }) →
    Goes bytes (reading_of (record s { seen = s.seen + n; from = s.seen + n; is_begun = true }))
behind_mark bytes s n first sound g =
    subst (Goes bytes)
    (sym (same_reading (record (reading_of s) { is_begun = true; rest = drop n (drop s.seen s.held.items) }) (reading_of (record s { seen = s.seen + n; from = s.seen + n; is_begun = true }))
    refl refl refl refl refl refl (omega arith) refl
    (span_empty (s.seen + n) s.held.items ∙ sym (ap (λ m. span m s.seen s.held.items) first ∙ span_empty s.seen s.held.items)) refl (sym (drop-drop n s.seen s.held.items))))
    g

pub mark_sound : (s : State) (n : ℕ) → s.from ≡ s.seen → IsState s → s.seen + n ≤ vec_len s.held → IsState (record s { seen = s.seen + n; from = s.seen + n; is_begun = true })
mark_sound s n first sound within = record {
  in_order = omega arith;
  within = within;
  short = let a = sound.short in omega arith;
  placed = ap place_of (span_empty (s.seen + n) s.held.items) ∙ sym (ap place_of (span_empty s.seen s.held.items)) ∙ ap (λ m. place_of (span m s.seen s.held.items)) (sym first) ∙ sound.placed;
  unread = λ e. refl;
}

-- an answer of a reading is that of another with the same count
pub sought_as : (bytes : Text) (r q t : Reading) (result : Result (Option Event) LogFault) → q.timed ≡ r.timed → q.ended ≡ r.ended → q.given ≡ r.given → Sought bytes q t result → Sought bytes r t result
sought_as bytes r q t result a b c s = record { next = by_next s.next; stands = s.stands }
  where
    by_next : IsNext bytes q result → IsNext bytes r result
    by_next (inl h) = inl h
    by_next (inr h) = inr (h ∙ sym (same_answer bytes r q a b c))

pub sought_again : (bytes : Text) (r : Reading) (f : LogFault) → r.fault ≡ Some f → Stands bytes r → Sought bytes r r (Err f)
sought_again bytes r f e s = record { next = inr (sym (fails_again bytes r f (subst (StandsIn bytes r) e s))); stands = s }

-- one event more at most
pub given_most : (given : ℕ) (result : Result (Option Event) LogFault) → given_next given result ≤ given + 1
given_most given (Ok (Some e)) = omega arith
given_most given (Ok None) = omega arith
given_most given (Err f) = omega arith
