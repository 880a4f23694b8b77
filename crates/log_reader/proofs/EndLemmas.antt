-- How a reading goes on at the end of a line.
use Rattle.std.proofs.Common.{◌≡◌, ℕ, ◌+◌, List, [], ◌∷◌, ◌++◌, map, drop, refl, sym, ap, ◌∙◌, subst, Bool, true, false, append-nil}
use Rattle.std.specs.Prelude.{Option, Some, None, Ok, ◌&&◌, not, ◌==◌, if◌then◌else◌}
use Rattle.std.proofs.lemmas.List.{drop-drop, map-append}
use Rattle.qtl_syntax.specs.Tree.{Text}
use Rattle.qtl_truth.specs.declared.event.Event.{Event}
use Rattle.log_reader.specs.Fields.{text_of, drop_blanks, quoted}
use Rattle.log_reader.specs.Lines.{finished, begun, fields, in_quotes, lines_from}
use Rattle.log_reader.specs.Faults.{Fault, QuoteOpen, is_empty}
use Rattle.log_reader.specs.Records.{Judged, Nothing, Good, Bad, is_blank_line, judged_fields, or_judged, judged_last, Rest, At, Cut, no_events, with_event, cut_last, cut_behind, cut_in, cut}
use Rattle.log_reader.specs.Places.{place_of, place_behind, place_in_quotes, place_behind_blanks, is_inside}
use Rattle.log_reader.specs.Standing.{Reading, Fits, IsLater, unmarked, left, answer, Goes, is_blank_so_far, all_texts, judged_reading, behind_line, behind_event}
use Rattle.log_reader.specs.declared.place.Place.TheVariants.{Plain}
use Rattle.log_reader.proofs.LineLemmas.{has_none, blank_line}
use Rattle.log_reader.proofs.StandLemmas.{IsAt, at_byte, agree, is_outside, line_ends}

-- blanks

never_blank : (ts : List Text) (o : Option (Text × Text)) → is_blank_so_far ts (place_in_quotes o) ≡ false
never_blank [] None = refl
never_blank [] (Some p) = behind p.1
  where
    behind : (l : Text) → is_blank_so_far [] (place_behind l) ≡ false
    behind [] = refl
    behind (c ∷ l) = refl
never_blank (t ∷ ts) o = refl

blank_places : (ts : List Text) (l : Text) → (has_none ts && is_empty l) ≡ is_blank_so_far ts (place_behind_blanks l)
blank_places [] [] = refl
blank_places [] (c ∷ rest) = by_test (c == 34)
  where
    by_test : (x : Bool) → false ≡ is_blank_so_far [] (if x then place_in_quotes (quoted rest) else Plain)
    by_test true = sym (never_blank [] (quoted rest))
    by_test false = refl
blank_places (t ∷ ts) l = refl

none_mapped : (ts : List Text) → has_none (map text_of ts) ≡ has_none ts
none_mapped [] = refl
none_mapped (t ∷ ts) = refl

module _ (line : Text) (r : Reading) (fits : Fits line r) where
  pub blank_as : is_blank_line line ≡ is_blank_so_far r.texts r.place
  blank_as =
      blank_line line
      ∙ ap (λ x. x && is_empty (drop_blanks (begun line))) (sym (none_mapped (finished line)))
      ∙ blank_places (map text_of (finished line)) (drop_blanks (begun line))
      ∙ ap (λ ts. is_blank_so_far ts (place_of (begun line))) fits.texts
      ∙ ap (is_blank_so_far r.texts) (ap place_of fits.field ∙ fits.place)

  texts_as : map text_of (fields line) ≡ all_texts r
  texts_as = map-append text_of (finished line) (begun line ∷ []) ∙ ap (λ ts. ts ++ text_of (begun line) ∷ []) fits.texts ∙ ap (λ f. r.texts ++ text_of f ∷ []) fits.field

  quotes_as : in_quotes line ≡ is_inside r.place
  quotes_as = (agree line r fits).inside

  -- a whole line that is blank, and one that isn't
  pub judged_blank : is_blank_so_far r.texts r.place ≡ true → judged_fields r.timed r.last_time line ≡ Nothing
  judged_blank e = rw (blank_as ∙ e) refl

  pub judged_texts : is_blank_so_far r.texts r.place ≡ false → judged_fields r.timed r.last_time line ≡ judged_reading r
  judged_texts e = rw (blank_as ∙ e, texts_as) refl

-- one event more is given
drop_more : (n : ℕ) (events later : List Event) (e : Event) → drop n events ≡ e ∷ later → drop (n + 1) events ≡ later
drop_more n events later e h = sym (drop-drop 1 n events) ∙ ap (drop 1) h

pub left_next : (n : ℕ) (c later : Cut) (e : Event) → left n c ≡ with_event e later → left (n + 1) c ≡ later
left_next n c later e h =
    let a : drop (n + 1) c.events ≡ later.events = drop_more n c.events later.events e (ap (λ x. x.events) h) in
    let b : c.end ≡ later.end = ap (λ x. x.end) h in
    λ i. record { events = a i; end = b i }

-- nothing more, as far as the log has come
pub nothing_later : (ended : Bool) → IsLater ended [] ended
nothing_later true = (refl, refl)
nothing_later false = tt

-- what the definition says of the bytes fed
pub now : (bytes : Text) (r : Reading) (c : Cut) → left r.given (cut (bytes ++ []) r.timed r.ended) ≡ c → left r.given (cut bytes r.timed r.ended) ≡ c
now bytes r c h = ap (λ l. left r.given (cut l r.timed r.ended)) (sym (append-nil bytes)) ∙ h

module _ (bytes : Text) (r : Reading) (g : Goes bytes r) where
  -- a line feed outside quotes
  module _ (rest : Text) (here : IsAt r 10 rest) (out : is_inside r.place ≡ false) where
    at_feed : (more : Text) (ended : Bool) → IsLater r.ended more ended →
        left r.given (cut (bytes ++ more) r.timed ended) ≡
        cut_behind (r.given + 1) (judged_fields r.timed r.last_time g.line) (cut_in r.timed ended (r.given + 1) r.last_time (lines_from [] (rest ++ more))) (λ e. cut_in r.timed ended (r.given + 1 + 1) e.time (lines_from [] (rest ++ more)))
    at_feed more ended later =
        g.coming more ended later
        ∙ ap (λ l. cut_in r.timed ended (r.given + 1) r.last_time (lines_from g.line l)) (at_byte r 10 rest more here)
        ∙ ap (cut_in r.timed ended (r.given + 1) r.last_time) (line_ends g.line (rest ++ more) 10 (is_outside (in_quotes g.line) true (quotes_as g.line r g.fits ∙ out) refl))
        ∙ ap (λ o. cut_behind (r.given + 1) (or_judged o (judged_fields r.timed r.last_time g.line)) (cut_in r.timed ended (r.given + 1) r.last_time (lines_from [] (rest ++ more))) (λ e. cut_in r.timed ended (r.given + 1 + 1) e.time (lines_from [] (rest ++ more)))) g.fits.right

    pub goes_behind_blank : is_blank_so_far r.texts r.place ≡ true → Goes bytes (behind_line r rest)
    goes_behind_blank blank = record {
      line = [];
      fits = record { texts = refl; field = refl; place = refl; length = refl; right = refl; first = λ e. refl };
      coming = λ more ended later.
          at_feed more ended later
          ∙ ap (λ j. cut_behind (r.given + 1) j (cut_in r.timed ended (r.given + 1) r.last_time (lines_from [] (rest ++ more))) (λ e. cut_in r.timed ended (r.given + 1 + 1) e.time (lines_from [] (rest ++ more)))) (judged_blank g.line r g.fits blank)
          ∙ ap (λ x. cut_in r.timed ended (r.given + 1) r.last_time (lines_from [] (unmarked x (rest ++ more)))) (sym here.0);
    }

    module _ (some : is_blank_so_far r.texts r.place ≡ false) where
      feed_judged : (j : Judged) → judged_reading r ≡ j → (more : Text) (ended : Bool) → IsLater r.ended more ended →
          left r.given (cut (bytes ++ more) r.timed ended) ≡
          cut_behind (r.given + 1) j (cut_in r.timed ended (r.given + 1) r.last_time (lines_from [] (rest ++ more))) (λ e. cut_in r.timed ended (r.given + 1 + 1) e.time (lines_from [] (rest ++ more)))
      feed_judged j e more ended later =
          at_feed more ended later
          ∙ ap (λ k. cut_behind (r.given + 1) k (cut_in r.timed ended (r.given + 1) r.last_time (lines_from [] (rest ++ more))) (λ v. cut_in r.timed ended (r.given + 1 + 1) v.time (lines_from [] (rest ++ more)))) (judged_texts g.line r g.fits some ∙ e)

      pub feed_fails : (fault : Fault) → judged_reading r ≡ Bad fault → (more : Text) (ended : Bool) → IsLater r.ended more ended → left r.given (cut (bytes ++ more) r.timed ended) ≡ no_events (At (r.given + 1) fault)
      feed_fails fault e = feed_judged (Bad fault) e

      pub feed_goes : (v : Event) → judged_reading r ≡ Good v → Goes bytes (behind_event r v.time rest)
      feed_goes v e = record {
        line = [];
        fits = record { texts = refl; field = refl; place = refl; length = refl; right = refl; first = λ x. refl };
        coming = λ more ended later.
            left_next r.given (cut (bytes ++ more) r.timed ended) (cut_in r.timed ended (r.given + 1 + 1) v.time (lines_from [] (rest ++ more))) v (feed_judged (Good v) e more ended later)
            ∙ ap (λ x. cut_in r.timed ended (r.given + 1 + 1) v.time (lines_from [] (unmarked x (rest ++ more)))) (sym here.0);
      }

      pub feed_answers : (v : Event) → judged_reading r ≡ Good v → answer (left r.given (cut bytes r.timed r.ended)) ≡ Ok (Some v)
      feed_answers v e =
          ap answer (now bytes r _ (feed_judged (Good v) e [] r.ended (nothing_later r.ended)))

  -- no byte is left
  module _ (started : r.is_begun ≡ true) (none : r.rest ≡ []) where
    at_last : left r.given (cut bytes r.timed r.ended) ≡ cut_last (r.given + 1) (judged_last r.timed r.ended r.last_time g.line)
    at_last =
        now bytes r _ (g.coming [] r.ended (nothing_later r.ended))
        ∙ ap (λ l. cut_in r.timed r.ended (r.given + 1) r.last_time (lines_from g.line l)) (ap (λ x. unmarked x (r.rest ++ [])) started ∙ ap (λ l. l ++ []) none)

    last_judged : left r.given (cut bytes r.timed r.ended) ≡
        cut_last (r.given + 1) (if not r.ended then Nothing else (if is_inside r.place then Bad QuoteOpen else judged_fields r.timed r.last_time g.line))
    last_judged =
        at_last
        ∙ ap (λ o. cut_last (r.given + 1) (or_judged o (if not r.ended then Nothing else (if in_quotes g.line then Bad QuoteOpen else judged_fields r.timed r.last_time g.line)))) g.fits.right
        ∙ ap (λ q. cut_last (r.given + 1) (if not r.ended then Nothing else (if q then Bad QuoteOpen else judged_fields r.timed r.last_time g.line))) (quotes_as g.line r g.fits)

    -- the log goes on
    pub waits : r.ended ≡ false → answer (left r.given (cut bytes r.timed r.ended)) ≡ Ok None
    waits e = ap answer (last_judged ∙ ap (λ x. cut_last (r.given + 1) (if not x then Nothing else (if is_inside r.place then Bad QuoteOpen else judged_fields r.timed r.last_time g.line))) e)

    module _ (over : r.ended ≡ true) where
      over_judged : left r.given (cut bytes r.timed r.ended) ≡ cut_last (r.given + 1) (if is_inside r.place then Bad QuoteOpen else judged_fields r.timed r.last_time g.line)
      over_judged = last_judged ∙ ap (λ x. cut_last (r.given + 1) (if not x then Nothing else (if is_inside r.place then Bad QuoteOpen else judged_fields r.timed r.last_time g.line))) over

      -- whatever comes is nothing
      only_now : (c : Cut) → left r.given (cut bytes r.timed r.ended) ≡ c → (more : Text) (ended : Bool) → IsLater r.ended more ended → left r.given (cut (bytes ++ more) r.timed ended) ≡ c
      only_now c h more ended later =
          let l : IsLater true more ended = subst (λ x. IsLater x more ended) over later in
          ap (λ m. left r.given (cut (bytes ++ m) r.timed ended)) l.0
          ∙ ap (λ m. left r.given (cut m r.timed ended)) (append-nil bytes)
          ∙ ap (λ x. left r.given (cut bytes r.timed x)) (l.1 ∙ sym over)
          ∙ h

      pub quote_open : is_inside r.place ≡ true → (more : Text) (ended : Bool) → IsLater r.ended more ended → left r.given (cut (bytes ++ more) r.timed ended) ≡ no_events (At (r.given + 1) QuoteOpen)
      quote_open e = only_now _ (over_judged ∙ ap (λ q. cut_last (r.given + 1) (if q then Bad QuoteOpen else judged_fields r.timed r.last_time g.line)) e)

      module _ (out : is_inside r.place ≡ false) where
        closed_judged : left r.given (cut bytes r.timed r.ended) ≡ cut_last (r.given + 1) (judged_fields r.timed r.last_time g.line)
        closed_judged = over_judged ∙ ap (λ q. cut_last (r.given + 1) (if q then Bad QuoteOpen else judged_fields r.timed r.last_time g.line)) out

        pub no_more : is_blank_so_far r.texts r.place ≡ true → answer (left r.given (cut bytes r.timed r.ended)) ≡ Ok None
        no_more blank = ap answer (closed_judged ∙ ap (cut_last (r.given + 1)) (judged_blank g.line r g.fits blank))

        module _ (some : is_blank_so_far r.texts r.place ≡ false) where
          pub last_fails : (fault : Fault) → judged_reading r ≡ Bad fault → (more : Text) (ended : Bool) → IsLater r.ended more ended → left r.given (cut (bytes ++ more) r.timed ended) ≡ no_events (At (r.given + 1) fault)
          last_fails fault e = only_now _ (closed_judged ∙ ap (cut_last (r.given + 1)) (judged_texts g.line r g.fits some ∙ e))

          last_good : (v : Event) → judged_reading r ≡ Good v → left r.given (cut bytes r.timed r.ended) ≡ with_event v (no_events Rest)
          last_good v e = closed_judged ∙ ap (cut_last (r.given + 1)) (judged_texts g.line r g.fits some ∙ e)

          pub last_answers : (v : Event) → judged_reading r ≡ Good v → answer (left r.given (cut bytes r.timed r.ended)) ≡ Ok (Some v)
          last_answers v e = ap answer (last_good v e)

          pub last_goes : (v : Event) → judged_reading r ≡ Good v → Goes bytes (behind_event r v.time [])
          last_goes v e = record {
            line = [];
            fits = record { texts = refl; field = refl; place = refl; length = refl; right = refl; first = λ x. refl };
            coming = λ more ended later.
                let l : IsLater true more ended = subst (λ x. IsLater x more ended) over later in
                left_next r.given (cut (bytes ++ more) r.timed ended) (no_events Rest) v (only_now _ (last_good v e) more ended later)
                ∙ sym (ap (λ m. cut_in r.timed ended (r.given + 1 + 1) v.time (lines_from [] (unmarked r.is_begun m))) l.0
                ∙ ap (λ x. cut_in r.timed ended (r.given + 1 + 1) v.time (lines_from [] (unmarked x []))) started
                ∙ ap (λ x. cut_in r.timed x (r.given + 1 + 1) v.time (lines_from [] [])) l.1);
          }
