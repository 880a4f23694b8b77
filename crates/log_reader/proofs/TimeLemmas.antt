-- The times of a log's events: they have 64 bits, don't fall, and are 0 where the log is read without times.
use Rattle.std.proofs.Common.{◌≡◌, ℕ, ◌+◌, ◌-◌, ◌^◌, ◌<◌, ◌≤◌, zero, suc, List, [], ◌∷◌, length, map, refl, arith, Bool, true, false}
use Rattle.std.specs.Prelude.{⊤, Option, Some, None, nat_lt, not, if◌then◌else◌, slice_get}
use Rattle.std.specs.List.{AllByRecursion}
use Rattle.std.proofs.lemmas.Bool.Decides.{nat_tests}
use Rattle.qtl_syntax.specs.Tree.{Text}
use Rattle.qtl_truth.specs.declared.event.Event.{Event}
use Rattle.qtl_truth.specs.Truth as truth
use Rattle.log_reader.specs.Fields.{text_of}
use Rattle.log_reader.specs.Lines.{fields, in_quotes, lines_from}
use Rattle.log_reader.specs.Faults.{Fault, QuoteOpen, EmptyName, TimeBack, is_empty, first_fault}
use Rattle.log_reader.specs.Records.{decimal_from, time_of, split_last, Judged, Nothing, Good, Bad, at_time, timed_event, named_event, event_of, is_blank_line, judged_fields, or_judged, judged_line, judged_last, Cut, cut_last, cut_behind, cut_lines, without_mark, cut}
use Rattle.log_reader.proofs.DigitLemmas.{fits_in}

-- the time of an event behind one of this time
record IsTimed (timed : Bool) (before : ℕ) (e : Event) : Type 0 where
  pub fits : e.time < 2 ^ 64
  pub later : timed ≡ true → before ≤ e.time
  pub none : timed ≡ false → e.time ≡ 0

-- One line

abbrev Gives : Bool → ℕ → Judged → Type 0
Gives timed before Nothing = ⊤
Gives timed before (Good e) = IsTimed timed before e
Gives timed before (Bad fault) = ⊤

time_fits : (text : Text) (now : ℕ) → time_of text ≡ Some now → now < 2 ^ 64
time_fits [] now e = absurd (let never : ⊥ = cc in never)
time_fits (b ∷ text) now e = fits_in (decimal_from 0 (b ∷ text)) now e

module _ (timed : Bool) (before : ℕ) where
  either_way : (b : Bool) (x y : Judged) → Gives timed before x → Gives timed before y → Gives timed before (if b then x else y)
  either_way true x y h k = h
  either_way false x y h k = k

  or_fault : (fault : Option Fault) (x : Judged) → Gives timed before x → Gives timed before (or_judged fault x)
  or_fault None x h = h
  or_fault (Some fault) x h = tt

at_times : (before : ℕ) (name : Text) (args : List Text) (o : Option ℕ) → ((now : ℕ) → o ≡ Some now → now < 2 ^ 64) → Gives true before (at_time before name args o)
at_times before name args None h = tt
at_times before name args (Some now) h = by_test (nat_lt now before) refl
  where
    by_test : (x : Bool) → nat_lt now before ≡ x → Gives true before (if x then Bad (TimeBack before now) else Good (record { name = name; args = args; time = now }))
    by_test true e = tt
    by_test false e = record { fits = h now refl; later = λ t. grind (arith, nat_tests); none = λ f. absurd (let never : ⊥ = cc in never) }

timed_texts : (before : ℕ) (name : Text) (o : Option (List Text × Text)) → Gives true before (timed_event before name o)
timed_texts before name None = tt
timed_texts before name (Some p) = at_times before name p.0 (time_of p.1) (λ now e. time_fits p.1 now e)

named_texts : (timed : Bool) (before : ℕ) (name : Text) (args : List Text) → Gives timed before (named_event timed before name args)
named_texts true before name args = timed_texts before name (split_last args)
named_texts false before name args = record { fits = omega arith; later = λ t. absurd (let never : ⊥ = cc in never); none = λ f. refl }

module _ (timed : Bool) where
  of_texts : (before : ℕ) (texts : List Text) → Gives timed before (event_of timed before texts)
  of_texts before [] = tt
  of_texts before (name ∷ args) = either_way timed before (is_empty name) (Bad EmptyName) (named_event timed before name args) tt (named_texts timed before name args)

  of_fields : (before : ℕ) (line : Text) → Gives timed before (judged_fields timed before line)
  of_fields before line = either_way timed before (is_blank_line line) Nothing (event_of timed before (map text_of (fields line))) tt (of_texts before (map text_of (fields line)))

  of_line : (before : ℕ) (line : Text) → Gives timed before (judged_line timed before line)
  of_line before line = or_fault timed before (first_fault line) (judged_fields timed before line) (of_fields before line)

  of_last : (ended : Bool) (before : ℕ) (line : Text) → Gives timed before (judged_last timed ended before line)
  of_last ended before line =
      or_fault timed before (first_fault line) (if not ended then Nothing else (if in_quotes line then Bad QuoteOpen else judged_fields timed before line))
      (either_way timed before (not ended) Nothing (if in_quotes line then Bad QuoteOpen else judged_fields timed before line) tt
      (either_way timed before (in_quotes line) (Bad QuoteOpen) (judged_fields timed before line) tt (of_fields before line)))

  -- All lines

  -- each event by the one before
  abbrev Follows : ℕ → List Event → Type 0
  Follows before [] = ⊤
  Follows before (e ∷ events) = IsTimed timed before e × Follows e.time events

  last_events : (number before : ℕ) (x : Judged) → Gives timed before x → Follows before (cut_last number x).events
  last_events number before Nothing h = tt
  last_events number before (Good e) h = (h, tt)
  last_events number before (Bad fault) h = tt

  events_behind : (number before : ℕ) (x : Judged) (others : Cut) (later : Event → Cut) → Gives timed before x → Follows before others.events → ((e : Event) → Follows e.time (later e).events) →
      Follows before (cut_behind number x others later).events
  events_behind number before Nothing others later h none more = none
  events_behind number before (Good e) others later h none more = (h, more e)
  events_behind number before (Bad fault) others later h none more = tt

  line_events : (ended : Bool) (number before : ℕ) (lines : List Text) (last : Text) → Follows before (cut_lines timed ended number before lines last).events
  line_events ended number before [] last = last_events number before (judged_last timed ended before last) (of_last ended before last)
  line_events ended number before (line ∷ lines) last =
      events_behind number before (judged_line timed before line) (cut_lines timed ended number before lines last) (λ e. cut_lines timed ended (number + 1) e.time lines last)
      (of_line before line) (line_events ended number before lines last) (λ e. line_events ended (number + 1) e.time lines last)

  all_fit : (before : ℕ) (events : List Event) → Follows before events → AllByRecursion (λ e. e.time < 2 ^ 64) events
  all_fit before [] h = tt
  all_fit before (e ∷ events) h = (h.0.fits, all_fit e.time events h.1)

  follows : (bytes : Text) (ended : Bool) → Follows 0 (cut bytes timed ended).events
  follows bytes ended =
      let lines = lines_from [] (without_mark bytes) in
      line_events ended 1 0 lines.whole lines.last

-- Laws

pub fit : (bytes : Text) (timed ended : Bool) → AllByRecursion (λ e. e.time < 2 ^ 64) (cut bytes timed ended).events
fit bytes timed ended = all_fit timed 0 (cut bytes timed ended).events (follows timed bytes ended)

no_times : (before : ℕ) (events : List Event) → Follows false before events → AllByRecursion (λ e. e.time ≡ 0) events
no_times before [] h = tt
no_times before (e ∷ events) h = (h.0.none refl, no_times e.time events h.1)

pub untimed : (bytes : Text) (ended : Bool) → AllByRecursion (λ e. e.time ≡ 0) (cut bytes false ended).events
untimed bytes ended = no_times 0 (cut bytes false ended).events (follows false bytes ended)

-- the time of the event at a place that counts from 0
abbrev time_from : List Event → ℕ → ℕ
time_from events k = truth.time_of (slice_get events k)

zero_from : (events : List Event) (k : ℕ) → AllByRecursion (λ e. e.time ≡ 0) events → time_from events k ≡ 0
zero_from [] k h = refl
zero_from (e ∷ events) zero h = h.0
zero_from (e ∷ events) (suc k) h = zero_from events k h.1

not_below : (before : ℕ) (events : List Event) (m : ℕ) → Follows true before events → m < length events → before ≤ time_from events m
not_below before [] m h within = absurd (omega arith)
not_below before (e ∷ events) zero h within = h.0.later refl
not_below before (e ∷ events) (suc m) h within =
    let first = h.0.later refl in
    let others = not_below e.time events m h.1 (omega arith) in
    omega arith

rise : (before : ℕ) (events : List Event) (k m : ℕ) → Follows true before events → k ≤ m → m < length events → time_from events k ≤ time_from events m
rise before [] k m h order within = absurd (omega arith)
rise before (e ∷ events) zero zero h order within = omega arith
rise before (e ∷ events) zero (suc m) h order within = not_below e.time events m h.1 (omega arith)
rise before (e ∷ events) (suc k) zero h order within = absurd (omega arith)
rise before (e ∷ events) (suc k) (suc m) h order within = rise e.time events k m h.1 (omega arith) (omega arith)

pub never_fall : (bytes : Text) (timed ended : Bool) (i j : ℕ) → 1 ≤ j → j ≤ i → i ≤ length (cut bytes timed ended).events → truth.time_at (cut bytes timed ended).events j ≤ truth.time_at (cut bytes timed ended).events i
never_fall bytes true ended i j first order within = rise 0 (cut bytes true ended).events (j - 1) (i - 1) (follows true bytes ended) (omega arith) (omega arith)
never_fall bytes false ended i j first order within =
    let a = zero_from (cut bytes false ended).events (j - 1) (untimed bytes ended) in
    let b = zero_from (cut bytes false ended).events (i - 1) (untimed bytes ended) in
    omega arith
