-- How the reading of a log gives up: each time what was taken of it decides the stop, or a text was lost on the way.
use Rattle.std.proofs.Common.{◌≡◌, ℕ, ◌+◌, ◌≤◌, ◌⊎◌, inl, inr, List, [], ◌∷◌, ◌++◌, length, length-append, refl, sym, ap, ◌∙◌, subst, arith, Bool, true, false}
use Rattle.std.specs.Prelude.{Option, Some, None, Err}
use Rattle.std.specs.Io.KnownBytes.{Appends, Consumes}
use Rattle.mon_base.specs.Told.{AppendsFront}
use Rattle.qtl_syntax.specs.Tree.{Text, Item}
use Rattle.qtl_truth.specs.declared.event.Event.{Event}
use Rattle.monitor_model.specs.Ends as event_end
use Rattle.log_reader.specs.Records.{Cut, End, cut}
use Rattle.log_reader.specs.Records as record_end
use Rattle.log_reader.specs.Faults as record_fault
use Rattle.log_reader.specs.Standing.{Reading, numbered}
use Rattle.log_reader.specs.declared.fault.LogFault.{LogFault}
use Rattle.log_reader.specs.declared.fault.LogFault.TheVariants as log_fault
use Rattle.report.specs.Lines.{report_lines}
use Rattle.report.specs.Passing.{Passes}
use Rattle.report.proofs.Passages.{passes_front, front_flushed}
use Rattle.run_model.specs.Limits.{ComesAt}
use Rattle.run_model.specs.Stage.{handed_by}
use Rattle.run_model.specs.Verdicts.{properties, names, is_timed}
use Rattle.run_model.specs.Walk.{Open, Ended, Past, Takes, Walks, is_ended, known, stop_at}
use Rattle.monitor_run.specs.Judging.{ComesTo, Judges, StaysAsItWas, WritesEvent, last_lines}
use Rattle.monitor_run.specs.Opening.{halt_of_record}
use Rattle.monitor_run.specs.Reading.{Fed, Reads, ReadsAll, Halted, IsUnread, close_of, taken_as, form_in}
use Rattle.monitor_run.specs.Standing.{StandsFor, KeepsPlan, row_of}
use Rattle.monitor_run.specs.declared.judge.Judge.{Judge}
use Rattle.run_model.specs.Job.{Job}
use Rattle.run_model.specs.declared.stop.Halt.{Halt}
use Rattle.run_model.specs.declared.stop.Halt.TheVariants.{At, Lost}
use Rattle.run_model.specs.declared.stop.LogStop.{LogStop}
use Rattle.run_model.specs.declared.stop.LogStop.TheVariants.{Unread, Whole, Fault, Long}
use Rattle.run_model.specs.declared.stop.Loss.TheVariants.{Cut as WriteFailed, Starved}
use Rattle.monitor_run.proofs.ReadLog.Given.{IsFaulty, front_stays}
use Rattle.monitor_run.proofs.ReadLog.Reads.{comes_at, flushed, judged_fits, lines_next, rights_more, taken, takes_piece}
use Rattle.monitor_run.proofs.ReadLog.Reaching.{walked_so_far, walked_all, walked_faulty, walked_full}

-- the reader's end and how far the log was taken
closed : (ended : Bool) → is_ended (close_of ended) ≡ ended
closed true = refl
closed false = refl

as_closed : (timed : Bool) (given : Text) (ended : Bool) (log : List Event) (r : Reading) → Fed timed given ended log r → Fed timed given (is_ended (close_of ended)) log r
as_closed timed given ended log r fed = subst (λ (b : Bool). Fed timed given b log r) (sym (closed ended)) fed

-- an event that can't be judged was handed to the monitor too
handed_refused : (number judged : ℕ) (why : event_end.End) → handed_by (stop_at number why) judged ≡ judged + 1
handed_refused number judged (event_end.CodesFull x need) = refl
handed_refused number judged (event_end.NodesFull k row) = refl

-- a record's fault is never want of memory
never_starved : (number : ℕ) (why : record_fault.Fault) → log_fault.NoMemory ≡ numbered number why → ⊥
never_starved number record_fault.QuoteOpen is = cc
never_starved number record_fault.AfterQuote is = cc
never_starved number record_fault.RecordTooLong is = cc
never_starved number record_fault.TooManyFields is = cc
never_starved number record_fault.EmptyName is = cc
never_starved number record_fault.BadTime is = cc
never_starved number (record_fault.TimeBack before now) is = cc

few_of : (first later events : List Event) → events ≡ first ++ later → length first ≤ length events
few_of first later events is = let n = ap length is in let m = length-append first later in omega (arith, n, m)

module _ (job : Job) (items : List Item) (all : Text) (left sent : Option Text) (given : Text) (ended : Bool) where
  -- what is known of the log
  abbrev events_known : List Event
  events_known = (known (form_in items) job.limit (taken_as given ended)).events

  -- no more events were given than are known
  few_given : (log : List Event) (t : Reading) → Fed (is_timed items) given ended log t → t.given ≤ length events_known
  few_given log t fed =
      let f = as_closed (is_timed items) given ended log t fed in
      let n = few_of log f.later events_known f.first in
      omega (arith, n, fed.count)

  -- a write failed at the lines of an event
  halts_cut : (w1 w2 : Option Text) (j k : Judge) (r t : Reading) (held held' : Text) (e : Event) → (w : Reads job items all left sent w1 given ended j r held) → Fed (is_timed items) given ended (w.log ++ e ∷ []) t → KeepsPlan j k →
      ComesTo j.monitor w.log e None × StandsFor k.monitor (w.log ++ e ∷ []) → k.events ≡ j.events + 1 → AppendsFront w1 w2 (held ++ last_lines k) →
      Halted job items all left sent w2 held' k t.given (Lost WriteFailed)
  halts_cut w1 w2 j k r t held held' e w fed same (comes, stands) events front =
      let fits = judged_fits job items w.log w.rows j k e w.judged same comes in
      let lines = report_lines job.all 1 (names (properties items)) w.rows in
      record {
        rest = w.bytes.rest;
        remains = w.bytes.remains;
        taken = taken_as given ended;
        takes = w.bytes.takes;
        judged = w.log ++ e ∷ [];
        rows = w.rows ++ row_of k.monitor ∷ [];
        walks = walked_so_far (ComesAt job items) job.limit (is_timed items) given (close_of ended) (w.log ++ e ∷ []) fits t (as_closed (is_timed items) given ended (w.log ++ e ∷ []) t fed);
        handed_is = (let n = fed.count in omega (arith, n), few_given (w.log ++ e ∷ []) t fed);
        right = rights_more job items w.log w.rows j k e w.judged same stands;
        counted = tt;
        lines = subst (λ (l : Text). AppendsFront sent w2 l) (sym (lines_next job items w.log w.rows j k e w.judged same events)) (passes_front sent w1 w2 [] held lines (last_lines k) w.lines front);
      }

  -- what was judged, where the text was lost
  module _ (w1 : Option Text) (j k : Judge) (r t : Reading) (held held' : Text) (w : Reads job items all left sent w1 given ended j r held) where
    -- there was no memory
    halts_starved : (w2 : Option Text) → t.given ≤ length w.log + 1 → t.given ≤ length events_known → w2 ≡ w1 → held' ≡ held → Halted job items all left sent w2 held' k t.given (Lost Starved)
    halts_starved w2 few known out kept =
        record {
          rest = w.bytes.rest;
          remains = w.bytes.remains;
          taken = taken_as given ended;
          takes = w.bytes.takes;
          judged = w.log;
          rows = w.rows;
          walks = walked_so_far (ComesAt job items) job.limit (is_timed items) given (close_of ended) w.log w.judged.fits r (as_closed (is_timed items) given ended w.log r w.bytes.fed);
          handed_is = (few, known);
          right = w.judged.right;
          counted = tt;
          lines = let lines = report_lines job.all 1 (names (properties items)) w.rows in
              subst (λ (x : Option Text). Passes sent x [] held' lines) (sym out) (subst (λ (l : Text). Passes sent w1 [] l lines) (sym kept) w.lines);
        }

    -- the event can't be judged
    halts_refused : (w2 : Option Text) (e : Event) (stop : LogStop) → Fed (is_timed items) given ended (w.log ++ e ∷ []) t → Judges j k w.log e (Err (At stop)) → StaysAsItWas j k w1 w2 held held' →
        Halted job items all left sent w2 held' k t.given (At stop)
    halts_refused w2 e stop fed (why, is, comes) (events, violations, out, kept) =
        let count : stop ≡ stop_at (length w.log + 1) why = is ∙ ap (λ (n : ℕ). stop_at (n + 1) why) w.judged.events in
        let there = comes_at job items j.monitor w.log e (Some why) w.judged.plan w.judged.sizes comes in
        record {
          rest = w.bytes.rest;
          remains = w.bytes.remains;
          taken = taken_as given ended;
          takes = w.bytes.takes;
          judged = w.log;
          rows = w.rows;
          walks = subst (λ (s : LogStop). Walks (ComesAt job items) (known (form_in items) job.limit (taken_as given ended)) w.log s) (sym count)
              (walked_full (ComesAt job items) job.limit (is_timed items) given (close_of ended) w.log w.judged.fits t e why (as_closed (is_timed items) given ended (w.log ++ e ∷ []) t fed) there);
          handed_is = fed.count ∙ length-append w.log (e ∷ []) ∙ sym (ap (λ (s : LogStop). handed_by s (length w.log)) count ∙ handed_refused (length w.log + 1) (length w.log) why);
          right = w.judged.right;
          counted = (events ∙ w.judged.events, violations ∙ w.judged.violations);
          lines = let lines = report_lines job.all 1 (names (properties items)) w.rows in
              subst (λ (x : Option Text). Passes sent x [] held' lines) (sym out) (subst (λ (l : Text). Passes sent w1 [] l lines) (sym kept) w.lines);
        }

  -- an event that was not judged, or whose lines were not written
  pub halts_at_event : (w1 w2 : Option Text) (j k : Judge) (r t : Reading) (held held' : Text) (e : Event) (halt : Halt LogStop) → (w : Reads job items all left sent w1 given ended j r held) →
      Fed (is_timed items) given ended (w.log ++ e ∷ []) t → KeepsPlan j k → Judges j k w.log e (Err halt) → WritesEvent j k w1 w2 held held' (Err halt) → Halted job items all left sent w2 held' k t.given halt
  halts_at_event w1 w2 j k r t held held' e (At stop) w fed same judges writes = halts_refused w1 j k r t held held' w w2 e stop fed judges writes
  halts_at_event w1 w2 j k r t held held' e (Lost WriteFailed) w fed same judges (events, front) = halts_cut w1 w2 j k r t held held' e w fed same judges events front
  halts_at_event w1 w2 j k r t held held' e (Lost Starved) w fed same judges (events, violations, out, kept) =
      let n = fed.count in
      let m = length-append w.log (e ∷ []) in
      halts_starved w1 j k r t held held' w w2 (omega (arith, n, m)) (few_given (w.log ++ e ∷ []) t fed) out kept

  -- what the records say where each event was judged
  halts_at : (w1 : Option Text) (j : Judge) (r t : Reading) (held : Text) (stop : LogStop) → (w : Reads job items all left sent w1 given ended j r held) → t.given ≡ r.given → handed_by stop (length w.log) ≡ length w.log →
      Walks (ComesAt job items) (known (form_in items) job.limit (taken_as given ended)) w.log stop → Halted job items all left sent w1 held j t.given (At stop)
  halts_at w1 j r t held stop w same handed walks =
      record {
        rest = w.bytes.rest;
        remains = w.bytes.remains;
        taken = taken_as given ended;
        takes = w.bytes.takes;
        judged = w.log;
        rows = w.rows;
        walks = walks;
        handed_is = same ∙ w.bytes.fed.count ∙ sym handed;
        right = w.judged.right;
        counted = (w.judged.events, w.judged.violations);
        lines = w.lines;
      }

  halts_faulty : (w1 : Option Text) (j : Judge) (r t : Reading) (held : Text) (fault : LogFault) → (w : Reads job items all left sent w1 given ended j r held) → t.given ≡ r.given → IsFaulty (is_timed items) given ended w.log fault →
      Halted job items all left sent w1 held j t.given (At (Fault fault))
  halts_faulty w1 j r t held fault w same f =
      let records = subst (λ (b : Bool). cut given (is_timed items) b ≡ record { events = w.log; end = record_end.At f.number f.why }) (sym (closed ended)) f.records in
      halts_at w1 j r t held (Fault fault) w same refl
      (walked_faulty (ComesAt job items) job.limit (is_timed items) given (close_of ended) w.log w.judged.fits fault f.number f.why f.named records)

  -- the reader gives no further record: there is no memory, or the log has this fault
  pub halts_at_record : (w1 : Option Text) (j : Judge) (r t : Reading) (held : Text) (fault : LogFault) → (w : Reads job items all left sent w1 given ended j r held) → t.given ≡ r.given →
      (fault ≡ log_fault.NoMemory) ⊎ IsFaulty (is_timed items) given ended w.log fault → Halted job items all left sent w1 held j t.given (halt_of_record fault)
  halts_at_record w1 j r t held fault w same (inl none) =
      let n = w.bytes.fed.count in
      let m = few_given w.log r w.bytes.fed in
      subst (λ (f : LogFault). Halted job items all left sent w1 held j t.given (halt_of_record f)) (sym none)
      (halts_starved w1 j j r t held held w w1 (omega (arith, n, same)) (omega (arith, m, same)) refl refl)
  halts_at_record w1 j r t held fault w same (inr f) = go fault f where
    go : (x : LogFault) → IsFaulty (is_timed items) given ended w.log x → Halted job items all left sent w1 held j t.given (halt_of_record x)
    go log_fault.NoMemory f = absurd (never_starved f.number f.why f.named)
    go (log_fault.QuoteOpen n) f = halts_faulty w1 j r t held (log_fault.QuoteOpen n) w same f
    go (log_fault.AfterQuote n) f = halts_faulty w1 j r t held (log_fault.AfterQuote n) w same f
    go (log_fault.RecordTooLong n) f = halts_faulty w1 j r t held (log_fault.RecordTooLong n) w same f
    go (log_fault.TooManyFields n) f = halts_faulty w1 j r t held (log_fault.TooManyFields n) w same f
    go (log_fault.EmptyName n) f = halts_faulty w1 j r t held (log_fault.EmptyName n) w same f
    go (log_fault.BadTime n) f = halts_faulty w1 j r t held (log_fault.BadTime n) w same f
    go (log_fault.TimeBack n b m) f = halts_faulty w1 j r t held (log_fault.TimeBack n b m) w same f

-- At the bytes' end and between the pieces

module _ (job : Job) (items : List Item) (all : Text) (sent : Option Text) (given : Text) where
  -- the log was read whole
  pub halts_whole : (left w1 : Option Text) (j : Judge) (r : Reading) (held : Text) → ReadsAll job items all left sent w1 given true j r held → Halted job items all left sent w1 held j r.given (At Whole)
  halts_whole left w1 j r held a =
      halts_at job items all left sent given true w1 j r r held Whole a.reads refl refl
      (walked_all (ComesAt job items) job.limit (is_timed items) given Ended a.reads.log a.reads.judged.fits a.done)

  -- what was held back could not be written
  halts_unsent : (left left' w1 w2 : Option Text) (j : Judge) (r : Reading) (held held' : Text) → ReadsAll job items all left sent w1 given false j r held → left' ≡ left → AppendsFront w1 w2 held →
      Halted job items all left' sent w2 held' j r.given (Lost WriteFailed)
  halts_unsent left left' w1 w2 j r held held' a same front =
      let w = a.reads in
      let n = w.bytes.fed.count in
      let lines = report_lines job.all 1 (names (properties items)) w.rows in
      record {
        rest = w.bytes.rest;
        remains = same ∙ w.bytes.remains;
        taken = taken_as given false;
        takes = w.bytes.takes;
        judged = w.log;
        rows = w.rows;
        walks = walked_so_far (ComesAt job items) job.limit (is_timed items) given Open w.log w.judged.fits r w.bytes.fed;
        handed_is = (omega (arith, n), few_given job items all left sent given false w.log r w.bytes.fed);
        right = w.judged.right;
        counted = tt;
        lines = front_flushed sent w1 w2 [] held lines w.lines front;
      }

  -- a read failed
  halts_unread : (left left' w1 w2 : Option Text) (j : Judge) (r : Reading) (held held' : Text) → ReadsAll job items all left sent w1 given false j r held → Consumes left left' [] → Appends w1 w2 held → held' ≡ [] →
      Halted job items all left' sent w2 held' j r.given (At Unread)
  halts_unread left left' w1 w2 j r held held' a consumes sends none =
      let w = a.reads in
      let k = taken left left' w.bytes.rest [] w.bytes.remains consumes in
      record {
        rest = k.0;
        remains = k.1;
        taken = taken_as given false;
        takes = subst (λ (l : Text). Takes job.limit all l (taken_as given false)) k.2 w.bytes.takes;
        judged = w.log;
        rows = w.rows;
        walks = walked_all (ComesAt job items) job.limit (is_timed items) given Open w.log w.judged.fits a.done;
        handed_is = w.bytes.fed.count;
        right = w.judged.right;
        counted = (w.judged.events, w.judged.violations);
        lines = flushed sent w1 w2 held held' (report_lines job.all 1 (names (properties items)) w.rows) w.lines sends none;
      }

  -- a read came to no pass
  pub halts_at_read : (left left' w1 w2 : Option Text) (j : Judge) (r : Reading) (held held' : Text) (halt : Halt LogStop) → ReadsAll job items all left sent w1 given false j r held → IsUnread left left' w1 w2 held held' halt →
      Halted job items all left' sent w2 held' j r.given halt
  halts_at_read left left' w1 w2 j r held held' (At stop) a (is, consumes, sends, none) =
      subst (λ (s : LogStop). Halted job items all left' sent w2 held' j r.given (At s)) (sym is) (halts_unread left left' w1 w2 j r held held' a consumes sends none)
  halts_at_read left left' w1 w2 j r held held' (Lost WriteFailed) a (same, front) = halts_unsent left left' w1 w2 j r held held' a same front
  halts_at_read left left' w1 w2 j r held held' (Lost Starved) a never = absurd never

  -- there was no memory for a piece that was taken
  pub halts_at_feed : (left left' w1 w2 : Option Text) (piece : Text) (j : Judge) (r t : Reading) (held held' : Text) → ReadsAll job items all left sent w1 given false j r held → Consumes left left' piece → Appends w1 w2 held → held' ≡ [] →
      length given + length piece ≤ job.limit → t.given ≡ r.given → Halted job items all left' sent w2 held' j t.given (Lost Starved)
  halts_at_feed left left' w1 w2 piece j r t held held' a consumes sends none short same =
      let w = a.reads in
      let k = taken left left' w.bytes.rest piece w.bytes.remains consumes in
      let more = front_stays (is_timed items) given piece false w.log w.bytes.fed.later w.bytes.fed.first in
      let n = w.bytes.fed.count in
      let m = few_of w.log more.0 (cut (given ++ piece) (is_timed items) false).events more.1 in
      record {
        rest = k.0;
        remains = k.1;
        taken = taken_as (given ++ piece) false;
        takes = takes_piece job.limit (is_timed items) all w.bytes.rest given piece k.0 w.bytes.takes k.2 short;
        judged = w.log;
        rows = w.rows;
        walks = record { fits = w.judged.fits; later = more.0; split = more.1 };
        handed_is = (omega (arith, n, same), omega (arith, m, n, same));
        right = w.judged.right;
        counted = tt;
        lines = flushed sent w1 w2 held held' (report_lines job.all 1 (names (properties items)) w.rows) w.lines sends none;
      }

  one_byte : (piece : Text) → length piece ≡ 1 → (b : ℕ) × (piece ≡ b ∷ [])
  one_byte [] n = absurd (omega (arith, n))
  one_byte (b ∷ []) n = (b, refl)
  one_byte (b ∷ c ∷ piece) n = absurd (omega (arith, n))

  -- what was held back is written, and the log goes on behind the limit
  pub halts_long : (left left' w1 w2 : Option Text) (piece : Text) (j : Judge) (r : Reading) (held held' : Text) → ReadsAll job items all left sent w1 given false j r held → Consumes left left' piece → length piece ≡ 1 →
      Appends w1 w2 held → held' ≡ [] → length given ≡ job.limit → Halted job items all left' sent w2 held' j r.given (At (Long job.limit))
  halts_long left left' w1 w2 piece j r held held' a consumes one sends none full =
      let w = a.reads in
      let k = taken left left' w.bytes.rest piece w.bytes.remains consumes in
      let b = one_byte piece one in
      let split : all ≡ given ++ b.0 ∷ k.0 = w.bytes.takes.of_log ∙ ap (λ (l : Text). given ++ l) (k.2 ∙ ap (λ (l : Text). l ++ k.0) b.1) in
      record {
        rest = k.0;
        remains = k.1;
        taken = record { given = given; close = Past };
        takes = record { few = omega (arith, full); of_log = (full, b.0, split) };
        judged = w.log;
        rows = w.rows;
        walks = walked_all (ComesAt job items) job.limit (is_timed items) given Past w.log w.judged.fits a.done;
        handed_is = w.bytes.fed.count;
        right = w.judged.right;
        counted = (w.judged.events, w.judged.violations);
        lines = flushed sent w1 w2 held held' (report_lines job.all 1 (names (properties items)) w.rows) w.lines sends none;
      }
