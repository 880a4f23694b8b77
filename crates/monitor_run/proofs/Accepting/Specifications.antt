-- What is read of a specification's text.
use Rattle.std.proofs.Common.{◌≡◌, ◌∙◌, inl, inr, List, [], ◌∷◌, ◌++◌, refl, ap, arith}
use Rattle.std.specs.Prelude.{Option, Some, None, IfSome, Result, Ok, Err, IfOk, IfErr}
use Rattle.qtl_syntax.specs.Tree.{Text, Item}
use Rattle.subformulas.specs.Table.{Table}
use Rattle.wellformed.specs.Expansion.{expanded_props}
use Rattle.qtl_truth.specs.declared.event.Event.{Event}
use Rattle.monitor_model.specs.State.{IsLive, IsMonitor, Stands}
use Rattle.run_model.specs.Limits.{table_in}
use Rattle.run_model.specs.Uses.{Use, given, AreAsked}
use Rattle.run_model.specs.Verdicts.{is_timed}
use Rattle.monitor_run.specs.Opening.{AsksSpec, IsSpelled, IsUnspelled, SpecIs, SpecRead, SpecRefused, StopsReading}
use Rattle.monitor_run.specs.Standing.{HasSizes, IsPlanOf, HasJudged, has_times}
use Rattle.monitor_run.specs.declared.judge.Judge.{Judge}
use Rattle.run_model.specs.Job.{Job}
use Rattle.run_model.specs.declared.stop.Halt.{Halt}
use Rattle.run_model.specs.declared.stop.Halt.TheVariants.{At, Lost}
use Rattle.run_model.specs.declared.stop.SpecStop.{SpecStop}
use Rattle.run_model.specs.declared.stop.SpecStop.TheVariants.{Unopened, Unread, TooLong, Fault, Names}
use Rattle.monitor_run.proofs.Accepting.TimedRows.{any_timed, all_timed}

spelled_read : (job : Job) (t : Option (List (Text × Text))) (text : Text) (judge : Judge) → IfSome t (λ files. SpecIs files job.spec text) → IsSpelled job text judge → SpecRead job t judge
spelled_read job None text judge s h = record { items = h.items; judged = h.judged; accepted = tt }
spelled_read job (Some files) text judge s h =
    record { items = h.items; judged = h.judged; accepted = record { spelled = rw s.0 (s.1, h.spelled); clear = h.clear } }

unspelled_read : (files : List (Text × Text)) (spec text : Text) (halt : Halt SpecStop) → SpecIs files spec text → IsUnspelled text halt → SpecRefused files spec halt
unspelled_read files spec text (At (Names fault)) s (items, within, bad) = inr (items, (rw s.0 (s.1, within), bad))
unspelled_read files spec text (At (Fault fault)) s h = inr ([], rw s.0 (h.0, (s.1, h.1)))
unspelled_read files spec text (At Unopened) s h = absurd h
unspelled_read files spec text (At Unread) s h = absurd h
unspelled_read files spec text (At TooLong) s h = absurd h
unspelled_read files spec text (Lost loss) s h = h

pub read_ok : (job : Job) (r : Result Judge (Halt SpecStop)) (t : Option (List (Text × Text))) (text : Text) → IfSome t (λ files. SpecIs files job.spec text) →
    IfOk r (λ judge. IsSpelled job text judge) → IfOk r (λ judge. SpecRead job t judge)
read_ok job (Ok judge) t text s h = spelled_read job t text judge s h
read_ok job (Err halt) t text s h = h

told_refused : (t : Option (List (Text × Text))) (spec text : Text) (halt : Halt SpecStop) → IfSome t (λ files. SpecIs files spec text) → IsUnspelled text halt → IfSome t (λ files. SpecRefused files spec halt)
told_refused None spec text halt s h = tt
told_refused (Some files) spec text halt s h = unspelled_read files spec text halt s h

pub read_err : (r : Result Judge (Halt SpecStop)) (t : Option (List (Text × Text))) (spec text : Text) → IfSome t (λ files. SpecIs files spec text) → IfErr r (λ halt. IsUnspelled text halt) →
    IfErr r (λ halt. IfSome t (λ files. SpecRefused files spec halt))
read_err (Ok judge) t spec text s h = h
read_err (Err halt) t spec text s h = told_refused t spec text halt s h

-- it was read no further than to a file's fault, or was too long
stopped_reading : (files : List (Text × Text)) (spec : Text) (halt : Halt SpecStop) → StopsReading files spec halt → SpecRefused files spec halt
stopped_reading files spec (At Unopened) h = inl refl
stopped_reading files spec (At Unread) h = inl refl
stopped_reading files spec (At TooLong) h = inr ([], h)
stopped_reading files spec (At (Fault fault)) h = absurd h
stopped_reading files spec (At (Names fault)) h = absurd h
stopped_reading files spec (Lost loss) h = h

pub told_stopped : (t : Option (List (Text × Text))) (spec : Text) (halt : Halt SpecStop) → IfSome t (λ files. StopsReading files spec halt) → IfSome t (λ files. SpecRefused files spec halt)
told_stopped None spec halt h = tt
told_stopped (Some files) spec halt h = stopped_reading files spec halt h

-- the text was read, whatever it says
pub asks_read : (name : Text) (r : Result Judge (Halt SpecStop)) (text : Text) (uses : List Use) → AreAsked (given name ∷ []) uses → IfErr r (λ halt. IsUnspelled text halt) → AsksSpec name r uses
asks_read name (Ok judge) text uses asked h = asked
asks_read name (Err (At (Fault fault))) text uses asked h = asked
asks_read name (Err (At (Names fault))) text uses asked h = asked
asks_read name (Err (At Unopened)) text uses asked h = absurd h
asks_read name (Err (At Unread)) text uses asked h = absurd h
asks_read name (Err (At TooLong)) text uses asked h = absurd h
asks_read name (Err (Lost loss)) text uses asked h = (h, (given name ∷ [], [], refl, asked))

-- no event came
none_before : (before later : List Event) (e : Event) → [] ≡ before ++ e ∷ later → ⊥
none_before [] later e is = let n : ⊥ = cc in n
none_before (x ∷ before) later e is = let n : ⊥ = cc in n

-- the judge before the first event
pub judge_stands : (job : Job) (items : List Item) (judge : Judge) → IsPlanOf items judge.monitor.plan → HasSizes job judge.monitor → judge.shows_true ≡ job.all → IsMonitor judge.monitor → IsLive judge.monitor → Stands judge.monitor [] →
    judge.events ≡ 0 → judge.violations ≡ 0 → HasJudged job items [] [] judge
judge_stands job items judge plan sizes shows sound live stands events violations =
    record {
      plan = plan;
      sizes = sizes;
      shows = shows;
      stands = record {
        sound = sound;
        live = live;
        is_log = record { events = tt; times = λ i j low order high. absurd (omega (arith, low, order, high)) };
        stands = stands;
        judged = λ some. absurd (omega (arith, some));
      };
      fits = λ before later e is. absurd (none_before before later e is);
      right = record { count = refl; each = λ i h. absurd (omega arith) };
      events = events;
      violations = violations;
    }

-- a plan has a timed operator exactly where its properties have one
pub plan_times : (items : List Item) (plan : Table) → plan.subs ≡ table_in items → has_times plan ≡ is_timed items
plan_times items plan rows = ap any_timed rows ∙ all_timed 0 (expanded_props [] 0 items)
