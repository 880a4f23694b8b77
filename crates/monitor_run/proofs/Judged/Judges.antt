-- What an event does to the monitor, for the log that the monitor stands for.
use Rattle.std.proofs.Common.{◌≡◌, ℕ, ◌+◌, ◌-◌, ◌<◌, ◌≤◌, ◌⊎◌, inl, inr, List, [], ◌∷◌, ◌++◌, length, length-append, refl, sym, ap, ◌∙◌, arith, true}
use Rattle.std.specs.Prelude.{Option, None, Result, Ok, Err, slice_get}
use Rattle.std.specs.List.{AllByRecursion}
use Rattle.qtl_syntax.specs.Tree.{Text}
use Rattle.qtl_truth.specs.Truth.{IsEvent, IsLog, time_at, time_of}
use Rattle.qtl_truth.proofs.Past.{same_to_append}
use Rattle.std.proofs.lemmas.Bool.{cases_lt}
use Rattle.qtl_truth.specs.declared.event.Event.{Event}
use Rattle.subformulas.proofs.ByNumber.{get_last}
use Rattle.monitor_model.specs.Reading.{Answers}
use Rattle.monitor_model.specs.State.{State, IsLive, IsMonitor, Stands}
use Rattle.monitor_step.specs.Monitor.{MatchEnd}
use Rattle.monitor_step.specs.declared.monitor.StepEnd.{StepEnd}
use Rattle.monitor_step.specs.declared.monitor.StepEnd.TheVariants as step_end
use Rattle.monitor_model.specs.Ends as event_end
use Rattle.monitor_run.specs.Judging.{ComesTo, Judges, WritesEvent, halt_of_step}
use Rattle.monitor_run.specs.Reading.{HasCutCause, HasReadCause}
use Rattle.monitor_run.specs.Standing.{StandsFor}
use Rattle.monitor_run.specs.declared.judge.Judge.{Judge}

-- the time at a position of the first events is as before
pub time_before : (log more : List Event) (i : ℕ) → 1 ≤ i → i ≤ length log → time_at (log ++ more) i ≡ time_at log i
time_before log more i low high = ap time_of (sym ((same_to_append log more).events i low high))

pub time_last : (log : List Event) (e : Event) → time_at (log ++ e ∷ []) (length log + 1) ≡ e.time
time_last log e =
    let at : length log + 1 - 1 ≡ length log = omega arith in
    ap time_of (ap (λ (j : ℕ). slice_get (log ++ e ∷ []) j) at ∙ get_last log [] e)

all_more : (log : List Event) (e : Event) → AllByRecursion IsEvent log → IsEvent e →
    AllByRecursion IsEvent (log ++ e ∷ [])
all_more [] e h own = (own, tt)
all_more (x ∷ log) e h own = (h.0, all_more log e h.1 own)

-- one event more is a log where its time isn't below that of the last event
pub log_more : (log : List Event) (e : Event) → IsLog log → IsEvent e →
    time_at log (length log) ≤ e.time → IsLog (log ++ e ∷ [])
log_more log e is_log own later = record {
  events = all_more log e is_log.events own;
  times = λ i j low order high.
      let count = length-append log (e ∷ []) in
      by_place i j low order (omega (arith, count, high)) (cases_lt (length log) i) (cases_lt (length log) j);
}
  where
    by_place : (i j : ℕ) → 1 ≤ j → j ≤ i → i ≤ length log + 1 →
        (length log < i) ⊎ (i ≤ length log) → (length log < j) ⊎ (j ≤ length log) →
        time_at (log ++ e ∷ []) j ≤ time_at (log ++ e ∷ []) i
    by_place i j low order high (inr p) (inl q) = absurd (omega (arith, order, p, q))
    by_place i j low order high (inr p) (inr q) =
        let before = is_log.times i j low order p in
        let at_j = time_before log (e ∷ []) j low q in
        let at_i = time_before log (e ∷ []) i (omega (arith, low, order)) p in
        omega (arith, before, at_j, at_i)
    by_place i j low order high (inl p) (inl q) =
        let same : j ≡ i = omega (arith, order, high, p, q) in
        let times = ap (time_at (log ++ e ∷ [])) same in
        omega (arith, times)
    by_place i j low order high (inl p) (inr q) =
        let last : i ≡ length log + 1 = omega (arith, high, p) in
        let at_i = ap (time_at (log ++ e ∷ [])) last ∙ time_last log e in
        let at_j = time_before log (e ∷ []) j low q in
        let before = is_log.times (length log) j low q (omega arith) in
        omega (arith, before, at_j, at_i, later)

-- what a step answers for each log that the monitor stands for
abbrev pub StepAnswers : (old new : State) → Event → Result Unit StepEnd → Type 0
StepAnswers old new e r =
    (log : List Event) → IsLog (log ++ e ∷ []) → Stands old log → MatchEnd r (Answers old e new log)

-- so it answers for the log that a judge stands for
answered : (old new : State) (log : List Event) (e : Event) (r : Result Unit StepEnd) →
    StandsFor old log → IsEvent e → old.last_time ≤ e.time → StepAnswers old new e r →
    IsLog (log ++ e ∷ []) × MatchEnd r (Answers old e new log)
answered old new log e r s own later a =
    let is_log = log_more log e s.is_log own (let t = s.stands.time in omega (arith, t, later)) in
    (is_log, a log is_log s.stands)

-- an event that is taken
pub taken : (old new : State) (log : List Event) (e : Event) (u : Unit) → StandsFor old log →
    IsEvent e → old.last_time ≤ e.time → new.has_now ≡ true → IsMonitor new → IsLive new → StepAnswers old new e (Ok u) →
    ComesTo old log e None × StandsFor new (log ++ e ∷ [])
taken old new log e u s own later judged sound live a =
    let (is_log, h) = answered old new log e (Ok u) s own later a in
    let after : Answers old e new log None = h in
    let (end, stands, gives) = after in
    (end, record { is_log = is_log; sound = sound; live = live; stands = stands; judged = λ some. judged })

-- and one that is refused
pub refused : (old new : Judge) (log : List Event) (e : Event) (end : StepEnd) →
    StandsFor old.monitor log → IsEvent e → old.monitor.last_time ≤ e.time →
    StepAnswers old.monitor new.monitor e (Err end) →
    Judges old new log e (Err (halt_of_step (old.events + 1) end))
refused old new log e (step_end.CodesFull x need) s own later a =
    (event_end.CodesFull x need, refl, (answered old.monitor new.monitor log e (Err (step_end.CodesFull x need)) s own later a).1)
refused old new log e (step_end.NodesFull k row) s own later a =
    (event_end.NodesFull k row, refl, (answered old.monitor new.monitor log e (Err (step_end.NodesFull k row)) s own later a).1)
refused old new log e step_end.NoMemory s own later a = tt

pub refused_written : (old new : Judge) (sent : Option Text) (held : Text) (event : ℕ) (end : StepEnd) → new.events ≡ old.events → new.violations ≡ old.violations →
    WritesEvent old new sent sent held held (Err (halt_of_step event end))
refused_written old new sent held event (step_end.CodesFull x need) events violations = (events, violations, refl, refl)
refused_written old new sent held event (step_end.NodesFull k row) events violations = (events, violations, refl, refl)
refused_written old new sent held event step_end.NoMemory events violations = (events, violations, refl, refl)

pub refused_cause : (rose : Type 0) (event : ℕ) (end : StepEnd) → HasCutCause rose (halt_of_step event end)
refused_cause rose event (step_end.CodesFull x need) = tt
refused_cause rose event (step_end.NodesFull k row) = tt
refused_cause rose event step_end.NoMemory = tt

pub refused_unread : (event : ℕ) (end : StepEnd) → HasReadCause ⊥ (halt_of_step event end)
refused_unread event (step_end.CodesFull x need) = (λ bad. let n : ⊥ = cc in n, λ bad. let n : ⊥ = cc in n)
refused_unread event (step_end.NodesFull k row) = (λ bad. let n : ⊥ = cc in n, λ bad. let n : ⊥ = cc in n)
refused_unread event step_end.NoMemory = tt
