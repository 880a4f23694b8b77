-- A log with one event more: its front is a log, and its last event is that one.
use Rattle.std.proofs.Common.{◌≡◌, ℕ, zero, suc, ◌+◌, ◌-◌, ◌≤◌, refl, sym, ap, ◌∙◌, subst, arith, List, [], ◌∷◌, ◌++◌, length, length-append, Some}
use Rattle.std.specs.Prelude.{slice_get}
use Rattle.std.specs.List.{AllByRecursion}
use Rattle.qtl_truth.specs.Laws.{SameTo}
use Rattle.qtl_truth.specs.Truth.{IsLog, IsEvent, time_at, time_of}
use Rattle.qtl_truth.specs.declared.event.Event.{Event}
use Rattle.qtl_truth.proofs.Past.{same_to_append}
use Rattle.monitor_model.specs.Ends.{time_since}

front_events : (log more : List Event) → AllByRecursion IsEvent (log ++ more) →
    AllByRecursion IsEvent log
front_events [] more h = tt
front_events (d ∷ log) more h = (h.0, front_events log more h.1)

-- the events before the last one of a log are a log
pub front_log : (log : List Event) (e : Event) → IsLog (log ++ e ∷ []) → IsLog log
front_log log e h = record {
  events = front_events log (e ∷ []) h.events;
  times = λ i j p q r.
      let same = same_to_append log (e ∷ []) in
      let n = length-append log (e ∷ []) in
      let later : time_at log i ≡ time_at (log ++ e ∷ []) i =
      ap time_of (same.events i (omega arith) r) in
      let earlier : time_at log j ≡ time_at (log ++ e ∷ []) j =
      ap time_of (same.events j p (omega arith)) in
      let t = h.times i j p q (omega (arith, n)) in
      subst (λ (x : ℕ). x ≤ time_at log i) (sym earlier)
      (subst (λ (x : ℕ). time_at (log ++ e ∷ []) j ≤ x) (sym later) t);
}

-- the event that comes last
pub last_event : (log : List Event) (e : Event) →
    slice_get (log ++ e ∷ []) (length log) ≡ Some e
last_event [] e = refl
last_event (d ∷ log) e = last_event log e

pub longer_length : (log : List Event) (e : Event) → length (log ++ e ∷ []) ≡ length log + 1
longer_length log e = length-append log (e ∷ [])

-- its time
pub last_time : (log : List Event) (e : Event) →
    e.time ≡ time_at (log ++ e ∷ []) (length (log ++ e ∷ []))
last_time log e =
    let n = longer_length log e in
    let f : length log ≡ length (log ++ e ∷ []) - 1 = omega (arith, n) in
    sym (ap time_of (last_event log e))
    ∙ ap (λ (j : ℕ). time_of (slice_get (log ++ e ∷ []) j)) f

-- the time since the event before rests on the events before
pub same_since : (log log' : List Event) (i : ℕ) (e : Event) → SameTo i log log' →
    time_since i (time_at log i) e ≡ time_since i (time_at log' i) e
same_since log log' zero e same = refl
same_since log log' (suc i) e same =
    ap (λ (t : ℕ). e.time - t) (ap time_of (same.events (suc i) (omega arith) (omega arith)))
