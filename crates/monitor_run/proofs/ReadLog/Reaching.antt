-- How what the code keeps of a log, its reader and its monitor leads to the walk.
use Rattle.std.proofs.Common.{◌≡◌, ◌≢◌, ℕ, ◌+◌, ◌≤◌, inl, inr, List, [], ◌∷◌, ◌++◌, length, refl, sym, ap, ◌∙◌, subst, append_assoc, Bool}
use Rattle.std.specs.Prelude.{Some}
use Rattle.qtl_syntax.specs.Tree.{Text, Item}
use Rattle.qtl_truth.specs.declared.event.Event.{Event}
use Rattle.log_reader.specs.Records.{Cut, At, cut}
use Rattle.log_reader.specs.Faults as log_fault
use Rattle.log_reader.specs.Standing.{Reading, numbered}
use Rattle.log_reader.specs.declared.fault.LogFault.{LogFault}
use Rattle.monitor_model.specs.Ends as event_end
use Rattle.monitor_run.specs.Reading.{Fed, AreAll}
use Rattle.run_model.specs.Job.{Job}
use Rattle.run_model.specs.Stage.{LogsTake, Walked, IsWalking, comes_in, form_of, said_in, whole_in, handed_by}
use Rattle.run_model.specs.Uses.{Use}
use Rattle.run_model.specs.Walk.{Form, Input, Close, Taken, Takes, Comes, AllFit, Walks, HasWalked, is_ended, stop_of_close, or_fault, known, stop_at}
use Rattle.run_model.specs.declared.stop.LogStop.{LogStop}
use Rattle.run_model.specs.declared.stop.LogStop.TheVariants.{Unopened, Unread, Whole, Fault, Long, CodesFull, NodesFull}
use Rattle.run_model.proofs.Growing.{walk_whole}

-- a log read with times or without, of which these bytes were taken
abbrev form : Bool → Form
form timed = record { timed = timed }

abbrev taken_as : Text → Close → Taken
taken_as given close = record { given = given; close = close }

module _ (comes : Comes) (limit : ℕ) (timed : Bool) (given : Text) (close : Close) (log : List Event) (fits : AllFit comes log) where
  -- the events that the reader gave were judged
  pub walked_so_far : (r : Reading) → Fed timed given (is_ended close) log r → HasWalked comes (known (form timed) limit (taken_as given close)) log
  walked_so_far r f = record { fits = fits; later = f.later; split = f.first }

  -- the reader has no further event: the walk stops as the bytes do
  pub walked_all : AreAll timed given (is_ended close) log → Walks comes (known (form timed) limit (taken_as given close)) log (stop_of_close limit close)
  walked_all all =
      record {
        fits = fits;
        stops = inl (ap (λ (c : Cut). c.events) (sym all), ap (λ (c : Cut). or_fault (stop_of_close limit close) c.end) (sym all));
      }

  -- it has a fault
  pub walked_faulty : (fault : LogFault) (number : ℕ) (why : log_fault.Fault) → fault ≡ numbered number why → cut given timed (is_ended close) ≡ record { events = log; end = At number why } →
      Walks comes (known (form timed) limit (taken_as given close)) log (Fault fault)
  walked_faulty fault number why is faulty =
      record {
        fits = fits;
        stops = inl (ap (λ (c : Cut). c.events) (sym faulty), ap Fault is ∙ ap (λ (c : Cut). or_fault (stop_of_close limit close) c.end) (sym faulty));
      }

  -- it gave an event that can't be judged
  pub walked_full : (r : Reading) (e : Event) (why : event_end.End) → Fed timed given (is_ended close) (log ++ e ∷ []) r → comes log e (Some why) →
      Walks comes (known (form timed) limit (taken_as given close)) log (stop_at (length log + 1) why)
  walked_full r e why f there =
      record {
        fits = fits;
        stops = inr (record { event = e; later = f.later; why = why; split = f.first ∙ append_assoc log (e ∷ []) f.later; comes_there = there; told = refl });
      }

-- A run that read its log

module _ (job : Job) (items : List Item) (all left : Text) (logs : List Use) (taken : Taken) (judged : List Event) (t : Takes job.limit all left taken) (took : LogsTake job (all ∷ []) logs (taken ∷ [])) where
  -- on its way
  pub is_walking : (handed : ℕ) → handed ≤ length judged + 1 → handed ≤ length (known (form_of job items) job.limit taken).events → HasWalked (comes_in job items) (known (form_of job items) job.limit taken) judged →
      IsWalking job items (all ∷ []) logs judged handed
  is_walking handed few within w = record { taken = taken ∷ []; takes = took; walked = w; few = few; within = within }

  -- at a stop: what was taken decides it, or its read failed
  at_whole : (stop : LogStop) → stop ≢ Unread → Walks (comes_in job items) (known (form_of job items) job.limit taken) judged stop →
      Walked job items (all ∷ []) logs judged (handed_by stop (length judged)) stop
  at_whole stop other w =
      let whole : Walks (comes_in job items) (whole_in job items (all ∷ [])) judged stop = walk_whole (comes_in job items) (form_of job items) job.limit all left taken judged stop t other w in
      record { taken = taken ∷ []; takes = took; walks = subst (λ (i : Input). Walks (comes_in job items) i judged stop) (sym (said_whole stop other)) whole; handed_is = refl }
    where
      said_whole : (stop : LogStop) → stop ≢ Unread → said_in job items (taken ∷ []) (all ∷ []) stop ≡ whole_in job items (all ∷ [])
      said_whole Unread other = absurd (other refl)
      said_whole Unopened other = refl
      said_whole Whole other = refl
      said_whole (Fault fault) other = refl
      said_whole (Long most) other = refl
      said_whole (CodesFull event x need) other = refl
      said_whole (NodesFull event k row) other = refl

  pub walked : (stop : LogStop) → Walks (comes_in job items) (known (form_of job items) job.limit taken) judged stop →
      Walked job items (all ∷ []) logs judged (handed_by stop (length judged)) stop
  walked Unread w = record { taken = taken ∷ []; takes = took; walks = w; handed_is = refl }
  walked Unopened w = at_whole Unopened (λ e. let n : ⊥ = cc in n) w
  walked Whole w = at_whole Whole (λ e. let n : ⊥ = cc in n) w
  walked (Fault fault) w = at_whole (Fault fault) (λ e. let n : ⊥ = cc in n) w
  walked (Long most) w = at_whole (Long most) (λ e. let n : ⊥ = cc in n) w
  walked (CodesFull event x need) w = at_whole (CodesFull event x need) (λ e. let n : ⊥ = cc in n) w
  walked (NodesFull event k row) w = at_whole (NodesFull event k row) (λ e. let n : ⊥ = cc in n) w
