-- How the reading of a log goes on: its bytes, the judge and the output, each by itself, and then together.
use Rattle.std.proofs.Common.{◌≡◌, ℕ, ◌+◌, ◌≤◌, ◌⊎◌, inl, inr, List, [], ◌∷◌, ◌++◌, length, length-append, refl, sym, ap, ◌∙◌, subst, append_assoc, append-nil, arith, Bool, true, false}
use Rattle.std.specs.Prelude.{Option, Some, None, Ok}
use Rattle.std.specs.Io.KnownBytes.{Appends, Consumes, IsAtEnd}
use Rattle.qtl_syntax.specs.Tree.{Text, Item}
use Rattle.qtl_truth.specs.declared.event.Event.{Event}
use Rattle.monitor_model.specs.Ends as event_end
use Rattle.monitor_model.specs.Setting.{Setting}
use Rattle.monitor_model.specs.State.{State, setting_of}
use Rattle.log_reader.specs.Standing.{Reading, Stands, with_rest, fresh_reading}
use Rattle.report.specs.Lines.{event_lines, report_lines}
use Rattle.report.specs.Passing.{Passes}
use Rattle.report.specs.Verdicts.{Verdict, false_in}
use Rattle.report.proofs.Passages.{passes_trans, passes_flushed, passes_none}
use Rattle.run_model.specs.Limits.{ComesAt, plan_in, setting_in}
use Rattle.run_model.specs.Verdicts.{properties, names, is_timed, IsRow, AreVerdicts}
use Rattle.run_model.specs.Walk.{AllFit, Takes}
use Rattle.monitor_run.specs.Judging.{ComesTo, WritesEvent, last_lines}
use Rattle.monitor_run.specs.Reading.{Fed, IsTaken, Reads, ReadsAll, AreAll, taken_as}
use Rattle.monitor_run.specs.Standing.{IsPlanOf, HasSizes, StandsFor, HasJudged, KeepsPlan, has_times, names_in, row_of}
use Rattle.monitor_run.specs.declared.judge.Judge.{Judge}
use Rattle.run_model.specs.Job.{Job}
use Rattle.monitor_run.proofs.Accepting.Specifications.{plan_times}
use Rattle.monitor_run.proofs.Judged.Rows.{plan_names, row_right, verdicts_more, lines_more, false_more}
use Rattle.monitor_run.proofs.ReadLog.Given.{fed_piece, fed_end, fed_start}

-- The bytes

consumed : (rest given : Text) (left : Option Text) → Consumes (Some rest) left given → (more : Text) × (left ≡ Some more) × (rest ≡ given ++ more)
consumed rest given (Some more) h = (more, refl, h)
consumed rest given None h = absurd h

pub taken : (left left' : Option Text) (rest given : Text) → left ≡ Some rest → Consumes left left' given → (more : Text) × (left' ≡ Some more) × (rest ≡ given ++ more)
taken left left' rest given is h = consumed rest given left' (subst (λ (l : Option Text). Consumes l left' given) is h)

module _ (limit : ℕ) (timed : Bool) (all : Text) where
  -- the reader gave other events
  pub taken_with : (left : Option Text) (given : Text) (ended : Bool) (log more : List Event) (r t : Reading) → IsTaken limit timed all left given ended log r → Fed timed given ended more t →
      IsTaken limit timed all left given ended more t
  taken_with left given ended log more r t b fed = record { rest = b.rest; remains = b.remains; takes = b.takes; fed = fed }

  -- a piece more was taken
  pub takes_piece : (rest given piece more : Text) → Takes limit all rest (taken_as given false) → rest ≡ piece ++ more → length given + length piece ≤ limit → Takes limit all more (taken_as (given ++ piece) false)
  takes_piece rest given piece more t split short =
      record {
        few = let n = length-append given piece in omega (arith, n, short);
        of_log = t.of_log ∙ ap (λ (l : Text). given ++ l) split ∙ sym (append_assoc given piece more);
      }

  pub taken_piece : (left left' : Option Text) (given piece : Text) (log : List Event) (r t : Reading) → IsTaken limit timed all left given false log r → Consumes left left' piece → length given + length piece ≤ limit →
      t ≡ with_rest r (r.rest ++ piece) → ((bytes : Text) → Stands bytes r → Stands (bytes ++ piece) t) → IsTaken limit timed all left' (given ++ piece) false log t
  taken_piece left left' given piece log r t b consumes short is stands =
      let k = taken left left' b.rest piece b.remains consumes in
      record { rest = k.0; remains = k.1; takes = takes_piece b.rest given piece k.0 b.takes k.2 short; fed = fed_piece timed given piece log r t b.fed is (stands given b.fed.stands) }

  -- a read gave none
  pub taken_same : (left left' : Option Text) (given : Text) (log : List Event) (r : Reading) → IsTaken limit timed all left given false log r → Consumes left left' [] → IsTaken limit timed all left' given false log r
  taken_same left left' given log r b consumes =
      let k = taken left left' b.rest [] b.remains consumes in
      record { rest = k.0; remains = k.1; takes = subst (λ (l : Text). Takes limit all l (taken_as given false)) k.2 b.takes; fed = b.fed }

  -- there are no more
  pub taken_end : (left : Option Text) (given : Text) (log : List Event) (r t : Reading) → IsTaken limit timed all left given false log r → IsAtEnd left → t.timed ≡ r.timed → t.ended ≡ true → t.given ≡ r.given →
      ((bytes : Text) → Stands bytes r → Stands bytes t) → IsTaken limit timed all left given true log t
  taken_end left given log r t b end same closed count stands =
      let none : b.rest ≡ [] = subst IsAtEnd b.remains end in
      record {
        rest = b.rest;
        remains = b.remains;
        takes = record { few = b.takes.few; of_log = (b.takes.of_log ∙ ap (λ (l : Text). given ++ l) none ∙ append-nil given, none) };
        fed = fed_end timed given log r t b.fed (stands given b.fed.stands) same closed count;
      }

-- The judge

-- an event is the last one, or stands among those before it
behind_none : (before later : List Event) (x : Event) → [] ≡ before ++ x ∷ later → ⊥
behind_none [] later x is = cc
behind_none (b ∷ before) later x is = cc

placed : (log before later : List Event) (e x : Event) → log ++ e ∷ [] ≡ before ++ x ∷ later → ((before ≡ log) × (x ≡ e)) ⊎ ((rest : List Event) × (log ≡ before ++ x ∷ rest))
placed [] [] later e x is = inl (refl, let one : x ≡ e = cc in one)
placed [] (b ∷ before) later e x is = let none : [] ≡ before ++ x ∷ later = cc in absurd (behind_none before later x none)
placed (l ∷ log) [] later e x is = inr (log, let one : l ≡ x = cc in ap (λ (y : Event). y ∷ log) one)
placed (l ∷ log) (b ∷ before) later e x is =
    let one : l ≡ b = cc in
    let rest : log ++ e ∷ [] ≡ before ++ x ∷ later = cc in
    go one (placed log before later e x rest) where
      go : l ≡ b → ((before ≡ log) × (x ≡ e)) ⊎ ((rest : List Event) × (log ≡ before ++ x ∷ rest)) → ((b ∷ before ≡ l ∷ log) × (x ≡ e)) ⊎ ((rest : List Event) × (l ∷ log ≡ (b ∷ before) ++ x ∷ rest))
      go one (inl h) = inl (let same = h.0 in cc, h.1)
      go one (inr h) = inr (h.0, let same = h.1 in cc)

-- codes and nodes suffice at one event more
pub fits_more : (job : Job) (items : List Item) (log : List Event) (e : Event) → AllFit (ComesAt job items) log → ComesAt job items log e None → AllFit (ComesAt job items) (log ++ e ∷ [])
fits_more job items log e fits comes before later x is = go (placed log before later e x is) where
  go : ((before ≡ log) × (x ≡ e)) ⊎ ((rest : List Event) × (log ≡ before ++ x ∷ rest)) → ComesAt job items before x None
  go (inl h) = subst (λ (l : List Event). ComesAt job items l x None) (sym h.0) (subst (λ (y : Event). ComesAt job items log y None) (sym h.1) comes)
  go (inr h) = fits before h.0 x h.1

-- what comes at an event, told by the plan and the sizes of the monitor, is what comes within the limits
same_setting : (job : Job) (items : List Item) (m : State) → IsPlanOf items m.plan →
    HasSizes job m → setting_of m ≡ setting_in job items
same_setting job items m plan sizes =
    let bits = sizes.bits in
    let nodes = sizes.nodes in
    let variables = ap length plan.variables in
    let subs = plan.subs in
    cc

pub comes_at : (job : Job) (items : List Item) (m : State) (log : List Event) (e : Event) (end : Option event_end.End) → IsPlanOf items m.plan → HasSizes job m →
    ComesTo m log e end → ComesAt job items log e end
comes_at job items m log e end plan sizes h =
    subst (λ (s : Setting). event_end.IsEnd s log (length log) e end) (same_setting job items m plan sizes) h

-- plan and sizes of the next judge
pub next_plan : (items : List Item) (j k : Judge) → KeepsPlan j k → IsPlanOf items j.monitor.plan → IsPlanOf items k.monitor.plan
next_plan items j k same plan = subst (λ p. IsPlanOf items p) (sym same.plan) plan

next_sizes : (job : Job) (j k : Judge) → KeepsPlan j k → HasSizes job j.monitor → HasSizes job k.monitor
next_sizes job j k same sizes = record { bits = same.bits ∙ sizes.bits; nodes = same.room ∙ sizes.nodes; cache = same.entries ∙ sizes.cache }

-- the row of the event that came last
next_row : (items : List Item) (log : List Event) (k : Judge) (e : Event) → IsPlanOf items k.monitor.plan → StandsFor k.monitor (log ++ e ∷ []) →
    IsRow (plan_in items) (log ++ e ∷ []) (length log + 1) (properties items) (plan_in items).props (row_of k.monitor)
next_row items log k e plan stands =
    let n : length (log ++ e ∷ []) ≡ length log + 1 = let m = length-append log (e ∷ []) in omega (arith, m) in
    subst (λ (i : ℕ). IsRow (plan_in items) (log ++ e ∷ []) i (properties items) (plan_in items).props (row_of k.monitor)) n (row_right items k.monitor (log ++ e ∷ []) plan stands (omega (arith, n)))

module _ (job : Job) (items : List Item) (log : List Event) (rows : List (List Verdict)) (j k : Judge) (e : Event) (s : HasJudged job items log rows j) (same : KeepsPlan j k) where
  -- the verdicts of one event more
  pub rights_more : StandsFor k.monitor (log ++ e ∷ []) → AreVerdicts (log ++ e ∷ []) items (rows ++ row_of k.monitor ∷ [])
  rights_more stands = verdicts_more log e items rows (row_of k.monitor) s.right (next_row items log k e (next_plan items j k same s.plan) stands)

  -- at which codes and nodes sufficed
  pub judged_fits : ComesTo j.monitor log e None → AllFit (ComesAt job items) (log ++ e ∷ [])
  judged_fits comes = fits_more job items log e s.fits (comes_at job items j.monitor log e None s.plan s.sizes comes)

  -- and what is written of it
  pub lines_next : k.events ≡ j.events + 1 → report_lines job.all 1 (names (properties items)) (rows ++ row_of k.monitor ∷ []) ≡ report_lines job.all 1 (names (properties items)) rows ++ last_lines k
  lines_next events =
      let ns = names (properties items) in
      let number : 1 + length rows ≡ k.events = let c = s.right.count in omega (arith, events, s.events, c) in
      lines_more job.all 1 ns rows (row_of k.monitor)
      ∙ ap (λ (n : ℕ). report_lines job.all 1 ns rows ++ event_lines job.all n ns (row_of k.monitor)) number
      ∙ ap (λ (l : List Text). report_lines job.all 1 ns rows ++ event_lines job.all k.events l (row_of k.monitor)) (sym (plan_names items k.monitor (next_plan items j k same s.plan)))
      ∙ ap (λ (all : Bool). report_lines job.all 1 ns rows ++ event_lines all k.events (names_in k.monitor) (row_of k.monitor)) (sym (same.shows ∙ s.shows))

  -- one event more was judged
  pub judged_more : ComesTo j.monitor log e None × StandsFor k.monitor (log ++ e ∷ []) → k.events ≡ j.events + 1 → k.violations ≡ j.violations + false_in (row_of k.monitor) →
      HasJudged job items (log ++ e ∷ []) (rows ++ row_of k.monitor ∷ []) k
  judged_more (comes, stands) events violations =
      record {
        plan = next_plan items j k same s.plan;
        sizes = next_sizes job j k same s.sizes;
        shows = same.shows ∙ s.shows;
        stands = stands;
        fits = judged_fits comes;
        right = rights_more stands;
        events = let n = length-append log (e ∷ []) in omega (arith, n, events, s.events);
        violations = violations ∙ ap (λ (n : ℕ). n + false_in (row_of k.monitor)) s.violations ∙ sym (false_more rows (row_of k.monitor));
      }

-- The output

-- what was held back is written
pub flushed : (sent w1 w2 : Option Text) (held held' lines : Text) → Passes sent w1 [] held lines → Appends w1 w2 held → held' ≡ [] → Passes sent w2 [] held' lines
flushed sent w1 w2 held held' lines p h none =
    subst (λ (l : Text). Passes sent w2 [] l lines) (sym none) (subst (λ (l : Text). Passes sent w2 [] [] l) (append-nil lines)
    (passes_trans sent w1 w2 [] held [] lines [] p (passes_flushed w1 w2 held [] h)))

-- All three

module _ (job : Job) (items : List Item) (all : Text) where
  -- one event more was judged
  pub reads_event : (left sent w1 w2 : Option Text) (given : Text) (ended : Bool) (j k : Judge) (r t : Reading) (held held' : Text) (e : Event) → (w : Reads job items all left sent w1 given ended j r held) →
      Fed (is_timed items) given ended (w.log ++ e ∷ []) t → KeepsPlan j k → ComesTo j.monitor w.log e None × StandsFor k.monitor (w.log ++ e ∷ []) → WritesEvent j k w1 w2 held held' (Ok tt) →
      Reads job items all left sent w2 given ended k t held'
  reads_event left sent w1 w2 given ended j k r t held held' e w fed same judged (events, violations, passed) =
      let lines = report_lines job.all 1 (names (properties items)) w.rows in
      record {
        log = w.log ++ e ∷ [];
        rows = w.rows ++ row_of k.monitor ∷ [];
        bytes = taken_with job.limit (is_timed items) all left given ended w.log (w.log ++ e ∷ []) r t w.bytes fed;
        judged = judged_more job items w.log w.rows j k e w.judged same judged events violations;
        lines = subst (λ (l : Text). Passes sent w2 [] held' l) (sym (lines_next job items w.log w.rows j k e w.judged same events))
            (passes_trans sent w1 w2 [] held held' lines (last_lines k) w.lines passed);
      }

  -- the bytes have no further one
  pub reads_all : (left sent w1 : Option Text) (given : Text) (ended : Bool) (j : Judge) (r t : Reading) (held : Text) → (w : Reads job items all left sent w1 given ended j r held) →
      Fed (is_timed items) given ended w.log t → AreAll (is_timed items) given ended w.log → ReadsAll job items all left sent w1 given ended j t held
  reads_all left sent w1 given ended j r t held w fed done =
      record {
        reads = record { log = w.log; rows = w.rows; bytes = taken_with job.limit (is_timed items) all left given ended w.log w.log r t w.bytes fed; judged = w.judged; lines = w.lines };
        done = done;
      }

  -- what was held back is written, and a piece is taken and fed to the reader
  pub reads_piece : (left left' sent w1 w2 : Option Text) (given piece : Text) (j : Judge) (r t : Reading) (held held' : Text) → ReadsAll job items all left sent w1 given false j r held →
      Consumes left left' piece → Appends w1 w2 held → held' ≡ [] → length given + length piece ≤ job.limit → t ≡ with_rest r (r.rest ++ piece) → ((bytes : Text) → Stands bytes r → Stands (bytes ++ piece) t) →
      Reads job items all left' sent w2 (given ++ piece) false j t held'
  reads_piece left left' sent w1 w2 given piece j r t held held' a consumes sends none short is stands =
      let w = a.reads in
      record {
        log = w.log;
        rows = w.rows;
        bytes = taken_piece job.limit (is_timed items) all left left' given piece w.log r t w.bytes consumes short is stands;
        judged = w.judged;
        lines = flushed sent w1 w2 held held' (report_lines job.all 1 (names (properties items)) w.rows) w.lines sends none;
      }

  -- the log has no more bytes
  pub reads_end : (left sent w1 : Option Text) (given : Text) (j : Judge) (r t : Reading) (held : Text) → ReadsAll job items all left sent w1 given false j r held → IsAtEnd left → t.timed ≡ r.timed → t.ended ≡ true → t.given ≡ r.given →
      ((bytes : Text) → Stands bytes r → Stands bytes t) → Reads job items all left sent w1 given true j t held
  reads_end left sent w1 given j r t held a end timed closed same stands =
      let w = a.reads in
      record { log = w.log; rows = w.rows; bytes = taken_end job.limit (is_timed items) all left given w.log r t w.bytes end timed closed same stands; judged = w.judged; lines = w.lines }

  -- what was held back is written, and no more bytes came
  pub reads_same : (left left' sent w1 w2 : Option Text) (given : Text) (j : Judge) (r : Reading) (held held' : Text) → ReadsAll job items all left sent w1 given false j r held →
      Consumes left left' [] → Appends w1 w2 held → held' ≡ [] → ReadsAll job items all left' sent w2 given false j r held'
  reads_same left left' sent w1 w2 given j r held held' a consumes sends none =
      let w = a.reads in
      record {
        reads = record {
          log = w.log;
          rows = w.rows;
          bytes = taken_same job.limit (is_timed items) all left left' given w.log r w.bytes consumes;
          judged = w.judged;
          lines = flushed sent w1 w2 held held' (report_lines job.all 1 (names (properties items)) w.rows) w.lines sends none;
        };
        done = a.done;
      }

  -- nothing was read yet
  pub reads_start : (left sent : Option Text) (j : Judge) (r : Reading) (held : Text) → HasJudged job items [] [] j → left ≡ Some all → r ≡ fresh_reading (has_times j.monitor.plan) → Stands [] r → held ≡ [] →
      ReadsAll job items all left sent sent [] false j r held
  reads_start left sent j r held s is fresh stands none =
      record {
        reads = record {
          log = [];
          rows = [];
          bytes = record {
            rest = all;
            remains = is;
            takes = record { few = omega arith; of_log = refl };
            fed = fed_start (is_timed items) r (fresh ∙ ap fresh_reading (plan_times items j.monitor.plan s.plan.subs)) stands;
          };
          judged = s;
          lines = subst (λ (l : Text). Passes sent sent [] l []) (sym none) (passes_none sent []);
        };
        done = refl;
      }
