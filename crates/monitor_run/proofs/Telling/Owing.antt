-- How a run went, told of its parts: where the words are a wrong use, the specification gave no judge, or the log was read.
use Rattle.std.proofs.Common.{◌≡◌, ℕ, ◌+◌, ◌*◌, ◌≤◌, ◌⊎◌, inl, inr, List, [], ◌∷◌, ◌++◌, length, refl, sym, ap, ◌∙◌, subst, append-nil, arith, Bool, IsTrue}
use Rattle.std.specs.Prelude.{⊤, Option, Some, None, IfSome}
use Rattle.std.specs.Io.KnownBytes.{Appends}
use Rattle.std.proofs.KnownBytes.{Appends-nil}
use Rattle.mon_base.specs.Causes.{Rose}
use Rattle.mon_base.specs.Told.{text_of}
use Rattle.qtl_syntax.specs.Tree.{Text, Item}
use Rattle.qtl_truth.specs.declared.event.Event.{Event}
use Rattle.wellformed.specs.declared.core_formula.Variable.{Variable}
use Rattle.report.specs.Lines.{report_lines}
use Rattle.report.specs.Verdicts.{Verdict, false_count}
use Rattle.run_model.specs.Accepted.{Accepts}
use Rattle.run_model.specs.Course.{end_of, stop_in, is_spec_fault}
use Rattle.run_model.specs.Job.{Job}
use Rattle.run_model.specs.Limits.{event_bound, variables_in}
use Rattle.run_model.specs.Lines.{text_of_run, stop_line, IsSentOf}
use Rattle.run_model.specs.Ran.{Costs, Reports, is_all}
use Rattle.run_model.specs.Stage.{Refuses, Stands, logs_in}
use Rattle.run_model.specs.Uses.{Use, TellUses, left_in, given, AreAsked}
use Rattle.run_model.specs.Verdicts.{properties, names}
use Rattle.run_model.specs.Went.{Moment, Asks, HasFileCause, HasWriteCause}
use Rattle.monitor_run.specs.Finishing.{Finishes, HasLastCause, Owes}
use Rattle.monitor_run.specs.Opening.{AreTold, AsksRefused, AsksTo, HasLogCause, HasSpecCause, LogHalted, SpecRefused, StandsTo}
use Rattle.monitor_run.specs.Reading.{HasCutCause, LinesPass}
use Rattle.monitor_run.specs.declared.judge.Judge.{Judge}
use Rattle.monitor_run.specs.declared.last.Finished.{Finished}
use Rattle.run_model.specs.declared.stop.Halt.{Halt}
use Rattle.run_model.specs.declared.stop.Halt.TheVariants as halt
use Rattle.run_model.specs.declared.stop.LogStop.{LogStop}
use Rattle.run_model.specs.declared.stop.SpecStop.{SpecStop}
use Rattle.run_model.specs.declared.stop.Stop.{Stop}
use Rattle.run_model.specs.declared.stop.Stop.TheVariants.{Misused, Spec, Log}
use Rattle.run_model.specs.declared.stop.Loss.TheVariants.{Cut, Starved}
use Rattle.run_model.specs.declared.stop.Course.{Course}
use Rattle.run_model.specs.declared.stop.Course.TheVariants.{Came, Lost}
use Rattle.monitor_run.proofs.Telling.Fronts as Fronts
use Rattle.monitor_run.proofs.Telling.Fronts.{Sends, last_at}
use Rattle.monitor_run.proofs.Telling.LogUse.{nothing_passed, nothing_right}
use Rattle.monitor_run.proofs.Telling.OneUse.{none_told}
use Rattle.run_model.proofs.Trace.{joined, left_append, tell_none}

-- How many events were judged and handed on, and how many verdicts were false; and the report of that, where texts are told
record Counted (job : Option Job) (t : Option (List (Text × Text))) (early logs : List Use) (course : Course) (count : ℕ) (before after : Moment) : Type 0 where
  events : ℕ
  violations : ℕ
  handed : ℕ
  ends : end_of count course ≡ end_of violations course
  report : IfSome t (λ texts. Reports job texts (record { early = early; logs = logs; course = course; events = events; violations = violations; handed = handed }) before after)

-- Before any event

costs_nothing : (job : Option Job) (items : List Item) (n : ℕ) → Costs job items 0 n n
costs_nothing None items n = refl
costs_nothing (Some job) items n = (λ none. refl, λ ample. go (event_bound job items)) where
  go : (x : ℕ) → n ≤ n + x * 0
  go x = omega arith

last_is : (all : Bool) (v : List Variable) (events violations : ℕ) (items : List Item) (rows : List (List Verdict)) (lines : Text) (stop : Option Stop) → v ≡ variables_in items → lines ≡ report_lines all 1 (names (properties items)) rows →
    lines ++ last_at (stop_line v events violations) stop ≡ text_of_run all items rows events violations stop
last_is all v events violations items rows lines None is same = ap (λ (l : Text). l ++ []) same
last_is all v events violations items rows lines (Some stop) is same =
    ap (λ (l : Text). l ++ stop_line v events violations stop) same ∙ ap (λ (x : List Variable). report_lines all 1 (names (properties items)) rows ++ stop_line x events violations stop) is

-- what a stop before the log leaves
module _ (job : Option Job) (texts : List (Text × Text)) (early : List Use) (course : Course) (before after : Moment) (items : List Item) (left : List Text) where
  early_report : Stands job texts items [] [] 0 course → left_in early ≡ Some left → (s : Sends course before.written after.written ([] ++ last_at (stop_line (variables_in items) 0 0) (stop_in course))) → after.steps ≡ before.steps →
      Reports job texts (record { early = early; logs = []; course = course; events = 0; violations = 0; handed = 0 }) before after
  early_report stands is s idle =
      record {
        items = items;
        judged = [];
        rows = [];
        stands = stands;
        right = nothing_right items;
        events = refl;
        violations = refl;
        left = left;
        left_is = ap left_in (append-nil early) ∙ is;
        sent = s.sent;
        written = s.written;
        whole = subst (λ (l : Text). IsSentOf course s.sent l) (last_is (is_all job) (variables_in items) 0 0 items [] [] (stop_in course) refl refl) s.whole;
        cost = subst (λ (n : ℕ). Costs job items 0 before.steps n) (sym idle) (costs_nothing job items before.steps);
      }

-- What the last step makes of a stop, or of a text that was lost on the way

module _ {S : Type 0} (part : S → Stop) (line : Stop → Text) (held : Text) (w0 w1 : Option Text) (P : Course → Type 0) where
  at_course : (stop : S) (course : Course) → P (Came (part stop)) → P (Lost Cut (Some (part stop))) → Finishes part line (halt.At stop) course held w0 w1 → P course
  at_course stop (Came came) p q (same, f) = subst (λ (s : Stop). P (Came s)) (sym same) p
  at_course stop (Lost Cut (Some came)) p q (same, f) = subst (λ (s : Stop). P (Lost Cut (Some s))) (sym same) q
  at_course stop (Lost Cut None) p q f = absurd f
  at_course stop (Lost Starved o) p q f = absurd f

  cut_course : (course : Course) → P (Lost Cut None) → Finishes part line (halt.Lost Cut) course held w0 w1 → P course
  cut_course (Lost Cut None) p f = p
  cut_course (Lost Cut (Some came)) p f = absurd f
  cut_course (Lost Starved o) p f = absurd f
  cut_course (Came came) p f = absurd f

  starved_course : (course : Course) → P (Lost Starved None) → Finishes part line (halt.Lost Starved) course held w0 w1 → P course
  starved_course (Lost Starved None) p f = p
  starved_course (Lost Starved (Some came)) p f = absurd f
  starved_course (Lost Cut o) p f = absurd f
  starved_course (Came came) p f = absurd f

-- A stop before the log, or a text that was lost there: what the run owes, from what it asked for and what the bytes say
early_owes : (job : Option Job) (uses : List Use) (before after : Moment) (finished : Finished) (course : Course) → finished ≡ record { course = course; violations = 0 } → Asks job course uses [] →
    AreTold before.texts uses before.opened after.opened before.hurt after.hurt before.unread after.unread → HasFileCause (stop_in course) (Rose before.file_faults after.file_faults) → HasWriteCause course (Rose before.out_faults after.out_faults) →
    IfSome before.texts (λ texts. (items : List Item) × Stands job texts items [] [] 0 course) → ((v : List Variable) → Sends course before.written after.written ([] ++ last_at (stop_line v 0 0) (stop_in course))) → after.steps ≡ before.steps →
    Owes job before after finished
early_owes job uses before after end course is asks told file write stands sends idle =
    subst (λ (e : Finished). Owes job before after e) (sym is) (record {
      went = record { early = uses; logs = []; course = course; events = 0; violations = 0; handed = 0 };
      ends = refl;
      asks = asks;
      told = subst (λ (us : List Use). TellUses us before.opened after.opened before.hurt after.hurt before.unread after.unread) (sym (append-nil uses)) told.told;
      file_cause = file;
      write_cause = write;
      report = report before.texts told.left stands;
    })
  where
    report : (t : Option (List (Text × Text))) → IfSome t (λ _. (left : List Text) × (left_in uses ≡ Some left)) → IfSome t (λ texts. (items : List Item) × Stands job texts items [] [] 0 course) →
        IfSome t (λ texts. Reports job texts (record { early = uses; logs = []; course = course; events = 0; violations = 0; handed = 0 }) before after)
    report None left s = tt
    report (Some texts) (left, left_is) (items, s) = early_report job texts uses course before after items left s left_is (sends (variables_in items)) idle

-- no file was used
tell_same : (t : Option (List (Text × Text))) (before after : Moment) → after.opened ≡ before.opened → after.hurt ≡ before.hurt → after.unread ≡ before.unread → AreTold t [] before.opened after.opened before.hurt after.hurt before.unread after.unread
tell_same t before after o h u = record { told = rw (o, h, u) (tell_none before.opened before.hurt before.unread); left = none_told t }

-- A wrong use

abbrev same_stop : Stop → Stop
same_stop s = s

-- what each course of it is
abbrev UseParts : (files out : Type 0) → Course → Type 0
UseParts files out c =
    Asks None c [] [] × HasFileCause (stop_in c) files × (HasLastCause out c → HasWriteCause c out) × ((v : List Variable) → last_at (stop_line [] 0 0) (stop_in c) ≡ last_at (stop_line v 0 0) (stop_in c))
    × ((t : Option (List (Text × Text))) → IfSome t (λ texts. (items : List Item) × Stands None texts items [] [] 0 c))

use_stands : (course : Course) → ((texts : List (Text × Text)) → Stands None texts [] [] [] 0 course) → (t : Option (List (Text × Text))) → IfSome t (λ texts. (items : List Item) × Stands None texts items [] [] 0 course)
use_stands course s None = tt
use_stands course s (Some texts) = ([], s texts)

pub use_owes : (job : Option Job) (before after : Moment) (course : Course) (held : Text) → job ≡ None → held ≡ [] → after.opened ≡ before.opened → after.hurt ≡ before.hurt → after.unread ≡ before.unread → after.steps ≡ before.steps →
    Finishes (λ (s : Stop). s) (stop_line [] 0 0) (halt.At Misused) course held before.written after.written → HasLastCause (Rose before.out_faults after.out_faults) course → (finished : Finished) → finished ≡ record { course = course; violations = 0 } →
    Owes job before after finished
use_owes job before after course held misused none o h u idle f cause end is =
    let files = Rose before.file_faults after.file_faults in
    let out = Rose before.out_faults after.out_faults in
    let (asks, file, write, line, stands) = at_course same_stop (stop_line [] 0 0) held before.written after.written (UseParts files out) Misused course
    ((refl, refl), (λ bad. let no : ⊥ = cc in absurd no), (λ x. tt), (λ v. refl), use_stands (Came Misused) (λ texts. (refl, refl)))
    ((refl, refl), (λ bad. let no : ⊥ = cc in absurd no), (λ x. x), (λ v. refl), use_stands (Lost Cut (Some Misused)) (λ texts. (refl, refl))) f in
    let sends = Fronts.finished same_stop (stop_line [] 0 0) (halt.At Misused) course before.written before.written after.written held [] (nothing_passed before.written held none) f in
    subst (λ (j : Option Job). Owes j before after end) (sym misused)
    (early_owes None [] before after end course is asks (tell_same before.texts before after o h u) file (write cause) (stands before.texts) (λ v. subst (λ (l : Text). Sends course before.written after.written l) (line v) sends) idle)

-- There was no memory for anything

starved_asks : (job : Option Job) → Asks job (Lost Starved None) [] []
starved_asks None = (refl, refl)
starved_asks (Some job) = inl (([], given job.spec ∷ [], refl, tt), refl)

starved_stands : (job : Option Job) (t : Option (List (Text × Text))) → IfSome t (λ texts. (items : List Item) × Stands job texts items [] [] 0 (Lost Starved None))
starved_stands job None = tt
starved_stands None (Some texts) = ([], (refl, refl))
starved_stands (Some job) (Some texts) = ([], inl (refl, (refl, refl)))

pub starved_owes : (job : Option Job) (before after : Moment) (finished : Finished) → finished ≡ record { course = Lost Starved None; violations = 0 } → after.opened ≡ before.opened → after.hurt ≡ before.hurt → after.unread ≡ before.unread →
    after.written ≡ before.written → after.steps ≡ before.steps → Owes job before after finished
starved_owes job before after end is o h u same idle =
    early_owes job [] before after end (Lost Starved None) is (starved_asks job) (tell_same before.texts before after o h u) tt tt (starved_stands job before.texts)
    (λ v. record { sent = []; written = subst (λ (w : Option Text). Appends before.written w []) (sym same) (Appends-nil before.written); whole = ([], refl) }) idle

-- The specification gave no judge

-- what its bytes say of that, with the items that it spells
abbrev SpecStands : List (Text × Text) → Text → List Item → Halt SpecStop → Type 0
SpecStands texts spec items (halt.At stop) = IsTrue (is_spec_fault stop) ⊎ Refuses (text_of texts spec) items stop
SpecStands texts spec items (halt.Lost loss) = ⊤

items_refused : (texts : List (Text × Text)) (spec : Text) (h : Halt SpecStop) → SpecRefused texts spec h → (items : List Item) × SpecStands texts spec items h
items_refused texts spec (halt.At stop) (inl fault) = ([], inl fault)
items_refused texts spec (halt.At stop) (inr (items, refused)) = (items, inr refused)
items_refused texts spec (halt.Lost loss) is = ([], tt)

module _ (job : Job) (before after : Moment) (uses : List Use) (h : Halt SpecStop) (course : Course) (held : Text) where
  abbrev spec_line : Stop → Text
  spec_line = stop_line [] 0 0

  -- what each course of it is
  abbrev SpecParts : (files out : Type 0) → Halt SpecStop → Course → Type 0
  SpecParts files out x c =
      Asks (Some job) c uses [] × HasFileCause (stop_in c) files × (HasLastCause out c → HasWriteCause c out) × ((v : List Variable) → last_at spec_line (stop_in c) ≡ last_at (stop_line v 0 0) (stop_in c))
      × ((texts : List (Text × Text)) (items : List Item) → SpecStands texts job.spec items x → Stands (Some job) texts items [] [] 0 c)

  spec_parts : (files out : Type 0) (x : Halt SpecStop) → AsksRefused job.spec x uses → HasSpecCause files x → held ≡ [] → Finishes Spec spec_line x course held before.written after.written →
      SpecParts files out x course × LinesPass x before.written before.written held []
  spec_parts files out (halt.At stop) a file none f = (
    at_course Spec spec_line held before.written after.written (SpecParts files out (halt.At stop)) stop course ((a, refl), file, (λ x. tt), (λ v. refl), λ texts items s. ((refl, refl), s)) ((a, refl), file, (λ x. x), (λ v. refl), λ texts items s. ((refl, refl), s)) f,
    nothing_passed before.written held none,
  )
  spec_parts files out (halt.Lost Cut) (is, a) file none f = let no : ⊥ = cc in absurd no
  spec_parts files out (halt.Lost Starved) (is, a) file none f = (
    starved_course Spec spec_line held before.written after.written (SpecParts files out (halt.Lost Starved)) course (inl (a, refl), tt, (λ x. tt), (λ v. refl), λ texts items s. inl (refl, (refl, refl))) f,
    nothing_passed before.written held none,
  )

  -- so it is told
  pub spec_owes : (finished : Finished) → AsksRefused job.spec h uses → AreTold before.texts uses before.opened after.opened before.hurt after.hurt before.unread after.unread →
      IfSome before.texts (λ texts. SpecRefused texts job.spec h) → HasSpecCause (Rose before.file_faults after.file_faults) h → held ≡ [] → after.steps ≡ before.steps → Finishes Spec spec_line h course held before.written after.written →
      HasLastCause (Rose before.out_faults after.out_faults) course → finished ≡ record { course = course; violations = 0 } → Owes (Some job) before after finished
  spec_owes finished a told refused file none idle f last is =
      let ((asks, file_cause, write, line, stands), passed) = spec_parts (Rose before.file_faults after.file_faults) (Rose before.out_faults after.out_faults) h a file none f in
      let sends = Fronts.finished Spec spec_line h course before.written before.written after.written held [] passed f in
      early_owes (Some job) uses before after finished course is asks told file_cause (write last) (by_items before.texts stands refused) (λ v. subst (λ (l : Text). Sends course before.written after.written l) (line v) sends) idle
    where
      by_items : (t : Option (List (Text × Text))) → ((texts : List (Text × Text)) (items : List Item) → SpecStands texts job.spec items h → Stands (Some job) texts items [] [] 0 course) → IfSome t (λ texts. SpecRefused texts job.spec h) →
          IfSome t (λ texts. (items : List Item) × Stands (Some job) texts items [] [] 0 course)
      by_items None s r = tt
      by_items (Some texts) s r = let (items, here) = items_refused texts job.spec h r in (items, s texts items here)

-- The log was read

module _ (job : Job) (early logs : List Use) (course : Course) (held : Text) (w0 w1 : Option Text) (line : Stop → Text) where
  -- what each course of it is
  abbrev LogParts : (files out last : Type 0) → Course → Type 0
  LogParts files out last c = Asks (Some job) c early logs × HasFileCause (stop_in c) files × (HasLastCause last c → (last → out) → HasWriteCause c out)

  log_parts : (files cut out last : Type 0) (h : Halt LogStop) → AreAsked (given job.spec ∷ []) early → AsksTo job.log h logs → HasLogCause files h → HasCutCause cut h → (cut → out) → Finishes Log line h course held w0 w1 → LogParts files out last course
  log_parts files cut out last (halt.At stop) e l file rose so f = at_course Log line held w0 w1 (LogParts files out last) stop course ((e, l), file, (λ x y. tt)) ((e, l), file, (λ x y. y x)) f
  log_parts files cut out last (halt.Lost Cut) e l file rose so f = cut_course Log line held w0 w1 (LogParts files out last) course ((e, l), tt, (λ x y. so rose)) f
  log_parts files cut out last (halt.Lost Starved) e l file rose so f = starved_course Log line held w0 w1 (LogParts files out last) course (inr (e, l), tt, (λ x y. tt)) f

  log_stands : (texts : List (Text × Text)) (items : List Item) (judged : List Event) (handed : ℕ) (h : Halt LogStop) → Accepts (text_of texts job.spec) items → StandsTo job items (logs_in job texts items) logs judged handed h →
      Finishes Log line h course held w0 w1 → Stands (Some job) texts items logs judged handed course
  log_stands texts items judged handed (halt.At stop) a s f = at_course Log line held w0 w1 (λ c. Stands (Some job) texts items logs judged handed c) stop course (a, s) (a, s) f
  log_stands texts items judged handed (halt.Lost Cut) a s f = cut_course Log line held w0 w1 (λ c. Stands (Some job) texts items logs judged handed c) course (a, s) f
  log_stands texts items judged handed (halt.Lost Starved) a s f = starved_course Log line held w0 w1 (λ c. Stands (Some job) texts items logs judged handed c) course (on_the_way s) f where
    on_the_way : StandsTo job items (logs_in job texts items) logs judged handed (halt.Lost Starved) → Stands (Some job) texts items logs judged handed (Lost Starved None)
    on_the_way (inl none) = inl none
    on_the_way (inr along) = inr (a, along)

-- the counts of a judge at a stop; on the way those of what was judged
module _ (job : Job) (early logs : List Use) (course : Course) (held : Text) (before after : Moment) (mid : Option Text) (j : Judge) (items : List Item) where
  abbrev log_line : Stop → Text
  log_line = stop_line j.monitor.plan.variables j.events j.violations

  module _ (texts : List (Text × Text)) (lefts : List Text) (left_is : left_in early ≡ Some lefts) (accepted : Accepts (text_of texts job.spec) items) (plan : j.monitor.plan.variables ≡ variables_in items) where
    log_report : (h : Halt LogStop) (events violations : ℕ) (steps : ℕ) (r : LogHalted job texts items logs before.written mid held j before.steps steps h) → steps ≡ after.steps → events ≡ length r.judged → violations ≡ false_count r.rows →
        ((s : Stop) → stop_in course ≡ Some s → log_line s ≡ stop_line j.monitor.plan.variables events violations s) → Finishes Log log_line h course held mid after.written →
        Reports (Some job) texts (record { early = early; logs = logs; course = course; events = events; violations = violations; handed = r.handed }) before after
    log_report h events violations steps r same_steps count false_ones same_line f =
        let sends = Fronts.finished Log log_line h course before.written mid after.written held (report_lines job.all 1 (names (properties items)) r.rows) r.lines f in
        record {
          items = items;
          judged = r.judged;
          rows = r.rows;
          stands = log_stands job early logs course held mid after.written log_line texts items r.judged r.handed h accepted r.stands f;
          right = r.right;
          events = count;
          violations = false_ones;
          left = lefts ++ r.left;
          left_is = left_append early logs ∙ ap (λ (o : Option (List Text)). joined o (left_in logs)) left_is ∙ ap (λ (o : Option (List Text)). joined (Some lefts) o) r.left_is;
          sent = sends.sent;
          written = sends.written;
          whole = subst (λ (l : Text). IsSentOf course sends.sent l) (text_is (stop_in course) same_line) sends.whole;
          cost = subst (λ (n : ℕ). Costs (Some job) items r.handed before.steps n) same_steps r.cost;
        }
      where
        text_is : (o : Option Stop) → ((s : Stop) → o ≡ Some s → log_line s ≡ stop_line j.monitor.plan.variables events violations s) →
            report_lines job.all 1 (names (properties items)) r.rows ++ last_at log_line o ≡ text_of_run job.all items r.rows events violations o
        text_is None same = refl
        text_is (Some s) same =
            ap (λ (l : Text). report_lines job.all 1 (names (properties items)) r.rows ++ l) (same s refl) ∙ last_is job.all j.monitor.plan.variables events violations items r.rows (report_lines job.all 1 (names (properties items)) r.rows) (Some s) plan refl

  log_counted : (t : Option (List (Text × Text))) (h : Halt LogStop) (steps : ℕ) → IfSome t (λ _. (left : List Text) × (left_in early ≡ Some left)) → IfSome t (λ texts. Accepts (text_of texts job.spec) items) → j.monitor.plan.variables ≡ variables_in items →
      IfSome t (λ texts. LogHalted job texts items logs before.written mid held j before.steps steps h) → steps ≡ after.steps → Finishes Log log_line h course held mid after.written → Counted (Some job) t early logs course j.violations before after
  log_counted None h steps left accepted plan r same f = record { events = 0; violations = j.violations; handed = 0; ends = refl; report = tt }
  log_counted (Some texts) (halt.At stop) steps (left, left_is) accepted plan r same f =
      record {
        events = j.events;
        violations = j.violations;
        handed = r.handed;
        ends = refl;
        report = log_report texts left left_is accepted plan (halt.At stop) j.events j.violations steps r same r.counted.0 r.counted.1 (λ s is. refl) f;
      }
  log_counted (Some texts) (halt.Lost Cut) steps (left, left_is) accepted plan r same f =
      record {
        events = length r.judged;
        violations = false_count r.rows;
        handed = r.handed;
        ends = cut_course Log log_line held mid after.written (λ c. end_of j.violations c ≡ end_of (false_count r.rows) c) course refl f;
        report = log_report texts left left_is accepted plan (halt.Lost Cut) (length r.judged) (false_count r.rows) steps r same refl refl
            (cut_course Log log_line held mid after.written (λ c. (s : Stop) → stop_in c ≡ Some s → log_line s ≡ stop_line j.monitor.plan.variables (length r.judged) (false_count r.rows) s) course (λ s is. let no : ⊥ = cc in absurd no) f) f;
      }
  log_counted (Some texts) (halt.Lost Starved) steps (left, left_is) accepted plan r same f =
      record {
        events = length r.judged;
        violations = false_count r.rows;
        handed = r.handed;
        ends = starved_course Log log_line held mid after.written (λ c. end_of j.violations c ≡ end_of (false_count r.rows) c) course refl f;
        report = log_report texts left left_is accepted plan (halt.Lost Starved) (length r.judged) (false_count r.rows) steps r same refl refl
            (starved_course Log log_line held mid after.written (λ c. (s : Stop) → stop_in c ≡ Some s → log_line s ≡ stop_line j.monitor.plan.variables (length r.judged) (false_count r.rows) s) course (λ s is. let no : ⊥ = cc in absurd no) f) f;
      }

  -- so it is told
  pub log_owes : (h : Halt LogStop) (steps : ℕ) (cut_rose file_rose last_rose : Type 0) (finished : Finished) → AreAsked (given job.spec ∷ []) early → IfSome before.texts (λ _. (left : List Text) × (left_in early ≡ Some left)) →
      IfSome before.texts (λ texts. Accepts (text_of texts job.spec) items) → j.monitor.plan.variables ≡ variables_in items → AsksTo job.log h logs →
      IfSome before.texts (λ texts. LogHalted job texts items logs before.written mid held j before.steps steps h) → steps ≡ after.steps →
      TellUses (early ++ logs) before.opened after.opened before.hurt after.hurt before.unread after.unread → HasLogCause file_rose h → (file_rose → Rose before.file_faults after.file_faults) →
      HasCutCause cut_rose h → (cut_rose → Rose before.out_faults after.out_faults) → HasLastCause last_rose course → (last_rose → Rose before.out_faults after.out_faults) → Finishes Log log_line h course held mid after.written →
      finished ≡ record { course = course; violations = j.violations } → Owes (Some job) before after finished
  log_owes h steps cut_rose file_rose last_rose finished asked left accepted plan l r same told file file_so cut cut_so last last_so f is =
      let n = log_counted before.texts h steps left accepted plan r same f in
      let (asks, file_cause, write) = log_parts job early logs course held mid after.written log_line file_rose cut_rose (Rose before.out_faults after.out_faults) last_rose h asked l file cut cut_so f in
      subst (λ (x : Finished). Owes (Some job) before after x) (sym is) (record {
        went = record { early = early; logs = logs; course = course; events = n.events; violations = n.violations; handed = n.handed };
        ends = n.ends;
        asks = asks;
        told = told;
        file_cause = later (stop_in course) file_cause;
        write_cause = write last last_so;
        report = n.report;
      })
    where
      later : (o : Option Stop) → HasFileCause o file_rose → HasFileCause o (Rose before.file_faults after.file_faults)
      later None c = tt
      later (Some s) c = λ fault. file_so (c fault)
