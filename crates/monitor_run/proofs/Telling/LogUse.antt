-- The use of the log's file, and what the reading of it leads to.
use Rattle.std.proofs.Common.{◌≡◌, ℕ, ◌+◌, ◌*◌, ◌≤◌, ◌⊎◌, inl, inr, List, [], ◌∷◌, length, refl, sym, ap, subst, arith, Bool, true, false, ◌^◌, ◌∙◌}
use Rattle.std.specs.Prelude.{◌≢◌, Option, Some, None, IfSome, IsSomeAnd}
use Rattle.bdd_ops.specs.Shelf.{IsLarge}
use Rattle.mon_base.specs.Told.{text_of, GivesText}
use Rattle.qtl_syntax.specs.Tree.{Text, Item}
use Rattle.qtl_truth.specs.declared.event.Event.{Event}
use Rattle.log_reader.specs.Records.{End, Rest, At as FaultAt}
use Rattle.monitor_model.specs.Ends as event_end
use Rattle.report.specs.Passing.{Passes}
use Rattle.report.proofs.Passages.{passes_none}
use Rattle.run_model.specs.Job.{Job}
use Rattle.run_model.specs.Limits.{ComesAt, event_bound, IsAmple, judging_bound, table_in, witness_bound}
use Rattle.report.specs.Witness.{chain}
use Rattle.subformulas.specs.Unfolded.{formula_at}
use Rattle.subformulas.specs.declared.table.PlanProp.{PlanProp}
use Rattle.run_model.specs.Ran.{Costs}
use Rattle.run_model.specs.Course.{is_log_fault}
use Rattle.run_model.specs.Stage.{CameTakes, LogsTake, TakesFrom, Walked, handed_by, logs_from, logs_in}
use Rattle.run_model.specs.Uses.{Use, NotGiven, Closed, left_in, told_first, given, AreAsked}
use Rattle.run_model.specs.Verdicts.{is_timed, AreVerdicts}
use Rattle.sample_log.specs.Sample.{sample}
use Rattle.settings.specs.Asked.{Origin, FromFile, FromSample}
use Rattle.run_model.specs.Walk.{Close, Open, Ended, Past, Taken, Takes, Comes, Halts, Ends, Walks, known, stop_of_close, or_fault, stop_at}
use Rattle.monitor_run.specs.Judging.{Spends, judge_bound}
use Rattle.run_model.specs.Went.{log_way}
use Rattle.monitor_run.specs.Opening.{AsksTo, HasLogCause, LogHalted, StandsTo}
use Rattle.monitor_run.specs.Reading.{Halted, HasReadCause, IsHanded, WalksTo, form_in}
use Rattle.monitor_run.specs.Standing.{HasJudged, HasSizes, IsPlanOf}
use Rattle.monitor_run.specs.declared.judge.Judge.{Judge}
use Rattle.run_model.specs.declared.stop.Halt.{Halt}
use Rattle.run_model.specs.declared.stop.Halt.TheVariants.{At, Lost}
use Rattle.run_model.specs.declared.stop.LogStop.{LogStop}
use Rattle.run_model.specs.declared.stop.LogStop.TheVariants.{Unopened, Unread, Whole, Fault, Long, CodesFull, NodesFull}
use Rattle.run_model.specs.declared.stop.Loss.TheVariants.{Cut, Starved}
use Rattle.monitor_run.proofs.ReadLog.Causes.{log_cause}
use Rattle.monitor_run.proofs.ReadLog.Reaching.{is_walking, walked}
use Rattle.std.specs.List.{sum_by}
use Rattle.wellformed.specs.declared.core_formula.Variable.{Variable}
use Rattle.subformulas.specs.OperationRows.{rows_of}
use Rattle.subformulas.specs.declared.table.Sub.{Sub}
use Rattle.monitor_model.specs.State.{temporal_count}

-- A log that was opened never stops unopened

never_known : (limit : ℕ) (close : Close) (end : End) → Unopened ≡ or_fault (stop_of_close limit close) end → ⊥
never_known limit Open Rest is = let no : ⊥ = cc in no
never_known limit Ended Rest is = let no : ⊥ = cc in no
never_known limit Past Rest is = let no : ⊥ = cc in no
never_known limit close (FaultAt number why) is = let no : ⊥ = cc in no

never_refused : (number : ℕ) (why : event_end.End) → Unopened ≡ stop_at number why → ⊥
never_refused number (event_end.CodesFull x need) is = let no : ⊥ = cc in no
never_refused number (event_end.NodesFull k row) is = let no : ⊥ = cc in no

never_unopened : (comes : Comes) (items : List Item) (limit : ℕ) (taken : Taken) (judged : List Event) → Walks comes (known (form_in items) limit taken) judged Unopened → ⊥
never_unopened comes items limit taken judged w = go w.stops where
  go : Ends (known (form_in items) limit taken) judged Unopened ⊎ Halts comes (known (form_in items) limit taken) judged Unopened → ⊥
  go (inl (all, is)) = never_known limit taken.close _ is
  go (inr h) = never_refused (length judged + 1) h.why h.told

-- What the bytes say of a log that was read

module _ (job : Job) (items : List Item) (all left : Text) (logs : List Use) (taken : Taken) (judged : List Event) (t : Takes job.limit all left taken) (took : LogsTake job (all ∷ []) logs (taken ∷ [])) (handed : ℕ) where
  at_stop : (stop : LogStop) → handed ≡ handed_by stop (length judged) → Walks (ComesAt job items) (known (form_in items) job.limit taken) judged stop → Walked job items (all ∷ []) logs judged handed stop
  at_stop stop is w = subst (λ (n : ℕ). Walked job items (all ∷ []) logs judged n stop) (sym is) (walked job items all left logs taken judged t took stop w)

  stands_to : (halt : Halt LogStop) → WalksTo (ComesAt job items) (known (form_in items) job.limit taken) judged halt →
      IsHanded halt (length judged) handed (length (known (form_in items) job.limit taken).events) → StandsTo job items (Some (all ∷ [])) logs judged handed halt
  stands_to (At Unopened) w is = absurd (never_unopened (ComesAt job items) items job.limit taken judged w)
  stands_to (At Unread) w is = at_stop Unread is w
  stands_to (At Whole) w is = at_stop Whole is w
  stands_to (At (Fault fault)) w is = at_stop (Fault fault) is w
  stands_to (At (Long most)) w is = at_stop (Long most) is w
  stands_to (At (CodesFull event x need)) w is = at_stop (CodesFull event x need) is w
  stands_to (At (NodesFull event k row)) w is = at_stop (NodesFull event k row) is w
  stands_to (Lost Cut) w (few, within) = is_walking job items all left logs taken judged t took handed few within w
  stands_to (Lost Starved) w (few, within) = inr (is_walking job items all left logs taken judged t took handed few within w)

-- Steps

-- the monitor's bound on the steps of an event is that of the items and the job
abbrev bound_of : (bits nodes : ℕ) → List Sub → List Variable → ℕ
bound_of bits nodes subs variables =
    6 * sum_by (λ s. rows_of s.kind bits) subs * ((nodes + 2) * (nodes + 2)) + length variables * temporal_count subs * ((nodes + 2) * (2 * bits + 3) * 2 ^ bits)

abbrev witnesses_of : (bits : ℕ) → List Sub → List PlanProp → ℕ
witnesses_of bits subs props = sum_by (λ q. length (chain (formula_at subs q.root)) * ((bits + 1) * 2 ^ bits)) props

pub bound_is : (job : Job) (items : List Item) (j : Judge) → IsPlanOf items j.monitor.plan → HasSizes job j.monitor → judge_bound j.monitor ≡ event_bound job items
bound_is job items j plan sizes =
    let m = j.monitor in
    let judging : bound_of m.bits m.shelf.table.room m.plan.subs m.plan.variables ≡ judging_bound job items =
    ap (λ (bits : ℕ). bound_of bits m.shelf.table.room m.plan.subs m.plan.variables) sizes.bits
    ∙ ap (λ (nodes : ℕ). bound_of job.bits nodes m.plan.subs m.plan.variables) sizes.nodes
    ∙ ap (λ (subs : List Sub). bound_of job.bits job.nodes subs m.plan.variables) plan.subs
    ∙ ap (λ (variables : List Variable). bound_of job.bits job.nodes (table_in items) variables) plan.variables in
    let witnesses : witnesses_of m.bits m.plan.subs m.plan.props ≡ witness_bound job items =
    ap (λ (bits : ℕ). witnesses_of bits m.plan.subs m.plan.props) sizes.bits
    ∙ ap (λ (subs : List Sub). witnesses_of job.bits subs m.plan.props) plan.subs
    ∙ ap (witnesses_of job.bits (table_in items)) plan.props in
    ap (λ (n : ℕ). n + witnesses_of m.bits m.plan.subs m.plan.props) judging ∙ ap (λ (n : ℕ). judging_bound job items + n) witnesses

-- and its memo is as ample as the job asks for
pub large_is : (job : Job) (j : Judge) → HasSizes job j.monitor → IsAmple job → IsLarge j.monitor.shelf
large_is job j sizes ample =
    subst (λ (nodes : ℕ). (nodes + 2) * (nodes + 3) ≤ j.monitor.shelf.memo.entries) (sym sizes.nodes)
    (subst (λ (entries : ℕ). (job.nodes + 2) * (job.nodes + 3) ≤ entries) (sym sizes.cache) ample)

spent_most : (bound from handed before after : ℕ) → from ≡ 0 → Spends bound from handed before after → after ≤ before + bound * handed
spent_most bound from handed before after fresh spent =
    let none : bound * from ≡ bound * 0 = ap (λ (n : ℕ). bound * n) fresh in
    omega (arith, none, spent)

pub costs_log : (job : Job) (items : List Item) (j : Judge) (from handed before after : ℕ) → HasJudged job items [] [] j → from ≡ 0 → (handed ≡ 0 → after ≡ before) →
    (IsLarge j.monitor.shelf → Spends (judge_bound j.monitor) from handed before after) → Costs (Some job) items handed before after
costs_log job items j from handed before after s fresh idle spent = (
  idle,
  λ ample. spent_most (event_bound job items) from handed before after fresh
      (subst (λ (bound : ℕ). Spends bound from handed before after) (bound_is job items j s.plan s.sizes) (spent (large_is job j s.sizes ample))),
)

costs_none : (job : Job) (items : List Item) (n : ℕ) → Costs (Some job) items 0 n n
costs_none job items n = (λ none. refl, λ ample. go (event_bound job items * 0)) where
  go : (x : ℕ) → n ≤ n + x
  go x = omega arith

-- The log of a run

-- nothing of it was judged: it was not opened
pub nothing_right : (items : List Item) → AreVerdicts [] items []
nothing_right items = record { count = refl; each = λ i h. absurd (omega arith) }

pub nothing_passed : (w : Option Text) (held : Text) → held ≡ [] → Passes w w [] held []
nothing_passed w held none = subst (λ (l : Text). Passes w w [] l []) (sym none) (passes_none w [])

pub log_refused : (job : Job) (t : Option (List (Text × Text))) (items : List Item) (name : Text) (w : Option Text) (held : Text) (j : Judge) (n : ℕ) → j.events ≡ 0 → j.violations ≡ 0 → held ≡ [] →
    IfSome t (λ texts. LogHalted job texts items (record { name = name; came = NotGiven } ∷ []) w w held j n n (At Unopened))
log_refused job None items name w held j n events violations none = tt
log_refused job (Some texts) items name w held j n events violations none =
    record {
      judged = [];
      rows = [];
      handed = 0;
      stands = (refl, refl);
      right = nothing_right items;
      counted = (events, violations);
      lines = nothing_passed w held none;
      cost = costs_none job items n;
      left = [];
      left_is = refl;
    }

pub log_starved : (job : Job) (t : Option (List (Text × Text))) (items : List Item) (w : Option Text) (held : Text) (j : Judge) (n : ℕ) → held ≡ [] → IfSome t (λ texts. LogHalted job texts items [] w w held j n n (Lost Starved))
log_starved job None items w held j n none = tt
log_starved job (Some texts) items w held j n none =
    record {
      judged = [];
      rows = [];
      handed = 0;
      stands = inl (refl, (refl, refl));
      right = nothing_right items;
      counted = tt;
      lines = nothing_passed w held none;
      cost = costs_none job items n;
      left = [];
      left_is = refl;
    }

-- it was read
read_halted : (job : Job) (texts : List (Text × Text)) (items : List Item) (logs : List Use) (all : Text) (left1 w0 w1 : Option Text) (held : Text) (k : Judge) (handed before after : ℕ) (halt : Halt LogStop) →
    (h : Halted job items all left1 w0 w1 held k handed halt) → LogsTake job (all ∷ []) logs (h.taken ∷ []) → logs_in job texts items ≡ Some (all ∷ []) → (left : List Text) → left_in logs ≡ Some left → Costs (Some job) items handed before after →
    LogHalted job texts items logs w0 w1 held k before after halt
read_halted job texts items logs all left1 w0 w1 held k handed before after halt h took is left left_is cost =
    record {
      judged = h.judged;
      rows = h.rows;
      handed = handed;
      stands = subst (λ (o : Option (List Text)). StandsTo job items o logs h.judged handed halt) (sym is) (stands_to job items all h.rest logs h.taken h.judged h.takes took handed halt h.walks h.handed_is);
      right = h.right;
      counted = h.counted;
      lines = h.lines;
      cost = cost;
      left = left;
      left_is = left_is;
    }

-- a file, which was opened, and closed behind what was read of it
module _ (job : Job) (texts : List (Text × Text)) (items : List Item) (name : Text) (is_file : job.log ≡ FromFile name) (left0 left1 w0 w1 : Option Text) (held : Text) (hurt : Bool) (k : Judge) (handed before after : ℕ) (halt : Halt LogStop) where
  abbrev its_use : List Use
  its_use = record { name = name; came = Closed hurt left1 } ∷ []

  file_takes : (all rest : Text) (taken : Taken) → left1 ≡ Some rest → Takes job.limit all rest taken → LogsTake job (all ∷ []) its_use (taken ∷ [])
  file_takes all rest taken remains t =
      subst (λ (o : Origin). TakesFrom o job.limit (all ∷ []) its_use (taken ∷ [])) (sym is_file)
      (subst (λ (l : Option Text). CameTakes job.limit all (Closed hurt l) taken) (sym remains) t, tt)

  by_text : (o : Option Text) → text_of texts name ≡ o → IsSomeAnd o (λ bytes. left0 ≡ Some bytes) → ((all : Text) → left0 ≡ Some all → Halted job items all left1 w0 w1 held k handed halt) → Costs (Some job) items handed before after →
      LogHalted job texts items its_use w0 w1 held k before after halt
  by_text (Some all) is given h cost =
      let now = h all given in
      read_halted job texts items its_use all left1 w0 w1 held k handed before after halt now (file_takes all now.rest now.taken now.remains now.takes)
      (ap (λ (o : Origin). logs_from o texts items) is_file ∙ ap (λ (o : Option Text). told_first o (Some [])) is)
      (now.rest ∷ []) (ap (λ (o : Option Text). told_first o (Some [])) now.remains) cost
  by_text None is given h cost = absurd given

pub log_closed : (job : Job) (t : Option (List (Text × Text))) (items : List Item) (name : Text) (left0 left1 w0 w1 : Option Text) (held : Text) (hurt : Bool) (k : Judge) (handed before after : ℕ) (halt : Halt LogStop) → job.log ≡ FromFile name → GivesText t name left0 →
    ((all : Text) → left0 ≡ Some all → Halted job items all left1 w0 w1 held k handed halt) → Costs (Some job) items handed before after →
    IfSome t (λ texts. LogHalted job texts items (record { name = name; came = Closed hurt left1 } ∷ []) w0 w1 held k before after halt)
log_closed job None items name left0 left1 w0 w1 held hurt k handed before after halt is_file given h cost = tt
log_closed job (Some texts) items name left0 left1 w0 w1 held hurt k handed before after halt is_file given h cost =
    by_text job texts items name is_file left0 left1 w0 w1 held hurt k handed before after halt (text_of texts name) refl given h cost

-- a sample
pub log_sampled : (job : Job) (t : Option (List (Text × Text))) (items : List Item) (seed events : ℕ) (all : Text) (left1 w0 w1 : Option Text) (held : Text) (k : Judge) (handed before after : ℕ) (halt : Halt LogStop) → job.log ≡ FromSample seed events →
    all ≡ sample seed events (is_timed items) → Halted job items all left1 w0 w1 held k handed halt → Costs (Some job) items handed before after → IfSome t (λ texts. LogHalted job texts items [] w0 w1 held k before after halt)
log_sampled job None items seed events all left1 w0 w1 held k handed before after halt is_sample is h cost = tt
log_sampled job (Some texts) items seed events all left1 w0 w1 held k handed before after halt is_sample is h cost =
    read_halted job texts items [] all left1 w0 w1 held k handed before after halt h
    (subst (λ (o : Origin). TakesFrom o job.limit (all ∷ []) [] (h.taken ∷ [])) (sym is_sample) (h.rest, h.takes))
    (ap (λ (o : Origin). logs_from o texts items) is_sample ∙ ap (λ (l : Text). Some (l ∷ [])) (sym is)) [] refl cost

-- how the use of a log that was opened went
closed_way : (name : Text) (hurt : Bool) (left : Option Text) (source : Type 0) (stop : LogStop) → stop ≢ Unopened → (stop ≡ Unread → source) → (source → hurt ≡ true) →
    AreAsked (record { name = name; way = log_way stop } ∷ []) (record { name = name; came = Closed hurt left } ∷ [])
closed_way name hurt left source Unopened opened read so = absurd (opened refl)
closed_way name hurt left source Unread opened read so = (refl, so (read refl), tt)
closed_way name hurt left source Whole opened read so = (refl, tt, tt)
closed_way name hurt left source (Fault fault) opened read so = (refl, tt, tt)
closed_way name hurt left source (Long limit) opened read so = (refl, tt, tt)
closed_way name hurt left source (CodesFull event x need) opened read so = (refl, tt, tt)
closed_way name hurt left source (NodesFull event k row) opened read so = (refl, tt, tt)

pub asks_closed : (name : Text) (hurt : Bool) (left : Option Text) (source : Type 0) (halt : Halt LogStop) → HasReadCause source halt → (source → hurt ≡ true) → AsksTo (FromFile name) halt (record { name = name; came = Closed hurt left } ∷ [])
asks_closed name hurt left source (At stop) (opened, read) so = closed_way name hurt left source stop opened read so
asks_closed name hurt left source (Lost Cut) r so = (refl, tt, tt)
asks_closed name hurt left source (Lost Starved) r so = (given name ∷ [], [], refl, (refl, tt, tt))

-- a sample asks for no file, and has no file's fault
no_fault : (stop : LogStop) → stop ≢ Unopened → stop ≢ Unread → is_log_fault stop ≡ false
no_fault Unopened opened read = absurd (opened refl)
no_fault Unread opened read = absurd (read refl)
no_fault Whole opened read = refl
no_fault (Fault fault) opened read = refl
no_fault (Long limit) opened read = refl
no_fault (CodesFull event x need) opened read = refl
no_fault (NodesFull event k row) opened read = refl

pub asks_sampled : (seed events : ℕ) (source : Type 0) (halt : Halt LogStop) → HasReadCause source halt → ¬ source → AsksTo (FromSample seed events) halt []
asks_sampled seed events source (At stop) (opened, read) never = (refl, no_fault stop opened (λ is. never (read is)))
asks_sampled seed events source (Lost Cut) r never = tt
asks_sampled seed events source (Lost Starved) r never = ([], [], refl, tt)

pub sampled_cause : (files source : Type 0) (halt : Halt LogStop) → HasReadCause source halt → ¬ source → HasLogCause files halt
sampled_cause files source halt read never = log_cause source files halt read (λ rose. absurd (never rose))
