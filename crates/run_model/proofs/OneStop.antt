-- The words and the bytes of the files decide one stop. So what comes is exact, and complete: for every stop at once.
use Rattle.std.proofs.Common.{◌≡◌, ℕ, ◌⊎◌, inl, inr, List, refl, sym, ap, ◌∙◌, subst, arith, Bool, true, false, IsTrue}
use Rattle.std.specs.Prelude.{Option, Some, None, IsSomeAnd}
use Rattle.mon_base.specs.Told.{text_of}
use Rattle.qtl_syntax.specs.Tree.{Text, Item}
use Rattle.qtl_syntax.specs.Faults.{SpellsWithin, OneFault, FaultsSpellNothing, OneSpelled}
use Rattle.qtl_syntax.specs.declared.fault.SpecFault.{SpecFault}
use Rattle.qtl_truth.specs.declared.event.Event.{Event}
use Rattle.wellformed.specs.Faults.{first_fault}
use Rattle.wellformed.specs.declared.fault.NameFault.{NameFault}
use Rattle.run_model.specs.Accepted.{Accepts, IsTooLong, HasFault, Spells}
use Rattle.run_model.specs.declared.end.End.{End}
use Rattle.run_model.specs.declared.end.End.TheVariants.{NoMemory}
use Rattle.run_model.specs.Course.{end_of, stop_in, is_fault}
use Rattle.run_model.specs.Job.{Job}
use Rattle.run_model.specs.Ran.{Heeds, IsWholeRun}
use Rattle.run_model.specs.Stage.{Refuses, StandsAt, Stands, IsDue, IsWalkOf, Walked, comes_in, whole_in, logs_in, said_of}
use Rattle.run_model.specs.Uses.{Use}
use Rattle.run_model.specs.Walk.{Input, Walks}
use Rattle.run_model.specs.Went.{AsksAt, Asks, HasFileCause, HasWriteCause}
use Rattle.run_model.specs.declared.stop.SpecStop.{SpecStop}
use Rattle.run_model.specs.declared.stop.SpecStop.TheVariants.{Unopened, Unread, TooLong, Fault, Names}
use Rattle.run_model.specs.declared.stop.LogStop.{LogStop}
use Rattle.run_model.specs.declared.stop.LogStop.TheVariants as log_stop
use Rattle.run_model.specs.declared.stop.Loss.TheVariants.{Cut, Starved}
use Rattle.run_model.specs.declared.stop.Stop.{Stop}
use Rattle.run_model.specs.declared.stop.Stop.TheVariants.{Misused, Spec, Log}
use Rattle.run_model.specs.declared.stop.Course.{Course}
use Rattle.run_model.specs.declared.stop.Course.TheVariants.{Came, Lost}
use Rattle.run_model.proofs.OneWalk.{OneComes, one_walk}

-- what the layers below promise: a text has one answer, and one thing comes at an event of an accepted specification
pub record Laws : Type 0 where
  pub one_fault : OneFault
  pub never_both : FaultsSpellNothing
  pub one_specification : OneSpelled
  pub one_comes : (job : Job) (spec : Option Text) (items : List Item) → Accepts spec items → OneComes (comes_in job items)

-- The specification

only_within : Laws → (text : Text) (items others : List Item) → SpellsWithin text items → SpellsWithin text others → others ≡ items
only_within laws text items others a (ts, cut, spelled, clear) = laws.one_specification text 256 items others a (ts, cut, spelled)

pub one_spelled : Laws → (spec : Option Text) (items others : List Item) → Spells spec items → Spells spec others → others ≡ items
one_spelled laws (Some text) items others (_, a) (_, b) = only_within laws text items others a b
one_spelled laws None items others a b = absurd a

never_long : (spec : Option Text) (items : List Item) → Spells spec items → IsTooLong spec → ⊥
never_long (Some text) items (few, _) many = omega (arith, few, many)
never_long None items spelled many = spelled

never_faulty : Laws → (spec : Option Text) (items : List Item) (fault : SpecFault) → Spells spec items → HasFault spec fault → ⊥
never_faulty laws (Some text) items fault (_, spelled) (some, (_, bad)) = laws.never_both text fault items some bad spelled
never_faulty laws None items fault spelled bad = spelled

-- a specification that spells items is refused for their names alone
refused_by : Laws → (spec : Option Text) (items others : List Item) (stop : SpecStop) → Spells spec items → Refuses spec others stop → (fault : NameFault) × (stop ≡ Names fault) × (first_fault items ≡ Some fault)
refused_by laws spec items others Unopened spelled refused = absurd refused
refused_by laws spec items others Unread spelled refused = absurd refused
refused_by laws spec items others TooLong spelled refused = absurd (never_long spec items spelled refused)
refused_by laws spec items others (Fault fault) spelled refused = absurd (never_faulty laws spec items fault spelled refused)
refused_by laws spec items others (Names fault) spelled (again, bad) = (fault, refl, subst (λ (x : List Item). first_fault x ≡ Some fault) (one_spelled laws spec items others spelled again) bad)

accepted_or_refused : Laws → (spec : Option Text) (items others : List Item) (stop : SpecStop) → Accepts spec items → Refuses spec others stop → ⊥
accepted_or_refused laws spec items others stop a refused =
    let (fault, is, bad) = refused_by laws spec items others stop a.spelled refused in
    let no_fault : None ≡ Some fault = sym a.clear ∙ bad in
    let never : ⊥ = cc in never

names_refusal : Laws → (spec : Option Text) (items others : List Item) (fault : NameFault) (due : SpecStop) → Spells spec items → first_fault items ≡ Some fault → Refuses spec others due → Names fault ≡ due
names_refusal laws spec items others fault due spelled bad refused =
    let (other, is, bad') = refused_by laws spec items others due spelled refused in
    let same : Some fault ≡ Some other = sym bad ∙ bad' in
    let one : fault ≡ other = cc in
    ap Names one ∙ sym is

none_refused : (items : List Item) (stop : SpecStop) → Refuses None items stop → ⊥
none_refused items Unopened refused = refused
none_refused items Unread refused = refused
none_refused items TooLong refused = refused
none_refused items (Fault fault) refused = refused.1
none_refused items (Names fault) refused = refused.0

long_refusal : (text : Text) (items : List Item) (due : SpecStop) → IsTooLong (Some text) → Refuses (Some text) items due → TooLong ≡ due
long_refusal text items TooLong large due = refl
long_refusal text items (Fault fault) large (_, (short, _)) = absurd (omega (arith, short, large))
long_refusal text items (Names fault) large ((short, _), _) = absurd (omega (arith, short, large))
long_refusal text items Unopened large due = absurd due
long_refusal text items Unread large due = absurd due

fault_refusal : Laws → (text : Text) (items : List Item) (fault : SpecFault) (due : SpecStop) → HasFault (Some text) fault → Refuses (Some text) items due → Fault fault ≡ due
fault_refusal laws text items fault TooLong (_, (short, _)) large = absurd (omega (arith, short, large))
fault_refusal laws text items fault (Fault other) (some, (_, bad)) (some', (_, bad')) = ap Fault (laws.one_fault text fault other some some' bad bad')
fault_refusal laws text items fault (Names other) (some, (_, bad)) ((_, within), _) = absurd (laws.never_both text fault items some bad within)
fault_refusal laws text items fault Unopened bad due = absurd due
fault_refusal laws text items fault Unread bad due = absurd due

one_refusal : Laws → (spec : Option Text) (items others : List Item) (stop due : SpecStop) → Refuses spec items stop → Refuses spec others due → stop ≡ due
one_refusal laws None items others stop due a b = absurd (none_refused items stop a)
one_refusal laws (Some text) items others TooLong due a b = long_refusal text others due a b
one_refusal laws (Some text) items others (Fault fault) due a b = fault_refusal laws text others fault due a b
one_refusal laws (Some text) items others (Names fault) due (spelled, bad) b = names_refusal laws (Some text) items others fault due spelled bad b
one_refusal laws (Some text) items others Unopened due a b = absurd a
one_refusal laws (Some text) items others Unread due a b = absurd a

-- The log

one_log : (job : Job) (items : List Item) → OneComes (comes_in job items) → (alls : Option (List Text)) (stop due : LogStop) →
    IsSomeAnd alls (IsWalkOf job items stop) → IsSomeAnd alls (IsWalkOf job items due) → stop ≡ due
one_log job items one (Some alls) stop due (judged, a) (other, b) = (one_walk (comes_in job items) one (whole_in job items alls) judged other stop due a b).1
one_log job items one None stop due a b = absurd a

-- Both

one_due : Laws → (job : Option Job) (texts : List (Text × Text)) (stop due : Stop) → IsDue job texts stop → IsDue job texts due → stop ≡ due
one_due laws None texts Misused Misused a b = refl
one_due laws None texts Misused (Spec due) a b = absurd b
one_due laws None texts Misused (Log due) a b = absurd b
one_due laws None texts (Spec stop) due a b = absurd a
one_due laws None texts (Log stop) due a b = absurd a
one_due laws (Some job) texts Misused due a b = absurd a
one_due laws (Some job) texts (Spec stop) Misused a b = absurd b
one_due laws (Some job) texts (Spec stop) (Spec due) (items, a) (others, b) = ap Spec (one_refusal laws (text_of texts job.spec) items others stop due a b)
one_due laws (Some job) texts (Spec stop) (Log due) (others, a) (items, accepted, _) = absurd (accepted_or_refused laws (text_of texts job.spec) items others stop accepted a)
one_due laws (Some job) texts (Log stop) Misused a b = absurd b
one_due laws (Some job) texts (Log stop) (Spec due) (items, accepted, _) (others, b) = absurd (accepted_or_refused laws (text_of texts job.spec) items others due accepted b)
one_due laws (Some job) texts (Log stop) (Log due) (items, accepted, walks) (others, accepted', walks') =
    let same = one_spelled laws (text_of texts job.spec) items others accepted.spelled accepted'.spelled in
    let here = subst (λ (x : List Item). IsSomeAnd (logs_in job texts x) (IsWalkOf job x due)) same walks' in
    ap Log (one_log job items (laws.one_comes job (text_of texts job.spec) items accepted) (logs_in job texts items) stop due walks here)

-- where a run stops is due, or a file's fault

whole_log : (job : Job) (items : List Item) (alls : Option (List Text)) (logs : List Use) (judged : List Event) (handed : ℕ) (stop : LogStop) → ((taken whole : Input) → said_of stop taken whole ≡ whole) →
    IsSomeAnd alls (λ a. Walked job items a logs judged handed stop) → IsSomeAnd alls (IsWalkOf job items stop)
whole_log job items (Some alls) logs judged handed stop said w = (judged, subst (λ (i : Input). Walks (comes_in job items) i judged stop) (said _ _) w.walks)
whole_log job items None logs judged handed stop said w = absurd w

due_or_fault : (job : Job) (texts : List (Text × Text)) (items : List Item) (logs : List Use) (judged : List Event) (handed : ℕ) (stop : Stop) →
    StandsAt (Some job) texts items logs judged handed stop → IsTrue (is_fault stop) ⊎ IsDue (Some job) texts stop
due_or_fault job texts items logs judged handed Misused h = absurd h
due_or_fault job texts items logs judged handed (Spec stop) (_, inl fault) = inl fault
due_or_fault job texts items logs judged handed (Spec stop) (_, inr refused) = inr (items, refused)
due_or_fault job texts items logs judged handed (Log log_stop.Unopened) h = inl refl
due_or_fault job texts items logs judged handed (Log log_stop.Unread) h = inl refl
due_or_fault job texts items logs judged handed (Log log_stop.Whole) (a, w) = inr (items, a, whole_log job items _ logs judged handed log_stop.Whole (λ taken whole. refl) w)
due_or_fault job texts items logs judged handed (Log (log_stop.Fault fault)) (a, w) = inr (items, a, whole_log job items _ logs judged handed (log_stop.Fault fault) (λ taken whole. refl) w)
due_or_fault job texts items logs judged handed (Log (log_stop.Long limit)) (a, w) = inr (items, a, whole_log job items _ logs judged handed (log_stop.Long limit) (λ taken whole. refl) w)
due_or_fault job texts items logs judged handed (Log (log_stop.CodesFull event x need)) (a, w) =
    inr (items, a, whole_log job items _ logs judged handed (log_stop.CodesFull event x need) (λ taken whole. refl) w)
due_or_fault job texts items logs judged handed (Log (log_stop.NodesFull event k row)) (a, w) =
    inr (items, a, whole_log job items _ logs judged handed (log_stop.NodesFull event k row) (λ taken whole. refl) w)

-- so what is due is heeded
heed : Laws → (job : Option Job) (texts : List (Text × Text)) (stop due : Stop) → IsTrue (is_fault stop) ⊎ IsDue job texts stop → IsDue job texts due → Heeds (Some stop) due
heed laws job texts stop due (inl fault) d = inr fault
heed laws job texts stop due (inr is) d = inl (one_due laws job texts stop due is d)

exact_at : Laws → (job : Option Job) (texts : List (Text × Text)) (items : List Item) (early logs : List Use) (judged : List Event) (handed : ℕ) (stop : Stop) →
    AsksAt job stop early logs → StandsAt job texts items logs judged handed stop → (due : Stop) → IsDue job texts due → Heeds (Some stop) due
exact_at laws None texts items early logs judged handed Misused asks stands due d = heed laws None texts Misused due (inr tt) d
exact_at laws None texts items early logs judged handed (Spec stop) asks stands due d = absurd asks
exact_at laws None texts items early logs judged handed (Log stop) asks stands due d = absurd asks
exact_at laws (Some job) texts items early logs judged handed stop asks stands due d =
    heed laws (Some job) texts stop due (due_or_fault job texts items logs judged handed stop stands) d

pub exact : Laws → (job : Option Job) (texts : List (Text × Text)) (items : List Item) (early logs : List Use) (judged : List Event) (handed : ℕ) (course : Course) →
    Asks job course early logs → Stands job texts items logs judged handed course → (due : Stop) → IsDue job texts due → Heeds (stop_in course) due
exact laws job texts items early logs judged handed (Came stop) asks stands due d = exact_at laws job texts items early logs judged handed stop asks stands due d
exact laws job texts items early logs judged handed (Lost loss (Some stop)) asks stands due d = exact_at laws job texts items early logs judged handed stop asks stands due d
exact laws job texts items early logs judged handed (Lost loss None) asks stands due d = tt

-- Where no fault was counted and there was memory, the run came to a stop that is no file's fault

bool_cases : (b : Bool) → (b ≡ true) ⊎ (b ≡ false)
bool_cases true = inl refl
bool_cases false = inr refl

came : (files_rose : Type 0) (stop : Stop) → (IsTrue (is_fault stop) → files_rose) → ¬ files_rose → (is_fault stop ≡ true) ⊎ (is_fault stop ≡ false) → IsWholeRun (Came stop)
came files_rose stop cause none (inl fault) = absurd (none (cause fault))
came files_rose stop cause none (inr clear) = (stop, refl, clear)

pub whole_run : (files_rose out_rose : Type 0) (course : Course) (violations : ℕ) (end : End) → HasFileCause (stop_in course) files_rose → HasWriteCause course out_rose → end ≡ end_of violations course →
    ¬ files_rose → ¬ out_rose → IsWholeRun course ⊎ (end ≡ NoMemory)
whole_run files_rose out_rose (Came stop) violations end file write is no_file no_write = inl (came files_rose stop file no_file (bool_cases (is_fault stop)))
whole_run files_rose out_rose (Lost Cut stop) violations end file write is no_file no_write = absurd (no_write write)
whole_run files_rose out_rose (Lost Starved stop) violations end file write is no_file no_write = inr is

-- so what is due then comes, whole
came_due : (course : Course) (due : Stop) → IsWholeRun course → Heeds (stop_in course) due → course ≡ Came due
came_due (Came stop) due (other, is, clear) (inl same) = ap Came same
came_due (Came stop) due (other, is, clear) (inr fault) =
    let one : stop ≡ other = cc in
    let bad : true ≡ false = sym fault ∙ ap is_fault one ∙ clear in
    absurd (let n : ⊥ = cc in n)
came_due (Lost loss stop) due (other, is, clear) heeds = absurd (let n : ⊥ = cc in n)

pub complete : (course : Course) (end : End) (due : Stop) → IsWholeRun course ⊎ (end ≡ NoMemory) → Heeds (stop_in course) due → (course ≡ Came due) ⊎ (end ≡ NoMemory)
complete course end due (inl whole) heeds = inl (came_due course due whole heeds)
complete course end due (inr starved) heeds = inr starved
