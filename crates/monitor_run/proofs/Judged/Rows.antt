-- The verdicts of the monitor are those of the properties, and go on by one row for each event.
use Rattle.std.proofs.Common.{◌≡◌, ℕ, zero, suc, ◌+◌, ◌<◌, ◌≤◌, ◌⊎◌, ◌↔◌, inl, inr, List, [], ◌∷◌, ◌++◌, map, length, length-append, refl, sym, ap, ◌∙◌, append_assoc, append-nil, arith, subst, Bool, true, false, IsTrue, get_or}
use Rattle.std.specs.Prelude.{if◌then◌else◌, slice_index_or}
use Rattle.std.specs.List.{AllByRecursion, Any}
use Rattle.std.proofs.lemmas.Bool.{cases_lt}
use Rattle.qtl_syntax.specs.Tree.{Text, Item, Pred, Prop}
use Rattle.qtl_truth.specs.declared.event.Event.{Event}
use Rattle.qtl_truth.specs.Laws.{SameTo}
use Rattle.qtl_truth.specs.Truth.{IsLog}
use Rattle.qtl_truth.proofs.Past.{holds_past, same_to_append}
use Rattle.wellformed.specs.Kept.{AreKept}
use Rattle.subformulas.specs.declared.table.PlanProp.{PlanProp}
use Rattle.subformulas.specs.declared.table.Sub.{Sub}
use Rattle.subformulas.specs.Assigned.{texts_in, Truth}
use Rattle.subformulas.specs.Table.{HasRoot, IsClosedProp, IsSound, Table}
use Rattle.subformulas.specs.Unfolded.{formula_at, props_at}
use Rattle.subformulas.proofs.Below.{each_atom_below}
use Rattle.subformulas.proofs.Closed.{closed_is}
use Rattle.subformulas.proofs.FromLists.{in_list, truth_read}
use Rattle.node_tree.specs.Tree.{Zero, One}
use Rattle.wellformed.specs.CoreTruth.{TrueCore}
use Rattle.monitor_model.specs.State.{State, IsLive, IsMonitor, Stands, setting_of, now_of, is_one, verdict_at}
use Rattle.monitor_model.proofs.Telling.Verdict.{verdict}
use Rattle.monitor_step.specs.Monitor.{variables_of}
use Rattle.report.specs.Lines.{event_lines, report_lines}
use Rattle.report.specs.Verdicts.{Verdict, True, False, false_in, false_count}
use Rattle.report.specs.Witness.{IsWitness}
use Rattle.report.specs.declared.shown.Shown.{Shown}
use Rattle.report.proofs.Staying.{witness_stays}
use Rattle.run_model.specs.Limits.{plan_in}
use Rattle.run_model.specs.Verdicts.{Property, properties, properties_behind, names, IsTrueAt, IsVerdict, IsRow, AreVerdicts}
use Rattle.witness.specs.Finding.{witness_of}
use Rattle.witness.proofs.Showing.Holding.{witnesses_hold}
use Rattle.monitor_run.specs.Standing.{IsPlanOf, StandsFor, names_in, row_of, verdict_of}

-- the names are those of the properties
names_kept : (log : List Event) (nu : List Text) (subs : List Sub) (before items : List Item) (props : List PlanProp) → AreKept log nu before items (props_at subs props) →
    map (λ q. q.name) props ≡ names (properties_behind before items)
names_kept log nu subs before [] [] k = refl
names_kept log nu subs before [] (q ∷ props) k = absurd k
names_kept log nu subs before (Pred name params body ∷ items) props k = names_kept log nu subs (Pred name params body ∷ before) items props k
names_kept log nu subs before (Prop name body ∷ items) [] k = absurd k
names_kept log nu subs before (Prop name body ∷ items) (q ∷ props) k =
    let rest = names_kept log nu subs (Prop name body ∷ before) items props k.2 in
    let first = k.0 in
    cc

-- the verdict of a truth
verdict_is : (plan : Table) (log : List Event) (i : ℕ) (p : Property) (q : PlanProp) (v : Bool) (w : List Shown) → IsTrue v ↔ IsTrueAt log i p → (v ≡ false → IsWitness plan log i q.root w) →
    IsVerdict plan log i p q (if v then True else False w)
verdict_is plan log i p q true w h shown = h.0 refl
verdict_is plan log i p q false w h shown = (λ t. let no : false ≡ true = h.1 t in cc, shown refl)

-- each property is one of them
placed : (before : List PlanProp) (q : PlanProp) (later : List PlanProp) → (length before < length (before ++ q ∷ later)) × (slice_index_or (before ++ q ∷ later) (length before) q ≡ q)
placed [] q later = (omega arith, refl)
placed (p ∷ before) q later = let more = placed before q later in let l = more.0 in (omega (arith, l), more.1)

abbrev AreRoots : List PlanProp → List PlanProp → Type 0
AreRoots all props = AllByRecursion (λ q. Any (λ r. r.root ≡ q.root) all) props

roots_from : (before props all : List PlanProp) → before ++ props ≡ all → AreRoots all props
roots_from before [] all e = tt
roots_from before (q ∷ later) all e =
    let here = placed before q later in (
      subst (λ ps. Any (λ r. r.root ≡ q.root) ps) e (length before, q, here.0, here.1, refl),
      roots_from (before ++ q ∷ []) later all (append_assoc before (q ∷ []) later ∙ e),
    )

-- the verdicts of a monitor that stands for a log and has judged an event are the truths there
module _ (m : State) (sound : IsSound m.plan) (log : List Event) (nu : List Text) (stands : Stands m log)
    (judged : m.has_now ≡ true) (long : variables_of m ≤ length nu) (monitor : IsMonitor m) (live : IsLive m) (is_log : IsLog log) where
  verdict_tells : (q : PlanProp) → IsClosedProp m.plan.subs q → HasRoot (length m.plan.subs) q →
      IsTrue (verdict_at m q.root) ↔ TrueCore log nu (formula_at m.plan.subs q.root) (length log)
  verdict_tells q closed root =
      by_tree
      (verdict (setting_of m) log (length log) stands.books q.root (now_of m q.root)
      (closed_is (formula_at m.plan.subs q.root) closed)
      (stands.now judged q.root root.0 root.1) (texts_in nu))
    where
      reads : TrueCore log nu (formula_at m.plan.subs q.root) (length log) ↔
          Truth log (formula_at m.plan.subs q.root) (texts_in nu) (length log)
      reads =
          truth_read log (variables_of m) (formula_at m.plan.subs q.root)
          (each_atom_below (variables_of m) m.plan.subs sound.table sound.uses q.root root.0 root.1) nu
          (texts_in nu) (λ x l. in_list nu x (omega (arith, long, l))) (length log)

      by_tree :
          ((now_of m q.root ≡ One) × Truth log (formula_at m.plan.subs q.root) (texts_in nu) (length log)) ⊎
          ((now_of m q.root ≡ Zero) × (¬ Truth log (formula_at m.plan.subs q.root) (texts_in nu) (length log))) →
          IsTrue (verdict_at m q.root) ↔ TrueCore log nu (formula_at m.plan.subs q.root) (length log)
      by_tree (inl h) = (λ x. reads.1 h.1, λ x. ap is_one h.0)
      by_tree (inr h) = (λ x. absurd (let no : true ≡ false = sym x ∙ ap is_one h.0 in cc), λ x. absurd (h.1 (reads.0 x)))

  rows_kept : (before items : List Item) (props : List PlanProp) →
      AreKept log nu before items (props_at m.plan.subs props) →
      AllByRecursion (IsClosedProp m.plan.subs) props →
      AllByRecursion (HasRoot (length m.plan.subs)) props → AreRoots m.plan.props props →
      IsRow m.plan log (length log) (properties_behind before items) props (map (verdict_of m) props)
  rows_kept before [] [] k closed roots among = tt
  rows_kept before [] (q ∷ props) k closed roots among = absurd k
  rows_kept before (Pred name params body ∷ items) props k closed roots among =
      rows_kept (Pred name params body ∷ before) items props k closed roots among
  rows_kept before (Prop name body ∷ items) [] k closed roots among = absurd k
  rows_kept before (Prop name body ∷ items) (q ∷ props) k closed roots among =
      let here = k.1 (length log) in
      let tells = verdict_tells q closed.0 roots.0 in
      let p : Property = record { before = before; name = name; formula = body } in (
        verdict_is m.plan log (length log) p q (verdict_at m q.root) (witness_of m q.root) (λ x. here.1 (tells.0 x), λ x. tells.1 (here.0 x))
            (witnesses_hold m log q.root monitor live is_log stands judged among.0),
        rows_kept (Prop name body ∷ before) items props k.2 closed.1 roots.1 among.1,
      )

-- a list with a text for each variable
abbrev texts_for : ℕ → List Text
texts_for zero = []
texts_for (suc n) = [] ∷ texts_for n

many_texts : (n : ℕ) → n ≤ length (texts_for n)
many_texts zero = omega arith
many_texts (suc n) = let h = many_texts n in omega (arith, h)

pub plan_names : (items : List Item) (m : State) → IsPlanOf items m.plan → names_in m ≡ names (properties items)
plan_names items m p =
    let nu = texts_for (variables_of m) in
    names_kept [] nu m.plan.subs [] items m.plan.props (p.kept [] nu (many_texts (variables_of m)))

-- the plan is the items'
plan_is : (items : List Item) (plan : Table) → IsPlanOf items plan → plan ≡ plan_in items
plan_is items plan p = λ i. record { variables = p.variables i; subs = p.subs i; props = p.props i }

-- the row of a monitor that stands for a log has the verdicts of the log's last event
pub row_right : (items : List Item) (m : State) (log : List Event) → IsPlanOf items m.plan → StandsFor m log → 1 ≤ length log →
    IsRow (plan_in items) log (length log) (properties items) (plan_in items).props (row_of m)
row_right items m log p s some =
    let nu = texts_for (variables_of m) in
    let long = many_texts (variables_of m) in
    subst (λ (plan : Table). IsRow plan log (length log) (properties items) plan.props (row_of m)) (plan_is items m.plan p)
    (rows_kept m p.sound log nu s.stands (s.judged some) long s.sound s.live s.is_log [] items m.plan.props (p.kept log nu long) p.sound.closed p.sound.roots
    (roots_from [] m.plan.props m.plan.props refl))

-- a verdict stays right when an event comes
same_up_to : (log : List Event) (e : Event) (i : ℕ) → i ≤ length log → SameTo i log (log ++ e ∷ [])
same_up_to log e i high = record { events = λ j low less. (same_to_append log (e ∷ [])).events j low (omega (arith, less, high)) }

verdict_stays : (plan : Table) (log : List Event) (e : Event) (i : ℕ) → 1 ≤ i → i ≤ length log → (p : Property) (q : PlanProp) (v : Verdict) → IsVerdict plan log i p q v →
    IsVerdict plan (log ++ e ∷ []) i p q v
verdict_stays plan log e i low high p q True r = (holds_past (length log) log (log ++ e ∷ []) (same_to_append log (e ∷ [])) p.before i [] p.formula low high).0 r
verdict_stays plan log e i low high p q (False witness) (untrue, shown) = (
  (λ x. untrue ((holds_past (length log) log (log ++ e ∷ []) (same_to_append log (e ∷ [])) p.before i [] p.formula low high).1 x)),
  witness_stays plan log (log ++ e ∷ []) i q.root witness low (same_up_to log e i high) shown,
)

-- and so does a row
row_stays : (plan : Table) (log : List Event) (e : Event) (i : ℕ) → 1 ≤ i → i ≤ length log → (ps : List Property) (qs : List PlanProp) (row : List Verdict) → IsRow plan log i ps qs row →
    IsRow plan (log ++ e ∷ []) i ps qs row
row_stays plan log e i low high [] [] [] r = tt
row_stays plan log e i low high [] [] (v ∷ row) r = absurd r
row_stays plan log e i low high [] (q ∷ qs) [] r = absurd r
row_stays plan log e i low high [] (q ∷ qs) (v ∷ row) r = absurd r
row_stays plan log e i low high (p ∷ ps) [] [] r = absurd r
row_stays plan log e i low high (p ∷ ps) [] (v ∷ row) r = absurd r
row_stays plan log e i low high (p ∷ ps) (q ∷ qs) [] r = absurd r
row_stays plan log e i low high (p ∷ ps) (q ∷ qs) (v ∷ row) r = (verdict_stays plan log e i low high p q v r.0, row_stays plan log e i low high ps qs row r.1)

get_before : (rows : List (List Verdict)) (row : List Verdict) (i : ℕ) → i < length rows → get_or (rows ++ row ∷ []) i [] ≡ get_or rows i []
get_before [] row i h = absurd (omega arith)
get_before (r ∷ rows) row zero h = refl
get_before (r ∷ rows) row (suc i) h = get_before rows row i (omega arith)

get_behind : (rows : List (List Verdict)) (row : List Verdict) → get_or (rows ++ row ∷ []) (length rows) [] ≡ row
get_behind [] row = refl
get_behind (r ∷ rows) row = get_behind rows row

row_each : (log : List Event) (e : Event) (items : List Item) (rows : List (List Verdict)) (row : List Verdict) → AreVerdicts log items rows →
    IsRow (plan_in items) (log ++ e ∷ []) (length log + 1) (properties items) (plan_in items).props row → (i : ℕ) → i + 1 ≤ length log + 1 → (length log < i + 1) ⊎ (i + 1 ≤ length log) →
    IsRow (plan_in items) (log ++ e ∷ []) (i + 1) (properties items) (plan_in items).props (get_or (rows ++ row ∷ []) i [])
row_each log e items rows row a r i h (inl last) =
    let is : i ≡ length log = omega arith in
    let at : i ≡ length rows = omega (arith, a.count, is) in
    rw (at, get_behind rows row, ← at, is) r
row_each log e items rows row a r i h (inr before) =
    rw (get_before rows row i (omega (arith, a.count)))
    (row_stays (plan_in items) log e (i + 1) (omega arith) before (properties items) (plan_in items).props (get_or rows i []) (a.each i before))

pub verdicts_more : (log : List Event) (e : Event) (items : List Item) (rows : List (List Verdict)) (row : List Verdict) → AreVerdicts log items rows →
    IsRow (plan_in items) (log ++ e ∷ []) (length log + 1) (properties items) (plan_in items).props row → AreVerdicts (log ++ e ∷ []) items (rows ++ row ∷ [])
verdicts_more log e items rows row a r =
    let n : length (log ++ e ∷ []) ≡ length log + 1 = let m = length-append log (e ∷ []) in omega (arith, m) in
    let m : length (rows ++ row ∷ []) ≡ length rows + 1 = let k = length-append rows (row ∷ []) in omega (arith, k) in
    record {
      count = omega (arith, a.count, n, m);
      each = λ i h. row_each log e items rows row a r i (omega (arith, h, n)) (cases_lt (length log) (i + 1));
    }

pub lines_more : (all : Bool) (event : ℕ) (ns : List Text) (rows : List (List Verdict)) (row : List Verdict) →
    report_lines all event ns (rows ++ row ∷ []) ≡ report_lines all event ns rows ++ event_lines all (event + length rows) ns row
lines_more all event ns [] row = append-nil (event_lines all event ns row) ∙ ap (λ (n : ℕ). event_lines all n ns row) (let e : event ≡ event + 0 = omega arith in e)
lines_more all event ns (r ∷ rows) row =
    ap (λ (l : Text). event_lines all event ns r ++ l)
    (lines_more all (event + 1) ns rows row
    ∙ ap (λ (n : ℕ). report_lines all (event + 1) ns rows ++ event_lines all n ns row) (let e : event + 1 + length rows ≡ event + length (r ∷ rows) = omega arith in e))
    ∙ sym (append_assoc (event_lines all event ns r) (report_lines all (event + 1) ns rows) (event_lines all (event + length (r ∷ rows)) ns row))

pub false_more : (rows : List (List Verdict)) (row : List Verdict) → false_count (rows ++ row ∷ []) ≡ false_count rows + false_in row
false_more [] row = let e : false_in row + 0 ≡ 0 + false_in row = omega arith in e
false_more (r ∷ rows) row = let h = false_more rows row in ap (λ (n : ℕ). false_in r + n) h ∙ (let e : false_in r + (false_count rows + false_in row) ≡ false_in r + false_count rows + false_in row = omega arith in e)
