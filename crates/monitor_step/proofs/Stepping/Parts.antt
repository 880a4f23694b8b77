-- What the parts of a step say of its answer.
use Rattle.std.proofs.Common.{◌≡◌, ◌≢◌, ℕ, zero, suc, ◌+◌, ◌-◌, ◌*◌, ◌^◌, ◌<◌, ◌≤◌, refl, sym, ap, ◌∙◌, subst, arith, List, [], ◌∷◌, ◌++◌, length, map, take, true, Option, Some, None}
use Rattle.std.specs.Prelude.{Result, Ok, Err, IsErrAnd, nat_lt}
use Rattle.std.specs.List.{AllByRecursion, sum_by}
use Rattle.std.proofs.lemmas.Bool.Decides.{nat_tests}
use Rattle.std.proofs.Math.Nat.{mul-le-mul_left, mul-le-mul_right, le-mul_of_pos_right, mul_comm, mul_assoc}
use Rattle.qtl_syntax.specs.Tree.{Text}
use Rattle.qtl_truth.specs.Truth.{IsLog}
use Rattle.qtl_truth.specs.declared.event.Event.{Event}
use Rattle.subformulas.specs.Needs.{need}
use Rattle.subformulas.specs.OperationRows.{rows_of}
use Rattle.subformulas.specs.Table as plan_table
use Rattle.subformulas.specs.Table.{HasFewTerms}
use Rattle.subformulas.specs.Texts.{Has}
use Rattle.subformulas.specs.declared.need_list.Stretch.{Stretch}
use Rattle.subformulas.specs.declared.table.Sub.{Sub}
use Rattle.node_tree.specs.Tree.{Tree}
use Rattle.node_table.specs.Table.{Table, tree_of, IsShared}
use Rattle.code_reclaim.proofs.Searching.{same_tree_of}
use Rattle.bdd_ops.specs.Shelf.{Shelf, handle_pairs, IsLarge}
use Rattle.bdd_ops.specs.declared.code_cubes.BlockCode.{BlockCode}
use Rattle.value_codes.specs.Pairs.{Contents, IsBook, Pairs, code_of}
use Rattle.monitor_model.specs.Ends.{time_since}
use Rattle.monitor_model.specs.Reading.{Answers, IsNext, Reads}
use Rattle.monitor_model.specs.Rows.{Frame, Sources, nodes_full, now_at, nth, updates}
use Rattle.monitor_model.specs.Shape.{HasOwnLevels}
use Rattle.monitor_model.specs.State.{State, IsLive, IsMonitor, Stands, kept, remembered, setting_of, temporal_count}
use Rattle.monitor_model.proofs.Books.Exact.{codes_exact}
use Rattle.monitor_model.proofs.Books.Listed.{told_exist}
use Rattle.monitor_model.proofs.Books.Order.{order_free}
use Rattle.monitor_model.proofs.Reading.Answered.{reads_answer}
use Rattle.monitor_model.proofs.Shapes.Living.{living, rows_shaped}
use Rattle.monitor_model.proofs.Standing.Stepping.{step_stands}
use Rattle.monitor_model.proofs.Telling.Tells.{stands_tell}
use Rattle.monitor_step.specs.Coded.{AreCoded}
use Rattle.monitor_step.specs.Frame.{setting_with, sources_of}
use Rattle.monitor_step.specs.Handles.{HasRemembered, brought_forward}
use Rattle.monitor_step.specs.Monitor.{HasCodesFor, HasShape, MatchEnd, step_bound, variables_of}
use Rattle.monitor_step.specs.RowsMade.{AreReadable, HasRows, memory_in}
use Rattle.monitor_step.specs.Serving.{pairs_at}
use Rattle.monitor_step.specs.Stages.{AnswersServing, rows_end, serve_end}
use Rattle.monitor_step.specs.declared.event_rows.NodesFull as full_row
use Rattle.monitor_step.specs.declared.frame.Frame as of_rows
use Rattle.monitor_step.specs.declared.monitor.StepEnd.{StepEnd}
use Rattle.monitor_step.specs.declared.monitor.StepEnd.TheVariants as ends
use Rattle.monitor_step.specs.declared.serve.ServeEnd.{ServeEnd}
use Rattle.monitor_step.specs.declared.serve.ServeEnd.TheVariants as serve
use Rattle.monitor_step.proofs.Rows.Kept.{has_remembered, memory_among}
use Rattle.monitor_step.proofs.Stepping.Readable.{are_readable}
use Rattle.monitor_step.proofs.Stepping.Reading.{are_next, is_next, listed, listed_made, next_books, no_more, reads_codes, reads_next, reads_rows, told_is, told_of, listed_full}

-- the trees by a table with the same nodes are the same
pub trees_kept : (old new : Table) (hs : List ℕ) → new.nodes ≡ old.nodes → map (tree_of new) hs ≡ map (tree_of old) hs
trees_kept old new hs e = same_all hs
  where
    same_all : (ks : List ℕ) → map (tree_of new) ks ≡ map (tree_of old) ks
    same_all [] = refl
    same_all (k ∷ ks) = rw (same_tree_of old new e k, same_all ks) refl

-- what a step reads is what it answers, for each log that the monitor stands for
pub answers : (before after : State) (e : Event) (r : Result Unit StepEnd) → IsMonitor before →
    IsLive before → MatchEnd r (Reads before e after) → (log : List Event) → IsLog (log ++ e ∷ []) →
    Stands before log → MatchEnd r (Answers before e after log)
answers before after e (Ok u) monitor live reads log is_log stands =
    reads_answer stands_tell (told_exist stands_tell) codes_exact order_free step_stands before after
    log e _ monitor live is_log stands reads
answers before after e (Err (ends.CodesFull x n)) monitor live reads log is_log stands =
    reads_answer stands_tell (told_exist stands_tell) codes_exact order_free step_stands before after
    log e _ monitor live is_log stands reads
answers before after e (Err (ends.NodesFull k r)) monitor live reads log is_log stands =
    reads_answer stands_tell (told_exist stands_tell) codes_exact order_free step_stands before after
    log e _ monitor live is_log stands reads
answers before after e (Err ends.NoMemory) monitor live reads log is_log stands = tt

-- ---- what the rows are made from

made_from : plan_table.Table → (bits nodes : ℕ) → List Contents → Event → (delta : ℕ) → List Tree → Sources
made_from plan bits nodes books e delta trees = record {
  frame = record { setting = setting_with plan bits nodes; books = pairs_at books; event = e; delta = delta };
  memory = memory_in plan.subs trees;
}

made_same : (plan : plan_table.Table) (b b' n n' : ℕ) (bs bs' : List Contents) (e e' : Event) (d d' : ℕ) (ts ts' : List Tree) →
    b ≡ b' → n ≡ n' → bs ≡ bs' → e ≡ e' → d ≡ d' → ts ≡ ts' →
    made_from plan b n bs e d ts ≡ made_from plan b' n' bs' e' d' ts'
made_same plan b b' n n' bs bs' e e' d d' ts ts' p q r s t u = cc

module _ (m : State) (monitor : IsMonitor m) (live : IsLive m) (shared : IsShared m.shelf.table) (e : Event)
    (books : List Contents) (served : AnswersServing m.bits m.plan.subs e (remembered m) m.books books (Ok tt)) where
  pub handles_enough : kept m ≤ length m.handles
  handles_enough = let c = monitor.handle_count in omega (arith, c)

  abbrev from_list : Sources
  from_list = listed m live.books monitor.book_count e books served handles_enough

  abbrev next : ℕ → Pairs
  next = next_books m live.books monitor.book_count e books served

  -- what the rows of the step are made from
  pub sources_same : (f : of_rows.Frame) (room : ℕ) (trees : List Tree) → f.bits ≡ m.bits → f.books.now ≡ books →
      f.event.now ≡ e → f.delta ≡ time_since m.events m.last_time e → room ≡ m.shelf.table.room →
      trees ≡ remembered m → sources_of m.plan room f trees ≡ from_list
  unfolding made_from
  sources_same f room trees bits its_books event delta same_room same_trees =
      made_same m.plan f.bits m.bits room m.shelf.table.room f.books.now books f.event.now e f.delta
      (time_since m.events m.last_time e) trees (remembered m) bits same_room its_books event delta same_trees

  -- the trees of the event have levels of free variables alone
  own_levels : (k : ℕ) → 1 ≤ k → k ≤ length m.plan.subs → HasOwnLevels (setting_of m) k (now_at from_list k)
  own_levels k low high =
      let shaped = rows_shaped m monitor live shared e (told_of m live.books monitor.book_count e)
      (λ x p. told_is m live.books monitor.book_count e x) next
      (are_next m live.books monitor.book_count e books served)
      (no_more m live.books monitor.book_count e books served) in
      subst (HasOwnLevels (setting_of m) k)
      (sym (ap (λ us. (nth us k).now) (listed_made m live.books monitor.book_count e books served handles_enough)))
      (shaped.now.shape k low high)

  pub readable : (made : Sources) → made ≡ from_list → AreReadable made
  readable made same =
      are_readable m monitor.plan made from_list (ap (λ (s : Sources). s.frame.setting) same)
      (ap updates same)
      (λ k temporal.
      ap (λ (s : Sources). s.memory k) same ∙ sym (memory_among m handles_enough k temporal))
      live.memory own_levels

  -- an event that is refused for its rows
  pub rows_refused : (made : Sources) → made ≡ from_list → (after : State) (full : full_row.NodesFull) →
      nodes_full made ≡ Some (full.subformula, full.row) → MatchEnd (Err (rows_end full)) (Reads m e after)
  rows_refused made same after full h =
      reads_rows m live.books monitor.book_count e books served after full.subformula full.row
      (sym (listed_full m live.books monitor.book_count e books served handles_enough) ∙ sym (ap nodes_full same) ∙ h)

  -- an event that is judged
  module _ (after : State) (old : Table) (before mid : List ℕ) (made : Sources) (same : made ≡ from_list)
      (rows : HasRows made before mid old after.shelf.table)
      (its_handles : after.handles ≡ brought_forward (kept m) mid) (its_before : before ≡ m.handles)
      (plan : after.plan ≡ m.plan) (bits : after.bits ≡ m.bits)
      (room : after.shelf.table.room ≡ m.shelf.table.room) (its_books : after.books ≡ books)
      (is_live : after.live ≡ true) (has_now : after.has_now ≡ true)
      (events : after.events ≡ m.events + 1) (time : after.last_time ≡ e.time) where
    kept_same : kept m ≡ kept after
    kept_same = ap (λ (q : plan_table.Table). temporal_count q.subs) (sym plan)

    size : length before ≡ 2 * kept after + length after.plan.subs + 3
    size =
        let a = ap length its_before in
        let b = monitor.handle_count in
        let c = kept_same in
        let d = ap (λ (q : plan_table.Table). length q.subs) plan in
        omega (arith, a, b, c, d)

    pub remembers : HasRemembered made after
    remembers =
        has_remembered made after
        (ap (λ (q : plan_table.Table). q.subs) plan ∙ sym (ap (λ (s : Sources). s.frame.setting.subs) same))
        old before mid rows
        (subst (λ (n : ℕ). after.handles ≡ brought_forward n mid) kept_same its_handles) size

    own_remembers : HasRemembered from_list after
    own_remembers = subst (λ (s : Sources). HasRemembered s after) same remembers

    pub comes_next : IsNext m e after next
    comes_next =
        is_next m live.books monitor.book_count e books served handles_enough after own_remembers is_live
        plan bits room its_books has_now events time

    pub judged : Reads m e after None
    judged =
        reads_next m live.books monitor.book_count e books served handles_enough after
        (sym (ap nodes_full same) ∙ rows.fit) comes_next

    bits_after : AllByRecursion (λ b. b.bits ≡ m.bits) books →
        AllByRecursion (λ b. b.bits ≡ after.bits) after.books
    bits_after its_bits =
        subst (λ (n : ℕ). AllByRecursion (λ b. b.bits ≡ n) after.books) (sym bits)
        (subst (λ (bs : List Contents). AllByRecursion (λ b. b.bits ≡ m.bits) bs) (sym its_books) its_bits)

    -- and it leaves a lawful live monitor
    pub stays_monitor : IsMonitor m → AllByRecursion (λ b. b.bits ≡ m.bits) books →
        length books ≡ length m.books → IsMonitor after
    stays_monitor was its_bits count = record {
      plan = subst plan_table.IsSound (sym plan) was.plan;
      few_terms = subst (λ (q : plan_table.Table). AllByRecursion (λ u. HasFewTerms u.kind) q.subs)
          (sym plan) was.few_terms;
      some_bits = subst (λ (n : ℕ). 1 ≤ n) (sym bits) was.some_bits;
      few_bits = subst (λ (n : ℕ). n ≤ 20) (sym bits) was.few_bits;
      book_count = ap length its_books ∙ count ∙ was.book_count ∙
          sym (ap (λ (q : plan_table.Table). length q.variables) plan);
      book_bits = bits_after its_bits;
      handle_count = remembers.count;
      some_events = λ has. let c = events in omega (arith, c);
    }

    pub stays_live : AllByRecursion (λ b. b.bits ≡ m.bits) books → AllByRecursion IsBook books →
        IsLive after
    stays_live its_bits sound =
        let its_sound = subst (λ (bs : List Contents). AllByRecursion IsBook bs) (sym its_books) sound in
        let shaped =
        living m monitor live shared e (told_of m live.books monitor.book_count e)
        (λ x p. told_is m live.books monitor.book_count e x) next
        (are_next m live.books monitor.book_count e books served)
        (no_more m live.books monitor.book_count e books served) after comes_next
        (bits_after its_bits) its_sound in
        record {
          books = its_sound;
          valid = remembers.valid;
          next = remembers.next;
          memory = shaped.0;
          now = λ has. shaped.1;
        }

-- an event that is refused before its rows
serving_refused : (m : State) → IsMonitor m → IsLive m → (e : Event) (books : List Contents)
    (after : State) (end : ServeEnd) →
    AnswersServing m.bits m.plan.subs e (remembered m) m.books books (Err end) →
    MatchEnd (Err (serve_end end)) (Reads m e after)
serving_refused m monitor live e books after (serve.CodesFull x n) served =
    reads_codes m live.books monitor.book_count e after books x n served
serving_refused m monitor live e books after serve.NoMemory served = tt

-- a live monitor's diagrams have the shape of their subformulas
pub live_shape : (m : State) → IsLive m → HasShape m
live_shape m live = record { memory = live.memory; now = live.now }

-- ---- the stages of a step, as its code names what they have

-- after an event there are events
pub some_events : (n : ℕ) → nat_lt 0 (n + 1) ≡ true
some_events n = grind (arith, nat_tests)

-- a needed text has a code in its variable's book, however the books are named
pub codes_named : (m before : State) → m ≡ before → (e : Event) (own : List Contents) → own ≡ m.books →
    HasCodesFor before e → (x : ℕ) (t : Text) → x < length m.plan.variables →
    Has (need m.plan.subs x e) t → code_of (pairs_at own x) t ≢ None
codes_named m before same e own its_books codes x t p h =
    subst (λ (bs : List Contents). code_of (pairs_at bs x) t ≢ None) (sym its_books)
    (subst (λ (b : State). HasCodesFor b e) (sym same) codes x t p h)

-- codes of atoms, however they are named
pub coded_named : (fr : Frame) (subs : List Sub) (coded own : List BlockCode)
    (slots matched : List (Option Stretch)) → own ≡ coded → matched ≡ slots →
    AreCoded fr subs coded slots → AreCoded fr subs own matched
coded_named fr subs coded own slots matched p q h =
    subst (λ (cs : List BlockCode). AreCoded fr subs cs matched) (sym p)
    (subst (λ (ss : List (Option Stretch)). AreCoded fr subs coded ss) (sym q) h)

module _ (m before : State) (same : m ≡ before) (monitor : IsMonitor m) (live : IsLive m)
    (shared : IsShared m.shelf.table) (e : Event) (n : ℕ) (its : n ≡ kept m) (hs : List ℕ)
    (its_handles : hs ≡ m.handles) (own : List Contents) (its_books : own ≡ m.books)
    (books : List Contents) where
  -- what comes of serving
  abbrev Served : Result Unit ServeEnd → Type 0
  Served r = AnswersServing m.bits m.plan.subs e (map (tree_of m.shelf.table) (take n hs)) own books r

  as_own : (r : Result Unit ServeEnd) → Served r →
      AnswersServing m.bits m.plan.subs e (remembered m) m.books books r
  as_own r h =
      subst (λ (bs : List Contents). AnswersServing m.bits m.plan.subs e (remembered m) bs books r) its_books
      (subst (λ (front : List ℕ). AnswersServing m.bits m.plan.subs e (map (tree_of m.shelf.table) (take (kept m) front)) own books r) its_handles
      (subst (λ (k : ℕ). AnswersServing m.bits m.plan.subs e (map (tree_of m.shelf.table) (take k hs)) own books r) its h))

  -- an event that is refused for its codes
  pub codes_refused : (after : State) (end : ServeEnd) → Served (Err end) → (r : Result Unit StepEnd) →
      IsErrAnd r (λ s. s ≡ serve_end end) → MatchEnd r (Reads before e after)
  codes_refused after end h (Ok u) made = absurd made
  codes_refused after end h (Err s) made =
      subst (λ (b : State). MatchEnd (Err s) (Reads b e after)) same
      (subst (λ (q : StepEnd). MatchEnd (Err q) (Reads m e after)) (sym made)
      (serving_refused m monitor live e books after end (as_own (Err end) h)))

  module _ (u : Unit {0}) (h : Served (Ok u)) (t : Table) (nodes : t.nodes ≡ m.shelf.table.nodes)
      (room : t.room ≡ m.shelf.table.room) (f : of_rows.Frame) (bits : f.bits ≡ m.bits)
      (frame_books : f.books.now ≡ books) (event : f.event.now ≡ e)
      (delta : f.delta ≡ time_since m.events m.last_time e) (front : List ℕ)
      (front_is : front ≡ m.handles) where
    served : AnswersServing m.bits m.plan.subs e (remembered m) m.books books (Ok tt)
    served = as_own (Ok u) h

    abbrev made : Sources
    made = sources_of m.plan t.room f (map (tree_of t) (take n front))

    trees_same : map (tree_of t) (take n front) ≡ remembered m
    trees_same =
        trees_kept m.shelf.table t (take n front) nodes ∙
        ap (λ (k : ℕ). map (tree_of m.shelf.table) (take k front)) its ∙
        ap (λ (ks : List ℕ). map (tree_of m.shelf.table) (take (kept m) ks)) front_is

    made_from_list : made ≡ from_list m monitor live shared e books served
    made_from_list =
        sources_same m monitor live shared e books served f t.room (map (tree_of t) (take n front)) bits
        frame_books event delta room trees_same

    pub rows_readable : AreReadable made
    rows_readable = readable m monitor live shared e books served made made_from_list

    -- an event that is refused for its rows
    pub nodes_refused : (after : State) (full : full_row.NodesFull) →
        nodes_full made ≡ Some (full.subformula, full.row) → (r : Result Unit StepEnd) →
        IsErrAnd r (λ s. s ≡ rows_end full) → MatchEnd r (Reads before e after)
    nodes_refused after full over (Ok v) is = absurd is
    nodes_refused after full over (Err s) is =
        subst (λ (b : State). MatchEnd (Err s) (Reads b e after)) same
        (subst (λ (q : StepEnd). MatchEnd (Err q) (Reads m e after)) (sym is)
        (rows_refused m monitor live shared e books served made made_from_list after full over))

    -- an event that is judged
    module _ (after : State) (mid : List ℕ) (rows : HasRows made front mid t after.shelf.table)
        (handles : after.handles ≡ brought_forward n mid) (plan : after.plan ≡ m.plan)
        (its_bits : after.bits ≡ m.bits) (its_room : after.shelf.table.room ≡ m.shelf.table.room)
        (after_books : after.books ≡ books) (is_live : after.live ≡ true)
        (has_now : after.has_now ≡ true) (events : after.events ≡ m.events + 1)
        (time : after.last_time ≡ e.time) where
      own_handles : after.handles ≡ brought_forward (kept m) mid
      own_handles = subst (λ (k : ℕ). after.handles ≡ brought_forward k mid) its handles

      pub next_read : Reads before e after None
      next_read =
          subst (λ (b : State). Reads b e after None) same
          (judged m monitor live shared e books served after t front mid made made_from_list rows
          own_handles front_is plan its_bits its_room after_books is_live has_now events time)

      pub next_monitor : AllByRecursion (λ b. b.bits ≡ m.bits) books → length books ≡ length own →
          IsMonitor after
      next_monitor book_bits count =
          stays_monitor m monitor live shared e books served after t front mid made made_from_list rows
          own_handles front_is plan its_bits its_room after_books is_live has_now events time monitor
          book_bits (count ∙ ap length its_books)

      pub next_live : AllByRecursion (λ b. b.bits ≡ m.bits) books → AllByRecursion IsBook books →
          IsLive after
      next_live book_bits sound =
          stays_live m monitor live shared e books served after t front mid made made_from_list rows
          own_handles front_is plan its_bits its_room after_books is_live has_now events time book_bits
          sound

      pub next_shape : AllByRecursion (λ b. b.bits ≡ m.bits) books → AllByRecursion IsBook books →
          HasShape after
      next_shape book_bits sound = live_shape after (next_live book_bits sound)

-- ---- what a step costs

-- the steps of serving, where none are taken if no tree is remembered
serving_cost : (variables remembered room bits old new : ℕ) →
    new ≤ old + variables * ((2 ^ bits - 1) * ((room + 2) * (2 * bits + 1))) →
    (remembered ≡ 0 → new ≡ old) →
    new ≤ old + variables * remembered * ((room + 2) * (2 * bits + 3) * 2 ^ bits)
serving_cost variables zero room bits old new cost idle = let e = idle refl in omega (arith, e)
serving_cost variables (suc r) room bits old new cost idle =
    let walk = (room + 2) * (2 * bits + 1) in
    let long = (room + 2) * (2 * bits + 3) in
    let fewer : (2 ^ bits - 1) * walk ≤ 2 ^ bits * walk = mul-le-mul_right walk (omega arith) in
    let longer : 2 ^ bits * walk ≤ 2 ^ bits * long = mul-le-mul_left (2 ^ bits) (mul-le-mul_left (room + 2) (omega arith)) in
    let turned : 2 ^ bits * long ≡ long * 2 ^ bits = mul_comm (2 ^ bits) long in
    let each : variables * ((2 ^ bits - 1) * walk) ≤ variables * (long * 2 ^ bits) =
    mul-le-mul_left variables (omega (arith, fewer, longer, turned)) in
    let more : variables * (long * 2 ^ bits) ≤ variables * suc r * (long * 2 ^ bits) =
    mul-le-mul_right (long * 2 ^ bits) (le-mul_of_pos_right variables (omega arith)) in
    omega (arith, cost, each, more)

-- the steps of all rows
rows_cost : (count pairs : ℕ) → count * (6 * pairs) ≡ 6 * count * pairs
rows_cost count pairs = sym (mul_assoc count 6 pairs) ∙ ap (λ (n : ℕ). n * pairs) (mul_comm count 6)

large_kept : (s u : Shelf) → u.table.room ≡ s.table.room → u.memo.entries ≡ s.memo.entries →
    IsLarge s → IsLarge u
large_kept s u room entries h =
    subst (λ (k : ℕ). (u.table.room + 2) * (u.table.room + 3) ≤ k) (sym entries)
    (subst (λ (k : ℕ). (k + 2) * (k + 3) ≤ s.memo.entries) (sym room) h)

module _ (m before : State) (same : m ≡ before) (monitor : IsMonitor m) (n : ℕ) (its : n ≡ kept m)
    (hs : List ℕ) (its_handles : hs ≡ m.handles) (books : List Contents) (its_books : books ≡ m.books) where
  abbrev serving_steps : ℕ
  serving_steps = length books * ((2 ^ m.bits - 1) * ((m.shelf.table.room + 2) * (2 * m.bits + 1)))

  serving_few : (old new : ℕ) → new ≤ old + serving_steps → (take n hs ≡ [] → new ≡ old) →
      new ≤ old + variables_of m * kept m * ((m.shelf.table.room + 2) * (2 * m.bits + 3) * 2 ^ m.bits)
  serving_few old new cost idle =
      let count = ap (λ (bs : List Contents). length bs) its_books ∙ monitor.book_count in
      serving_cost (variables_of m) (kept m) m.shelf.table.room m.bits old new
      (subst (λ (v : ℕ). new ≤ old + v * ((2 ^ m.bits - 1) * ((m.shelf.table.room + 2) * (2 * m.bits + 1)))) count cost)
      (λ none. idle (ap (λ (k : ℕ). take k hs) (its ∙ none)))

  -- the steps of an event that is refused before its rows
  pub serving_bound : (old new : ℕ) → new ≤ old + serving_steps → (take n hs ≡ [] → new ≡ old) →
      new ≤ old + step_bound before
  serving_bound old new cost idle =
      let c = serving_few old new cost idle in
      subst (λ (b : State). new ≤ old + step_bound b) same (omega (arith, c))

  -- the steps of an event
  pub event_bound : (old mid new : ℕ) (u : Shelf) → mid ≤ old + serving_steps → (take n hs ≡ [] → mid ≡ old) →
      u.table.room ≡ m.shelf.table.room → u.memo.entries ≡ m.shelf.memo.entries →
      (IsLarge u → new ≤ mid + sum_by (λ s. rows_of s.kind m.bits) m.plan.subs * (6 * handle_pairs u.table)) →
      IsLarge before.shelf → new ≤ old + step_bound before
  event_bound old mid new u cost idle room entries made large =
      let c = serving_few old mid cost idle in
      let rows = subst
      (λ (k : ℕ). new ≤ mid + sum_by (λ s. rows_of s.kind m.bits) m.plan.subs * (6 * ((k + 2) * (k + 2))))
      room (made (large_kept m.shelf u room entries (subst (λ (b : State). IsLarge b.shelf) (sym same) large))) in
      let turned = rows_cost (sum_by (λ s. rows_of s.kind m.bits) m.plan.subs) ((m.shelf.table.room + 2) * (m.shelf.table.room + 2)) in
      subst (λ (b : State). new ≤ old + step_bound b) same (omega (arith, c, rows, turned))
