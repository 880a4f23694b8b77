-- What an event does by the monitor's own books and trees is what the log says, where it stands for
-- one.
use Rattle.std.proofs.Common.{◌≡◌, ◌≢◌, ℕ, zero, suc, ◌+◌, ◌<◌, ◌≤◌, ◌⊎◌, ◌↔◌, inl, inr, refl, sym, ap, ◌∙◌, subst, arith, List, [], ◌∷◌, ◌++◌, length, map, true, Option, Some, None}
use Rattle.std.specs.Prelude.{slice_get, slice_index_or}
use Rattle.std.specs.List.{AllByRecursion}
use Rattle.std.proofs.lemmas.Bool.{cases_lt}
use Rattle.qtl_syntax.specs.Tree.{Text}
use Rattle.qtl_truth.specs.Laws.{SameTo}
use Rattle.qtl_truth.specs.Truth.{IsLog, time_at}
use Rattle.qtl_truth.specs.declared.event.Event.{Event}
use Rattle.qtl_truth.proofs.Past.{same_to_append}
use Rattle.subformulas.specs.Facts.{arguments}
use Rattle.subformulas.specs.Memory.{IsTemporal, Told}
use Rattle.subformulas.specs.Needs.{need, code_need, IsToldTexts}
use Rattle.subformulas.specs.Pinned.{pinned}
use Rattle.subformulas.specs.Table as table
use Rattle.subformulas.specs.Texts.{Has}
use Rattle.subformulas.proofs.Needed.{unrepeated_has}
use Rattle.subformulas.proofs.Plain.{told_mark}
use Rattle.value_codes.specs.Pairs.{Pairs, Contents, code_of, IsPaired}
use Rattle.value_codes.specs.Pairs as codes
use Rattle.code_reclaim.specs.Told.{told_apart}
use Rattle.operation_rows.specs.Rows.{Update}
use Rattle.monitor_model.specs.Books.{IsNextBook}
use Rattle.monitor_model.specs.Ends.{End, CodesFull, NodesFull, codes_full, AreNext, time_since, sources, row_end, EndsAfter, IsEnd}
use Rattle.monitor_model.specs.Laws.{StandsTell, ToldExist, CodesExact, OrderFree, StepStands, StepsOn, TreesTell}
use Rattle.monitor_model.specs.Reading.{AreTold, IsNext, Reads, Answers, sources_of}
use Rattle.monitor_model.specs.Rows.{Sources, of_temporal, updates, nth, nodes_full, now_at, next_at}
use Rattle.monitor_model.specs.Setting.{Setting, first_of}
use Rattle.monitor_model.specs.Stands.{IsPlan, StandsFor, AreNow, IsRemembered, IsNow}
use Rattle.monitor_model.specs.State.{State, setting_of, memory_of, now_of, remembered, pairs_in, SameCodes, IsMonitor, IsLive, Stands, GivesTruth}
use Rattle.monitor_model.proofs.Reading.Codes.{same_codes_from, codes_suffice}
use Rattle.monitor_model.proofs.Reading.Logs.{front_log, last_event, longer_length, last_time, same_since}
use Rattle.monitor_model.proofs.Reading.Places.{trees_remembered}
use Rattle.monitor_model.proofs.Books.Exact.{selected}
use Rattle.monitor_model.proofs.Books.Listed.{same_need, same_next_book}
use Rattle.monitor_model.proofs.Books.Pairing.{selects}
use Rattle.monitor_model.proofs.Books.Sound.{sound}
use Rattle.monitor_model.proofs.Drawing.SameCodes.{same_updates, same_full}
use Rattle.monitor_model.proofs.Standing.Beginning.{prefix_stands, told_texts}
use Rattle.monitor_model.proofs.Telling.Given.{plan_is, gives_truth}

some_code : (o : Option ℕ) → o ≢ None → (c : ℕ) × (o ≡ Some c)
some_code None h = absurd (h refl)
some_code (Some c) h = (c, refl)

-- the pairs of each book are in pairs
paired_in : (books : List Contents) → AllByRecursion codes.IsBook books → (x : ℕ) →
    IsPaired (slice_index_or (map (λ (b : Contents). b.pairs) books) x [])
paired_in [] h x = tt
paired_in (b ∷ books) h zero = h.0.paired
paired_in (b ∷ books) h (suc x) = paired_in books h.1 x

abbrev the_setting : (bits nodes : ℕ) → table.Table → Setting
the_setting bits nodes p = record {
  bits = bits;
  nodes = nodes;
  variables = length p.variables;
  subs = p.subs;
}

-- the setting of a monitor with the same plan and sizes
pub same_setting : (a b : State) → a.plan ≡ b.plan → a.bits ≡ b.bits →
    a.shelf.table.room ≡ b.shelf.table.room → setting_of a ≡ setting_of b
same_setting a b plan bits room =
    ap (λ (p : table.Table). the_setting a.bits a.shelf.table.room p) plan
    ∙ (ap (λ (n : ℕ). the_setting n a.shelf.table.room b.plan) bits
    ∙ ap (λ (n : ℕ). the_setting b.bits n b.plan) room)

module _ (tell : StandsTell) (exist : ToldExist) (exact : CodesExact) (order : OrderFree)
    (steps : StepStands) (m : State) (log : List Event) (e : Event) (monitor : IsMonitor m)
    (live : IsLive m) (is_log : IsLog (log ++ e ∷ [])) (stands : Stands m log) where
  abbrev s : Setting
  s = setting_of m

  -- the log with the event
  abbrev whole : List Event
  whole = log ++ e ∷ []

  plan : IsPlan s
  plan = plan_is m monitor

  front : IsLog log
  front = front_log log e is_log

  agree : SameTo (length log) log whole
  agree = same_to_append log (e ∷ [])

  here : slice_get whole (length log) ≡ Some e
  here = last_event log e

  stands_whole : StandsFor s whole (length log) stands.books (memory_of m)
  stands_whole =
      prefix_stands s log whole (length log) stands.books (memory_of m) plan agree stands.stands

  -- the texts of x that are told apart
  some_texts : (x : ℕ) →
      (ts : List Text) × (x < s.variables → IsToldTexts s.subs log x (length log) ts)
  some_texts x = by_place (cases_lt x s.variables)
    where
      by_place : (x < s.variables) ⊎ (s.variables ≤ x) →
          (ts : List Text) × (x < s.variables → IsToldTexts s.subs log x (length log) ts)
      by_place (inl p) =
          let (ts, h) =
          exist s log (length log) stands.books (memory_of m) plan front stands.stands x p in
          (ts, λ q. h)
      by_place (inr p) = ([], λ q. absurd (omega (arith, p, q)))

  told_of : ℕ → List Text
  told_of x = (some_texts x).0

  told_is : (x : ℕ) → x < s.variables → IsToldTexts s.subs log x (length log) (told_of x)
  unfolding told_of
  told_is x p = (some_texts x).1 p

  trees_tell : TreesTell s log (length log) stands.books (memory_of m)
  trees_tell = tell s log (length log) stands.books (memory_of m) plan front stands.stands

  -- the remembered trees as a list
  in_order : of_temporal (memory_of m) 1 s.subs ≡ remembered m
  in_order = trees_remembered m (let c = monitor.handle_count in omega (arith, c))

  -- a text is told apart exactly where it is one of them
  told_has : (x : ℕ) → x < s.variables → (t : Text) →
      Told s.subs log x (length log) t ↔ Has (told_of x) t
  told_has x p t = (
    λ h.
        selects (Told s.subs log x (length log)) _ (told_of x) (told_is x p) t h
        (unrepeated_has (pinned s.subs x ++ arguments log (length log)) t
        (told_mark s.subs plan.table log x (length log) t h)),
    λ h. selected (Told s.subs log x (length log)) _ (told_of x) (told_is x p) t h,
  )

  module _ (told : ℕ → List Text)
      (are_told : (x : ℕ) → x < s.variables →
      AreTold (remembered m) (first_of s x) m.bits (pairs_in m x) (told x)) where
    -- the trees tell the same texts apart
    told_alike : (x : ℕ) → x < s.variables → (t : Text) →
        Has (told x) t ↔ Has (told_of x) t
    told_alike x p t = (
      λ h.
          let (c, coded) = some_code (code_of (pairs_in m x) t) ((are_told x p).coded t h) in
          (told_has x p t).0 ((by_trees c coded).0 (((are_told x p).tells t c coded).1 h)),
      λ h.
          let h' = (told_has x p t).1 h in
          by_code (code_of (pairs_in m x) t) refl h',
    )
      where
        by_trees : (c : ℕ) → code_of (pairs_in m x) t ≡ Some c →
            (told_apart (remembered m) (first_of s x) m.bits c ≡ true) ↔
            Told s.subs log x (length log) t
        by_trees c coded =
            subst
            (λ ts. (told_apart ts (first_of s x) m.bits c ≡ true) ↔
            Told s.subs log x (length log) t) in_order
            (trees_tell.coded x t c p (sym (stands.same x p t) ∙ coded))

        by_code : (o : Option ℕ) → code_of (pairs_in m x) t ≡ o →
            Told s.subs log x (length log) t → Has (told x) t
        by_code None none h =
            absurd (trees_tell.uncoded x t p (sym (stands.same x p t) ∙ none) h)
        by_code (Some c) coded h =
            ((are_told x p).tells t c coded).0 ((by_trees c coded).1 h)

    -- the codes suffice alike
    codes_alike : codes_full s e told_of ≡ codes_full s e told
    codes_alike =
        same_codes_from s.bits
        (λ x. code_need (pinned s.subs x) (told_of x) (need s.subs x e))
        (λ x. code_need (pinned s.subs x) (told x) (need s.subs x e)) 0 s.variables
        (λ x p.
        sym (same_need (pinned s.subs x) (need s.subs x e) (told x) (told_of x)
        (told_alike x (omega arith))))

    -- an event whose codes do not suffice
    codes_end : (x n : ℕ) → codes_full s e told ≡ Some (x, n) →
        IsEnd s log (length log) e (Some (CodesFull x n))
    codes_end x n full = record {
      told = told_of;
      before = stands.books;
      memory = memory_of m;
      stands = stands.stands;
      told_is = told_is;
      ends = subst
          (λ o. EndsAfter s (length log) (time_at log (length log)) e told_of stands.books
          (memory_of m) o (Some (CodesFull x n)))
          (sym (codes_alike ∙ full)) refl;
    }

    module _ (books : ℕ → Pairs) (enough : codes_full s e told ≡ None)
        (are_next : AreNext s e told (pairs_in m) books) where
      -- the next book of the log's
      next_of : (x : ℕ) → x < s.variables →
          (after : Pairs) ×
          IsNextBook s.bits (pinned s.subs x) (told_of x) (need s.subs x e) (stands.books x) after
      next_of x p =
          (exact s whole (length log) e stands.books (memory_of m) plan is_log here stands_whole x
          (told_of x) p
          (told_texts s.subs plan.table log whole (length log) x (told_of x) agree (told_is x p))).1
          (codes_suffice s.bits
          (λ y. code_need (pinned s.subs y) (told_of y) (need s.subs y e)) 0 s.variables
          (codes_alike ∙ enough) x (omega arith) (omega arith))

      -- none where there is no such variable
      next_book : (x : ℕ) → (x < s.variables) ⊎ (s.variables ≤ x) → Pairs
      next_book x (inl p) = (next_of x p).0
      next_book x (inr p) = []

      next_books : ℕ → Pairs
      next_books x = next_book x (cases_lt x s.variables)

      is_next : (x : ℕ) → x < s.variables →
          IsNextBook s.bits (pinned s.subs x) (told_of x) (need s.subs x e) (stands.books x)
          (next_books x)
      unfolding next_books next_book
      is_next x p = by_place (cases_lt x s.variables)
        where
          by_place : (o : (x < s.variables) ⊎ (s.variables ≤ x)) →
              IsNextBook s.bits (pinned s.subs x) (told_of x) (need s.subs x e) (stands.books x)
              (next_book x o)
          by_place (inl q) = (next_of x q).1
          by_place (inr q) = absurd (omega (arith, p, q))

      no_more : (x : ℕ) → s.variables ≤ x → next_books x ≡ []
      unfolding next_books next_book
      no_more x p = by_place (cases_lt x s.variables)
        where
          by_place : (o : (x < s.variables) ⊎ (s.variables ≤ x)) → next_book x o ≡ []
          by_place (inl q) = absurd (omega (arith, p, q))
          by_place (inr q) = refl

      -- the monitor's next books give the same codes
      same_next : (x : ℕ) → x < s.variables → SameCodes (books x) (next_books x)
      same_next x p =
          order s.bits (pinned s.subs x) (told_of x) (need s.subs x e) (pairs_in m x)
          (stands.books x) (books x) (next_books x) (paired_in m.books live.books x)
          (sound s.bits s.subs plan.table log x front (length log) (stands.books x)
          (stands.stands.books_are x p)).paired (stands.same x p)
          (same_next_book s.bits (pinned s.subs x) (told x) (told_of x) (need s.subs x e)
          (pairs_in m x) (books x) (told_alike x p) (are_next x p)) (is_next x p)

      -- what the rows are made from by the log, where its last time is this
      abbrev log_sources : (last : ℕ) → Sources
      log_sources last = sources s (length log) last e next_books (memory_of m)

      same_delta : time_since m.events m.last_time e ≡
          time_since (length log) (time_at log (length log)) e
      same_delta =
          ap (λ (n : ℕ). time_since n m.last_time e) stands.events
          ∙ ap (λ (t : ℕ). time_since (length log) t e) stands.time

      -- the rows of the monitor are those of the log
      rows_alike : nodes_full (sources_of m e books) ≡
          nodes_full (log_sources (time_at log (length log)))
      rows_alike =
          same_full s e (time_since m.events m.last_time e) books next_books same_next (memory_of m)
          ∙ ap
          (λ (d : ℕ). nodes_full (record {
            frame = record { setting = s; books = next_books; event = e; delta = d };
            memory = memory_of m;
          })) same_delta

      updates_alike : updates (sources_of m e books) ≡
          updates (log_sources (time_at whole (length log)))
      updates_alike =
          same_updates s e (time_since m.events m.last_time e) books next_books same_next
          (memory_of m)
          ∙ ap
          (λ (d : ℕ). updates (record {
            frame = record { setting = s; books = next_books; event = e; delta = d };
            memory = memory_of m;
          })) (same_delta ∙ same_since log whole (length log) e agree)

      -- an event whose codes suffice
      rows_end : (full : Option (ℕ × ℕ)) → nodes_full (sources_of m e books) ≡ full →
          IsEnd s log (length log) e (row_end full)
      rows_end full is_full = record {
        told = told_of;
        before = stands.books;
        memory = memory_of m;
        stands = stands.stands;
        told_is = told_is;
        ends = subst
            (λ o. EndsAfter s (length log) (time_at log (length log)) e told_of stands.books
            (memory_of m) o (row_end full))
            (sym (codes_alike ∙ enough))
            (next_books, is_next, ap row_end (sym is_full ∙ rows_alike));
      }

      -- the log's books and trees after the event
      stepped : StepsOn s whole (length log) e next_books (memory_of m)
      stepped =
          steps s whole (length log) e told_of stands.books next_books (memory_of m) plan is_log
          here stands_whole
          (λ x p. told_texts s.subs plan.table log whole (length log) x (told_of x) agree
          (told_is x p)) is_next no_more

      module _ (after : State) (is_after : IsNext m e after books) where
        setting_same : setting_of after ≡ s
        setting_same = same_setting after m is_after.plan is_after.bits is_after.room

        count : length log + 1 ≡ length whole
        count = sym (longer_length log e)

        memory_same : (k : ℕ) → IsTemporal s.subs k →
            next_at (log_sources (time_at whole (length log))) k ≡ memory_of after k
        memory_same k h =
            sym (is_after.memory k h
            ∙ ap (λ (us : List Update). (nth us k).next) updates_alike)

        now_same : (k : ℕ) → 1 ≤ k → k ≤ length s.subs →
            now_at (log_sources (time_at whole (length log))) k ≡ now_of after k
        now_same k from to =
            sym (is_after.now k from to
            ∙ ap (λ (us : List Update). (nth us k).now) updates_alike)

        stands_after : StandsFor s whole (length log + 1) next_books (memory_of after)
        stands_after = record {
          books_are = stepped.stands.books_are;
          no_more = stepped.stands.no_more;
          memory_is = λ k h.
              subst (IsRemembered s whole (length log + 1) next_books k) (memory_same k h)
              (stepped.stands.memory_is k h);
        }

        now_after : AreNow s whole (length log + 1) next_books (now_of after)
        now_after k from to =
            subst (IsNow s whole (length log + 1) next_books k) (now_same k from to)
            (stepped.now k from to)

        -- the monitor after the event stands for the log with it
        next_stands : Stands after whole
        next_stands = record {
          live = is_after.live;
          events = is_after.events ∙ (ap (λ (n : ℕ). n + 1) stands.events ∙ count);
          time = is_after.time ∙ last_time log e;
          books = next_books;
          same = λ x p t.
              let low : x < s.variables =
              subst (λ (q : table.Table). x < length q.variables) is_after.plan p in
              is_after.same x low t ∙ same_next x low t;
          stands = subst
              (λ (z : Setting). StandsFor z whole (length whole) next_books (memory_of after))
              (sym setting_same)
              (subst (λ (n : ℕ). StandsFor s whole n next_books (memory_of after)) count
              stands_after);
          now = λ has.
              subst (λ (z : Setting). AreNow z whole (length whole) next_books (now_of after))
              (sym setting_same)
              (subst (λ (n : ℕ). AreNow s whole n next_books (now_of after)) count now_after);
        }

        next_gives : GivesTruth after whole
        next_gives =
            gives_truth after whole (subst IsPlan (sym setting_same) plan)
            (λ has. let c = is_after.events in omega (arith, c)) is_log next_stands

  by_end : (after : State) (end : Option End) → Reads m e after end → Answers m e after log end
  by_end after None reads =
      let (books, rowed, is_after) = reads.comes in (
        rows_end reads.told reads.told_is books rowed.0 rowed.1 None rowed.2,
        next_stands reads.told reads.told_is books rowed.0 rowed.1 after is_after,
        next_gives reads.told reads.told_is books rowed.0 rowed.1 after is_after,
      )
  by_end after (Some (CodesFull x n)) reads =
      codes_end reads.told reads.told_is x n reads.comes
  by_end after (Some (NodesFull k r)) reads =
      let (books, rowed) = reads.comes in
      rows_end reads.told reads.told_is books rowed.0 rowed.1 (Some (k, r)) rowed.2

-- what an event does by the monitor's own books and trees is what the log says
pub reads_answer : StandsTell → ToldExist → CodesExact → OrderFree → StepStands →
    (before after : State) (log : List Event) (e : Event) (end : Option End) → IsMonitor before →
    IsLive before → IsLog (log ++ e ∷ []) → Stands before log → Reads before e after end →
    Answers before e after log end
reads_answer tell exist exact order steps before after log e end monitor live is_log stands reads =
    by_end tell exist exact order steps before log e monitor live is_log stands after end reads
