-- What one event does to a live monitor, by its own books and trees, whether or not it stands for a
-- log.
use Rattle.std.specs.Prelude.{◌≡◌, ◌≢◌, ℕ, ◌+◌, ◌≤◌, ◌<◌, ◌↔◌, List, [], ◌∷◌, ◌++◌, length, true, Option, Some, None}
use Rattle.qtl_syntax.specs.Tree.{Text}
use Rattle.qtl_truth.specs.declared.event.Event.{Event}
use Rattle.node_tree.specs.Tree.{Tree}
use Rattle.value_codes.specs.Pairs.{Pairs, code_of}
use Rattle.code_reclaim.specs.Told.{told_apart}
use Rattle.subformulas.specs.Memory.{IsTemporal}
use Rattle.subformulas.specs.Texts.{Has}
use Rattle.monitor_model.specs.Setting.{first_of}
use Rattle.monitor_model.specs.Ends.{End, CodesFull, NodesFull, codes_full, AreNext, sources, IsEnd}
use Rattle.monitor_model.specs.Rows.{Sources, nodes_full, now_at, next_at}
use Rattle.monitor_model.specs.State.{State, setting_of, memory_of, now_of, remembered, pairs_in, SameCodes, Stands, GivesTruth}

-- these are the texts of a book whose codes the trees tell apart
pub record AreTold (trees : List Tree) (first bits : ℕ) (book : Pairs) (told : List Text) :
    Type 0 where
  pub tells : (t : Text) (c : ℕ) → code_of book t ≡ Some c →
      (told_apart trees first bits c ≡ true) ↔ Has told t
  pub coded : (t : Text) → Has told t → code_of book t ≢ None

module _ (before : State) (e : Event) where
  -- what the event's rows are made from, with these books
  abbrev pub sources_of : (books : ℕ → Pairs) → Sources
  sources_of books =
      sources (setting_of before) before.events before.last_time e books (memory_of before)

  -- codes suffice, these are the next books, and this comes of the rows
  abbrev pub Rowed : (told : ℕ → List Text) → (books : ℕ → Pairs) → Option (ℕ × ℕ) → Type 0
  Rowed told books full =
      (codes_full (setting_of before) e told ≡ None) ×
      AreNext (setting_of before) e told (pairs_in before) books ×
      (nodes_full (sources_of books) ≡ full)

  module _ (after : State) where
    -- the monitor after an event for which codes and nodes sufficed: live, of the same plan and
    -- sizes, with the books and trees that the event gives
    pub record IsNext (books : ℕ → Pairs) : Type 0 where
      pub live : after.live ≡ true
      pub plan : after.plan ≡ before.plan
      pub bits : after.bits ≡ before.bits
      pub room : after.shelf.table.room ≡ before.shelf.table.room
      pub same : (x : ℕ) → x < length before.plan.variables → SameCodes (pairs_in after x) (books x)
      pub memory : (k : ℕ) → IsTemporal before.plan.subs k →
          memory_of after k ≡ next_at (sources_of books) k
      pub now : (k : ℕ) → 1 ≤ k → k ≤ length before.plan.subs →
          now_of after k ≡ now_at (sources_of books) k
      pub has_now : after.has_now ≡ true
      pub events : after.events ≡ before.events + 1
      pub time : after.last_time ≡ e.time

    -- what comes where these texts are told apart
    abbrev pub Comes : (told : ℕ → List Text) → Option End → Type 0
    Comes told None = (books : ℕ → Pairs) × Rowed told books None × IsNext books
    Comes told (Some (CodesFull x n)) = codes_full (setting_of before) e told ≡ Some (x, n)
    Comes told (Some (NodesFull k r)) = (books : ℕ → Pairs) × Rowed told books (Some (k, r))

    -- so of every live monitor: a text is told apart where it has a code that the trees tell apart
    pub record Reads (end : Option End) : Type 0 where
      pub told : ℕ → List Text
      pub told_is : (x : ℕ) → x < length before.plan.variables →
          AreTold (remembered before) (first_of (setting_of before) x) before.bits
          (pairs_in before x) (told x)
      pub comes : Comes told end

    -- of one that stands for a log: it stands for one event more, or the event has the end that it
    -- is refused with
    abbrev pub Answers : List Event → Option End → Type 0
    Answers log None =
        IsEnd (setting_of before) log (length log) e None ×
        Stands after (log ++ e ∷ []) × GivesTruth after (log ++ e ∷ [])
    Answers log (Some end) = IsEnd (setting_of before) log (length log) e (Some end)
