-- The laws on which a step rests.
use Rattle.std.specs.Prelude.{◌≡◌, ℕ, ◌+◌, ◌-◌, ◌^◌, ◌<◌, ◌≤◌, ◌↔◌, List, [], ◌∷◌, ◌++◌, Bool, true, IsTrue, Option, Some, None, slice_get}
use Rattle.qtl_syntax.specs.Tree.{Text}
use Rattle.qtl_truth.specs.Laws.{SameTo}
use Rattle.qtl_truth.specs.Truth.{IsLog, time_at}
use Rattle.qtl_truth.specs.declared.event.Event.{Event}
use Rattle.subformulas.specs.Memory.{IsTemporal, Told}
use Rattle.subformulas.specs.Needs.{need, code_need, IsToldTexts}
use Rattle.subformulas.specs.Pinned.{pinned}
use Rattle.subformulas.specs.Table as table
use Rattle.subformulas.specs.declared.table.Kind.{Kind}
use Rattle.subformulas.specs.declared.table.Kind.TheVariants as kind
use Rattle.subformulas.specs.declared.table.Sub.{Sub}
use Rattle.value_codes.specs.Pairs.{Pairs, code_of, IsPaired}
use Rattle.node_tree.specs.Tree.{Tree, Zero, One, IsOrdered, IsReduced}
use Rattle.bdd_ops.specs.declared.op.Op.TheVariants.{And, Or}
use Rattle.bdd_ops.specs.Numbers.{truth_of}
use Rattle.bdd_ops.specs.Cube.{all_hold}
use Rattle.bdd_ops.specs.Codes.{code_literals}
use Rattle.timed_bits.specs.Ages.{spelled}
use Rattle.code_reclaim.specs.Told.{told_apart}
use Rattle.monitor_model.specs.Setting.{Setting, first_of}
use Rattle.monitor_model.specs.Books.{Gives, IsBook, IsNextBook}
use Rattle.monitor_model.specs.Blocks.{AreRows}
use Rattle.monitor_model.specs.Operations.{IsSomeOfBlock, IsEachOfBlock}
use Rattle.monitor_model.specs.Ends.{End, AreNext, sources, IsEnd}
use Rattle.monitor_model.specs.Reading.{Reads, Answers}
use Rattle.monitor_model.specs.Rows.{of_temporal, now_at, next_at}
use Rattle.monitor_model.specs.Shape.{AreMemories, AreResults}
use Rattle.monitor_model.specs.Stands.{IsPlan, StandsFor, AreNow, IsRemembered}
use Rattle.monitor_model.specs.State.{State, setting_of, SameCodes, Stands, GivesTruth, IsMonitor, IsLive}

-- what is remembered before the first event
abbrev pub first_memory : Kind → Tree
first_memory kind.Always = One
first_memory _ = Zero

-- the books before the first event have the pinned texts
pub record AreFirst (s : Setting) (books : ℕ → Pairs) : Type 0 where
  pub pins : (x : ℕ) → x < s.variables → Gives s.bits (pinned s.subs x) [] (books x)
  pub no_more : (x : ℕ) → s.variables ≤ x → books x ≡ []

-- a new monitor stands for the first 0 events of each log
abbrev pub OpenStands : Type 0
OpenStands =
    (s : Setting) (log : List Event) (books : ℕ → Pairs) (memory : ℕ → Tree) → IsPlan s →
    AreFirst s books →
    ((k : ℕ) (u : Sub) → 1 ≤ k → slice_get s.subs (k - 1) ≡ Some u →
    memory k ≡ first_memory u.kind) →
    StandsFor s log 0 books memory

-- what the rows make after i events of a log, with the next books, are the trees of the next event
-- and what is remembered after it, whether or not they fit; and the remembered trees mean the same
-- by the next books
pub record StepsOn (s : Setting) (log : List Event) (i : ℕ) (e : Event) (books : ℕ → Pairs)
    (memory : ℕ → Tree) : Type 0 where
  pub stands : StandsFor s log (i + 1) books (next_at (sources s i (time_at log i) e books memory))
  pub now : AreNow s log (i + 1) books (now_at (sources s i (time_at log i) e books memory))
  pub kept : (k : ℕ) → IsTemporal s.subs k → IsRemembered s log i books k (memory k)

abbrev pub StepStands : Type 0
StepStands =
    (s : Setting) (log : List Event) (i : ℕ) (e : Event) (told : ℕ → List Text)
    (before books : ℕ → Pairs) (memory : ℕ → Tree) → IsPlan s → IsLog log →
    slice_get log i ≡ Some e →
    StandsFor s log i before memory →
    ((x : ℕ) → x < s.variables → IsToldTexts s.subs log x i (told x)) →
    AreNext s e told before books → ((x : ℕ) → s.variables ≤ x → books x ≡ []) →
    StepsOn s log i e books memory

-- of a text with a code the trees tell whether it is told apart; a text without a code isn't
pub record TreesTell (s : Setting) (log : List Event) (i : ℕ) (books : ℕ → Pairs)
    (memory : ℕ → Tree) : Type 0 where
  pub coded : (x : ℕ) (t : Text) (c : ℕ) → x < s.variables → code_of (books x) t ≡ Some c →
      (told_apart (of_temporal memory 1 s.subs) (first_of s x) s.bits c ≡ true) ↔
      Told s.subs log x i t
  pub uncoded : (x : ℕ) (t : Text) → x < s.variables → code_of (books x) t ≡ None →
      ¬ Told s.subs log x i t

abbrev pub StandsTell : Type 0
StandsTell =
    (s : Setting) (log : List Event) (i : ℕ) (books : ℕ → Pairs) (memory : ℕ → Tree) → IsPlan s →
    IsLog log → StandsFor s log i books memory → TreesTell s log i books memory

-- the trees of each monitor that stands for a log give truth and memory
abbrev pub StandsGive : Type 0
StandsGive =
    (m : State) (log : List Event) → IsMonitor m → IsLog log → Stands m log → GivesTruth m log

-- what stands after i events hangs on these events alone
abbrev pub PrefixStands : Type 0
PrefixStands =
    (s : Setting) (log log' : List Event) (i : ℕ) (books : ℕ → Pairs) (memory : ℕ → Tree) →
    IsPlan s →
    SameTo i log log' → StandsFor s log i books memory → StandsFor s log' i books memory

-- there is a next book exactly where the codes suffice
abbrev pub CodesExact : Type 0
CodesExact =
    (s : Setting) (log : List Event) (i : ℕ) (e : Event) (books : ℕ → Pairs) (memory : ℕ → Tree) →
    IsPlan s → IsLog log → slice_get log i ≡ Some e → StandsFor s log i books memory →
    (x : ℕ) (told : List Text) → x < s.variables → IsToldTexts s.subs log x i told →
    ((after : Pairs) × IsNextBook s.bits (pinned s.subs x) told (need s.subs x e) (books x) after) ↔
    (code_need (pinned s.subs x) told (need s.subs x e) < 2 ^ s.bits)

-- at most one book
abbrev pub OneBook : Type 0
OneBook =
    (bits : ℕ) (subs : List Sub) (log : List Event) (x i : ℕ) (a b : Pairs) →
    IsBook bits subs log x i a → IsBook bits subs log x i b → a ≡ b

-- at most one thing comes at an event
abbrev pub OneEnd : Type 0
OneEnd =
    (s : Setting) (log : List Event) (i : ℕ) (e : Event) (a b : Option End) → IsPlan s →
    IsEnd s log i e a → IsEnd s log i e b → a ≡ b

-- of each live monitor the texts that are told apart are a list
abbrev pub ToldExist : Type 0
ToldExist =
    (s : Setting) (log : List Event) (i : ℕ) (books : ℕ → Pairs) (memory : ℕ → Tree) → IsPlan s →
    IsLog log → StandsFor s log i books memory → (x : ℕ) → x < s.variables →
    (told : List Text) × IsToldTexts s.subs log x i told

-- books with the same codes have next books with the same codes
abbrev pub OrderFree : Type 0
OrderFree =
    (bits : ℕ) (pins told needed : List Text) (a b a' b' : Pairs) → IsPaired a → IsPaired b →
    SameCodes a b → IsNextBook bits pins told needed a a' → IsNextBook bits pins told needed b b' →
    SameCodes a' b'

-- what the rows make of remembered trees of that shape has that shape, and so do the trees of the
-- event
pub record StayShaped (s : Setting) (events last : ℕ) (e : Event) (books : ℕ → Pairs)
    (memory : ℕ → Tree) : Type 0 where
  pub next : AreMemories s books (next_at (sources s events last e books memory))
  pub now : AreResults s books (now_at (sources s events last e books memory))

-- no code is that of all ones
abbrev pub HaveCodesBelow : Setting → (books : ℕ → Pairs) → Type 0
HaveCodesBelow s books =
    (x : ℕ) (t : Text) (c : ℕ) → code_of (books x) t ≡ Some c → c < 2 ^ s.bits - 1

-- each remembered tree is ordered and reduced, as each tree of a table of nodes is
abbrev pub AreDiagrams : List Sub → (memory : ℕ → Tree) → Type 0
AreDiagrams subs memory =
    (k : ℕ) → IsTemporal subs k → IsOrdered (memory k) × IsReduced (memory k)

-- of remembered trees of that shape, which are diagrams, the rows make trees of that shape
abbrev pub ShapesStay : Type 0
ShapesStay =
    (m : State) (events last : ℕ) (e : Event) (books : ℕ → Pairs) (memory : ℕ → Tree) →
    table.IsSound m.plan → HaveCodesBelow (setting_of m) books →
    AreDiagrams m.plan.subs memory → AreMemories (setting_of m) books memory →
    StayShaped (setting_of m) events last e books memory

-- what an event does by the monitor's own books and trees is what the log says, where it stands for
-- one
abbrev pub ReadsAnswer : Type 0
ReadsAnswer =
    (before after : State) (log : List Event) (e : Event) (end : Option End) → IsMonitor before →
    IsLive before → IsLog (log ++ e ∷ []) → Stands before log → Reads before e after end →
    Answers before e after log end

-- rows over the bits of a block, the last one first, quantify over the block
abbrev pub RowsQuantify : Type 0
RowsQuantify =
    (first n : ℕ) (h result : Tree) → IsOrdered h → IsReduced h →
    (AreRows (truth_of Or) first n h result → IsSomeOfBlock first n h result) ×
    (AreRows (truth_of And) first n h result → IsEachOfBlock first n h result)

-- the literals of a code hold exactly where the bits spell it
abbrev pub LiteralsSpell : Type 0
LiteralsSpell =
    (first n c : ℕ) (bits : List Bool) → c < 2 ^ n →
    IsTrue (all_hold (code_literals first n c) bits) ↔ (spelled bits first n ≡ c)
