-- What the functions of src/laws.rt show.
use Rattle.std.specs.Prelude.{◌≡◌, ℕ, ◌+◌, ◌-◌, ◌<◌, ◌≤◌, ◌⊎◌, ◌↔◌, ◌^◌, List, map, Some, slice_get, length, IsTrue}
use Rattle.std.specs.List.{AllByRecursion}
use Rattle.qtl_syntax.specs.Tree.{Text}
use Rattle.qtl_truth.specs.Laws.{SameTo}
use Rattle.qtl_truth.specs.Truth.{IsLog}
use Rattle.qtl_truth.specs.declared.event.Event.{Event}
use Rattle.qtl_truth.specs.declared.numbered_atom.Atom.{Atom}
use Rattle.subformulas.specs.Assigned.{Texts, texts_in, put, text_of, Truth}
use Rattle.subformulas.specs.Facts.{Fact}
use Rattle.subformulas.specs.Free.{IsFreeAt}
use Rattle.subformulas.specs.Memory.{IsTemporal, Told, SameMemory, IsPlain, memo_at}
use Rattle.subformulas.specs.Needs.{need, given, fits, IsToldTexts}
use Rattle.subformulas.specs.Pinned.{pinned, marks, fresh}
use Rattle.subformulas.specs.Table.{Table, IsTable, UsesBelow, IsSound}
use Rattle.subformulas.specs.Texts.{Has}
use Rattle.subformulas.specs.TimeBits.{past_bound, time_bits}
use Rattle.subformulas.specs.Unfolded.{formula_at, formula_with}
use Rattle.subformulas.specs.declared.table.PlanProp.{PlanProp}
use Rattle.subformulas.specs.declared.table.Sub.{Sub}
use Rattle.wellformed.specs.CoreTruth.{TrueCore}

-- the formula of a number is its kind over the formulas of its children
abbrev pub Unfolds : Type 0
Unfolds =
    (subs : List Sub) (k : ℕ) (s : Sub) →
    IsTable 0 subs → 1 ≤ k → slice_get subs (k - 1) ≡ Some s →
    formula_at subs k ≡ formula_with s.kind (formula_at subs s.left) (formula_at subs s.right)

-- truth under a list that has a text for each variable of the table is truth under the texts of the
-- list
abbrev pub ReadsLists : Type 0
ReadsLists =
    (subs : List Sub) (variables : ℕ) (log : List Event) (k : ℕ) (ts : List Text) (i : ℕ) →
    IsTable 0 subs → AllByRecursion (λ s. UsesBelow variables s.kind) subs →
    variables ≤ length ts → 1 ≤ k → k ≤ length subs →
    TrueCore log ts (formula_at subs k) i ↔ Truth log (formula_at subs k) (texts_in ts) i

-- truth looks at a variable's text only to see which of its marks it is
abbrev pub LooksAtMarks : Type 0
LooksAtMarks =
    (subs : List Sub) (log : List Event) (k : ℕ) (nu nu' : Texts) (i : ℕ) →
    IsTable 0 subs → 1 ≤ k → k ≤ length subs → 1 ≤ i →
    ((x : ℕ) (a : Text) → Has (marks subs log i x) a → (nu x ≡ a) ↔ (nu' x ≡ a)) →
    Truth log (formula_at subs k) nu i ↔ Truth log (formula_at subs k) nu' i

-- a fresh text is no argument and no constant
abbrev pub FreshIsNew : Type 0
FreshIsNew =
    (subs : List Sub) (log : List Event) (x i : ℕ) →
    ¬ Has (marks subs log i x) (fresh subs log i)

-- texts that aren't marks of x give the same memory
abbrev pub FreshAlike : Type 0
FreshAlike =
    (subs : List Sub) (log : List Event) (x i : ℕ) (s t : Text) → IsTable 0 subs →
    ¬ Has (marks subs log i x) s → ¬ Has (marks subs log i x) t → SameMemory subs log x i s t

-- a text that is told apart is an argument of the prefix, or a constant that the variable is
-- compared with
abbrev pub ToldIsMark : Type 0
ToldIsMark =
    (subs : List Sub) (log : List Event) (x i : ℕ) (t : Text) → IsTable 0 subs →
    Told subs log x i t → Has (marks subs log i x) t

-- a text is plain exactly where it isn't told apart
abbrev pub UntoldIsPlain : Type 0
UntoldIsPlain =
    (subs : List Sub) (log : List Event) (x i : ℕ) (t : Text) → IsTable 0 subs →
    (¬ Told subs log x i t) ↔ IsPlain subs log x i t

-- in a log, a plain text that is no constant of x and that the event doesn't give to x makes each
-- subformula true as a fresh one does, and stays plain
abbrev pub PlainStays : Type 0
PlainStays =
    (subs : List Sub) (log : List Event) (x i : ℕ) (e : Event) (t : Text) →
    IsTable 0 subs → IsLog log → slice_get log i ≡ Some e → IsPlain subs log x i t →
    ¬ Has (pinned subs x) t → ¬ Has (need subs x e) t →
    IsPlain subs log x (i + 1) t ×
    ((k : ℕ) (nu : Texts) → 1 ≤ k → k ≤ length subs →
    Truth log (formula_at subs k) (put x t nu) (i + 1) ↔
    Truth log (formula_at subs k) (put x (fresh subs log (i + 1)) nu) (i + 1))

-- truth is decided
abbrev pub Decided : Type 0
Decided =
    (subs : List Sub) (log : List Event) (k : ℕ) (nu : Texts) (i : ℕ) →
    IsTable 0 subs → 1 ≤ k → k ≤ length subs → 1 ≤ i →
    Truth log (formula_at subs k) nu i ⊎ (¬ Truth log (formula_at subs k) nu i)

-- at most one list has the texts that are told apart
abbrev pub OneTold : Type 0
OneTold =
    (subs : List Sub) (log : List Event) (x i : ℕ) (ts us : List Text) →
    IsToldTexts subs log x i ts → IsToldTexts subs log x i us → ts ≡ us

-- an atom fits a fact exactly where some texts make it true there, and then exactly those that give
-- what the fact gives
abbrev pub FitsSome : Type 0
FitsSome =
    (a : Atom) (q : Fact) →
    (IsTrue (fits a q) ↔ ((nu : Texts) × (a.name ≡ q.name) × (map (text_of nu) a.terms ≡ q.args))) ×
    (IsTrue (fits a q) → (nu : Texts) →
    (map (text_of nu) a.terms ≡ q.args) ↔
    ((x : ℕ) (t : Text) → given a.terms q.args x ≡ Some t → nu x ≡ t))

-- truth, memory and fresh texts at i rest on the first i events
pub record PrefixSame (subs : List Sub) (log log' : List Event) (i : ℕ) : Type 0 where
  pub truth : (k : ℕ) (nu : Texts) → 1 ≤ i →
      Truth log (formula_at subs k) nu i ↔ Truth log' (formula_at subs k) nu i
  pub memory : (k : ℕ) (nu : Texts) (a : ℕ) → IsTemporal subs k →
      memo_at subs k log nu i a ↔ memo_at subs k log' nu i a
  pub other : fresh subs log i ≡ fresh subs log' i

abbrev pub PrefixDecides : Type 0
PrefixDecides =
    (subs : List Sub) (log log' : List Event) (i : ℕ) →
    IsTable 0 subs → SameTo i log log' → PrefixSame subs log log' i

-- a timed operator's ages are numbers of the time block, and there is none without timed operators
abbrev pub AgesFit : Type 0
AgesFit =
    (subs : List Sub) (k : ℕ) (s : Sub) →
    slice_get subs k ≡ Some s → past_bound s.kind < 2 ^ 20 → past_bound s.kind < 2 ^ time_bits subs

-- truth looks at the texts of free variables alone
abbrev pub LooksAtFree : Type 0
LooksAtFree =
    (subs : List Sub) (log : List Event) (k : ℕ) (nu nu' : Texts) (i : ℕ) →
    ((x : ℕ) → IsFreeAt subs k x → nu x ≡ nu' x) →
    Truth log (formula_at subs k) nu i ↔ Truth log (formula_at subs k) nu' i

-- truth of a property doesn't depend on the texts of variables
abbrev pub ClosedAlike : Type 0
ClosedAlike =
    (t : Table) (log : List Event) (k : ℕ) (p : PlanProp) (nu nu' : Texts) (i : ℕ) →
    IsSound t → slice_get t.props k ≡ Some p →
    Truth log (formula_at t.subs p.root) nu i ↔ Truth log (formula_at t.subs p.root) nu' i
