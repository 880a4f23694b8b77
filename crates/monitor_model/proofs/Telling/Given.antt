-- What the trees of a monitor that stands for a log give at each assignment: truth, and memory.
use Rattle.std.proofs.Common.{◌≡◌, ℕ, zero, suc, ◌+◌, ◌-◌, ◌^◌, ◌<◌, ◌≤◌, ◌⊎◌, ◌↔◌, inl, inr, refl, sym, ap, ◌∙◌, subst, arith, List, length, Bool, true, Option, Some, None, IsTrue}
use Rattle.std.specs.Prelude.{unwrap_or}
use Rattle.qtl_syntax.specs.Tree.{Text}
use Rattle.qtl_truth.specs.Truth.{IsLog}
use Rattle.qtl_truth.specs.declared.event.Event.{Event}
use Rattle.subformulas.specs.Assigned.{Texts, put, Truth}
use Rattle.subformulas.specs.Memory.{IsTemporal, memo_at, SameMemory}
use Rattle.subformulas.specs.Pinned.{fresh}
use Rattle.subformulas.specs.Unfolded.{formula_at}
use Rattle.subformulas.proofs.Agree.{same, joined, turned}
use Rattle.subformulas.proofs.Below.{truth_below, all_below, each_atom_below}
use Rattle.subformulas.proofs.Plain.{plain_truth}
use Rattle.subformulas.proofs.Same.{truth_same}
use Rattle.node_tree.specs.Tree.{Tree, value}
use Rattle.value_codes.specs.Pairs.{Pairs, code_of}
use Rattle.value_codes.proofs.Lookups.{code_reads}
use Rattle.monitor_model.specs.Books.{IsBook, reads}
use Rattle.monitor_model.specs.Drawn.{code_at, age_at, readings}
use Rattle.monitor_model.specs.Setting.{Setting}
use Rattle.monitor_model.specs.Stands.{IsPlan, IsNow, IsRemembered}
use Rattle.monitor_model.specs.State.{State, setting_of, memory_of, now_of, IsMonitor, Stands, IsPoint, GivesTruth}
use Rattle.monitor_model.proofs.Books.Pairing.{ones_free}
use Rattle.monitor_model.proofs.Books.Reuse.{memo_point}
use Rattle.monitor_model.proofs.Books.Sound.{IsBookFor, sound, needed_coded, uncoded_plain}

-- the bits spell the codes of the texts by these books; all ones for a text without a code
abbrev pub IsPointOf : Setting → (books : ℕ → Pairs) → Texts → List Bool → Type 0
IsPointOf s books nu p =
    (x : ℕ) → x < s.variables →
    code_at s p x ≡ unwrap_or (code_of (books x) (nu x)) (2 ^ s.bits - 1)

module _ (s : Setting) (plan : IsPlan s) (log : List Event) (is_log : IsLog log) (i : ℕ)
    (books : ℕ → Pairs)
    (books_are : (x : ℕ) → x < s.variables → IsBook s.bits s.subs log x i (books x)) where
  abbrev other_text : Text
  other_text = fresh s.subs log i

  book_for : (x : ℕ) → x < s.variables → IsBookFor s.bits s.subs log x i (books x)
  book_for x p = sound s.bits s.subs plan.table log x is_log i (books x) (books_are x p)

  -- at the point of some texts each one reads as itself, or has no code and reads as a fresh text
  read_at : (nu : Texts) (p : List Bool) → IsPointOf s books nu p → (x : ℕ) → x < s.variables →
      (readings s books other_text p x ≡ nu x) ⊎
      ((code_of (books x) (nu x) ≡ None) × (readings s books other_text p x ≡ other_text))
  read_at nu p point x low = by_code (code_of (books x) (nu x)) refl (point x low)
    where
      by_code : (o : Option ℕ) → code_of (books x) (nu x) ≡ o →
          code_at s p x ≡ unwrap_or o (2 ^ s.bits - 1) →
          (readings s books other_text p x ≡ nu x) ⊎
          ((code_of (books x) (nu x) ≡ None) × (readings s books other_text p x ≡ other_text))
      by_code (Some c) e f =
          inl (ap (reads (books x) other_text) f
          ∙ ap (λ o. unwrap_or o other_text)
          (code_reads (books x) (nu x) c (book_for x low).paired e))
      by_code None e f =
          inr (
            e,
            ap (reads (books x) other_text) f
                ∙ ap (λ o. unwrap_or o other_text)
                (ones_free s.bits (books x) (book_for x low).below),
          )

  -- what is remembered under the texts that the bits spell is what is remembered under these
  memory_at : (k a : ℕ) (nu : Texts) (p : List Bool) → IsTemporal s.subs k →
      IsPointOf s books nu p →
      memo_at s.subs k log (readings s books other_text p) i a ↔ memo_at s.subs k log nu i a
  memory_at k a nu p h point =
      turned (memo_point s plan log i k a h nu (readings s books other_text p)
      (λ x low. by_read x low (read_at nu p point x low)))
    where
      by_read : (x : ℕ) → x < s.variables →
          (readings s books other_text p x ≡ nu x) ⊎
          ((code_of (books x) (nu x) ≡ None) × (readings s books other_text p x ≡ other_text)) →
          SameMemory s.subs log x i (nu x) (readings s books other_text p x)
      by_read x low (inl e) =
          subst (λ t. SameMemory s.subs log x i (nu x) t) (sym e) (λ j mu n q. same)
      by_read x low (inr (none, e)) =
          subst (λ t. SameMemory s.subs log x i (nu x) t) (sym e)
          ((book_for x low).plain (nu x) none)

  -- a text without a code makes each subformula true as a fresh one does
  uncoded_truth : 1 ≤ i → (x : ℕ) → x < s.variables → (t : Text) → code_of (books x) t ≡ None →
      (k : ℕ) (mu : Texts) → 1 ≤ k → k ≤ length s.subs →
      Truth log (formula_at s.subs k) (put x t mu) i ↔
      Truth log (formula_at s.subs k) (put x other_text mu) i
  uncoded_truth some x low t none k mu from to = by_number i some (books_are x low)
    where
      by_number : (n : ℕ) → 1 ≤ n → IsBook s.bits s.subs log x n (books x) →
          Truth log (formula_at s.subs k) (put x t mu) n ↔
          Truth log (formula_at s.subs k) (put x (fresh s.subs log n) mu) n
      by_number zero z b = absurd (omega arith)
      by_number (suc j) z (before, told, e, was, is_told, at, next) =
          let f : j + 1 ≡ suc j = omega arith in
          let here = sound s.bits s.subs plan.table log x is_log j before was in
          subst
          (λ (n : ℕ). Truth log (formula_at s.subs k) (put x t mu) n ↔
          Truth log (formula_at s.subs k) (put x (fresh s.subs log n) mu) n) f
          (plain_truth s.subs plan.table log x is_log j e at t
          (uncoded_plain s.bits s.subs plan.table log x is_log j e at told is_told before here
          (books x) next t none)
          (λ h. needed_coded s.bits s.subs plan.table log x is_log j e at told is_told before here
          (books x) next t h none)
          k mu from to)

  -- what is true under the texts that the bits spell is true under these
  truth_at : 1 ≤ i → (k : ℕ) (nu : Texts) (p : List Bool) → 1 ≤ k → k ≤ length s.subs →
      IsPointOf s books nu p →
      Truth log (formula_at s.subs k) (readings s books other_text p) i ↔
      Truth log (formula_at s.subs k) nu i
  truth_at some k nu p from to point =
      turned (all_below (λ mu. Truth log (formula_at s.subs k) mu i)
      (λ mu mu' e. truth_same log (formula_at s.subs k) mu mu' i e) nu
      (readings s books other_text p) s.variables
      (λ mu mu' e. truth_below log s.variables (formula_at s.subs k)
      (each_atom_below s.variables s.subs plan.table plan.uses k from to) mu mu' e i)
      (λ x low mu. by_read x low mu (read_at nu p point x low)))
    where
      by_read : (x : ℕ) → x < s.variables → (mu : Texts) →
          (readings s books other_text p x ≡ nu x) ⊎
          ((code_of (books x) (nu x) ≡ None) × (readings s books other_text p x ≡ other_text)) →
          Truth log (formula_at s.subs k) (put x (nu x) mu) i ↔
          Truth log (formula_at s.subs k) (put x (readings s books other_text p x) mu) i
      by_read x low mu (inl e) =
          subst
          (λ t. Truth log (formula_at s.subs k) (put x (nu x) mu) i ↔
          Truth log (formula_at s.subs k) (put x t mu) i) (sym e) same
      by_read x low mu (inr (none, e)) =
          subst
          (λ t. Truth log (formula_at s.subs k) (put x (nu x) mu) i ↔
          Truth log (formula_at s.subs k) (put x t mu) i) (sym e)
          (uncoded_truth some x low (nu x) none k mu from to)

  -- the tree of an event gives its truth at the point of each assignment
  pub now_point : 1 ≤ i → (k : ℕ) (t : Tree) (nu : Texts) (p : List Bool) → 1 ≤ k →
      k ≤ length s.subs → IsNow s log i books k t → IsPointOf s books nu p →
      IsTrue (value t p) ↔ Truth log (formula_at s.subs k) nu i
  now_point some k t nu p from to drawn point =
      joined (drawn.values p) (truth_at some k nu p from to point)

  -- a remembered tree gives what is remembered there
  pub memory_point : (k : ℕ) (t : Tree) (nu : Texts) (p : List Bool) → IsTemporal s.subs k →
      IsRemembered s log i books k t → IsPointOf s books nu p →
      IsTrue (value t p) ↔ memo_at s.subs k log nu i (age_at s p)
  memory_point k t nu p h drawn point =
      joined (drawn.values p) (memory_at k (age_at s p) nu p h point)

-- the plan of a monitor is one that trees are drawn for
pub plan_is : (m : State) → IsMonitor m → IsPlan (setting_of m)
plan_is m monitor = record {
  table = monitor.plan.table;
  uses = monitor.plan.uses;
  bounds = monitor.plan.bounds;
}

-- of a plan's monitor that stands for a log the trees give truth and memory
pub gives_truth : (m : State) (log : List Event) → IsPlan (setting_of m) →
    (m.has_now ≡ true → 1 ≤ m.events) → IsLog log → Stands m log → GivesTruth m log
gives_truth m log plan some_events is_log stands = record {
  truth = λ has k nu p from to point.
      let some = some_events has in
      let count = stands.events in
      now_point (setting_of m) plan log is_log (length log) stands.books stands.stands.books_are
      (omega arith) k (now_of m k) nu p from to (stands.now has k from to)
      (at_books nu p point);
  memory = λ k nu p h point.
      memory_point (setting_of m) plan log is_log (length log) stands.books stands.stands.books_are
      k (memory_of m k) nu p h (stands.stands.memory_is k h) (at_books nu p point);
}
  where
    -- the point by the monitor's books is that by the log's
    at_books : (nu : Texts) (p : List Bool) → IsPoint m nu p →
        IsPointOf (setting_of m) stands.books nu p
    at_books nu p point x low =
        point x low ∙ ap (λ o. unwrap_or o (2 ^ m.bits - 1)) (stands.same x low (nu x))

-- so it is of each monitor that stands for a log
pub stands_give : (m : State) (log : List Event) → IsMonitor m → IsLog log → Stands m log →
    GivesTruth m log
stands_give m log monitor is_log stands =
    gives_truth m log (plan_is m monitor) monitor.some_events is_log stands
