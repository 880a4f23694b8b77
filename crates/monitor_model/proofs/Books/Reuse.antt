-- Codes are taken back and given again without a change of what the remembered trees mean.
use Rattle.std.proofs.Common.{◌≡◌, ℕ, ◌+◌, ◌<◌, ◌↔◌, refl, arith, List, Bool, Option, Some, None}
use Rattle.std.specs.Prelude.{unwrap_or}
use Rattle.qtl_syntax.specs.Tree.{Text}
use Rattle.qtl_truth.specs.declared.event.Event.{Event}
use Rattle.subformulas.specs.Assigned.{Texts}
use Rattle.subformulas.specs.Memory.{IsTemporal, memo_at, SameMemory}
use Rattle.subformulas.specs.Pinned.{pinned, marks, fresh}
use Rattle.subformulas.specs.Table.{IsTable}
use Rattle.subformulas.specs.Texts.{Has}
use Rattle.subformulas.specs.Unfolded.{formula_at}
use Rattle.subformulas.specs.declared.table.Sub.{Sub}
use Rattle.subformulas.proofs.Agree.{joined, turned}
use Rattle.subformulas.proofs.Alike.{Alike, alike_same, alike_unmarked}
use Rattle.subformulas.proofs.Below.{memo_below, all_below, each_atom_below}
use Rattle.subformulas.proofs.Fresh.{memo_alike}
use Rattle.subformulas.proofs.Plain.{fresh_new, next_fresh, pinned_parts, within}
use Rattle.subformulas.proofs.Unfold.{temporal_at}
use Rattle.value_codes.specs.Pairs.{Pairs, value_of}
use Rattle.node_tree.specs.Tree.{Tree}
use Rattle.monitor_model.specs.Setting.{Setting}
use Rattle.monitor_model.specs.Books.{reads}
use Rattle.monitor_model.specs.Drawn.{Draws, readings, code_at, age_at}
use Rattle.monitor_model.specs.Stands.{IsPlan, IsRemembered}
use Rattle.monitor_model.proofs.Drawing.Connectives.{draws_same}

-- the codes of two books read as texts that give the same memory
abbrev pub SameReadings : List Sub → List Event → (i x : ℕ) → Pairs → Pairs → Type 0
SameReadings subs log i x book book' =
    (c : ℕ) →
    SameMemory subs log x i (reads book (fresh subs log (i + 1)) c)
    (reads book' (fresh subs log (i + 1)) c)

-- what is remembered under equal texts is the same
pub memo_same : (subs : List Sub) → IsTable 0 subs → (log : List Event) (i k a : ℕ) →
    IsTemporal subs k → (nu nu' : Texts) → ((x : ℕ) → nu x ≡ nu' x) →
    memo_at subs k log nu i a ↔ memo_at subs k log nu' i a
memo_same subs table log i k a h nu nu' e =
    memo_alike log (pinned subs) i (formula_at subs k) nu nu' i a (temporal_at subs k table h)
    (pinned_parts subs table k h.0 (within subs table k h)) (λ x. alike_same _ _ _ (e x))
    (omega arith)

module _ (s : Setting) (plan : IsPlan s) (log : List Event) (i : ℕ) where
  -- texts that give the same memory for each variable of the plan give the same memory
  pub memo_point : (k a : ℕ) → IsTemporal s.subs k → (nu nu' : Texts) →
      ((x : ℕ) → x < s.variables → SameMemory s.subs log x i (nu x) (nu' x)) →
      memo_at s.subs k log nu i a ↔ memo_at s.subs k log nu' i a
  memo_point k a h nu nu' same =
      all_below (λ mu. memo_at s.subs k log mu i a) (memo_same s.subs plan.table log i k a h) nu nu'
      s.variables
      (λ mu mu' e. memo_below log s.variables (formula_at s.subs k)
      (each_atom_below s.variables s.subs plan.table plan.uses k h.0 (within s.subs plan.table k h))
      (temporal_at s.subs k plan.table h) mu mu' e i a)
      (λ x p mu. same x p k mu a h)

  reads_alike : (x : ℕ) (o : Option Text) (f g : Text) → ¬ Has (marks s.subs log i x) f →
      ¬ Has (marks s.subs log i x) g → Alike (marks s.subs log i x) (unwrap_or o f) (unwrap_or o g)
  reads_alike x None f g p q = alike_unmarked _ f g p q
  reads_alike x (Some t) f g p q = alike_same _ t t refl

  -- a code without a pair may be read as the next fresh text
  pub memo_refreshed : (books : ℕ → Pairs) (k a : ℕ) → IsTemporal s.subs k → (p : List Bool) →
      memo_at s.subs k log (readings s books (fresh s.subs log i) p) i a ↔
      memo_at s.subs k log (readings s books (fresh s.subs log (i + 1)) p) i a
  memo_refreshed books k a h p =
      memo_alike log (pinned s.subs) i (formula_at s.subs k)
      (readings s books (fresh s.subs log i) p) (readings s books (fresh s.subs log (i + 1)) p) i a
      (temporal_at s.subs k plan.table h)
      (pinned_parts s.subs plan.table k h.0 (within s.subs plan.table k h))
      (λ x. reads_alike x (value_of (books x) (code_at s p x)) _ _ (fresh_new s.subs log i x)
      (next_fresh s.subs plan.table log x i)) (omega arith)

  module _ (books books' : ℕ → Pairs)
      (same : (x : ℕ) → x < s.variables → SameReadings s.subs log i x (books x) (books' x)) where
    by_books : (k a : ℕ) → IsTemporal s.subs k → (p : List Bool) →
        memo_at s.subs k log (readings s books (fresh s.subs log i) p) i a ↔
        memo_at s.subs k log (readings s books' (fresh s.subs log (i + 1)) p) i a
    by_books k a h p =
        joined (memo_refreshed books k a h p) (memo_point k a h _ _ (λ x q. same x q _))

    -- between a sweep and the first row each remembered tree means the same by the new books, a
    -- code without a pair being read as the next fresh text
    pub kept_draws : (k : ℕ) → IsTemporal s.subs k → (t : Tree) → IsRemembered s log i books k t →
        Draws (λ p. memo_at s.subs k log (readings s books' (fresh s.subs log (i + 1)) p) i
        (age_at s p)) t
    kept_draws k h t d = draws_same _ _ t (λ p. by_books k (age_at s p) h p) d

    -- and so it does with the fresh text of before
    pub kept_remembered : (k : ℕ) → IsTemporal s.subs k → (t : Tree) →
        IsRemembered s log i books k t → IsRemembered s log i books' k t
    kept_remembered k h t d =
        draws_same _ _ t
        (λ p. joined (by_books k (age_at s p) h p)
        (turned (memo_refreshed books' k (age_at s p) h p))) d
