-- A witness rests on the events up to the one at hand.
use Rattle.std.proofs.Common.{◌≡◌, ℕ, ◌≤◌, sym, ◌∙◌, ap, subst, arith, List, [], ◌∷◌, ◌++◌}
use Rattle.std.specs.List.{flat_map}
use Rattle.qtl_syntax.specs.Tree.{Text}
use Rattle.qtl_truth.specs.Laws.{SameTo}
use Rattle.qtl_truth.specs.declared.event.Event.{Event}
use Rattle.wellformed.specs.CoreTree.{CoreFormula}
use Rattle.subformulas.specs.Assigned.{Texts, put}
use Rattle.subformulas.specs.Facts.{args_of}
use Rattle.subformulas.specs.Pinned.{marks, pinned}
use Rattle.subformulas.specs.Table.{Table}
use Rattle.subformulas.specs.Texts.{Has}
use Rattle.subformulas.specs.Unfolded.{formula_at}
use Rattle.subformulas.proofs.Prefix.{fresh_past, prefix_same, truth_past}
use Rattle.report.specs.Laws.{WitnessStays}
use Rattle.report.specs.Witness.{AreShown, CanFail, IsShown, below_chain, chain}
use Rattle.report.specs.declared.shown.Shown.{Shown}
use Rattle.report.specs.declared.shown.Value.{Value}
use Rattle.report.specs.declared.shown.Value.TheVariants.{Any, Known}

module _ (t : Table) (i : ℕ) (some : 1 ≤ i) where
  can_fail : (log log' : List Event) → SameTo i log log' → (xs : List ℕ) (f : CoreFormula) (nu : Texts) → CanFail t log i xs f nu → CanFail t log' i xs f nu
  can_fail log log' same [] f nu h = λ holds. h ((truth_past log log' i same f nu i some (omega arith)).1 holds)
  can_fail log log' same (x ∷ later) f nu (u, text, more) = (u, text, can_fail log log' same later f (put x u nu) more)

  turned : (log log' : List Event) → SameTo i log log' → SameTo i log' log
  turned log log' same = record { events = λ j p q. sym (same.events j p q) }

  same_marks : (log log' : List Event) → SameTo i log log' → (x : ℕ) → marks t.subs log i x ≡ marks t.subs log' i x
  same_marks log log' same x = ap (λ (es : List Event). pinned t.subs x ++ flat_map args_of es) (prefix_same i log log' same)

  module _ (log log' : List Event) (same : SameTo i log log') where
    shown_stays : (x : ℕ) (later : List ℕ) (f : CoreFormula) (nu : Texts) (v : Value) (c : Text) → IsShown t log i x later f nu v c → IsShown t log' i x later f nu v c
    shown_stays x later f nu Any c h = (h.0 ∙ fresh_past t.subs i log log' same, can_fail log log' same later f (put x c nu) h.1)
    shown_stays x later f nu (Known u) c h =
        let least = h.2 in (
          h.0,
          (λ can. h.1 (subst (λ (w : Text). CanFail t log i later f (put x w nu)) (sym (fresh_past t.subs i log log' same)) (can_fail log' log (turned log log' same) later f _ can))),
          (
            (subst (λ ts. Has ts u) (same_marks log log' same x) least.0.0, can_fail log log' same later f (put x u nu) least.0.1),
            λ w p. least.1 w (subst (λ ts. Has ts w) (sym (same_marks log log' same x)) p.0, can_fail log' log (turned log log' same) later f (put x w nu) p.1),
          ),
        )

    are_shown : (xs : List ℕ) (f : CoreFormula) (nu : Texts) (shown : List Shown) → AreShown t log i xs f nu shown → AreShown t log' i xs f nu shown
    are_shown [] f nu shown h = h
    are_shown (x ∷ later) f nu [] h = absurd h
    are_shown (x ∷ later) f nu (s ∷ shown) (name, c, is, more) = (name, c, shown_stays x later f nu s.value c is, are_shown later f (put x c nu) shown more)

pub witness_stays : WitnessStays
witness_stays t log log' i k shown some same h = are_shown t i some log log' same (chain (formula_at t.subs k)) (below_chain (formula_at t.subs k)) (λ x. []) shown h
