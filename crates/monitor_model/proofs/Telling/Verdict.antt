-- The tree of a closed subformula is a leaf: the verdict.
use Rattle.std.proofs.Common.{◌≡◌, ℕ, ◌⊎◌, ◌↔◌, inl, inr, refl, sym, ◌∙◌, List, [], Bool, true, false}
use Rattle.qtl_truth.specs.declared.event.Event.{Event}
use Rattle.subformulas.specs.Assigned.{Texts, Truth}
use Rattle.subformulas.specs.Unfolded.{formula_at}
use Rattle.subformulas.specs.Pinned.{fresh}
use Rattle.subformulas.proofs.Closed.{IsClosed, truth_closed}
use Rattle.node_tree.specs.Tree.{Tree, Zero, One, value}
use Rattle.value_codes.specs.Pairs.{Pairs}
use Rattle.monitor_model.specs.Drawn.{readings}
use Rattle.monitor_model.specs.Setting.{Setting}
use Rattle.monitor_model.specs.Stands.{IsNow}
use Rattle.monitor_model.proofs.Drawing.Connectives.{drawn_once}

pub verdict : (s : Setting) (log : List Event) (i : ℕ) (books : ℕ → Pairs) (k : ℕ) (t : Tree) →
    IsClosed (formula_at s.subs k) → IsNow s log i books k t → (nu : Texts) →
    ((t ≡ One) × Truth log (formula_at s.subs k) nu i) ⊎
    ((t ≡ Zero) × (¬ Truth log (formula_at s.subs k) nu i))
verdict s log i books k t closed d nu = by_value (value t []) refl
  where
    at : (b : List Bool) → Truth log (formula_at s.subs k) (readings s books (fresh s.subs log i) b) i ↔ Truth log (formula_at s.subs k) nu i
    at b = truth_closed log (formula_at s.subs k) closed _ nu i

    by_value : (v : Bool) → value t [] ≡ v → ((t ≡ One) × Truth log (formula_at s.subs k) nu i) ⊎ ((t ≡ Zero) × (¬ Truth log (formula_at s.subs k) nu i))
    by_value true e =
        let h = (at []).0 ((d.values []).0 e) in
        inl (drawn_once _ t One d (record { ordered = tt; reduced = tt; values = λ b. (λ x. (at b).1 h, λ x. refl) }), h)
    by_value false e =
        let n : ¬ Truth log (formula_at s.subs k) nu i = λ h. (let x = (d.values []).1 ((at []).1 h) in let y : true ≡ false = sym x ∙ e in cc) in
        inr (drawn_once _ t Zero d (record { ordered = tt; reduced = tt; values = λ b. (λ x. absurd (cc), λ x. absurd (n ((at b).0 x))) }), n)
