-- The operation rows draw what their subformula says.
use Rattle.std.proofs.Common.{◌≡◌, ℕ, ◌+◌, ◌⊎◌, ◌↔◌, inl, inr, ⊎_elim, refl, sym, subst, List, Bool, true, false, ◌&&◌, ◌||◌, IsTrue, not}
use Rattle.qtl_truth.specs.Truth.{Claim, SomeTime, EachTime, NeverFrom, SinceThen}
use Rattle.subformulas.proofs.Agree.{joined, turned}
use Rattle.subformulas.proofs.Rows.{since_row, once_row, always_row, interval_row}
use Rattle.node_tree.specs.Tree.{Tree}
use Rattle.node_tree.proofs.OneTree.{one_tree}
use Rattle.bdd_ops.specs.declared.op.Op.TheVariants.{And, Or, AndNot}
use Rattle.bdd_ops.specs.Numbers.{truth_of}
use Rattle.monitor_model.specs.Drawn.{Draws}
use Rattle.monitor_model.specs.Operations.{IsApplied, IsNot}

pub alike : (a b : Bool) → (IsTrue a ↔ IsTrue b) → a ≡ b
alike true true h = refl
alike false false h = refl
alike true false h = let e = h.0 refl in cc
alike false true h = let e = h.1 refl in cc

-- at most one tree is drawn from a claim
pub drawn_once : (P : List Bool → Type 0) (s t : Tree) → Draws P s → Draws P t → s ≡ t
drawn_once P s t x y =
    one_tree s t x.ordered x.reduced y.ordered y.reduced
    (λ bits. alike _ _ (λ h. (y.values bits).1 ((x.values bits).0 h), λ h. (x.values bits).1 ((y.values bits).0 h)))

-- a tree that draws a claim draws each claim that says the same
pub draws_same : (P Q : List Bool → Type 0) (t : Tree) → ((bits : List Bool) → P bits ↔ Q bits) → Draws P t → Draws Q t
draws_same P Q t h d = record { ordered = d.ordered; reduced = d.reduced; values = λ bits. joined (d.values bits) (h bits) }

pub never : {A : Type 0} → false ≡ true → A
never e = cc

pub and_iff : (a b : Bool) (P Q : Type 0) → (IsTrue a ↔ P) → (IsTrue b ↔ Q) → IsTrue (a && b) ↔ (P × Q)
and_iff true b P Q p q = (λ h. (p.0 refl, q.0 h), λ h. q.1 h.1)
and_iff false b P Q p q = (λ h. never h, λ h. p.1 h.0)

pub or_iff : (a b : Bool) (P Q : Type 0) → (IsTrue a ↔ P) → (IsTrue b ↔ Q) → IsTrue (a || b) ↔ (P ⊎ Q)
or_iff true b P Q p q = (λ h. inl (p.0 refl), λ h. refl)
or_iff false b P Q p q = (λ h. inr (q.0 h), λ h. ⊎_elim (λ x. never (p.1 x)) q.1 h)

pub not_iff : (a : Bool) (P : Type 0) → (IsTrue a ↔ P) → IsTrue (not a) ↔ (¬ P)
not_iff true P p = (λ h. never h, λ n. absurd (n (p.0 refl)))
not_iff false P p = (λ h x. never (p.1 x), λ n. refl)

module _ (P Q : List Bool → Type 0) (u v r : Tree) (d : Draws P u) (e : Draws Q v) where
  pub draws_and : IsApplied (truth_of And) u v r → Draws (λ bits. P bits × Q bits) r
  draws_and h = record {
    ordered = h.ordered;
    reduced = h.reduced;
    values = λ bits. subst (λ b. IsTrue b ↔ (P bits × Q bits)) (sym (h.values bits)) (and_iff _ _ _ _ (d.values bits) (e.values bits));
  }

  pub draws_or : IsApplied (truth_of Or) u v r → Draws (λ bits. P bits ⊎ Q bits) r
  draws_or h = record {
    ordered = h.ordered;
    reduced = h.reduced;
    values = λ bits. subst (λ b. IsTrue b ↔ (P bits ⊎ Q bits)) (sym (h.values bits)) (or_iff _ _ _ _ (d.values bits) (e.values bits));
  }

  pub draws_and_not : IsApplied (truth_of AndNot) u v r → Draws (λ bits. P bits × (¬ Q bits)) r
  draws_and_not h = record {
    ordered = h.ordered;
    reduced = h.reduced;
    values = λ bits. subst (λ b. IsTrue b ↔ (P bits × (¬ Q bits))) (sym (h.values bits))
        (and_iff _ _ _ _ (d.values bits) (not_iff _ _ (e.values bits)));
  }

pub draws_not : (P : List Bool → Type 0) (u r : Tree) → Draws P u → IsNot u r → Draws (λ bits. ¬ P bits) r
draws_not P u r d h = record {
  ordered = h.ordered;
  reduced = h.reduced;
  values = λ bits. subst (λ b. IsTrue b ↔ (¬ P bits)) (sym (h.values bits)) (not_iff _ _ (d.values bits));
}

module _ (i : ℕ) (F G : List Bool → Claim) (f g : Tree) (df : Draws (λ bits. F bits (i + 1)) f) (dg : Draws (λ bits. G bits (i + 1)) g) where
  -- rows of f S g: a = And(f, m), Or(g, a)
  pub draws_since : (m a r : Tree) → Draws (λ bits. SinceThen (F bits) (G bits) i) m → IsApplied (truth_of And) f m a → IsApplied (truth_of Or) g a r →
      Draws (λ bits. SinceThen (F bits) (G bits) (i + 1)) r
  draws_since m a r dm p q =
      draws_same _ _ r (λ bits. turned (since_row (F bits) (G bits) i)) (draws_or _ _ g a r dg (draws_and _ _ f m a df dm p) q)

  -- rows of [f, g): a = Or(f, m), AndNot(a, g)
  pub draws_interval : (m a r : Tree) → Draws (λ bits. SomeTime (λ j. F bits j × NeverFrom j (G bits) i) i) m → IsApplied (truth_of Or) f m a → IsApplied (truth_of AndNot) a g r →
      Draws (λ bits. SomeTime (λ j. F bits j × NeverFrom j (G bits) (i + 1)) (i + 1)) r
  draws_interval m a r dm p q =
      draws_same _ _ r (λ bits. turned (interval_row (F bits) (G bits) i)) (draws_and_not _ _ a g r (draws_or _ _ f m a df dm p) dg q)

  -- row of P f: Or(f, m)
  pub draws_once : (m r : Tree) → Draws (λ bits. SomeTime (F bits) i) m → IsApplied (truth_of Or) f m r → Draws (λ bits. SomeTime (F bits) (i + 1)) r
  draws_once m r dm p = draws_same _ _ r (λ bits. turned (once_row (F bits) i)) (draws_or _ _ f m r df dm p)

  -- row of H f: And(f, m)
  pub draws_always : (m r : Tree) → Draws (λ bits. EachTime (F bits) i) m → IsApplied (truth_of And) f m r → Draws (λ bits. EachTime (F bits) (i + 1)) r
  draws_always m r dm p = draws_same _ _ r (λ bits. turned (always_row (F bits) i)) (draws_and _ _ f m r df dm p)
