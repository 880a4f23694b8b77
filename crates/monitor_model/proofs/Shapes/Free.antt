-- The levels of a formula's free variables: their blocks stand before the time block.
use Rattle.std.proofs.Common.{◌≡◌, ◌≢◌, ℕ, ◌<◌, ◌≤◌, ◌⊎◌, inl, inr, ⊎_elim, refl, arith, List, [], ◌∷◌, length, Bool, true, false, IsTrue}
use Rattle.std.specs.Prelude.{nat_eq, ◌||◌}
use Rattle.std.specs.List.{AllByRecursion}
use Rattle.std.proofs.lemmas.Bool.Decides.{eqb_tells}
use Rattle.qtl_truth.specs.declared.numbered_atom.AtomTerm.{AtomTerm}
use Rattle.qtl_truth.specs.declared.numbered_atom.AtomTerm.TheVariants.{Variable, Constant}
use Rattle.wellformed.specs.CoreTree.{CoreFormula, True, False, Atom, Not, And, Or, Implies, Iff, Prev, Since, TimedSince, Once, TimedOnce, Always, TimedAlways, Interval, Exists, Forall}
use Rattle.subformulas.specs.Free.{stands_in, is_free, IsFreeAt}
use Rattle.subformulas.specs.Table.{IsTable, UsesBelow}
use Rattle.subformulas.specs.declared.table.Sub.{Sub}
use Rattle.subformulas.specs.Unfolded.{formula_at}
use Rattle.subformulas.proofs.Below.{AtomBelow, each_atom_below}
use Rattle.subformulas.proofs.Needed.{Occurs}
use Rattle.subformulas.proofs.NumberedRows.{and_parts}
use Rattle.subformulas.proofs.Parts.{EachPart}
use Rattle.node_tree.specs.Levels.{IsInBlock}
use Rattle.monitor_model.specs.Setting.{Setting, first_of, time_first}
use Rattle.monitor_model.proofs.Spelling.Bits.{block_end}

-- the level is one of a free variable of the formula
abbrev pub IsLevelOf : Setting → CoreFormula → (level : ℕ) → Type 0
IsLevelOf s F level = (x : ℕ) × IsTrue (is_free x F) × IsInBlock (first_of s x) s.bits level

or_cases : (b c : Bool) → IsTrue (b || c) → IsTrue b ⊎ IsTrue c
or_cases true c h = inl refl
or_cases false c h = inr h

stands_occurs : (x : ℕ) (ts : List AtomTerm) → IsTrue (stands_in x ts) → Occurs x ts
stands_occurs x [] h = absurd (let no : ⊥ = cc in no)
stands_occurs x (Variable y ∷ ts) h =
    ⊎_elim (λ e. here (eqb_tells x y) e) (λ k. inr (stands_occurs x ts k))
    (or_cases (nat_eq x y) (stands_in x ts) h)
  where
    here : ((nat_eq x y ≡ true) × (x ≡ y)) ⊎ ((nat_eq x y ≡ false) × (x ≢ y)) →
        IsTrue (nat_eq x y) → (x ≡ y) ⊎ Occurs x ts
    here (inl p) e = inl p.1
    here (inr p) e = absurd (let f = p.0 in let no : ⊥ = cc in no)
stands_occurs x (Constant t ∷ ts) h = stands_occurs x ts h

module _ (v x : ℕ) where
  either_below : (f g : Bool) → (IsTrue f → x < v) → (IsTrue g → x < v) → IsTrue (f || g) → x < v
  either_below f g p q h = ⊎_elim p q (or_cases f g h)

  below : (f : CoreFormula) → EachPart (AtomBelow v) f → IsTrue (is_free x f) → x < v
  below True h p = absurd (let no : ⊥ = cc in no)
  below False h p = absurd (let no : ⊥ = cc in no)
  below (Atom a) h p = h x (stands_occurs x a.terms p)
  below (Not f) h p = below f h.1 p
  below (And f g) h p = either_below (is_free x f) (is_free x g) (below f h.1) (below g h.2) p
  below (Or f g) h p = either_below (is_free x f) (is_free x g) (below f h.1) (below g h.2) p
  below (Implies f g) h p = either_below (is_free x f) (is_free x g) (below f h.1) (below g h.2) p
  below (Iff f g) h p = either_below (is_free x f) (is_free x g) (below f h.1) (below g h.2) p
  below (Prev f) h p = below f h.1 p
  below (Since f g) h p = either_below (is_free x f) (is_free x g) (below f h.1) (below g h.2) p
  below (TimedSince b f g) h p =
      either_below (is_free x f) (is_free x g) (below f h.1) (below g h.2) p
  below (Once f) h p = below f h.1 p
  below (TimedOnce b f) h p = below f h.1 p
  below (Always f) h p = below f h.1 p
  below (TimedAlways b f) h p = below f h.1 p
  below (Interval f g) h p = either_below (is_free x f) (is_free x g) (below f h.1) (below g h.2) p
  below (Exists y f) h p = below f h.1 (and_parts _ (is_free x f) p).1
  below (Forall y f) h p = below f h.1 (and_parts _ (is_free x f) p).1

-- a free variable of a subformula is one of the table's
pub free_below : (v : ℕ) (subs : List Sub) → IsTable 0 subs →
    AllByRecursion (λ u. UsesBelow v u.kind) subs → (k : ℕ) → 1 ≤ k → k ≤ length subs →
    (x : ℕ) → IsFreeAt subs k x → x < v
free_below v subs table uses k one few x h =
    below v x (formula_at subs k) (each_atom_below v subs table uses k one few) h

-- so its levels stand before the time block
pub before_time : (s : Setting) (F : CoreFormula) →
    ((x : ℕ) → IsTrue (is_free x F) → x < s.variables) →
    (l : ℕ) → IsLevelOf s F l → l < time_first s
before_time s F few l (x, f, (p, q)) = let e = block_end s x (few x f) in omega arith
