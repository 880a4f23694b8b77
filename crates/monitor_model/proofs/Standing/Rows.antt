-- The rows of an event draw what its subformulas say at it, and what they remember after it.
use Rattle.std.proofs.Common.{◌≡◌, ◌≢◌, ℕ, zero, suc, ◌+◌, ◌-◌, ◌^◌, ◌<◌, ◌≤◌, ◌⊎◌, ◌↔◌, inl, inr, refl, sym, ap, ◌∙◌, subst, arith, List, [], ◌∷◌, ◌++◌, length, Bool, true, false, ◌||◌, not, Option, Some, None, IsTrue}
use Rattle.std.specs.Prelude.{map, slice_get, IsSomeAnd, unwrap_or, if◌then◌else◌}
use Rattle.std.proofs.lemmas.Bool.{cases_lt}
use Rattle.qtl_syntax.specs.Tree.{Text}
use Rattle.qtl_syntax.specs.declared.formula.Bound.TheVariants.{AtMost, MoreThan}
use Rattle.qtl_truth.specs.Truth.{IsText, IsLog, time_of, time_at, Claim}
use Rattle.qtl_truth.specs.declared.event.Event.{Event}
use Rattle.qtl_truth.specs.declared.numbered_atom.Atom.{Atom as AtomOf}
use Rattle.wellformed.specs.CoreTree.{CoreFormula, Atom, Prev}
use Rattle.subformulas.specs.Assigned.{Texts, put, text_of, Truth}
use Rattle.subformulas.specs.Facts.{fact_of, arguments}
use Rattle.subformulas.specs.Memory.{is_temporal, Memo}
use Rattle.subformulas.specs.Needs.{given, fits, given_by, needed_by, need}
use Rattle.subformulas.specs.Pinned.{pinned, constants, fresh}
use Rattle.subformulas.specs.Table.{children, is_timed, AreChildren, IsChild, UsesBelow}
use Rattle.subformulas.specs.Texts.{Has}
use Rattle.subformulas.specs.TimeBits.{past_bound}
use Rattle.subformulas.specs.Unfolded.{formula_at, formula_with}
use Rattle.subformulas.specs.declared.table.Kind.{Kind}
use Rattle.subformulas.specs.declared.table.Kind.TheVariants as kind
use Rattle.subformulas.specs.declared.table.Sub.{Sub}
use Rattle.subformulas.proofs.Ages.{Rises}
use Rattle.subformulas.proofs.Agree.{same, joined, turned, neither}
use Rattle.subformulas.proofs.Alike.{has_left, has_right, has_argument}
use Rattle.subformulas.proofs.Below.{TermsBelow, AtomBelow, each_atom_below, truth_below}
use Rattle.subformulas.proofs.Decide.{longer_text, decided}
use Rattle.subformulas.proofs.Deciding.{EachDecided, not_one}
use Rattle.subformulas.proofs.Needed.{given_is, given_occurs, true_from, matches_from, matched_needed, in_need}
use Rattle.subformulas.proofs.Plain.{fresh_new, need_argument, rises_to, pinned_parts}
use Rattle.subformulas.proofs.Same.{truth_same}
use Rattle.value_codes.specs.Pairs.{Pairs, code_of, value_of, IsPaired}
use Rattle.value_codes.proofs.Lookups.{code_reads, reads_code, some_none}
use Rattle.node_tree.specs.Tree.{Tree, Zero, One, value}
use Rattle.bdd_ops.specs.declared.op.Op.TheVariants.{And, Or, AndNot, Implies, Iff}
use Rattle.bdd_ops.specs.Numbers.{truth_of}
use Rattle.bdd_ops.specs.Apply.{map_leaves}
use Rattle.bdd_ops.specs.Cube.{cube_tree}
use Rattle.timed_bits.specs.Entries.{SaysOfAge}
use Rattle.timed_bits.proofs.Others.{not-says}
use Rattle.operation_rows.specs.Kinds.{applied, atom_update}
use Rattle.operation_rows.specs.Rows.{Update}
use Rattle.monitor_model.specs.Setting.{Setting, first_of, time_first, time_width}
use Rattle.monitor_model.specs.Books.{reads}
use Rattle.monitor_model.specs.Drawn.{Draws, code_at, age_at, readings}
use Rattle.monitor_model.specs.Ends.{time_since}
use Rattle.monitor_model.specs.Operations.{IsApplied}
use Rattle.monitor_model.specs.Rows.{Frame, update, fact_literals}
use Rattle.monitor_model.specs.Stands.{IsPlan}
use Rattle.monitor_model.proofs.Books.Pairing.{EachPair}
use Rattle.monitor_model.proofs.Drawing.Atoms.{Spells, draws_fact}
use Rattle.monitor_model.proofs.Drawing.Connectives.{never, not_iff, draws_same, draws_and, draws_or, draws_not, draws_since, draws_once, draws_always, draws_interval}
use Rattle.monitor_model.proofs.Drawing.Quantified.{draws_exists, draws_forall}
use Rattle.monitor_model.proofs.Drawing.Trees.{IsDiagram, applied_is, applied_diagram, not_is, after_rows_some, after_rows_each}
use Rattle.monitor_model.proofs.Timed.Made.{early_drawn, since_within_ages, once_within_ages, always_within_ages, since_beyond_ages, once_beyond_ages}
use Rattle.monitor_model.proofs.Timed.Remembered.{readings_same}
use Rattle.monitor_model.proofs.Timed.Rows.{EarlyClaim, least_rows, greatest_rows, once_bounded, always_bounded}

implies_iff : (a b : Bool) (P Q : Type 0) → (IsTrue a ↔ P) → (IsTrue b ↔ Q) →
    IsTrue (not a || b) ↔ (P → Q)
implies_iff true b P Q p q = (λ h x. q.0 h, λ f. q.1 (f (p.0 refl)))
implies_iff false b P Q p q = (λ h x. never (p.1 x), λ f. refl)

iff_iff : (a b : Bool) (P Q : Type 0) → (IsTrue a ↔ P) → (IsTrue b ↔ Q) →
    IsTrue (truth_of Iff a b) ↔ (P ↔ Q)
iff_iff true true P Q p q = (λ h. (λ x. q.0 refl, λ y. p.0 refl), λ f. refl)
iff_iff true false P Q p q = (λ h. never h, λ f. never (q.1 (f.0 (p.0 refl))))
iff_iff false true P Q p q = (λ h. never h, λ f. never (p.1 (f.1 (q.0 refl))))
iff_iff false false P Q p q = (λ h. (λ x. never (p.1 x), λ y. never (q.1 y)), λ f. refl)

by_op : (op : Bool → Bool → Bool) (R : Type 0 → Type 0 → Type 0) →
    ((a b : Bool) (P Q : Type 0) → (IsTrue a ↔ P) → (IsTrue b ↔ Q) → IsTrue (op a b) ↔ R P Q) →
    (P Q : List Bool → Type 0) (u v r : Tree) → Draws P u → Draws Q v → IsApplied op u v r → Draws (λ bits. R (P bits) (Q bits)) r
by_op op R f P Q u v r d e h = record {
  ordered = h.ordered;
  reduced = h.reduced;
  values =
      λ bits. subst (λ b. IsTrue b ↔ R (P bits) (Q bits)) (sym (h.values bits)) (f _ _ _ _ (d.values bits) (e.values bits));
}

draws_zero : (P : List Bool → Type 0) → ((bits : List Bool) → ¬ P bits) → Draws P Zero
draws_zero P n = record { ordered = tt; reduced = tt; values = λ bits. (λ h. never h, λ p. absurd (n bits p)) }

draws_one : (P : List Bool → Type 0) → ((bits : List Bool) → P bits) → Draws P One
draws_one P h = record { ordered = tt; reduced = tt; values = λ bits. (λ k. h bits, λ p. refl) }

diagram : (P : List Bool → Type 0) (t : Tree) → Draws P t → IsDiagram t
diagram P t d = (d.ordered, d.reduced)

-- what an atom says of an event
abbrev pub Fits : Event → AtomOf → Texts → Type 0
Fits e a nu = (e.name ≡ a.name) × (e.args ≡ map (text_of nu) a.terms)

event_is : (o : Option Event) (e : Event) (a : AtomOf) (nu : Texts) → o ≡ Some e →
    IsSomeAnd o (λ d. (d.name ≡ a.name) × (d.args ≡ map (text_of nu) a.terms)) ↔ Fits e a nu
event_is None e a nu h = absurd (cc)
event_is (Some d) e a nu h = let f : d ≡ e = cc in subst (λ (z : Event). Fits d a nu ↔ Fits z a nu) f (λ x. x, λ x. x)

coded : (o : Option ℕ) → o ≢ None → (c : ℕ) × (o ≡ Some c)
coded None h = absurd (h refl)
coded (Some c) h = (c, refl)

-- the tree of an atom over its one fact
atom_now : (b : Bool) (c : Tree) →
    (atom_update ((if b then c ∷ [] else []) ++ [])).now ≡ (if b then c else Zero)
atom_now true c = refl
atom_now false c = refl

-- what the rows of an event ask of its books: codes and texts go one to one, each needed text has a code, and a text without one
-- makes each subformula true as a fresh text does
pub record Serves (s : Setting) (log : List Event) (i : ℕ) (e : Event) (books : ℕ → Pairs) : Type 0 where
  pub paired : (x : ℕ) → x < s.variables → IsPaired (books x)
  pub below : (x : ℕ) → x < s.variables → EachPair (λ c t. c < 2 ^ s.bits - 1) (books x)
  pub texts : (x : ℕ) → x < s.variables → EachPair (λ c t. IsText t) (books x)
  pub no_more : (x : ℕ) → s.variables ≤ x → books x ≡ []
  pub coded_need : (x : ℕ) → x < s.variables → (t : Text) → Has (need s.subs x e) t →
      code_of (books x) t ≢ None
  pub unread : (x : ℕ) → x < s.variables → (k : ℕ) → 1 ≤ k → k ≤ length s.subs →
      (t : Text) (mu : Texts) → code_of (books x) t ≡ None →
      Truth log (formula_at s.subs k) (put x t mu) (i + 1) ↔ Truth log (formula_at s.subs k)
      (put x (fresh s.subs log (i + 1)) mu) (i + 1)

module _ (s : Setting) (plan : IsPlan s) (log : List Event) (is_log : IsLog log) (i : ℕ) (e : Event) (at : slice_get log i ≡ Some e) (books : ℕ → Pairs) (serves : Serves s log i e books) where
  -- what the rows are made with
  abbrev pub frame : Frame
  frame = record { setting = s; books = books; event = e; delta = time_since i (time_at log i) e }

  -- the texts that the bits read as at the event
  abbrev pub read : List Bool → Texts
  read b = readings s books (fresh s.subs log (i + 1)) b

  here : slice_get log (i + 1 - 1) ≡ Some e
  here = let f : i + 1 - 1 ≡ i = omega arith in subst (λ (j : ℕ). slice_get log j ≡ Some e) (sym f) at

  -- codes have so many bits
  codes_low : (x : ℕ) (t : Text) (c : ℕ) → code_of (books x) t ≡ Some c → c < 2 ^ s.bits
  codes_low x t c k = by_place (cases_lt x s.variables)
    where
      by_place : (x < s.variables) ⊎ (s.variables ≤ x) → c < 2 ^ s.bits
      by_place (inl p) = let h = serves.below x p c t (code_reads (books x) t c (serves.paired x p) k) in omega arith
      by_place (inr p) =
          some_none (code_of (books x) t) c k (ap (λ b. code_of b t) (serves.no_more x p))

  -- a code reads as a needed text exactly where it is the text's
  reads_needed : (x : ℕ) → x < s.variables → (t : Text) (c d : ℕ) → Has (need s.subs x e) t →
      code_of (books x) t ≡ Some c → (reads (books x) (fresh s.subs log (i + 1)) d ≡ t) ↔ (d ≡ c)
  reads_needed x p t c d h k = (forth (value_of (books x) d) refl, back)
    where
      forth : (o : Option Text) → value_of (books x) d ≡ o →
          unwrap_or o (fresh s.subs log (i + 1)) ≡ t → d ≡ c
      forth None g f =
          absurd (fresh_new s.subs log (i + 1) x (has_right (pinned s.subs x) _ _
          (has_argument log i (i + 1) e (fresh s.subs log (i + 1)) (omega arith) at (need_argument s.subs x e (fresh s.subs log (i + 1)) (subst (Has (need s.subs x e)) (sym f) h)))))
      forth (Some u) g f =
          let y : Some d ≡ Some c =
          sym (reads_code (books x) t d (serves.paired x p) (g ∙ ap (λ z. Some z) f)) ∙ k in
          let z : d ≡ c = cc in
          z

      back : d ≡ c → reads (books x) (fresh s.subs log (i + 1)) d ≡ t
      back f =
          ap (λ o. unwrap_or o (fresh s.subs log (i + 1)))
          (ap (value_of (books x)) f ∙ code_reads (books x) t c (serves.paired x p) k)

  atom_fits : (a : AtomOf) (b : List Bool) (k : ℕ) (u : Sub) → slice_get s.subs k ≡ Some u →
      u.kind ≡ kind.Atom a → TermsBelow s.variables a.terms → fits a (fact_of e) ≡ true →
      ((x : ℕ) → Spells frame a (fact_of e) b x) ↔ Fits e a (read b)
  atom_fits a b k u g f low m = (
    λ all. true_from a (fact_of e) (read b) m (λ x t q.
        let p = low x (given_occurs a.terms e.args x t q) in
        let (c, z) = coded (code_of (books x) t) (serves.coded_need x p t (need_it x t q)) in
        (reads_needed x p t c (code_at s b x) (need_it x t q) z).1 (all x t c q z)),
    λ fits x t c q z.
        let p = low x (given_occurs a.terms e.args x t q) in
        (reads_needed x p t c (code_at s b x) (need_it x t q) z).0
        (given_is a.terms e.args (read b) x t fits.1 q),
  )
    where
      need_it : (x : ℕ) (t : Text) → given a.terms e.args x ≡ Some t → Has (need s.subs x e) t
      need_it x t q =
          in_need s.subs x e k u t g
          (subst (λ (z : Kind). Has (needed_by x e z) t) (sym f) (has_left (given_by x a (fact_of e)) [] t (matched_needed a (fact_of e) x t m q)))

  draws_atom : (a : AtomOf) (k : ℕ) (u : Sub) → slice_get s.subs k ≡ Some u → u.kind ≡ kind.Atom a →
      TermsBelow s.variables a.terms → (f g m : Tree) →
      Draws (λ b. Truth log (Atom a) (read b) (i + 1)) (update frame (kind.Atom a) f g m).now
  draws_atom a k u g f low v w m =
      subst (Draws (λ b. Truth log (Atom a) (read b) (i + 1)))
      (sym (atom_now (fits a (fact_of e)) (cube_tree (fact_literals frame a (fact_of e) s.variables))))
      (by_test (fits a (fact_of e)) refl)
    where
      by_test : (b : Bool) → fits a (fact_of e) ≡ b →
          Draws (λ b. Truth log (Atom a) (read b) (i + 1)) (if b then cube_tree (fact_literals frame a (fact_of e) s.variables) else Zero)
      by_test true m =
          draws_same (λ b. (x : ℕ) → Spells frame a (fact_of e) b x) _ _
          (λ b. joined (atom_fits a b k u g f low m) (turned (event_is (slice_get log (i + 1 - 1)) e a (read b) here)))
          (draws_fact frame a (fact_of e) codes_low serves.no_more)
      by_test false m =
          draws_zero _ (λ b p.
          let q = (event_is (slice_get log (i + 1 - 1)) e a (read b) here).0 p in
          let r : false ≡ true = sym m ∙ matches_from a (fact_of e) (read b) q.0 q.1 in
          cc)

  prev_iff : (f : CoreFormula) (mu : Texts) (a : ℕ) →
      Memo log (Prev f) mu i a ↔ Truth log (Prev f) mu (i + 1)
  prev_iff f mu a =
      let j : i + 1 - 1 ≡ i = omega arith in (
        λ v. (let one = v.0 in omega arith, subst (λ (n : ℕ). Truth log f mu n) (sym j) v.1),
        λ v. (let one = v.0 in omega arith, subst (λ (n : ℕ). Truth log f mu n) j v.1),
      )

  abbrev pub Says : CoreFormula → List Bool → Type 0
  Says f b = Truth log f (read b) (i + 1)

  abbrev Held : CoreFormula → List Bool → ℕ → Type 0
  Held f b j = Truth log f (read b) j

  -- the rows of a kind without a bound draw its formula
  row : (n : ℕ) (u : Sub) → slice_get s.subs (n - 1) ≡ Some u →
      (K : Kind) (l r : ℕ) (f g m : Tree) → u.kind ≡ K → is_timed K ≡ false →
      AreChildren n (children K) l r → UsesBelow s.variables K →
      AtomBelow s.variables (formula_with K (formula_at s.subs l) (formula_at s.subs r)) →
      (IsChild n l → Draws (Says (formula_at s.subs l)) f) → (IsChild n r → Draws (Says (formula_at s.subs r)) g) → (IsChild n l → l ≤ length s.subs) →
      (IsTrue (is_temporal K) → Draws (λ b. Memo log (formula_with K (formula_at s.subs l) (formula_at s.subs r)) (read b) i (age_at s b)) m) →
      Draws (Says (formula_with K (formula_at s.subs l) (formula_at s.subs r)))
      (update frame K f g m).now
  row n u at kind.True l r f g m q z h v low df dg len mem = draws_one _ (λ b. tt)
  row n u at kind.False l r f g m q z h v low df dg len mem = draws_zero _ (λ b p. p)
  row n u at (kind.Atom a) l r f g m q z h v low df dg len mem =
      draws_atom a (n - 1) u at q low f g m
  row n u at kind.Not l r f g m q z h v low df dg len mem = let d = df h.0 in draws_not _ f _ d (not_is f (diagram _ f d))
  row n u at kind.And l r f g m q z h v low df dg len mem = let d = df h.0 in let c = dg h.1 in draws_and _ _ f g _ d c (applied_is And f g (diagram _ f d) (diagram _ g c))
  row n u at kind.Or l r f g m q z h v low df dg len mem = let d = df h.0 in let c = dg h.1 in draws_or _ _ f g _ d c (applied_is Or f g (diagram _ f d) (diagram _ g c))
  row n u at kind.Implies l r f g m q z h v low df dg len mem =
      let d = df h.0 in let c = dg h.1 in by_op _ (λ P Q. P → Q) implies_iff _ _ f g _ d c (applied_is Implies f g (diagram _ f d) (diagram _ g c))
  row n u at kind.Iff l r f g m q z h v low df dg len mem =
      let d = df h.0 in let c = dg h.1 in by_op _ (λ P Q. P ↔ Q) iff_iff _ _ f g _ d c (applied_is Iff f g (diagram _ f d) (diagram _ g c))
  row n u at (kind.Exists y) l r f g m q z h v low df dg len mem =
      let d = df h.0 in
      draws_exists s y books (fresh s.subs log (i + 1))
      (longer_text (constants s.subs ++ arguments log (i + 1))) (serves.paired y v)
      (serves.below y v) (serves.texts y v) (λ mu. Truth log (formula_at s.subs l) mu (i + 1))
      (λ mu mu' same. truth_same log (formula_at s.subs l) mu mu' (i + 1) same)
      (λ t mu none. serves.unread y v l h.0.0 (len h.0) t mu none) f _ d
      (after_rows_some (first_of s y) s.bits f (diagram _ f d))
  row n u at (kind.Forall y) l r f g m q z h v low df dg len mem =
      let d = df h.0 in
      draws_forall s y books (fresh s.subs log (i + 1))
      (longer_text (constants s.subs ++ arguments log (i + 1))) (serves.paired y v)
      (serves.below y v) (serves.texts y v) (λ mu. Truth log (formula_at s.subs l) mu (i + 1))
      (λ mu mu' same. truth_same log (formula_at s.subs l) mu mu' (i + 1) same)
      (λ t mu none. serves.unread y v l h.0.0 (len h.0) t mu none) f _ d
      (after_rows_each (first_of s y) s.bits f (diagram _ f d))
  row n u at kind.Prev l r f g m q z h v low df dg len mem =
      draws_same _ _ m (λ b. prev_iff (formula_at s.subs l) (read b) (age_at s b)) (mem refl)
  row n u at kind.Since l r f g m q z h v low df dg len mem =
      let d = df h.0 in
      let c = dg h.1 in
      let before = mem refl in
      let p = diagram _ f d in
      let k = diagram _ m before in
      draws_since i (Held (formula_at s.subs l)) (Held (formula_at s.subs r)) f g d c m
      (applied And f m) _ before
      (applied_is And f m p k)
      (applied_is Or g (applied And f m) (diagram _ g c) (applied_diagram And f m p k))
  row n u at kind.Once l r f g m q z h v low df dg len mem =
      let d = df h.0 in
      let before = mem refl in
      draws_once i (Held (formula_at s.subs l)) (Held (formula_at s.subs l)) f f d d m _ before
      (applied_is Or f m (diagram _ f d) (diagram _ m before))
  row n u at kind.Always l r f g m q z h v low df dg len mem =
      let d = df h.0 in
      let before = mem refl in
      draws_always i (Held (formula_at s.subs l)) (Held (formula_at s.subs l)) f f d d m _ before
      (applied_is And f m (diagram _ f d) (diagram _ m before))
  row n u at kind.Interval l r f g m q z h v low df dg len mem =
      let d = df h.0 in
      let c = dg h.1 in
      let before = mem refl in
      let p = diagram _ f d in
      let k = diagram _ m before in
      draws_interval i (Held (formula_at s.subs l)) (Held (formula_at s.subs r)) f g d c m
      (applied Or f m) _ before
      (applied_is Or f m p k)
      (applied_is AndNot (applied Or f m) g (applied_diagram Or f m p k) (diagram _ g c))
  row n u at _ l r f g m q z h v low df dg len mem = absurd (cc)

  -- what is remembered of a kind without a bound
  memo_row : (n : ℕ) (K : Kind) (l r : ℕ) (f g m : Tree) → is_timed K ≡ false →
      AreChildren n (children K) l r → IsTrue (is_temporal K) →
      (IsChild n l → Draws (Says (formula_at s.subs l)) f) →
      Draws (Says (formula_with K (formula_at s.subs l) (formula_at s.subs r))) (update frame K f g m).now →
      Draws
      (λ b. Memo log (formula_with K (formula_at s.subs l) (formula_at s.subs r)) (read b) (i + 1) (age_at s b))
      (update frame K f g m).next
  memo_row n kind.Prev l r f g m z h p df x =
      draws_same _ _ f (λ b. (λ v. (omega arith, v), λ v. v.1)) (df h.0)
  memo_row n kind.Since l r f g m z h p df x = x
  memo_row n kind.Once l r f g m z h p df x = x
  memo_row n kind.Always l r f g m z h p df x = x
  memo_row n kind.Interval l r f g m z h p df x = x
  memo_row n _ l r f g m z h p df x = absurd (cc)

  -- ---- the timed kinds

  rise : Rises log (i + 1)
  rise = rises_to log is_log i e at

  abbrev passed : ℕ
  passed = time_since i (time_at log i) e

  -- the time since the event before, after the first one
  passes : 1 ≤ i → passed ≡ time_at log (i + 1) - time_at log i
  passes p = by_place i p (ap time_of here)
    where
      by_place : (k : ℕ) → 1 ≤ k → time_at log (i + 1) ≡ e.time →
          time_since k (time_at log i) e ≡ time_at log (i + 1) - time_at log i
      by_place zero q h = absurd (omega arith)
      by_place (suc k) q h = omega arith

  early_held : (c : ℕ) → 1 ≤ c → c ≤ length s.subs →
      EarlyClaim (time_first s) (Held (formula_at s.subs c))
  early_held c p q bits other h j =
      truth_below log s.variables (formula_at s.subs c)
      (each_atom_below s.variables s.subs plan.table plan.uses c p q) (read bits) (read other)
      (readings_same s books (fresh s.subs log (i + 1)) bits other h) j

  held_decided : (c : ℕ) → 1 ≤ c → c ≤ length s.subs → (bits : List Bool) →
      EachDecided (Held (formula_at s.subs c) bits)
  held_decided c p q bits j one =
      decided log (pinned s.subs) (formula_at s.subs c) (pinned_parts s.subs plan.table c p q)
      (read bits) j one

  early_tree : (c : ℕ) (t : Tree) → 1 ≤ c → c ≤ length s.subs →
      Draws (Says (formula_at s.subs c)) t → SaysOfAge (time_first s) t (value t)
  early_tree c t p q d =
      early_drawn (time_first s) (Says (formula_at s.subs c)) t d
      (λ bits other h. early_held c p q bits other h (i + 1))

  -- the claim that holds at each position
  abbrev AtEach : List Bool → Claim
  AtEach bits j = Unit {0}

  abbrev Opposite : CoreFormula → List Bool → Claim
  Opposite f bits j = ¬ Held f bits j

  -- what the rows of a kind give: the tree of the event, and what is remembered after it
  abbrev DrawsBoth : Kind → (l r : ℕ) → Update → Type 0
  DrawsBoth K l r u =
      Draws (Says (formula_with K (formula_at s.subs l) (formula_at s.subs r))) u.now ×
      (IsTrue (is_temporal K) → Draws (λ b. Memo log (formula_with K (formula_at s.subs l) (formula_at s.subs r)) (read b) (i + 1) (age_at s b)) u.next)

  timed_row : (n : ℕ) (K : Kind) (l r : ℕ) (f g m : Tree) → is_timed K ≡ true →
      AreChildren n (children K) l r → past_bound K < 2 ^ time_width s →
      (IsChild n l → Draws (Says (formula_at s.subs l)) f) → (IsChild n r → Draws (Says (formula_at s.subs r)) g) → ((c : ℕ) → IsChild n c → c ≤ length s.subs) →
      Draws (λ b. Memo log (formula_with K (formula_at s.subs l) (formula_at s.subs r)) (read b) i (age_at s b)) m → DrawsBoth K l r (update frame K f g m)
  timed_row n (kind.SinceAtMost b) l r f g m z h fit df dg len mem =
      let p = h.0.0 in
      let q = len l h.0 in
      let p' = h.1.0 in
      let q' = len r h.1 in
      let d = df h.0 in
      let c = dg h.1 in
      let low : b < 2 ^ time_width s = omega arith in
      let x = least_rows (time_first s) (time_width s) log i rise (Held (formula_at s.subs l))
      (Held (formula_at s.subs r)) (held_decided l p q) (held_decided r p' q')
      (early_held l p q) (early_held r p' q')
      passed passes m b low mem _ (value f) (value g) d.values
      c.values
      (λ age ages.
      since_within_ages (time_first s) (time_width s) b passed m age ages low f g (early_tree l f p q d) (early_tree r g p' q' c)) in
      (x.1, λ t. x.0)
  timed_row n (kind.SinceMoreThan b) l r f g m z h fit df dg len mem =
      let p = h.0.0 in
      let q = len l h.0 in
      let p' = h.1.0 in
      let q' = len r h.1 in
      let d = df h.0 in
      let c = dg h.1 in
      let x = greatest_rows (time_first s) (time_width s) log i rise (Held (formula_at s.subs l))
      (Held (formula_at s.subs r)) (held_decided l p q) (held_decided r p' q')
      (early_held l p q) (early_held r p' q')
      passed passes m b fit mem _ (value f) (value g) d.values
      c.values
      (λ age ages.
      since_beyond_ages (time_first s) (time_width s) b passed m age ages fit f g (early_tree l f p q d) (early_tree r g p' q' c)) in
      (x.1, λ t. x.0)
  timed_row n (kind.OnceAtMost b) l r f g m z h fit df dg len mem =
      let p = h.0.0 in
      let q = len l h.0 in
      let d = df h.0 in
      let low : b < 2 ^ time_width s = omega arith in
      let x = least_rows (time_first s) (time_width s) log i rise AtEach
      (Held (formula_at s.subs l)) (λ bits j one. inl tt) (held_decided l p q)
      (λ bits other k j. same) (early_held l p q)
      passed passes m b low mem _ (λ bits. true) (value f)
      (λ bits. (λ k. tt, λ k. refl)) d.values
      (λ age ages.
      once_within_ages (time_first s) (time_width s) b passed m age ages low f (early_tree l f p q d)) in
      (draws_same _ _ _ (λ bits. turned (once_bounded (AtMost b) log (Held (formula_at s.subs l) bits) (i + 1))) x.1, λ t. x.0)
  timed_row n (kind.OnceMoreThan b) l r f g m z h fit df dg len mem =
      let p = h.0.0 in
      let q = len l h.0 in
      let d = df h.0 in
      let x = greatest_rows (time_first s) (time_width s) log i rise AtEach
      (Held (formula_at s.subs l)) (λ bits j one. inl tt) (held_decided l p q)
      (λ bits other k j. same) (early_held l p q)
      passed passes m b fit mem _ (λ bits. true) (value f)
      (λ bits. (λ k. tt, λ k. refl)) d.values
      (λ age ages.
      once_beyond_ages (time_first s) (time_width s) b passed m age ages fit f (value f) (early_tree l f p q d)) in
      (draws_same _ _ _ (λ bits. turned (once_bounded (MoreThan b) log (Held (formula_at s.subs l) bits) (i + 1))) x.1, λ t. x.0)
  timed_row n (kind.AlwaysAtMost b) l r f g m z h fit df dg len mem =
      let p = h.0.0 in
      let q = len l h.0 in
      let d = df h.0 in
      let low : b < 2 ^ time_width s = omega arith in
      let x = least_rows (time_first s) (time_width s) log i rise AtEach
      (Opposite (formula_at s.subs l)) (λ bits j one. inl tt)
      (λ bits j one. not_one (held_decided l p q bits j one))
      (λ bits other k j. same) (λ bits other k j. neither (early_held l p q bits other k j))
      passed passes m b low mem _ (λ bits. true)
      (λ bits. not (value f bits)) (λ bits. (λ k. tt, λ k. refl))
      (λ bits. not_iff _ _ (d.values bits))
      (λ age ages.
      always_within_ages (time_first s) (time_width s) b passed m age ages low f (early_tree l f p q d)) in (
        draws_same _ _ _ (λ bits. turned (always_bounded (AtMost b) log (Held (formula_at s.subs l) bits) (i + 1) (held_decided l p q bits)))
            (draws_not _ _ _ x.1 (not_is _ (diagram _ _ x.1))),
        λ t. x.0,
      )
  timed_row n (kind.AlwaysMoreThan b) l r f g m z h fit df dg len mem =
      let p = h.0.0 in
      let q = len l h.0 in
      let d = df h.0 in
      let x = greatest_rows (time_first s) (time_width s) log i rise AtEach
      (Opposite (formula_at s.subs l)) (λ bits j one. inl tt)
      (λ bits j one. not_one (held_decided l p q bits j one))
      (λ bits other k j. same) (λ bits other k j. neither (early_held l p q bits other k j))
      passed passes m b fit mem _ (λ bits. true)
      (λ bits. not (value f bits)) (λ bits. (λ k. tt, λ k. refl))
      (λ bits. not_iff _ _ (d.values bits))
      (λ age ages.
      once_beyond_ages (time_first s) (time_width s) b passed m age ages fit (map_leaves not f) (λ bits. not (value f bits)) (not-says (time_first s) f (value f) (early_tree l f p q d))) in (
        draws_same _ _ _ (λ bits. turned (always_bounded (MoreThan b) log (Held (formula_at s.subs l) bits) (i + 1) (held_decided l p q bits)))
            (draws_not _ _ _ x.1 (not_is _ (diagram _ _ x.1))),
        λ t. x.0,
      )
  timed_row n _ l r f g m z h fit df dg len mem = absurd (cc)

  timed_temporal : (K : Kind) → is_timed K ≡ true → IsTrue (is_temporal K)
  timed_temporal (kind.SinceAtMost b) z = refl
  timed_temporal (kind.SinceMoreThan b) z = refl
  timed_temporal (kind.OnceAtMost b) z = refl
  timed_temporal (kind.OnceMoreThan b) z = refl
  timed_temporal (kind.AlwaysAtMost b) z = refl
  timed_temporal (kind.AlwaysMoreThan b) z = refl
  timed_temporal _ z = absurd (cc)

  -- the rows of each kind draw its formula, and what it remembers after the event
  pub kind_row : (n : ℕ) (u : Sub) → slice_get s.subs (n - 1) ≡ Some u →
      (K : Kind) (l r : ℕ) (f g m : Tree) → u.kind ≡ K → AreChildren n (children K) l r →
      UsesBelow s.variables K →
      past_bound K < 2 ^ time_width s → AtomBelow s.variables (formula_with K (formula_at s.subs l) (formula_at s.subs r)) →
      (IsChild n l → Draws (Says (formula_at s.subs l)) f) → (IsChild n r → Draws (Says (formula_at s.subs r)) g) → ((c : ℕ) → IsChild n c → c ≤ length s.subs) →
      (IsTrue (is_temporal K) → Draws (λ b. Memo log (formula_with K (formula_at s.subs l) (formula_at s.subs r)) (read b) i (age_at s b)) m) → DrawsBoth K l r (update frame K f g m)
  kind_row n u at K l r f g m q h v fit low df dg len mem = by_kind (is_timed K) refl
    where
      by_kind : (b : Bool) → is_timed K ≡ b → DrawsBoth K l r (update frame K f g m)
      by_kind true z = timed_row n K l r f g m z h fit df dg len (mem (timed_temporal K z))
      by_kind false z =
          let now = row n u at K l r f g m q z h v low df dg (len l) mem in
          (now, λ t. memo_row n K l r f g m z h t df now)
