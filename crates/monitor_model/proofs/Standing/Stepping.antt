-- One event keeps what the monitor stands for.
use Rattle.std.proofs.Common.{◌≡◌, ◌≢◌, ℕ, zero, suc, ◌+◌, ◌-◌, ◌^◌, ◌<◌, ◌≤◌, ◌↔◌, refl, sym, ◌∙◌, subst, arith, List, [], length, Bool, Some, None, IsTrue}
use Rattle.std.specs.Prelude.{slice_get}
use Rattle.std.proofs.lemmas.Option.{slice_get_within}
use Rattle.qtl_syntax.specs.Tree.{Text}
use Rattle.qtl_truth.specs.Truth.{IsLog, time_at}
use Rattle.qtl_truth.specs.declared.event.Event.{Event}
use Rattle.wellformed.specs.CoreTree.{CoreFormula, Atom}
use Rattle.subformulas.specs.Assigned.{Texts, put, Truth}
use Rattle.subformulas.specs.Memory.{is_temporal, IsTemporal, Memo}
use Rattle.subformulas.specs.Needs.{need, IsToldTexts}
use Rattle.subformulas.specs.Pinned.{fresh}
use Rattle.subformulas.specs.Table.{IsChild, UsesBelow, HasLawfulBound}
use Rattle.subformulas.specs.Texts.{Has}
use Rattle.subformulas.specs.TimeBits.{past_bound}
use Rattle.subformulas.specs.Unfolded.{formula_at, formula_with}
use Rattle.subformulas.specs.declared.table.Kind.{Kind}
use Rattle.subformulas.specs.declared.table.Kind.TheVariants as kind
use Rattle.subformulas.specs.declared.table.Sub.{Sub}
use Rattle.subformulas.proofs.Below.{AtomBelow, each_atom_below}
use Rattle.subformulas.proofs.ByNumber.{all_at}
use Rattle.subformulas.proofs.Digits.{ages_fit}
use Rattle.subformulas.proofs.Parts.{EachPart}
use Rattle.subformulas.proofs.Plain.{plain_truth, some_is}
use Rattle.subformulas.proofs.Unfold.{children_at, unfolds, by_some, get_some}
use Rattle.value_codes.specs.Pairs.{Pairs, code_of}
use Rattle.node_tree.specs.Tree.{Tree}
use Rattle.operation_rows.specs.Rows.{Update}
use Rattle.monitor_model.specs.Setting.{Setting}
use Rattle.monitor_model.specs.Books.{IsBook}
use Rattle.monitor_model.specs.Drawn.{Draws, readings, age_at}
use Rattle.monitor_model.specs.Ends.{AreNext, sources}
use Rattle.monitor_model.specs.Laws.{StepsOn}
use Rattle.monitor_model.specs.Rows.{Sources, update, nth, updates, now_at, next_at}
use Rattle.monitor_model.specs.Stands.{IsPlan, IsNow, IsRemembered, StandsFor}
use Rattle.monitor_model.proofs.Books.Reuse.{SameReadings, kept_draws, kept_remembered}
use Rattle.monitor_model.proofs.Books.Sound.{IsBookFor, sound, sound_next, next_readings, needed_coded, uncoded_plain}
use Rattle.monitor_model.proofs.Drawing.Updates.{updates_are}
use Rattle.monitor_model.proofs.Standing.Rows.{Serves, kind_row}

-- a lawful bound and one more is a number of 20 bits
lawful_fits : (K : Kind) → HasLawfulBound K → past_bound K < 2 ^ 20
lawful_fits (kind.SinceAtMost n) h = omega arith
lawful_fits (kind.SinceMoreThan n) h = omega arith
lawful_fits (kind.OnceAtMost n) h = omega arith
lawful_fits (kind.OnceMoreThan n) h = omega arith
lawful_fits (kind.AlwaysAtMost n) h = omega arith
lawful_fits (kind.AlwaysMoreThan n) h = omega arith
lawful_fits _ h = omega arith

module _ (s : Setting) (log : List Event) (i : ℕ) (e : Event) (told : ℕ → List Text) (before books : ℕ → Pairs) (memory : ℕ → Tree) (plan : IsPlan s) (is_log : IsLog log)
    (at : slice_get log i ≡ Some e) (stands : StandsFor s log i before memory)
    (told_is : (x : ℕ) → x < s.variables → IsToldTexts s.subs log x i (told x))
    (next : AreNext s e told before books) (no_more : (x : ℕ) → s.variables ≤ x → books x ≡ []) where
  was_sound : (x : ℕ) → x < s.variables → IsBookFor s.bits s.subs log x i (before x)
  was_sound x p = sound s.bits s.subs plan.table log x is_log i (before x) (stands.books_are x p)

  -- the next books keep what drawing asks of them
  pub is_sound : (x : ℕ) → x < s.variables → IsBookFor s.bits s.subs log x (i + 1) (books x)
  is_sound x p =
      sound_next s.bits s.subs plan.table log x is_log i e at (told x) (told_is x p) (before x)
      (was_sound x p) (books x) (next x p)

  has_code : (x : ℕ) → x < s.variables → (t : Text) → Has (need s.subs x e) t →
      code_of (books x) t ≢ None
  has_code x p =
      needed_coded s.bits s.subs plan.table log x is_log i e at (told x) (told_is x p) (before x)
      (was_sound x p) (books x) (next x p)

  -- a text without a code makes each subformula true as a fresh one does
  unread : (x : ℕ) → x < s.variables → (k : ℕ) → 1 ≤ k → k ≤ length s.subs →
      (t : Text) (mu : Texts) → code_of (books x) t ≡ None →
      Truth log (formula_at s.subs k) (put x t mu) (i + 1) ↔ Truth log (formula_at s.subs k)
      (put x (fresh s.subs log (i + 1)) mu) (i + 1)
  unread x p k one most t mu n =
      plain_truth s.subs plan.table log x is_log i e at t
      (uncoded_plain s.bits s.subs plan.table log x is_log i e at (told x) (told_is x p) (before x) (was_sound x p) (books x) (next x p) t n)
      (λ h. has_code x p t h n) k mu one most

  serves : Serves s log i e books
  serves = record {
    paired = λ x p. (is_sound x p).paired;
    below = λ x p. (is_sound x p).below;
    texts = λ x p. (is_sound x p).texts;
    no_more = no_more;
    coded_need = has_code;
    unread = unread;
  }

  readings_next : (x : ℕ) → x < s.variables → SameReadings s.subs log i x (before x) (books x)
  readings_next x p =
      next_readings s.bits s.subs plan.table log x is_log i e at (told x) (told_is x p) (before x)
      (was_sound x p) (books x) (next x p)

  abbrev from : Sources
  from = sources s i (time_at log i) e books memory

  abbrev now : ℕ → Tree
  now k = now_at from k

  -- what the formula says at the event, by the next books
  abbrev Says : CoreFormula → List Bool → Type 0
  Says f b = Truth log f (readings s books (fresh s.subs log (i + 1)) b) (i + 1)

  abbrev Remembers : CoreFormula → List Bool → Type 0
  Remembers f b = Memo log f (readings s books (fresh s.subs log (i + 1)) b) (i + 1) (age_at s b)

  -- the variables that an atom names are below the plan's number of them
  atom_at : (k : ℕ) (u : Sub) → 1 ≤ k → k ≤ length s.subs → slice_get s.subs (k - 1) ≡ Some u →
      AtomBelow s.variables (formula_with u.kind (formula_at s.subs u.left) (formula_at s.subs u.right))
  atom_at k u p q g =
      here_of _
      (subst (EachPart (AtomBelow s.variables)) (unfolds s.subs k u plan.table p g) (each_atom_below s.variables s.subs plan.table plan.uses k p q))
    where
      here_of : (f : CoreFormula) → EachPart (AtomBelow s.variables) f → AtomBelow s.variables f
      here_of (Atom a) h = h
      here_of _ h = tt

  -- what the rows of subformula k give, where the trees of its children are those of the event
  abbrev DrawsBoth : ℕ → Update → Type 0
  DrawsBoth k u = Draws (Says (formula_at s.subs k)) u.now × (IsTemporal s.subs k → Draws (Remembers (formula_at s.subs k)) u.next)

  update_draws : (k : ℕ) (u : Sub) → 1 ≤ k → k ≤ length s.subs → slice_get s.subs (k - 1) ≡ Some u →
      ((c : ℕ) → IsChild k c → Draws (Says (formula_at s.subs c)) (now c)) →
      DrawsBoth k (nth (updates from) k)
  update_draws k u p q g below =
      let f = unfolds s.subs k u plan.table p g in
      let x = kind_row s plan log is_log i e at books serves k u g u.kind u.left u.right
      (now u.left) (now u.right) (memory k) refl (children_at s.subs k u plan.table p g)
      (all_at (λ z. UsesBelow s.variables z.kind) s.subs (k - 1) u plan.uses g)
      (ages_fit s.subs (k - 1) u g (lawful_fits u.kind (all_at (λ z. HasLawfulBound z.kind) s.subs (k - 1) u plan.bounds g)))
      (atom_at k u p q g) (below u.left) (below u.right) (λ c h. let b = h.1 in omega arith)
      (λ temporal. subst (λ (z : CoreFormula). Draws (λ b. Memo log z (readings s books (fresh s.subs log (i + 1)) b) i (age_at s b)) (memory k)) f
      (kept_draws s plan log i before books readings_next k (p, some_is _ u _ g temporal) (memory k) (stands.memory_is k (p, some_is _ u _ g temporal)))) in
      subst (DrawsBoth k) (sym (updates_are from plan.table k u p g)) (
        subst
            (λ (z : CoreFormula). Draws (Says z) (update from.frame u.kind (now u.left) (now u.right) (memory k)).now)
            (sym f) x.0,
        λ t. subst (λ (z : CoreFormula). Draws (Remembers z) (update from.frame u.kind (now u.left) (now u.right) (memory k)).next) (sym f) (x.1 (temporal_of k u g t)),
      )
    where
      temporal_of : (k : ℕ) (u : Sub) → slice_get s.subs (k - 1) ≡ Some u → IsTemporal s.subs k →
          IsTrue (is_temporal u.kind)
      temporal_of k u g t =
          let (v, h, temporal) = by_some _ _ t.1 in
          let same : Some v ≡ Some u = sym h ∙ g in
          let d : v ≡ u = cc in
          subst (λ (z : Sub). IsTrue (is_temporal z.kind)) d temporal

  -- the trees of the event are those of its truth, child before parent
  now_below : (n k : ℕ) → 1 ≤ k → k ≤ length s.subs → k ≤ n →
      Draws (Says (formula_at s.subs k)) (now k)
  now_below zero k p q r = absurd (omega arith)
  now_below (suc n) k p q r =
      let (u, g) = get_some s.subs (k - 1) (omega arith) in
      (update_draws k u p q g (λ c b. now_below n c b.0 (let x = b.1 in omega arith) (let x = b.1 in omega arith))).0

  now_stands : (k : ℕ) → 1 ≤ k → k ≤ length s.subs → IsNow s log (i + 1) books k (now k)
  now_stands k p q = now_below k k p q (omega arith)

  memory_stands : (k : ℕ) → IsTemporal s.subs k →
      IsRemembered s log (i + 1) books k (next_at from k)
  memory_stands k h =
      let (u, g, temporal) = by_some _ _ h.1 in
      let w = slice_get_within s.subs (k - 1) u g in
      let one = h.0 in
      (update_draws k u h.0 (omega arith) g (λ c b. now_stands c b.0 (let x = b.1 in omega arith))).1 h

  pub step_stands : StepsOn s log i e books memory
  step_stands = record {
    stands = record {
      books_are = λ x p. let f : suc i ≡ i + 1 = omega arith in
          subst (λ (n : ℕ). IsBook s.bits s.subs log x n (books x)) f
          (before x, told x, e, stands.books_are x p, told_is x p, at, next x p);
      no_more = no_more;
      memory_is = memory_stands;
    };
    now = now_stands;
    kept =
        λ k h. kept_remembered s plan log i before books readings_next k h (memory k) (stands.memory_is k h);
  }
