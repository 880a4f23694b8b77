-- What the rows make of remembered trees of that shape has that shape.
use Rattle.std.proofs.Common.{◌≡◌, ℕ, zero, suc, ◌+◌, ◌-◌, ◌^◌, ◌<◌, ◌≤◌, refl, sym, ◌⊎◌, subst, arith, List, [], ◌∷◌, length, Bool, Option, Some, None}
use Rattle.std.specs.Prelude.{slice_get}
use Rattle.std.specs.List.{AllByRecursion}
use Rattle.qtl_truth.specs.declared.event.Event.{Event}
use Rattle.wellformed.specs.CoreTree.{CoreFormula}
use Rattle.subformulas.specs.Memory.{IsTemporal}
use Rattle.subformulas.specs.Table as table
use Rattle.subformulas.specs.Table.{children, AreChildren, HasLawfulBound}
use Rattle.subformulas.specs.TimeBits.{past_bound}
use Rattle.subformulas.specs.Unfolded.{formula_at, formula_with}
use Rattle.subformulas.specs.declared.table.Kind.{Kind}
use Rattle.subformulas.specs.declared.table.Kind.TheVariants as kind
use Rattle.subformulas.specs.declared.table.Sub.{Sub}
use Rattle.subformulas.proofs.ByNumber.{all_at, first_child, second_child}
use Rattle.subformulas.proofs.Digits.{ages_fit}
use Rattle.subformulas.proofs.Plain.{some_is}
use Rattle.subformulas.proofs.Unfold.{unfolds, children_at, get_some, by_some}
use Rattle.value_codes.specs.Pairs.{Pairs}
use Rattle.node_tree.specs.Tree.{Tree, IsOrdered, IsReduced, value}
use Rattle.node_tree.specs.Levels.{AllLevels}
use Rattle.monitor_model.specs.Setting.{Setting}
use Rattle.monitor_model.specs.Ends.{sources}
use Rattle.monitor_model.specs.Rows.{Frame, Sources, update, nth, updates, now_at, next_at}
use Rattle.monitor_model.specs.Shape.{oldest, HasMemoryShape, IsOverChild, IsTimeLevel, AreMemories}
use Rattle.monitor_model.specs.State.{setting_of}
use Rattle.monitor_model.specs.Laws.{HaveCodesBelow, AreDiagrams, StayShaped, ShapesStay}
use Rattle.monitor_model.proofs.Drawing.Updates.{updates_are}
use Rattle.monitor_model.proofs.Shapes.Aged.{aged_of, aged_same}
use Rattle.monitor_model.proofs.Shapes.Free.{IsLevelOf, free_below}
use Rattle.monitor_model.proofs.Shapes.Kinds.{HasFree, IsOwn, Remembers, IsShaped, kind_shaped}
use Rattle.monitor_model.proofs.Shapes.Unpaired.{IsUnpaired, alike_same, same_alike}

-- a place with an element is one of the list
pub get_within : {A : Type 0} (xs : List A) (i : ℕ) (a : A) → slice_get xs i ≡ Some a →
    i < length xs
get_within [] i a e = absurd (let no : ⊥ = cc in no)
get_within (x ∷ xs) zero a e = omega arith
get_within (x ∷ xs) (suc i) a e = let h = get_within xs i a e in omega arith

-- a lawful bound's age is a number of 20 bits
pub past_fits : (k : Kind) → HasLawfulBound k → past_bound k < 2 ^ 20
past_fits (kind.SinceAtMost n) h = omega arith
past_fits (kind.SinceMoreThan n) h = omega arith
past_fits (kind.OnceAtMost n) h = omega arith
past_fits (kind.OnceMoreThan n) h = omega arith
past_fits (kind.AlwaysAtMost n) h = omega arith
past_fits (kind.AlwaysMoreThan n) h = omega arith
past_fits _ h = omega arith

-- a quantifier's tree is over its child's
over_child : (fr : Frame) (k : Kind) (f g m : Tree) →
    IsOverChild fr.setting k f (update fr k f g m).now
over_child fr (kind.Exists x) f g m = refl
over_child fr (kind.Forall x) f g m = refl
over_child fr _ f g m = tt

module _ (s : Setting) (rows : table.IsTable 0 s.subs)
    (uses : AllByRecursion (λ u. table.UsesBelow s.variables u.kind) s.subs)
    (bounds : AllByRecursion (λ u. HasLawfulBound u.kind) s.subs)
    (events last : ℕ) (e : Event) (books : ℕ → Pairs) (memory : ℕ → Tree)
    (few : HaveCodesBelow s books) (diagrams : AreDiagrams s.subs memory)
    (memories : AreMemories s books memory) where
  abbrev S : Sources
  S = sources s events last e books memory

  -- what is remembered has the shape that its kind asks for
  remembered : (x c k : ℕ) (u : Sub) (F : CoreFormula) → formula_at s.subs k ≡ F →
      slice_get s.subs (k - 1) ≡ Some u → IsTemporal s.subs k →
      Remembers s books x c F (oldest u.kind) (memory k)
  remembered x c k u F f at t = by_kind (oldest u.kind) (memories.shape k u at t)
    where
      same : (a b : List Bool) → IsUnpaired s books x c a b →
          value (memory k) a ≡ value (memory k) b
      same = alike_same s books (memory k) (diagrams k t).0 (memories.alike k t) x c

      by_kind : (o : Option ℕ) → HasMemoryShape s k o (memory k) →
          Remembers s books x c F o (memory k)
      by_kind None h = record {
        ordered = (diagrams k t).0;
        reduced = (diagrams k t).1;
        levels = subst (λ G. AllLevels (IsLevelOf s G) (memory k)) f h;
        same = same;
      }
      by_kind (Some most) h =
          aged_of s books x c (IsLevelOf s F) most (memory k)
          (subst (λ G. AllLevels (λ l. IsLevelOf s G l ⊎ IsTimeLevel s l) (memory k)) f h.0) h.1
          same

  -- what subformula k makes has its formula's shape, where x and c are any variable and code:
  -- levels and ages don't hang on them
  abbrev Made : (x c k : ℕ) → Sub → Type 0
  Made x c k u = IsShaped s books x c (formula_at s.subs k) (oldest u.kind) (nth (updates S) k)

  made_next : (x c k : ℕ) (u : Sub) → 1 ≤ k → k ≤ length s.subs →
      slice_get s.subs (k - 1) ≡ Some u →
      ((j : ℕ) → (1 ≤ j) × (j < k) → IsOwn s books x c (formula_at s.subs j) (now_at S j)) →
      Made x c k u
  made_next x c k u one most at before =
      let F = formula_at s.subs u.left in
      let G = formula_at s.subs u.right in
      let f = unfolds s.subs k u rows one at in
      let here = children_at s.subs k u rows one at in
      let fits = ages_fit s.subs (k - 1) u at
      (past_fits u.kind (all_at (λ z. HasLawfulBound z.kind) s.subs (k - 1) u bounds at)) in
      let free : HasFree s (formula_with u.kind F G) =
      subst (HasFree s) f (free_below s.variables s.subs rows uses k one most) in
      let made : IsShaped s books x c (formula_with u.kind F G) (oldest u.kind)
      (update S.frame u.kind (now_at S u.left) (now_at S u.right) (memory k)) =
      kind_shaped S.frame x c few u.kind F G (now_at S u.left) (now_at S u.right) (memory k)
      free fits
      (λ some. before u.left (first_child k (children u.kind) u.left u.right here some))
      (λ two. before u.right (second_child k (children u.kind) u.left u.right here two))
      (λ t. remembered x c k u (formula_with u.kind F G) f at (one, some_is _ u _ at t)) in
      subst (λ H. IsShaped s books x c H (oldest u.kind) (nth (updates S) k)) (sym f)
      (subst (IsShaped s books x c (formula_with u.kind F G) (oldest u.kind))
      (sym (updates_are S rows k u one at)) made)

  made_below : (x c n k : ℕ) (u : Sub) → k < n → 1 ≤ k → k ≤ length s.subs →
      slice_get s.subs (k - 1) ≡ Some u → Made x c k u
  made_below x c zero k u l one most at = absurd (omega arith)
  made_below x c (suc n) k u l one most at =
      made_next x c k u one most at
      (λ j (p, q).
      let (v, g) = get_some s.subs (j - 1) (omega arith) in
      (made_below x c n j v (omega arith) p (omega arith) g).now)

  made : (x c k : ℕ) (u : Sub) → 1 ≤ k → k ≤ length s.subs → slice_get s.subs (k - 1) ≡ Some u →
      Made x c k u
  made x c k u one most at = made_below x c (k + 1) k u (omega arith) one most at

  there : (k : ℕ) (u : Sub) → 1 ≤ k → slice_get s.subs (k - 1) ≡ Some u → k ≤ length s.subs
  there k u one at = let l = get_within s.subs (k - 1) u at in omega arith

  memory_shape : (k : ℕ) (o : Option ℕ) (t : Tree) →
      Remembers s books 0 0 (formula_at s.subs k) o t → HasMemoryShape s k o t
  memory_shape k None t h = h.levels
  memory_shape k (Some most) t h = (h.levels, (h.age, h.has, h.small))

  memory_diagram : (x c : ℕ) (F : CoreFormula) (o : Option ℕ) (t : Tree) →
      Remembers s books x c F o t → IsOrdered t × IsReduced t
  memory_diagram x c F None t h = (h.ordered, h.reduced)
  memory_diagram x c F (Some most) t h = (h.has.ordered, h.has.reduced)

  memory_same : (x c : ℕ) (F : CoreFormula) (o : Option ℕ) (t : Tree) →
      Remembers s books x c F o t → (a b : List Bool) → IsUnpaired s books x c a b →
      value t a ≡ value t b
  memory_same x c F None t h = h.same
  memory_same x c F (Some most) t h = aged_same s books x c (IsLevelOf s F) most t h

  -- the trees that come have the shape of those that were, and so have those of the event
  stays : StayShaped s events last e books memory
  stays = record {
    next = record {
      shape = λ k u at t.
          memory_shape k (oldest u.kind) (next_at S k)
          (made 0 0 k u t.0 (there k u t.0 at) at).next;
      alike = λ k t.
          let (u, at, _) = by_some (slice_get s.subs (k - 1)) _ t.1 in
          let (o, r) = memory_diagram 0 0 (formula_at s.subs k) (oldest u.kind) (next_at S k)
          (made 0 0 k u t.0 (there k u t.0 at) at).next in
          same_alike s books (next_at S k) o r
          (λ x c. memory_same x c (formula_at s.subs k) (oldest u.kind) (next_at S k)
          (made x c k u t.0 (there k u t.0 at) at).next);
    };
    now = record {
      shape = λ k one most.
          let (u, at) = get_some s.subs (k - 1) (omega arith) in
          (made 0 0 k u one most at).now.levels;
      alike = λ k one most.
          let (u, at) = get_some s.subs (k - 1) (omega arith) in
          same_alike s books (now_at S k) (made 0 0 k u one most at).now.ordered
          (made 0 0 k u one most at).now.reduced (λ x c. (made x c k u one most at).now.same);
      over = λ k u one at.
          subst (λ z. IsOverChild s u.kind (now_at S u.left) z.now)
          (sym (updates_are S rows k u one at))
          (over_child S.frame u.kind (now_at S u.left) (now_at S u.right) (memory k));
    };
  }

-- so it is of each plan
pub shapes_stay : ShapesStay
shapes_stay m events last e books memory sound few diagrams memories =
    stays (setting_of m) sound.table sound.uses sound.bounds events last e books memory few diagrams
    memories
