-- A monitor before the first event stands for no event, and its diagrams are leaves.
use Rattle.std.proofs.Common.{◌≡◌, ℕ, zero, suc, ◌+◌, ◌-◌, ◌^◌, ◌≤◌, refl, sym, ap, ◌∙◌, subst, arith, List, [], ◌∷◌, length, Bool, true, false, Option, Some, None, IsTrue}
use Rattle.std.specs.Prelude.{slice_get, nat_le, not, if◌then◌else◌}
use Rattle.std.specs.List.{AllByRecursion}
use Rattle.qtl_syntax.specs.Tree.{Text}
use Rattle.subformulas.specs.Memory.{is_temporal, IsTemporal}
use Rattle.subformulas.specs.Table as plan_table
use Rattle.subformulas.specs.declared.table.Kind.{Kind}
use Rattle.subformulas.specs.declared.table.Kind.TheVariants as kind
use Rattle.subformulas.specs.declared.table.Sub.{Sub}
use Rattle.subformulas.proofs.Unfold.{by_some}
use Rattle.node_tree.specs.Tree.{Tree, Zero, One, tree_eq}
use Rattle.bdd_ops.specs.Reading.{set_block}
use Rattle.value_codes.specs.Pairs.{Contents, IsBook, Pairs, code_of}
use Rattle.timed_bits.specs.Ages.{HasAgesTo}
use Rattle.monitor_model.specs.Books.{Gives}
use Rattle.monitor_model.specs.Laws.{AreFirst, first_memory}
use Rattle.monitor_model.specs.Setting.{Setting, first_of, time_first, time_width}
use Rattle.monitor_model.specs.Shape.{HasMemoryShape, ReadsAlike, oldest}
use Rattle.monitor_model.specs.Stands.{IsRemembered, StandsFor}
use Rattle.monitor_model.specs.State.{State, IsLive, IsMonitor, Stands, kept, memory_of, pairs_in, setting_of}
use Rattle.monitor_model.proofs.Standing.Opening.{open_stands}
use Rattle.monitor_model.proofs.Telling.Given.{plan_is}
use Rattle.monitor_step.specs.Handles.{AreFirstHandles}
use Rattle.monitor_step.specs.Serving.{pairs_at}
use Rattle.monitor_step.proofs.Rows.Kept.{first_memory_is}
use Rattle.monitor_step.proofs.Stepping.Reading.{none_pinned}

-- the books are empty
abbrev pub AreEmpty : ℕ → List Contents → Type 0
AreEmpty bits books = AllByRecursion (λ b. b ≡ record { bits = bits; pairs = [] }) books

pub their_bits : (bits : ℕ) (books : List Contents) → AreEmpty bits books →
    AllByRecursion (λ b. b.bits ≡ bits) books
their_bits bits [] h = tt
their_bits bits (b ∷ books) h = (ap (λ (c : Contents). c.bits) h.0, their_bits bits books h.1)

no_pairs : (bits : ℕ) (books : List Contents) → AreEmpty bits books → (x : ℕ) → pairs_at books x ≡ []
no_pairs bits [] h x = refl
no_pairs bits (b ∷ books) h zero = ap (λ (c : Contents). c.pairs) h.0
no_pairs bits (b ∷ books) h (suc x) = no_pairs bits books h.1 x

first_of_sub : Option Sub → Tree
first_of_sub None = Zero
first_of_sub (Some u) = first_memory u.kind

-- before the first event a timed subformula remembers no age
no_ages : (first width most : ℕ) → HasAgesTo first width most Zero
no_ages first width most = (
  λ bits. None,
  record {
    ordered = tt;
    reduced = tt;
    fits = λ bits. tt;
    before = λ bits other h. refl;
    values = λ bits. refl;
  },
  λ bits. tt,
)

-- a leaf has no level, and reads alike under each code
first_shape : (s : Setting) (k : ℕ) (K : Kind) → HasMemoryShape s k (oldest K) (first_memory K)
first_shape s k (kind.SinceAtMost n) = (tt, no_ages (time_first s) (time_width s) n)
first_shape s k (kind.OnceAtMost n) = (tt, no_ages (time_first s) (time_width s) n)
first_shape s k (kind.AlwaysAtMost n) = (tt, no_ages (time_first s) (time_width s) n)
first_shape s k (kind.SinceMoreThan n) = (tt, no_ages (time_first s) (time_width s) (n + 1))
first_shape s k (kind.OnceMoreThan n) = (tt, no_ages (time_first s) (time_width s) (n + 1))
first_shape s k (kind.AlwaysMoreThan n) = (tt, no_ages (time_first s) (time_width s) (n + 1))
first_shape s k _ = tt

either_same : (leaf t u : Tree) (b : Bool) → t ≡ leaf → u ≡ leaf → (if b then t else u) ≡ leaf
either_same leaf t u true e f = e
either_same leaf t u false e f = f

zero_same : (first bits c : ℕ) → set_block first bits c Zero ≡ Zero
zero_same first zero c = refl
zero_same first (suc n) c =
    either_same Zero _ _ (nat_le (2 ^ n) c) (zero_same (first + 1) n (c - 2 ^ n))
    (zero_same (first + 1) n c)

one_same : (first bits c : ℕ) → set_block first bits c One ≡ One
one_same first zero c = refl
one_same first (suc n) c =
    either_same One _ _ (nat_le (2 ^ n) c) (one_same (first + 1) n (c - 2 ^ n))
    (one_same (first + 1) n c)

no_difference : (leaf t u : Tree) → t ≡ leaf → u ≡ leaf → tree_eq leaf leaf ≡ true →
    not (tree_eq t u) ≡ false
no_difference leaf t u e f same = rw (e, f, same) refl

zero_alike : (s : Setting) (books : ℕ → Pairs) → ReadsAlike s books Zero
zero_alike s books x c v l n =
    no_difference Zero _ _ (zero_same (first_of s x) s.bits c)
    (zero_same (first_of s x) s.bits (2 ^ s.bits - 1)) refl

one_alike : (s : Setting) (books : ℕ → Pairs) → ReadsAlike s books One
one_alike s books x c v l n =
    no_difference One _ _ (one_same (first_of s x) s.bits c)
    (one_same (first_of s x) s.bits (2 ^ s.bits - 1)) refl

first_alike : (s : Setting) (books : ℕ → Pairs) (K : Kind) → ReadsAlike s books (first_memory K)
first_alike s books kind.Always = one_alike s books
first_alike s books _ = zero_alike s books

module _ (m : State) (first : AreFirstHandles m.plan.subs m.shelf.table m.handles)
    (empty : AreEmpty m.bits m.books) where
  abbrev starts : ℕ → Tree
  starts k = first_of_sub (slice_get m.plan.subs (k - 1))

  enough : kept m ≤ length m.handles
  enough = let c = first.count in omega (arith, c)

  remembers : (k : ℕ) (u : Sub) → slice_get m.plan.subs (k - 1) ≡ Some u → IsTemporal m.plan.subs k →
      memory_of m k ≡ first_memory u.kind
  remembers k u at temporal =
      let (v, g, holds) = by_some _ _ temporal.1 in
      let same : v ≡ u = (let f : Some v ≡ Some u = sym g ∙ at in cc) in
      first_memory_is m enough first k u temporal.0 at
      (subst (λ (w : Sub). IsTrue (is_temporal w.kind)) same holds)

  remembers_start : (k : ℕ) → IsTemporal m.plan.subs k → memory_of m k ≡ starts k
  unfolding first_of_sub
  remembers_start k temporal =
      let (u, at, holds) = by_some _ _ temporal.1 in
      remembers k u at temporal ∙ sym (ap first_of_sub at)

  are_first : AreFirst (setting_of m) (λ x. [])
  are_first = record {
    pins = λ x p. subst (λ (ps : List Text). Gives m.bits ps [] []) (sym (none_pinned m.plan.subs x)) refl;
    no_more = λ x p. refl;
  }

  pub opened_stands : IsMonitor m → m.live ≡ true → m.events ≡ 0 → m.last_time ≡ 0 → m.has_now ≡ false →
      Stands m []
  unfolding first_of_sub
  opened_stands monitor live events time none = record {
    live = live;
    events = events;
    time = time;
    books = λ x. [];
    same = λ x p t. ap (λ pairs. code_of pairs t) (no_pairs m.bits m.books empty x);
    stands = record {
      books_are = begun.books_are;
      no_more = begun.no_more;
      memory_is = λ k temporal.
          subst (IsRemembered (setting_of m) [] 0 (λ x. []) k) (sym (remembers_start k temporal))
          (begun.memory_is k temporal);
    };
    now = λ has. absurd (let no : true ≡ false = sym has ∙ none in cc);
  }
    where
      begun : StandsFor (setting_of m) [] 0 (λ x. []) starts
      begun =
          open_stands (setting_of m) [] (λ x. []) starts (plan_is m monitor) are_first
          (λ k u one at. ap first_of_sub at)

  -- and it is lawful
  pub opened : plan_table.IsSound m.plan →
      AllByRecursion (λ u. plan_table.HasFewTerms u.kind) m.plan.subs → 1 ≤ m.bits → m.bits ≤ 20 →
      length m.books ≡ length m.plan.variables → m.has_now ≡ false → IsMonitor m
  opened plan few low high count none = record {
    plan = plan;
    few_terms = few;
    some_bits = low;
    few_bits = high;
    book_count = count;
    book_bits = their_bits m.bits m.books empty;
    handle_count = first.count;
    some_events = λ has. absurd (let no : true ≡ false = sym has ∙ none in cc);
  }

  pub opened_live : AllByRecursion IsBook m.books → m.has_now ≡ false → IsLive m
  opened_live books none = record {
    books = books;
    valid = first.valid;
    next = first.twice;
    memory = record {
      shape = λ k u at temporal.
          subst (HasMemoryShape (setting_of m) k (oldest u.kind)) (sym (remembers k u at temporal))
          (first_shape (setting_of m) k u.kind);
      alike = λ k temporal.
          let (u, at, holds) = by_some _ _ temporal.1 in
          subst (ReadsAlike (setting_of m) (pairs_in m)) (sym (remembers k u at temporal))
          (first_alike (setting_of m) (pairs_in m) u.kind);
    };
    now = λ has. absurd (let no : true ≡ false = sym has ∙ none in cc);
  }
