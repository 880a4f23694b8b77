-- Over an event the diagrams of a live monitor keep their shape: those that it remembers, and those
-- of the event.
use Rattle.std.proofs.Common.{◌≡◌, ℕ, zero, suc, ◌-◌, ◌^◌, ◌<◌, ◌≤◌, ◌⊎◌, inl, inr, ⊎_elim, sym, ap, ◌∙◌, subst, arith, List, [], ◌∷◌, ◌++◌, length, map, true, false, Some, None}
use Rattle.std.specs.Prelude.{nat_lt, slice_index_or}
use Rattle.std.specs.List.{AllByRecursion}
use Rattle.std.proofs.lemmas.Bool.{cases_lt}
use Rattle.qtl_syntax.specs.Tree.{Text}
use Rattle.qtl_truth.specs.declared.event.Event.{Event}
use Rattle.subformulas.specs.Memory.{IsTemporal}
use Rattle.subformulas.specs.Needs.{need}
use Rattle.subformulas.specs.Pinned.{pinned}
use Rattle.subformulas.specs.Table.{children, IsTable}
use Rattle.subformulas.specs.declared.table.Kind.{Kind}
use Rattle.subformulas.specs.declared.table.Kind.TheVariants as kind
use Rattle.subformulas.proofs.ByNumber.{first_child}
use Rattle.subformulas.proofs.Unfold.{children_at}
use Rattle.value_codes.specs.Pairs.{Pairs, Contents, code_of, value_of, IsPaired}
use Rattle.value_codes.specs.Pairs as codes
use Rattle.value_codes.proofs.Lookups.{some_none, code_reads}
use Rattle.node_tree.specs.Tree.{Tree}
use Rattle.node_table.specs.Table.{IsShared}
use Rattle.quantify.specs.Quantified.{after_rows}
use Rattle.monitor_model.specs.Books.{keep, without_code, free_count, with_room, IsNextBook}
use Rattle.monitor_model.specs.Ends.{AreNext}
use Rattle.monitor_model.specs.Laws.{HaveCodesBelow, StayShaped}
use Rattle.monitor_model.specs.Reading.{AreTold, IsNext, sources_of}
use Rattle.monitor_model.specs.Rows.{of_temporal, now_at, next_at}
use Rattle.monitor_model.specs.Setting.{Setting, first_of}
use Rattle.monitor_model.specs.Shape.{HasMemoryShape, HasOwnLevels, IsOverChild, ReadsAlike, AreMemories, AreResults, oldest}
use Rattle.monitor_model.specs.State.{State, setting_of, memory_of, now_of, remembered, pairs_in, IsMonitor, IsLive}
use Rattle.monitor_model.proofs.Reading.Answered.{same_setting}
use Rattle.monitor_model.proofs.Reading.Places.{trees_remembered}
use Rattle.monitor_model.proofs.Books.Order.{same_values}
use Rattle.monitor_model.proofs.Books.Pairing.{EachPair, by_if, paired_kept, swept, gives_paired, gives_each}
use Rattle.monitor_model.proofs.Shapes.Diagrams.{memory_diagrams}
use Rattle.monitor_model.proofs.Shapes.Serving.{next_memories, same_memories, same_results}
use Rattle.monitor_model.proofs.Shapes.Staying.{get_within, shapes_stay}

-- ---- books

-- no text and no code stands twice, and the code of all ones isn't given
abbrev IsLawful : (bits : ℕ) → Pairs → Type 0
IsLawful bits book = IsPaired book × EachPair (λ c t. c < 2 ^ bits - 1) book

lawful_in : (bits : ℕ) (bs : List Contents) → AllByRecursion codes.IsBook bs →
    AllByRecursion (λ b. b.bits ≡ bits) bs → (x : ℕ) →
    IsLawful bits (slice_index_or (map (λ (b : Contents). b.pairs) bs) x [])
lawful_in bits [] h k x = (tt, λ c t e. absurd (let no : ⊥ = cc in no))
lawful_in bits (b ∷ bs) h k zero = (
  h.0.paired,
  λ c t e. subst (λ (n : ℕ). c < 2 ^ n - 1) k.0
      (h.0.below c (λ n. some_none (value_of b.pairs c) t e n)),
)
lawful_in bits (b ∷ bs) h k (suc x) = lawful_in bits bs h.1 k.1 x

kept_lawful : (bits : ℕ) (ts : List Text) (book : Pairs) → IsLawful bits book →
    IsLawful bits (keep ts book)
kept_lawful bits ts book (p, h) = (
  paired_kept ts book p,
  λ c t e. ⊎_elim
      (λ same. h c t (sym same ∙ e))
      (λ (u, w, n, f). some_none (value_of (keep ts book) c) t e n)
      (swept ts book c p),
)

next_lawful : (bits : ℕ) (pins told needed : List Text) (before after : Pairs) →
    IsLawful bits before → IsNextBook bits pins told needed before after → IsLawful bits after
next_lawful bits pins told needed before after h g =
    let roomy : IsLawful bits (with_room bits pins told needed before) =
    by_if (IsLawful bits)
    (nat_lt (free_count bits before) (length (without_code before needed)))
    (keep (pins ++ (told ++ needed)) before) before
    (kept_lawful bits (pins ++ (told ++ needed)) before h) h in (
      gives_paired bits (without_code before needed) (with_room bits pins told needed before) after
          g roomy.0,
      gives_each (λ c t. c < 2 ^ bits - 1) bits (without_code before needed)
          (with_room bits pins told needed before) after g roomy.1 (λ c t l m. l),
    )

-- ---- trees

-- the same trees have the same shapes
pub memories_are : (s : Setting) (books : ℕ → Pairs) (memory other : ℕ → Tree) →
    ((k : ℕ) → IsTemporal s.subs k → other k ≡ memory k) →
    AreMemories s books memory → AreMemories s books other
memories_are s books memory other e m = record {
  shape = λ k u at t. subst (HasMemoryShape s k (oldest u.kind)) (sym (e k t)) (m.shape k u at t);
  alike = λ k t. subst (ReadsAlike s books) (sym (e k t)) (m.alike k t);
}

over_same : (s : Setting) (k : Kind) (c d t u : Tree) → (1 ≤ children k → d ≡ c) → u ≡ t →
    IsOverChild s k c t → IsOverChild s k d u
over_same s (kind.Exists x) c d t u e f h =
    f ∙ h ∙ ap (after_rows false (first_of s x) s.bits s.bits) (sym (e (omega arith)))
over_same s (kind.Forall x) c d t u e f h =
    f ∙ h ∙ ap (after_rows true (first_of s x) s.bits s.bits) (sym (e (omega arith)))
over_same s _ c d t u e f h = tt

-- and so have the trees of an event
pub results_are : (s : Setting) → IsTable 0 s.subs → (books : ℕ → Pairs) (now other : ℕ → Tree) →
    ((k : ℕ) → 1 ≤ k → k ≤ length s.subs → other k ≡ now k) →
    AreResults s books now → AreResults s books other
results_are s rows books now other e r = record {
  shape = λ k one most. subst (HasOwnLevels s k) (sym (e k one most)) (r.shape k one most);
  alike = λ k one most. subst (ReadsAlike s books) (sym (e k one most)) (r.alike k one most);
  over = λ k u one at.
      let most : k ≤ length s.subs = (let l = get_within s.subs (k - 1) u at in omega arith) in
      over_same s u.kind (now u.left) (other u.left) (now k) (other k)
      (λ some.
      let here = children_at s.subs k u rows one at in
      let (p, q) = first_child k (children u.kind) u.left u.right here some in
      e u.left p (omega arith))
      (e k one most) (r.over k u one at);
}

module _ (before : State) (monitor : IsMonitor before) (live : IsLive before)
    (shared : IsShared before.shelf.table) (e : Event) (told : ℕ → List Text)
    (told_is : (x : ℕ) → x < length before.plan.variables →
    AreTold (remembered before) (first_of (setting_of before) x) before.bits (pairs_in before x)
    (told x))
    (books : ℕ → Pairs) (next : AreNext (setting_of before) e told (pairs_in before) books)
    (no_more : (x : ℕ) → length before.plan.variables ≤ x → books x ≡ []) where
  abbrev s : Setting
  s = setting_of before

  lawful : (x : ℕ) → IsLawful before.bits (pairs_in before x)
  lawful x = lawful_in before.bits before.books live.books monitor.book_bits x

  lawful_next : (x : ℕ) → x < length before.plan.variables → IsLawful before.bits (books x)
  lawful_next x v =
      next_lawful before.bits (pinned s.subs x) (told x) (need s.subs x e) (pairs_in before x)
      (books x) (lawful x) (next x v)

  in_order : of_temporal (memory_of before) 1 s.subs ≡ remembered before
  in_order = trees_remembered before (let c = monitor.handle_count in omega (arith, c))

  -- the remembered trees by the books that serve the event
  served : AreMemories s books (memory_of before)
  served =
      next_memories s e told (pairs_in before) books (memory_of before) (λ x v. (lawful x).0) next
      (λ x v.
      subst (λ ts. AreTold ts (first_of s x) before.bits (pairs_in before x) (told x))
      (sym in_order) (told_is x v))
      live.memory

  codes_below : HaveCodesBelow s books
  codes_below x t c k = by_place (cases_lt x (length before.plan.variables))
    where
      by_place : (x < length before.plan.variables) ⊎ (length before.plan.variables ≤ x) →
          c < 2 ^ before.bits - 1
      by_place (inl v) =
          (lawful_next x v).1 c t (code_reads (books x) t c (lawful_next x v).0 k)
      by_place (inr v) =
          absurd (let f : None ≡ Some c = sym (ap (λ b. code_of b t) (no_more x v)) ∙ k in cc)

  -- what comes of the event's rows has the shape
  pub rows_shaped : StayShaped s before.events before.last_time e books (memory_of before)
  rows_shaped =
      shapes_stay before before.events before.last_time e books (memory_of before) monitor.plan
      codes_below (memory_diagrams before shared live.valid) served

  module _ (after : State) (is_next : IsNext before e after books)
      (bits_after : AllByRecursion (λ b. b.bits ≡ after.bits) after.books)
      (books_after : AllByRecursion codes.IsBook after.books) where
    -- books with the same codes have the same codes without a pair
    unpaired_before : (x c : ℕ) → x < length before.plan.variables →
        value_of (pairs_in after x) c ≡ None → value_of (books x) c ≡ None
    unpaired_before x c v n =
        sym (same_values (pairs_in after x) (books x)
        (lawful_in after.bits after.books books_after bits_after x).0 (lawful_next x v).0
        (is_next.same x v) c) ∙ n

    memories_next : AreMemories s (pairs_in after) (memory_of after)
    memories_next =
        memories_are s (pairs_in after) (next_at (sources_of before e books)) (memory_of after)
        is_next.memory
        (same_memories s books (pairs_in after) (next_at (sources_of before e books))
        unpaired_before rows_shaped.next)

    results_next : AreResults s (pairs_in after) (now_of after)
    results_next =
        results_are s monitor.plan.table (pairs_in after) (now_at (sources_of before e books))
        (now_of after) is_next.now
        (same_results s books (pairs_in after) (now_at (sources_of before e books)) unpaired_before
        rows_shaped.now)

    -- what the monitor remembers after the event, and the trees of the event, have the shape
    pub living : AreMemories (setting_of after) (pairs_in after) (memory_of after) ×
        AreResults (setting_of after) (pairs_in after) (now_of after)
    living =
        let same = same_setting after before is_next.plan is_next.bits is_next.room in (
          subst (λ (z : Setting). AreMemories z (pairs_in after) (memory_of after)) (sym same)
              memories_next,
          subst (λ (z : Setting). AreResults z (pairs_in after) (now_of after)) (sym same)
              results_next,
        )
