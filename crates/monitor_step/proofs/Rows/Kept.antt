-- What a monitor's handles are before the first event, and after each.
use Rattle.std.proofs.Common.{◌≡◌, ℕ, zero, suc, ◌+◌, ◌-◌, ◌*◌, ◌<◌, ◌≤◌, ◌⊎◌, inl, inr, refl, sym, ap, ◌∙◌, subst, arith, List, [], ◌∷◌, ◌++◌, length, length-append, append_assoc, append-nil, map, take, get_or, Bool, true, false, Some, None, Option}
use Rattle.std.specs.Prelude.{set, drop, replicate, slice_get, slice_index_or, if◌then◌else◌, IsTrue, IsSomeAnd}
use Rattle.std.proofs.Math.ListN.{get_or-map as map_read}
use Rattle.std.proofs.Math.Seq.{take-append_seam, drop-append_seam, set-append_seam}
use Rattle.std.proofs.lemmas.Bool.{cases_lt}
use Rattle.std.proofs.lemmas.List.{take_more, drop_more, get_or-map, get_or_append_left, get_or-append_right, length-take-le, length-drop, length-map, length-replicate, get_or-take, get_or-drop}
use Rattle.node_tree.specs.Tree.{Tree, Zero, One}
use Rattle.node_table.specs.Table.{Table, tree_of, IsValid}
use Rattle.node_table.specs.Collects.{AllValid}
use Rattle.subformulas.specs.declared.table.Kind.{Kind}
use Rattle.subformulas.specs.declared.table.Kind.TheVariants as kind
use Rattle.subformulas.specs.declared.table.Sub.{Sub}
use Rattle.subformulas.specs.Memory.{is_temporal, IsTemporal}
use Rattle.operation_rows.specs.Rows.{Update, plain}
use Rattle.monitor_model.specs.Laws.{first_memory}
use Rattle.monitor_model.specs.Rows.{Sources, subs_of, updates, now_at, next_at, of_temporal}
use Rattle.monitor_model.specs.State.{State, temporal_count, kept, memory_of, now_of}
use Rattle.monitor_step.specs.Handles.{first_handle, first_handles, first_memories, brought_forward, AreFirstHandles, HasRemembered}
use Rattle.monitor_step.specs.RowsMade.{memory_in, HasRows}
use Rattle.monitor_step.proofs.Rows.Made.{valid_append, valid_one}
use Rattle.monitor_step.proofs.Rows.Counted.{subs_more, count_first, none_temporal, temporal_within, listed_count, listed_at}

-- the leaves of one subformula more
module _ (zero_leaf one_leaf : ℕ) where
  first_one : (xs : List Sub) (u : Sub) → first_handles zero_leaf one_leaf (xs ++ u ∷ []) ≡
      first_handles zero_leaf one_leaf xs ++ (if is_temporal u.kind then first_handle zero_leaf one_leaf u.kind ∷ [] else [])
  first_one [] u = refl
  first_one (v ∷ xs) u = by_test (is_temporal v.kind) (first_one xs u)
    where
      by_test : (b : Bool) → first_handles zero_leaf one_leaf (xs ++ u ∷ []) ≡
          first_handles zero_leaf one_leaf xs ++ (if is_temporal u.kind then first_handle zero_leaf one_leaf u.kind ∷ [] else []) →
          (if b then first_handle zero_leaf one_leaf v.kind ∷ first_handles zero_leaf one_leaf (xs ++ u ∷ []) else first_handles zero_leaf one_leaf (xs ++ u ∷ [])) ≡
          (if b then first_handle zero_leaf one_leaf v.kind ∷ first_handles zero_leaf one_leaf xs else first_handles zero_leaf one_leaf xs) ++
          (if is_temporal u.kind then first_handle zero_leaf one_leaf u.kind ∷ [] else [])
      by_test true rest = ap (λ hs. first_handle zero_leaf one_leaf v.kind ∷ hs) rest
      by_test false rest = rest

  pub first_yes : (subs : List Sub) (k : ℕ) (u : Sub) → slice_get subs k ≡ Some u → is_temporal u.kind ≡ true →
      first_handles zero_leaf one_leaf (take (k + 1) subs) ≡ first_handles zero_leaf one_leaf (take k subs) ++ first_handle zero_leaf one_leaf u.kind ∷ []
  first_yes subs k u at e =
      ap (first_handles zero_leaf one_leaf) (subs_more subs k u at)
      ∙ (first_one (take k subs) u
      ∙ ap (λ b. first_handles zero_leaf one_leaf (take k subs) ++ (if b then first_handle zero_leaf one_leaf u.kind ∷ [] else [])) e)

  pub first_no : (subs : List Sub) (k : ℕ) (u : Sub) → slice_get subs k ≡ Some u → is_temporal u.kind ≡ false →
      first_handles zero_leaf one_leaf (take (k + 1) subs) ≡ first_handles zero_leaf one_leaf (take k subs)
  first_no subs k u at e =
      ap (first_handles zero_leaf one_leaf) (subs_more subs k u at)
      ∙ (first_one (take k subs) u
      ∙ (ap (λ b. first_handles zero_leaf one_leaf (take k subs) ++ (if b then first_handle zero_leaf one_leaf u.kind ∷ [] else [])) e
      ∙ append-nil (first_handles zero_leaf one_leaf (take k subs))))

  first_count : (subs : List Sub) → length (first_handles zero_leaf one_leaf subs) ≡ temporal_count subs
  first_count [] = sym none_temporal
  first_count (u ∷ subs) = by_test (is_temporal u.kind) refl (first_count subs)
    where
      by_test : (b : Bool) → is_temporal u.kind ≡ b → length (first_handles zero_leaf one_leaf subs) ≡ temporal_count subs →
          length (if b then first_handle zero_leaf one_leaf u.kind ∷ first_handles zero_leaf one_leaf subs else first_handles zero_leaf one_leaf subs) ≡ temporal_count (u ∷ subs)
      by_test true e a = let c = count_first u subs true e in omega (arith, a, c)
      by_test false e a = let c = count_first u subs false e in omega (arith, a, c)

  module _ (t : Table) (z : IsValid t zero_leaf × (tree_of t zero_leaf ≡ Zero)) (o : IsValid t one_leaf × (tree_of t one_leaf ≡ One)) where
    leaf_valid : (k : Kind) → IsValid t (first_handle zero_leaf one_leaf k)
    leaf_valid kind.Always = o.0
    leaf_valid _ = z.0

    leaf_tree : (k : Kind) → tree_of t (first_handle zero_leaf one_leaf k) ≡ first_memory k
    leaf_tree kind.Always = o.1
    leaf_tree _ = z.1

    first_trees : (subs : List Sub) → map (tree_of t) (first_handles zero_leaf one_leaf subs) ≡ first_memories subs
    first_trees [] = refl
    first_trees (u ∷ subs) = by_test (is_temporal u.kind) (first_trees subs)
      where
        by_test : (b : Bool) → map (tree_of t) (first_handles zero_leaf one_leaf subs) ≡ first_memories subs →
            map (tree_of t) (if b then first_handle zero_leaf one_leaf u.kind ∷ first_handles zero_leaf one_leaf subs else first_handles zero_leaf one_leaf subs) ≡
            (if b then first_memory u.kind ∷ first_memories subs else first_memories subs)
        by_test true rest = ap (λ x. x ∷ map (tree_of t) (first_handles zero_leaf one_leaf subs)) (leaf_tree u.kind) ∙ ap (λ ts. first_memory u.kind ∷ ts) rest
        by_test false rest = rest

    first_valid : (subs : List Sub) → AllValid t (first_handles zero_leaf one_leaf subs)
    first_valid [] = λ j l. absurd (omega (arith, l))
    first_valid (u ∷ subs) = by_test (is_temporal u.kind) (first_valid subs)
      where
        by_test : (b : Bool) → AllValid t (first_handles zero_leaf one_leaf subs) →
            AllValid t (if b then first_handle zero_leaf one_leaf u.kind ∷ first_handles zero_leaf one_leaf subs else first_handles zero_leaf one_leaf subs)
        by_test true v = valid_append t (first_handle zero_leaf one_leaf u.kind ∷ []) (first_handles zero_leaf one_leaf subs) (valid_one t (first_handle zero_leaf one_leaf u.kind) (leaf_valid u.kind)) v
        by_test false v = v

    many_valid : (n : ℕ) → AllValid t (replicate n zero_leaf)
    many_valid zero = λ j l. absurd (omega (arith, l))
    many_valid (suc n) = valid_append t (zero_leaf ∷ []) (replicate n zero_leaf) (valid_one t zero_leaf z.0) (many_valid n)

    module _ (subs : List Sub) where
      abbrev F : List ℕ
      F = first_handles zero_leaf one_leaf subs

      abbrev Z : List ℕ
      Z = replicate (length subs + 3) zero_leaf

      in_front : take (length F) ((F ++ F) ++ Z) ≡ F
      in_front = ap (take (length F)) (append_assoc F F Z) ∙ take-append_seam F (F ++ Z)

      behind : take (length F) (drop (length F) ((F ++ F) ++ Z)) ≡ F
      behind = ap (λ hs. take (length F) (drop (length F) hs)) (append_assoc F F Z) ∙ (ap (take (length F)) (drop-append_seam F (F ++ Z)) ∙ take-append_seam F Z)

      -- what is remembered twice, and leaves, are the first handles
      pub are_first : (hs : List ℕ) → hs ≡ (F ++ F) ++ Z → AreFirstHandles subs t hs
      are_first hs e = subst (AreFirstHandles subs t) (sym e) (record {
        count =
            let a = length-append (F ++ F) Z in let b = length-append F F in let c = first_count subs in let d = length-replicate (length subs + 3) zero_leaf in
            omega (arith, a, b, c, d);
        valid = valid_append t (F ++ F) Z (valid_append t F F (first_valid subs) (first_valid subs)) (many_valid (length subs + 3));
        twice = subst (λ (n : ℕ). take n (drop n ((F ++ F) ++ Z)) ≡ take n ((F ++ F) ++ Z)) (first_count subs) (behind ∙ sym in_front);
        trees = subst (λ (n : ℕ). map (tree_of t) (take n ((F ++ F) ++ Z)) ≡ first_memories subs) (first_count subs) (ap (map (tree_of t)) in_front ∙ first_trees subs);
      })

-- the first tree of a temporal subformula stands behind those of the earlier ones
first_at : (subs : List Sub) (k : ℕ) (u : Sub) → slice_get subs k ≡ Some u → is_temporal u.kind ≡ true →
    slice_index_or (first_memories subs) (temporal_count (take k subs)) Zero ≡ first_memory u.kind
first_at [] k u at t = absurd (let none : ⊥ = cc in none)
first_at (r ∷ subs) zero u at t =
    let same : r ≡ u = cc in
    ap (λ (i : ℕ). slice_index_or (first_memories (r ∷ subs)) i Zero) none_temporal
    ∙ (ap (λ b. slice_index_or (if b then first_memory r.kind ∷ first_memories subs else first_memories subs) 0 Zero) (ap (λ (w : Sub). is_temporal w.kind) same ∙ t)
    ∙ ap (λ (w : Sub). first_memory w.kind) same)
first_at (r ∷ subs) (suc k) u at t = by_test (is_temporal r.kind) refl (first_at subs k u at t)
  where
    by_test : (b : Bool) → is_temporal r.kind ≡ b → slice_index_or (first_memories subs) (temporal_count (take k subs)) Zero ≡ first_memory u.kind →
        slice_index_or (if b then first_memory r.kind ∷ first_memories subs else first_memories subs) (temporal_count (r ∷ take k subs)) Zero ≡ first_memory u.kind
    by_test true e rest =
        let c = count_first r (take k subs) true e in
        let place : temporal_count (r ∷ take k subs) ≡ suc (temporal_count (take k subs)) = omega (arith, c) in
        ap (λ (i : ℕ). slice_index_or (first_memory r.kind ∷ first_memories subs) i Zero) place ∙ rest
    by_test false e rest =
        let c = count_first r (take k subs) false e in
        let place : temporal_count (r ∷ take k subs) ≡ temporal_count (take k subs) = omega (arith, c) in
        ap (λ (i : ℕ). slice_index_or (first_memories subs) i Zero) place ∙ rest

-- one handle more is brought forward
pub forward_more : (old hs : List ℕ) (n i h : ℕ) → hs ≡ take i (drop n old) ++ drop i old → 2 * n ≤ length old → i < n →
    slice_index_or hs (n + i) 0 ≡ h → set hs i h ≡ take (i + 1) (drop n old) ++ drop (i + 1) old
forward_more old hs n i h e l low read =
    let A = take i (drop n old) in
    let d = length-drop n old in
    let len : length A ≡ i = length-take-le i (drop n old) (omega (arith, d, l, low)) in
    let place : n + i - i ≡ n = omega arith in
    let turned : i + n ≡ n + i = omega arith in
    let there : slice_index_or hs (n + i) 0 ≡ slice_index_or (drop n old) i 0 =
    ap (λ xs. slice_index_or xs (n + i) 0) e
    ∙ (get_or-append_right A (drop i old) i (n + i) 0 len (omega arith)
    ∙ (ap (λ (j : ℕ). slice_index_or (drop i old) j 0) place
    ∙ (get_or-drop i old n 0 ∙ (ap (λ (j : ℕ). slice_index_or old j 0) turned ∙ sym (get_or-drop n old i 0))))) in
    let more : take (i + 1) (drop n old) ≡ A ++ h ∷ [] =
    take_more (drop n old) i 0 (omega (arith, d, l, low)) ∙ ap (λ (x : ℕ). A ++ x ∷ []) (sym there ∙ read) in
    ap (λ xs. set xs i h) (e ∙ ap (λ xs. A ++ xs) (drop_more old i 0 (omega (arith, l, low))))
    ∙ (ap (λ (j : ℕ). set (A ++ get_or old i 0 ∷ drop (i + 1) old) j h) (sym len)
    ∙ (set-append_seam A (get_or old i 0) (drop (i + 1) old) h
    ∙ (sym (append_assoc A (h ∷ []) (drop (i + 1) old)) ∙ ap (λ xs. xs ++ drop (i + 1) old) (sym more))))

-- and what is read for it stands within the list
pub forward_within : (old hs : List ℕ) (n i : ℕ) → hs ≡ take i (drop n old) ++ drop i old → 2 * n ≤ length old → i < n → n + i < length hs
forward_within old hs n i e l low =
    let a = ap length e in
    let b = length-append (take i (drop n old)) (drop i old) in
    let d = length-drop n old in
    let c = length-take-le i (drop n old) (omega (arith, d, l, low)) in
    let f = length-drop i old in
    omega (arith, a, b, c, d, f, l, low)

-- what a monitor remembers, among the trees that it remembers
module _ (m : State) (enough : kept m ≤ length m.handles) where
  pub memory_among : (k : ℕ) → IsTemporal m.plan.subs k → memory_of m k ≡ memory_in m.plan.subs (map (tree_of m.shelf.table) (take (kept m) m.handles)) k
  memory_among k h =
      let low = temporal_within m.plan.subs k h in
      let place = temporal_count (take (k - 1) m.plan.subs) in
      let n = length-take-le (kept m) m.handles enough in
      get_or-map (tree_of m.shelf.table) m.handles place 0 Zero (omega (arith, low, enough))
      ∙ (ap (tree_of m.shelf.table) (sym (get_or-take (kept m) m.handles place 0 low))
      ∙ sym (get_or-map (tree_of m.shelf.table) (take (kept m) m.handles) place 0 Zero (omega (arith, low, n))))

  -- before the first event these are the leaves
  pub first_memory_is : AreFirstHandles m.plan.subs m.shelf.table m.handles → (k : ℕ) (u : Sub) → 1 ≤ k → slice_get m.plan.subs (k - 1) ≡ Some u →
      is_temporal u.kind ≡ true → memory_of m k ≡ first_memory u.kind
  first_memory_is first k u one at e =
      memory_among k (one, subst (λ o. IsSomeAnd o (λ s. IsTrue (is_temporal s.kind))) (sym at) e)
      ∙ (ap (λ ts. memory_in m.plan.subs ts k) first.trees ∙ first_at m.plan.subs (k - 1) u at e)

-- the handles that a monitor shows: that of what a subformula remembers, and that of its tree
module _ (m : State) (size : length m.handles ≡ 2 * kept m + length m.plan.subs + 3) where
  pub memory_place : (k : ℕ) → IsTemporal m.plan.subs k → temporal_count (take (k - 1) m.plan.subs) < length m.handles
  memory_place k t = let low = temporal_within m.plan.subs k t in omega (arith, low, size)

  pub memory_tree : (k h : ℕ) → IsTemporal m.plan.subs k → h ≡ slice_index_or m.handles (temporal_count (take (k - 1) m.plan.subs)) 0 →
      tree_of m.shelf.table h ≡ memory_of m k
  memory_tree k h t e =
      ap (tree_of m.shelf.table) e
      ∙ sym (get_or-map (tree_of m.shelf.table) m.handles (temporal_count (take (k - 1) m.plan.subs)) 0 Zero (memory_place k t))

  pub now_tree : (k h : ℕ) → 1 ≤ k → k ≤ length m.plan.subs → h ≡ slice_index_or m.handles (2 * kept m + k - 1) 0 →
      tree_of m.shelf.table h ≡ now_of m k
  now_tree k h one most e =
      let place : 2 * kept m + k - 1 ≡ 2 * kept m + (k - 1) = omega (arith, one) in
      ap (tree_of m.shelf.table) (e ∙ ap (λ (i : ℕ). slice_index_or m.handles i 0) place)
      ∙ sym (get_or-map (tree_of m.shelf.table) m.handles (2 * kept m + (k - 1)) 0 Zero (omega (arith, size, one, most)))

-- the handles once an event is done
module _ (s : Sources) (m : State) (same : m.plan.subs ≡ subs_of s) (old : Table) (before mid : List ℕ)
    (rows : HasRows s before mid old m.shelf.table) (is : m.handles ≡ brought_forward (kept m) mid)
    (size : length before ≡ 2 * kept m + length m.plan.subs + 3) where
  abbrev R : ℕ
  R = kept m

  abbrev tree : ℕ → Tree
  tree = tree_of m.shelf.table

  abbrev was : List Tree
  was = map (tree_of old) (take (temporal_count (subs_of s)) before)

  abbrev comes : List Tree
  comes = of_temporal (next_at s) 1 (subs_of s)

  abbrev nows : List Tree
  nows = map (λ u. u.now) (updates s)

  kept_same : temporal_count (subs_of s) ≡ R
  kept_same = ap temporal_count (sym same)

  mid_count : length mid ≡ 2 * R + length m.plan.subs + 3
  mid_count = rows.count ∙ size

  was_count : length was ≡ R
  was_count =
      length-map (take (temporal_count (subs_of s)) before) (tree_of old)
      ∙ (length-take-le (temporal_count (subs_of s)) before (let e = kept_same in omega (arith, e, size)) ∙ kept_same)

  comes_count : length comes ≡ R
  comes_count = listed_count (next_at s) 1 (subs_of s) ∙ kept_same

  -- the trees behind the handles that the rows left
  read : (i : ℕ) → i < 2 * R + length m.plan.subs → tree (slice_index_or mid i 0) ≡ slice_index_or (was ++ (comes ++ nows)) i Zero
  read i l =
      let all : 2 * temporal_count (subs_of s) + length (subs_of s) ≡ 2 * R + length m.plan.subs =
      let e = kept_same in let n = ap length same in omega (arith, e, n) in
      let n = length-take-le (2 * R + length m.plan.subs) mid (let c = mid_count in omega (arith, c)) in
      ap tree (sym (get_or-take (2 * R + length m.plan.subs) mid i 0 l))
      ∙ (sym (get_or-map tree (take (2 * R + length m.plan.subs) mid) i 0 Zero (omega (arith, n, l)))
      ∙ ap (λ ts. slice_index_or ts i Zero) (subst (λ (n : ℕ). map tree (take n mid) ≡ was ++ (comes ++ nows)) all rows.trees))

  front_count : length (take R (drop R mid)) ≡ R
  front_count = length-take-le R (drop R mid) (let d = length-drop R mid in let c = mid_count in omega (arith, d, c))

  handle_front : (i : ℕ) → i < R → slice_index_or m.handles i 0 ≡ slice_index_or mid (R + i) 0
  handle_front i l =
      ap (λ hs. slice_index_or hs i 0) is
      ∙ (get_or_append_left (take R (drop R mid)) (drop R mid) 0 i (let n = front_count in omega (arith, n, l))
      ∙ (get_or-take R (drop R mid) i 0 l ∙ get_or-drop R mid i 0))

  handle_behind : (i : ℕ) → R ≤ i → slice_index_or m.handles i 0 ≡ slice_index_or mid i 0
  handle_behind i l =
      let n : R + (i - R) ≡ i = omega (arith, l) in
      ap (λ hs. slice_index_or hs i 0) is
      ∙ (get_or-append_right (take R (drop R mid)) (drop R mid) R i 0 front_count l
      ∙ (get_or-drop R mid (i - R) 0 ∙ ap (λ (j : ℕ). slice_index_or mid j 0) n))

  count_is : length m.handles ≡ length mid
  count_is =
      let a = ap length is in let b = length-append (take R (drop R mid)) (drop R mid) in let c = front_count in let d = length-drop R mid in let e = mid_count in
      omega (arith, a, b, c, d, e)

  abbrev place_of : ℕ → ℕ
  place_of k = temporal_count (take (k - 1) m.plan.subs)

  read_next : (k : ℕ) → IsTemporal m.plan.subs k → memory_of m k ≡ slice_index_or comes (place_of k) Zero
  read_next k h =
      let l : place_of k < R = temporal_within m.plan.subs k h in
      let c = count_is in let d = mid_count in let n = comes_count in
      let e : R + place_of k - R ≡ place_of k = omega arith in
      get_or-map tree m.handles (place_of k) 0 Zero (omega (arith, l, c, d))
      ∙ (ap tree (handle_front (place_of k) l)
      ∙ (read (R + place_of k) (omega (arith, l))
      ∙ (get_or-append_right was (comes ++ nows) R (R + place_of k) Zero was_count (omega arith)
      ∙ (ap (λ (i : ℕ). slice_index_or (comes ++ nows) i Zero) e
      ∙ get_or_append_left comes nows Zero (place_of k) (omega (arith, l, n))))))

  memory_next : (k : ℕ) → IsTemporal m.plan.subs k → memory_of m k ≡ next_at s k
  memory_next k h = by_get (slice_get m.plan.subs (k - 1)) refl h.1
    where
      by_get : (o : Option Sub) → slice_get m.plan.subs (k - 1) ≡ o → IsSomeAnd o (λ u. IsTrue (is_temporal u.kind)) → memory_of m k ≡ next_at s k
      by_get None e q = absurd q
      by_get (Some u) e q =
          let one = h.0 in
          let n : 1 + (k - 1) ≡ k = omega (arith, one) in
          read_next k h
          ∙ (ap (λ xs. slice_index_or comes (temporal_count (take (k - 1) xs)) Zero) same
          ∙ (listed_at (next_at s) 1 (subs_of s) (k - 1) u (ap (λ xs. slice_get xs (k - 1)) (sym same) ∙ e) q ∙ ap (next_at s) n))

  now_next : (k : ℕ) → 1 ≤ k → k ≤ length m.plan.subs → now_of m k ≡ now_at s k
  now_next k one most =
      let c = count_is in let d = mid_count in
      let a : 2 * R + (k - 1) - R ≡ R + (k - 1) = omega arith in
      let b : R + (k - 1) - R ≡ k - 1 = omega arith in
      get_or-map tree m.handles (2 * R + (k - 1)) 0 Zero (omega (arith, one, most, c, d))
      ∙ (ap tree (handle_behind (2 * R + (k - 1)) (omega arith))
      ∙ (read (2 * R + (k - 1)) (omega (arith, one, most))
      ∙ (get_or-append_right was (comes ++ nows) R (2 * R + (k - 1)) Zero was_count (omega arith)
      ∙ (ap (λ (i : ℕ). slice_index_or (comes ++ nows) i Zero) a
      ∙ (get_or-append_right comes nows R (R + (k - 1)) Zero comes_count (omega arith)
      ∙ (ap (λ (i : ℕ). slice_index_or nows i Zero) b
      ∙ map_read (λ (u : Update). u.now) (updates s) (k - 1) (plain [] Zero)))))))

  valid_all : AllValid m.shelf.table m.handles
  valid_all j l = by_place (cases_lt j R)
    where
      by_place : (j < R) ⊎ (R ≤ j) → IsValid m.shelf.table (slice_index_or m.handles j 0)
      by_place (inl q) = let d = mid_count in subst (IsValid m.shelf.table) (sym (handle_front j q)) (rows.valid (R + j) (omega (arith, d, q)))
      by_place (inr q) = let c = count_is in subst (IsValid m.shelf.table) (sym (handle_behind j q)) (rows.valid j (omega (arith, c, l)))

  abbrev front : List ℕ
  front = take R (drop R mid)

  next_same : take R (drop R (front ++ drop R mid)) ≡ take R (front ++ drop R mid)
  next_same = subst (λ (n : ℕ). take R (drop n (front ++ drop R mid)) ≡ take n (front ++ drop R mid)) front_count
      (ap (take R) (drop-append_seam front (drop R mid)) ∙ sym (take-append_seam front (drop R mid)))

  -- after an event what a monitor remembers, and its trees, are those of the event
  pub has_remembered : HasRemembered s m
  has_remembered = record {
    count = count_is ∙ mid_count;
    valid = valid_all;
    next = subst (λ hs. take R (drop R hs) ≡ take R hs) (sym is) next_same;
    memory = memory_next;
    now = now_next;
  }
