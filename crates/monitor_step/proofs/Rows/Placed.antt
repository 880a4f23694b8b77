-- The trees of the handles once the rows of so many subformulas are made.
use Rattle.std.proofs.Common.{◌≡◌, ℕ, ◌+◌, ◌-◌, ◌*◌, ◌<◌, ◌≤◌, sym, ap, ◌∙◌, arith, List, [], ◌∷◌, ◌++◌, length, length-append, append_assoc, append-nil, map, take, get_or, true, false, Some}
use Rattle.std.specs.Prelude.{set, drop, slice_get, slice_index_or}
use Rattle.std.proofs.Math.ListN.{get_or-map as map_read}
use Rattle.std.proofs.Math.Seq.{set-append_seam, take-length}
use Rattle.std.proofs.lemmas.List.{take_more, drop_more, drop_all, take_all, map-append, set-append_left, get_or_append_left, get_or-append_right, get_or-take, length-take-le, length-drop}
use Rattle.std.proofs.lemmas.Option.{slice_get_within}
use Rattle.subformulas.specs.declared.table.Sub.{Sub}
use Rattle.subformulas.specs.Memory.{is_temporal}
use Rattle.node_tree.specs.Tree.{Tree, Zero}
use Rattle.operation_rows.specs.Rows.{Update, plain}
use Rattle.monitor_model.specs.Rows.{Sources, subs_of, updates, now_at, next_at, of_temporal}
use Rattle.monitor_model.specs.State.{temporal_count}
use Rattle.monitor_model.proofs.Drawing.Updates.{updates_count}
use Rattle.monitor_step.proofs.Rows.Counted.{temporal_yes, temporal_no, temporal_le, temporal_place, none_temporal, listed_yes, listed_no, listed_count}

abbrev none : Update
none = plain [] Zero

-- a tree in place of another one, behind two lists
put_in : (M N D W : List Tree) (d b : Tree) (i : ℕ) → i ≡ length M + length N →
    set ((M ++ (N ++ d ∷ D)) ++ W) i b ≡ (M ++ ((N ++ b ∷ []) ++ D)) ++ W
put_in M N D W d b i at =
    let n = length-append N (d ∷ D) in
    let m = length-append M (N ++ d ∷ D) in
    let both = length-append M N in
    set-append_left (M ++ (N ++ d ∷ D)) W i b (omega (arith, at, n, m))
    ∙ ap (λ xs. xs ++ W)
    (ap (λ xs. set xs i b) (sym (append_assoc M N (d ∷ D)))
    ∙ (ap (λ (j : ℕ). set ((M ++ N) ++ d ∷ D) j b) (let e : i ≡ length (M ++ N) = omega (arith, at, both) in e)
    ∙ (set-append_seam (M ++ N) d D b ∙ (append_assoc M N (b ∷ D) ∙ ap (λ xs. M ++ xs) (sym (append_assoc N (b ∷ []) D))))))

module _ (s : Sources) (M : List Tree) where
  -- what was remembered, and behind it what is remembered next, as far as it is known
  abbrev pub front_after : (k : ℕ) → List Tree
  front_after k = M ++ (of_temporal (next_at s) 1 (take k (subs_of s)) ++ drop (temporal_count (take k (subs_of s))) M)

  -- the trees of the subformulas that are done
  abbrev pub nows_to : (k : ℕ) → List Tree
  nows_to k = map (λ u. u.now) (take k (updates s))

  -- and all together
  abbrev pub trees_after : (k : ℕ) → List Tree
  trees_after k = front_after k ++ nows_to k

  pub placed_first : trees_after 0 ≡ M ++ M
  placed_first =
      ap (λ (n : ℕ). (M ++ drop n M) ++ []) none_temporal ∙ append-nil (M ++ M)

  module _ (count : length M ≡ temporal_count (subs_of s)) where
    pub placed_last : trees_after (length (subs_of s)) ≡ M ++ (of_temporal (next_at s) 1 (subs_of s) ++ map (λ u. u.now) (updates s))
    placed_last =
        let all = updates_count s (subs_of s) in
        let gone : drop (temporal_count (subs_of s)) M ≡ [] = drop_all (temporal_count (subs_of s)) M (omega (arith, count)) in
        ap (λ xs. (M ++ (of_temporal (next_at s) 1 xs ++ drop (temporal_count xs) M)) ++ nows_to (length (subs_of s))) (take-length (subs_of s))
        ∙ (ap (λ ts. (M ++ (of_temporal (next_at s) 1 (subs_of s) ++ ts)) ++ nows_to (length (subs_of s))) gone
        ∙ (ap (λ ts. (M ++ ts) ++ nows_to (length (subs_of s))) (append-nil (of_temporal (next_at s) 1 (subs_of s)))
        ∙ (ap (λ us. (M ++ of_temporal (next_at s) 1 (subs_of s)) ++ map (λ u. u.now) us) (take_all (length (subs_of s)) (updates s) (omega (arith, all)))
        ∙ append_assoc M (of_temporal (next_at s) 1 (subs_of s)) (map (λ u. u.now) (updates s)))))

    -- there are as many trees in front as handles of what is remembered, twice
    pub front_count : (k : ℕ) → length (front_after k) ≡ 2 * length M
    front_count k =
        let kept = of_temporal (next_at s) 1 (take k (subs_of s)) in
        let rest = drop (temporal_count (take k (subs_of s))) M in
        let a = length-append M (kept ++ rest) in
        let b = length-append kept rest in
        let c = listed_count (next_at s) 1 (take k (subs_of s)) in
        let d = length-drop (temporal_count (take k (subs_of s))) M in
        let e = temporal_le (subs_of s) k in
        omega (arith, a, b, c, d, e, count)

    -- the tree of a subformula that is done
    pub read_now : (k c : ℕ) → 1 ≤ c → c ≤ k → slice_index_or (trees_after k) (2 * length M + c - 1) Zero ≡ now_at s c
    read_now k c one low =
        let e : 2 * length M + c - 1 - 2 * length M ≡ c - 1 = omega (arith, one) in
        get_or-append_right (front_after k) (nows_to k) (2 * length M) (2 * length M + c - 1) Zero (front_count k) (omega (arith, one))
        ∙ (ap (λ (i : ℕ). slice_index_or (nows_to k) i Zero) e
        ∙ (map_read (λ (u : Update). u.now) (take k (updates s)) (c - 1) none
        ∙ ap (λ (u : Update). u.now) (get_or-take k (updates s) (c - 1) none (omega (arith, one, low)))))

    -- a tree that was remembered
    pub read_memory : (k p : ℕ) → p < length M → slice_index_or (trees_after k) p Zero ≡ slice_index_or M p Zero
    read_memory k p l =
        let f = front_count k in
        get_or_append_left (front_after k) (nows_to k) Zero p (omega (arith, f, l))
        ∙ get_or_append_left M (of_temporal (next_at s) 1 (take k (subs_of s)) ++ drop (temporal_count (take k (subs_of s))) M) Zero p l

    -- one subformula more
    module _ (k : ℕ) (u : Sub) (at : slice_get (subs_of s) k ≡ Some u) where
      within : k < length (subs_of s)
      within = slice_get_within (subs_of s) k u at

      back : k + 1 - 1 ≡ k
      back = omega arith

      first_length : length (take k (subs_of s)) ≡ k
      first_length = length-take-le k (subs_of s) (let w = within in omega (arith, w))

      nows_more : nows_to (k + 1) ≡ nows_to k ++ now_at s (k + 1) ∷ []
      nows_more =
          let all = updates_count s (subs_of s) in let w = within in
          ap (λ us. map (λ u. u.now) us) (take_more (updates s) k none (omega (arith, all, w)))
          ∙ (map-append (λ (x : Update). x.now) (take k (updates s)) (get_or (updates s) k none ∷ [])
          ∙ ap (λ (i : ℕ). nows_to k ++ (slice_index_or (updates s) i none).now ∷ []) (sym back))

      joined : (F : List Tree) → (F ++ nows_to k) ++ now_at s (k + 1) ∷ [] ≡ F ++ nows_to (k + 1)
      joined F = append_assoc F (nows_to k) (now_at s (k + 1) ∷ []) ∙ ap (λ ts. F ++ ts) (sym nows_more)

      pub placed_yes : is_temporal u.kind ≡ true → (i : ℕ) → i ≡ length M + temporal_count (take k (subs_of s)) →
          set (trees_after k) i (next_at s (k + 1)) ++ now_at s (k + 1) ∷ [] ≡ trees_after (k + 1)
      placed_yes e i place =
          let n = temporal_count (take k (subs_of s)) in
          let N = of_temporal (next_at s) 1 (take k (subs_of s)) in
          let b = next_at s (k + 1) in
          let low = temporal_place (subs_of s) k u at e in
          let listed = listed_count (next_at s) 1 (take k (subs_of s)) in
          let opened : drop n M ≡ get_or M n Zero ∷ drop (n + 1) M = drop_more M n Zero (omega (arith, low, count)) in
          let more : N ++ b ∷ [] ≡ of_temporal (next_at s) 1 (take (k + 1) (subs_of s)) = sym (listed_yes (next_at s) (subs_of s) k u at e first_length) in
          let fewer : drop (n + 1) M ≡ drop (temporal_count (take (k + 1) (subs_of s))) M = ap (λ (j : ℕ). drop j M) (sym (temporal_yes (subs_of s) k u at e)) in
          ap (λ ts. ts ++ now_at s (k + 1) ∷ [])
          (ap (λ D. set ((M ++ (N ++ D)) ++ nows_to k) i b) opened
          ∙ (put_in M N (drop (n + 1) M) (nows_to k) (get_or M n Zero) b i (omega (arith, place, listed))
          ∙ (ap (λ ts. (M ++ (ts ++ drop (n + 1) M)) ++ nows_to k) more
          ∙ ap (λ ts. (M ++ (of_temporal (next_at s) 1 (take (k + 1) (subs_of s)) ++ ts)) ++ nows_to k) fewer)))
          ∙ joined (front_after (k + 1))

      pub placed_no : is_temporal u.kind ≡ false → trees_after k ++ now_at s (k + 1) ∷ [] ≡ trees_after (k + 1)
      placed_no e =
          let same : of_temporal (next_at s) 1 (take k (subs_of s)) ≡ of_temporal (next_at s) 1 (take (k + 1) (subs_of s)) = sym (listed_no (next_at s) (subs_of s) k u at e first_length) in
          let left : temporal_count (take k (subs_of s)) ≡ temporal_count (take (k + 1) (subs_of s)) = sym (temporal_no (subs_of s) k u at e) in
          ap (λ ts. ((M ++ (ts ++ drop (temporal_count (take k (subs_of s))) M)) ++ nows_to k) ++ now_at s (k + 1) ∷ []) same
          ∙ (ap (λ (n : ℕ). ((M ++ (of_temporal (next_at s) 1 (take (k + 1) (subs_of s)) ++ drop n M)) ++ nows_to k) ++ now_at s (k + 1) ∷ []) left
          ∙ joined (front_after (k + 1)))
