-- How many subformulas remember something, and the list of what they remember.
use Rattle.std.proofs.Common.{◌≡◌, ℕ, zero, suc, ◌+◌, ◌-◌, ◌<◌, ◌≤◌, ◌⊎◌, inl, inr, ⊎_elim, refl, sym, ap, ◌∙◌, subst, arith, List, [], ◌∷◌, ◌++◌, length, length-append, append_assoc, append-nil, take, get_or, Bool, true, false, Some, None}
use Rattle.std.specs.Prelude.{slice_get, slice_index_or, if◌then◌else◌, IsTrue, IsSomeAnd, Option}
use Rattle.std.specs.List.{sum_by}
use Rattle.std.proofs.lemmas.List.{take_more}
use Rattle.std.proofs.lemmas.List.Sums.{count_by_more_yes, count_by_more_no, sum_by-append, sum_by-cons, sum_by-take-le}
use Rattle.std.proofs.Math.Seq.{take-append_seam, get_or-append_seam}
use Rattle.std.proofs.lemmas.Option.{slice_get-get_or, slice_get_within}
use Rattle.subformulas.specs.declared.table.Sub.{Sub}
use Rattle.subformulas.specs.Memory.{is_temporal, IsTemporal}
use Rattle.node_tree.specs.Tree.{Tree, Zero}
use Rattle.monitor_model.specs.Rows.{of_temporal}
use Rattle.monitor_model.specs.State.{temporal_count}
use Rattle.monitor_step.specs.RowsMade.{memory_in}

some_same : (r s : Sub) → Some r ≡ Some s → r ≡ s
some_same r s e = cc

pub here_is : (subs : List Sub) (k : ℕ) (sub : Sub) → slice_get subs k ≡ Some sub → get_or subs k sub ≡ sub
here_is subs k sub at = some_same (get_or subs k sub) sub (sym (slice_get-get_or subs k sub (slice_get_within subs k sub at)) ∙ at)

-- one subformula more
pub subs_more : (subs : List Sub) (k : ℕ) (sub : Sub) → slice_get subs k ≡ Some sub →
    take (k + 1) subs ≡ take k subs ++ sub ∷ []
subs_more subs k sub at =
    take_more subs k sub (slice_get_within subs k sub at) ∙ ap (λ r. take k subs ++ r ∷ []) (here_is subs k sub at)

-- a temporal subformula more is one more that remembers a tree
pub temporal_yes : (subs : List Sub) (k : ℕ) (sub : Sub) → slice_get subs k ≡ Some sub → is_temporal sub.kind ≡ true →
    temporal_count (take (k + 1) subs) ≡ temporal_count (take k subs) + 1
temporal_yes subs k sub at e = count_by_more_yes (λ s. is_temporal s.kind) subs k sub (slice_get_within subs k sub at) (ap (λ s. is_temporal s.kind) (here_is subs k sub at) ∙ e)

pub temporal_no : (subs : List Sub) (k : ℕ) (sub : Sub) → slice_get subs k ≡ Some sub → is_temporal sub.kind ≡ false →
    temporal_count (take (k + 1) subs) ≡ temporal_count (take k subs)
temporal_no subs k sub at e = count_by_more_no (λ s. is_temporal s.kind) subs k sub (slice_get_within subs k sub at) (ap (λ s. is_temporal s.kind) (here_is subs k sub at) ∙ e)

weight : Sub → ℕ
weight s = if is_temporal s.kind then 1 else 0

as_sum : (subs : List Sub) → temporal_count subs ≡ sum_by weight subs
unfolding weight
as_sum subs = refl

pub temporal_le : (subs : List Sub) (n : ℕ) → temporal_count (take n subs) ≤ temporal_count subs
temporal_le subs n = let a = as_sum subs in let b = as_sum (take n subs) in let c = sum_by-take-le weight subs n in omega (arith, a, b, c)

-- the place of a temporal subformula's remembered tree is one of those
pub temporal_place : (subs : List Sub) (k : ℕ) (sub : Sub) → slice_get subs k ≡ Some sub → is_temporal sub.kind ≡ true →
    temporal_count (take k subs) < temporal_count subs
temporal_place subs k sub at e = let a = temporal_yes subs k sub at e in let b = temporal_le subs (k + 1) in omega (arith, a, b)

pub temporal_within : (subs : List Sub) (k : ℕ) → IsTemporal subs k →
    temporal_count (take (k - 1) subs) < temporal_count subs
temporal_within subs k h = by_get (slice_get subs (k - 1)) refl h.1
  where
    by_get : (o : Option Sub) → slice_get subs (k - 1) ≡ o → IsSomeAnd o (λ s. IsTrue (is_temporal s.kind)) →
        temporal_count (take (k - 1) subs) < temporal_count subs
    by_get None e q = absurd q
    by_get (Some s) e q = temporal_place subs (k - 1) s e q

pub none_temporal : temporal_count [] ≡ 0
none_temporal = as_sum []

count_append : (xs ys : List Sub) → temporal_count (xs ++ ys) ≡ temporal_count xs + temporal_count ys
count_append xs ys = as_sum (xs ++ ys) ∙ (sum_by-append weight xs ys ∙ let a = as_sum xs in let b = as_sum ys in omega (arith, a, b))

weight_is : (s : Sub) (b : Bool) → is_temporal s.kind ≡ b → weight s ≡ (if b then 1 else 0)
unfolding weight
weight_is s b e = ap (λ c. if c then 1 else 0) e

pub count_first : (s : Sub) (subs : List Sub) (b : Bool) → is_temporal s.kind ≡ b →
    temporal_count (s ∷ subs) ≡ (if b then 1 else 0) + temporal_count subs
count_first s subs b e = as_sum (s ∷ subs) ∙ (sum_by-cons weight s subs ∙ let a = weight_is s b e in let c = as_sum subs in omega (arith, a, c))

pub either_kind : (b : Bool) → (b ≡ true) ⊎ (b ≡ false)
either_kind true = inl refl
either_kind false = inr refl

-- what is listed of one temporal subformula more
module _ (f : ℕ → Tree) where
  one_first : (n : ℕ) (u : Sub) (subs : List Sub) (b : Bool) → is_temporal u.kind ≡ b →
      of_temporal f n (u ∷ subs) ≡ (if b then f n ∷ of_temporal f (n + 1) subs else of_temporal f (n + 1) subs)
  one_first n u subs b e = ap (λ c. if c then f n ∷ of_temporal f (n + 1) subs else of_temporal f (n + 1) subs) e

  one_last : (n m : ℕ) (subs : List Sub) (u : Sub) (b : Bool) → is_temporal u.kind ≡ b → n + length subs ≡ m →
      of_temporal f n (subs ++ u ∷ []) ≡ of_temporal f n subs ++ (if b then f m ∷ [] else [])
  one_last n m [] u b e at =
      let same : n ≡ m = omega (arith, at) in
      one_first n u [] b e ∙ ap (λ (i : ℕ). if b then f i ∷ [] else []) same
  one_last n m (v ∷ subs) u b e at = by_test (is_temporal v.kind) (one_last (n + 1) m subs u b e (omega (arith, at)))
    where
      by_test : (c : Bool) → of_temporal f (n + 1) (subs ++ u ∷ []) ≡ of_temporal f (n + 1) subs ++ (if b then f m ∷ [] else []) →
          (if c then f n ∷ of_temporal f (n + 1) (subs ++ u ∷ []) else of_temporal f (n + 1) (subs ++ u ∷ [])) ≡
          (if c then f n ∷ of_temporal f (n + 1) subs else of_temporal f (n + 1) subs) ++ (if b then f m ∷ [] else [])
      by_test true rest = ap (λ ts. f n ∷ ts) rest
      by_test false rest = rest

  pub listed_yes : (subs : List Sub) (k : ℕ) (u : Sub) → slice_get subs k ≡ Some u → is_temporal u.kind ≡ true → length (take k subs) ≡ k →
      of_temporal f 1 (take (k + 1) subs) ≡ of_temporal f 1 (take k subs) ++ f (k + 1) ∷ []
  listed_yes subs k u at e l = ap (of_temporal f 1) (subs_more subs k u at) ∙ one_last 1 (k + 1) (take k subs) u true e (omega (arith, l))

  pub listed_no : (subs : List Sub) (k : ℕ) (u : Sub) → slice_get subs k ≡ Some u → is_temporal u.kind ≡ false → length (take k subs) ≡ k →
      of_temporal f 1 (take (k + 1) subs) ≡ of_temporal f 1 (take k subs)
  listed_no subs k u at e l =
      ap (of_temporal f 1) (subs_more subs k u at)
      ∙ (one_last 1 (k + 1) (take k subs) u false e (omega (arith, l)) ∙ append-nil (of_temporal f 1 (take k subs)))

  -- one tree is listed for each
  pub listed_count : (n : ℕ) (subs : List Sub) → length (of_temporal f n subs) ≡ temporal_count subs
  listed_count n [] = sym none_temporal
  listed_count n (u ∷ subs) = by_test (is_temporal u.kind) refl (listed_count (n + 1) subs)
    where
      by_test : (c : Bool) → is_temporal u.kind ≡ c → length (of_temporal f (n + 1) subs) ≡ temporal_count subs →
          length (if c then f n ∷ of_temporal f (n + 1) subs else of_temporal f (n + 1) subs) ≡ temporal_count (u ∷ subs)
      by_test true t a = let b = count_first u subs true t in omega (arith, a, b)
      by_test false t a = let b = count_first u subs false t in omega (arith, a, b)

  -- and that of a subformula stands behind those of the earlier ones
  pub listed_at : (n : ℕ) (subs : List Sub) (k : ℕ) (u : Sub) → slice_get subs k ≡ Some u → is_temporal u.kind ≡ true →
      slice_index_or (of_temporal f n subs) (temporal_count (take k subs)) Zero ≡ f (n + k)
  listed_at n [] k u at e = absurd (let none : ⊥ = cc in none)
  listed_at n (v ∷ subs) zero u at e =
      let same : v ≡ u = cc in
      let t : is_temporal v.kind ≡ true = ap (λ (w : Sub). is_temporal w.kind) same ∙ e in
      ap (λ (i : ℕ). slice_index_or (of_temporal f n (v ∷ subs)) i Zero) none_temporal
      ∙ (ap (λ ts. slice_index_or ts 0 Zero) (one_first n v subs true t) ∙ ap f (let z : n ≡ n + 0 = omega arith in z))
  listed_at n (v ∷ subs) (suc k) u at e = by_test (is_temporal v.kind) refl (listed_at (n + 1) subs k u at e)
    where
      turned : n + 1 + k ≡ n + suc k
      turned = omega arith

      by_test : (c : Bool) → is_temporal v.kind ≡ c → slice_index_or (of_temporal f (n + 1) subs) (temporal_count (take k subs)) Zero ≡ f (n + 1 + k) →
          slice_index_or (if c then f n ∷ of_temporal f (n + 1) subs else of_temporal f (n + 1) subs) (temporal_count (v ∷ take k subs)) Zero ≡ f (n + suc k)
      by_test true t rest =
          let c = count_first v (take k subs) true t in
          let place : temporal_count (v ∷ take k subs) ≡ suc (temporal_count (take k subs)) = omega (arith, c) in
          ap (λ (i : ℕ). slice_index_or (f n ∷ of_temporal f (n + 1) subs) i Zero) place ∙ (rest ∙ ap f turned)
      by_test false t rest =
          let c = count_first v (take k subs) false t in
          let place : temporal_count (v ∷ take k subs) ≡ temporal_count (take k subs) = omega (arith, c) in
          ap (λ (i : ℕ). slice_index_or (of_temporal f (n + 1) subs) i Zero) place ∙ (rest ∙ ap f turned)

-- the remembered trees, read one by one, are the list that they are read from
module _ (s : Sub) (done subs : List Sub) (pre : List Tree) (p : length pre ≡ temporal_count done) where
  front : take (length done + 1 - 1) (done ++ s ∷ subs) ≡ done
  front = ap (λ (n : ℕ). take n (done ++ s ∷ subs)) (let e : length done + 1 - 1 ≡ length done = omega arith in e) ∙ take-append_seam done (s ∷ subs)

  next : length (done ++ s ∷ []) + 1 ≡ length done + 1 + 1
  next = let e = length-append done (s ∷ []) in omega (arith, e)

  all : (done ++ s ∷ []) ++ subs ≡ done ++ s ∷ subs
  all = append_assoc done (s ∷ []) subs

  count_yes : (u : Tree) → is_temporal s.kind ≡ true → length (pre ++ u ∷ []) ≡ temporal_count (done ++ s ∷ [])
  count_yes u e = let a = length-append pre (u ∷ []) in let b = count_append done (s ∷ []) in let c = count_first s [] true e in let z = none_temporal in omega (arith, a, b, c, p, z)

  count_no : is_temporal s.kind ≡ false → length pre ≡ temporal_count (done ++ s ∷ [])
  count_no e = let b = count_append done (s ∷ []) in let c = count_first s [] false e in let z = none_temporal in omega (arith, b, c, p, z)

  read_yes : (u : Tree) (us : List Tree) → is_temporal s.kind ≡ true →
      of_temporal (memory_in ((done ++ s ∷ []) ++ subs) ((pre ++ u ∷ []) ++ us)) (length (done ++ s ∷ []) + 1) subs ≡ us →
      of_temporal (memory_in (done ++ s ∷ subs) (pre ++ u ∷ us)) (length done + 1) (s ∷ subs) ≡ u ∷ us
  read_yes u us e rest =
      let here : memory_in (done ++ s ∷ subs) (pre ++ u ∷ us) (length done + 1) ≡ u =
      ap (λ (n : ℕ). slice_index_or (pre ++ u ∷ us) n Zero) (ap temporal_count front ∙ sym p) ∙ get_or-append_seam pre u us Zero in
      let moved : of_temporal (memory_in (done ++ s ∷ subs) (pre ++ u ∷ us)) (length done + 1 + 1) subs ≡ us =
      subst (λ (n : ℕ). of_temporal (memory_in (done ++ s ∷ subs) (pre ++ u ∷ us)) n subs ≡ us) next
      (subst (λ xs. of_temporal (memory_in xs (pre ++ u ∷ us)) (length (done ++ s ∷ []) + 1) subs ≡ us) all
      (subst (λ vs. of_temporal (memory_in ((done ++ s ∷ []) ++ subs) vs) (length (done ++ s ∷ []) + 1) subs ≡ us) (append_assoc pre (u ∷ []) us) rest)) in
      let both : memory_in (done ++ s ∷ subs) (pre ++ u ∷ us) (length done + 1) ∷ of_temporal (memory_in (done ++ s ∷ subs) (pre ++ u ∷ us)) (length done + 1 + 1) subs ≡ u ∷ us = cc in
      rw e both

  read_no : (ts : List Tree) → is_temporal s.kind ≡ false →
      of_temporal (memory_in ((done ++ s ∷ []) ++ subs) (pre ++ ts)) (length (done ++ s ∷ []) + 1) subs ≡ ts →
      of_temporal (memory_in (done ++ s ∷ subs) (pre ++ ts)) (length done + 1) (s ∷ subs) ≡ ts
  read_no ts e rest =
      rw e (subst (λ (n : ℕ). of_temporal (memory_in (done ++ s ∷ subs) (pre ++ ts)) n subs ≡ ts) next
      (subst (λ xs. of_temporal (memory_in xs (pre ++ ts)) (length (done ++ s ∷ []) + 1) subs ≡ ts) all rest))

none_left : (s : Sub) (subs : List Sub) → is_temporal s.kind ≡ true → 0 ≡ temporal_count (s ∷ subs) → ⊥
none_left s subs e q = let a = count_first s subs true e in omega (arith, a, q)

one_less : (s : Sub) (subs : List Sub) (n : ℕ) → is_temporal s.kind ≡ true → suc n ≡ temporal_count (s ∷ subs) → n ≡ temporal_count subs
one_less s subs n e q = let a = count_first s subs true e in omega (arith, a, q)

same_left : (s : Sub) (subs : List Sub) (n : ℕ) → is_temporal s.kind ≡ false → n ≡ temporal_count (s ∷ subs) → n ≡ temporal_count subs
same_left s subs n e q = let a = count_first s subs false e in omega (arith, a, q)

memories_from : (subs done : List Sub) (pre ts : List Tree) → length pre ≡ temporal_count done → length ts ≡ temporal_count subs →
    of_temporal (memory_in (done ++ subs) (pre ++ ts)) (length done + 1) subs ≡ ts
memories_from [] done pre [] p q = refl
memories_from [] done pre (t ∷ ts) p q = absurd (let z = none_temporal in omega (arith, q, z))
memories_from (s ∷ subs) done pre [] p q =
    ⊎_elim (λ e. absurd (none_left s subs e q)) (λ e. read_no s done subs pre p [] e (memories_from subs (done ++ s ∷ []) pre [] (count_no s done subs pre p e) (same_left s subs 0 e q))) (either_kind (is_temporal s.kind))
memories_from (s ∷ subs) done pre (t ∷ ts) p q =
    ⊎_elim (λ e. read_yes s done subs pre p t ts e (memories_from subs (done ++ s ∷ []) (pre ++ t ∷ []) ts (count_yes s done subs pre p t e) (one_less s subs (length ts) e q)))
    (λ e. read_no s done subs pre p (t ∷ ts) e (memories_from subs (done ++ s ∷ []) pre (t ∷ ts) (count_no s done subs pre p e) (same_left s subs (suc (length ts)) e q))) (either_kind (is_temporal s.kind))

pub memories_are : (subs : List Sub) (ts : List Tree) → length ts ≡ temporal_count subs → of_temporal (memory_in subs ts) 1 subs ≡ ts
memories_are subs ts e = memories_from subs [] [] ts (sym none_temporal) e

-- the place after a subformula
pub place_next : (subs : List Sub) (k n next : ℕ) (sub : Sub) → slice_get subs k ≡ Some sub → next ≡ temporal_count (take k subs) →
    n ≡ (if is_temporal sub.kind then next + 1 else next) → n ≡ temporal_count (take (k + 1) subs)
place_next subs k n next sub at e is =
    elim (is_temporal sub.kind) as (λ b. is_temporal sub.kind ≡ b → n ≡ (if b then next + 1 else next) → n ≡ temporal_count (take (k + 1) subs))
    [ true ↦ λ t i. (let a = temporal_yes subs k sub at t in omega (arith, a, i, e)) | false ↦ λ t i. (let a = temporal_no subs k sub at t in omega (arith, a, i, e)) ] refl is
