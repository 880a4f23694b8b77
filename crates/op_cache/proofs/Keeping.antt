-- What a memo keeps, through each of its calls.
use Rattle.std.proofs.Common.{◌≡◌, ℕ, ◌+◌, ◌<◌, ◌≤◌, refl, sym, ap, ◌∙◌, subst, arith, List, [], ◌∷◌, ◌++◌, length, take, drop, None}
use Rattle.std.specs.List.{All, IsDistinct}
use Rattle.std.specs.Map.{keys_of}
use Rattle.std.proofs.lemmas.List.{length-map, length-take-le, length-append, take-map, take_at, map_push}
use Rattle.std.proofs.lemmas.List.Elements.{All-weaker}
use Rattle.op_cache.specs.declared.heads.Head.{Head}
use Rattle.op_cache.specs.declared.chains.Entry.{Entry}
use Rattle.op_cache.specs.Keys.{same_place}
use Rattle.op_cache.specs.Memo.{IsMemo, result_at}
use Rattle.op_cache.specs.Chains.{pairs_of, AreLinked}
use Rattle.op_cache.specs.Kept.{IsKept}
use Rattle.op_cache.proofs.Pairs.{distinct_pushed}
use Rattle.op_cache.proofs.Linking.{linked_none}

-- heads that were lent and given back
pub lent_back : {X : Type 0} (new old : List X) (n : ℕ) → length new ≡ n → take n (new ++ drop (length new) old) ≡ new
lent_back new old n e = take_at new (drop (length new) old) n e

module _ {H : Type 0} where
  pub pairs_count : (held : ℕ) (pairs : List (Entry H)) → held ≤ length pairs → length (pairs_of (take held pairs)) ≡ held
  pairs_count held pairs h = length-map (take held pairs) (λ (e : Entry H). (e.place, e.result)) ∙ length-take-le held pairs h

  same_count : (new old : List (Entry H)) → pairs_of new ≡ pairs_of old → length new ≡ length old
  same_count new old e =
      sym (length-map new (λ (x : Entry H). (x.place, x.result))) ∙ (ap length e ∙ length-map old (λ (x : Entry H). (x.place, x.result)))

  -- the first pairs are as before where all are
  pub front_same : (held : ℕ) (new old : List (Entry H)) → pairs_of new ≡ pairs_of old → pairs_of (take held new) ≡ pairs_of (take held old)
  front_same held new old e =
      sym (take-map (λ (x : Entry H). (x.place, x.result)) held new) ∙ (ap (take held) e ∙ take-map (λ (x : Entry H). (x.place, x.result)) held old)

  pub kept_memo : (entries held room : ℕ) (pairs : List (Entry H)) (heads : List Head) (w r : ℕ) → IsKept entries held room pairs heads w r → IsMemo (record { entries = entries; pairs = pairs_of (take held pairs) })
  kept_memo entries held room pairs heads w r k = record {
    distinct = k.distinct;
    within = let n = pairs_count held pairs k.reach in let x = k.within in omega arith;
  }

  pub kept_none : (entries room : ℕ) (pairs : List (Entry H)) (heads : List Head) (w r : ℕ) → entries ≤ room → 0 < w → w ≤ length heads → All (λ h. h.round < r) heads → IsKept entries 0 room pairs heads w r
  unfolding IsDistinct
  kept_none entries room pairs heads w r roomy some wide early = record {
    within = omega arith;
    reach = omega arith;
    roomy = roomy;
    some = some;
    wide = wide;
    rounds = All-weaker (λ (h : Head). h.round < r) (λ (h : Head). h.round ≤ r) (λ h x. omega arith) heads early;
    distinct = tt;
    linked = linked_none heads w r early;
  }

  pub kept_relinked : (entries held room : ℕ) (pairs new : List (Entry H)) (heads heads' : List Head) (w w' r r' : ℕ) → IsKept entries held room pairs heads w r → pairs_of new ≡ pairs_of pairs → 0 < w' → w' ≤ length heads' → All (λ h. h.round ≤ r') heads' → AreLinked (take held new) heads' w' r' → IsKept entries held room new heads' w' r'
  kept_relinked entries held room pairs new heads heads' w w' r r' k same some wide rounds linked = record {
    within = k.within;
    reach = let n = same_count new pairs same in let c = k.reach in omega arith;
    roomy = k.roomy;
    some = some;
    wide = wide;
    rounds = rounds;
    distinct = subst (λ ps. IsDistinct same_place (keys_of ps)) (sym (front_same held new pairs same)) k.distinct;
    linked = linked;
  }

  module _ (entries held room : ℕ) (pairs : List (Entry H)) (heads : List Head) (w r : ℕ) (k : IsKept entries held room pairs heads w r) (e : Entry H)
      (put new : List (Entry H)) (places : put ≡ take held pairs ++ e ∷ drop (held + 1) pairs) (same : pairs_of new ≡ pairs_of put) where
    put_front : take (held + 1) put ≡ take held pairs ++ e ∷ []
    put_front =
        ap (take (held + 1)) (places ∙ sym (joined (take held pairs) (drop (held + 1) pairs)))
        ∙ take_at (take held pairs ++ e ∷ []) (drop (held + 1) pairs) (held + 1)
        (let n = length-append (take held pairs) (e ∷ []) in let m = length-take-le held pairs k.reach in omega arith)
      where
        joined : (xs ys : List (Entry H)) → (xs ++ e ∷ []) ++ ys ≡ xs ++ e ∷ ys
        joined [] ys = refl
        joined (x ∷ xs) ys = ap (λ zs. x ∷ zs) (joined xs ys)

    pub pairs_stored : pairs_of (take (held + 1) new) ≡ pairs_of (take held pairs) ++ (e.place, e.result) ∷ []
    pairs_stored = front_same (held + 1) new put same ∙ (ap pairs_of put_front ∙ map_push (λ (x : Entry H). (x.place, x.result)) (take held pairs) e)

    pub kept_stored : (heads' : List Head) (room' : ℕ) → held < entries → room ≤ room' → w ≤ length heads' → All (λ h. h.round ≤ r) heads' → AreLinked (take (held + 1) new) heads' w r → result_at (pairs_of (take held pairs)) e.place ≡ None → IsKept entries (held + 1) room' new heads' w r
    kept_stored heads' room' few roomy wide rounds linked none = record {
      within = omega arith;
      reach =
          (let a = same_count new put same in
          let d : length put ≡ length (take held pairs ++ e ∷ drop (held + 1) pairs) = ap length places in
          let f = length-append (take held pairs) (e ∷ drop (held + 1) pairs) in let m = length-take-le held pairs k.reach in omega arith);
      roomy = let x = k.roomy in omega arith;
      some = k.some;
      wide = wide;
      rounds = rounds;
      distinct = subst (λ ps. IsDistinct same_place (keys_of ps)) (sym pairs_stored) (distinct_pushed (pairs_of (take held pairs)) e.place e.result none k.distinct);
      linked = linked;
    }

    pub memo_stored : held < entries → result_at (pairs_of (take held pairs)) e.place ≡ None → IsMemo (record { entries = entries; pairs = pairs_of (take (held + 1) new) })
    memo_stored few none = record {
      distinct = subst (λ ps. IsDistinct same_place (keys_of ps)) (sym pairs_stored) (distinct_pushed (pairs_of (take held pairs)) e.place e.result none k.distinct);
      within =
          (let a : length (pairs_of (take (held + 1) new)) ≡ length (pairs_of (take held pairs) ++ (e.place, e.result) ∷ []) = ap length pairs_stored in
          let b = length-append (pairs_of (take held pairs)) ((e.place, e.result) ∷ []) in let d = pairs_count held pairs k.reach in omega arith);
    }
