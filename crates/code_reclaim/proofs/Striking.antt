-- Candidates struck: by place, by parts of the list, and by the halves of a block.
use Rattle.std.proofs.Common.{◌≡◌, ◌≢◌, ◌⊎◌, ℕ, zero, suc, ◌+◌, ◌*◌, ◌-◌, ◌^◌, ◌<◌, ◌≤◌, List, [], ◌∷◌, ◌++◌, length, replicate, cond, min, refl, ap, sym, ◌∙◌, arith, subst, inl, inr}
use Rattle.std.specs.Prelude.{Bool, true, false, not, ◌||◌, ◌&&◌, nat_le, nat_eq}
use Rattle.std.specs.List.{list_any}
use Rattle.std.proofs.lemmas.Bool.Decides.{leb_tells, eqb_tells}
use Rattle.node_tree.specs.Tree.{Tree, tree_eq, IsOrderedFrom, IsReduced}
use Rattle.node_tree.specs.Restrict.{restrict}
use Rattle.node_tree.proofs.Setting.{weaken}
use Rattle.node_table.specs.Table.{Table, tree_of, IsValid, IsShared}
use Rattle.bdd_ops.specs.Reading.{set_block}
use Rattle.bdd_ops.proofs.Walks.{down_none, below_next}
use Rattle.code_reclaim.specs.Candidates.{is_candidate, struck, departs, HasHalves}
use Rattle.code_reclaim.proofs.Searching.{same_numbers}

-- ---- lists

and_true : (b : Bool) → (b && true) ≡ b
and_true true = refl
and_true false = refl

and_false : (b : Bool) → (b && false) ≡ false
and_false true = refl
and_false false = refl

pub struck_length : (p : ℕ → Bool) (c : ℕ) (xs : List Bool) → length (struck p c xs) ≡ length xs
struck_length p c [] = refl
struck_length p c (b ∷ xs) = ap (λ (n : ℕ). suc n) (struck_length p (c + 1) xs)

pub struck_at : (p : ℕ → Bool) (c : ℕ) (xs : List Bool) (i : ℕ) → is_candidate (struck p c xs) i ≡ (is_candidate xs i && not (p (c + i)))
struck_at p c [] zero = refl
struck_at p c [] (suc i) = refl
struck_at p c (b ∷ xs) zero = ap (λ (k : ℕ). b && not (p k)) (let e : c ≡ c + 0 = omega arith in e)
struck_at p c (b ∷ xs) (suc i) = struck_at p (c + 1) xs i ∙ ap (λ (k : ℕ). is_candidate xs i && not (p k)) (let e : c + 1 + i ≡ c + suc i = omega arith in e)

-- tests that agree strike the same
pub struck_same : (p q : ℕ → Bool) (a b : ℕ) (xs : List Bool) → ((i : ℕ) → i < length xs → p (a + i) ≡ q (b + i)) → struck p a xs ≡ struck q b xs
struck_same p q a b [] h = refl
struck_same p q a b (x ∷ xs) h =
    ap (λ z. (x && not z) ∷ struck p (a + 1) xs) here
    ∙ ap (λ z. (x && not (q b)) ∷ z) (struck_same p q (a + 1) (b + 1) xs (λ i l. next i l))
  where
    here : p a ≡ q b
    here = ap p (let e : a ≡ a + 0 = omega arith in e) ∙ h 0 (omega arith) ∙ ap q (let e : b + 0 ≡ b = omega arith in e)

    next : (i : ℕ) → i < length xs → p (a + 1 + i) ≡ q (b + 1 + i)
    next i l = ap p (let e : a + 1 + i ≡ a + suc i = omega arith in e) ∙ h (suc i) (omega (arith, l)) ∙ ap q (let e : b + suc i ≡ b + 1 + i = omega arith in e)

pub struck_append : (p : ℕ → Bool) (c : ℕ) (xs ys : List Bool) → struck p c (xs ++ ys) ≡ struck p c xs ++ struck p (c + length xs) ys
struck_append p c [] ys = ap (λ (k : ℕ). struck p k ys) (let e : c ≡ c + 0 = omega arith in e)
struck_append p c (x ∷ xs) ys =
    ap (λ z. (x && not (p c)) ∷ z)
    (struck_append p (c + 1) xs ys ∙ ap (λ (k : ℕ). struck p (c + 1) xs ++ struck p k ys) (let e : c + 1 + length xs ≡ c + length (x ∷ xs) = omega arith in e))

-- a test that holds of none strikes none, and one that holds of each strikes each
pub struck_none : (p : ℕ → Bool) (c : ℕ) (xs : List Bool) → ((k : ℕ) → p k ≡ false) → struck p c xs ≡ xs
struck_none p c [] h = refl
struck_none p c (x ∷ xs) h = ap (λ z. (x && not z) ∷ struck p (c + 1) xs) (h c) ∙ ap (λ z. z ∷ struck p (c + 1) xs) (and_true x) ∙ ap (λ z. x ∷ z) (struck_none p (c + 1) xs h)

pub struck_all : (p : ℕ → Bool) (c : ℕ) (xs : List Bool) → ((k : ℕ) → p k ≡ true) → struck p c xs ≡ replicate (length xs) false
struck_all p c [] h = refl
struck_all p c (x ∷ xs) h = ap (λ z. (x && not z) ∷ struck p (c + 1) xs) (h c) ∙ ap (λ z. z ∷ struck p (c + 1) xs) (and_false x) ∙ ap (λ z. false ∷ z) (struck_all p (c + 1) xs h)

-- where there is no candidate, none is struck
pub struck_idle : (f : Bool → Bool) → f true ≡ true → (p : ℕ → Bool) (c : ℕ) (xs : List Bool) → list_any f xs ≡ false → struck p c xs ≡ xs
struck_idle f t p c [] e = refl
struck_idle f t p c (true ∷ xs) e = let g : true ≡ false = sym (ap (λ b. b || list_any f xs) t) ∙ e in cc
struck_idle f t p c (false ∷ xs) e = ap (λ z. false ∷ z) (struck_idle f t p (c + 1) xs (rest (f false) e))
  where
    rest : (b : Bool) → (b || list_any f xs) ≡ false → list_any f xs ≡ false
    rest true g = let h : true ≡ false = g in cc
    rest false g = g

-- ---- a tree without a node in the block

pub block_past : (n first code : ℕ) (t : Tree) → IsOrderedFrom (first + n) t → IsReduced t → set_block first n code t ≡ t
block_past zero first code t o r = refl
block_past (suc n) first code t o r = either (λ c. block_past n (first + 1) c t (subst (λ (k : ℕ). IsOrderedFrom k t) (let e : first + suc n ≡ first + 1 + n = omega arith in e) o) r) (nat_le (2 ^ n) code)
  where
    stays : (v : Bool) → restrict first v t ≡ t
    stays v = sym (down_none first v t (weaken t (first + suc n) (first + 1) (omega arith) o) r)

    either : ((c : ℕ) → set_block (first + 1) n c t ≡ t) → (x : Bool) → cond x (set_block (first + 1) n (code - 2 ^ n) (restrict first true t)) (set_block (first + 1) n code (restrict first false t)) ≡ t
    either below true = ap (set_block (first + 1) n (code - 2 ^ n)) (stays true) ∙ below (code - 2 ^ n)
    either below false = ap (set_block (first + 1) n code) (stays false) ∙ below code

-- it comes to itself by each code
departs_past : (t : Table) (h ones first bits c : ℕ) → IsShared t → IsValid t h → IsValid t ones → IsOrderedFrom (first + bits) (tree_of t h) → departs first bits (tree_of t h) (tree_of t ones) c ≡ not (nat_eq h ones)
departs_past t h ones first bits c s v w o =
    ap (λ z. not (tree_eq z (tree_of t ones))) (block_past bits first c (tree_of t h) o (s.reduced h v))
    ∙ ap not (sym (same_numbers t h ones s v w))

pub past_apart : (t : Table) (h ones first bits from x y : ℕ) (xs : List Bool) → IsShared t → IsValid t h → IsValid t ones → IsOrderedFrom (first + bits) (tree_of t h) → x ≡ h → y ≡ ones → x ≢ y →
    struck (departs first bits (tree_of t h) (tree_of t ones)) from xs ≡ replicate (length xs) false
past_apart t h ones first bits from x y xs s v w o e f d =
    struck_all (departs first bits (tree_of t h) (tree_of t ones)) from xs (λ c. departs_past t h ones first bits c s v w o ∙ ap not (by_test (eqb_tells h ones)))
  where
    by_test : ((nat_eq h ones ≡ true) × (h ≡ ones)) ⊎ ((nat_eq h ones ≡ false) × (h ≢ ones)) → nat_eq h ones ≡ false
    by_test (inl z) = absurd (d (e ∙ z.1 ∙ sym f))
    by_test (inr z) = z.0

pub past_same : (t : Table) (h ones first bits from x y : ℕ) (xs : List Bool) → IsShared t → IsValid t h → IsValid t ones → IsOrderedFrom (first + bits) (tree_of t h) → x ≡ h → y ≡ ones → x ≡ y →
    struck (departs first bits (tree_of t h) (tree_of t ones)) from xs ≡ xs
past_same t h ones first bits from x y xs s v w o e f d =
    struck_none (departs first bits (tree_of t h) (tree_of t ones)) from xs (λ c. departs_past t h ones first bits c s v w o ∙ ap not (by_test (eqb_tells h ones)))
  where
    by_test : ((nat_eq h ones ≡ true) × (h ≡ ones)) ⊎ ((nat_eq h ones ≡ false) × (h ≢ ones)) → nat_eq h ones ≡ true
    by_test (inl z) = z.0
    by_test (inr z) = absurd (z.1 (sym e ∙ d ∙ f))

-- ---- the halves of a block

module _ (n first : ℕ) (t ones : Tree) where
  -- by the bit of a code at the half
  abbrev by_bit : Bool → ℕ → Bool
  by_bit x c = not (tree_eq (cond x (set_block (first + 1) n (c - 2 ^ n) (restrict first true t)) (set_block (first + 1) n c (restrict first false t))) ones)

  half_low : (c : ℕ) → c < 2 ^ n → departs first (suc n) t ones c ≡ departs (first + 1) n (restrict first false t) ones c
  half_low c l = by_test (leb_tells (2 ^ n) c)
    where
      by_test : ((nat_le (2 ^ n) c ≡ true) × (2 ^ n ≤ c)) ⊎ ((nat_le (2 ^ n) c ≡ false) × (c < 2 ^ n)) → by_bit (nat_le (2 ^ n) c) c ≡ departs (first + 1) n (restrict first false t) ones c
      by_test (inl z) = absurd (apart (2 ^ n) z.1 l)
        where
          apart : (half : ℕ) → half ≤ c → c < half → ⊥
          apart half u v = omega (arith, u, v)
      by_test (inr z) = ap (λ x. by_bit x c) z.0

  half_high : (c : ℕ) → departs first (suc n) t ones (2 ^ n + c) ≡ departs (first + 1) n (restrict first true t) ones c
  half_high c = by_test (leb_tells (2 ^ n) (2 ^ n + c))
    where
      more : (a : ℕ) → a + c < a → ⊥
      more a u = omega (arith, u)

      taken : (a : ℕ) → a + c - a ≡ c
      taken a = omega arith

      by_test : ((nat_le (2 ^ n) (2 ^ n + c) ≡ true) × (2 ^ n ≤ 2 ^ n + c)) ⊎ ((nat_le (2 ^ n) (2 ^ n + c) ≡ false) × (2 ^ n + c < 2 ^ n)) → by_bit (nat_le (2 ^ n) (2 ^ n + c)) (2 ^ n + c) ≡ departs (first + 1) n (restrict first true t) ones c
      by_test (inl z) = ap (λ x. by_bit x (2 ^ n + c)) z.0 ∙ ap (departs (first + 1) n (restrict first true t) ones) (taken (2 ^ n))
      by_test (inr z) = absurd (more (2 ^ n) z.1)

  -- the parts of a list of codes, those below the half and the others
  module _ (from start count : ℕ) (below above : List Bool) (size : length below ≡ count) (cut : count ≡ min (length below + length above) (2 ^ n - from)) (begin : start ≡ min from (2 ^ n)) where
    low_part : struck (departs (first + 1) n (restrict first false t) ones) start below ≡ struck (departs first (suc n) t ones) from below
    low_part = struck_same (departs (first + 1) n (restrict first false t) ones) (departs first (suc n) t ones) start from below (λ i l. ap (departs (first + 1) n (restrict first false t) ones) (same i l) ∙ sym (half_low (from + i) (under i l)))
      where
        same_place : (half i j k : ℕ) → i < j → j ≡ min (j + k) (half - from) → start ≡ min from half → (start + i ≡ from + i) × (from + i < half)
        same_place half i j k l e f = (omega (arith, l, e, f), omega (arith, l, e))

        same : (i : ℕ) → i < length below → start + i ≡ from + i
        same i l = (same_place (2 ^ n) i (length below) (length above) l (size ∙ cut) begin).0

        under : (i : ℕ) → i < length below → from + i < 2 ^ n
        under i l = (same_place (2 ^ n) i (length below) (length above) l (size ∙ cut) begin).1

    high_part : struck (departs (first + 1) n (restrict first true t) ones) (from - 2 ^ n) above ≡ struck (departs first (suc n) t ones) (from + length below) above
    high_part = struck_same (departs (first + 1) n (restrict first true t) ones) (departs first (suc n) t ones) (from - 2 ^ n) (from + length below) above (λ i l. sym (half_high (from - 2 ^ n + i)) ∙ ap (departs first (suc n) t ones) (same i l))
      where
        same_place : (half i j k : ℕ) → i < k → j ≡ min (j + k) (half - from) → half + (from - half + i) ≡ from + j + i
        same_place half i j k l e = omega (arith, l, e)

        same : (i : ℕ) → i < length above → 2 ^ n + (from - 2 ^ n + i) ≡ from + length below + i
        same i l = same_place (2 ^ n) i (length below) (length above) l (size ∙ cut)

    joined_parts : struck (departs (first + 1) n (restrict first false t) ones) start below ++ struck (departs (first + 1) n (restrict first true t) ones) (from - 2 ^ n) above ≡ struck (departs first (suc n) t ones) from (below ++ above)
    joined_parts =
        ap (λ z. z ++ struck (departs (first + 1) n (restrict first true t) ones) (from - 2 ^ n) above) low_part
        ∙ ap (λ z. struck (departs first (suc n) t ones) from below ++ z) high_part
        ∙ sym (struck_append (departs first (suc n) t ones) from below above)

pub joined : (bits first from start rest count half : ℕ) (t other : Tree) (xs below above : List Bool) → 1 ≤ bits → half ≡ 2 ^ (bits - 1) → xs ≡ below ++ above → length below ≡ count → length above + count ≡ length xs →
    count ≡ min (length xs) (half - from) → start ≡ min from half → rest ≡ from - half → (low high : Tree) → low ≡ restrict first false t → high ≡ restrict first true t →
    struck (departs (first + 1) (bits - 1) low other) start below ++ struck (departs (first + 1) (bits - 1) high other) rest above ≡ struck (departs first bits t other) from xs
joined zero first from start rest count half t other xs below above some is_half parts size all cut begin end low high is_low is_high = absurd (omega (arith, some))
joined (suc n) first from start rest count half t other xs below above some is_half parts size all cut begin end low high is_low is_high =
    let e : suc n - 1 ≡ n = omega arith in
    let f : half ≡ 2 ^ n = is_half ∙ ap (λ (k : ℕ). 2 ^ k) e in
    ap (λ (k : ℕ). struck (departs (first + 1) k low other) start below ++ struck (departs (first + 1) k high other) rest above) e
    ∙ ap (λ (k : ℕ). struck (departs (first + 1) n low other) start below ++ struck (departs (first + 1) n high other) k above) (end ∙ ap (λ (k : ℕ). from - k) f)
    ∙ ap (λ x. struck (departs (first + 1) n x other) start below ++ struck (departs (first + 1) n high other) (from - 2 ^ n) above) is_low
    ∙ ap (λ x. struck (departs (first + 1) n (restrict first false t) other) start below ++ struck (departs (first + 1) n x other) (from - 2 ^ n) above) is_high
    ∙ joined_parts n first t other from start count below above size
    (cut ∙ ap (λ (k : ℕ). min k (half - from)) (let g : length xs ≡ length below + length above = omega (arith, size, all) in g) ∙ ap (λ (k : ℕ). min (length below + length above) (k - from)) f)
    (begin ∙ ap (λ (k : ℕ). min from k) f)
    ∙ ap (struck (departs first (suc n) t other) from) (sym parts)

-- both halves begin below the first level
module _ (t : Table) (h first bits low high : ℕ) (shared : IsShared t) (valid : IsValid t h) (o : IsOrderedFrom first (tree_of t h)) (x : HasHalves t h first bits low high) where
  pub low_ordered : IsOrderedFrom (first + 1) (tree_of t low)
  low_ordered = subst (IsOrderedFrom (first + 1)) (sym x.low_tree) (below_next first false (tree_of t h) o (shared.reduced h valid))

  pub high_ordered : IsOrderedFrom (first + 1) (tree_of t high)
  high_ordered = subst (IsOrderedFrom (first + 1)) (sym x.high_tree) (below_next first true (tree_of t h) o (shared.reduced h valid))

-- the places of both parts fit into the half
pub fits_low : (from count size half bits start : ℕ) → half ≡ 2 ^ (bits - 1) → count ≡ min size (half - from) → start ≡ min from half → start + count ≤ 2 ^ (bits - 1)
fits_low from count size half bits start h c s = subst (λ (k : ℕ). start + count ≤ k) h (omega (arith, c, s))

pub fits_high : (from count size rest half bits start : ℕ) → 1 ≤ bits → count ≡ min size (half - from) → start ≡ from - half → half ≡ 2 ^ (bits - 1) → rest + count ≡ size → from + size ≤ 2 ^ bits → start + rest ≤ 2 ^ (bits - 1)
fits_high from count size rest half zero start some c s h e f = absurd (omega (arith, some))
fits_high from count size rest half (suc n) start some c s h e f =
    let g : suc n - 1 ≡ n = omega arith in
    let k : half ≡ 2 ^ n = h ∙ ap (λ (m : ℕ). 2 ^ m) g in
    subst (λ (m : ℕ). start + rest ≤ 2 ^ m) (sym g) (subst (λ (m : ℕ). start + rest ≤ m) k (small half (2 ^ suc n) k c s e f (doubled n)))
  where
    doubled : (m : ℕ) → 2 ^ suc m ≡ 2 ^ m + 2 ^ m
    doubled m = omega arith

    small : (h b : ℕ) → h ≡ 2 ^ n → count ≡ min size (h - from) → start ≡ from - h → rest + count ≡ size → from + size ≤ b → b ≡ 2 ^ n + 2 ^ n → start + rest ≤ h
    small h b k c s e f d = omega (arith, k, c, s, e, f, d)

-- ---- steps

-- a step here, and a step for each further bit of each code in both parts
pub paid_parts : (size below above bits before there low last : ℕ) → 1 ≤ size → 1 ≤ bits → above + below ≡ size → there ≤ before + 1 → low ≤ there + below * (bits - 1) → last ≤ low + above * (bits - 1) → last ≤ before + size * bits
paid_parts size below above bits before there low last some few parts a b c =
    let e : (below + above) * (bits - 1) ≡ below * (bits - 1) + above * (bits - 1) = spread below above (bits - 1) in
    let f : size * (bits - 1) + size ≡ size * bits = last_bit size bits few in
    let g : (below + above) * (bits - 1) ≡ size * (bits - 1) = ap (λ (k : ℕ). k * (bits - 1)) (let h : below + above ≡ size = omega (arith, parts) in h) in
    sum (below * (bits - 1)) (above * (bits - 1)) ((below + above) * (bits - 1)) (size * (bits - 1)) (size * bits) e f g b c
  where
    spread : (x y z : ℕ) → (x + y) * z ≡ x * z + y * z
    spread x y z = omega arith

    last_bit : (x y : ℕ) → 1 ≤ y → x * (y - 1) + x ≡ x * y
    last_bit x zero l = absurd (omega (arith, l))
    last_bit x (suc y) l = ap (λ (k : ℕ). x * k + x) (let h : suc y - 1 ≡ y = omega arith in h) ∙ more x y
      where
        more : (u v : ℕ) → u * v + u ≡ u * suc v
        more u v = omega arith

    sum : (p q r s u : ℕ) → r ≡ p + q → s + size ≡ u → r ≡ s → low ≤ there + p → last ≤ low + q → last ≤ before + u
    sum p q r s u e f g b c = omega (arith, e, f, g, b, c, some, a)

-- a list without entries has no candidate
pub some_candidate : (f : Bool → Bool) (xs : List Bool) → (list_any f xs ≡ false → ⊥) → 1 ≤ length xs
some_candidate f [] h = absurd (h refl)
some_candidate f (x ∷ xs) h = omega arith
