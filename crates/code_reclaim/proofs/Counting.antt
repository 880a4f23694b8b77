-- How many handles aren't marked, and what a step of a search costs.
use Rattle.std.proofs.Common.{◌≡◌, ◌≢◌, ◌⊎◌, ℕ, zero, suc, ◌+◌, ◌*◌, ◌<◌, ◌≤◌, List, [], ◌∷◌, length, cond, refl, ap, sym, ◌∙◌, arith, subst, inl, inr}
use Rattle.std.specs.Prelude.{Bool, true, false, not, ◌||◌, nat_eq, slice_index_or, Option, None, is_some}
use Rattle.std.proofs.lemmas.Bool.{cases_lt}
use Rattle.std.proofs.lemmas.Bool.Decides.{eqb_tells, Decides-eqb}
use Rattle.std.proofs.Math.Bool.{or-true}
use Rattle.std.proofs.lemmas.Nat.{mul-le}
use Rattle.std.proofs.lemmas.List.Sums.{count_by-le-length, sum_by-cons, sum_by-le-sum_by}
use Rattle.std.proofs.lemmas.List.{get_or_past}
use Rattle.std.specs.List.{count_by, list_any}
use Rattle.node_table.specs.declared.node.Node.{Node}
use Rattle.node_table.specs.Table.{Table, node_at, IsValid, is_marked, numbers_below, IsShared}
use Rattle.code_reclaim.specs.Search.{handles, unmarked}
use Rattle.code_reclaim.proofs.Searching.{Marks}

-- ---- counts by a test that says yes less often

count_cons : (p : ℕ → Bool) (x : ℕ) (xs : List ℕ) → count_by p (x ∷ xs) ≡ cond (p x) 1 0 + count_by p xs
count_cons p x xs = sum_by-cons (λ y. cond (p y) 1 0) x xs

digit_le : (a b : Bool) → (a ≡ true → b ≡ true) → cond a 1 0 ≤ cond b 1 0
digit_le true true h = omega arith
digit_le true false h = let e : false ≡ true = h refl in cc
digit_le false true h = omega arith
digit_le false false h = omega arith

count_le : (p q : ℕ → Bool) (xs : List ℕ) → ((k : ℕ) → q k ≡ true → p k ≡ true) → count_by q xs ≤ count_by p xs
count_le p q xs h = sum_by-le-sum_by (λ k. cond (q k) 1 0) (λ k. cond (p k) 1 0) xs (λ k. digit_le (q k) (p k) (h k))

-- strictly less often at a member
count_less : (p q : ℕ → Bool) (xs : List ℕ) (m : ℕ) → ((k : ℕ) → q k ≡ true → p k ≡ true) → p m ≡ true → q m ≡ false → list_any (λ x. nat_eq x m) xs ≡ true → count_by q xs + 1 ≤ count_by p xs
count_less p q [] m h has gone there = let e : false ≡ true = there in cc
count_less p q (x ∷ xs) m h has gone there = by_head (eqb_tells x m) (λ z. count_less p q xs m h has gone z)
  where
    by_head : ((nat_eq x m ≡ true) × (x ≡ m)) ⊎ ((nat_eq x m ≡ false) × (x ≢ m)) → (list_any (λ y. nat_eq y m) xs ≡ true → count_by q xs + 1 ≤ count_by p xs) → count_by q (x ∷ xs) + 1 ≤ count_by p (x ∷ xs)
    by_head (inl e) f =
        let a : ◌≡◌ {A = ℕ} (cond (q x) 1 0) 0 = ap (λ b. cond b 1 0) (ap q e.1 ∙ gone) in
        let b : ◌≡◌ {A = ℕ} (cond (p x) 1 0) 1 = ap (λ b. cond b 1 0) (ap p e.1 ∙ has) in
        let c = count_le p q xs h in
        omega (arith, a, b, c, count_cons p x xs, count_cons q x xs)
    by_head (inr e) f =
        let a = digit_le (q x) (p x) (h x) in
        let b = f (sym (ap (λ b. b || list_any (λ y. nat_eq y m) xs) e.0) ∙ there) in
        omega (arith, a, b, count_cons p x xs, count_cons q x xs)

-- ---- a valid handle is among the handles

among : (f : ℕ → Option Node) (n h : ℕ) → is_some (f h) ≡ true → h < n → list_any (λ x. nat_eq x h) (numbers_below f n) ≡ true
among f zero h e l = absurd (omega (arith, l))
among f (suc n) h e l = by_place (eqb_tells n h) (λ m. among f n h e m)
  where
    here : (b : Bool) → n ≡ h → is_some (f n) ≡ b → list_any (λ x. nat_eq x h) (cond b (n ∷ numbers_below f n) (numbers_below f n)) ≡ true
    here true q i = ap (λ b. b || list_any (λ x. nat_eq x h) (numbers_below f n)) ((Decides-eqb n h).1 q)
    here false q i = let c : false ≡ true = sym i ∙ ap (λ (k : ℕ). is_some (f k)) q ∙ e in cc

    later : (b : Bool) → nat_eq n h ≡ false → list_any (λ x. nat_eq x h) (numbers_below f n) ≡ true → list_any (λ x. nat_eq x h) (cond b (n ∷ numbers_below f n) (numbers_below f n)) ≡ true
    later true q i = ap (λ b. b || list_any (λ x. nat_eq x h) (numbers_below f n)) q ∙ i
    later false q i = i

    by_place : ((nat_eq n h ≡ true) × (n ≡ h)) ⊎ ((nat_eq n h ≡ false) × (n ≢ h)) → (h < n → list_any (λ x. nat_eq x h) (numbers_below f n) ≡ true) → list_any (λ x. nat_eq x h) (numbers_below f (suc n)) ≡ true
    by_place (inl q) g = here (is_some (f n)) q.1 refl
    by_place (inr q) g = later (is_some (f n)) q.0 (let d = q.1 in g (omega (arith, l, d)))

valid_among : (t : Table) (h : ℕ) → IsValid t h → list_any (λ x. nat_eq x h) (handles t) ≡ true
valid_among t zero v = refl
valid_among t (suc zero) v = refl
valid_among t (suc (suc h)) v =
    ap (λ b. nat_eq 0 (suc (suc h)) || b)
    (ap (λ b. nat_eq 1 (suc (suc h)) || b) (among (node_at t) (length t.nodes) (suc (suc h)) v (by_place (cases_lt (suc (suc h)) (length t.nodes)))) ∙ or-true _)
    ∙ or-true _
  where
    by_place : (suc (suc h) < length t.nodes) ⊎ (length t.nodes ≤ suc (suc h)) → suc (suc h) < length t.nodes
    by_place (inl l) = l
    by_place (inr l) = absurd (let e : false ≡ true = sym (ap is_some (get_or_past t.nodes (suc (suc h)) None l)) ∙ v in cc)

-- ---- a mark

same_handles : (t u : Table) → u.nodes ≡ t.nodes → handles u ≡ handles t
same_handles t u e = ap (λ (ns : List (Option Node)). 0 ∷ 1 ∷ numbers_below (λ h. slice_index_or ns h None) (length ns)) e

still : (h : ℕ) (old new : Table) (said : Bool) → Marks h old new said → (k : ℕ) → not (is_marked new k) ≡ true → not (is_marked old k) ≡ true
still h old new said m k e = by_test (eqb_tells k h) (sym (ap not (m.marked k)) ∙ e)
  where
    by_test : ((nat_eq k h ≡ true) × (k ≡ h)) ⊎ ((nat_eq k h ≡ false) × (k ≢ h)) → not (cond (nat_eq k h) true (is_marked old k)) ≡ true → not (is_marked old k) ≡ true
    by_test (inl x) f = let g : false ≡ true = sym (ap (λ b. not (cond b true (is_marked old k))) x.0) ∙ f in cc
    by_test (inr x) f = sym (ap (λ b. not (cond b true (is_marked old k))) x.0) ∙ f

pub mark_le : (h : ℕ) (old new : Table) (said : Bool) → Marks h old new said → unmarked new ≤ unmarked old
mark_le h old new said m =
    subst (λ hs. count_by (λ k. not (is_marked new k)) hs ≤ unmarked old) (sym (same_handles old new m.nodes))
    (count_le (λ k. not (is_marked old k)) (λ k. not (is_marked new k)) (handles old) (still h old new said m))

pub mark_less : (h : ℕ) (old new : Table) → IsValid old h → Marks h old new true → unmarked new + 1 ≤ unmarked old
mark_less h old new v m =
    subst (λ hs. count_by (λ k. not (is_marked new k)) hs + 1 ≤ unmarked old) (sym (same_handles old new m.nodes))
    (count_less (λ k. not (is_marked old k)) (λ k. not (is_marked new k)) (handles old) h (still h old new true m) (ap not (m.first_one.0 refl)) (ap not (m.marked h ∙ ap (λ b. cond b true (is_marked old h)) ((Decides-eqb h h).1 refl))) (valid_among old h v))

-- no more than the leaves and the nodes that fit
pub unmarked_few : (t u : Table) → u.nodes ≡ t.nodes → IsShared t → unmarked u ≤ t.room + 2
unmarked_few t u e s =
    let a = count_by-le-length (λ h. not (is_marked u h)) (handles u) in
    let b = ap (λ (hs : List ℕ). length hs) (same_handles t u e) in
    let c = s.bound in
    omega (arith, a, b, c)

-- ---- steps, at most so many for each handle marked

pub paid : (each before after left marked : ℕ) → marked + 1 ≤ left → after ≤ before + each → after + each * marked ≤ before + each * left
paid each before after left marked l c =
    (let m : each * (marked + 1) ≤ each * left = mul-le each (marked + 1) each left (omega arith) l in let d = more each marked in omega (arith, m, c, d))
  where
    more : (a b : ℕ) → a * (b + 1) ≡ a * b + a
    more a b = omega arith

pub passed : (each before left marked : ℕ) → marked ≤ left → before + each * marked ≤ before + each * left
passed each before left marked l = (let m = mul-le each marked each left (omega arith) l in omega (arith, m))

-- a step at a handle that was marked, and then a search below it
pub paid_below : (each before there after left marked rest : ℕ) → marked + 1 ≤ left → there ≤ before + each → after + each * rest ≤ there + each * marked → after + each * rest ≤ before + each * left
paid_below each before there after left marked rest l c d = (let e = paid each before there left marked l c in omega (arith, e, d))

-- and another one
pub paid_again : (each before there after last left marked rest end : ℕ) → marked + 1 ≤ left → there ≤ before + each → after + each * rest ≤ there + each * marked → last + each * end ≤ after + each * rest → last + each * end ≤ before + each * left
paid_again each before there after last left marked rest end l c d e = (let f = paid_below each before there after left marked rest l c d in omega (arith, e, f))

-- all in all
pub paid_all : (each before after left rest room : ℕ) → after + each * rest ≤ before + each * left → left ≤ room + 2 → after ≤ before + (room + 2) * each
paid_all each before after left rest room c l = (let m = mul-le left each (room + 2) each l (omega arith) in let f = turned each left in omega (arith, c, m, f))
  where
    turned : (a b : ℕ) → a * b ≡ b * a
    turned a b = omega arith

-- so much for each of some codes
pub each_code : (size room each after before : ℕ) → after ≤ before + room * (size * each) → after ≤ before + size * (room * each)
each_code size room each after before c = (let e = swapped size room each in omega (arith, c, e))
  where
    swapped : (x y z : ℕ) → y * (x * z) ≡ x * (y * z)
    swapped x y z = omega arith

-- one part after another
pub chained : (each before there after left marked rest : ℕ) → there + each * marked ≤ before + each * left → after + each * rest ≤ there + each * marked → after + each * rest ≤ before + each * left
chained each before there after left marked rest c d = omega (arith, c, d)
