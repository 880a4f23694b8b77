-- The codes suffice exactly where no more texts than codes are pinned, told apart or needed.
use Rattle.std.proofs.Common.{◌≡◌, ◌≢◌, ℕ, zero, suc, ◌+◌, ◌-◌, ◌^◌, ◌<◌, ◌≤◌, ◌⊎◌, inl, inr, ⊎_elim, refl, sym, ap, ◌∙◌, subst, arith, List, [], ◌∷◌, ◌++◌, length, Bool, true, false, ◌||◌, Option, Some, None, length-append, eqb}
use Rattle.std.specs.Prelude.{nat_eq, nat_lt, if◌then◌else◌, bytes_eq, is_some, map}
use Rattle.std.specs.List.{list_any, AllByRecursion, IsDistinct}
use Rattle.std.proofs.lemmas.Bool.{cases_lt}
use Rattle.std.proofs.lemmas.Bool.Decides.{eqb_tells, Decides-ltb}
use Rattle.std.proofs.lemmas.Map.Steps.{le-length_from_below, length-le_from_distinct_below}
use Rattle.qtl_syntax.specs.Tree.{Text}
use Rattle.subformulas.specs.Needs.{code_need}
use Rattle.subformulas.specs.Texts.{Has, unrepeated_after, unrepeated}
use Rattle.subformulas.proofs.Alike.{has_right}
use Rattle.subformulas.proofs.Needed.{any_cons, unrepeated_has}
use Rattle.subformulas.proofs.Plain.{has_cases, from_unrepeated}
use Rattle.value_codes.specs.Pairs.{Pairs, code_of, value_of, IsLeastFree, IsPaired}
use Rattle.value_codes.proofs.Lookups.{Tells, texts_tell, some_none}
use Rattle.monitor_model.specs.Books.{Gives, keep, AllApart, without_code, free_count, IsNextBook}
use Rattle.monitor_model.proofs.Books.Pairing.{any_has, by_if, paired_kept, code_kept, without_from}

-- a list without the first place of a text
remove : Text → List Text → List Text
remove x [] = []
remove x (y ∷ ys) = if bytes_eq x y then ys else y ∷ remove x ys

-- it is one shorter, and has the other texts
removed : (x : Text) (ys : List Text) → Has ys x → (length ys ≡ length (remove x ys) + 1) × ((t : Text) → Has ys t → x ≢ t → Has (remove x ys) t)
unfolding remove
removed x [] h = absurd h
removed x (y ∷ ys) h = by_head (texts_tell x y) h (removed x ys)
  where
    by_head : Tells (bytes_eq x y) (x ≡ y) → (y ≡ x) ⊎ Has ys x → (Has ys x → (length ys ≡ length (remove x ys) + 1) × ((t : Text) → Has ys t → x ≢ t → Has (remove x ys) t)) →
        (suc (length ys) ≡ length (if bytes_eq x y then ys else y ∷ remove x ys) + 1) × ((t : Text) → (y ≡ t) ⊎ Has ys t → x ≢ t → Has (if bytes_eq x y then ys else y ∷ remove x ys) t)
    by_head (inl p) h f = (rw p.0 (omega arith), λ t k n. rw p.0 (⊎_elim (λ e. absurd (n (p.1 ∙ e))) (λ q. q) k))
    by_head (inr p) (inl e) f = absurd (p.1 (sym e))
    by_head (inr p) (inr q) f =
        let r = f q in
        (rw p.0 (let e = r.0 in omega arith), λ t k n. rw p.0 (⊎_elim (λ e. inl e) (λ s. inr (r.1 t s n)) k))

-- a list without repeats is no longer than one that has its texts
pub no_longer : (xs ys : List Text) → AllApart xs → ((t : Text) → Has xs t → Has ys t) → length xs ≤ length ys
no_longer [] ys a h = omega arith
no_longer (x ∷ xs) ys a h =
    let r = removed x ys (h x (inl refl)) in
    let e = r.0 in
    let f = no_longer xs (remove x ys) a.1 (λ t p. r.1 t (h t (inr p)) (λ e. a.0 (subst (Has xs) (sym e) p))) in
    omega arith

-- lists without repeats and without a text in common have none together
pub apart_append : (xs ys : List Text) → AllApart xs → AllApart ys → ((t : Text) → Has xs t → ¬ Has ys t) → AllApart (xs ++ ys)
apart_append [] ys a b n = b
apart_append (x ∷ xs) ys a b n = (λ h. ⊎_elim a.0 (n x (inl refl)) (has_cases xs ys x h), apart_append xs ys a.1 b (λ t p. n t (inr p)))

unseen : (seen ts : List Text) (a : Text) → Has (unrepeated_after seen ts) a → list_any (bytes_eq a) seen ≡ false
unseen seen [] a h = absurd h
unseen seen (t ∷ ts) a h = by_test (list_any (bytes_eq t) seen) refl (unseen seen ts a) (unseen (t ∷ seen) ts a) h
  where
    either_false : (x y : Bool) → (x || y) ≡ false → y ≡ false
    either_false true y e = absurd (cc)
    either_false false y e = e

    by_test : (b : Bool) → list_any (bytes_eq t) seen ≡ b → (Has (unrepeated_after seen ts) a → list_any (bytes_eq a) seen ≡ false) → (Has (unrepeated_after (t ∷ seen) ts) a → list_any (bytes_eq a) (t ∷ seen) ≡ false) →
        Has (if b then unrepeated_after seen ts else t ∷ unrepeated_after (t ∷ seen) ts) a → list_any (bytes_eq a) seen ≡ false
    by_test true e f g k = f k
    by_test false e f g (inl q) = subst (λ z. list_any (bytes_eq z) seen ≡ false) q e
    by_test false e f g (inr k) = either_false (bytes_eq a t) _ (g k)

unrepeated_apart_after : (seen ts : List Text) → AllApart (unrepeated_after seen ts)
unrepeated_apart_after seen [] = tt
unrepeated_apart_after seen (t ∷ ts) =
    by_if AllApart (list_any (bytes_eq t) seen) (unrepeated_after seen ts) (t ∷ unrepeated_after (t ∷ seen) ts) (unrepeated_apart_after seen ts)
    (λ h. (let e = unseen (t ∷ seen) ts t h in let f = any_has (t ∷ seen) t (inl refl) in let g : true ≡ false = sym f ∙ e in cc), unrepeated_apart_after (t ∷ seen) ts)

-- each text once
pub unrepeated_apart : (ts : List Text) → AllApart (unrepeated ts)
unrepeated_apart ts = unrepeated_apart_after [] ts

-- the texts without a code are without repeats where the texts are
pub without_apart : (book : Pairs) (ts : List Text) → AllApart ts → AllApart (without_code book ts)
without_apart book [] a = tt
without_apart book (t ∷ ts) a = by_if AllApart (is_some (code_of book t)) (without_code book ts) (t ∷ without_code book ts) (without_apart book ts a.1) (λ h. a.0 (without_from book ts t h).0, without_apart book ts a.1)

-- the texts of the pairs
pub texts_of : Pairs → List Text
texts_of book = map (λ p. p.0) book

codes_of : Pairs → List ℕ
codes_of book = map (λ p. p.1) book

-- each of them has a code
pub has_coded : (book : Pairs) (t : Text) → Has (texts_of book) t → code_of book t ≢ None
unfolding texts_of
has_coded [] t h n = h
has_coded (p ∷ book) t h n = by_head (texts_tell p.0 t) h (has_coded book t) n
  where
    by_head : Tells (bytes_eq p.0 t) (p.0 ≡ t) → (p.0 ≡ t) ⊎ Has (texts_of book) t → (Has (texts_of book) t → code_of book t ≢ None) → (if bytes_eq p.0 t then Some p.1 else code_of book t) ≡ None → ⊥
    by_head (inl q) h f k = let x : (if true then Some p.1 else code_of book t) ≡ None = rw q.0 at k in let y : Some p.1 ≡ None = x in cc
    by_head (inr q) (inl e) f k = q.1 e
    by_head (inr q) (inr r) f k = f r (let x : (if false then Some p.1 else code_of book t) ≡ None = rw q.0 at k in x)

-- and none stands twice
pub texts_apart : (book : Pairs) → IsPaired book → AllApart (texts_of book)
unfolding texts_of
texts_apart [] h = tt
texts_apart (p ∷ book) h = (λ q. has_coded book p.0 q h.0, texts_apart book h.2)

-- the test of a text in a list tells that it is there
pub any_from : (ts : List Text) (t : Text) → list_any (bytes_eq t) ts ≡ true → Has ts t
any_from [] t h = absurd (cc)
any_from (u ∷ ts) t h = ⊎_elim (λ e. inl e) (λ k. inr (any_from ts t k)) (any_cons t u ts h)

-- the texts of the pairs that a sweep leaves are among those that it keeps
pub kept_in : (ts : List Text) (book : Pairs) (t : Text) → Has (texts_of (keep ts book)) t → Has ts t
unfolding texts_of
kept_in ts [] t h = absurd h
kept_in ts (p ∷ book) t h = by_test (list_any (bytes_eq p.0) ts) refl (kept_in ts book t) h
  where
    by_test : (b : Bool) → list_any (bytes_eq p.0) ts ≡ b → (Has (texts_of (keep ts book)) t → Has ts t) → Has (texts_of (if b then p ∷ keep ts book else keep ts book)) t → Has ts t
    by_test true e f (inl q) = subst (Has ts) q (any_from ts p.0 e)
    by_test true e f (inr k) = f k
    by_test false e f k = f k

-- there are as many texts as pairs
pub length-texts : (book : Pairs) → length (texts_of book) ≡ length book
unfolding texts_of
length-texts [] = refl
length-texts (p ∷ book) = ap (λ (n : ℕ). suc n) (length-texts book)

length-codes : (book : Pairs) → length (codes_of book) ≡ length book
unfolding codes_of
length-codes [] = refl
length-codes (p ∷ book) = ap (λ (n : ℕ). suc n) (length-codes book)

given_code : (book : Pairs) (d : ℕ) → value_of book d ≢ None → list_any (eqb d) (codes_of book) ≡ true
unfolding codes_of
given_code [] d h = absurd (h refl)
given_code (p ∷ book) d h = by_head (eqb_tells d p.1) (eqb_tells p.1 d) h (given_code book d)
  where
    by_head : ((eqb d p.1 ≡ true) × (d ≡ p.1)) ⊎ ((eqb d p.1 ≡ false) × (d ≢ p.1)) → Tells (nat_eq p.1 d) (p.1 ≡ d) → (if nat_eq p.1 d then Some p.0 else value_of book d) ≢ None →
        (value_of book d ≢ None → list_any (eqb d) (codes_of book) ≡ true) → (eqb d p.1 || list_any (eqb d) (codes_of book)) ≡ true
    by_head (inl q) r n f = rw q.0 refl
    by_head (inr q) (inl r) n f = absurd (q.1 (sym r.1))
    by_head (inr q) (inr r) n f = rw q.0 (f (λ e. n (rw r.0 e)))

-- the least free code among the first n, if there is one
search_free : (book : Pairs) (n : ℕ) → ((d : ℕ) → d < n → value_of book d ≢ None) ⊎ ((c : ℕ) × (c < n) × IsLeastFree book c)
search_free book zero = inl (λ d p. absurd (omega arith))
search_free book (suc n) = by_case (search_free book n) (value_of book n) refl
  where
    by_case : ((d : ℕ) → d < n → value_of book d ≢ None) ⊎ ((c : ℕ) × (c < n) × IsLeastFree book c) → (o : Option Text) → value_of book n ≡ o →
        ((d : ℕ) → d < suc n → value_of book d ≢ None) ⊎ ((c : ℕ) × (c < suc n) × IsLeastFree book c)
    by_case (inr (c, p, l)) o e = inr (c, omega arith, l)
    by_case (inl all) None e = inr (n, omega arith, (e, all))
    by_case (inl all) (Some t) e = inl (λ d p. at d (cases_lt d n) p)
      where
        at : (d : ℕ) → (d < n) ⊎ (n ≤ d) → d < suc n → value_of book d ≢ None
        at d (inl q) p = all d q
        at d (inr q) p = let f : d ≡ n = omega arith in λ k. some_none (value_of book n) t e (subst (λ (j : ℕ). value_of book j ≡ None) f k)

-- there is a least free code, no greater than the number of pairs
pub least_free : (book : Pairs) → (c : ℕ) × (c ≤ length book) × IsLeastFree book c
least_free book = by_case (search_free book (length book + 1))
  where
    by_case : ((d : ℕ) → d < length book + 1 → value_of book d ≢ None) ⊎ ((c : ℕ) × (c < length book + 1) × IsLeastFree book c) → (c : ℕ) × (c ≤ length book) × IsLeastFree book c
    by_case (inr (c, p, l)) = (c, omega arith, l)
    by_case (inl all) =
        absurd (let h = le-length_from_below (codes_of book) (length book + 1) (λ q p. given_code book q (all q p)) in let e = length-codes book in omega arith)

still_new : (book : Pairs) (t u : Text) (c : ℕ) → t ≢ u → code_of book u ≡ None → code_of ((t, c) ∷ book) u ≡ None
still_new book t u c n h = by_test (texts_tell t u)
  where
    by_test : Tells (bytes_eq t u) (t ≡ u) → (if bytes_eq t u then Some c else code_of book u) ≡ None
    by_test (inl q) = absurd (n q.1)
    by_test (inr q) = rw q.0 h

-- where there are codes enough they can be given
pub gives_exist : (bits : ℕ) (ts : List Text) (book : Pairs) → AllApart ts → ((t : Text) → Has ts t → code_of book t ≡ None) → (1 ≤ length ts → length book + length ts ≤ 2 ^ bits - 1) → (after : Pairs) × Gives bits ts book after
gives_exist bits [] book a n l = (book, refl)
gives_exist bits (t ∷ ts) book a n l =
    let (c, p, free) = least_free book in
    let m = l (omega arith) in
    let (after, g) = gives_exist bits ts ((t, c) ∷ book) a.1 (λ u h. still_new book t u c (λ e. a.0 (subst (Has ts) (sym e) h)) (n u (inr h))) (λ q. omega arith) in
    (after, (c, n t (inl refl), free, omega arith, g))

-- where the codes suffice there is a next book
pub next_exists : (bits : ℕ) (pins told needed : List Text) (before : Pairs) → AllApart needed → IsPaired before → code_need pins told needed < 2 ^ bits → (after : Pairs) × IsNextBook bits pins told needed before after
next_exists bits pins told needed before a paired l = by_room (nat_lt (free_count bits before) (length new)) refl
  where
    new : List Text
    new = without_code before needed

    new_apart : AllApart new
    new_apart = without_apart before needed a

    -- the texts whose pairs a sweep keeps
    stays : List Text
    stays = pins ++ (told ++ needed)

    by_room : (b : Bool) → nat_lt (free_count bits before) (length new) ≡ b → (after : Pairs) × Gives bits new (if b then keep stays before else before) after
    by_room true e =
        let kept = keep stays before in
        let m = no_longer (texts_of kept ++ new) (unrepeated stays)
        (apart_append (texts_of kept) new (texts_apart kept (paired_kept stays before paired)) new_apart
        (λ t p q. has_coded kept t p (code_kept stays before t (without_from before needed t q).1)))
        (λ t p. unrepeated_has stays t (either_has kept t (has_cases (texts_of kept) new t p))) in
        let x = length-append (texts_of kept) new in
        let y = length-texts kept in
        gives_exist bits new kept new_apart (λ t q. code_kept stays before t (without_from before needed t q).1) (λ one. omega arith)
      where
        either_has : (kept : Pairs) (t : Text) → Has (texts_of (keep stays before)) t ⊎ Has new t → Has stays t
        either_has kept t (inl p) = kept_in stays before t p
        either_has kept t (inr q) = has_right pins (told ++ needed) t (has_right told needed t (without_from before needed t q).0)
    by_room false e =
        gives_exist bits new before new_apart (λ t q. (without_from before needed t q).1)
        (λ one. let h = ⊎_elim (λ p. absurd (let q = (Decides-ltb _ _).1 p in let r : true ≡ false = sym q ∙ e in cc)) (λ p. p) (cases_lt (free_count bits before) (length new)) in omega arith)

-- a text with a code is the text of a pair
pub code_has : (book : Pairs) (t : Text) → code_of book t ≢ None → Has (texts_of book) t
unfolding texts_of
code_has [] t h = h refl
code_has (p ∷ book) t h = by_head (texts_tell p.0 t) (code_has book t) h
  where
    by_head : Tells (bytes_eq p.0 t) (p.0 ≡ t) → (code_of book t ≢ None → Has (texts_of book) t) → (if bytes_eq p.0 t then Some p.1 else code_of book t) ≢ None → (p.0 ≡ t) ⊎ Has (texts_of book) t
    by_head (inl q) f n = inl q.1
    by_head (inr q) f n = inr (f (λ e. n (rw q.0 e)))

apart_codes : (book : Pairs) (c : ℕ) → value_of book c ≡ None → AllByRecursion (λ d. eqb c d ≡ false) (codes_of book)
unfolding codes_of
apart_codes [] c h = tt
apart_codes (p ∷ book) c h = by_head (eqb_tells c p.1) (eqb_tells p.1 c) h (apart_codes book c)
  where
    by_head : ((eqb c p.1 ≡ true) × (c ≡ p.1)) ⊎ ((eqb c p.1 ≡ false) × (c ≢ p.1)) → Tells (nat_eq p.1 c) (p.1 ≡ c) → (if nat_eq p.1 c then Some p.0 else value_of book c) ≡ None →
        (value_of book c ≡ None → AllByRecursion (λ d. eqb c d ≡ false) (codes_of book)) → (eqb c p.1 ≡ false) × AllByRecursion (λ d. eqb c d ≡ false) (codes_of book)
    by_head q (inl r) k f = let x : (if true then Some p.0 else value_of book c) ≡ None = rw r.0 at k in absurd (let y : Some p.0 ≡ None = x in cc)
    by_head (inl q) (inr r) k f = absurd (r.1 (sym q.1))
    by_head (inr q) (inr r) k f = (q.0, f (let x : (if false then Some p.0 else value_of book c) ≡ None = rw r.0 at k in x))

codes_distinct : (book : Pairs) → IsPaired book → IsDistinct eqb (codes_of book)
unfolding codes_of IsDistinct
codes_distinct [] h = tt
codes_distinct (p ∷ book) h = (apart_codes book p.1 h.1, codes_distinct book h.2)

code_given : (book : Pairs) (d : ℕ) → list_any (eqb d) (codes_of book) ≡ true → value_of book d ≢ None
unfolding codes_of
code_given [] d h = absurd (cc)
code_given (p ∷ book) d h = by_head (eqb_tells d p.1) (eqb_tells p.1 d) (code_given book d) h
  where
    by_head : ((eqb d p.1 ≡ true) × (d ≡ p.1)) ⊎ ((eqb d p.1 ≡ false) × (d ≢ p.1)) → Tells (nat_eq p.1 d) (p.1 ≡ d) → (list_any (eqb d) (codes_of book) ≡ true → value_of book d ≢ None) →
        (eqb d p.1 || list_any (eqb d) (codes_of book)) ≡ true → (if nat_eq p.1 d then Some p.0 else value_of book d) ≢ None
    by_head q (inl r) f k n = let x : (if true then Some p.0 else value_of book d) ≡ None = rw r.0 at n in let y : Some p.0 ≡ None = x in cc
    by_head (inl q) (inr r) f k n = r.1 (sym q.1)
    by_head (inr q) (inr r) f k n = f (let x : (false || list_any (eqb d) (codes_of book)) ≡ true = rw q.0 at k in x) (let x : (if false then Some p.0 else value_of book d) ≡ None = rw r.0 at n in x)

-- a book has at most 2^bits - 1 pairs
pub book_fits : (bits : ℕ) (book : Pairs) → IsPaired book → ((c : ℕ) (t : Text) → value_of book c ≡ Some t → c < 2 ^ bits - 1) → length book ≤ 2 ^ bits - 1
book_fits bits book paired below =
    let h = length-le_from_distinct_below (codes_of book) (2 ^ bits - 1) (codes_distinct book paired) (λ q e. by_value q (value_of book q) refl (code_given book q e)) in
    let e = length-codes book in
    omega arith
  where
    by_value : (q : ℕ) (o : Option Text) → value_of book q ≡ o → value_of book q ≢ None → q < 2 ^ bits - 1
    by_value q None e n = absurd (n e)
    by_value q (Some t) e n = below q t e

-- where there is a book that has each text that is pinned, told apart or needed, the codes suffice
pub need_fits : (bits : ℕ) (pins told needed : List Text) (book : Pairs) → IsPaired book → ((c : ℕ) (t : Text) → value_of book c ≡ Some t → c < 2 ^ bits - 1) →
    ((t : Text) → Has (pins ++ (told ++ needed)) t → code_of book t ≢ None) → code_need pins told needed ≤ 2 ^ bits - 1
need_fits bits pins told needed book paired below coded =
    let stays = pins ++ (told ++ needed) in
    let h = no_longer (unrepeated stays) (texts_of book) (unrepeated_apart stays) (λ t p. code_has book t (coded t (from_unrepeated [] stays t p))) in
    let e = length-texts book in
    let f = book_fits bits book paired below in
    omega arith
