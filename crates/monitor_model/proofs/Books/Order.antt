-- The order of a book's pairs doesn't matter.
use Rattle.std.proofs.Common.{◌≡◌, ℕ, inl, inr, refl, sym, ap, ◌∙◌, ◌↔◌, subst, arith, List, [], ◌∷◌, ◌++◌, length, Bool, true, false, Option, Some, None}
use Rattle.std.specs.Prelude.{if◌then◌else◌, bytes_eq, nat_lt}
use Rattle.std.specs.List.{list_any}
use Rattle.qtl_syntax.specs.Tree.{Text}
use Rattle.subformulas.specs.Texts.{Has}
use Rattle.value_codes.specs.Pairs.{Pairs, code_of, value_of, IsLeastFree, IsPaired, Adds}
use Rattle.code_reclaim.specs.Swept.{Keeps, kept_code}
use Rattle.value_codes.proofs.Lookups.{Tells, texts_tell, code_reads, reads_code}
use Rattle.monitor_model.specs.Books.{Gives, keep, without_code, free_count, with_room, IsNextBook}
use Rattle.monitor_model.specs.State.{SameCodes}
use Rattle.monitor_model.proofs.Books.Pairing.{any_has, paired_kept}
use Rattle.monitor_model.proofs.Drawing.Connectives.{alike}
use Rattle.monitor_model.proofs.Books.Room.{any_from, texts_of, no_longer, texts_apart, has_coded, code_has, length-texts}
use Rattle.monitor_model.proofs.Books.Exact.{least_once}

-- books with the same codes have the same values
pub same_values : (a b : Pairs) → IsPaired a → IsPaired b → SameCodes a b → (c : ℕ) → value_of a c ≡ value_of b c
same_values a b p q h c = by_value (value_of a c) (value_of b c) refl refl
  where
    by_value : (o u : Option Text) → value_of a c ≡ o → value_of b c ≡ u → o ≡ u
    by_value None None e f = refl
    by_value (Some t) u e f = sym (code_reads b t c q (sym (h t) ∙ reads_code a t c p e)) ∙ f
    by_value None (Some t) e f = sym e ∙ code_reads a t c p (h t ∙ reads_code b t c q f)

-- and as many pairs
pub same_length : (a b : Pairs) → IsPaired a → IsPaired b → SameCodes a b → length a ≡ length b
same_length a b p q h =
    let x = no_longer (texts_of a) (texts_of b) (texts_apart a p) (λ t k. code_has b t (λ e. has_coded a t k (h t ∙ e))) in
    let y = no_longer (texts_of b) (texts_of a) (texts_apart b q) (λ t k. code_has a t (λ e. has_coded b t k (sym (h t) ∙ e))) in
    let u = length-texts a in
    let v = length-texts b in
    omega arith

-- the same texts have no code in them
pub same_without : (a b : Pairs) (ts : List Text) → SameCodes a b → without_code a ts ≡ without_code b ts
same_without a b [] h = refl
same_without a b (t ∷ ts) h = rw (h t, same_without a b ts h) refl

either_way : (b : Bool) (o : Option ℕ) → o ≡ (if b then o else o)
either_way true o = refl
either_way false o = refl

-- the code of a text after a sweep
pub code_kept_of : (ts : List Text) (book : Pairs) (t : Text) → code_of (keep ts book) t ≡ (if list_any (bytes_eq t) ts then code_of book t else None)
code_kept_of ts [] t = either_way (list_any (bytes_eq t) ts) None
code_kept_of ts (p ∷ book) t = by_head (texts_tell p.0 t) (list_any (bytes_eq p.0) ts) refl (list_any (bytes_eq t) ts) refl (code_kept_of ts book t)
  where
    by_head : Tells (bytes_eq p.0 t) (p.0 ≡ t) → (b : Bool) → list_any (bytes_eq p.0) ts ≡ b → (d : Bool) → list_any (bytes_eq t) ts ≡ d → code_of (keep ts book) t ≡ (if list_any (bytes_eq t) ts then code_of book t else None) →
        code_of (if b then p ∷ keep ts book else keep ts book) t ≡ (if d then (if bytes_eq p.0 t then Some p.1 else code_of book t) else None)
    by_head (inl q) true e true f h = rw q.0 refl
    by_head (inl q) false e false f h = rw f at h
    by_head (inl q) true e false f h = absurd (let x : list_any (bytes_eq t) ts ≡ true = subst (λ z. list_any (bytes_eq z) ts ≡ true) q.1 e in let y : true ≡ false = sym x ∙ f in cc)
    by_head (inl q) false e true f h = absurd (let x : list_any (bytes_eq t) ts ≡ false = subst (λ z. list_any (bytes_eq z) ts ≡ false) q.1 e in let y : true ≡ false = sym f ∙ x in cc)
    by_head (inr q) true e true f h = rw q.0 (rw f at h)
    by_head (inr q) true e false f h = rw q.0 (rw f at h)
    by_head (inr q) false e true f h = rw q.0 (rw f at h)
    by_head (inr q) false e false f h = rw f at h

-- what a sweep leaves of them has the same codes
pub same_kept : (ts : List Text) (a b : Pairs) → SameCodes a b → SameCodes (keep ts a) (keep ts b)
same_kept ts a b h t = code_kept_of ts a t ∙ (ap (λ o. if list_any (bytes_eq t) ts then o else None) (h t) ∙ sym (code_kept_of ts b t))

-- and so has what they are after codes are given
same_gives : (bits : ℕ) (ts : List Text) (a b a' b' : Pairs) → IsPaired a → IsPaired b → SameCodes a b → Gives bits ts a a' → Gives bits ts b b' → SameCodes a' b'
same_gives bits [] a b a' b' p q h g k t = ap (λ z. code_of z t) g ∙ (h t ∙ sym (ap (λ z. code_of z t) k))
same_gives bits (u ∷ ts) a b a' b' p q h (c, n, l, m, g) (d, n', l', m', k) t =
    let values = same_values a b p q h in
    let e : c ≡ d = least_once b c d (sym (values c) ∙ l.0, λ j x y. l.1 j x (values j ∙ y)) l' in
    same_gives bits ts ((u, c) ∷ a) ((u, d) ∷ b) a' b' (n, l.0, p) (n', l'.0, q) (λ s. both_cases s e (texts_tell u s)) g k t
  where
    both_cases : (s : Text) → c ≡ d → Tells (bytes_eq u s) (u ≡ s) → code_of ((u, c) ∷ a) s ≡ code_of ((u, d) ∷ b) s
    both_cases s e (inl r) = rw r.0 (ap (λ (j : ℕ). Some j) e)
    both_cases s e (inr r) = rw r.0 (h s)

-- and so has what there is before codes are given
same_room : (bits : ℕ) (pins told needed : List Text) (a b : Pairs) → IsPaired a → IsPaired b →
    SameCodes a b →
    SameCodes (with_room bits pins told needed a) (with_room bits pins told needed b) ×
    IsPaired (with_room bits pins told needed a) × IsPaired (with_room bits pins told needed b)
same_room bits pins told needed a b p q h =
    by_test (nat_lt (free_count bits a) (length (without_code a needed)))
    (nat_lt (free_count bits b) (length (without_code b needed)))
    (rw (same_length a b p q h, same_without a b needed h) refl)
  where
    stays : List Text
    stays = pins ++ (told ++ needed)

    by_test : (v w : Bool) → v ≡ w →
        SameCodes (if v then keep stays a else a) (if w then keep stays b else b) ×
        IsPaired (if v then keep stays a else a) × IsPaired (if w then keep stays b else b)
    by_test true true e = (same_kept stays a b h, paired_kept stays a p, paired_kept stays b q)
    by_test false false e = (h, p, q)
    by_test true false e = absurd (cc)
    by_test false true e = absurd (cc)

-- books with the same codes have next books with the same codes
pub order_free : (bits : ℕ) (pins told needed : List Text) (a b a' b' : Pairs) → IsPaired a →
    IsPaired b → SameCodes a b → IsNextBook bits pins told needed a a' →
    IsNextBook bits pins told needed b b' → SameCodes a' b'
order_free bits pins told needed a b a' b' p q h g k =
    let r = same_room bits pins told needed a b p q h in
    same_gives bits (without_code a needed) _ _ a' b' r.1 r.2 r.0 g
    (subst (λ ts. Gives bits ts (with_room bits pins told needed b) b')
    (sym (same_without a b needed h)) k)

-- the pair that is added
pub added_same : (pairs book after : Pairs) (t : Text) (c : ℕ) → SameCodes pairs book → Adds pairs t c after → SameCodes after ((t, c) ∷ book)
added_same pairs book after t c h a u = a.codes u ∙ ap (λ o. if bytes_eq t u then Some c else o) (h u)

-- the pairs that a sweep leaves, where it keeps the codes of the texts that stay
pub kept_same : (stays : List Text) (pairs book after : Pairs) (kept : ℕ → Bool) →
    SameCodes pairs book → Keeps kept pairs after →
    ((t : Text) (c : ℕ) → code_of book t ≡ Some c → (kept c ≡ true) ↔ Has stays t) →
    SameCodes after (keep stays book)
kept_same stays pairs book after kept h k same t =
    k.codes t ∙
    (ap (kept_code kept) (h t) ∙ (by_code (code_of book t) refl ∙ sym (code_kept_of stays book t)))
  where
    by_code : (o : Option ℕ) → code_of book t ≡ o →
        kept_code kept o ≡ (if list_any (bytes_eq t) stays then o else None)
    by_code None e = either_way (list_any (bytes_eq t) stays) None
    by_code (Some c) e =
        ap (λ b. if b then Some c else None)
        (alike (kept c) (list_any (bytes_eq t) stays)
        (λ p. any_has stays t ((same t c e).0 p), λ p. (same t c e).1 (any_from stays t p)))

-- what a code's book takes over from the definition's: the least free code, and the pair that is given
pub same_least : (a b : Pairs) (c : ℕ) → IsPaired a → IsPaired b → SameCodes a b → IsLeastFree a c → IsLeastFree b c
same_least a b c p q h l = let values = same_values a b p q h in (sym (values c) ∙ l.0, λ d x y. l.1 d x (values d ∙ y))

-- the same pair gives books with the same codes the same codes
pub same_give : (a b a' : Pairs) (t : Text) (c : ℕ) → SameCodes a b → SameCodes a' ((t, c) ∷ a) → SameCodes a' ((t, c) ∷ b)
same_give a b a' t c h k s = k s ∙ by_test (texts_tell t s)
  where
    by_test : Tells (bytes_eq t s) (t ≡ s) → code_of ((t, c) ∷ a) s ≡ code_of ((t, c) ∷ b) s
    by_test (inl r) = rw r.0 refl
    by_test (inr r) = rw r.0 (h s)
