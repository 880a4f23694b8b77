-- What a sweep and the giving of codes leave of pairs.
use Rattle.std.proofs.Common.{◌≡◌, ◌≢◌, ℕ, ◌-◌, ◌^◌, ◌<◌, ◌⊎◌, inl, inr, sym, ◌∙◌, refl, subst, arith, List, [], ◌∷◌, Bool, true, false, ◌||◌, Option, Some, None}
use Rattle.std.specs.Prelude.{nat_eq, if◌then◌else◌, bytes_eq, is_some}
use Rattle.std.specs.List.{list_any}
use Rattle.std.proofs.lemmas.Bool.Decides.{eqb_tells}
use Rattle.qtl_syntax.specs.Tree.{Text}
use Rattle.subformulas.specs.Texts.{Has, Selects}
use Rattle.value_codes.specs.Pairs.{Pairs, code_of, value_of, IsPaired}
use Rattle.value_codes.proofs.Lookups.{Tells, texts_tell, some_none}
use Rattle.monitor_model.specs.Books.{Gives, keep, without_code}

-- the test of a text in a list
pub any_has : (ts : List Text) (t : Text) → Has ts t → list_any (bytes_eq t) ts ≡ true
any_has [] t h = absurd h
any_has (u ∷ ts) t h = by_head (texts_tell t u) h (any_has ts t)
  where
    by_head : Tells (bytes_eq t u) (t ≡ u) → (u ≡ t) ⊎ Has ts t → (Has ts t → list_any (bytes_eq t) ts ≡ true) → (bytes_eq t u || list_any (bytes_eq t) ts) ≡ true
    by_head (inl p) k f = rw p.0 refl
    by_head (inr p) (inl e) f = absurd (p.1 (sym e))
    by_head (inr p) (inr k) f = rw p.0 (f k)

value_head : (p : Text × ℕ) (book book' : Pairs) (c : ℕ) → Tells (nat_eq p.1 c) (p.1 ≡ c) → (value_of book c ≡ None → value_of book' c ≡ None) → value_of (p ∷ book) c ≡ None → (value_of (p ∷ book') c ≡ None) × (value_of book' c ≡ None)
value_head p book book' c (inl q) f h = let g : Some p.0 ≡ None = (let k : (if true then Some p.0 else value_of book c) ≡ None = rw q.0 at h in k) in absurd (cc)
value_head p book book' c (inr q) f h = let k : (if false then Some p.0 else value_of book c) ≡ None = rw q.0 at h in (rw q.0 (f k), f k)

code_head : (p : Text × ℕ) (book book' : Pairs) (t : Text) → Tells (bytes_eq p.0 t) (p.0 ≡ t) → (code_of book t ≡ None → code_of book' t ≡ None) → code_of (p ∷ book) t ≡ None → (code_of (p ∷ book') t ≡ None) × (code_of book' t ≡ None)
code_head p book book' t (inl q) f h = let g : Some p.1 ≡ None = (let k : (if true then Some p.1 else code_of book t) ≡ None = rw q.0 at h in k) in absurd (cc)
code_head p book book' t (inr q) f h = let k : (if false then Some p.1 else code_of book t) ≡ None = rw q.0 at h in (rw q.0 (f k), f k)

-- what holds of both holds of the one that is chosen
pub by_if : {A : Type 0} (P : A → Type 0) (b : Bool) (x y : A) → P x → P y → P (if b then x else y)
by_if P true x y p q = p
by_if P false x y p q = q

module _ (ts : List Text) where
  value_kept : (book : Pairs) (c : ℕ) → value_of book c ≡ None → value_of (keep ts book) c ≡ None
  value_kept [] c h = h
  value_kept (p ∷ book) c h =
      let k = value_head p book (keep ts book) c (eqb_tells p.1 c) (value_kept book c) h in
      by_if (λ b. value_of b c ≡ None) (list_any (bytes_eq p.0) ts) (p ∷ keep ts book) (keep ts book) k.0 k.1

  -- a text without a code has none after a sweep
  pub code_kept : (book : Pairs) (t : Text) → code_of book t ≡ None → code_of (keep ts book) t ≡ None
  code_kept [] t h = h
  code_kept (p ∷ book) t h =
      let k = code_head p book (keep ts book) t (texts_tell p.0 t) (code_kept book t) h in
      by_if (λ b. code_of b t ≡ None) (list_any (bytes_eq p.0) ts) (p ∷ keep ts book) (keep ts book) k.0 k.1

  -- a sweep leaves no text and no code twice
  pub paired_kept : (book : Pairs) → IsPaired book → IsPaired (keep ts book)
  paired_kept [] h = h
  paired_kept (p ∷ book) h =
      let k = paired_kept book h.2 in
      by_if IsPaired (list_any (bytes_eq p.0) ts) (p ∷ keep ts book) (keep ts book) (code_kept book p.0 h.0, value_kept book p.1 h.1, k) k

  -- what a sweep does to a code: nothing, or its pair goes
  abbrev pub Swept : Option Text → Option Text → Type 0
  Swept o o' = (o' ≡ o) ⊎ ((t : Text) × (o ≡ Some t) × (o' ≡ None) × (list_any (bytes_eq t) ts ≡ false))

  other_value : (p : Text × ℕ) (book : Pairs) (c : ℕ) → nat_eq p.1 c ≡ false → value_of (p ∷ book) c ≡ value_of book c
  other_value p book c f = rw f refl

  swept_head : (p : Text × ℕ) (book : Pairs) (c : ℕ) → value_of (keep ts book) p.1 ≡ None → Swept (value_of book c) (value_of (keep ts book) c) →
      Tells (nat_eq p.1 c) (p.1 ≡ c) → (b : Bool) → list_any (bytes_eq p.0) ts ≡ b → Swept (value_of (p ∷ book) c) (value_of (if b then p ∷ keep ts book else keep ts book) c)
  swept_head p book c n h (inl q) true e = inl (rw q.0 refl)
  swept_head p book c n h (inr q) true e =
      subst (λ o. Swept o (value_of (p ∷ keep ts book) c)) (sym (other_value p book c q.0)) (subst (λ o. Swept (value_of book c) o) (sym (other_value p (keep ts book) c q.0)) h)
  swept_head p book c n h (inl q) false e = inr (p.0, rw q.0 refl, subst (λ (d : ℕ). value_of (keep ts book) d ≡ None) q.1 n, e)
  swept_head p book c n h (inr q) false e = subst (λ o. Swept o (value_of (keep ts book) c)) (sym (other_value p book c q.0)) h

  -- each code is as before, or its pair goes
  pub swept : (book : Pairs) (c : ℕ) → IsPaired book → Swept (value_of book c) (value_of (keep ts book) c)
  swept [] c h = inl refl
  swept (p ∷ book) c h = swept_head p book c (value_kept book p.1 h.1) (swept book c h.2) (eqb_tells p.1 c) (list_any (bytes_eq p.0) ts) refl

  -- a text that is kept and has no code afterwards had none
  pub code_back : (book : Pairs) (t : Text) → list_any (bytes_eq t) ts ≡ true → code_of (keep ts book) t ≡ None → code_of book t ≡ None
  code_back [] t k h = h
  code_back (p ∷ book) t k h = by_head (texts_tell p.0 t) (list_any (bytes_eq p.0) ts) refl (code_back book t k) h
    where
      by_head : Tells (bytes_eq p.0 t) (p.0 ≡ t) → (b : Bool) → list_any (bytes_eq p.0) ts ≡ b → (code_of (keep ts book) t ≡ None → code_of book t ≡ None) →
          code_of (if b then p ∷ keep ts book else keep ts book) t ≡ None → (if bytes_eq p.0 t then Some p.1 else code_of book t) ≡ None
      by_head (inl q) true e f g = let x : (if true then Some p.1 else code_of (keep ts book) t) ≡ None = rw q.0 at g in absurd (let y : Some p.1 ≡ None = x in cc)
      by_head (inl q) false e f g = absurd (let x : list_any (bytes_eq t) ts ≡ false = subst (λ z. list_any (bytes_eq z) ts ≡ false) q.1 e in let y : true ≡ false = sym k ∙ x in cc)
      by_head (inr q) true e f g = let x : (if false then Some p.1 else code_of (keep ts book) t) ≡ None = rw q.0 at g in rw q.0 (f x)
      by_head (inr q) false e f g = rw q.0 (f g)

-- a text without a code after the giving had none before it
pub gives_code : (bits : ℕ) (ts : List Text) (book after : Pairs) → Gives bits ts book after → (t : Text) → code_of after t ≡ None → code_of book t ≡ None
gives_code bits [] book after g t h = subst (λ b. code_of b t ≡ None) g h
gives_code bits (u ∷ ts) book after (c, n, l, m, g) t h =
    (code_head (u, c) book book t (texts_tell u t) (λ k. k) (gives_code bits ts ((u, c) ∷ book) after g t h)).1

-- each text to which codes are given has one
pub gives_all : (bits : ℕ) (ts : List Text) (book after : Pairs) → Gives bits ts book after → (t : Text) → Has ts t → code_of after t ≢ None
gives_all bits [] book after g t p h = p
gives_all bits (u ∷ ts) book after (c, n, l, m, g) t (inl e) h = by_test (texts_tell u t) (gives_code bits ts ((u, c) ∷ book) after g t h)
  where
    by_test : Tells (bytes_eq u t) (u ≡ t) → (if bytes_eq u t then Some c else code_of book t) ≡ None → ⊥
    by_test (inl q) k = let x : (if true then Some c else code_of book t) ≡ None = rw q.0 at k in let y : Some c ≡ None = x in cc
    by_test (inr q) k = q.1 e
gives_all bits (u ∷ ts) book after (c, n, l, m, g) t (inr p) h = gives_all bits ts ((u, c) ∷ book) after g t p h

-- pairs stay pairs
pub gives_paired : (bits : ℕ) (ts : List Text) (book after : Pairs) → Gives bits ts book after → IsPaired book → IsPaired after
gives_paired bits [] book after g p = subst IsPaired (sym g) p
gives_paired bits (u ∷ ts) book after (c, n, l, m, g) p = gives_paired bits ts ((u, c) ∷ book) after g (n, l.0, p)

-- what holds of each pair
abbrev pub EachPair : (ℕ → Text → Type 0) → Pairs → Type 0
EachPair P book = (c : ℕ) (t : Text) → value_of book c ≡ Some t → P c t

-- the code of all ones isn't given
pub ones_free : (bits : ℕ) (book : Pairs) → EachPair (λ c t. c < 2 ^ bits - 1) book → value_of book (2 ^ bits - 1) ≡ None
ones_free bits book below = by_value (value_of book (2 ^ bits - 1)) refl
  where
    by_value : (o : Option Text) → value_of book (2 ^ bits - 1) ≡ o → o ≡ None
    by_value None e = refl
    by_value (Some t) e = absurd (let h = below (2 ^ bits - 1) t e in omega arith)

-- what holds of each pair before, and of each that is given, holds of each after
pub gives_each : (P : ℕ → Text → Type 0) (bits : ℕ) (ts : List Text) (book after : Pairs) → Gives bits ts book after → EachPair P book → ((c : ℕ) (t : Text) → c < 2 ^ bits - 1 → Has ts t → P c t) → EachPair P after
gives_each P bits [] book after g p new = subst (EachPair P) (sym g) p
gives_each P bits (u ∷ ts) book after (c, n, l, m, g) p new =
    gives_each P bits ts ((u, c) ∷ book) after g (λ d t. by_test d t (eqb_tells c d)) (λ d t q h. new d t q (inr h))
  where
    by_test : (d : ℕ) (t : Text) → Tells (nat_eq c d) (c ≡ d) → (if nat_eq c d then Some u else value_of book d) ≡ Some t → P d t
    by_test d t (inl q) k =
        let x : (if true then Some u else value_of book d) ≡ Some t = rw q.0 at k in
        let y : Some u ≡ Some t = x in
        let z : u ≡ t = cc in
        new d t (subst (λ (j : ℕ). j < 2 ^ bits - 1) q.1 m) (inl z)
    by_test d t (inr q) k = p d t (let x : (if false then Some u else value_of book d) ≡ Some t = rw q.0 at k in x)

-- a text of the list that has no code is among those without one
pub without_has : (book : Pairs) (ts : List Text) (t : Text) → Has ts t → code_of book t ≡ None → Has (without_code book ts) t
without_has book [] t h n = h
without_has book (u ∷ ts) t h n = by_test (code_of book u) refl h (λ k. without_has book ts t k n)
  where
    by_test : (o : Option ℕ) → code_of book u ≡ o → (u ≡ t) ⊎ Has ts t → (Has ts t → Has (without_code book ts) t) → Has (if is_some o then without_code book ts else u ∷ without_code book ts) t
    by_test None e (inl p) f = inl p
    by_test None e (inr k) f = inr (f k)
    by_test (Some c) e (inl p) f = some_none (code_of book t) c (subst (λ z. code_of book z ≡ Some c) p e) n
    by_test (Some c) e (inr k) f = f k

-- and those without one are texts of the list that have none
pub without_from : (book : Pairs) (ts : List Text) (t : Text) → Has (without_code book ts) t → Has ts t × (code_of book t ≡ None)
without_from book [] t h = absurd h
without_from book (u ∷ ts) t h = by_test (code_of book u) refl (without_from book ts t) h
  where
    by_test : (o : Option ℕ) → code_of book u ≡ o → (Has (without_code book ts) t → Has ts t × (code_of book t ≡ None)) → Has (if is_some o then without_code book ts else u ∷ without_code book ts) t → ((u ≡ t) ⊎ Has ts t) × (code_of book t ≡ None)
    by_test None e f (inl p) = (inl p, subst (λ z. code_of book z ≡ None) p e)
    by_test None e f (inr k) = let x = f k in (inr x.0, x.1)
    by_test (Some c) e f k = let x = f k in (inr x.0, x.1)

-- a text of the list of which the claim holds is selected
pub selects : (P : Text → Type 0) (xs ys : List Text) → Selects P xs ys → (t : Text) → P t → Has xs t → Has ys t
selects P [] ys s t p h = absurd h
selects P (x ∷ xs) ys (inl (q, rest, e, s)) t p (inl f) = subst (λ zs. Has zs t) (sym e) (inl f)
selects P (x ∷ xs) ys (inl (q, rest, e, s)) t p (inr h) = subst (λ zs. Has zs t) (sym e) (inr (selects P xs rest s t p h))
selects P (x ∷ xs) ys (inr (n, s)) t p (inl f) = absurd (n (subst P (sym f) p))
selects P (x ∷ xs) ys (inr (n, s)) t p (inr h) = selects P xs ys s t p h
