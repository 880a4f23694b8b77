-- Look-ups in pairs: by the place of a pair, and from one side to the other.
use Rattle.std.proofs.Common.{◌≡◌, ℕ, zero, suc, ◌⊎◌, inl, inr, ⊎_elim, refl, sym, ap, ◌∙◌, subst, arith, [], ◌∷◌, map, Bool, true, false, Option, Some, None}
use Rattle.std.specs.Prelude.{nat_eq, if◌then◌else◌, bytes_eq, slice_get}
use Rattle.std.specs.List.{IsDistinct, AllByRecursion}
use Rattle.std.specs.Map.{lookup}
use Rattle.std.specs.Cmp.Lexicographic.{pointwise, nat_list_eq_equiv}
use Rattle.std.proofs.lemmas.Bool.{cases_Bool}
use Rattle.std.proofs.lemmas.Bool.Decides.{eqb_tells, not_from_Decides}
use Rattle.std.proofs.lemmas.Slice.Eq.{bytes_eq-Decides}
use Rattle.qtl_syntax.specs.Tree.{Text}
use Rattle.value_codes.specs.Pairs.{Pairs, code_of, value_of, IsPaired}

-- the test says whether the fact holds
abbrev pub Tells : Bool → Type 0 → Type 0
Tells b P = ((b ≡ true) × P) ⊎ ((b ≡ false) × ¬ P)

pub texts_tell : (s t : Text) → Tells (bytes_eq s t) (s ≡ t)
texts_tell s t = ⊎_elim (λ e. inl (e, (bytes_eq-Decides s t).0 e)) (λ e. inr (e, not_from_Decides _ (bytes_eq-Decides s t) e)) (cases_Bool (bytes_eq s t))

pub some_none : {A B : Type 0} (o : Option A) (a : A) → o ≡ Some a → o ≡ None → B
some_none o a p q = let e : Some a ≡ None = sym p ∙ q in cc

-- a look-up in a map of the kit
pub code_lookup : (pairs : Pairs) (t : Text) → lookup (pointwise nat_eq t) pairs ≡ code_of pairs t
code_lookup [] t = refl
code_lookup (p ∷ pairs) t = rw (nat_list_eq_equiv.symm t p.0, code_lookup pairs t) refl

-- where no text and no code stands twice, the code of a text reads as the text
pub code_reads : (pairs : Pairs) (t : Text) (c : ℕ) → IsPaired pairs → code_of pairs t ≡ Some c → value_of pairs c ≡ Some t
code_reads [] t c h e = absurd (let f : None ≡ Some c = e in cc)
code_reads (p ∷ pairs) t c h e = by_head (texts_tell p.0 t) (eqb_tells p.1 c) (code_reads pairs t c h.2) e
  where
    by_head : Tells (bytes_eq p.0 t) (p.0 ≡ t) → Tells (nat_eq p.1 c) (p.1 ≡ c) → (code_of pairs t ≡ Some c → value_of pairs c ≡ Some t) →
        (if bytes_eq p.0 t then Some p.1 else code_of pairs t) ≡ Some c → (if nat_eq p.1 c then Some p.0 else value_of pairs c) ≡ Some t
    by_head (inl q) (inl r) f k = rw r.0 (ap (λ z. Some z) q.1)
    by_head (inl q) (inr r) f k = let x : (if true then Some p.1 else code_of pairs t) ≡ Some c = rw q.0 at k in absurd (r.1 (let y : Some p.1 ≡ Some c = x in cc))
    by_head (inr q) (inl r) f k =
        let x : (if false then Some p.1 else code_of pairs t) ≡ Some c = rw q.0 at k in
        some_none (value_of pairs c) t (f x) (subst (λ (j : ℕ). value_of pairs j ≡ None) r.1 h.1)
    by_head (inr q) (inr r) f k = let x : (if false then Some p.1 else code_of pairs t) ≡ Some c = rw q.0 at k in rw r.0 (f x)

-- and back
pub reads_code : (pairs : Pairs) (t : Text) (c : ℕ) → IsPaired pairs → value_of pairs c ≡ Some t → code_of pairs t ≡ Some c
reads_code [] t c h e = absurd (let f : None ≡ Some t = e in cc)
reads_code (p ∷ pairs) t c h e = by_head (texts_tell p.0 t) (eqb_tells p.1 c) (reads_code pairs t c h.2) e
  where
    by_head : Tells (bytes_eq p.0 t) (p.0 ≡ t) → Tells (nat_eq p.1 c) (p.1 ≡ c) → (value_of pairs c ≡ Some t → code_of pairs t ≡ Some c) →
        (if nat_eq p.1 c then Some p.0 else value_of pairs c) ≡ Some t → (if bytes_eq p.0 t then Some p.1 else code_of pairs t) ≡ Some c
    by_head (inl q) (inl r) f k = rw q.0 (ap (λ (z : ℕ). Some z) r.1)
    by_head (inr q) (inl r) f k = let x : (if true then Some p.0 else value_of pairs c) ≡ Some t = rw r.0 at k in absurd (q.1 (let y : Some p.0 ≡ Some t = x in cc))
    by_head (inl q) (inr r) f k =
        let x : (if false then Some p.0 else value_of pairs c) ≡ Some t = rw r.0 at k in
        some_none (code_of pairs t) c (f x) (subst (λ z. code_of pairs z ≡ None) q.1 h.0)
    by_head (inr q) (inr r) f k = let x : (if false then Some p.0 else value_of pairs c) ≡ Some t = rw r.0 at k in rw q.0 (f x)

-- a code that is found stands at some place
pub value_place : (pairs : Pairs) (c : ℕ) (t : Text) → value_of pairs c ≡ Some t → (i : ℕ) × (slice_get pairs i ≡ Some (t, c))
value_place [] c t e = absurd (let f : None ≡ Some t = e in cc)
value_place (p ∷ pairs) c t e = by_head (eqb_tells p.1 c) (value_place pairs c t) e
  where
    by_head : Tells (nat_eq p.1 c) (p.1 ≡ c) → (value_of pairs c ≡ Some t → (i : ℕ) × (slice_get pairs i ≡ Some (t, c))) →
        (if nat_eq p.1 c then Some p.0 else value_of pairs c) ≡ Some t → (i : ℕ) × (slice_get (p ∷ pairs) i ≡ Some (t, c))
    by_head (inl q) f k =
        let x : (if true then Some p.0 else value_of pairs c) ≡ Some t = rw q.0 at k in
        let y : p.0 ≡ t = (let z : Some p.0 ≡ Some t = x in cc) in
        (0, λ i. Some (y i, q.1 i))
    by_head (inr q) f k =
        let x : (if false then Some p.0 else value_of pairs c) ≡ Some t = rw q.0 at k in
        let r = f x in
        (suc r.0, r.1)

-- no code stands at two places
abbrev pub AreApart : Pairs → Type 0
AreApart pairs = (i j : ℕ) (t u : Text) (c : ℕ) → slice_get pairs i ≡ Some (t, c) → slice_get pairs j ≡ Some (u, c) → i ≡ j

-- the code at a place is found there
pub value_there : (pairs : Pairs) (i : ℕ) (t : Text) (c : ℕ) → AreApart pairs → slice_get pairs i ≡ Some (t, c) → value_of pairs c ≡ Some t
value_there [] i t c apart e = absurd (let f : None ≡ Some (t, c) = e in cc)
value_there (p ∷ pairs) zero t c apart e =
    let f : Some p ≡ Some (t, c) = e in
    let x : p ≡ (t, c) = cc in
    let y : p.1 ≡ c = ap (λ q. q.1) x in
    let z : p.0 ≡ t = ap (λ q. q.0) x in
    by_head (eqb_tells p.1 c) y z
  where
    by_head : Tells (nat_eq p.1 c) (p.1 ≡ c) → p.1 ≡ c → p.0 ≡ t → (if nat_eq p.1 c then Some p.0 else value_of pairs c) ≡ Some t
    by_head (inl q) y z = rw q.0 (ap (λ w. Some w) z)
    by_head (inr q) y z = absurd (q.1 y)
value_there (p ∷ pairs) (suc i) t c apart e =
    by_head (eqb_tells p.1 c) (value_there pairs i t c (λ j k u v d a b. let s = apart (suc j) (suc k) u v d a b in omega arith) e)
  where
    by_head : Tells (nat_eq p.1 c) (p.1 ≡ c) → value_of pairs c ≡ Some t → (if nat_eq p.1 c then Some p.0 else value_of pairs c) ≡ Some t
    by_head (inl q) r =
        let x : slice_get (p ∷ pairs) 0 ≡ Some (p.0, c) = (λ k. Some (p.0, q.1 k)) in
        let s : zero ≡ suc i = apart 0 (suc i) p.0 t c x e in
        absurd (omega arith)
    by_head (inr q) r = rw q.0 r

-- a code that stands nowhere isn't found
pub value_nowhere : (pairs : Pairs) (c : ℕ) → ((i : ℕ) (t : Text) → slice_get pairs i ≡ Some (t, c) → ⊥) → value_of pairs c ≡ None
value_nowhere pairs c never = by_value (value_of pairs c) refl
  where
    by_value : (o : Option Text) → value_of pairs c ≡ o → o ≡ None
    by_value None e = refl
    by_value (Some t) e = let r = value_place pairs c t e in absurd (never r.0 t r.1)

-- texts with no two equal, and codes at one place each
pub paired_pairs : (pairs : Pairs) → IsDistinct (pointwise nat_eq) (map (λ p. p.0) pairs) → AreApart pairs → IsPaired pairs
unfolding IsDistinct
paired_pairs [] texts apart = tt
paired_pairs (p ∷ pairs) texts apart = (
  head_code pairs texts.0,
  value_nowhere pairs p.1 (λ i t e. let s : zero ≡ suc i = apart 0 (suc i) p.0 t p.1 refl e in omega arith),
  paired_pairs pairs texts.1 (λ j k u v d a b. let s = apart (suc j) (suc k) u v d a b in omega arith),
)
  where
    head_code : (rest : Pairs) → AllByRecursion (λ y. pointwise nat_eq p.0 y ≡ false) (map (λ q. q.0) rest) → code_of rest p.0 ≡ None
    head_code [] h = refl
    head_code (q ∷ rest) h = rw (nat_list_eq_equiv.symm q.0 p.0, h.0) (head_code rest h.1)

-- where a text changed its code from one list to the next, and no other did, the values changed with it
module _ (before after : Pairs) (p : IsPaired before) (q : IsPaired after) (t : Text) (o : Option ℕ)
    (codes : (u : Text) → code_of after u ≡ (if bytes_eq t u then o else code_of before u)) where
  code_now : code_of after t ≡ o
  code_now = codes t ∙ rw (nat_list_eq_equiv.refl t) refl

  code_kept : (u : Text) → ¬ (t ≡ u) → code_of after u ≡ code_of before u
  code_kept u never = by_text (texts_tell t u) (codes u)
    where
      by_text : Tells (bytes_eq t u) (t ≡ u) → code_of after u ≡ (if bytes_eq t u then o else code_of before u) → code_of after u ≡ code_of before u
      by_text (inl x) k = absurd (never x.1)
      by_text (inr x) k = let y : code_of after u ≡ (if false then o else code_of before u) = rw x.0 at k in y

  -- a value that is another text's in both lists is the same
  value_kept : (d : ℕ) → (code_of before t ≡ Some d → ⊥) → (code_of after t ≡ Some d → ⊥) → value_of after d ≡ value_of before d
  value_kept d was is = by_values (value_of after d) (value_of before d) refl refl
    where
      other : (u : Text) → (pairs : Pairs) → code_of pairs u ≡ Some d → (code_of pairs t ≡ Some d → ⊥) → ¬ (t ≡ u)
      other u pairs h never e = never (subst (λ z. code_of pairs z ≡ Some d) (sym e) h)

      by_values : (r s : Option Text) → value_of after d ≡ r → value_of before d ≡ s → r ≡ s
      by_values None None e f = refl
      by_values (Some u) s e f =
          let h = reads_code after u d q e in
          sym (code_reads before u d p (sym (code_kept u (other u after h is)) ∙ h)) ∙ f
      by_values None (Some u) e f =
          let h = reads_code before u d p f in
          sym e ∙ code_reads after u d q (code_kept u (other u before h was) ∙ h)

pub values_added : (before after : Pairs) (t : Text) (c : ℕ) → IsPaired before → IsPaired after → code_of before t ≡ None → ((u : Text) → code_of after u ≡ (if bytes_eq t u then Some c else code_of before u)) →
    (d : ℕ) → value_of after d ≡ (if nat_eq c d then Some t else value_of before d)
values_added before after t c p q fresh codes d = by_code (eqb_tells c d)
  where
    by_code : Tells (nat_eq c d) (c ≡ d) → value_of after d ≡ (if nat_eq c d then Some t else value_of before d)
    by_code (inl r) = rw r.0 (subst (λ (j : ℕ). value_of after j ≡ Some t) r.1 (code_reads after t c q (code_now before after p q t (Some c) codes)))
    by_code (inr r) = rw r.0 (value_kept before after p q t (Some c) codes d (λ h. some_none (code_of before t) d h fresh)
        (λ h. r.1 (let x : Some c ≡ Some d = sym (code_now before after p q t (Some c) codes) ∙ h in cc)))

pub values_removed : (before after : Pairs) (t : Text) (c : ℕ) → IsPaired before → IsPaired after → value_of before c ≡ Some t → ((u : Text) → code_of after u ≡ (if bytes_eq t u then None else code_of before u)) →
    (d : ℕ) → value_of after d ≡ (if nat_eq c d then None else value_of before d)
values_removed before after t c p q there codes d = by_code (eqb_tells c d)
  where
    gone : code_of after t ≡ None
    gone = code_now before after p q t None codes

    was : code_of before t ≡ Some c
    was = reads_code before t c p there

    nowhere : (o : Option Text) → value_of after c ≡ o → o ≡ None
    nowhere None e = refl
    nowhere (Some u) e = by_text (texts_tell t u) (reads_code after u c q e)
      where
        by_text : Tells (bytes_eq t u) (t ≡ u) → code_of after u ≡ Some c → Some u ≡ None
        by_text (inl x) h = some_none (code_of after t) c (subst (λ z. code_of after z ≡ Some c) (sym x.1) h) gone
        by_text (inr x) h =
            let f = code_reads before u c p (sym (code_kept before after p q t None codes u x.1) ∙ h) in
            let g : Some t ≡ Some u = sym there ∙ f in
            absurd (x.1 (cc))

    by_code : Tells (nat_eq c d) (c ≡ d) → value_of after d ≡ (if nat_eq c d then None else value_of before d)
    by_code (inl r) = rw r.0 (subst (λ (j : ℕ). value_of after j ≡ None) r.1 (nowhere (value_of after c) refl))
    by_code (inr r) = rw r.0 (value_kept before after p q t None codes d (λ h. r.1 (let x : Some c ≡ Some d = sym was ∙ h in cc)) (λ h. some_none (code_of after t) d h gone))
