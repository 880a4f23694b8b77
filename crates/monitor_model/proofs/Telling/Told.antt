-- What the trees tell apart is told apart, and nothing else is.
use Rattle.std.proofs.Common.{◌≡◌, ◌≢◌, ℕ, zero, suc, ◌-◌, ◌^◌, ◌<◌, ◌≤◌, ◌⊎◌, ◌↔◌, inl, inr, refl, sym, ap, ◌∙◌, subst, arith, List, [], Bool, true, false, Option, Some, None, IsTrue}
use Rattle.std.specs.Prelude.{unwrap_or, nat_eq, slice_get}
use Rattle.std.proofs.lemmas.Nat.{pow_pos}
use Rattle.std.proofs.lemmas.Bool.{cases_lt}
use Rattle.std.proofs.lemmas.Bool.Decides.{eqb_tells}
use Rattle.qtl_syntax.specs.Tree.{Text}
use Rattle.qtl_truth.specs.declared.event.Event.{Event}
use Rattle.subformulas.specs.Assigned.{Texts, put}
use Rattle.subformulas.specs.Memory.{is_temporal, IsTemporal, memo_at, Told, Differ, SameMemory}
use Rattle.subformulas.specs.Pinned.{fresh}
use Rattle.subformulas.specs.declared.table.Sub.{Sub}
use Rattle.subformulas.proofs.Agree.{same}
use Rattle.subformulas.proofs.Plain.{plain_untold}
use Rattle.subformulas.proofs.Unfold.{by_some}
use Rattle.node_tree.specs.Tree.{Tree, value}
use Rattle.value_codes.specs.Pairs.{Pairs, code_of}
use Rattle.value_codes.proofs.Lookups.{Tells, code_reads}
use Rattle.monitor_model.specs.Books.{reads}
use Rattle.monitor_model.specs.Drawn.{code_at, age_at, readings}
use Rattle.monitor_model.specs.Operations.{SameOutside}
use Rattle.monitor_model.specs.Setting.{Setting, first_of, time_first, time_width}
use Rattle.monitor_model.specs.Shape.{oldest}
use Rattle.monitor_model.specs.Stands.{IsPlan, IsRemembered}
use Rattle.monitor_model.proofs.Books.Pairing.{ones_free}
use Rattle.monitor_model.proofs.Books.Reuse.{memo_same, memo_point}
use Rattle.monitor_model.proofs.Books.Sound.{IsBookFor}
use Rattle.monitor_model.proofs.Spelling.Bits.{spell, readings_other, readings_time, age_other}
use Rattle.monitor_model.proofs.Telling.Apart.{SomeApart}
use Rattle.monitor_model.proofs.Timed.Remembered.{age_fits, numberless}

differ_from : (a b : Bool) (P Q : Type 0) → (IsTrue a ↔ P) → (IsTrue b ↔ Q) → a ≢ b → Differ P Q
differ_from true true P Q p q n = absurd (n refl)
differ_from true false P Q p q n = inl (p.0 refl, λ y. let e = q.1 y in cc)
differ_from false true P Q p q n = inr (λ y. let e = p.1 y in cc, q.0 refl)
differ_from false false P Q p q n = absurd (n refl)

differ_values : (a b : Bool) (P Q : Type 0) → (IsTrue a ↔ P) → (IsTrue b ↔ Q) → Differ P Q → a ≢ b
differ_values a b P Q p q (inl d) e = d.1 (q.0 (sym e ∙ p.1 d.0))
differ_values a b P Q p q (inr d) e = d.0 (p.0 (e ∙ q.1 d.1))

differ_like : {P P' Q Q' : Type 0} → P ↔ P' → Q ↔ Q' → Differ P Q → Differ P' Q'
differ_like p q (inl d) = inl (p.0 d.0, λ y. d.1 (q.1 y))
differ_like p q (inr d) = inr (λ y. d.0 (p.1 y), q.0 d.1)

put_is : (x : ℕ) (t : Text) (nu mu : Texts) → t ≡ mu x → ((y : ℕ) → y ≢ x → nu y ≡ mu y) →
    (y : ℕ) → put x t nu y ≡ mu y
put_is x t nu mu e h y = by_test (eqb_tells x y)
  where
    by_test : Tells (nat_eq x y) (x ≡ y) → put x t nu y ≡ mu y
    by_test (inl q) = rw q.0 (e ∙ ap mu q.1)
    by_test (inr q) = rw q.0 (h y (λ z. q.1 (sym z)))

-- where the memory of a temporal subformula differs with some number, it does with one that the
-- time block holds
small_number : (s : Setting) → IsPlan s → (log : List Event) (i k : ℕ) → IsTemporal s.subs k →
    (nu mu : Texts) (a : ℕ) → Differ (memo_at s.subs k log nu i a) (memo_at s.subs k log mu i a) →
    (c : ℕ) × (c < 2 ^ time_width s) ×
    Differ (memo_at s.subs k log nu i c) (memo_at s.subs k log mu i c)
small_number s plan log i k h nu mu a d =
    let (u, at, temporal) = by_some _ _ h.1 in
    by_bound u at temporal (oldest u.kind) refl
  where
    by_bound : (u : Sub) → slice_get s.subs (k - 1) ≡ Some u → IsTrue (is_temporal u.kind) →
        (o : Option ℕ) → oldest u.kind ≡ o →
        (c : ℕ) × (c < 2 ^ time_width s) ×
        Differ (memo_at s.subs k log nu i c) (memo_at s.subs k log mu i c)
    by_bound u at temporal None e = (
      0,
      pow_pos (time_width s),
      differ_like (numberless s plan log k u h.0 at e temporal nu i a 0)
          (numberless s plan log k u h.0 at e temporal mu i a 0) d,
    )
    by_bound u at temporal (Some most) e = (a, small d, d)
      where
        small : Differ (memo_at s.subs k log nu i a) (memo_at s.subs k log mu i a) →
            a < 2 ^ time_width s
        small (inl p) = age_fits s plan log k u most h.0 at e nu i a p.0
        small (inr p) = age_fits s plan log k u most h.0 at e mu i a p.1

module _ (s : Setting) (log : List Event) (plan : IsPlan s) (i : ℕ) (books : ℕ → Pairs)
    (sound : (x : ℕ) → x < s.variables → IsBookFor s.bits s.subs log x i (books x)) where
  abbrev other_text : Text
  other_text = fresh s.subs log i

  -- the texts that bits spell by the books
  abbrev texts_at : List Bool → Texts
  texts_at b = readings s books other_text b

  -- the texts give the same memory for x
  abbrev Same : (x : ℕ) → Text → Text → Type 0
  Same x t u = SameMemory s.subs log x i t u

  -- a code that a text reads like
  like_code : (x : ℕ) → x < s.variables → (t : Text) →
      (c : ℕ) × (c < 2 ^ s.bits) × Same x t (reads (books x) other_text c)
  like_code x p t = by_code (code_of (books x) t) refl
    where
      by_code : (o : Option ℕ) → code_of (books x) t ≡ o →
          (c : ℕ) × (c < 2 ^ s.bits) × Same x t (reads (books x) other_text c)
      by_code (Some c) e =
          let v = code_reads (books x) t c (sound x p).paired e in (
            c,
            (let h = (sound x p).below c t v in omega arith),
            subst (λ o. Same x t (unwrap_or o other_text)) (sym v) (λ k nu a h. same),
          )
      by_code None e = (
        2 ^ s.bits - 1,
        (let h = pow_pos s.bits in omega arith),
        subst (λ o. Same x t (unwrap_or o other_text))
            (sym (ones_free s.bits (books x) (sound x p).below)) ((sound x p).plain t e),
      )

  -- bits that spell, for each variable below v, a code that reads like its text
  point : (nu : Texts) (v : ℕ) → v ≤ s.variables →
      (b : List Bool) × ((x : ℕ) → x < v → Same x (nu x) (texts_at b x))
  point nu zero h = ([], λ x p. absurd (omega arith))
  point nu (suc v) h =
      let (b, same) = point nu v (omega arith) in
      let (c, l, m) = like_code v (omega arith) (nu v) in
      let (other, o, e) = spell (first_of s v) s.bits c b l in
      (other, λ x p. by_place b c other o e same m x (cases_lt x v) p)
    where
      by_place : (b : List Bool) (c : ℕ) (other : List Bool) →
          SameOutside (first_of s v) s.bits b other → code_at s other v ≡ c →
          ((x : ℕ) → x < v → Same x (nu x) (texts_at b x)) →
          Same v (nu v) (reads (books v) other_text c) →
          (x : ℕ) → (x < v) ⊎ (v ≤ x) → x < suc v → Same x (nu x) (texts_at other x)
      by_place b c other o e same m x (inl q) p =
          subst (λ t. Same x (nu x) t)
          (sym (readings_other s books other_text v x b other o (λ z. omega arith))) (same x q)
      by_place b c other o e same m x (inr q) p =
          let z : v ≡ x = omega arith in
          subst (λ (y : ℕ). Same y (nu y) (texts_at other y)) z
          (subst (λ (d : ℕ). Same v (nu v) (reads (books v) other_text d)) (sym e) m)

  ones_read : (x : ℕ) → x < s.variables →
      reads (books x) other_text (2 ^ s.bits - 1) ≡ other_text
  ones_read x p =
      ap (λ o. unwrap_or o other_text) (ones_free s.bits (books x) (sound x p).below)

  put_memory : (x : ℕ) (t : Text) (nu mu : Texts) → Same x t (mu x) →
      ((y : ℕ) → y < s.variables → y ≢ x → Same y (nu y) (mu y)) →
      (y : ℕ) → y < s.variables → Same y (put x t nu y) (mu y)
  put_memory x t nu mu e h y p = by_test (eqb_tells x y)
    where
      by_test : Tells (nat_eq x y) (x ≡ y) → Same y (put x t nu y) (mu y)
      by_test (inl q) =
          let r : put x t nu y ≡ t = rw q.0 refl in
          subst (λ z. Same y z (mu y)) (sym r) (subst (λ (z : ℕ). Same z t (mu z)) q.1 e)
      by_test (inr q) =
          let r : put x t nu y ≡ nu y = rw q.0 refl in
          subst (λ z. Same y z (mu y)) (sym r) (h y p (λ z. q.1 (sym z)))

  -- a text without a code isn't told apart
  pub uncoded_untold : (x : ℕ) (t : Text) → x < s.variables → code_of (books x) t ≡ None →
      ¬ Told s.subs log x i t
  uncoded_untold x t p none =
      plain_untold s.subs plan.table log x i t ((sound x p).plain t none)

  module _ (memory : ℕ → Tree)
      (drawn : (k : ℕ) → IsTemporal s.subs k → IsRemembered s log i books k (memory k))
      (x : ℕ) (low : x < s.variables) (t : Text) (c : ℕ)
      (code : code_of (books x) t ≡ Some c) where
    reads_c : reads (books x) other_text c ≡ t
    reads_c =
        ap (λ o. unwrap_or o other_text) (code_reads (books x) t c (sound x low).paired code)

    told_from_trees : SomeApart s memory x c → Told s.subs log x i t
    told_from_trees (k, h, (b, other, o, spells, ones, d)) =
        let nu = texts_at b in
        let mu = texts_at other in
        let a = age_at s b in
        let m = drawn k h in
        let here : t ≡ nu x = sym reads_c ∙ ap (reads (books x) other_text) (sym spells) in
        let there : other_text ≡ mu x =
        sym (ones_read x low) ∙ ap (reads (books x) other_text) (sym ones) in
        let age : age_at s other ≡ a = age_other s x b other low o in (
          k,
          nu,
          a,
          h,
          differ_like
              (memo_same s.subs plan.table log i k a h nu (put x t nu)
              (λ y. sym (put_is x t nu nu here (λ z n. refl) y)))
              (subst
              (λ (n : ℕ). memo_at s.subs k log mu i n ↔
              memo_at s.subs k log (put x other_text nu) i a) (sym age)
              (memo_same s.subs plan.table log i k a h mu (put x other_text nu)
              (λ y. sym (put_is x other_text nu mu there
              (λ z n. sym (readings_other s books other_text x z b other o n)) y))))
              (differ_from (value (memory k) b) (value (memory k) other) _ _ (m.values b)
              (m.values other) d),
        )

    trees_from_told : Told s.subs log x i t → SomeApart s memory x c
    trees_from_told (k, nu, number, h, differ) =
        let (a, small, d) =
        small_number s plan log i k h (put x t nu) (put x other_text nu) number differ in
        let (b0, s0) = point nu s.variables (omega arith) in
        let (b1, o1, e1) = spell (time_first s) (time_width s) a b0 small in
        let l : c < 2 ^ s.bits =
        (let q = (sound x low).below c t (code_reads (books x) t c (sound x low).paired code) in
        omega arith) in
        let (b, o, spells) = spell (first_of s x) s.bits c b1 l in
        let (other, o', ones) =
        spell (first_of s x) s.bits (2 ^ s.bits - 1) b (let q = pow_pos s.bits in omega arith) in
        let m = drawn k h in
        let here : t ≡ texts_at b x = sym reads_c ∙ ap (reads (books x) other_text) (sym spells) in
        let there : other_text ≡ texts_at other x =
        sym (ones_read x low) ∙ ap (reads (books x) other_text) (sym ones) in
        let age : age_at s b ≡ a = age_other s x b1 b low o ∙ e1 in
        let age' : age_at s other ≡ a = age_other s x b other low o' ∙ age in (
          k,
          h,
          (
            b,
            other,
            o',
            spells,
            ones,
            differ_values (value (memory k) b) (value (memory k) other) _ _ (m.values b)
                (m.values other)
                (differ_like
                (subst
                (λ (n : ℕ). memo_at s.subs k log (put x t nu) i a ↔
                memo_at s.subs k log (texts_at b) i n) (sym age)
                (memo_point s plan log i k a h (put x t nu) (texts_at b)
                (put_memory x t nu (texts_at b)
                (subst (λ z. Same x t z) here (λ j w n q. same))
                (λ y p n. subst (λ z. Same y (nu y) z) (sym (to_first b0 b1 b o1 o y p n))
                (s0 y p)))))
                (subst
                (λ (n : ℕ). memo_at s.subs k log (put x other_text nu) i a ↔
                memo_at s.subs k log (texts_at other) i n) (sym age')
                (memo_point s plan log i k a h (put x other_text nu) (texts_at other)
                (put_memory x other_text nu (texts_at other)
                (subst (λ z. Same x other_text z) there (λ j w n q. same))
                (λ y p n. subst (λ z. Same y (nu y) z)
                (sym (readings_other s books other_text x y b other o' n
                ∙ to_first b0 b1 b o1 o y p n)) (s0 y p)))))
                d),
          ),
        )
      where
        -- the texts of other variables stay when the age and the code of x are set
        to_first : (b0 b1 b : List Bool) → SameOutside (time_first s) (time_width s) b0 b1 →
            SameOutside (first_of s x) s.bits b1 b → (y : ℕ) → y < s.variables → y ≢ x →
            texts_at b y ≡ texts_at b0 y
        to_first b0 b1 b o1 o y p n =
            readings_other s books other_text x y b1 b o n
            ∙ readings_time s books other_text y b0 b1 p o1

    -- told apart by trees is told apart
    pub told_by_trees : SomeApart s memory x c ↔ Told s.subs log x i t
    told_by_trees = (told_from_trees, trees_from_told)
