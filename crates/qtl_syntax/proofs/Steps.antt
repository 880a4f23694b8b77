-- Lemmas for the scanner's loops.
use Rattle.std.proofs.Common.{◌≡◌, ℕ, suc, ◌+◌, ◌<◌, ◌≤◌, List, [], ◌∷◌, length, get_or, take, drop, Some, Bool, true, false, refl, sym, ap, ◌∙◌, arith}
use Rattle.std.specs.Prelude.{nat_eq}
use Rattle.std.proofs.Math.Seq.{take-append_seam, drop-append_seam}
use Rattle.std.proofs.lemmas.List.{length-append, length-take, length-drop}
use Rattle.qtl_syntax.specs.declared.token.Token.TheVariants as token
use Rattle.qtl_syntax.specs.Cuts.{is_blank, is_letter, is_digit, words, past_gap}
use Rattle.qtl_syntax.specs.Scan.{is_tail, front_of, behind, find_word, as_word, to_quote, quoted, signs, find_sign, scan}
use Rattle.qtl_syntax.proofs.Longest.{pick, drop_to, front_behind, digit_no_letter}

pub gap_blank : (bs : List ℕ) → 0 < length bs → is_blank (get_or bs 0 0) ≡ true → past_gap false bs ≡ past_gap false (drop 1 bs)
gap_blank [] h e = absurd (omega arith)
gap_blank (b ∷ []) h e = pick (is_blank b) [] (b ∷ []) e
gap_blank (b ∷ c ∷ bs) h e = pick (is_blank b) _ _ e

pub gap_comment : (bs : List ℕ) → 1 < length bs → is_blank (get_or bs 0 0) ≡ false → get_or bs 0 0 ≡ 47 → get_or bs 1 0 ≡ 47 → past_gap false bs ≡ past_gap true (drop 1 bs)
gap_comment [] h e p q = absurd (omega arith)
gap_comment (b ∷ []) h e p q = absurd (omega arith)
gap_comment (b ∷ c ∷ bs) h e p q =
    let b_is : b ≡ 47 = p in
    let c_is : c ≡ 47 = q in
    drop_to (is_blank b) _ _ e ∙ rw (b_is, c_is) refl

pub count_inside : (p : ℕ → Bool) (bs : List ℕ) → length (front_of p bs) ≤ length bs
count_inside p bs = let e = ap length (front_behind p bs) in omega (arith, e, length-append (front_of p bs) (behind p bs))

pub count_take : (p : ℕ → Bool) (bs : List ℕ) → take (length (front_of p bs)) bs ≡ front_of p bs
count_take p bs = ap (take (length (front_of p bs))) (front_behind p bs) ∙ take-append_seam (front_of p bs) (behind p bs)

pub count_drop : (p : ℕ → Bool) (bs : List ℕ) → drop (length (front_of p bs)) bs ≡ behind p bs
count_drop p bs = ap (drop (length (front_of p bs))) (front_behind p bs) ∙ drop-append_seam (front_of p bs) (behind p bs)

pub name_inside : (bs : List ℕ) → 1 ≤ length bs → 1 + length (front_of is_tail (drop 1 bs)) ≤ length bs
name_inside [] h = absurd (omega arith)
name_inside (b ∷ bs) h = let c = count_inside is_tail bs in omega (arith, c)

pub number_inside : (bs : List ℕ) → 1 ≤ length bs → 1 + length (front_of is_digit (drop 1 bs)) ≤ length bs
number_inside [] h = absurd (omega arith)
number_inside (b ∷ bs) h = let c = count_inside is_digit bs in omega (arith, c)

taken : (n : ℕ) (b : ℕ) (bs : List ℕ) → take (1 + n) (b ∷ bs) ≡ b ∷ take n bs
taken n b bs = let e : 1 + n ≡ suc n = omega arith in rw e refl

dropped : (n : ℕ) (b : ℕ) (bs : List ℕ) → drop (1 + n) (b ∷ bs) ≡ drop n bs
dropped n b bs = let e : 1 + n ≡ suc n = omega arith in rw e refl

pub name_scan : (bs : List ℕ) (n : ℕ) → 1 ≤ length bs → is_letter (get_or bs 0 0) ≡ true → n ≡ 1 + length (front_of is_tail (drop 1 bs)) →
    Some (as_word (take n bs) (find_word words (take n bs)), drop n bs) ≡ scan bs
name_scan [] n h e q = absurd (omega arith)
name_scan (b ∷ bs) n h e q =
    let t : take n (b ∷ bs) ≡ b ∷ front_of is_tail bs = ap (λ m. take m (b ∷ bs)) q ∙ (taken (length (front_of is_tail bs)) b bs ∙ ap (λ v. b ∷ v) (count_take is_tail bs)) in
    let d : drop n (b ∷ bs) ≡ behind is_tail bs = ap (λ m. drop m (b ∷ bs)) q ∙ (dropped (length (front_of is_tail bs)) b bs ∙ count_drop is_tail bs) in
    rw (t, d) (sym (pick (is_letter b) _ _ e))

pub number_scan : (bs : List ℕ) (n : ℕ) → 1 ≤ length bs → is_digit (get_or bs 0 0) ≡ true → n ≡ 1 + length (front_of is_digit (drop 1 bs)) →
    Some (token.Number (take n bs), drop n bs) ≡ scan bs
number_scan [] n h e q = absurd (omega arith)
number_scan (b ∷ bs) n h e q =
    let t : take n (b ∷ bs) ≡ b ∷ front_of is_digit bs = ap (λ m. take m (b ∷ bs)) q ∙ (taken (length (front_of is_digit bs)) b bs ∙ ap (λ v. b ∷ v) (count_take is_digit bs)) in
    let d : drop n (b ∷ bs) ≡ behind is_digit bs = ap (λ m. drop m (b ∷ bs)) q ∙ (dropped (length (front_of is_digit bs)) b bs ∙ count_drop is_digit bs) in
    rw (t, d) (sym (drop_to (is_letter b) _ _ (digit_no_letter b e) ∙ pick (is_digit b) _ _ e))

pub quoted_scan : (bs : List ℕ) (n : ℕ) → 1 ≤ length bs → get_or bs 0 0 ≡ 34 → Some (take n (drop 1 bs), drop (n + 1) (drop 1 bs)) ≡ to_quote (drop 1 bs) →
    Some (token.Quoted (take n (drop 1 bs)), drop (n + 2) bs) ≡ scan bs
quoted_scan [] n h e q = absurd (omega arith)
quoted_scan (b ∷ bs) n h e q =
    let b_is : b ≡ 34 = e in
    let m : n + 2 ≡ 1 + (n + 1) = omega arith in
    let d : drop (n + 2) (b ∷ bs) ≡ drop (n + 1) bs = ap (λ m. drop m (b ∷ bs)) m ∙ dropped (n + 1) b bs in
    rw d (rw b_is (ap quoted q))

pub sign_scan : (bs : List ℕ) → 1 ≤ length bs → is_letter (get_or bs 0 0) ≡ false → is_digit (get_or bs 0 0) ≡ false → nat_eq (get_or bs 0 0) 34 ≡ false → find_sign signs bs ≡ scan bs
sign_scan [] h e q r = absurd (omega arith)
sign_scan (b ∷ bs) h e q r = sym (drop_to (is_letter b) _ _ e ∙ (drop_to (is_digit b) _ _ q ∙ drop_to (nat_eq b 34) _ _ r))

pub take_fits : (n : ℕ) (bs : List ℕ) → n ≤ length bs → n ≡ length (take n bs)
take_fits n bs h = omega (arith, length-take n bs)

pub drop_shorter : (n : ℕ) (bs cs : List ℕ) → cs ≡ drop n bs → length cs ≤ length bs
drop_shorter n bs cs e = let l = ap length e in omega (arith, l, length-drop n bs)
