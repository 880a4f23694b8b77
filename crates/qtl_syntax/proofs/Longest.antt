-- The scanner's token is the longest one that begins at a place.
use Rattle.std.proofs.Common.{◌≡◌, ℕ, ◌≤◌, List, [], ◌∷◌, ◌++◌, length, append_assoc, Option, Some, None, Bool, true, false, refl, sym, ap, ◌∙◌, arith}
use Rattle.std.specs.Prelude.{nat_eq, if◌then◌else◌, not, ◌&&◌, ◌||◌, bytes_eq}
use Rattle.std.specs.List.{list_all, list_any}
use Rattle.std.proofs.lemmas.Slice.Eq.{bytes_eq-Decides}
use Rattle.std.proofs.lemmas.Bool.Decides.{nat_tests}
use Rattle.qtl_syntax.specs.declared.token.Word.{Word}
use Rattle.qtl_syntax.specs.declared.token.Word.TheVariants as word
use Rattle.qtl_syntax.specs.declared.token.Sign.{Sign}
use Rattle.qtl_syntax.specs.declared.token.Sign.TheVariants as sign
use Rattle.qtl_syntax.specs.declared.token.Token.{Token}
use Rattle.qtl_syntax.specs.declared.token.Token.TheVariants as token
use Rattle.qtl_syntax.specs.Cuts.{is_digit, is_letter, is_name_form, is_number, words, word_text, sign_text, IsSpelled}
use Rattle.qtl_syntax.specs.Scan.{is_tail, front_of, behind, find_word, as_word, with_byte, to_quote, quoted, signs, strip, or_sign, find_sign, scan}

pub none : {A B : Type 0} (x : A) → None ≡ Some x → B
none x e = cc

pub was_some : {A : Type 0} (x y : A) → Some x ≡ Some y → y ≡ x
was_some x y e = cc

pub and_parts : (a b : Bool) → (a && b) ≡ true → (a ≡ true) × (b ≡ true)
and_parts true b e = (refl, e)
and_parts false b e = cc

pub both : (a b : Bool) → a ≡ true → b ≡ true → (a && b) ≡ true
both true b p q = q
both false b p q = cc

case_if : {A : Type 0} (P : A → Type 0) (b : Bool) (x y : A) → (b ≡ true → P x) → (b ≡ false → P y) → P (if b then x else y)
case_if P true x y p q = p refl
case_if P false x y p q = q refl

pub pick : {A : Type 0} (b : Bool) (x y : A) → b ≡ true → (if b then x else y) ≡ x
pick true x y e = refl
pick false x y e = cc

pub drop_to : {A : Type 0} (b : Bool) (x y : A) → b ≡ false → (if b then x else y) ≡ y
drop_to true x y e = cc
drop_to false x y e = refl

same_bytes : (xs ys : List ℕ) → bytes_eq xs ys ≡ true → xs ≡ ys
same_bytes xs ys e = grind (arith, bytes_eq-Decides xs ys)

same_nat : (a b : ℕ) → nat_eq a b ≡ true → a ≡ b
same_nat a b e = grind (arith, nat_tests)

-- front and behind make the whole
pub front_behind : (p : ℕ → Bool) (bs : List ℕ) → bs ≡ front_of p bs ++ behind p bs
front_behind p [] = refl
front_behind p (b ∷ bs) = split (p b) b bs (front_of p bs) (behind p bs) (front_behind p bs)
  where
    split : (t : Bool) (b : ℕ) (bs f r : List ℕ) → bs ≡ f ++ r → b ∷ bs ≡ (if t then b ∷ f else []) ++ (if t then r else b ∷ bs)
    split true b bs f r e = ap (λ v. b ∷ v) e
    split false b bs f r e = refl

front_all : (p : ℕ → Bool) (bs : List ℕ) → list_all p (front_of p bs) ≡ true
front_all p [] = refl
front_all p (b ∷ bs) = case_if (λ (v : List ℕ). list_all p v ≡ true) (p b) (b ∷ front_of p bs) [] (λ t. both (p b) _ t (front_all p bs)) (λ f. refl)

-- bytes that all pass stand in the front
pub all_front : (p : ℕ → Bool) (xs more : List ℕ) → list_all p xs ≡ true → length xs ≤ length (front_of p (xs ++ more))
all_front p [] more e = omega arith
all_front p (x ∷ xs) more e =
    let q = and_parts (p x) (list_all p xs) e in
    let h = all_front p xs more q.1 in
    rw (pick (p x) (x ∷ front_of p (xs ++ more)) [] q.0) (omega arith)

-- words
found : (ws : List Word) (bs : List ℕ) (w : Word) → find_word ws bs ≡ Some w → bs ≡ word_text w
found [] bs w e = none w e
found (v ∷ ws) bs w e = found_step (bytes_eq (word_text v) bs) v ws bs w refl e (found ws bs w)
  where
    found_step : (t : Bool) (v : Word) (ws : List Word) (bs : List ℕ) (w : Word) → bytes_eq (word_text v) bs ≡ t → (if t then Some v else find_word ws bs) ≡ Some w →
        (find_word ws bs ≡ Some w → bs ≡ word_text w) → bs ≡ word_text w
    found_step true v ws bs w q e go = rw (was_some _ _ e) (sym (same_bytes (word_text v) bs q))
    found_step false v ws bs w q e go = go e

not_found : (ws : List Word) (bs : List ℕ) → find_word ws bs ≡ None → list_any (λ w. bytes_eq (word_text w) bs) ws ≡ false
not_found [] bs e = refl
not_found (v ∷ ws) bs e = not_step (bytes_eq (word_text v) bs) v ws bs refl e (not_found ws bs)
  where
    not_step : (t : Bool) (v : Word) (ws : List Word) (bs : List ℕ) → bytes_eq (word_text v) bs ≡ t → (if t then Some v else find_word ws bs) ≡ None →
        (find_word ws bs ≡ None → list_any (λ w. bytes_eq (word_text w) bs) ws ≡ false) → (bytes_eq (word_text v) bs || list_any (λ w. bytes_eq (word_text w) bs) ws) ≡ false
    not_step true v ws bs q e go = none v (sym e)
    not_step false v ws bs q e go = rw (q, go e) refl

spelled_word : (o : Option Word) (bs : List ℕ) → find_word words bs ≡ o → is_name_form bs ≡ true → IsSpelled bs (as_word bs o)
spelled_word None bs e n = (refl, both (is_name_form bs) _ n (ap not (not_found words bs e)))
spelled_word (Some w) bs e n = found words bs w e

-- quotes
to_quote_is : (bs t rest : List ℕ) → to_quote bs ≡ Some (t, rest) → (bs ≡ t ++ 34 ∷ rest) × (list_all (λ b. not (nat_eq b 34 || nat_eq b 10)) t ≡ true)
to_quote_is [] t rest e = none (t, rest) e
to_quote_is (b ∷ bs) t rest e = quote_step (nat_eq b 34) (nat_eq b 10) b bs t rest refl refl e (to_quote bs) refl (to_quote_is bs)
  where
    with_step : (o : Option (List ℕ × List ℕ)) (b : ℕ) (bs t rest : List ℕ) → nat_eq b 34 ≡ false → nat_eq b 10 ≡ false → to_quote bs ≡ o → with_byte b o ≡ Some (t, rest) →
        ((t rest : List ℕ) → to_quote bs ≡ Some (t, rest) → (bs ≡ t ++ 34 ∷ rest) × (list_all (λ b. not (nat_eq b 34 || nat_eq b 10)) t ≡ true)) →
        (b ∷ bs ≡ t ++ 34 ∷ rest) × (list_all (λ b. not (nat_eq b 34 || nat_eq b 10)) t ≡ true)
    with_step None b bs t rest p q o e go = none (t, rest) e
    with_step (Some r) b bs t rest p q o e go =
        let s = was_some (b ∷ r.0, r.1) (t, rest) e in
        let x = go r.0 r.1 o in
        let t_is : t ≡ b ∷ r.0 = ap (λ v. v.0) s in
        let rest_is : rest ≡ r.1 = ap (λ v. v.1) s in
        let one : not (nat_eq b 34 || nat_eq b 10) ≡ true = rw (p, q) refl in
        rw (t_is, rest_is) (ap (λ v. b ∷ v) x.0, both _ _ one x.1)

    quote_step : (is_quote is_line : Bool) (b : ℕ) (bs t rest : List ℕ) → nat_eq b 34 ≡ is_quote → nat_eq b 10 ≡ is_line →
        (if is_quote then Some ([], bs) else (if is_line then None else with_byte b (to_quote bs))) ≡ Some (t, rest) → (o : Option (List ℕ × List ℕ)) → to_quote bs ≡ o →
        ((t rest : List ℕ) → to_quote bs ≡ Some (t, rest) → (bs ≡ t ++ 34 ∷ rest) × (list_all (λ b. not (nat_eq b 34 || nat_eq b 10)) t ≡ true)) →
        (b ∷ bs ≡ t ++ 34 ∷ rest) × (list_all (λ b. not (nat_eq b 34 || nat_eq b 10)) t ≡ true)
    quote_step true is_line b bs t rest p q e o f go =
        let s = was_some ([], bs) (t, rest) e in
        let t_is : t ≡ [] = ap (λ v. v.0) s in
        let rest_is : rest ≡ bs = ap (λ v. v.1) s in
        rw (t_is, rest_is) (ap (λ v. v ∷ bs) (same_nat b 34 p), refl)
    quote_step false true b bs t rest p q e o f go = none (t, rest) e
    quote_step false false b bs t rest p q e o f go = with_step o b bs t rest p q f (ap (with_byte b) (sym f) ∙ e) go

pub quote_found : (t more : List ℕ) → list_all (λ b. not (nat_eq b 34 || nat_eq b 10)) t ≡ true → to_quote (t ++ 34 ∷ more) ≡ Some (t, more)
quote_found [] more e = refl
quote_found (b ∷ t) more e =
    let q = and_parts (not (nat_eq b 34 || nat_eq b 10)) (list_all (λ b. not (nat_eq b 34 || nat_eq b 10)) t) e in
    byte_step (nat_eq b 34) (nat_eq b 10) b t more q.0 (quote_found t more q.1)
  where
    byte_step : (is_quote is_line : Bool) (b : ℕ) (t more : List ℕ) → not (is_quote || is_line) ≡ true → to_quote (t ++ 34 ∷ more) ≡ Some (t, more) →
        (if is_quote then Some ([], t ++ 34 ∷ more) else (if is_line then None else with_byte b (to_quote (t ++ 34 ∷ more)))) ≡ Some (b ∷ t, more)
    byte_step true is_line b t more e r = cc
    byte_step false true b t more e r = cc
    byte_step false false b t more e r = rw r refl

-- signs
strip_is : (xs ys rest : List ℕ) → strip xs ys ≡ Some rest → ys ≡ xs ++ rest
strip_is [] ys rest e = sym (was_some _ _ e)
strip_is (x ∷ xs) [] rest e = none rest e
strip_is (x ∷ xs) (y ∷ ys) rest e = strip_step (nat_eq x y) x y xs ys rest refl e (strip_is xs ys rest)
  where
    strip_step : (t : Bool) (x y : ℕ) (xs ys rest : List ℕ) → nat_eq x y ≡ t → (if t then strip xs ys else None) ≡ Some rest → (strip xs ys ≡ Some rest → ys ≡ xs ++ rest) → y ∷ ys ≡ x ∷ (xs ++ rest)
    strip_step true x y xs ys rest q e go = let p : y ≡ x = sym (same_nat x y q) in let r = go e in cc
    strip_step false x y xs ys rest q e go = none rest e

-- what is found at the front
abbrev pub IsFront : List ℕ → Token → List ℕ → Type 0
IsFront text t rest = (front : List ℕ) × (text ≡ front ++ rest) × IsSpelled front t

sign_is : (ss : List Sign) (text : List ℕ) (t : Token) (rest : List ℕ) → find_sign ss text ≡ Some (t, rest) → IsFront text t rest
sign_is [] text t rest e = none (t, rest) e
sign_is (s ∷ ss) text t rest e = sign_step (strip (sign_text s) text) s ss text t rest refl e (sign_is ss text t rest)
  where
    sign_step : (o : Option (List ℕ)) (s : Sign) (ss : List Sign) (text : List ℕ) (t : Token) (rest : List ℕ) → strip (sign_text s) text ≡ o → or_sign s o (find_sign ss text) ≡ Some (t, rest) →
        (find_sign ss text ≡ Some (t, rest) → IsFront text t rest) → IsFront text t rest
    sign_step None s ss text t rest q e go = go e
    sign_step (Some r) s ss text t rest q e go =
        let p = was_some (token.Sign s, r) (t, rest) e in
        let t_is : t ≡ token.Sign s = ap (λ v. v.0) p in
        let rest_is : rest ≡ r = ap (λ v. v.1) p in
        rw (t_is, rest_is) (sign_text s, strip_is (sign_text s) text r q, refl)

quoted_is : (o : Option (List ℕ × List ℕ)) (b : ℕ) (bs : List ℕ) (t : Token) (rest : List ℕ) → nat_eq b 34 ≡ true → to_quote bs ≡ o → quoted o ≡ Some (t, rest) → IsFront (b ∷ bs) t rest
quoted_is None b bs t rest q n e = none (t, rest) e
quoted_is (Some r) b bs t rest q n e =
    let p = was_some (token.Quoted r.0, r.1) (t, rest) e in
    let t_is : t ≡ token.Quoted r.0 = ap (λ v. v.0) p in
    let rest_is : rest ≡ r.1 = ap (λ v. v.1) p in
    let x = to_quote_is bs r.0 r.1 n in
    let b_is : b ≡ 34 = same_nat b 34 q in
    let w : 34 ∷ (r.0 ++ 34 ∷ r.1) ≡ (34 ∷ (r.0 ++ 34 ∷ [])) ++ r.1 = ap (λ v. 34 ∷ v) (sym (append_assoc r.0 (34 ∷ []) r.1)) in
    rw (t_is, rest_is) (34 ∷ (r.0 ++ 34 ∷ []), ap (λ v. v ∷ bs) b_is ∙ (ap (λ v. 34 ∷ v) x.0 ∙ w), (refl, x.1))

scan_step : (letter digit quote : Bool) (b : ℕ) (bs : List ℕ) (t : Token) (rest : List ℕ) → is_letter b ≡ letter → is_digit b ≡ digit → nat_eq b 34 ≡ quote →
    (if letter then Some (as_word (b ∷ front_of is_tail bs) (find_word words (b ∷ front_of is_tail bs)), behind is_tail bs)
    else (if digit then Some (token.Number (b ∷ front_of is_digit bs), behind is_digit bs)
    else (if quote then quoted (to_quote bs) else find_sign signs (b ∷ bs)))) ≡ Some (t, rest) → IsFront (b ∷ bs) t rest
scan_step true digit quote b bs t rest l d q e =
    let front : List ℕ = b ∷ front_of is_tail bs in
    let p = was_some (as_word (b ∷ front_of is_tail bs) (find_word words (b ∷ front_of is_tail bs)), behind is_tail bs) (t, rest) e in
    let t_is : t ≡ as_word (b ∷ front_of is_tail bs) (find_word words (b ∷ front_of is_tail bs)) = ap (λ v. v.0) p in
    let rest_is : rest ≡ behind is_tail bs = ap (λ v. v.1) p in
    let form : is_name_form (b ∷ front_of is_tail bs) ≡ true = both (is_letter b) _ l (front_all is_tail bs) in
    rw (t_is, rest_is) (b ∷ front_of is_tail bs, ap (λ v. b ∷ v) (front_behind is_tail bs), spelled_word (find_word words (b ∷ front_of is_tail bs)) (b ∷ front_of is_tail bs) refl form)
scan_step false true quote b bs t rest l d q e =
    let p = was_some (token.Number (b ∷ front_of is_digit bs), behind is_digit bs) (t, rest) e in
    let t_is : t ≡ token.Number (b ∷ front_of is_digit bs) = ap (λ v. v.0) p in
    let rest_is : rest ≡ behind is_digit bs = ap (λ v. v.1) p in
    rw (t_is, rest_is) (b ∷ front_of is_digit bs, ap (λ v. b ∷ v) (front_behind is_digit bs), (refl, both (is_digit b) _ d (front_all is_digit bs)))
scan_step false false true b bs t rest l d q e = quoted_is (to_quote bs) b bs t rest q refl e
scan_step false false false b bs t rest l d q e = sign_is signs (b ∷ bs) t rest e

pub scan_front : (text : List ℕ) (t : Token) (rest : List ℕ) → scan text ≡ Some (t, rest) → IsFront text t rest
scan_front [] t rest e = none (t, rest) e
scan_front (b ∷ bs) t rest e = scan_step (is_letter b) (is_digit b) (nat_eq b 34) b bs t rest refl refl refl e

-- whatever is spelled at the front, the scanner finds something at least as long
abbrev pub Finds : List ℕ → ℕ → Type 0
Finds text n = (t : Token) × (front : List ℕ) × (rest : List ℕ) × (scan text ≡ Some (t, rest)) × (text ≡ front ++ rest) × (n ≤ length front)

name_finds : (front more : List ℕ) → is_name_form front ≡ true → Finds (front ++ more) (length front)
name_finds [] more e = cc
name_finds (b ∷ bs) more e =
    let q = and_parts (is_letter b) (list_all is_tail bs) e in
    let h = all_front is_tail bs more q.1 in (
      as_word (b ∷ front_of is_tail (bs ++ more)) (find_word words (b ∷ front_of is_tail (bs ++ more))),
      b ∷ front_of is_tail (bs ++ more),
      behind is_tail (bs ++ more),
      pick (is_letter b) _ _ q.0,
      ap (λ v. b ∷ v) (front_behind is_tail (bs ++ more)),
      omega arith,
    )

pub digit_no_letter : (b : ℕ) → is_digit b ≡ true → is_letter b ≡ false
digit_no_letter b e = grind (arith, nat_tests)

number_finds : (front more : List ℕ) → is_number front ≡ true → Finds (front ++ more) (length front)
number_finds [] more e = cc
number_finds (b ∷ bs) more e =
    let q = and_parts (is_digit b) (list_all is_digit bs) e in
    let h = all_front is_digit bs more q.1 in (
      token.Number (b ∷ front_of is_digit (bs ++ more)),
      b ∷ front_of is_digit (bs ++ more),
      behind is_digit (bs ++ more),
      drop_to (is_letter b) _ _ (digit_no_letter b q.0) ∙ pick (is_digit b) _ _ q.0,
      ap (λ v. b ∷ v) (front_behind is_digit (bs ++ more)),
      omega arith,
    )

pub word_form : (w : Word) → is_name_form (word_text w) ≡ true
word_form word.Prop = refl
word_form word.Pred = refl
word_form word.Exists = refl
word_form word.Forall = refl
word_form word.True = refl
word_form word.False = refl
word_form word.Since = refl
word_form word.Once = refl
word_form word.Always = refl

pub sign_found : (s : Sign) (more : List ℕ) → scan (sign_text s ++ more) ≡ Some (token.Sign s, more)
sign_found sign.LeftParen more = refl
sign_found sign.RightParen more = refl
sign_found sign.LeftBracket more = refl
sign_found sign.RightBracket more = refl
sign_found sign.Comma more = refl
sign_found sign.Dot more = refl
sign_found sign.Colon more = refl
sign_found sign.Equals more = refl
sign_found sign.Not more = refl
sign_found sign.And more = refl
sign_found sign.Or more = refl
sign_found sign.Implies more = refl
sign_found sign.Iff more = refl
sign_found sign.Prev more = refl
sign_found sign.AtMost more = refl
sign_found sign.MoreThan more = refl

pub finds : (front more : List ℕ) (u : Token) → IsSpelled front u → Finds (front ++ more) (length front)
finds front more (token.Name t) s = name_finds front more (rw s.0 (and_parts (is_name_form t) _ s.1).0)
finds front more (token.Quoted t) s =
    let e : front ++ more ≡ 34 ∷ (t ++ 34 ∷ more) = ap (λ v. v ++ more) s.0 ∙ ap (λ v. 34 ∷ v) (append_assoc t (34 ∷ []) more) in
    let q : scan (34 ∷ (t ++ 34 ∷ more)) ≡ Some (token.Quoted t, more) = ap quoted (quote_found t more s.1) in
    (token.Quoted t, front, more, ap scan e ∙ q, refl, omega arith)
finds front more (token.Number t) s = number_finds front more (rw s.0 s.1)
finds front more (token.Word w) s = name_finds front more (rw s (word_form w))
finds front more (token.Sign g) s =
    (token.Sign g, front, more, rw s (sign_found g more), refl, omega arith)
