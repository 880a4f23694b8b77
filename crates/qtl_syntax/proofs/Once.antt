-- A text is cut into at most one list of tokens, and not where no token begins.
use Rattle.std.proofs.Common.{◌≡◌, ℕ, ◌+◌, ◌<◌, ◌≤◌, List, [], ◌∷◌, ◌++◌, length, append-nil, Some, None, Bool, true, false, refl, sym, ap, ◌∙◌, subst, arith}
use Rattle.std.specs.Prelude.{if◌then◌else◌, not, ◌||◌, bytes_eq}
use Rattle.std.specs.List.{list_all, list_any}
use Rattle.std.proofs.lemmas.List.{length-append}
use Rattle.qtl_syntax.specs.declared.token.Word.{Word}
use Rattle.qtl_syntax.specs.declared.token.Word.TheVariants as word
use Rattle.qtl_syntax.specs.declared.token.Token.{Token}
use Rattle.qtl_syntax.specs.declared.token.Token.TheVariants as token
use Rattle.qtl_syntax.specs.Cuts.{is_digit, is_letter, is_name_form, is_word, is_number, words, word_text, sign_text, IsSpelled, BeginsWith}
use Rattle.qtl_syntax.specs.Scan.{is_tail, front_of, behind, find_word, as_word, Scanned, quoted, scan}
use Rattle.qtl_syntax.specs.Cuts.{past_gap, CutsTo, Cuts, IsNotToken}
use Rattle.qtl_syntax.proofs.Longest.{finds, scan_front, sign_found, quote_found}
use Rattle.qtl_syntax.proofs.Longest.{none, was_some, and_parts, pick, drop_to, digit_no_letter}

-- what the scanner finds
pub begins_with : (text : List ℕ) (t : Token) (rest : List ℕ) → scan text ≡ Some (t, rest) → BeginsWith text t rest
begins_with text t rest e =
    let x = scan_front text t rest e in
    record { front = x.0; whole = x.1; spelled = x.2; longest = λ longer more u w s. no_longer text t rest x.0 longer more u x.1 e w s }
  where
    no_longer : (text : List ℕ) (t : Token) (rest front longer more : List ℕ) (u : Token) → text ≡ front ++ rest → scan text ≡ Some (t, rest) → text ≡ longer ++ more → IsSpelled longer u → length longer ≤ length front
    no_longer text t rest front longer more u w e v s =
        let y = finds longer more u s in
        let found : scan text ≡ Some (y.0, y.2) = ap scan v ∙ y.3 in
        let same : Some (t, rest) ≡ Some (y.0, y.2) = sym e ∙ found in
        let rest_is : y.2 ≡ rest = ap (λ p. p.1) (was_some (t, rest) (y.0, y.2) same) in
        let one : text ≡ y.1 ++ y.2 = v ∙ y.4 in
        let a : length text ≡ length front + length rest = ap length w ∙ length-append front rest in
        let b : length text ≡ length y.1 + length y.2 = ap length one ∙ length-append y.1 y.2 in
        let c : length y.2 ≡ length rest = ap length rest_is in
        let d : length longer ≤ length y.1 = y.5 in
        omega arith

pub nothing : (text : List ℕ) → scan text ≡ None → (front more : List ℕ) (u : Token) → text ≡ front ++ more → IsSpelled front u → ⊥
nothing text e front more u w s =
    let y = finds front more u s in
    none (y.0, y.2) (sym e ∙ (ap scan w ∙ y.3))

-- a spelling is that of one token
all_same : (p : ℕ → Bool) (xs : List ℕ) → list_all p xs ≡ true → (front_of p xs ≡ xs) × (behind p xs ≡ [])
all_same p [] e = (refl, refl)
all_same p (x ∷ xs) e =
    let q = and_parts (p x) (list_all p xs) e in
    let h = all_same p xs q.1 in
    (pick (p x) (x ∷ front_of p xs) [] q.0 ∙ ap (λ v. x ∷ v) h.0, pick (p x) (behind p xs) (x ∷ xs) q.0 ∙ h.1)

pub not_any : (ws : List Word) (bs : List ℕ) → list_any (λ w. bytes_eq (word_text w) bs) ws ≡ false → find_word ws bs ≡ None
not_any [] bs e = refl
not_any (v ∷ ws) bs e = any_step (bytes_eq (word_text v) bs) v ws bs e (not_any ws bs)
  where
    any_step : (t : Bool) (v : Word) (ws : List Word) (bs : List ℕ) → (t || list_any (λ w. bytes_eq (word_text w) bs) ws) ≡ false → (list_any (λ w. bytes_eq (word_text w) bs) ws ≡ false → find_word ws bs ≡ None) →
        (if t then Some v else find_word ws bs) ≡ None
    any_step true v ws bs e go = cc
    any_step false v ws bs e go = go e

pub was_not : (b : Bool) → not b ≡ true → b ≡ false
was_not true e = cc
was_not false e = refl

name_alone : (n : List ℕ) → is_name_form n ≡ true → scan n ≡ Some (as_word n (find_word words n), [])
name_alone [] e = cc
name_alone (b ∷ bs) e =
    let q = and_parts (is_letter b) (list_all is_tail bs) e in
    let h = all_same is_tail bs q.1 in
    pick (is_letter b) _ _ q.0 ∙ (ap (λ v. Some (as_word (b ∷ v) (find_word words (b ∷ v)), behind is_tail bs)) h.0 ∙ ap (λ v. Some (as_word (b ∷ bs) (find_word words (b ∷ bs)), v)) h.1)

number_alone : (n : List ℕ) → is_number n ≡ true → scan n ≡ Some (token.Number n, [])
number_alone [] e = cc
number_alone (b ∷ bs) e =
    let q = and_parts (is_digit b) (list_all is_digit bs) e in
    let h = all_same is_digit bs q.1 in
    drop_to (is_letter b) _ _ (digit_no_letter b q.0) ∙ (pick (is_digit b) _ _ q.0 ∙ (ap (λ v. Some (token.Number (b ∷ v), behind is_digit bs)) h.0 ∙ ap (λ v. Some (token.Number (b ∷ bs), v)) h.1))

word_alone : (w : Word) → scan (word_text w) ≡ Some (token.Word w, [])
word_alone word.Prop = refl
word_alone word.Pred = refl
word_alone word.Exists = refl
word_alone word.Forall = refl
word_alone word.True = refl
word_alone word.False = refl
word_alone word.Since = refl
word_alone word.Once = refl
word_alone word.Always = refl

pub alone : (front : List ℕ) (t : Token) → IsSpelled front t → scan front ≡ Some (t, [])
alone front (token.Name n) s =
    let q = and_parts (is_name_form n) (not (is_word n)) s.1 in
    let f : find_word words n ≡ None = not_any words n (was_not (is_word n) q.1) in
    ap scan s.0 ∙ (name_alone n q.0 ∙ ap (λ o. Some (as_word n o, [])) f)
alone front (token.Quoted t) s = ap scan s.0 ∙ ap quoted (quote_found t [] s.1)
alone front (token.Number n) s = ap scan s.0 ∙ number_alone n s.1
alone front (token.Word w) s = ap scan s ∙ word_alone w
alone front (token.Sign g) s = ap scan (s ∙ sym (append-nil (sign_text g))) ∙ sign_found g []

same_fronts : (xs ys us vs : List ℕ) → xs ++ us ≡ ys ++ vs → length xs ≡ length ys → (xs ≡ ys) × (us ≡ vs)
same_fronts [] [] us vs e l = (refl, e)
same_fronts [] (y ∷ ys) us vs e l = absurd (omega arith)
same_fronts (x ∷ xs) [] us vs e l = absurd (omega arith)
same_fronts (x ∷ xs) (y ∷ ys) us vs e l =
    let tails : xs ++ us ≡ ys ++ vs = cc in
    let heads : x ≡ y = cc in
    let h = same_fronts xs ys us vs tails (omega arith) in
    (rw (heads, h.0) refl, h.1)

-- what begins a text is what the scanner finds
pub scans : (text : List ℕ) (t : Token) (rest : List ℕ) → BeginsWith text t rest → scan text ≡ Some (t, rest)
scans text t rest b =
    let y = finds b.front rest t b.spelled in
    let found : scan text ≡ Some (y.0, y.2) = ap scan b.whole ∙ y.3 in
    let z = scan_front text y.0 y.2 found in
    let most : length z.0 ≤ length b.front = b.longest z.0 y.2 y.0 z.1 z.2 in
    let one : b.front ++ rest ≡ y.1 ++ y.2 = y.4 in
    let two : b.front ++ rest ≡ z.0 ++ y.2 = sym b.whole ∙ z.1 in
    let l1 : length b.front + length rest ≡ length y.1 + length y.2 = sym (length-append b.front rest) ∙ (ap length one ∙ length-append y.1 y.2) in
    let l2 : length b.front + length rest ≡ length z.0 + length y.2 = sym (length-append b.front rest) ∙ (ap length two ∙ length-append z.0 y.2) in
    let d : length b.front ≤ length y.1 = y.5 in
    let same = same_fronts b.front z.0 rest y.2 two (omega arith) in
    let left = alone b.front t b.spelled in
    let right = ap scan same.0 ∙ alone z.0 y.0 z.2 in
    let both : Some (t, []) ≡ Some (y.0, []) = sym left ∙ right in
    let t_is : y.0 ≡ t = ap (λ p. p.0) (was_some (t, []) (y.0, []) both) in
    let rest_is : y.2 ≡ rest = sym same.1 in
    found ∙ (ap (λ v. Some (v, y.2)) t_is ∙ ap (λ v. Some (t, v)) rest_is)

ends_once : (ts us : List Token) (text rest other : List ℕ) → CutsTo text ts rest → CutsTo text us other → scan rest ≡ None → scan other ≡ None → (ts ≡ us) × (rest ≡ other)
ends_once [] [] text rest other c d p q = (refl, sym c ∙ d)
ends_once [] (u ∷ us) text rest other c d p q = none (u, d.0) (sym p ∙ (ap scan (sym c) ∙ scans _ u d.0 d.1))
ends_once (t ∷ ts) [] text rest other c d p q = none (t, c.0) (sym q ∙ (ap scan (sym d) ∙ scans _ t c.0 c.1))
ends_once (t ∷ ts) (u ∷ us) text rest other c d p q =
    let e : Some (t, c.0) ≡ Some (u, d.0) = sym (scans _ t c.0 c.1) ∙ scans _ u d.0 d.1 in
    let w = was_some (t, c.0) (u, d.0) e in
    let t_is : u ≡ t = ap (λ p. p.0) w in
    let rest_is : d.0 ≡ c.0 = ap (λ p. p.1) w in
    let h = ends_once ts us c.0 rest other c.2 (subst (λ v. CutsTo v us other) rest_is d.2) p q in
    (rw (t_is, h.0) refl, h.1)

no_scan : (o : Scanned) (rest : List ℕ) → scan rest ≡ o → ((front more : List ℕ) (t : Token) → rest ≡ front ++ more → IsSpelled front t → ⊥) → scan rest ≡ None
no_scan None rest e n = e
no_scan (Some p) rest e n = let x = scan_front rest p.0 p.1 e in absurd (n x.0 p.1 p.0 x.1 x.2)

-- at most one list of tokens is cut from a text
pub cuts_once : (text : List ℕ) (ts us : List Token) → Cuts text ts → Cuts text us → ts ≡ us
cuts_once text ts us c d = (ends_once ts us text [] [] c d refl refl).0

-- none is, where no token begins at some place
pub cuts_or_not : (text : List ℕ) (ts : List Token) (at : ℕ) → Cuts text ts → IsNotToken text at → ⊥
cuts_or_not text ts at c n =
    let x = ends_once ts n.before text [] n.rest c n.cut refl (no_scan (scan n.rest) n.rest refl n.none) in
    n.some_left (sym x.1)

-- and there is one such place
pub one_place : (text : List ℕ) (at other : ℕ) → IsNotToken text at → IsNotToken text other → at ≡ other
one_place text at other n m =
    let x = ends_once n.before m.before text n.rest m.rest n.cut m.cut (no_scan (scan n.rest) n.rest refl n.none) (no_scan (scan m.rest) m.rest refl m.none) in
    let l : length n.rest ≡ length m.rest = ap length x.1 in
    let a : at + length n.rest ≡ length text = n.place in
    let b : other + length m.rest ≡ length text = m.place in
    omega arith

-- the tokens so far, and what stands right behind them
abbrev pub Reached : List ℕ → List Token → List ℕ → Type 0
Reached text [] here = here ≡ text
Reached text (t ∷ ts) here = (behind : List ℕ) × BeginsWith (past_gap false text) t behind × Reached behind ts here

pub reached_more : (text : List ℕ) (ts : List Token) (here : List ℕ) (t : Token) (rest : List ℕ) → Reached text ts here → scan (past_gap false here) ≡ Some (t, rest) → Reached text (ts ++ t ∷ []) rest
reached_more text [] here t rest r e = (rest, begins_with _ t rest (ap (λ v. scan (past_gap false v)) (sym r) ∙ e), refl)
reached_more text (u ∷ ts) here t rest r e = (r.0, r.1, reached_more r.0 ts here t rest r.2 e)

pub reached_cut : (text : List ℕ) (ts : List Token) (here rest : List ℕ) → Reached text ts here → past_gap false here ≡ rest → CutsTo text ts rest
reached_cut text [] here rest r e = ap (past_gap false) (sym r) ∙ e
reached_cut text (u ∷ ts) here rest r e = (r.0, r.1, reached_cut r.0 ts here rest r.2 e)

-- the scanner's answers, from where it stands
pub at_end : (text : List ℕ) (ts : List Token) (here : List ℕ) → Reached text ts here → length here ≡ 0 → Cuts text ts
at_end text ts [] r e = reached_cut text ts [] [] r refl
at_end text ts (b ∷ here) r e = absurd (omega arith)

pub at_gap : (text : List ℕ) (ts : List Token) (here rest : List ℕ) → Reached text ts here → rest ≡ past_gap false here → length rest ≡ 0 → Cuts text ts
at_gap text ts here [] r e l = reached_cut text ts here [] r (sym e)
at_gap text ts here (b ∷ rest) r e l = absurd (omega arith)

pub stuck : (text : List ℕ) (ts : List Token) (here rest : List ℕ) (at : ℕ) → Reached text ts here → rest ≡ past_gap false here → 0 < length rest → scan rest ≡ None →
    at + length rest ≡ length text → IsNotToken text at
stuck text ts here rest at r e l n p =
    record { before = ts; rest = rest; cut = reached_cut text ts here rest r (sym e); some_left = λ q. let z = ap length q in absurd (omega arith); none = nothing rest n; place = p }

pub one_more : (text : List ℕ) (ts : List Token) (here rest : List ℕ) (t : Token) (behind : List ℕ) → Reached text ts here → rest ≡ past_gap false here → Some (t, behind) ≡ scan rest → Reached text (ts ++ t ∷ []) behind
one_more text ts here rest t behind r e s = reached_more text ts here t behind r (ap scan (sym e) ∙ sym s)
