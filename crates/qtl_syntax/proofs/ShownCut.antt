-- The canonical text is cut into its tokens.
use Rattle.std.proofs.Common.{◌≡◌, ℕ, ◌≤◌, List, [], ◌∷◌, ◌++◌, append_assoc, Some, Bool, true, false, refl, sym, ap, ◌∙◌, subst, arith}
use Rattle.std.specs.Prelude.{◌&&◌, not, nat_eq, nat_le, map, codes, decimal}
use Rattle.std.specs.List.{list_all}
use Rattle.std.proofs.lemmas.Bool.{leb-true}
use Rattle.std.proofs.lemmas.Bool.Decides.{nat_tests}
use Rattle.qtl_syntax.specs.declared.formula.Term.{Term}
use Rattle.qtl_syntax.specs.declared.formula.Term.TheVariants.{Variable, Constant}
use Rattle.qtl_syntax.specs.declared.formula.Bound.{Bound}
use Rattle.qtl_syntax.specs.declared.formula.Bound.TheVariants as bound
use Rattle.qtl_syntax.specs.declared.token.Word.{Word as TheWord}
use Rattle.qtl_syntax.specs.declared.token.Word.TheVariants as word
use Rattle.qtl_syntax.specs.declared.token.Sign.{Sign as TheSign}
use Rattle.qtl_syntax.specs.declared.token.Sign.TheVariants as sign
use Rattle.qtl_syntax.specs.declared.token.Token.{Token}
use Rattle.qtl_syntax.specs.declared.token.Token.TheVariants.{Name, Quoted, Number, Word, Sign}
use Rattle.qtl_syntax.specs.Cuts.{is_digit, is_letter, is_blank, word_text, sign_text, is_name_form, words, is_word, is_number, is_name, is_quotable, past_gap, BeginsWith, CutsTo}
use Rattle.qtl_syntax.specs.Scan.{is_tail, front_of, behind, find_word, as_word, to_quote, quoted, scan}
use Rattle.qtl_syntax.specs.Tree.{Text, Formula, True, False, Atom, Not, And, Or, Implies, Iff, Prev, Since, TimedSince, Once, TimedOnce, Always, TimedAlways, Interval, Exists, Forall, Item, Pred, Prop}
use Rattle.qtl_syntax.specs.Lawful.{is_lawful_bound, is_lawful_term, is_lawful_formula, is_lawful_item, are_lawful}
use Rattle.qtl_syntax.specs.Canonical.{is_plain, after_commas, listed, term_text, atom_text, bound_text, around, text_of, line_of, canonical}
use Rattle.qtl_syntax.proofs.Longest.{and_parts, pick, drop_to, digit_no_letter, quote_found, sign_found, word_form}
use Rattle.qtl_syntax.proofs.Once.{begins_with, not_any, was_not}
use Rattle.qtl_syntax.proofs.Decimals.{decimal_is_number}
use Rattle.qtl_syntax.proofs.Shown.{shown_term, shown_more, shown_atom, shown_bound, in_parens, shown, shown_params, shown_listed, shown_head, body_of, shown_items}

-- no byte that passes comes next
abbrev StopsAt : (ℕ → Bool) → List ℕ → Type 0
StopsAt p [] = Unit {0}
StopsAt p (b ∷ bs) = p b ≡ false

-- what comes next does not go on with a name, a word or a number
abbrev Stops : List ℕ → Type 0
Stops text = StopsAt is_tail text

-- the text is cut into these tokens, and then this is left
abbrev Cut : List ℕ → List Token → List ℕ → Type 0
Cut text ts rest = CutsTo text ts (past_gap false rest)

-- the text gives these tokens, whatever comes next
abbrev Free : List ℕ → List Token → Type 0
Free text ts = (rest : List ℕ) → Cut (text ++ rest) ts rest

-- the text gives these tokens, if what comes next stops it
abbrev Lays : List ℕ → List Token → Type 0
Lays text ts = (rest : List ℕ) → Stops rest → Cut (text ++ rest) ts rest

-- the text stops what stands before it, if what comes next does
abbrev Goes : List ℕ → Type 0
Goes text = (rest : List ℕ) → Stops rest → Stops (text ++ rest)

-- joining
same_gap : (a b : List ℕ) (ts : List Token) (c : List ℕ) → past_gap false a ≡ past_gap false b → CutsTo b ts c → CutsTo a ts c
same_gap a b [] c e x = e ∙ x
same_gap a b (t ∷ ts) c e x = (x.0, subst (λ v. BeginsWith v t x.0) (sym e) x.1, x.2)

joins : (ts us : List Token) (a b c : List ℕ) → Cut a ts b → CutsTo b us c → CutsTo a (ts ++ us) c
joins [] us a b c x y = same_gap a b us c x y
joins (t ∷ ts) us a b c x y = (x.0, x.1, joins ts us x.0 b c x.2 y)

free_lays : (a b : List ℕ) (ts us : List Token) → Free a ts → Lays b us → Lays (a ++ b) (ts ++ us)
free_lays a b ts us f l rest s = subst (λ v. CutsTo v (ts ++ us) (past_gap false rest)) (sym (append_assoc a b rest)) (joins ts us (a ++ (b ++ rest)) (b ++ rest) (past_gap false rest) (f (b ++ rest)) (l rest s))

free_free : (a b : List ℕ) (ts us : List Token) → Free a ts → Free b us → Free (a ++ b) (ts ++ us)
free_free a b ts us f g rest = subst (λ v. CutsTo v (ts ++ us) (past_gap false rest)) (sym (append_assoc a b rest)) (joins ts us (a ++ (b ++ rest)) (b ++ rest) (past_gap false rest) (f (b ++ rest)) (g rest))

lays_lays : (a b : List ℕ) (ts us : List Token) → Lays a ts → Lays b us → Goes b → Lays (a ++ b) (ts ++ us)
lays_lays a b ts us k l g rest s =
    subst (λ v. CutsTo v (ts ++ us) (past_gap false rest)) (sym (append_assoc a b rest)) (joins ts us (a ++ (b ++ rest)) (b ++ rest) (past_gap false rest) (k (b ++ rest) (g rest s)) (l rest s))

lays_free : (a b : List ℕ) (ts us : List Token) → Lays a ts → Free b us → ((rest : List ℕ) → Stops (b ++ rest)) → Free (a ++ b) (ts ++ us)
lays_free a b ts us k f g rest = subst (λ v. CutsTo v (ts ++ us) (past_gap false rest)) (sym (append_assoc a b rest)) (joins ts us (a ++ (b ++ rest)) (b ++ rest) (past_gap false rest) (k (b ++ rest) (g rest)) (f rest))

loose : (a : List ℕ) (ts : List Token) → Free a ts → Lays a ts
loose a ts f rest s = f rest

-- blanks
space_gap : (bs : List ℕ) → past_gap false (32 ∷ bs) ≡ past_gap false bs
space_gap [] = refl
space_gap (b ∷ bs) = refl

line_gap : (bs : List ℕ) → past_gap false (10 ∷ bs) ≡ past_gap false bs
line_gap [] = refl
line_gap (b ∷ bs) = refl

after_space : (a : List ℕ) (ts : List Token) → Free a ts → Free (32 ∷ a) ts
after_space a ts f rest = same_gap (32 ∷ (a ++ rest)) (a ++ rest) ts (past_gap false rest) (space_gap (a ++ rest)) (f rest)

after_space_lays : (a : List ℕ) (ts : List Token) → Lays a ts → Lays (32 ∷ a) ts
after_space_lays a ts l rest s = same_gap (32 ∷ (a ++ rest)) (a ++ rest) ts (past_gap false rest) (space_gap (a ++ rest)) (l rest s)

before_space : (a : List ℕ) (ts : List Token) → Lays a ts → Free (a ++ 32 ∷ []) ts
before_space a ts l rest = subst (λ v. CutsTo v ts (past_gap false rest)) (sym (append_assoc a (32 ∷ []) rest)) (subst (CutsTo (a ++ (32 ∷ rest)) ts) (space_gap rest) (l (32 ∷ rest) refl))

before_line : (a : List ℕ) (ts : List Token) → Lays a ts → Free (a ++ 10 ∷ []) ts
before_line a ts l rest = subst (λ v. CutsTo v ts (past_gap false rest)) (sym (append_assoc a (10 ∷ []) rest)) (subst (CutsTo (a ++ (10 ∷ rest)) ts) (line_gap rest) (l (10 ∷ rest) refl))

-- single tokens
one : (text : List ℕ) (t : Token) (rest : List ℕ) → scan (past_gap false text) ≡ Some (t, rest) → Cut text (t ∷ []) rest
one text t rest e = (rest, begins_with (past_gap false text) t rest e, refl)

no_gap : (b : ℕ) (bs : List ℕ) → is_blank b ≡ false → nat_eq b 47 ≡ false → past_gap false (b ∷ bs) ≡ b ∷ bs
no_gap b [] p q = drop_to (is_blank b) [] (b ∷ []) p
no_gap b (c ∷ bs) p q = drop_to (is_blank b) _ _ p ∙ drop_to (nat_eq b 47 && nat_eq c 47) _ _ (ap (λ v. v && nat_eq c 47) q)

letter_no_blank : (b : ℕ) → is_letter b ≡ true → is_blank b ≡ false
letter_no_blank b e = grind (arith, nat_tests)

letter_no_slash : (b : ℕ) → is_letter b ≡ true → nat_eq b 47 ≡ false
letter_no_slash b e = grind (arith, nat_tests)

digit_no_blank : (b : ℕ) → is_digit b ≡ true → is_blank b ≡ false
digit_no_blank b e = grind (arith, nat_tests)

digit_no_slash : (b : ℕ) → is_digit b ≡ true → nat_eq b 47 ≡ false
digit_no_slash b e = grind (arith, nat_tests)

front_stops : (p : ℕ → Bool) (xs rest : List ℕ) → list_all p xs ≡ true → StopsAt p rest → (front_of p (xs ++ rest) ≡ xs) × (behind p (xs ++ rest) ≡ rest)
front_stops p [] [] e s = (refl, refl)
front_stops p [] (b ∷ bs) e s = (drop_to (p b) (b ∷ front_of p bs) [] s, drop_to (p b) (behind p bs) (b ∷ bs) s)
front_stops p (x ∷ xs) rest e s =
    let q = and_parts (p x) (list_all p xs) e in
    let h = front_stops p xs rest q.1 s in
    (pick (p x) (x ∷ front_of p (xs ++ rest)) [] q.0 ∙ ap (λ v. x ∷ v) h.0, pick (p x) (behind p (xs ++ rest)) (x ∷ (xs ++ rest)) q.0 ∙ h.1)

form_lays : (n : List ℕ) (t : Token) → is_name_form n ≡ true → as_word n (find_word words n) ≡ t → Lays n (t ∷ [])
form_lays [] t e w rest s = cc
form_lays (b ∷ bs) t e w rest s =
    let q = and_parts (is_letter b) (list_all is_tail bs) e in
    let g = no_gap b (bs ++ rest) (letter_no_blank b q.0) (letter_no_slash b q.0) in
    let h = front_stops is_tail bs rest q.1 s in
    let found = pick (is_letter b) _ _ q.0 ∙ (ap (λ v. Some (as_word (b ∷ v) (find_word words (b ∷ v)), behind is_tail (bs ++ rest))) h.0 ∙ ap (λ v. Some (as_word (b ∷ bs) (find_word words (b ∷ bs)), v)) h.1) in
    one (b ∷ (bs ++ rest)) t rest (ap scan g ∙ (found ∙ ap (λ v. Some (v, rest)) w))

name_lays : (n : Text) → is_name n ≡ true → Lays n (Name n ∷ [])
name_lays n e =
    let q = and_parts (is_name_form n) (not (is_word n)) e in
    form_lays n (Name n) q.0 (ap (as_word n) (not_any words n (was_not (is_word n) q.1)))

word_is : (w : TheWord) → as_word (word_text w) (find_word words (word_text w)) ≡ Word w
word_is word.Prop = refl
word_is word.Pred = refl
word_is word.Exists = refl
word_is word.Forall = refl
word_is word.True = refl
word_is word.False = refl
word_is word.Since = refl
word_is word.Once = refl
word_is word.Always = refl

word_lays : (w : TheWord) → Lays (word_text w) (Word w ∷ [])
word_lays w = form_lays (word_text w) (Word w) (word_form w) (word_is w)

number_cut : (n rest : List ℕ) → is_number n ≡ true → StopsAt is_digit rest → Cut (n ++ rest) (Number n ∷ []) rest
number_cut [] rest e s = cc
number_cut (b ∷ bs) rest e s =
    let q = and_parts (is_digit b) (list_all is_digit bs) e in
    let g = no_gap b (bs ++ rest) (digit_no_blank b q.0) (digit_no_slash b q.0) in
    let h = front_stops is_digit bs rest q.1 s in
    let found = drop_to (is_letter b) _ _ (digit_no_letter b q.0) ∙ (pick (is_digit b) _ _ q.0 ∙ (ap (λ v. Some (Number (b ∷ v), behind is_digit (bs ++ rest))) h.0 ∙ ap (λ v. Some (Number (b ∷ bs), v)) h.1)) in
    one (b ∷ (bs ++ rest)) (Number (b ∷ bs)) rest (ap scan g ∙ found)

quoted_free : (c : Text) → is_quotable c ≡ true → Free (codes "\"" ++ (c ++ codes "\"")) (Quoted c ∷ [])
quoted_free c e rest =
    one (34 ∷ ((c ++ 34 ∷ []) ++ rest)) (Quoted c) rest
    (ap scan (no_gap 34 ((c ++ 34 ∷ []) ++ rest) refl refl) ∙ ap quoted (ap to_quote (append_assoc c (34 ∷ []) rest) ∙ quote_found c rest e))

sign_gap : (s : TheSign) (rest : List ℕ) → past_gap false (sign_text s ++ rest) ≡ sign_text s ++ rest
sign_gap sign.LeftParen rest = no_gap 40 rest refl refl
sign_gap sign.RightParen rest = no_gap 41 rest refl refl
sign_gap sign.LeftBracket rest = no_gap 91 rest refl refl
sign_gap sign.RightBracket rest = no_gap 93 rest refl refl
sign_gap sign.Comma rest = no_gap 44 rest refl refl
sign_gap sign.Dot rest = no_gap 46 rest refl refl
sign_gap sign.Colon rest = no_gap 58 rest refl refl
sign_gap sign.Equals rest = no_gap 61 rest refl refl
sign_gap sign.Not rest = no_gap 33 rest refl refl
sign_gap sign.And rest = no_gap 38 rest refl refl
sign_gap sign.Or rest = no_gap 124 rest refl refl
sign_gap sign.Implies rest = no_gap 45 (62 ∷ rest) refl refl
sign_gap sign.Iff rest = no_gap 60 (45 ∷ 62 ∷ rest) refl refl
sign_gap sign.Prev rest = no_gap 64 rest refl refl
sign_gap sign.AtMost rest = no_gap 60 (61 ∷ rest) refl refl
sign_gap sign.MoreThan rest = no_gap 62 rest refl refl

sign_free : (s : TheSign) → Free (sign_text s) (Sign s ∷ [])
sign_free s rest = one (sign_text s ++ rest) (Sign s) rest (ap scan (sign_gap s rest) ∙ sign_found s rest)

-- a sign with spaces
spaced_sign : (s : TheSign) → Free (32 ∷ (sign_text s ++ 32 ∷ [])) (Sign s ∷ [])
spaced_sign s = after_space (sign_text s ++ 32 ∷ []) (Sign s ∷ []) (before_space (sign_text s) (Sign s ∷ []) (loose (sign_text s) (Sign s ∷ []) (sign_free s)))

sign_space : (s : TheSign) → Free (sign_text s ++ 32 ∷ []) (Sign s ∷ [])
sign_space s = before_space (sign_text s) (Sign s ∷ []) (loose (sign_text s) (Sign s ∷ []) (sign_free s))

word_space : (w : TheWord) → Free (word_text w ++ 32 ∷ []) (Word w ∷ [])
word_space w = before_space (word_text w) (Word w ∷ []) (word_lays w)

-- bounds
number_end : (n : ℕ) → n ≤ 1048574 → Free (decimal n ++ codes "]") (Number (decimal n) ∷ Sign sign.RightBracket ∷ [])
number_end n h rest =
    subst (λ v. CutsTo v (Number (decimal n) ∷ Sign sign.RightBracket ∷ []) (past_gap false rest)) (sym (append_assoc (decimal n) (93 ∷ []) rest))
    (joins (Number (decimal n) ∷ []) (Sign sign.RightBracket ∷ []) (decimal n ++ (93 ∷ rest)) (93 ∷ rest) (past_gap false rest) (number_cut (decimal n) (93 ∷ rest) (decimal_is_number n h) refl) (sign_free sign.RightBracket rest))

at_most : Free (codes "[<=") (Sign sign.LeftBracket ∷ Sign sign.AtMost ∷ [])
at_most = free_free (codes "[") (codes "<=") (Sign sign.LeftBracket ∷ []) (Sign sign.AtMost ∷ []) (sign_free sign.LeftBracket) (sign_free sign.AtMost)

more_than : Free (codes "[>") (Sign sign.LeftBracket ∷ Sign sign.MoreThan ∷ [])
more_than = free_free (codes "[") (codes ">") (Sign sign.LeftBracket ∷ []) (Sign sign.MoreThan ∷ []) (sign_free sign.LeftBracket) (sign_free sign.MoreThan)

low_bound : (n : ℕ) → nat_le n 1048574 ≡ true → n ≤ 1048574
low_bound n e = leb-true n 1048574 e

bound_free : (b : Bound) → is_lawful_bound b ≡ true → Free (bound_text b) (shown_bound b)
bound_free (bound.AtMost n) e = free_free (codes "[<=") (decimal n ++ codes "]") (Sign sign.LeftBracket ∷ Sign sign.AtMost ∷ []) (Number (decimal n) ∷ Sign sign.RightBracket ∷ []) at_most (number_end n (low_bound n e))
bound_free (bound.MoreThan n) e = free_free (codes "[>") (decimal n ++ codes "]") (Sign sign.LeftBracket ∷ Sign sign.MoreThan ∷ []) (Number (decimal n) ∷ Sign sign.RightBracket ∷ []) more_than (number_end n (low_bound n e))

bound_space : (b : Bound) → is_lawful_bound b ≡ true → Free (bound_text b ++ codes " ") (shown_bound b)
bound_space b e = before_space (bound_text b) (shown_bound b) (loose (bound_text b) (shown_bound b) (bound_free b e))

bound_stops : (b : Bound) (more rest : List ℕ) → Stops ((bound_text b ++ more) ++ rest)
bound_stops (bound.AtMost n) more rest = refl
bound_stops (bound.MoreThan n) more rest = refl

-- a word with a bound, and a space behind it
timed_word : (front : List ℕ) (w : TheWord) (b : Bound) → is_lawful_bound b ≡ true → Lays front (Word w ∷ []) → Free (front ++ (bound_text b ++ codes " ")) (Word w ∷ shown_bound b)
timed_word front w b e l = lays_free front (bound_text b ++ codes " ") (Word w ∷ []) (shown_bound b) l (bound_space b e) (bound_stops b (codes " "))

-- terms and parameters
term_lays : (t : Term) → is_lawful_term t ≡ true → Lays (term_text t) (shown_term t ∷ [])
term_lays (Variable x) e = name_lays x e
term_lays (Constant c) e = loose (term_text (Constant c)) (Quoted c ∷ []) (quoted_free c e)

terms_go : (ts : List Term) → Goes (after_commas (map term_text ts))
terms_go [] rest s = s
terms_go (t ∷ ts) rest s = refl

more_terms_lay : (ts : List Term) → list_all is_lawful_term ts ≡ true → Lays (after_commas (map term_text ts)) (shown_more ts)
more_terms_lay [] e = λ rest s. refl
more_terms_lay (t ∷ ts) e =
    let q = and_parts (is_lawful_term t) (list_all is_lawful_term ts) e in
    free_lays (codes ",") (term_text t ++ after_commas (map term_text ts)) (Sign sign.Comma ∷ []) (shown_term t ∷ shown_more ts) (sign_free sign.Comma)
    (lays_lays (term_text t) (after_commas (map term_text ts)) (shown_term t ∷ []) (shown_more ts) (term_lays t q.0) (more_terms_lay ts q.1) (terms_go ts))

terms_lay : (t : Term) (ts : List Term) → list_all is_lawful_term (t ∷ ts) ≡ true → Lays (listed (map term_text (t ∷ ts))) (shown_term t ∷ shown_more ts)
terms_lay t ts e =
    let q = and_parts (is_lawful_term t) (list_all is_lawful_term ts) e in
    lays_lays (term_text t) (after_commas (map term_text ts)) (shown_term t ∷ []) (shown_more ts) (term_lays t q.0) (more_terms_lay ts q.1) (terms_go ts)

params_go : (xs : List Text) → Goes (after_commas xs)
params_go [] rest s = s
params_go (x ∷ xs) rest s = refl

more_params_lay : (xs : List Text) → list_all is_name xs ≡ true → Lays (after_commas xs) (shown_params xs)
more_params_lay [] e = λ rest s. refl
more_params_lay (x ∷ xs) e =
    let q = and_parts (is_name x) (list_all is_name xs) e in
    free_lays (codes ",") (x ++ after_commas xs) (Sign sign.Comma ∷ []) (Name x ∷ shown_params xs) (sign_free sign.Comma)
    (lays_lays x (after_commas xs) (Name x ∷ []) (shown_params xs) (name_lays x q.0) (more_params_lay xs q.1) (params_go xs))

params_lay : (xs : List Text) → list_all is_name xs ≡ true → Lays (listed xs) (shown_listed xs)
params_lay [] e = λ rest s. refl
params_lay (x ∷ xs) e =
    let q = and_parts (is_name x) (list_all is_name xs) e in
    lays_lays x (after_commas xs) (Name x ∷ []) (shown_params xs) (name_lays x q.0) (more_params_lay xs q.1) (params_go xs)

-- what stands in parentheses, and a list of terms
closed_free : (a : List ℕ) (ts : List Token) → Lays a ts → Free (a ++ codes ")") (ts ++ Sign sign.RightParen ∷ [])
closed_free a ts l = lays_free a (codes ")") ts (Sign sign.RightParen ∷ []) l (sign_free sign.RightParen) (λ rest. refl)

parens_free : (a : List ℕ) (ts : List Token) → Lays a ts → Free (codes "(" ++ (a ++ codes ")")) (Sign sign.LeftParen ∷ (ts ++ Sign sign.RightParen ∷ []))
parens_free a ts l = free_free (codes "(") (a ++ codes ")") (Sign sign.LeftParen ∷ []) (ts ++ Sign sign.RightParen ∷ []) (sign_free sign.LeftParen) (closed_free a ts l)

wrapped_lays : (b : Bool) (a : List ℕ) (ts : List Token) → Lays a ts → Lays (around b a) (in_parens b ts)
wrapped_lays true a ts l = l
wrapped_lays false a ts l = loose (around false a) (in_parens false ts) (parens_free a ts l)

operand_lays : (f : Formula) → Lays (text_of f) (shown f) → Lays (around (is_plain f) (text_of f)) (in_parens (is_plain f) (shown f))
operand_lays f l = wrapped_lays (is_plain f) (text_of f) (shown f) l

atom_lays : (n : Text) (ts : List Term) → is_name n ≡ true → list_all is_lawful_term ts ≡ true → Lays (atom_text n ts) (shown_atom n ts)
atom_lays n [] e f = name_lays n e
atom_lays n (t ∷ ts) e f =
    loose (atom_text n (t ∷ ts)) (shown_atom n (t ∷ ts))
    (lays_free n (codes "(" ++ (listed (map term_text (t ∷ ts)) ++ codes ")")) (Name n ∷ []) (Sign sign.LeftParen ∷ ((shown_term t ∷ shown_more ts) ++ Sign sign.RightParen ∷ [])) (name_lays n e)
    (parens_free (listed (map term_text (t ∷ ts))) (shown_term t ∷ shown_more ts) (terms_lay t ts f)) (λ rest. refl))

-- forms
binary_lays : (f g : Formula) (s : List ℕ) (ss : List Token) → Free s ss → ((more : List ℕ) → Stops (s ++ more)) → Lays (text_of f) (shown f) → Lays (text_of g) (shown g) →
    Lays (around (is_plain f) (text_of f) ++ (s ++ around (is_plain g) (text_of g))) (in_parens (is_plain f) (shown f) ++ (ss ++ in_parens (is_plain g) (shown g)))
binary_lays f g s ss m go k l =
    let right = free_lays s (around (is_plain g) (text_of g)) ss (in_parens (is_plain g) (shown g)) m (operand_lays g l) in
    lays_lays (around (is_plain f) (text_of f)) (s ++ around (is_plain g) (text_of g)) (in_parens (is_plain f) (shown f)) (ss ++ in_parens (is_plain g) (shown g)) (operand_lays f k) right
    (λ rest h. subst Stops (sym (append_assoc s (around (is_plain g) (text_of g)) rest)) (go (around (is_plain g) (text_of g) ++ rest)))

prefix_lays : (f : Formula) (s : List ℕ) (ss : List Token) → Free s ss → Lays (text_of f) (shown f) → Lays (s ++ around (is_plain f) (text_of f)) (ss ++ in_parens (is_plain f) (shown f))
prefix_lays f s ss m l = free_lays s (around (is_plain f) (text_of f)) ss (in_parens (is_plain f) (shown f)) m (operand_lays f l)

quantifier_lays : (w : TheWord) (front : List ℕ) (x : Text) (f : Formula) → Free front (Word w ∷ []) → is_name x ≡ true → Lays (text_of f) (shown f) →
    Lays ((front ++ (x ++ codes " . ")) ++ text_of f) (Word w ∷ Name x ∷ Sign sign.Dot ∷ shown f)
quantifier_lays w front x f m e l =
    let named = lays_free x (codes " . ") (Name x ∷ []) (Sign sign.Dot ∷ []) (name_lays x e) (spaced_sign sign.Dot) (λ rest. refl) in
    let head = free_free front (x ++ codes " . ") (Word w ∷ []) (Name x ∷ Sign sign.Dot ∷ []) m named in
    free_lays (front ++ (x ++ codes " . ")) (text_of f) (Word w ∷ Name x ∷ Sign sign.Dot ∷ []) (shown f) head l

interval_lays : (f g : Formula) → Lays (text_of f) (shown f) → Lays (text_of g) (shown g) → Lays (text_of (Interval f g)) (shown (Interval f g))
interval_lays f g k l =
    let second = free_free (codes ",") (text_of g ++ codes ")") (Sign sign.Comma ∷ []) (shown g ++ Sign sign.RightParen ∷ []) (sign_free sign.Comma) (closed_free (text_of g) (shown g) l) in
    let both = lays_free (text_of f) (codes "," ++ (text_of g ++ codes ")")) (shown f) (Sign sign.Comma ∷ (shown g ++ Sign sign.RightParen ∷ [])) k second (λ rest. refl) in
    loose (text_of (Interval f g)) (shown (Interval f g))
    (free_free (codes "[") (text_of f ++ (codes "," ++ (text_of g ++ codes ")"))) (Sign sign.LeftBracket ∷ []) (shown f ++ Sign sign.Comma ∷ (shown g ++ Sign sign.RightParen ∷ [])) (sign_free sign.LeftBracket) both)

formula_lays : (f : Formula) → is_lawful_formula f ≡ true → Lays (text_of f) (shown f)
formula_lays True e = word_lays word.True
formula_lays False e = word_lays word.False
formula_lays (Atom n terms) e = let q = and_parts (is_name n) (list_all is_lawful_term terms) e in atom_lays n terms q.0 q.1
formula_lays (Not f) e = prefix_lays f (codes "! ") (Sign sign.Not ∷ []) (sign_space sign.Not) (formula_lays f e)
formula_lays (And f g) e =
    let q = and_parts (is_lawful_formula f) (is_lawful_formula g) e in
    binary_lays f g (codes " & ") (Sign sign.And ∷ []) (spaced_sign sign.And) (λ more. refl) (formula_lays f q.0) (formula_lays g q.1)
formula_lays (Or f g) e =
    let q = and_parts (is_lawful_formula f) (is_lawful_formula g) e in
    binary_lays f g (codes " | ") (Sign sign.Or ∷ []) (spaced_sign sign.Or) (λ more. refl) (formula_lays f q.0) (formula_lays g q.1)
formula_lays (Implies f g) e =
    let q = and_parts (is_lawful_formula f) (is_lawful_formula g) e in
    binary_lays f g (codes " -> ") (Sign sign.Implies ∷ []) (spaced_sign sign.Implies) (λ more. refl) (formula_lays f q.0) (formula_lays g q.1)
formula_lays (Iff f g) e =
    let q = and_parts (is_lawful_formula f) (is_lawful_formula g) e in
    binary_lays f g (codes " <-> ") (Sign sign.Iff ∷ []) (spaced_sign sign.Iff) (λ more. refl) (formula_lays f q.0) (formula_lays g q.1)
formula_lays (Prev f) e = prefix_lays f (codes "@ ") (Sign sign.Prev ∷ []) (sign_space sign.Prev) (formula_lays f e)
formula_lays (Since f g) e =
    let q = and_parts (is_lawful_formula f) (is_lawful_formula g) e in
    binary_lays f g (codes " S ") (Word word.Since ∷ []) (after_space (codes "S ") (Word word.Since ∷ []) (word_space word.Since)) (λ more. refl) (formula_lays f q.0) (formula_lays g q.1)
formula_lays (TimedSince b f g) e =
    let p = and_parts (is_lawful_bound b) (is_lawful_formula f && is_lawful_formula g) e in
    let q = and_parts (is_lawful_formula f) (is_lawful_formula g) p.1 in
    let since = timed_word (codes " S") word.Since b p.0 (after_space_lays (codes "S") (Word word.Since ∷ []) (word_lays word.Since)) in
    binary_lays f g (codes " S" ++ (bound_text b ++ codes " ")) (Word word.Since ∷ shown_bound b) since (λ more. refl) (formula_lays f q.0) (formula_lays g q.1)
formula_lays (Once f) e = prefix_lays f (codes "P ") (Word word.Once ∷ []) (word_space word.Once) (formula_lays f e)
formula_lays (TimedOnce b f) e =
    let p = and_parts (is_lawful_bound b) (is_lawful_formula f) e in
    prefix_lays f (codes "P" ++ (bound_text b ++ codes " ")) (Word word.Once ∷ shown_bound b) (timed_word (codes "P") word.Once b p.0 (word_lays word.Once)) (formula_lays f p.1)
formula_lays (Always f) e = prefix_lays f (codes "H ") (Word word.Always ∷ []) (word_space word.Always) (formula_lays f e)
formula_lays (TimedAlways b f) e =
    let p = and_parts (is_lawful_bound b) (is_lawful_formula f) e in
    prefix_lays f (codes "H" ++ (bound_text b ++ codes " ")) (Word word.Always ∷ shown_bound b) (timed_word (codes "H") word.Always b p.0 (word_lays word.Always)) (formula_lays f p.1)
formula_lays (Interval f g) e =
    let q = and_parts (is_lawful_formula f) (is_lawful_formula g) e in
    interval_lays f g (formula_lays f q.0) (formula_lays g q.1)
formula_lays (Exists x f) e =
    let p = and_parts (is_name x) (is_lawful_formula f) e in
    quantifier_lays word.Exists (codes "exists ") x f (word_space word.Exists) p.0 (formula_lays f p.1)
formula_lays (Forall x f) e =
    let p = and_parts (is_name x) (is_lawful_formula f) e in
    quantifier_lays word.Forall (codes "forall ") x f (word_space word.Forall) p.0 (formula_lays f p.1)

-- items
prop_free : (name : Text) (f : Formula) → is_name name ≡ true → is_lawful_formula f ≡ true → Free (line_of (Prop name f)) (shown_head (Prop name f) ++ shown f)
prop_free name f e g =
    let body = before_line (text_of f) (shown f) (formula_lays f g) in
    let rest = free_free (codes " : ") (text_of f ++ codes "\n") (Sign sign.Colon ∷ []) (shown f) (spaced_sign sign.Colon) body in
    let named = lays_free name (codes " : " ++ (text_of f ++ codes "\n")) (Name name ∷ []) (Sign sign.Colon ∷ shown f) (name_lays name e) rest (λ more. refl) in
    free_free (codes "prop ") (name ++ (codes " : " ++ (text_of f ++ codes "\n"))) (Word word.Prop ∷ []) (Name name ∷ Sign sign.Colon ∷ shown f) (word_space word.Prop) named

pred_free : (name : Text) (xs : List Text) (f : Formula) → is_name name ≡ true → list_all is_name xs ≡ true → is_lawful_formula f ≡ true → Free (line_of (Pred name xs f)) (shown_head (Pred name xs f) ++ shown f)
pred_free name xs f e p g =
    let body : List ℕ = text_of f ++ codes "\n" in
    let equals = free_free (codes ")") (codes " = ") (Sign sign.RightParen ∷ []) (Sign sign.Equals ∷ []) (sign_free sign.RightParen) (spaced_sign sign.Equals) in
    let after = free_free (codes ") = ") body (Sign sign.RightParen ∷ Sign sign.Equals ∷ []) (shown f) equals (before_line (text_of f) (shown f) (formula_lays f g)) in
    let params = lays_free (listed xs) (codes ") = " ++ body) (shown_listed xs) (Sign sign.RightParen ∷ Sign sign.Equals ∷ shown f) (params_lay xs p) after (λ more. refl) in
    let opened = free_free (codes "(") (listed xs ++ (codes ") = " ++ body)) (Sign sign.LeftParen ∷ []) (shown_listed xs ++ (Sign sign.RightParen ∷ Sign sign.Equals ∷ shown f)) (sign_free sign.LeftParen) params in
    let named = lays_free name (codes "(" ++ (listed xs ++ (codes ") = " ++ body))) (Name name ∷ []) (Sign sign.LeftParen ∷ (shown_listed xs ++ (Sign sign.RightParen ∷ Sign sign.Equals ∷ shown f))) (name_lays name e) opened (λ more. refl) in
    let all = free_free (codes "pred ") (name ++ (codes "(" ++ (listed xs ++ (codes ") = " ++ body)))) (Word word.Pred ∷ []) (Name name ∷ Sign sign.LeftParen ∷ (shown_listed xs ++ (Sign sign.RightParen ∷ Sign sign.Equals ∷ shown f))) (word_space word.Pred) named in
    let same = append_assoc (shown_listed xs) (Sign sign.RightParen ∷ Sign sign.Equals ∷ []) (shown f) in
    subst (λ v. Free (line_of (Pred name xs f)) (Word word.Pred ∷ Name name ∷ Sign sign.LeftParen ∷ v)) (sym same) all

line_free : (i : Item) → is_lawful_item i ≡ true → Free (line_of i) (shown_head i ++ shown (body_of i))
line_free (Prop name f) e = let q = and_parts (is_name name) (is_lawful_formula f) e in prop_free name f q.0 q.1
line_free (Pred name xs f) e =
    let q = and_parts (is_name name) (list_all is_name xs && is_lawful_formula f) e in
    let r = and_parts (list_all is_name xs) (is_lawful_formula f) q.1 in
    pred_free name xs f q.0 r.0 r.1

-- the canonical text is cut into its tokens
pub cut_items : (items : List Item) → are_lawful items ≡ true → CutsTo (canonical items) (shown_items items) []
cut_items [] e = refl
cut_items (i ∷ items) e =
    let q = and_parts (is_lawful_item i) (are_lawful items) e in
    let all = joins (shown_head i ++ shown (body_of i)) (shown_items items) (line_of i ++ canonical items) (canonical items) [] (line_free i q.0 (canonical items)) (cut_items items q.1) in
    subst (λ v. CutsTo (line_of i ++ canonical items) v []) (append_assoc (shown_head i) (shown (body_of i)) (shown_items items)) all
