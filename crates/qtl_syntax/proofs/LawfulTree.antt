-- What is spelled by tokens that are cut from a text is lawful.
use Rattle.std.proofs.Common.{◌≡◌, ℕ, zero, suc, ◌+◌, ◌<◌, ◌≤◌, List, [], ◌∷◌, ◌++◌, Bool, true, refl, subst, arith, inl, inr}
use Rattle.std.specs.Prelude.{◌&&◌, ◌||◌, not, nat_eq, nat_le}
use Rattle.std.specs.List.{list_all}
use Rattle.std.proofs.lemmas.Bool.{le-leb}
use Rattle.std.proofs.lemmas.Bool.Decides.{nat_tests}
use Rattle.qtl_syntax.specs.declared.formula.Term.{Term}
use Rattle.qtl_syntax.specs.declared.formula.Bound.{Bound}
use Rattle.qtl_syntax.specs.declared.formula.Bound.TheVariants.{AtMost, MoreThan}
use Rattle.qtl_syntax.specs.declared.operator.Binary.{Binary}
use Rattle.qtl_syntax.specs.declared.operator.Binary.TheVariants as binary
use Rattle.qtl_syntax.specs.declared.operator.Prefix.{Prefix}
use Rattle.qtl_syntax.specs.declared.operator.Prefix.TheVariants as prefix
use Rattle.qtl_syntax.specs.declared.operator.Quantifier.{Quantifier}
use Rattle.qtl_syntax.specs.declared.operator.Quantifier.TheVariants as quantifier
use Rattle.qtl_syntax.specs.declared.token.Sign.TheVariants as sign
use Rattle.qtl_syntax.specs.declared.token.Token.{Token}
use Rattle.qtl_syntax.specs.declared.token.Token.TheVariants.{Name, Quoted, Number, Word, Sign}
use Rattle.qtl_syntax.specs.Cuts.{is_digit, is_name, is_quotable, IsSpelled, CutsTo}
use Rattle.qtl_syntax.specs.Tree.{Text, Formula, Item}
use Rattle.qtl_syntax.specs.Grammar.{decimal_from, IsBound, IsTerm, IsParam, AreMore, AreListed, IsBinary, joined, IsPrefix, prefixed, quantified, Row, by_binary, by_prefix, by_quantifier, by_truth, by_falsity, by_name, by_atom, by_interval, by_parens, Derives, Head, PropHead, PredHead, IsHead, item, Spells}
use Rattle.qtl_syntax.specs.Places.{IsTooLarge}
use Rattle.qtl_syntax.specs.Lawful.{is_lawful_bound, is_lawful_term, is_lawful_formula, is_lawful_item, are_lawful}
use Rattle.qtl_syntax.proofs.Longest.{and_parts, both}

-- the texts of a token are lawful
abbrev IsFine : Token → Type 0
IsFine (Name t) = is_name t ≡ true
IsFine (Quoted t) = is_quotable t ≡ true
IsFine (Number t) = is_quotable t ≡ true
IsFine _ = Unit {0}

-- a number behind <= or > is small
abbrev IsSmallAfter : Token → List Token → Type 0
IsSmallAfter (Sign sign.AtMost) (Number t ∷ ts) = decimal_from 0 t ≤ 1048574
IsSmallAfter (Sign sign.MoreThan) (Number t ∷ ts) = decimal_from 0 t ≤ 1048574
IsSmallAfter _ _ = Unit {0}

abbrev pub AreGood : List Token → Type 0
AreGood [] = Unit {0}
AreGood (t ∷ ts) = IsFine t × IsSmallAfter t ts × AreGood ts

-- tokens that are cut from a text are good
digit_quotable : (b : ℕ) → is_digit b ≡ true → not (nat_eq b 34 || nat_eq b 10) ≡ true
digit_quotable b e = grind (arith, nat_tests)

digits_quotable : (bs : List ℕ) → list_all is_digit bs ≡ true → is_quotable bs ≡ true
digits_quotable [] e = refl
digits_quotable (b ∷ bs) e =
    let q = and_parts (is_digit b) (list_all is_digit bs) e in
    both _ (is_quotable bs) (digit_quotable b q.0) (digits_quotable bs q.1)

number_quotable : (bs : List ℕ) → IsSpelled bs (Number bs) → is_quotable bs ≡ true
number_quotable [] s = refl
number_quotable (b ∷ bs) s = digits_quotable (b ∷ bs) s.1

fine : (t : Token) (bs : List ℕ) → IsSpelled bs t → IsFine t
fine (Name t) bs s = s.1
fine (Quoted t) bs s = s.1
fine (Number t) bs s = number_quotable t (refl, s.1)
fine (Word w) bs s = tt
fine (Sign g) bs s = tt

abbrev pub NoneTooLarge : List Token → Type 0
NoneTooLarge ts = (at : ℕ) → IsTooLarge ts at → ⊥

not_more : (n m : ℕ) → (m < n → ⊥) → n ≤ m
not_more n m h = grind arith

small : (t : Token) (ts : List Token) → NoneTooLarge (t ∷ ts) → IsSmallAfter t ts
small (Sign sign.AtMost) (Number x ∷ ts) n = not_more (decimal_from 0 x) 1048574 (λ m. n 1 (x, sign.AtMost, 0, refl, refl, inl refl, refl, m))
small (Sign sign.MoreThan) (Number x ∷ ts) n = not_more (decimal_from 0 x) 1048574 (λ m. n 1 (x, sign.MoreThan, 0, refl, refl, inr refl, refl, m))
small _ _ n = tt

later : (t : Token) (ts : List Token) (at : ℕ) → IsTooLarge ts at → IsTooLarge (t ∷ ts) (suc at)
later t ts at x =
    let place : at ≡ x.2 + 1 = x.3 in
    (x.0, x.1, suc x.2, omega arith, x.4, x.5, x.6, x.7)

pub good : (text : List ℕ) (ts : List Token) (rest : List ℕ) → CutsTo text ts rest → NoneTooLarge ts → AreGood ts
good text [] rest c n = tt
good text (t ∷ ts) rest c n = (fine t c.1.front c.1.spelled, small t ts n, good c.0 ts rest c.2 (λ at x. n (suc at) (later t ts at x)))

-- and so are their parts
small_front : (t : Token) (a b : List Token) → IsSmallAfter t (a ++ b) → IsSmallAfter t a
small_front (Sign sign.AtMost) (Number x ∷ a) b h = h
small_front (Sign sign.MoreThan) (Number x ∷ a) b h = h
small_front _ _ b h = tt

front_good : (a b : List Token) → AreGood (a ++ b) → AreGood a
front_good [] b g = tt
front_good (t ∷ a) b g = (g.0, small_front t a b g.1, front_good a b g.2)

behind_good : (a b : List Token) → AreGood (a ++ b) → AreGood b
behind_good [] b g = g
behind_good (t ∷ a) b g = behind_good a b g.2

-- what good tokens derive is lawful
lawful_bound : (ts : List Token) (b : Bound) → IsBound ts b → AreGood ts → is_lawful_bound b ≡ true
lawful_bound ts (AtMost n) i g =
    let h = subst AreGood i.1 g in
    subst (λ m. nat_le m 1048574 ≡ true) i.2 (le-leb (decimal_from 0 i.0) 1048574 h.2.1)
lawful_bound ts (MoreThan n) i g =
    let h = subst AreGood i.1 g in
    subst (λ m. nat_le m 1048574 ≡ true) i.2 (le-leb (decimal_from 0 i.0) 1048574 h.2.1)

lawful_term : (t : Token) (x : Term) → IsTerm t x → IsFine t → is_lawful_term x ≡ true
lawful_term (Name n) x h f = rw h f
lawful_term (Quoted n) x h f = rw h f
lawful_term (Number n) x h f = rw h f
lawful_term (Word w) x h f = absurd h
lawful_term (Sign s) x h f = absurd h

more_terms : (ts : List Token) (xs : List Term) → AreMore IsTerm ts xs → AreGood ts → list_all is_lawful_term xs ≡ true
more_terms [] [] h g = refl
more_terms (Sign sign.Comma ∷ t ∷ ts) (x ∷ xs) h g = both (is_lawful_term x) (list_all is_lawful_term xs) (lawful_term t x h.0 g.2.0) (more_terms ts xs h.1 g.2.2)
more_terms _ _ h g = absurd h

lawful_terms : (ts : List Token) (xs : List Term) → AreListed IsTerm ts xs → AreGood ts → list_all is_lawful_term xs ≡ true
lawful_terms [] [] h g = refl
lawful_terms (t ∷ ts) (x ∷ xs) h g = both (is_lawful_term x) (list_all is_lawful_term xs) (lawful_term t x h.0 g.0) (more_terms ts xs h.1 g.2)
lawful_terms _ _ h g = absurd h

lawful_param : (t : Token) (x : Text) → IsParam t x → IsFine t → is_name x ≡ true
lawful_param t x h f = subst IsFine h f

more_params : (ts : List Token) (xs : List Text) → AreMore IsParam ts xs → AreGood ts → list_all is_name xs ≡ true
more_params [] [] h g = refl
more_params (Sign sign.Comma ∷ t ∷ ts) (x ∷ xs) h g = both (is_name x) (list_all is_name xs) (lawful_param t x h.0 g.2.0) (more_params ts xs h.1 g.2.2)
more_params _ _ h g = absurd h

lawful_params : (ts : List Token) (xs : List Text) → AreListed IsParam ts xs → AreGood ts → list_all is_name xs ≡ true
lawful_params [] [] h g = refl
lawful_params (t ∷ ts) (x ∷ xs) h g = both (is_name x) (list_all is_name xs) (lawful_param t x h.0 g.0) (more_params ts xs h.1 g.2)
lawful_params _ _ h g = absurd h

abbrev IsLawful : Formula → Type 0
IsLawful f = is_lawful_formula f ≡ true

lawful_joined : (op : Binary) (s : List Token) (f g : Formula) → IsBinary s op → AreGood s → IsLawful f → IsLawful g → IsLawful (joined op f g)
lawful_joined binary.Iff s f g i h x y = both (is_lawful_formula f) (is_lawful_formula g) x y
lawful_joined binary.Implies s f g i h x y = both (is_lawful_formula f) (is_lawful_formula g) x y
lawful_joined binary.Or s f g i h x y = both (is_lawful_formula f) (is_lawful_formula g) x y
lawful_joined binary.And s f g i h x y = both (is_lawful_formula f) (is_lawful_formula g) x y
lawful_joined binary.Since s f g i h x y = both (is_lawful_formula f) (is_lawful_formula g) x y
lawful_joined (binary.TimedSince b) s f g i h x y =
    both (is_lawful_bound b) (is_lawful_formula f && is_lawful_formula g) (lawful_bound i.0 b i.2 (subst AreGood i.1 h).2) (both (is_lawful_formula f) (is_lawful_formula g) x y)

lawful_prefixed : (op : Prefix) (s : List Token) (f : Formula) → IsPrefix s op → AreGood s → IsLawful f → IsLawful (prefixed op f)
lawful_prefixed prefix.Not s f i h x = x
lawful_prefixed prefix.Prev s f i h x = x
lawful_prefixed prefix.Once s f i h x = x
lawful_prefixed prefix.Always s f i h x = x
lawful_prefixed (prefix.TimedOnce b) s f i h x = both (is_lawful_bound b) (is_lawful_formula f) (lawful_bound i.0 b i.2 (subst AreGood i.1 h).2) x
lawful_prefixed (prefix.TimedAlways b) s f i h x = both (is_lawful_bound b) (is_lawful_formula f) (lawful_bound i.0 b i.2 (subst AreGood i.1 h).2) x

lawful_quantified : (q : Quantifier) (n : Text) (f : Formula) → is_name n ≡ true → IsLawful f → IsLawful (quantified q n f)
lawful_quantified quantifier.Exists n f h x = both (is_name n) (is_lawful_formula f) h x
lawful_quantified quantifier.Forall n f h x = both (is_name n) (is_lawful_formula f) h x

abbrev AllLawful : ℕ → Type 0
AllLawful h = (level : ℕ) (ts : List Token) (f : Formula) (c : Bool) → Derives h level ts f c → AreGood ts → IsLawful f

lawful_row : (h : ℕ) → AllLawful h → (level : ℕ) (ts : List Token) (f : Formula) (c : Bool) → Row (Derives h) level ts f c → AreGood ts → IsLawful f
lawful_row h go level ts f c (by_binary op l a s b A B w i e p q) g =
    let all = subst AreGood w g in
    let rest = behind_good a (s ++ b) all in
    rw e (lawful_joined op s A B i (front_good s b rest) (go _ a A _ p (front_good a (s ++ b) all)) (go _ b B _ q (behind_good s b rest)))
lawful_row h go level ts f c (by_prefix op l s a A w i e p) g =
    let all = subst AreGood w g in
    rw e (lawful_prefixed op s A i (front_good s a all) (go _ a A _ p (behind_good s a all)))
lawful_row h go level ts f c (by_quantifier q l n a A d w e p z) g =
    let all = subst AreGood w g in
    rw e (lawful_quantified q n A all.2.0 (go _ a A _ p all.2.2.2))
lawful_row h go level ts f c (by_truth w e z) g = rw e refl
lawful_row h go level ts f c (by_falsity w e z) g = rw e refl
lawful_row h go level ts f c (by_name n w e z) g =
    let all = subst AreGood w g in
    rw e (both (is_name n) true all.0 refl)
lawful_row h go level ts f c (by_atom n us terms w l e z) g =
    let all = subst AreGood w g in
    rw e (both (is_name n) (list_all is_lawful_term terms) all.0 (lawful_terms us terms l (front_good us (Sign sign.RightParen ∷ []) all.2.2)))
lawful_row h go level ts f c (by_interval a b A B m n w e p q z) g =
    let all = subst AreGood w g in
    let rest = behind_good a (Sign sign.Comma ∷ (b ++ Sign sign.RightParen ∷ [])) all.2 in
    rw e (both (is_lawful_formula A) (is_lawful_formula B) (go _ a A _ p (front_good a (Sign sign.Comma ∷ (b ++ Sign sign.RightParen ∷ [])) all.2)) (go _ b B _ q (front_good b (Sign sign.RightParen ∷ []) rest.2)))
lawful_row h go level ts f c (by_parens a d w p z) g =
    let all = subst AreGood w g in
    go _ a f _ p (front_good a (Sign sign.RightParen ∷ []) all.2)

lawful : (h : ℕ) → AllLawful h
lawful zero level ts f c d g = absurd d
lawful (suc h) level ts f c d g = lawful_row h (lawful h) level ts f c d g

lawful_item : (head : Head) (a : List Token) (f : Formula) → IsHead a head → AreGood a → IsLawful f → is_lawful_item (item head f) ≡ true
lawful_item (PropHead n) a f i g x =
    let all = subst AreGood i g in
    both (is_name n) (is_lawful_formula f) all.2.0 x
lawful_item (PredHead n xs) a f i g x =
    let all = subst AreGood i.1 g in
    let params = lawful_params i.0 xs i.2 (front_good i.0 (Sign sign.RightParen ∷ Sign sign.Equals ∷ []) all.2.2.2) in
    both (is_name n) (list_all is_name xs && is_lawful_formula f) all.2.0 (both (list_all is_name xs) (is_lawful_formula f) params x)

-- what good tokens spell is lawful
pub lawful_items : (h : ℕ) (ts : List Token) (items : List Item) → Spells h ts items → AreGood ts → are_lawful items ≡ true
lawful_items h ts [] s g = refl
lawful_items h ts (one ∷ items) s g =
    let all = subst AreGood s.6 g in
    let rest = behind_good s.2 (s.3 ++ s.4) all in
    let this = lawful h 0 s.3 s.1 s.8.0 s.8.1 (front_good s.3 s.4 rest) in
    let first : is_lawful_item one ≡ true = rw s.5 (lawful_item s.0 s.2 s.1 s.7 (front_good s.2 (s.3 ++ s.4) all) this) in
    both (is_lawful_item one) (are_lawful items) first (lawful_items h s.4 items s.9 (behind_good s.3 s.4 rest))
