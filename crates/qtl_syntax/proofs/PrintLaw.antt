-- What the canonical text spells, and that it is read back.
use Rattle.std.proofs.Common.{◌≡◌, ℕ, zero, suc, ◌+◌, ◌<◌, ◌≤◌, List, [], ◌∷◌, ◌++◌, Some, Bool, true, false, max, refl, sym, subst, arith, inl, inr}
use Rattle.std.specs.Prelude.{◌&&◌, decimal, slice_get}
use Rattle.std.specs.List.{list_all}
use Rattle.std.proofs.lemmas.Bool.{leb-true}
use Rattle.qtl_syntax.specs.declared.formula.Term.{Term}
use Rattle.qtl_syntax.specs.declared.formula.Term.TheVariants.{Variable, Constant}
use Rattle.qtl_syntax.specs.declared.formula.Bound.{Bound}
use Rattle.qtl_syntax.specs.declared.formula.Bound.TheVariants as bound
use Rattle.qtl_syntax.specs.declared.token.Word.TheVariants as word
use Rattle.qtl_syntax.specs.declared.token.Sign.TheVariants as sign
use Rattle.qtl_syntax.specs.declared.token.Token.{Token}
use Rattle.qtl_syntax.specs.declared.token.Token.TheVariants.{Number, Word, Sign}
use Rattle.qtl_syntax.specs.Tree.{Text, Formula, True, False, Atom, Not, And, Or, Implies, Iff, Prev, Since, TimedSince, Once, TimedOnce, Always, TimedAlways, Interval, Exists, Forall, Item, Pred, Prop}
use Rattle.qtl_syntax.specs.Cuts.{is_name, CutsTo}
use Rattle.qtl_syntax.specs.Grammar.{decimal_from, IsBound, IsParam, AreMore, AreListed, Derives, PropHead, PredHead, Spells}
use Rattle.qtl_syntax.specs.Places.{Syntax, TooDeep, BoundTooLarge, IsTooLarge, IsRefusedAt}
use Rattle.qtl_syntax.specs.Lawful.{is_lawful_bound, is_lawful_formula, is_lawful_item, are_lawful}
use Rattle.qtl_syntax.specs.Reading.{beginning}
use Rattle.qtl_syntax.specs.Judge.{Verdict, Good, Bad, judge}
use Rattle.qtl_syntax.specs.Canonical.{is_plain, canonical}
use Rattle.qtl_syntax.specs.Faults.{SpellsText, ReadsBack}
use Rattle.qtl_syntax.proofs.Longest.{and_parts}
use Rattle.qtl_syntax.proofs.CompleteItems.{none, was_some}
use Rattle.qtl_syntax.proofs.Rows.{higher}
use Rattle.qtl_syntax.proofs.SoundItems.{spells_higher}
use Rattle.qtl_syntax.proofs.Once.{cuts_once}
use Rattle.qtl_syntax.proofs.Law.{Answers, judge_right, one_specification}
use Rattle.qtl_syntax.proofs.OneFaultLaw.{begins}
use Rattle.qtl_syntax.proofs.Decimals.{decimal_reads}
use Rattle.qtl_syntax.proofs.Shown.{shown_term, shown_more, shown_atom, shown_bound, in_parens, shown, shown_params, shown_listed, shown_head, body_of, shown_items}
use Rattle.qtl_syntax.proofs.ShownLaw.{BoundsRead, spelled}
use Rattle.qtl_syntax.proofs.ShownCut.{cut_items}

-- bounds are read back
bound_reads : (b : Bound) → is_lawful_bound b ≡ true → IsBound (shown_bound b) b
bound_reads (bound.AtMost n) e = (decimal n, refl, decimal_reads n (leb-true n 1048574 e))
bound_reads (bound.MoreThan n) e = (decimal n, refl, decimal_reads n (leb-true n 1048574 e))

bounds_read : (f : Formula) → is_lawful_formula f ≡ true → BoundsRead f
bounds_read True e = tt
bounds_read False e = tt
bounds_read (Atom n terms) e = tt
bounds_read (Not f) e = bounds_read f e
bounds_read (And f g) e = let q = and_parts (is_lawful_formula f) (is_lawful_formula g) e in (bounds_read f q.0, bounds_read g q.1)
bounds_read (Or f g) e = let q = and_parts (is_lawful_formula f) (is_lawful_formula g) e in (bounds_read f q.0, bounds_read g q.1)
bounds_read (Implies f g) e = let q = and_parts (is_lawful_formula f) (is_lawful_formula g) e in (bounds_read f q.0, bounds_read g q.1)
bounds_read (Iff f g) e = let q = and_parts (is_lawful_formula f) (is_lawful_formula g) e in (bounds_read f q.0, bounds_read g q.1)
bounds_read (Prev f) e = bounds_read f e
bounds_read (Since f g) e = let q = and_parts (is_lawful_formula f) (is_lawful_formula g) e in (bounds_read f q.0, bounds_read g q.1)
bounds_read (TimedSince b f g) e =
    let p = and_parts (is_lawful_bound b) (is_lawful_formula f && is_lawful_formula g) e in
    let q = and_parts (is_lawful_formula f) (is_lawful_formula g) p.1 in
    (bound_reads b p.0, bounds_read f q.0, bounds_read g q.1)
bounds_read (Once f) e = bounds_read f e
bounds_read (TimedOnce b f) e = let p = and_parts (is_lawful_bound b) (is_lawful_formula f) e in (bound_reads b p.0, bounds_read f p.1)
bounds_read (Always f) e = bounds_read f e
bounds_read (TimedAlways b f) e = let p = and_parts (is_lawful_bound b) (is_lawful_formula f) e in (bound_reads b p.0, bounds_read f p.1)
bounds_read (Interval f g) e = let q = and_parts (is_lawful_formula f) (is_lawful_formula g) e in (bounds_read f q.0, bounds_read g q.1)
bounds_read (Exists x f) e = bounds_read f (and_parts (is_name x) (is_lawful_formula f) e).1
bounds_read (Forall x f) e = bounds_read f (and_parts (is_name x) (is_lawful_formula f) e).1

-- the tokens of the canonical text spell the items
params_more : (xs : List Text) → AreMore IsParam (shown_params xs) xs
params_more [] = tt
params_more (x ∷ xs) = (refl, params_more xs)

params_are : (xs : List Text) → AreListed IsParam (shown_listed xs) xs
params_are [] = tt
params_are (x ∷ xs) = (refl, params_more xs)

lawful_body : (i : Item) → is_lawful_item i ≡ true → is_lawful_formula (body_of i) ≡ true
lawful_body (Prop n f) e = (and_parts (is_name n) (is_lawful_formula f) e).1
lawful_body (Pred n xs f) e = (and_parts (list_all is_name xs) (is_lawful_formula f) (and_parts (is_name n) (list_all is_name xs && is_lawful_formula f) e).1).1

item_spelled : (h : ℕ) (i : Item) (items : List Item) (c : Bool) → Derives h 0 (shown (body_of i)) (body_of i) c → Spells h (shown_items items) items → Spells h (shown_items (i ∷ items)) (i ∷ items)
item_spelled h (Prop n f) items c d s = (PropHead n, f, shown_head (Prop n f), shown f, shown_items items, refl, refl, refl, (c, d), s)
item_spelled h (Pred n xs f) items c d s = (PredHead n xs, f, shown_head (Pred n xs f), shown f, shown_items items, refl, refl, (shown_listed xs, refl, params_are xs), (c, d), s)

items_spelled : (items : List Item) → are_lawful items ≡ true → (h : ℕ) × Spells h (shown_items items) items
items_spelled [] e = (0, refl)
items_spelled (i ∷ items) e =
    let q = and_parts (is_lawful_item i) (are_lawful items) e in
    let x = spelled (body_of i) (bounds_read (body_of i) (lawful_body i q.0)) in
    let y = items_spelled items q.1 in
    let d = higher x.0 (max x.0 y.0) (omega arith) 0 0 (shown (body_of i)) (body_of i) x.1 (omega arith) x.2 in
    (max x.0 y.0, item_spelled (max x.0 y.0) i items x.1 d (spells_higher y.0 (max x.0 y.0) (omega arith) (shown_items items) items y.1))

-- no number in them is large
abbrev IsSmall : Token → Type 0
IsSmall (Number t) = decimal_from 0 t ≤ 1048574
IsSmall _ = Unit {0}

abbrev AreSmall : List Token → Type 0
AreSmall [] = Unit {0}
AreSmall (t ∷ ts) = IsSmall t × AreSmall ts

both_small : (a b : List Token) → AreSmall a → AreSmall b → AreSmall (a ++ b)
both_small [] b x y = y
both_small (t ∷ a) b x y = (x.0, both_small a b x.1 y)

small_at : (ts : List Token) (i : ℕ) (t : Token) → AreSmall ts → slice_get ts i ≡ Some t → IsSmall t
small_at [] i t s e = none t e
small_at (u ∷ ts) zero t s e = rw (was_some u t e) s.0
small_at (u ∷ ts) (suc i) t s e = small_at ts i t s.1 e

too_small : (n : ℕ) → n ≤ 1048574 → 1048574 < n → ⊥
too_small n a b = omega arith

none_large : (ts : List Token) → AreSmall ts → (at : ℕ) → ¬ IsTooLarge ts at
none_large ts s at x = too_small (decimal_from 0 x.0) (small_at ts at (Number x.0) s x.6) x.7

bound_small : (b : Bound) → is_lawful_bound b ≡ true → AreSmall (shown_bound b)
bound_small (bound.AtMost n) e = let l = leb-true n 1048574 e in (tt, (tt, (subst (λ m. m ≤ 1048574) (sym (decimal_reads n l)) l, (tt, tt))))
bound_small (bound.MoreThan n) e = let l = leb-true n 1048574 e in (tt, (tt, (subst (λ m. m ≤ 1048574) (sym (decimal_reads n l)) l, (tt, tt))))

term_small : (t : Term) → IsSmall (shown_term t)
term_small (Variable x) = tt
term_small (Constant c) = tt

more_small : (ts : List Term) → AreSmall (shown_more ts)
more_small [] = tt
more_small (t ∷ ts) = (tt, (term_small t, more_small ts))

wrapped_small : (b : Bool) (ts : List Token) → AreSmall ts → AreSmall (in_parens b ts)
wrapped_small true ts s = s
wrapped_small false ts s = (tt, both_small ts (Sign sign.RightParen ∷ []) s (tt, tt))

atom_small : (n : Text) (ts : List Term) → AreSmall (shown_atom n ts)
atom_small n [] = (tt, tt)
atom_small n (t ∷ ts) = (tt, (tt, both_small (shown_term t ∷ shown_more ts) (Sign sign.RightParen ∷ []) (term_small t, more_small ts) (tt, tt)))

one_small : (f : Formula) (ss : List Token) → AreSmall ss → AreSmall (shown f) → AreSmall (ss ++ in_parens (is_plain f) (shown f))
one_small f ss m s = both_small ss (in_parens (is_plain f) (shown f)) m (wrapped_small (is_plain f) (shown f) s)

two_small : (f g : Formula) (ss : List Token) → AreSmall ss → AreSmall (shown f) → AreSmall (shown g) → AreSmall (in_parens (is_plain f) (shown f) ++ (ss ++ in_parens (is_plain g) (shown g)))
two_small f g ss m s r = both_small (in_parens (is_plain f) (shown f)) (ss ++ in_parens (is_plain g) (shown g)) (wrapped_small (is_plain f) (shown f) s) (one_small g ss m r)

formula_small : (f : Formula) → is_lawful_formula f ≡ true → AreSmall (shown f)
formula_small True e = (tt, tt)
formula_small False e = (tt, tt)
formula_small (Atom n terms) e = atom_small n terms
formula_small (Not f) e = one_small f (Sign sign.Not ∷ []) (tt, tt) (formula_small f e)
formula_small (And f g) e = let q = and_parts (is_lawful_formula f) (is_lawful_formula g) e in two_small f g (Sign sign.And ∷ []) (tt, tt) (formula_small f q.0) (formula_small g q.1)
formula_small (Or f g) e = let q = and_parts (is_lawful_formula f) (is_lawful_formula g) e in two_small f g (Sign sign.Or ∷ []) (tt, tt) (formula_small f q.0) (formula_small g q.1)
formula_small (Implies f g) e = let q = and_parts (is_lawful_formula f) (is_lawful_formula g) e in two_small f g (Sign sign.Implies ∷ []) (tt, tt) (formula_small f q.0) (formula_small g q.1)
formula_small (Iff f g) e = let q = and_parts (is_lawful_formula f) (is_lawful_formula g) e in two_small f g (Sign sign.Iff ∷ []) (tt, tt) (formula_small f q.0) (formula_small g q.1)
formula_small (Prev f) e = one_small f (Sign sign.Prev ∷ []) (tt, tt) (formula_small f e)
formula_small (Since f g) e = let q = and_parts (is_lawful_formula f) (is_lawful_formula g) e in two_small f g (Word word.Since ∷ []) (tt, tt) (formula_small f q.0) (formula_small g q.1)
formula_small (TimedSince b f g) e =
    let p = and_parts (is_lawful_bound b) (is_lawful_formula f && is_lawful_formula g) e in
    let q = and_parts (is_lawful_formula f) (is_lawful_formula g) p.1 in
    two_small f g (Word word.Since ∷ shown_bound b) (tt, bound_small b p.0) (formula_small f q.0) (formula_small g q.1)
formula_small (Once f) e = one_small f (Word word.Once ∷ []) (tt, tt) (formula_small f e)
formula_small (TimedOnce b f) e = let p = and_parts (is_lawful_bound b) (is_lawful_formula f) e in one_small f (Word word.Once ∷ shown_bound b) (tt, bound_small b p.0) (formula_small f p.1)
formula_small (Always f) e = one_small f (Word word.Always ∷ []) (tt, tt) (formula_small f e)
formula_small (TimedAlways b f) e = let p = and_parts (is_lawful_bound b) (is_lawful_formula f) e in one_small f (Word word.Always ∷ shown_bound b) (tt, bound_small b p.0) (formula_small f p.1)
formula_small (Interval f g) e =
    let q = and_parts (is_lawful_formula f) (is_lawful_formula g) e in
    (tt, both_small (shown f) (Sign sign.Comma ∷ (shown g ++ Sign sign.RightParen ∷ [])) (formula_small f q.0) (tt, both_small (shown g) (Sign sign.RightParen ∷ []) (formula_small g q.1) (tt, tt)))
formula_small (Exists x f) e = (tt, (tt, (tt, formula_small f (and_parts (is_name x) (is_lawful_formula f) e).1)))
formula_small (Forall x f) e = (tt, (tt, (tt, formula_small f (and_parts (is_name x) (is_lawful_formula f) e).1)))

params_small : (xs : List Text) → AreSmall (shown_params xs)
params_small [] = tt
params_small (x ∷ xs) = (tt, (tt, params_small xs))

listed_small : (xs : List Text) → AreSmall (shown_listed xs)
listed_small [] = tt
listed_small (x ∷ xs) = (tt, params_small xs)

head_small : (i : Item) → AreSmall (shown_head i)
head_small (Prop n f) = (tt, (tt, (tt, tt)))
head_small (Pred n xs f) = (tt, (tt, (tt, both_small (shown_listed xs) (Sign sign.RightParen ∷ Sign sign.Equals ∷ []) (listed_small xs) (tt, (tt, tt)))))

items_small : (items : List Item) → are_lawful items ≡ true → AreSmall (shown_items items)
items_small [] e = tt
items_small (i ∷ items) e =
    let q = and_parts (is_lawful_item i) (are_lawful items) e in
    both_small (shown_head i) (shown (body_of i) ++ shown_items items) (head_small i) (both_small (shown (body_of i)) (shown_items items) (formula_small (body_of i) (lawful_body i q.0)) (items_small items q.1))

-- what the canonical text spells
pub print_spelled : (items : List Item) → are_lawful items ≡ true → (h : ℕ) × SpellsText h (canonical items) items
print_spelled items e = let s = items_spelled items e in (s.0, (shown_items items, cut_items items e, s.1))

pub print_only : (items : List Item) → are_lawful items ≡ true → (h : ℕ) (others : List Item) → SpellsText h (canonical items) others → others ≡ items
print_only items e h others t =
    let s = items_spelled items e in
    let same : t.0 ≡ shown_items items = cuts_once (canonical items) t.0 (shown_items items) t.1 (cut_items items e) in
    one_specification h s.0 (shown_items items) others items (subst (λ v. Spells h v others) same t.2) s.1

-- it is read back, or too deep
back : (v : Verdict) (text : List ℕ) (ts : List Token) (h : ℕ) (items : List Item) → CutsTo text ts [] → Spells h ts items → ((at : ℕ) → ¬ IsTooLarge ts at) → Answers ts v → ReadsBack text items
back (Good r) text ts h items c s n a = inl (ts, c, subst (Spells 256 ts) (one_specification 256 h ts r.0 items a.0 s) a.0, n)
back (Bad TooDeep at) text ts h items c s n a = inr (at, (ts, c, a))
back (Bad BoundTooLarge at) text ts h items c s n a = absurd (n at a.there)
back (Bad Syntax at) text ts h items c s n a = absurd (no_syntax a.there)
  where
    no_syntax : IsRefusedAt ts Syntax at → ⊥
    no_syntax (inl x) = x.2 (h, begins h (at + 1) ts items s)
    no_syntax (inr x) = x.2 (h, items, s)

pub print_back : (items : List Item) → are_lawful items ≡ true → ReadsBack (canonical items) items
print_back items e =
    let s = items_spelled items e in
    back (judge beginning 0 (shown_items items)) (canonical items) (shown_items items) s.0 items (cut_items items e) s.1 (none_large (shown_items items) (items_small items e)) (judge_right (shown_items items))
