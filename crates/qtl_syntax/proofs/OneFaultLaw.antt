-- A text has at most one fault, and then spells nothing within the limits.
use Rattle.std.proofs.Common.{◌≡◌, ℕ, zero, suc, ◌+◌, ◌≤◌, List, [], ◌∷◌, ◌++◌, take, drop, Some, max, refl, sym, ap, ◌∙◌, subst, arith, add-one, inl, inr}
use Rattle.std.specs.Prelude.{slice_get}
use Rattle.std.proofs.lemmas.Option.{slice_get_within}
use Rattle.std.proofs.lemmas.List.{take-append-drop}
use Rattle.qtl_syntax.specs.declared.token.Token.{Token}
use Rattle.qtl_syntax.specs.declared.token.Token.TheVariants.{Number, Sign}
use Rattle.qtl_syntax.specs.declared.fault.SpecFault.{SpecFault}
use Rattle.qtl_syntax.specs.declared.fault.SpecFault.TheVariants as fault
use Rattle.qtl_syntax.specs.Tree.{Text, Item}
use Rattle.qtl_syntax.specs.Grammar.{Spells}
use Rattle.qtl_syntax.specs.Places.{BeginsWithin, Refusal, Syntax, TooDeep, BoundTooLarge, IsTooLarge, IsRefusedAt, IsRefused}
use Rattle.qtl_syntax.specs.Machine.{OfNumber}
use Rattle.qtl_syntax.specs.Reading.{Spot, Inside, Place, begun, place_next, next_place, beginning, least_in, least_of, run}
use Rattle.qtl_syntax.specs.Faults.{SpellsWithin, IsRefusedText, IsFault, OneFault, FaultsSpellNothing, OneSpelled}
use Rattle.qtl_syntax.proofs.CompleteItems.{none, was_some}
use Rattle.qtl_syntax.proofs.Once.{cuts_once, cuts_or_not, one_place}
use Rattle.qtl_syntax.proofs.Reach.{begins_reached, reached_begins, begins_higher, run_one}
use Rattle.qtl_syntax.proofs.Law.{WantsNumber, compared_place, is_compare, reached_one, run_front}
use Rattle.qtl_syntax.proofs.FaultLaw.{spelled_once}

-- behind <= or > each number goes on, and adds no height
number_goes : (p : Place) (spot : Spot) (n : Text) → WantsNumber spot → (q : Place) × (place_next p spot (Number n) (begun (Number n)) ≡ Some q) × (least_of q ≡ max p.tallest (least_in spot))
number_goes p (Inside head (OfNumber frames w most)) n h = (_, refl, refl)
number_goes p _ n h = absurd h

take_one : (ts : List Token) (i : ℕ) (t : Token) → slice_get ts i ≡ Some t → take (suc i) ts ≡ take i ts ++ t ∷ []
take_one [] i t e = none t e
take_one (u ∷ ts) zero t e = ap (λ v. v ∷ []) (sym (was_some u t e))
take_one (u ∷ ts) (suc i) t e = ap (λ v. u ∷ v) (take_one ts i t e)

take_next : (ts : List Token) (i : ℕ) (t : Token) → slice_get ts i ≡ Some t → take (i + 1) ts ≡ take i ts ++ t ∷ []
take_next ts i t e = rw (add-one) (take_one ts i t e)

-- where the tokens before a large number begin a specification, those with it begin one that is no higher
number_begins : (h : ℕ) (ts : List Token) (at : ℕ) → IsTooLarge ts at → BeginsWithin h (take at ts) → BeginsWithin h (take (at + 1) ts)
number_begins h ts at x b =
    let i = x.2 in
    let r = begins_reached h (take at ts) b in
    let front : take at ts ≡ take i ts ++ Sign x.1 ∷ [] = ap (λ n. take n ts) x.3 ∙ take_next ts i (Sign x.1) x.4 in
    let run_is : run beginning (take i ts ++ Sign x.1 ∷ []) ≡ Some r.0 = ap (run beginning) (sym front) ∙ r.1 in
    let f = run_front (take i ts) (Sign x.1 ∷ []) beginning r.0 run_is in
    let step : next_place f.0 (Sign x.1) ≡ Some r.0 = sym (run_one (take i ts) (Sign x.1) beginning f.0 f.1) ∙ run_is in
    let wants = compared_place f.0 f.0.spot (Sign x.1) r.0 (is_compare x.1 x.5) step in
    let g = number_goes r.0 r.0.spot x.0 wants in
    let all = reached_begins (take at ts ++ Number x.0 ∷ []) g.0 (reached_one (take at ts) (Number x.0) r.0 g.0 r.1 g.1) in
    let low : least_of r.0 ≤ h = r.2 in
    let same : least_of g.0 ≡ least_of r.0 = g.2 in
    subst (BeginsWithin h) (sym (take_next ts at (Number x.0) x.6)) (begins_higher (least_of g.0) h (subst (λ n. n ≤ h) (sym same) low) (take at ts ++ Number x.0 ∷ []) all)

syntax_not_deep : (ts : List Token) (at : ℕ) → IsRefusedAt ts Syntax at → IsRefusedAt ts TooDeep at → ⊥
syntax_not_deep ts at (inl x) y = x.2 y.2
syntax_not_deep ts at (inr x) y = let a = x.0 in let b = y.0 in omega arith

syntax_not_large : (ts : List Token) (at : ℕ) → IsRefusedAt ts Syntax at → IsTooLarge ts at → ⊥
syntax_not_large ts at (inl x) y = x.2 (x.1.0, number_begins x.1.0 ts at y x.1.1)
syntax_not_large ts at (inr x) y = let a = x.0 in let b = slice_get_within ts at (Number y.0) y.6 in omega arith

deep_not_large : (ts : List Token) (at : ℕ) → IsRefusedAt ts TooDeep at → IsTooLarge ts at → ⊥
deep_not_large ts at x y = x.3 (number_begins 256 ts at y x.1)

-- at one token at most one rule holds
same_rule : (ts : List Token) (at : ℕ) (a b : Refusal) → IsRefusedAt ts a at → IsRefusedAt ts b at → a ≡ b
same_rule ts at Syntax Syntax x y = refl
same_rule ts at Syntax TooDeep x y = absurd (syntax_not_deep ts at x y)
same_rule ts at Syntax BoundTooLarge x y = absurd (syntax_not_large ts at x y)
same_rule ts at TooDeep Syntax x y = absurd (syntax_not_deep ts at y x)
same_rule ts at TooDeep TooDeep x y = refl
same_rule ts at TooDeep BoundTooLarge x y = absurd (deep_not_large ts at x y)
same_rule ts at BoundTooLarge Syntax x y = absurd (syntax_not_large ts at y x)
same_rule ts at BoundTooLarge TooDeep x y = absurd (deep_not_large ts at y x)
same_rule ts at BoundTooLarge BoundTooLarge x y = refl

abbrev fault_of : Refusal → ℕ → SpecFault
fault_of Syntax at = fault.Syntax at
fault_of TooDeep at = fault.TooDeep at
fault_of BoundTooLarge at = fault.BoundTooLarge at

same_refused : (ts : List Token) (a b : Refusal) (n m : ℕ) → IsRefused ts a n → IsRefused ts b m → fault_of a n ≡ fault_of b m
same_refused ts a b n m x y =
    let one = x.least b m y.there in
    let two = y.least a n x.there in
    let place : n ≡ m = omega arith in
    let rule : a ≡ b = same_rule ts m a b (subst (IsRefusedAt ts a) place x.there) y.there in
    rw (place, rule) refl

one_refused : (text : List ℕ) (a b : Refusal) (n m : ℕ) → IsRefusedText text a n → IsRefusedText text b m → fault_of a n ≡ fault_of b m
one_refused text a b n m x y =
    let same : y.0 ≡ x.0 = cuts_once text y.0 x.0 y.1 x.1 in
    same_refused x.0 a b n m x.2 (subst (λ ts. IsRefused ts b m) same y.2)

not_both : {A : Type 0} (text : List ℕ) (at : ℕ) (a : Refusal) (n : ℕ) → IsFault text (fault.NotToken at) → IsRefusedText text a n → A
not_both text at a n x y = absurd (cuts_or_not text y.0 at y.1 x)

pub one_fault : OneFault
one_fault text (fault.NotToken n) (fault.NotToken m) p q x y = ap fault.NotToken (one_place text n m x y)
one_fault text (fault.NotToken n) (fault.Syntax m) p q x y = not_both text n Syntax m x y
one_fault text (fault.NotToken n) (fault.TooDeep m) p q x y = not_both text n TooDeep m x y
one_fault text (fault.NotToken n) (fault.BoundTooLarge m) p q x y = not_both text n BoundTooLarge m x y
one_fault text (fault.Syntax n) (fault.NotToken m) p q x y = not_both text m Syntax n y x
one_fault text (fault.Syntax n) (fault.Syntax m) p q x y = one_refused text Syntax Syntax n m x y
one_fault text (fault.Syntax n) (fault.TooDeep m) p q x y = one_refused text Syntax TooDeep n m x y
one_fault text (fault.Syntax n) (fault.BoundTooLarge m) p q x y = one_refused text Syntax BoundTooLarge n m x y
one_fault text (fault.TooDeep n) (fault.NotToken m) p q x y = not_both text m TooDeep n y x
one_fault text (fault.TooDeep n) (fault.Syntax m) p q x y = one_refused text TooDeep Syntax n m x y
one_fault text (fault.TooDeep n) (fault.TooDeep m) p q x y = one_refused text TooDeep TooDeep n m x y
one_fault text (fault.TooDeep n) (fault.BoundTooLarge m) p q x y = one_refused text TooDeep BoundTooLarge n m x y
one_fault text (fault.BoundTooLarge n) (fault.NotToken m) p q x y = not_both text m BoundTooLarge n y x
one_fault text (fault.BoundTooLarge n) (fault.Syntax m) p q x y = one_refused text BoundTooLarge Syntax n m x y
one_fault text (fault.BoundTooLarge n) (fault.TooDeep m) p q x y = one_refused text BoundTooLarge TooDeep n m x y
one_fault text (fault.BoundTooLarge n) (fault.BoundTooLarge m) p q x y = one_refused text BoundTooLarge BoundTooLarge n m x y
one_fault text fault.NoMemory other p q x y = absurd (p refl)
one_fault text one fault.NoMemory p q x y = absurd (q refl)

-- the first tokens of a specification begin one
pub begins : (h n : ℕ) (ts : List Token) (items : List Item) → Spells h ts items → BeginsWithin h (take n ts)
begins h n ts items s = (drop n ts, items, subst (λ v. Spells h v items) (sym (take-append-drop n ts)) s)

abbrev Clear : List Token → Type 0
Clear ts = (at : ℕ) → ¬ IsTooLarge ts at

refuses : (ts : List Token) (a : Refusal) (at : ℕ) (items : List Item) → IsRefusedAt ts a at → Spells 256 ts items → Clear ts → ⊥
refuses ts Syntax at items (inl x) s c = x.2 (256, begins 256 (at + 1) ts items s)
refuses ts Syntax at items (inr x) s c = x.2 (256, items, s)
refuses ts TooDeep at items x s c = x.3 (begins 256 (at + 1) ts items s)
refuses ts BoundTooLarge at items x s c = c at x

refuses_text : (text : List ℕ) (a : Refusal) (at : ℕ) (items : List Item) → IsRefusedText text a at → ¬ SpellsWithin text items
refuses_text text a at items x s =
    let same : s.0 ≡ x.0 = cuts_once text s.0 x.0 s.1 x.1 in
    refuses x.0 a at items x.2.there (subst (λ v. Spells 256 v items) same s.2) (subst Clear same s.3)

pub faults_spell_nothing : FaultsSpellNothing
faults_spell_nothing text (fault.NotToken at) items p x s = cuts_or_not text s.0 at s.1 x
faults_spell_nothing text (fault.Syntax at) items p x s = refuses_text text Syntax at items x s
faults_spell_nothing text (fault.TooDeep at) items p x s = refuses_text text TooDeep at items x s
faults_spell_nothing text (fault.BoundTooLarge at) items p x s = refuses_text text BoundTooLarge at items x s
faults_spell_nothing text fault.NoMemory items p x s = p refl

pub one_spelled : OneSpelled
one_spelled text height items others s t = spelled_once text s.0 items s.1 s.2 height others t
