-- What the parser's code does token by token is the parser's answer.
use Rattle.std.proofs.Common.{◌≡◌, ℕ, suc, ◌+◌, ◌<◌, ◌≤◌, List, ◌∷◌, length, drop, get_or, Option, Some, None, true, false, refl, sym, ap, ◌∙◌, subst, arith, add-one, drop-cons}
use Rattle.std.specs.Prelude.{nat_le, if◌then◌else◌, Result, Ok, Err, IfErr, IsErrAnd}
use Rattle.std.specs.Option.{option_map}
use Rattle.qtl_syntax.specs.declared.token.Token.{Token}
use Rattle.qtl_syntax.specs.declared.token.Token.TheVariants.{Number}
use Rattle.qtl_syntax.specs.declared.read.ReadEnd.{ReadEnd}
use Rattle.qtl_syntax.specs.declared.read.ReadEnd.TheVariants as read_end
use Rattle.qtl_syntax.specs.Tree.{Item}
use Rattle.qtl_syntax.specs.Grammar.{Spells}
use Rattle.qtl_syntax.specs.Places.{Refusal, Syntax, TooDeep, BoundTooLarge, IsRefusedAt}
use Rattle.qtl_syntax.specs.Machine.{OfNumber}
use Rattle.qtl_syntax.specs.Reading.{Spot, Inside, Place, begun, place_next, next_place, Read, ended, beginning, least_of}
use Rattle.qtl_syntax.specs.Judge.{Verdict, Good, Bad, is_large, judged_on, ending, judge}
use Rattle.qtl_syntax.specs.Stops.{StepsTo, IsStopped}
use Rattle.qtl_syntax.specs.Answer.{IsRefusedBy}
use Rattle.qtl_syntax.proofs.CompleteItems.{none, was_some}
use Rattle.qtl_syntax.proofs.Law.{Answers, judge_right}
use Rattle.std.proofs.lemmas.Bool.{le-leb}
use Rattle.std.proofs.Math.ListN.{drop_of_length-le}

-- the answer from a place on is that from the beginning
abbrev pub StandsAt : List Token → Place → ℕ → Type 0
StandsAt ts p i = judge beginning 0 ts ≡ judge p i (drop i ts)

there : (ts : List Token) (i : ℕ) (t : Token) → i < length ts → get_or ts i t ≡ t → drop i ts ≡ t ∷ drop (i + 1) ts
there ts i t h e = rw (add-one) (drop-cons ts i t h ∙ ap (λ u. u ∷ drop (suc i) ts) e)

judged : (p : Place) (ts us : List Token) (t : Token) (i : ℕ) → StandsAt ts p i → drop i ts ≡ t ∷ us →
    judge beginning 0 ts ≡ judged_on i (is_large p.spot t) (next_place p t) (λ q. judge q (i + 1) us)
judged p ts us t i s e = s ∙ ap (judge p i) e

low_goes : (n i : ℕ) (v : Verdict) → n ≤ 256 → (if nat_le n 256 then v else Bad TooDeep i) ≡ v
low_goes n i v h = rw (le-leb n 256 h) refl

-- one token on
pub stands_on : (ts : List Token) (p q : Place) (t : Token) (i : ℕ) → i < length ts → get_or ts i t ≡ t → StepsTo p t q → StandsAt ts p i → StandsAt ts q (i + 1)
stands_on ts p q t i h e s a =
    let x = judged p ts (drop (i + 1) ts) t i a (there ts i t h e) in
    rw (s.small, s.next) at x ∙ low_goes (least_of q) i (judge q (i + 1) (drop (i + 1) ts)) s.low

-- the number of a bound is never out of place
large_goes : (p : Place) (spot : Spot) (t : Token) → is_large spot t ≡ true → (q : Place) × (place_next p spot t (begun t) ≡ Some q)
large_goes p (Inside head (OfNumber frames w most)) (Number x) e = (_, refl)
large_goes p spot t e = cc

answered : (ts : List Token) (v : Verdict) → judge beginning 0 ts ≡ v → Answers ts v
answered ts v e = subst (Answers ts) e (judge_right ts)

deep : (o : Option Place) (i : ℕ) (go : Place → Verdict) → option_map (λ q. nat_le (least_of q) 256) o ≡ Some false → judged_on i false o go ≡ Bad TooDeep i
deep None i go e = none false e
deep (Some q) i go e = rw (sym (was_some _ _ e)) refl

-- a token that is refused is so by the least place
pub stopped : (ts : List Token) (p : Place) (t : Token) (i : ℕ) (e : ReadEnd) → i < length ts → get_or ts i t ≡ t → StandsAt ts p i → IsStopped p t i e → IsRefusedBy ts e
stopped ts p t i (read_end.Syntax n) h g a s =
    let x = judged p ts (drop (i + 1) ts) t i a (there ts i t h g) in
    rw s.0 (answered ts (Bad Syntax i) (rw s.1 at x))
stopped ts p t i (read_end.TooDeep n) h g a s =
    let x = judged p ts (drop (i + 1) ts) t i a (there ts i t h g) in
    rw s.0 (answered ts (Bad TooDeep i) (rw s.1 at x ∙ deep (next_place p t) i _ s.2))
stopped ts p t i (read_end.BoundTooLarge n) h g a s =
    let x = judged p ts (drop (i + 1) ts) t i a (there ts i t h g) in
    let q = large_goes p p.spot t s.1 in
    rw s.0 (answered ts (Bad BoundTooLarge i) (rw (s.1, q.1) at x))
stopped ts p t i read_end.NoMemory h g a s = tt

abbrev items_in : Read → List Item
items_in r = r.0

read_of : (o : Option Read) (items : List Item) → Some items ≡ option_map items_in o → (r : Read) × (o ≡ Some r) × (r.0 ≡ items)
read_of None items e = none items (sym e)
read_of (Some r) items e = (r, refl, was_some _ _ e)

-- at the end the items are those that are spelled, and no rule holds anywhere
pub all_read : (ts : List Token) (p : Place) (i : ℕ) (items : List Item) → length ts ≤ i → StandsAt ts p i → Some items ≡ option_map items_in (ended p p.spot) →
    Spells 256 ts items × ((other : Refusal) (place : ℕ) → ¬ IsRefusedAt ts other place)
all_read ts p i items h a e =
    let r = read_of (ended p p.spot) items e in
    let x : judge beginning 0 ts ≡ Good r.0 = a ∙ (ap (judge p i) (drop_of_length-le ts {i = i} h) ∙ ap (ending i) r.1) in
    let y = answered ts (Good r.0) x in
    (subst (Spells 256 ts) r.2 y.0, y.1)

-- or the tokens may not end there
none_read : (o : Option Read) → None ≡ option_map items_in o → o ≡ None
none_read None e = refl
none_read (Some r) e = cc

pub ends_early : (ts : List Token) (p : Place) (i : ℕ) → length ts ≡ i → StandsAt ts p i → None ≡ option_map items_in (ended p p.spot) →
    IsRefusedBy ts (read_end.Syntax i)
ends_early ts p i h a e =
    let x : judge beginning 0 ts ≡ Bad Syntax i = a ∙ (ap (judge p i) (drop_of_length-le ts {i = i} (omega arith)) ∙ ap (ending i) (none_read (ended p p.spot) e)) in
    answered ts (Bad Syntax i) x

-- an error that is passed on keeps what is said of it
pub passed_on : {A : Type 0} (r : Result A ReadEnd) (P : ReadEnd → Type 0) (e : ReadEnd) → P e → IsErrAnd r (λ x. x ≡ e) → IfErr r P
passed_on (Ok a) P e p h = absurd h
passed_on (Err x) P e p h = subst P (sym h) p
