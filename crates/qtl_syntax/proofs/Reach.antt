-- A place is reached where a specification begins so, and its least height is that of the lowest one.
use Rattle.std.proofs.Common.{◌≡◌, ℕ, ◌≤◌, List, [], ◌∷◌, ◌++◌, append_assoc, append-nil, Option, Some, None, max, refl, sym, ap, ◌∙◌, subst, arith}
use Rattle.qtl_syntax.specs.declared.token.Word.TheVariants as word
use Rattle.qtl_syntax.specs.declared.token.Sign.TheVariants as sign
use Rattle.qtl_syntax.specs.declared.token.Token.{Token}
use Rattle.qtl_syntax.specs.declared.token.Token.TheVariants.{Name, Word, Sign}
use Rattle.qtl_syntax.specs.Tree.{Item}
use Rattle.qtl_syntax.specs.Grammar.{Head, item}
use Rattle.qtl_syntax.specs.Machine.{State, next, finish, least, option_next, Measured}
use Rattle.qtl_syntax.specs.Reading.{Spot, Start, PropName, PropColon, PredName, PredOpen, FirstParam, NextParam, ParamEnd, PredEquals, Inside, Place, begun, moved, added, spot_next, place_next, next_place, Read, ended, reading, beginning, least_in, least_of, run}
use Rattle.qtl_syntax.specs.Places.{BeginsWithin}
use Rattle.qtl_syntax.proofs.Closing.{closing, closes, letter}
use Rattle.qtl_syntax.proofs.Least.{next_rises, finish_height}
use Rattle.qtl_syntax.proofs.CompleteItems.{none, was_some, at, at_end, through, complete_items}
use Rattle.qtl_syntax.proofs.SoundItems.{PlaceRead, SpotRead, next_place_read, sound_items, read_nothing, spells_higher}

-- the tokens that end the item begun
abbrev pub spot_closing : Spot → List Token
spot_closing Start = []
spot_closing PropName = Name letter ∷ Sign sign.Colon ∷ Word word.True ∷ []
spot_closing (PropColon n) = Sign sign.Colon ∷ Word word.True ∷ []
spot_closing PredName = Name letter ∷ Sign sign.LeftParen ∷ Sign sign.RightParen ∷ Sign sign.Equals ∷ Word word.True ∷ []
spot_closing (PredOpen n) = Sign sign.LeftParen ∷ Sign sign.RightParen ∷ Sign sign.Equals ∷ Word word.True ∷ []
spot_closing (FirstParam n) = Sign sign.RightParen ∷ Sign sign.Equals ∷ Word word.True ∷ []
spot_closing (NextParam n xs) = Name letter ∷ Sign sign.RightParen ∷ Sign sign.Equals ∷ Word word.True ∷ []
spot_closing (ParamEnd n xs) = Sign sign.RightParen ∷ Sign sign.Equals ∷ Word word.True ∷ []
spot_closing (PredEquals n xs) = Sign sign.Equals ∷ Word word.True ∷ []
spot_closing (Inside head s) = closing s

-- the reading is of some items with this height
abbrev pub Comes : ℕ → Option Read → Type 0
Comes n o = (items : List Item) × (o ≡ Some (items, n))

spot_closes : (items : List Item) (n : ℕ) (spot : Spot) (ts : List Token) → SpotRead spot ts → Comes (max n (least_in spot)) (reading (at items n spot) (spot_closing spot))
spot_closes items n Start ts r = let e : n ≡ max n 0 = omega arith in (items, ap (λ m. Some (items, m)) e)
spot_closes items n PropName ts r = (_, refl)
spot_closes items n (PropColon m) ts r = (_, refl)
spot_closes items n PredName ts r = (_, refl)
spot_closes items n (PredOpen m) ts r = (_, refl)
spot_closes items n (FirstParam m) ts r = (_, refl)
spot_closes items n (NextParam m xs) ts r = (_, refl)
spot_closes items n (ParamEnd m xs) ts r = (_, refl)
spot_closes items n (PredEquals m xs) ts r = (_, refl)
spot_closes items n (Inside head s) ts r =
    let x = closes s r.1 r.4 in
    let y = through (closing s) items n head s (x.0, least s) [] x.1 (at_end refl) in
    (items ++ item head x.0 ∷ [], ap (reading (at items n (Inside head s))) (sym (append-nil (closing s))) ∙ y)

pub place_begins : (p : Place) (ts : List Token) → PlaceRead p ts → BeginsWithin (least_of p) ts
place_begins p ts r =
    let x = spot_closes p.items p.tallest p.spot r.1 r.4 in
    (spot_closing p.spot, x.0, sound_items (spot_closing p.spot) p (x.0, least_of p) ts r x.1)

-- one step
inside_rises : (o : Option State) (head : Head) (s : State) (t : Token) (spot : Spot) → next s t ≡ o → option_next o (λ r. Some (Inside head r)) ≡ Some spot → least s ≤ least_in spot
inside_rises None head s t spot n e = none spot e
inside_rises (Some s') head s t spot n e = rw (was_some _ _ e) (next_rises s t s' n)

spot_rises : (spot : Spot) (t : Token) (spot' : Spot) → spot_next spot t ≡ Some spot' → least_in spot ≤ least_in spot'
spot_rises Start t spot' e = omega arith
spot_rises PropName (Name n) spot' e = rw (was_some _ _ e) (omega arith)
spot_rises (PropColon n) (Sign sign.Colon) spot' e = rw (was_some _ _ e) (omega arith)
spot_rises PredName (Name n) spot' e = rw (was_some _ _ e) (omega arith)
spot_rises (PredOpen n) (Sign sign.LeftParen) spot' e = rw (was_some _ _ e) (omega arith)
spot_rises (FirstParam n) (Name x) spot' e = rw (was_some _ _ e) (omega arith)
spot_rises (FirstParam n) (Sign sign.RightParen) spot' e = rw (was_some _ _ e) (omega arith)
spot_rises (NextParam n xs) (Name x) spot' e = rw (was_some _ _ e) (omega arith)
spot_rises (ParamEnd n xs) (Sign sign.Comma) spot' e = rw (was_some _ _ e) (omega arith)
spot_rises (ParamEnd n xs) (Sign sign.RightParen) spot' e = rw (was_some _ _ e) (omega arith)
spot_rises (PredEquals n xs) (Sign sign.Equals) spot' e = rw (was_some _ _ e) (omega arith)
spot_rises (Inside head s) t spot' e = inside_rises (next s t) head s t spot' refl e
spot_rises _ t spot' e = none spot' e

moved_rises : (o : Option Spot) (p : Place) (spot : Spot) (t : Token) (p' : Place) → spot_next spot t ≡ o → option_next o (λ r. Some (moved p r)) ≡ Some p' → max p.tallest (least_in spot) ≤ least_of p'
moved_rises None p spot t p' n e = none p' e
moved_rises (Some spot') p spot t p' n e =
    let h = spot_rises spot t spot' n in
    let g : max p.tallest (least_in spot) ≤ max p.tallest (least_in spot') = omega arith in
    rw (was_some _ _ e) g

added_rises : (o : Option Measured) (p : Place) (head : Head) (s : State) (spot : Spot) (p' : Place) → finish s ≡ o → option_next o (λ m. Some (added p head m spot)) ≡ Some p' →
    max p.tallest (least s) ≤ least_of p'
added_rises None p head s spot p' n e = none p' e
added_rises (Some m) p head s spot p' n e =
    let h : least s ≡ m.1 = finish_height s m n in
    let g : max p.tallest (least s) ≤ max (max p.tallest m.1) (least_in spot) = omega arith in
    rw (was_some _ _ e) g

place_rises : (o : Option Spot) (p : Place) (spot : Spot) (t : Token) (p' : Place) → place_next p spot t o ≡ Some p' → max p.tallest (least_in spot) ≤ least_of p'
place_rises (Some spot') p (Inside head s) t p' e = added_rises (finish s) p head s spot' p' refl e
place_rises None p (Inside head s) t p' e = moved_rises (spot_next (Inside head s) t) p (Inside head s) t p' refl e
place_rises o p spot t p' e = moved_rises (spot_next spot t) p spot t p' refl e

pub next_place_rises : (p : Place) (t : Token) (p' : Place) → next_place p t ≡ Some p' → least_of p ≤ least_of p'
next_place_rises p t p' e = place_rises (begun t) p p.spot t p' e

ended_item : (o : Option Measured) (p : Place) (head : Head) (s : State) (r : Read) → finish s ≡ o →
    option_next o (λ m. Some (p.items ++ item head m.0 ∷ [], max p.tallest m.1)) ≡ Some r → max p.tallest (least s) ≤ r.1
ended_item None p head s r n e = none r e
ended_item (Some m) p head s r n e =
    let h : least s ≡ m.1 = finish_height s m n in
    let g : max p.tallest (least s) ≤ max p.tallest m.1 = omega arith in
    rw (was_some _ _ e) g

ended_rises : (p : Place) (spot : Spot) (r : Read) → ended p spot ≡ Some r → max p.tallest (least_in spot) ≤ r.1
ended_rises p Start r e = let g : max p.tallest 0 ≤ p.tallest = omega arith in rw (was_some _ _ e) g
ended_rises p (Inside head s) r e = ended_item (finish s) p head s r refl e
ended_rises p _ r e = none r e

reading_step : (o : Option Place) (p : Place) (t : Token) (ts : List Token) (r : Read) → next_place p t ≡ o → option_next o (λ q. reading q ts) ≡ Some r →
    ((q : Place) → reading q ts ≡ Some r → least_of q ≤ r.1) → least_of p ≤ r.1
reading_step None p t ts r n e go = none r e
reading_step (Some q) p t ts r n e go = let a = next_place_rises p t q n in let b = go q e in omega (arith, a, b)

reading_rises : (ts : List Token) (p : Place) (r : Read) → reading p ts ≡ Some r → least_of p ≤ r.1
reading_rises [] p r e = ended_rises p p.spot r e
reading_rises (t ∷ ts) p r e = reading_step (next_place p t) p t ts r refl e (λ q h. reading_rises ts q r h)

-- what is read to its end is reached on the way
abbrev pub Reached : Place → List Token → ℕ → Type 0
Reached p ts n = (q : Place) × (run p ts ≡ Some q) × (least_of q ≤ n)

reached_step : (o : Option Place) (p : Place) (t : Token) (ts more : List Token) (r : Read) → next_place p t ≡ o → option_next o (λ q. reading q (ts ++ more)) ≡ Some r →
    ((q : Place) → reading q (ts ++ more) ≡ Some r → Reached q ts r.1) → Reached p (t ∷ ts) r.1
reached_step None p t ts more r n e go = none r e
reached_step (Some q) p t ts more r n e go = let x = go q e in (x.0, ap (λ o. option_next o (λ r. run r ts)) n ∙ x.1, x.2)

reached : (ts more : List Token) (p : Place) (r : Read) → reading p (ts ++ more) ≡ Some r → Reached p ts r.1
reached [] more p r e = (p, refl, reading_rises more p r e)
reached (t ∷ ts) more p r e = reached_step (next_place p t) p t ts more r refl e (λ q h. reached ts more q r h)

-- a front of a specification of this height is reached, at no greater least height
pub begins_reached : (h : ℕ) (ts : List Token) → BeginsWithin h ts → Reached beginning ts h
begins_reached h ts b =
    let x = complete_items b.1 h (ts ++ b.0) b.2 [] 0 in
    let y = reached ts b.0 beginning (b.1, x.0) x.2 in
    let x1 : x.0 ≤ max 0 h = x.1 in
    let y2 : least_of y.0 ≤ x.0 = y.2 in
    (y.0, y.1, omega arith)

run_step : (o : Option Place) (p : Place) (t : Token) (ts : List Token) (q : Place) (before : List Token) → PlaceRead p before → next_place p t ≡ o → option_next o (λ r. run r ts) ≡ Some q →
    ((r : Place) → PlaceRead r (before ++ t ∷ []) → run r ts ≡ Some q → PlaceRead q ((before ++ t ∷ []) ++ ts)) → PlaceRead q (before ++ (t ∷ ts))
run_step None p t ts q before r n e go = none q e
run_step (Some p') p t ts q before r n e go = subst (PlaceRead q) (append_assoc before (t ∷ []) ts) (go p' (next_place_read p t p' before r n) e)

run_reads : (ts : List Token) (p q : Place) (before : List Token) → PlaceRead p before → run p ts ≡ Some q → PlaceRead q (before ++ ts)
run_reads [] p q before r e = rw (was_some _ _ e, append-nil) r
run_reads (t ∷ ts) p q before r e = run_step (next_place p t) p t ts q before r refl e (λ p' x h. run_reads ts p' q (before ++ t ∷ []) x h)

pub reached_read : (ts : List Token) (q : Place) → run beginning ts ≡ Some q → PlaceRead q ts
reached_read ts q e = run_reads ts beginning q [] read_nothing e

-- what is reached begins a specification, of its least height
pub reached_begins : (ts : List Token) (q : Place) → run beginning ts ≡ Some q → BeginsWithin (least_of q) ts
reached_begins ts q e = place_begins q ts (reached_read ts q e)

pub begins_higher : (n m : ℕ) → n ≤ m → (ts : List Token) → BeginsWithin n ts → BeginsWithin m ts
begins_higher n m h ts b = (b.0, b.1, spells_higher n m h (ts ++ b.0) b.1 b.2)

pub run_append : (a b : List Token) (p q : Place) → run p a ≡ Some q → run p (a ++ b) ≡ run q b
run_append [] b p q e = ap (λ r. run r b) (sym (was_some _ _ e))
run_append (t ∷ a) b p q e = append_step (next_place p t) a b q e (λ r h. run_append a b r q h)
  where
    append_step : (o : Option Place) (a b : List Token) (q : Place) → option_next o (λ r. run r a) ≡ Some q → ((r : Place) → run r a ≡ Some q → run r (a ++ b) ≡ run q b) →
        option_next o (λ r. run r (a ++ b)) ≡ run q b
    append_step None a b q e go = none q e
    append_step (Some r) a b q e go = go r e

run_single : (o : Option Place) → option_next o (λ r. Some r) ≡ o
run_single None = refl
run_single (Some p) = refl

pub run_one : (a : List Token) (t : Token) (p q : Place) → run p a ≡ Some q → run p (a ++ t ∷ []) ≡ next_place q t
run_one a t p q e = run_append a (t ∷ []) p q e ∙ run_single (next_place q t)
