-- What the parser takes, the grammar of specifications spells.
use Rattle.std.proofs.Common.{◌≡◌, ℕ, ◌≤◌, List, [], ◌∷◌, ◌++◌, append_assoc, append-nil, Option, Some, None, max, refl, sym, ap, ◌∙◌, subst, arith}
use Rattle.qtl_syntax.specs.declared.token.Word.TheVariants as word
use Rattle.qtl_syntax.specs.declared.token.Sign.TheVariants as sign
use Rattle.qtl_syntax.specs.declared.token.Token.{Token}
use Rattle.qtl_syntax.specs.declared.token.Token.TheVariants.{Name, Word, Sign}
use Rattle.qtl_syntax.specs.Tree.{Text, Formula, Item}
use Rattle.qtl_syntax.specs.Grammar.{AreListed, AreMore, IsParam, Head, IsHead, item, IsFormula, Spells}
use Rattle.qtl_syntax.specs.Machine.{State, Operand, next, finish, option_next, Measured}
use Rattle.qtl_syntax.specs.Reading.{Spot, Start, PropName, PropColon, PredName, PredOpen, FirstParam, NextParam, ParamEnd, PredEquals, Inside, Place, begun, moved, added, spot_next, place_next, next_place, Read, ended, reading, beginning}
use Rattle.qtl_syntax.proofs.Sound.{Reads, next_reads, finish_reads}
use Rattle.qtl_syntax.proofs.Rows.{higher}
use Rattle.qtl_syntax.proofs.CompleteItems.{none, was_some}

abbrev pub AreSome : List Token → List Text → Type 0
AreSome [] xs = ⊥
AreSome (t ∷ us) [] = ⊥
AreSome (t ∷ us) (x ∷ xs) = IsParam t x × AreMore IsParam us xs

-- the tokens of the item begun
abbrev pub SpotRead : Spot → List Token → Type 0
SpotRead Start ts = ts ≡ []
SpotRead PropName ts = ts ≡ Word word.Prop ∷ []
SpotRead (PropColon n) ts = ts ≡ Word word.Prop ∷ Name n ∷ []
SpotRead PredName ts = ts ≡ Word word.Pred ∷ []
SpotRead (PredOpen n) ts = ts ≡ Word word.Pred ∷ Name n ∷ []
SpotRead (FirstParam n) ts = ts ≡ Word word.Pred ∷ Name n ∷ Sign sign.LeftParen ∷ []
SpotRead (NextParam n xs) ts = (us : List Token) × (ts ≡ Word word.Pred ∷ Name n ∷ Sign sign.LeftParen ∷ (us ++ Sign sign.Comma ∷ [])) × AreSome us xs
SpotRead (ParamEnd n xs) ts = (us : List Token) × (ts ≡ Word word.Pred ∷ Name n ∷ Sign sign.LeftParen ∷ us) × AreSome us xs
SpotRead (PredEquals n xs) ts = (us : List Token) × (ts ≡ Word word.Pred ∷ Name n ∷ Sign sign.LeftParen ∷ (us ++ Sign sign.RightParen ∷ [])) × AreListed IsParam us xs
SpotRead (Inside head s) ts = (a : List Token) × (b : List Token) × (ts ≡ a ++ b) × IsHead a head × Reads s b

abbrev pub PlaceRead : Place → List Token → Type 0
PlaceRead p ts = (a : List Token) × (b : List Token) × (ts ≡ a ++ b) × Spells p.tallest a p.items × SpotRead p.spot b

formula_higher : (n m : ℕ) → n ≤ m → (ts : List Token) (f : Formula) → IsFormula n ts f → IsFormula m ts f
formula_higher n m h ts f d = (d.0, higher n m h 0 0 ts f d.0 (omega arith) d.1)

pub spells_higher : (n m : ℕ) → n ≤ m → (ts : List Token) (items : List Item) → Spells n ts items → Spells m ts items
spells_higher n m h ts [] s = s
spells_higher n m h ts (one ∷ items) s = (s.0, s.1, s.2, s.3, s.4, s.5, s.6, s.7, formula_higher n m h s.3 s.1 s.8, spells_higher n m h s.4 items s.9)

spells_one : (h : ℕ) (ts : List Token) (items : List Item) (head : Head) (f : Formula) (a b : List Token) → Spells h ts items → IsHead a head → IsFormula h b f →
    Spells h (ts ++ (a ++ b)) (items ++ item head f ∷ [])
spells_one h ts [] head f a b s i d = (head, f, a, b, [], refl, rw (s, append-nil) refl, i, d, refl)
spells_one h ts (one ∷ items) head f a b s i d =
    let p : ts ++ (a ++ b) ≡ s.2 ++ (s.3 ++ (s.4 ++ (a ++ b))) = ap (λ u. u ++ (a ++ b)) s.6 ∙ (append_assoc s.2 (s.3 ++ s.4) (a ++ b) ∙ ap (λ u. s.2 ++ u) (append_assoc s.3 s.4 (a ++ b))) in
    (s.0, s.1, s.2, s.3, s.4 ++ (a ++ b), s.5, p, s.7, s.8, spells_one h s.4 items head f a b s.9 i d)

item_read : (p : Place) (head : Head) (s : State) (ts : List Token) (m : Measured) → (a b : List Token) → ts ≡ a ++ b → Spells p.tallest a p.items → SpotRead (Inside head s) b → finish s ≡ Some m →
    Spells (max p.tallest m.1) ts (p.items ++ item head m.0 ∷ [])
item_read p head s ts m a b e q r f =
    let d = formula_higher m.1 (max p.tallest m.1) (omega arith) r.1 m.0 (finish_reads s m r.1 r.4 f) in
    let u = spells_higher p.tallest (max p.tallest m.1) (omega arith) a p.items q in
    let x = spells_one (max p.tallest m.1) a p.items head m.0 r.0 r.1 u r.3 d in
    rw (e, r.2) x

more_more : (us : List Token) (xs : List Text) (x : Text) → AreMore IsParam us xs → AreMore IsParam (us ++ (Sign sign.Comma ∷ Name x ∷ [])) (xs ++ x ∷ [])
more_more [] [] x h = (refl, tt)
more_more (Sign sign.Comma ∷ u ∷ us) (y ∷ ys) x h = (h.0, more_more us ys x h.1)
more_more _ _ x h = absurd h

some_more : (us : List Token) (xs : List Text) (x : Text) → AreSome us xs → AreSome (us ++ (Sign sign.Comma ∷ Name x ∷ [])) (xs ++ x ∷ [])
some_more [] xs x h = absurd h
some_more (u ∷ us) [] x h = absurd h
some_more (u ∷ us) (y ∷ ys) x h = (h.0, more_more us ys x h.1)

are_listed : (us : List Token) (xs : List Text) → AreSome us xs → AreListed IsParam us xs
are_listed [] xs h = absurd h
are_listed (u ∷ us) [] h = absurd h
are_listed (u ∷ us) (y ∷ ys) h = h

begun_read : (t : Token) (spot : Spot) → begun t ≡ Some spot → SpotRead spot (t ∷ [])
begun_read (Word word.Prop) spot e = rw (was_some _ _ e) refl
begun_read (Word word.Pred) spot e = rw (was_some _ _ e) refl
begun_read _ spot e = none spot e

inside_read : (o : Option State) (head : Head) (s : State) (t : Token) (spot : Spot) (b : List Token) → SpotRead (Inside head s) b → next s t ≡ o →
    option_next o (λ r. Some (Inside head r)) ≡ Some spot → SpotRead spot (b ++ t ∷ [])
inside_read None head s t spot b r n e = none spot e
inside_read (Some s') head s t spot b r n e =
    rw (was_some _ _ e) (r.0, r.1 ++ t ∷ [], rw (r.2, append_assoc) refl, r.3, next_reads s t s' r.1 r.4 n)

empty_formula : (frames : List Token) → frames ≡ [] → Reads (Operand []) frames
empty_formula frames e = e

spot_reads : (spot : Spot) (t : Token) (spot' : Spot) (b : List Token) → SpotRead spot b → spot_next spot t ≡ Some spot' → SpotRead spot' (b ++ t ∷ [])
spot_reads Start t spot' b r e = rw r (begun_read t spot' e)
spot_reads PropName (Name n) spot' b r e = rw (was_some _ _ e, r) refl
spot_reads (PropColon n) (Sign sign.Colon) spot' b r e = rw (was_some _ _ e, r) (Word word.Prop ∷ Name n ∷ Sign sign.Colon ∷ [], [], refl, refl, refl)
spot_reads PredName (Name n) spot' b r e = rw (was_some _ _ e, r) refl
spot_reads (PredOpen n) (Sign sign.LeftParen) spot' b r e = rw (was_some _ _ e, r) refl
spot_reads (FirstParam n) (Name x) spot' b r e = rw (was_some _ _ e, r) (Name x ∷ [], refl, (refl, tt))
spot_reads (FirstParam n) (Sign sign.RightParen) spot' b r e = rw (was_some _ _ e, r) ([], refl, tt)
spot_reads (NextParam n xs) (Name x) spot' b r e =
    rw (was_some _ _ e, r.1) (r.0 ++ (Sign sign.Comma ∷ Name x ∷ []), rw append_assoc refl, some_more r.0 xs x r.2)
spot_reads (ParamEnd n xs) (Sign sign.Comma) spot' b r e = rw (was_some _ _ e, r.1) (r.0, refl, r.2)
spot_reads (ParamEnd n xs) (Sign sign.RightParen) spot' b r e = rw (was_some _ _ e, r.1) (r.0, refl, are_listed r.0 xs r.2)
spot_reads (PredEquals n xs) (Sign sign.Equals) spot' b r e =
    let us = r.0 in
    let p : (us ++ Sign sign.RightParen ∷ []) ++ Sign sign.Equals ∷ [] ≡ us ++ (Sign sign.RightParen ∷ Sign sign.Equals ∷ []) = append_assoc us (Sign sign.RightParen ∷ []) (Sign sign.Equals ∷ []) in
    rw (was_some _ _ e, r.1) (Word word.Pred ∷ Name n ∷ Sign sign.LeftParen ∷ (us ++ (Sign sign.RightParen ∷ Sign sign.Equals ∷ [])), [], rw (p, append-nil) refl, (us, refl, r.2), refl)
spot_reads (Inside head s) t spot' b r e = inside_read (next s t) head s t spot' b r refl e
spot_reads _ t spot' b r e = none spot' e

moved_read : (o : Option Spot) (p : Place) (spot : Spot) (t : Token) (p' : Place) (ts a b : List Token) → ts ≡ a ++ b → Spells p.tallest a p.items → SpotRead spot b → spot_next spot t ≡ o →
    option_next o (λ r. Some (moved p r)) ≡ Some p' → PlaceRead p' (ts ++ t ∷ [])
moved_read None p spot t p' ts a b q s r n e = none p' e
moved_read (Some spot') p spot t p' ts a b q s r n e =
    rw (was_some _ _ e) (a, b ++ t ∷ [], rw (q, append_assoc) refl, s, spot_reads spot t spot' b r n)

added_read : (o : Option Measured) (p : Place) (head : Head) (s : State) (spot : Spot) (t : Token) (p' : Place) (ts a b : List Token) → ts ≡ a ++ b → Spells p.tallest a p.items →
    SpotRead (Inside head s) b → begun t ≡ Some spot → finish s ≡ o → option_next o (λ m. Some (added p head m spot)) ≡ Some p' → PlaceRead p' (ts ++ t ∷ [])
added_read None p head s spot t p' ts a b q u r g n e = none p' e
added_read (Some m) p head s spot t p' ts a b q u r g n e =
    rw (was_some _ _ e) (ts, t ∷ [], refl, item_read p head s ts m a b q u r n, begun_read t spot g)

place_read : (o : Option Spot) (p : Place) (spot : Spot) (t : Token) (p' : Place) (ts a b : List Token) → ts ≡ a ++ b → Spells p.tallest a p.items → SpotRead spot b → begun t ≡ o →
    place_next p spot t o ≡ Some p' → PlaceRead p' (ts ++ t ∷ [])
place_read (Some spot') p (Inside head s) t p' ts a b q u r g e = added_read (finish s) p head s spot' t p' ts a b q u r g refl e
place_read None p (Inside head s) t p' ts a b q u r g e = moved_read (spot_next (Inside head s) t) p (Inside head s) t p' ts a b q u r refl e
place_read o p spot t p' ts a b q u r g e = moved_read (spot_next spot t) p spot t p' ts a b q u r refl e

-- each step reads one token more
pub next_place_read : (p : Place) (t : Token) (p' : Place) (ts : List Token) → PlaceRead p ts → next_place p t ≡ Some p' → PlaceRead p' (ts ++ t ∷ [])
next_place_read p t p' ts r e = place_read (begun t) p p.spot t p' ts r.0 r.1 r.2 r.3 r.4 refl e

ended_item : (o : Option Measured) (p : Place) (head : Head) (s : State) (r : Read) (ts a b : List Token) → ts ≡ a ++ b → Spells p.tallest a p.items → SpotRead (Inside head s) b → finish s ≡ o →
    option_next o (λ m. Some (p.items ++ item head m.0 ∷ [], max p.tallest m.1)) ≡ Some r → Spells r.1 ts r.0
ended_item None p head s r ts a b q u x n e = none r e
ended_item (Some m) p head s r ts a b q u x n e = rw (was_some _ _ e) (item_read p head s ts m a b q u x n)

ended_read : (p : Place) (spot : Spot) (r : Read) (ts a b : List Token) → ts ≡ a ++ b → Spells p.tallest a p.items → SpotRead spot b → ended p spot ≡ Some r → Spells r.1 ts r.0
ended_read p Start r ts a b q u x e =
    let all : ts ≡ a = q ∙ (ap (λ v. a ++ v) x ∙ append-nil a) in
    rw (was_some _ _ e, all) u
ended_read p (Inside head s) r ts a b q u x e = ended_item (finish s) p head s r ts a b q u x refl e
ended_read p _ r ts a b q u x e = none r e

sound_step : (o : Option Place) (p : Place) (t : Token) (ts : List Token) (r : Read) (before : List Token) → PlaceRead p before → next_place p t ≡ o → option_next o (λ q. reading q ts) ≡ Some r →
    ((p' : Place) → PlaceRead p' (before ++ t ∷ []) → reading p' ts ≡ Some r → Spells r.1 ((before ++ t ∷ []) ++ ts) r.0) → Spells r.1 (before ++ (t ∷ ts)) r.0
sound_step None p t ts r before x n e go = none r e
sound_step (Some p') p t ts r before x n e go = subst (λ us. Spells r.1 us r.0) (append_assoc before (t ∷ []) ts) (go p' (next_place_read p t p' before x n) e)

-- what is read is spelled, and no formula is higher than is said
pub sound_items : (ts : List Token) (p : Place) (r : Read) (before : List Token) → PlaceRead p before → reading p ts ≡ Some r → Spells r.1 (before ++ ts) r.0
sound_items [] p r before x e = subst (λ us. Spells r.1 us r.0) (sym (append-nil before)) (ended_read p p.spot r before x.0 x.1 x.2 x.3 x.4 e)
sound_items (t ∷ ts) p r before x e = sound_step (next_place p t) p t ts r before x refl e (λ p' q h. sound_items ts p' r (before ++ t ∷ []) q h)

pub read_nothing : PlaceRead beginning []
read_nothing = ([], [], refl, refl, refl)
