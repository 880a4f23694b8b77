-- What the grammar of specifications spells, the parser takes.
use Rattle.std.proofs.Common.{◌≡◌, ℕ, ◌≤◌, List, [], ◌∷◌, ◌++◌, append_assoc, append-nil, Option, Some, None, max, refl, sym, ap, ◌∙◌, arith}
use Rattle.qtl_syntax.specs.declared.token.Word.TheVariants as word
use Rattle.qtl_syntax.specs.declared.token.Sign.TheVariants as sign
use Rattle.qtl_syntax.specs.declared.token.Token.{Token}
use Rattle.qtl_syntax.specs.declared.token.Token.TheVariants.{Word, Sign}
use Rattle.qtl_syntax.specs.Tree.{Text, Item}
use Rattle.qtl_syntax.specs.Grammar.{AreListed, AreMore, IsParam, Head, PropHead, PredHead, IsHead, item, Spells}
use Rattle.qtl_syntax.specs.Machine.{State, Operand, Named, FirstTerm, NextTerm, TermEnd, Whole, OfVariable, OfDot, Bounded, Bracket, OfNumber, BoundEnd, next, finish, outcome, option_next, Measured}
use Rattle.qtl_syntax.specs.Reading.{Spot, Start, FirstParam, ParamEnd, PredEquals, Inside, Place, begun, next_place, reading}
use Rattle.qtl_syntax.proofs.Complete.{exact}

abbrev pub at : List Item → ℕ → Spot → Place
at items n spot = record { items = items; tallest = n; spot = spot }

pub none : {A B : Type 0} (x : A) → None ≡ Some x → B
none x e = cc

pub was_some : {A : Type 0} (x y : A) → Some x ≡ Some y → y ≡ x
was_some x y e = cc

-- no formula has a word that begins an item
no_prop : (s : State) → next s (Word word.Prop) ≡ None
no_prop (Operand frames) = refl
no_prop (Named frames n) = refl
no_prop (FirstTerm frames n) = refl
no_prop (NextTerm frames n xs) = refl
no_prop (TermEnd frames n xs) = refl
no_prop (Whole frames f k) = refl
no_prop (OfVariable frames q) = refl
no_prop (OfDot frames q x) = refl
no_prop (Bounded frames w) = refl
no_prop (Bracket frames w) = refl
no_prop (OfNumber frames w most) = refl
no_prop (BoundEnd frames w b) = refl

no_pred : (s : State) → next s (Word word.Pred) ≡ None
no_pred (Operand frames) = refl
no_pred (Named frames n) = refl
no_pred (FirstTerm frames n) = refl
no_pred (NextTerm frames n xs) = refl
no_pred (TermEnd frames n xs) = refl
no_pred (Whole frames f k) = refl
no_pred (OfVariable frames q) = refl
no_pred (OfDot frames q x) = refl
no_pred (Bounded frames w) = refl
no_pred (Bracket frames w) = refl
no_pred (OfNumber frames w most) = refl
no_pred (BoundEnd frames w b) = refl

pub not_begun : (s : State) (t : Token) (s' : State) → next s t ≡ Some s' → begun t ≡ None
not_begun s (Word word.Prop) s' e = none s' (sym (no_prop s) ∙ e)
not_begun s (Word word.Pred) s' e = none s' (sym (no_pred s) ∙ e)
not_begun s t s' e = refl

pub steps_inside : (items : List Item) (n : ℕ) (head : Head) (s : State) (t : Token) (s' : State) → next s t ≡ Some s' →
    next_place (at items n (Inside head s)) t ≡ Some (at items n (Inside head s'))
steps_inside items n head s t s' e = rw (not_begun s t s' e, e) refl

-- where an item may begin, or the end
pub data Ready (ts : List Token) : Type 0 where
  at_end : ts ≡ [] → Ready ts
  at_prop : (us : List Token) → ts ≡ Word word.Prop ∷ us → Ready ts
  at_pred : (us : List Token) → ts ≡ Word word.Pred ∷ us → Ready ts

added_end : (items : List Item) (n : ℕ) (head : Head) (s : State) (m : Measured) (rest : List Token) → finish s ≡ Some m → Ready rest →
    reading (at items n (Inside head s)) rest ≡ reading (at (items ++ item head m.0 ∷ []) (max n m.1) Start) rest
added_end items n head s m rest e (at_end q) = rw (q, e) refl
added_end items n head s m rest e (at_prop us q) = rw (q, e) refl
added_end items n head s m rest e (at_pred us q) = rw (q, e) refl

through_step : (o : Option State) (items : List Item) (n : ℕ) (head : Head) (s : State) (t : Token) (ts : List Token) (m : Measured) (rest : List Token) → next s t ≡ o →
    option_next o (λ r. outcome r ts) ≡ Some m →
    ((s' : State) → outcome s' ts ≡ Some m → reading (at items n (Inside head s')) (ts ++ rest) ≡ reading (at (items ++ item head m.0 ∷ []) (max n m.1) Start) rest) →
    reading (at items n (Inside head s)) (t ∷ (ts ++ rest)) ≡ reading (at (items ++ item head m.0 ∷ []) (max n m.1) Start) rest
through_step None items n head s t ts m rest q e go = none m e
through_step (Some s') items n head s t ts m rest q e go =
    ap (λ o. option_next o (λ r. reading r (ts ++ rest))) (steps_inside items n head s t s' q) ∙ go s' e

-- a formula is read, and its item added
pub through : (ts : List Token) (items : List Item) (n : ℕ) (head : Head) (s : State) (m : Measured) (rest : List Token) → outcome s ts ≡ Some m → Ready rest →
    reading (at items n (Inside head s)) (ts ++ rest) ≡ reading (at (items ++ item head m.0 ∷ []) (max n m.1) Start) rest
through [] items n head s m rest e q = added_end items n head s m rest e q
through (t ∷ ts) items n head s m rest e q =
    through_step (next s t) items n head s t ts m rest refl e (λ s' h. through ts items n head s' m rest h q)

params_more : (items : List Item) (k : ℕ) (n : Text) (rest us : List Token) (xs acc : List Text) → AreMore IsParam us xs →
    reading (at items k (ParamEnd n acc)) (us ++ (Sign sign.RightParen ∷ rest)) ≡ reading (at items k (PredEquals n (acc ++ xs))) rest
params_more items k n rest [] [] acc h = rw append-nil refl
params_more items k n rest (Sign sign.Comma ∷ t ∷ us) (x ∷ xs) acc h =
    let more = params_more items k n rest us xs (acc ++ x ∷ []) h.1 in
    rw h.0 (more ∙ rw append_assoc refl)
params_more items k n rest _ _ acc h = absurd h

params_all : (items : List Item) (k : ℕ) (n : Text) (rest us : List Token) (xs : List Text) → AreListed IsParam us xs →
    reading (at items k (FirstParam n)) (us ++ (Sign sign.RightParen ∷ rest)) ≡ reading (at items k (PredEquals n xs)) rest
params_all items k n rest [] [] h = refl
params_all items k n rest (t ∷ us) (x ∷ xs) h = rw h.0 (params_more items k n rest us xs (x ∷ []) h.1)
params_all items k n rest _ _ h = absurd h

head_read : (head : Head) (items : List Item) (k : ℕ) (a rest : List Token) → IsHead a head →
    reading (at items k Start) (a ++ rest) ≡ reading (at items k (Inside head (Operand []))) rest
head_read (PropHead n) items k a rest h = rw h refl
head_read (PredHead n xs) items k a rest h =
    let us = h.0 in
    let parts : (us ++ Sign sign.RightParen ∷ Sign sign.Equals ∷ []) ++ rest ≡ us ++ (Sign sign.RightParen ∷ Sign sign.Equals ∷ rest) =
    append_assoc us (Sign sign.RightParen ∷ Sign sign.Equals ∷ []) rest in
    rw (h.1, parts) (params_all items k n (Sign sign.Equals ∷ rest) us xs h.2)

head_ready : (head : Head) (a rest : List Token) → IsHead a head → Ready (a ++ rest)
head_ready (PropHead n) a rest h = rw h (at_prop _ refl)
head_ready (PredHead n xs) a rest h = rw h.1 (at_pred _ refl)

spelled_ready : (h : ℕ) (ts : List Token) (items : List Item) → Spells h ts items → Ready ts
spelled_ready h ts [] s = at_end s
spelled_ready h ts (one ∷ items) s = rw s.6 (head_ready s.0 s.2 (s.3 ++ s.4) s.7)

-- the parser reads what is spelled, and its height is at most that
pub complete_items : (more : List Item) (h : ℕ) (ts : List Token) → Spells h ts more → (items : List Item) (n : ℕ) →
    (k : ℕ) × (k ≤ max n h) × (reading (at items n Start) ts ≡ Some (items ++ more, k))
complete_items [] h ts s items n = (n, omega arith, rw (s, append-nil) refl)
complete_items (one ∷ more) h ts s items n =
    let x = exact h s.3 s.1 s.8 in
    let y = complete_items more h s.4 s.9 (items ++ item s.0 s.1 ∷ []) (max n x.0) in
    let first = head_read s.0 items n s.2 (s.3 ++ s.4) s.7 in
    let mid = through s.3 items n s.0 (Operand []) (s.1, x.0) s.4 x.3 (spelled_ready h s.4 more s.9) in
    let x2 : x.0 ≤ h = x.2 in
    let y1 : y.0 ≤ max (max n x.0) h = y.1 in
    (y.0, omega arith, rw (s.6, s.5) (first ∙ (mid ∙ (y.2 ∙ ap (λ u. Some (u, y.0)) (append_assoc items (item s.0 s.1 ∷ []) more)))))
