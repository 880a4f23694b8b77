-- The least height never falls, and no formula is lower.
use Rattle.std.proofs.Common.{◌≡◌, ℕ, ◌+◌, ◌<◌, ◌≤◌, List, [], ◌∷◌, ◌++◌, Option, Some, None, Bool, true, false, max, refl, sym, arith}
use Rattle.std.specs.Prelude.{nat_le, if◌then◌else◌}
use Rattle.qtl_syntax.specs.declared.formula.Term.{Term}
use Rattle.qtl_syntax.specs.declared.formula.Bound.{Bound}
use Rattle.qtl_syntax.specs.declared.operator.Binary.{Binary}
use Rattle.qtl_syntax.specs.declared.operator.Binary.TheVariants as binary
use Rattle.qtl_syntax.specs.declared.operator.Prefix.TheVariants as prefix
use Rattle.qtl_syntax.specs.declared.token.Word.TheVariants as word
use Rattle.qtl_syntax.specs.declared.token.Sign.TheVariants as sign
use Rattle.qtl_syntax.specs.declared.token.Token.{Token}
use Rattle.qtl_syntax.specs.declared.token.Token.TheVariants.{Name, Number, Word, Sign}
use Rattle.qtl_syntax.specs.Tree.{Text, Formula, Atom}
use Rattle.qtl_syntax.specs.Grammar.{level_of, joined, prefixed, quantified}
use Rattle.qtl_syntax.specs.Machine.{Frame, PrefixOf, BinaryOf, QuantifierOf, ParenOf, FirstOf, SecondOf, Timeable, OnceOf, AlwaysOf, SinceOf, untimed, timed, State, Operand, Named, FirstTerm, NextTerm, TermEnd, Whole, OfVariable, OfDot, Bounded, Bracket, OfNumber, BoundEnd, Behind, reduce, shut, with_sign, with_since, closed_by, parted_by, after_whole, operand_next, term_of, option_next, next, Measured, only_bottom, finish, rise, total, least}

pub rise_grows : (frame : Frame) (j k : ℕ) → j ≤ k → rise frame j ≤ rise frame k
rise_grows (PrefixOf p) j k h = omega arith
rise_grows (BinaryOf op g m) j k h = omega arith
rise_grows (QuantifierOf q x) j k h = omega arith
rise_grows ParenOf j k h = omega arith
rise_grows FirstOf j k h = omega arith
rise_grows (SecondOf g m) j k h = omega arith

pub total_grows : (frames : List Frame) (j k : ℕ) → j ≤ k → total frames j ≤ total frames k
total_grows [] j k h = h
total_grows (frame ∷ frames) j k h = total_grows frames (rise frame j) (rise frame k) (rise_grows frame j k h)

rises : (frame : Frame) (k : ℕ) → k < rise frame k
rises (PrefixOf p) k = omega arith
rises (BinaryOf op g m) k = omega arith
rises (QuantifierOf q x) k = omega arith
rises ParenOf k = omega arith
rises FirstOf k = omega arith
rises (SecondOf g m) k = omega arith

-- one more frame
opened : (frame : Frame) (frames : List Frame) (k : ℕ) → total frames k ≤ total (frame ∷ frames) k
opened frame frames k = let r = rises frame k in total_grows frames k (rise frame k) (omega arith)

abbrev pub Keeps : ℕ → Behind → Type 0
Keeps k b = total b.frames b.height ≡ k

picked : (k : ℕ) (b : Bool) (x y : Behind) → Keeps k x → Keeps k y → Keeps k (if b then x else y)
picked k true x y p q = p
picked k false x y p q = q

reduce_keeps : (left : ℕ) (frames : List Frame) (f : Formula) (k : ℕ) → Keeps (total frames k) (reduce left frames f k)
reduce_keeps left [] f k = refl
reduce_keeps left (PrefixOf p ∷ frames) f k = reduce_keeps left frames (prefixed p f) (k + 1)
reduce_keeps left (BinaryOf o g j ∷ frames) f k = picked (total (BinaryOf o g j ∷ frames) k) (nat_le left (level_of o)) _ _ (reduce_keeps left frames (joined o g f) (max j k + 1)) refl
reduce_keeps left (QuantifierOf q x ∷ frames) f k = refl
reduce_keeps left (ParenOf ∷ frames) f k = refl
reduce_keeps left (FirstOf ∷ frames) f k = refl
reduce_keeps left (SecondOf g j ∷ frames) f k = refl

shut_keeps : (frames : List Frame) (f : Formula) (k : ℕ) → Keeps (total frames k) (shut frames f k)
shut_keeps [] f k = refl
shut_keeps (PrefixOf p ∷ frames) f k = shut_keeps frames (prefixed p f) (k + 1)
shut_keeps (BinaryOf o g j ∷ frames) f k = shut_keeps frames (joined o g f) (max j k + 1)
shut_keeps (QuantifierOf q x ∷ frames) f k = shut_keeps frames (quantified q x f) (k + 1)
shut_keeps (ParenOf ∷ frames) f k = refl
shut_keeps (FirstOf ∷ frames) f k = refl
shut_keeps (SecondOf g j ∷ frames) f k = refl

pub timed_total : (b : Bound) (w : Timeable) (frames : List Frame) (k : ℕ) → total (timed b w ∷ frames) k ≡ total (untimed w ∷ frames) k
timed_total b OnceOf frames k = refl
timed_total b AlwaysOf frames k = refl
timed_total b (SinceOf f j) frames k = refl

none : {A B : Type 0} (x : A) → None ≡ Some x → B
none x e = cc

was_some : {A : Type 0} (x y : A) → Some x ≡ Some y → y ≡ x
was_some x y e = cc

same_le : (a b : ℕ) → a ≡ b → a ≤ b
same_le a b e = omega arith

sign_rises : (op : Binary) (n : ℕ) (b : Behind) → Keeps n b → n ≤ least (with_sign op b)
sign_rises op n b e =
    let g = total_grows b.frames b.height (max b.height 1 + 1) (omega arith) in
    omega (arith, e, g)

since_rises : (n : ℕ) (b : Behind) → Keeps n b → n ≤ least (with_since b)
since_rises n b e =
    let g = total_grows b.frames b.height (max b.height 1 + 1) (omega arith) in
    omega (arith, e, g)

closed_rises : (n : ℕ) (frames : List Frame) (f : Formula) (k : ℕ) (s : State) → total frames k ≡ n → closed_by frames f k ≡ Some s → n ≤ least s
closed_rises n (ParenOf ∷ frames) f k s e q = rw (was_some _ _ q) (same_le _ _ (sym e))
closed_rises n (SecondOf g j ∷ frames) f k s e q = rw (was_some _ _ q) (same_le _ _ (sym e))
closed_rises n _ f k s e q = none s q

parted_rises : (n : ℕ) (frames : List Frame) (f : Formula) (k : ℕ) (s : State) → total frames k ≡ n → parted_by frames f k ≡ Some s → n ≤ least s
parted_rises n (FirstOf ∷ frames) f k s e q =
    let g = total_grows frames (k + 1) (max k 1 + 1) (omega arith) in
    let e' : total frames (k + 1) ≡ n = e in
    let h : n ≤ total frames (max k 1 + 1) = omega arith in
    rw (was_some _ _ q) h
parted_rises n _ f k s e q = none s q

after_rises : (frames : List Frame) (f : Formula) (k : ℕ) (t : Token) (s : State) → after_whole frames f k t ≡ Some s → total frames k ≤ least s
after_rises frames f k (Sign sign.Iff) s e = rw (was_some _ _ e) (sign_rises binary.Iff (total frames k) (reduce 0 frames f k) (reduce_keeps 0 frames f k))
after_rises frames f k (Sign sign.Implies) s e = rw (was_some _ _ e) (sign_rises binary.Implies (total frames k) (reduce 2 frames f k) (reduce_keeps 2 frames f k))
after_rises frames f k (Sign sign.Or) s e = rw (was_some _ _ e) (sign_rises binary.Or (total frames k) (reduce 2 frames f k) (reduce_keeps 2 frames f k))
after_rises frames f k (Sign sign.And) s e = rw (was_some _ _ e) (sign_rises binary.And (total frames k) (reduce 3 frames f k) (reduce_keeps 3 frames f k))
after_rises frames f k (Word word.Since) s e = rw (was_some _ _ e) (since_rises (total frames k) (reduce 4 frames f k) (reduce_keeps 4 frames f k))
after_rises frames f k (Sign sign.RightParen) s e =
    closed_rises (total frames k) (shut frames f k).frames (shut frames f k).formula (shut frames f k).height s (shut_keeps frames f k) e
after_rises frames f k (Sign sign.Comma) s e =
    parted_rises (total frames k) (shut frames f k).frames (shut frames f k).formula (shut frames f k).height s (shut_keeps frames f k) e
after_rises frames f k _ s e = none s e

operand_rises : (frames : List Frame) (t : Token) (s : State) → operand_next frames t ≡ Some s → total frames 1 ≤ least s
operand_rises frames (Sign sign.Not) s e = rw (was_some _ _ e) (opened (PrefixOf prefix.Not) frames 1)
operand_rises frames (Sign sign.Prev) s e = rw (was_some _ _ e) (opened (PrefixOf prefix.Prev) frames 1)
operand_rises frames (Word word.Once) s e = rw (was_some _ _ e) (opened (PrefixOf prefix.Once) frames 1)
operand_rises frames (Word word.Always) s e = rw (was_some _ _ e) (opened (PrefixOf prefix.Always) frames 1)
operand_rises frames (Word word.Exists) s e = rw (was_some _ _ e) (total_grows frames 1 2 (omega arith))
operand_rises frames (Word word.Forall) s e = rw (was_some _ _ e) (total_grows frames 1 2 (omega arith))
operand_rises frames (Word word.True) s e = rw (was_some _ _ e) (total_grows frames 1 1 (omega arith))
operand_rises frames (Word word.False) s e = rw (was_some _ _ e) (total_grows frames 1 1 (omega arith))
operand_rises frames (Name n) s e = rw (was_some _ _ e) (total_grows frames 1 1 (omega arith))
operand_rises frames (Sign sign.LeftBracket) s e = rw (was_some _ _ e) (opened FirstOf frames 1)
operand_rises frames (Sign sign.LeftParen) s e = rw (was_some _ _ e) (opened ParenOf frames 1)
operand_rises frames _ s e = none s e

term_rises : (o : Option Term) (frames : List Frame) (n : Text) (xs : List Term) (s : State) → option_next o (λ x. Some (TermEnd frames n (xs ++ x ∷ []))) ≡ Some s → total frames 1 ≤ least s
term_rises None frames n xs s e = none s e
term_rises (Some x) frames n xs s e = rw (was_some _ _ e) (total_grows frames 1 1 (omega arith))

pub next_rises : (s : State) (t : Token) (s' : State) → next s t ≡ Some s' → least s ≤ least s'
next_rises (Operand frames) t s' e = operand_rises frames t s' e
next_rises (Named frames n) (Sign sign.LeftParen) s' e = rw (was_some _ _ e) (total_grows frames 1 1 (omega arith))
next_rises (Named frames n) t s' e = after_rises frames (Atom n []) 1 t s' e
next_rises (FirstTerm frames n) (Sign sign.RightParen) s' e = rw (was_some _ _ e) (total_grows frames 1 1 (omega arith))
next_rises (FirstTerm frames n) t s' e = term_rises (term_of t) frames n [] s' e
next_rises (NextTerm frames n xs) t s' e = term_rises (term_of t) frames n xs s' e
next_rises (TermEnd frames n xs) (Sign sign.Comma) s' e = rw (was_some _ _ e) (total_grows frames 1 1 (omega arith))
next_rises (TermEnd frames n xs) (Sign sign.RightParen) s' e = rw (was_some _ _ e) (total_grows frames 1 1 (omega arith))
next_rises (Whole frames f k) t s' e = after_rises frames f k t s' e
next_rises (OfVariable frames q) (Name x) s' e = rw (was_some _ _ e) (total_grows frames 2 2 (omega arith))
next_rises (OfDot frames q x) (Sign sign.Dot) s' e = rw (was_some _ _ e) (total_grows frames 2 2 (omega arith))
next_rises (Bounded frames w) (Sign sign.LeftBracket) s' e = rw (was_some _ _ e) (total_grows (untimed w ∷ frames) 1 1 (omega arith))
next_rises (Bounded frames w) t s' e = operand_rises (untimed w ∷ frames) t s' e
next_rises (Bracket frames w) (Sign sign.AtMost) s' e = rw (was_some _ _ e) (total_grows (untimed w ∷ frames) 1 1 (omega arith))
next_rises (Bracket frames w) (Sign sign.MoreThan) s' e = rw (was_some _ _ e) (total_grows (untimed w ∷ frames) 1 1 (omega arith))
next_rises (Bracket frames w) t s' e =
    let a = opened FirstOf (untimed w ∷ frames) 1 in
    let b = operand_rises (FirstOf ∷ untimed w ∷ frames) t s' e in
    omega (arith, a, b)
next_rises (OfNumber frames w most) (Number t) s' e = rw (was_some _ _ e) (total_grows (untimed w ∷ frames) 1 1 (omega arith))
next_rises (BoundEnd frames w b) (Sign sign.RightBracket) s' e = rw (was_some _ _ e) (same_le _ _ (sym (timed_total b w frames 1)))
next_rises _ t s' e = none s' e

only_height : (n : ℕ) (frames : List Frame) (f : Formula) (k : ℕ) (m : Measured) → total frames k ≡ n → only_bottom frames f k ≡ Some m → n ≡ m.1
only_height n [] f k m e q = rw (was_some _ _ q) (sym e)
only_height n _ f k m e q = none m q

-- what is put together at the end has that height
pub finish_height : (s : State) (m : Measured) → finish s ≡ Some m → least s ≡ m.1
finish_height (Named frames n) m e =
    only_height (total frames 1) (shut frames (Atom n []) 1).frames (shut frames (Atom n []) 1).formula (shut frames (Atom n []) 1).height m (shut_keeps frames (Atom n []) 1) e
finish_height (Whole frames f k) m e =
    only_height (total frames k) (shut frames f k).frames (shut frames f k).formula (shut frames f k).height m (shut_keeps frames f k) e
finish_height _ m e = none m e

-- no form is lower than a part of it
pub above : (frames : List Frame) (k : ℕ) → k ≤ total frames k
above [] k = omega arith
above (frame ∷ frames) k =
    let r = rises frame k in
    let m = above frames (rise frame k) in
    omega (arith, r, m)
