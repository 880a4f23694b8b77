-- Each state can be completed, at its least height.
use Rattle.std.proofs.Common.{◌≡◌, ℕ, ◌+◌, ◌≤◌, List, [], ◌∷◌, ◌++◌, Option, Some, Bool, true, false, max, refl, ap, ◌∙◌, arith}
use Rattle.qtl_syntax.specs.declared.formula.Term.TheVariants.{Constant}
use Rattle.qtl_syntax.specs.declared.formula.Bound.{Bound}
use Rattle.qtl_syntax.specs.declared.token.Word.TheVariants as word
use Rattle.qtl_syntax.specs.declared.token.Sign.TheVariants as sign
use Rattle.qtl_syntax.specs.declared.token.Token.{Token}
use Rattle.qtl_syntax.specs.declared.token.Token.TheVariants.{Name, Number, Word, Sign}
use Rattle.qtl_syntax.specs.Tree.{Text, Formula, True, Atom, Interval}
use Rattle.qtl_syntax.specs.Grammar.{joined, prefixed, quantified}
use Rattle.qtl_syntax.specs.Machine.{Frame, PrefixOf, BinaryOf, QuantifierOf, ParenOf, FirstOf, SecondOf, Timeable, untimed, timed, bound_of, State, Operand, Named, FirstTerm, NextTerm, TermEnd, Whole, OfVariable, OfDot, Bounded, Bracket, OfNumber, BoundEnd, Measured, outcome, total, least}
use Rattle.qtl_syntax.proofs.Frames.{Follow, at_end, at_paren, at_comma, prefix_up, quantifier_up, binary_up, named}
use Rattle.qtl_syntax.proofs.Rows.{positive}
use Rattle.qtl_syntax.proofs.Least.{timed_total}
use Rattle.qtl_syntax.proofs.Sound.{Reads}

-- the shortest tokens that end the frames
abbrev pub closers : List Frame → List Token
closers [] = []
closers (PrefixOf p ∷ frames) = closers frames
closers (BinaryOf op g j ∷ frames) = closers frames
closers (QuantifierOf q x ∷ frames) = closers frames
closers (ParenOf ∷ frames) = Sign sign.RightParen ∷ closers frames
closers (FirstOf ∷ frames) = Sign sign.Comma ∷ Word word.True ∷ Sign sign.RightParen ∷ closers frames
closers (SecondOf g j ∷ frames) = Sign sign.RightParen ∷ closers frames

closers_follow : (l : ℕ) (c : Bool) (frames : List Frame) → Follow l c (closers frames)
closers_follow l c [] = at_end refl
closers_follow l c (PrefixOf p ∷ frames) = closers_follow l c frames
closers_follow l c (BinaryOf op g j ∷ frames) = closers_follow l c frames
closers_follow l c (QuantifierOf q x ∷ frames) = closers_follow l c frames
closers_follow l c (ParenOf ∷ frames) = at_paren _ refl
closers_follow l c (FirstOf ∷ frames) = at_comma _ refl
closers_follow l c (SecondOf g j ∷ frames) = at_paren _ refl

-- the outcome is some formula of this height
abbrev pub Comes : ℕ → Option Measured → Type 0
Comes n o = (g : Formula) × (o ≡ Some (g, n))

filled : (frames : List Frame) (f : Formula) (k : ℕ) → 1 ≤ k → Comes (total frames k) (outcome (Whole frames f k) (closers frames))
filled [] f k h = (f, refl)
filled (PrefixOf p ∷ frames) f k h =
    let x = filled frames (prefixed p f) (k + 1) (omega arith) in
    (x.0, prefix_up 0 false (closers frames) (closers_follow 0 false frames) p frames f k ∙ x.1)
filled (BinaryOf o g j ∷ frames) f k h =
    let x = filled frames (joined o g f) (max j k + 1) (omega arith) in
    (x.0, binary_up 0 false (closers frames) (closers_follow 0 false frames) o (omega arith) g j frames f k ∙ x.1)
filled (QuantifierOf q x ∷ frames) f k h =
    let y = filled frames (quantified q x f) (k + 1) (omega arith) in
    (y.0, quantifier_up 0 (closers frames) (closers_follow 0 false frames) q x frames f k ∙ y.1)
filled (ParenOf ∷ frames) f k h = filled frames f (k + 1) (omega arith)
filled (FirstOf ∷ frames) f k h =
    let e : max k 1 + 1 ≡ k + 1 = omega arith in
    let x = filled frames (Interval f True) (max k 1 + 1) (omega arith) in
    (x.0, x.1 ∙ ap (λ n. Some (x.0, total frames n)) e)
filled (SecondOf g j ∷ frames) f k h = filled frames (Interval g f) (max j k + 1) (omega arith)

-- zero, as a number's text
abbrev pub naught : Text
naught = 48 ∷ []

abbrev pub letter : Text
letter = 97 ∷ []

-- the tokens that end what is begun
abbrev pub closing : State → List Token
closing (Operand frames) = Word word.True ∷ closers frames
closing (Named frames n) = closers frames
closing (FirstTerm frames n) = Sign sign.RightParen ∷ closers frames
closing (NextTerm frames n xs) = Number naught ∷ Sign sign.RightParen ∷ closers frames
closing (TermEnd frames n xs) = Sign sign.RightParen ∷ closers frames
closing (Whole frames f k) = closers frames
closing (OfVariable frames q) = Name letter ∷ Sign sign.Dot ∷ Word word.True ∷ closers frames
closing (OfDot frames q x) = Sign sign.Dot ∷ Word word.True ∷ closers frames
closing (Bounded frames w) = Word word.True ∷ closers (untimed w ∷ frames)
closing (Bracket frames w) = Sign sign.AtMost ∷ Number naught ∷ Sign sign.RightBracket ∷ Word word.True ∷ closers (timed (bound_of true naught) w ∷ frames)
closing (OfNumber frames w most) = Number naught ∷ Sign sign.RightBracket ∷ Word word.True ∷ closers (timed (bound_of most naught) w ∷ frames)
closing (BoundEnd frames w b) = Sign sign.RightBracket ∷ Word word.True ∷ closers (timed b w ∷ frames)

at_timed : (b : Bound) (w : Timeable) (frames : List Frame) → Comes (total (untimed w ∷ frames) 1) (outcome (Whole (timed b w ∷ frames) True 1) (closers (timed b w ∷ frames)))
at_timed b w frames =
    let x = filled (timed b w ∷ frames) True 1 (omega arith) in
    (x.0, x.1 ∙ ap (λ n. Some (x.0, n)) (timed_total b w frames 1))

pub closes : (s : State) (ts : List Token) → Reads s ts → Comes (least s) (outcome s (closing s))
closes (Operand frames) ts r = filled frames True 1 (omega arith)
closes (Named frames n) ts r =
    let x = filled frames (Atom n []) 1 (omega arith) in
    (x.0, named 0 false (closers frames) (closers_follow 0 false frames) frames n ∙ x.1)
closes (FirstTerm frames n) ts r = filled frames (Atom n []) 1 (omega arith)
closes (NextTerm frames n xs) ts r = filled frames (Atom n (xs ++ Constant naught ∷ [])) 1 (omega arith)
closes (TermEnd frames n xs) ts r = filled frames (Atom n xs) 1 (omega arith)
closes (Whole frames f k) ts r = filled frames f k (positive k 5 r.1 f true r.4)
closes (OfVariable frames q) ts r = filled (QuantifierOf q letter ∷ frames) True 1 (omega arith)
closes (OfDot frames q x) ts r = filled (QuantifierOf q x ∷ frames) True 1 (omega arith)
closes (Bounded frames w) ts r = filled (untimed w ∷ frames) True 1 (omega arith)
closes (Bracket frames w) ts r = at_timed (bound_of true naught) w frames
closes (OfNumber frames w most) ts r = at_timed (bound_of most naught) w frames
closes (BoundEnd frames w b) ts r = at_timed b w frames
