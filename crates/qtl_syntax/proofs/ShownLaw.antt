-- The tokens of the canonical text spell the tree.
use Rattle.std.proofs.Common.{◌≡◌, ℕ, ◌+◌, ◌≤◌, List, [], ◌∷◌, ◌++◌, Bool, true, false, max, refl, arith}
use Rattle.qtl_syntax.specs.declared.formula.Term.{Term}
use Rattle.qtl_syntax.specs.declared.formula.Term.TheVariants.{Variable, Constant}
use Rattle.qtl_syntax.specs.declared.operator.Binary.{Binary}
use Rattle.qtl_syntax.specs.declared.operator.Binary.TheVariants as binary
use Rattle.qtl_syntax.specs.declared.operator.Prefix.{Prefix}
use Rattle.qtl_syntax.specs.declared.operator.Prefix.TheVariants as prefix
use Rattle.qtl_syntax.specs.declared.operator.Quantifier.TheVariants as quantifier
use Rattle.qtl_syntax.specs.declared.token.Token.{Token}
use Rattle.qtl_syntax.specs.Tree.{Text, Formula, True, False, Atom, Not, And, Or, Implies, Iff, Prev, Since, TimedSince, Once, TimedOnce, Always, TimedAlways, Interval, Exists, Forall}
use Rattle.qtl_syntax.specs.Grammar.{IsTerm, AreMore, IsBound, IsBinary, IsPrefix, level_of, left_of, right_of, joined, prefixed, Derives, by_truth, by_falsity, by_name, by_atom}
use Rattle.qtl_syntax.specs.Canonical.{is_plain}
use Rattle.qtl_syntax.proofs.Shown.{shown_term, shown_more, shown_atom, shown_bound, in_parens, shown}
use Rattle.qtl_syntax.proofs.Rows.{higher, prefix_grown, binary_grown, quantifier_grown, parens_grown, interval_grown}

-- each bound is written as digits that read back
abbrev pub BoundsRead : Formula → Type 0
BoundsRead True = Unit {0}
BoundsRead False = Unit {0}
BoundsRead (Atom n terms) = Unit {0}
BoundsRead (Not f) = BoundsRead f
BoundsRead (And f g) = BoundsRead f × BoundsRead g
BoundsRead (Or f g) = BoundsRead f × BoundsRead g
BoundsRead (Implies f g) = BoundsRead f × BoundsRead g
BoundsRead (Iff f g) = BoundsRead f × BoundsRead g
BoundsRead (Prev f) = BoundsRead f
BoundsRead (Since f g) = BoundsRead f × BoundsRead g
BoundsRead (TimedSince b f g) = IsBound (shown_bound b) b × BoundsRead f × BoundsRead g
BoundsRead (Once f) = BoundsRead f
BoundsRead (TimedOnce b f) = IsBound (shown_bound b) b × BoundsRead f
BoundsRead (Always f) = BoundsRead f
BoundsRead (TimedAlways b f) = IsBound (shown_bound b) b × BoundsRead f
BoundsRead (Interval f g) = BoundsRead f × BoundsRead g
BoundsRead (Exists x f) = BoundsRead f
BoundsRead (Forall x f) = BoundsRead f

-- derived at some level at least, by some height; a plain form is closed, and of level 5
abbrev pub Spelled : Formula → Type 0
Spelled f = (h : ℕ) × (c : Bool) × Derives h 0 (shown f) f c × (is_plain f ≡ true → Derives h 5 (shown f) f true)

-- an operand
abbrev pub Operand : Formula → Type 0
Operand f = (h : ℕ) × Derives h 5 (in_parens (is_plain f) (shown f)) f true

wrapped : (b : Bool) (h : ℕ) (c : Bool) (ts : List Token) (f : Formula) → Derives h 0 ts f c → (b ≡ true → Derives h 5 ts f true) → (k : ℕ) × Derives k 5 (in_parens b ts) f true
wrapped true h c ts f d p = (h, p refl)
wrapped false h c ts f d p = (h + 1, parens_grown h ts f c d)

operand : (f : Formula) → Spelled f → Operand f
operand f s = wrapped (is_plain f) s.0 s.1 (shown f) f s.2 s.3

right_five : (op : Binary) → right_of op ≤ 5
right_five binary.Iff = omega arith
right_five binary.Implies = omega arith
right_five binary.Or = omega arith
right_five binary.And = omega arith
right_five binary.Since = omega arith
right_five (binary.TimedSince b) = omega arith

left_five : (op : Binary) → left_of op ≤ 5
left_five binary.Iff = omega arith
left_five binary.Implies = omega arith
left_five binary.Or = omega arith
left_five binary.And = omega arith
left_five binary.Since = omega arith
left_five (binary.TimedSince b) = omega arith

both : (op : Binary) (s : List Token) (f g : Formula) → IsBinary s op → Spelled f → Spelled g →
    (h : ℕ) × Derives h 0 (in_parens (is_plain f) (shown f) ++ (s ++ in_parens (is_plain g) (shown g))) (joined op f g) true
both op s f g i x y =
    let a = operand f x in
    let b = operand g y in
    let l = higher a.0 a.0 (omega arith) (left_of op) 5 _ f true (left_five op) a.1 in
    let r = higher b.0 b.0 (omega arith) (right_of op) 5 _ g true (right_five op) b.1 in
    let d = binary_grown op a.0 b.0 _ s _ f g true i l r in
    (max a.0 b.0 + 1, higher (max a.0 b.0 + 1) (max a.0 b.0 + 1) (omega arith) 0 (level_of op) _ (joined op f g) true (omega arith) d)

one : (op : Prefix) (s : List Token) (f : Formula) → IsPrefix s op → Spelled f → (h : ℕ) × Derives h 0 (s ++ in_parens (is_plain f) (shown f)) (prefixed op f) true
one op s f i x =
    let a = operand f x in
    let d = prefix_grown op a.0 s _ f true i a.1 in
    (a.0 + 1, higher (a.0 + 1) (a.0 + 1) (omega arith) 0 5 _ (prefixed op f) true (omega arith) d)

never : {A : Type 0} → false ≡ true → A
never e = cc

shown_is : (t : Term) → IsTerm (shown_term t) t
shown_is (Variable x) = refl
shown_is (Constant c) = refl

more_are : (ts : List Term) → AreMore IsTerm (shown_more ts) ts
more_are [] = tt
more_are (t ∷ ts) = (shown_is t, more_are ts)

atom_spelled : (n : Text) (ts : List Term) → Derives 1 5 (shown_atom n ts) (Atom n ts) true
atom_spelled n [] = by_name n refl refl refl
atom_spelled n (t ∷ ts) = by_atom n (shown_term t ∷ shown_more ts) (t ∷ ts) refl (shown_is t, more_are ts) refl refl

plain_spelled : (h : ℕ) (f : Formula) → Derives h 5 (shown f) f true → Spelled f
plain_spelled h f d = (h, true, higher h h (omega arith) 0 5 (shown f) f true (omega arith) d, λ e. d)

-- the tokens spell the tree
pub spelled : (f : Formula) → BoundsRead f → Spelled f
spelled True b = let d : Derives 1 5 (shown True) True true = by_truth refl refl refl in plain_spelled 1 True d
spelled False b = let d : Derives 1 5 (shown False) False true = by_falsity refl refl refl in plain_spelled 1 False d
spelled (Atom n terms) b = plain_spelled 1 (Atom n terms) (atom_spelled n terms)
spelled (Not f) b = let x = one prefix.Not _ f refl (spelled f b) in (x.0, true, x.1, λ e. never e)
spelled (And f g) b = let x = both binary.And _ f g refl (spelled f b.0) (spelled g b.1) in (x.0, true, x.1, λ e. never e)
spelled (Or f g) b = let x = both binary.Or _ f g refl (spelled f b.0) (spelled g b.1) in (x.0, true, x.1, λ e. never e)
spelled (Implies f g) b = let x = both binary.Implies _ f g refl (spelled f b.0) (spelled g b.1) in (x.0, true, x.1, λ e. never e)
spelled (Iff f g) b = let x = both binary.Iff _ f g refl (spelled f b.0) (spelled g b.1) in (x.0, true, x.1, λ e. never e)
spelled (Prev f) b = let x = one prefix.Prev _ f refl (spelled f b) in (x.0, true, x.1, λ e. never e)
spelled (Since f g) b = let x = both binary.Since _ f g refl (spelled f b.0) (spelled g b.1) in (x.0, true, x.1, λ e. never e)
spelled (TimedSince t f g) b = let x = both (binary.TimedSince t) _ f g (shown_bound t, refl, b.0) (spelled f b.1) (spelled g b.2) in (x.0, true, x.1, λ e. never e)
spelled (Once f) b = let x = one prefix.Once _ f refl (spelled f b) in (x.0, true, x.1, λ e. never e)
spelled (TimedOnce t f) b = let x = one (prefix.TimedOnce t) _ f (shown_bound t, refl, b.0) (spelled f b.1) in (x.0, true, x.1, λ e. never e)
spelled (Always f) b = let x = one prefix.Always _ f refl (spelled f b) in (x.0, true, x.1, λ e. never e)
spelled (TimedAlways t f) b = let x = one (prefix.TimedAlways t) _ f (shown_bound t, refl, b.0) (spelled f b.1) in (x.0, true, x.1, λ e. never e)
spelled (Interval f g) b =
    let x = spelled f b.0 in
    let y = spelled g b.1 in
    plain_spelled (max x.0 y.0 + 1) (Interval f g) (interval_grown x.0 y.0 (shown f) (shown g) f g x.1 y.1 x.2 y.2)
spelled (Exists v f) b =
    let x = spelled f b in
    let d = quantifier_grown quantifier.Exists v x.0 (shown f) f x.1 x.2 in
    (x.0 + 1, false, higher (x.0 + 1) (x.0 + 1) (omega arith) 0 5 _ (Exists v f) false (omega arith) d, λ e. never e)
spelled (Forall v f) b =
    let x = spelled f b in
    let d = quantifier_grown quantifier.Forall v x.0 (shown f) f x.1 x.2 in
    (x.0 + 1, false, higher (x.0 + 1) (x.0 + 1) (omega arith) 0 5 _ (Forall v f) false (omega arith) d, λ e. never e)
