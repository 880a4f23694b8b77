-- A row of a formula is a timed operator exactly where the formula has one.
use Rattle.std.proofs.Common.{◌≡◌, ℕ, ◌+◌, List, [], ◌∷◌, ◌++◌, Bool, true, false, refl, ◌∙◌}
use Rattle.std.specs.Prelude.{◌||◌}
use Rattle.std.specs.List.{list_any}
use Rattle.std.proofs.lemmas.List.Folds.{list_any-append}
use Rattle.qtl_syntax.specs.declared.formula.Bound.{Bound}
use Rattle.qtl_syntax.specs.declared.formula.Bound.TheVariants.{AtMost, MoreThan}
use Rattle.qtl_syntax.specs.Tree.{Text}
use Rattle.subformulas.specs.Numbering.{sub, since_kind, once_kind, always_kind, numbered, numbered_one, numbered_two, all_numbered}
use Rattle.subformulas.specs.Table.{is_timed}
use Rattle.subformulas.specs.declared.table.Kind.{Kind}
use Rattle.subformulas.specs.declared.table.Kind.TheVariants as kind
use Rattle.subformulas.specs.declared.table.Sub.{Sub}
use Rattle.wellformed.specs.CoreTree.{CoreFormula, True, False, Atom, Not, And, Or, Implies, Iff, Prev, Since, TimedSince, Once, TimedOnce, Always, TimedAlways, Interval, Exists, Forall}
use Rattle.wellformed.specs.Timed.{has_timed}
use Rattle.wellformed.specs.Sound.{nodes}

-- a row is a timed operator
abbrev pub any_timed : List Sub → Bool
any_timed rows = list_any (λ s. is_timed s.kind) rows

parts_timed : (xs ys : List Sub) (a b : Bool) → any_timed xs ≡ a → any_timed ys ≡ b → any_timed (xs ++ ys) ≡ (a || b)
parts_timed xs ys a b p q = list_any-append (λ s. is_timed s.kind) xs ys ∙ rw (p, q) refl

or_nothing : (a : Bool) → (a || false) ≡ a
or_nothing true = refl
or_nothing false = refl

or_always : (a : Bool) → (a || true) ≡ true
or_always true = refl
or_always false = refl

-- the rows of a kind over one formula, and over two
one_timed : (k : Kind) (n : ℕ) (f : CoreFormula) (a : Bool) → any_timed (numbered n f) ≡ a → any_timed (numbered_one k n f) ≡ (a || is_timed k)
one_timed k n f a p = parts_timed (numbered n f) (sub k (n + nodes f) 0 ∷ []) a (is_timed k) p (or_nothing (is_timed k))

two_timed : (k : Kind) (n : ℕ) (f g : CoreFormula) (a b : Bool) → any_timed (numbered n f) ≡ a → any_timed (numbered (n + nodes f) g) ≡ b →
    any_timed (numbered_two k n f g) ≡ (a || (b || is_timed k))
two_timed k n f g a b p q =
    parts_timed (numbered n f) (numbered (n + nodes f) g ++ sub k (n + nodes f) (n + nodes f + nodes g) ∷ []) a (b || is_timed k) p
    (parts_timed (numbered (n + nodes f) g) (sub k (n + nodes f) (n + nodes f + nodes g) ∷ []) b (is_timed k) q (or_nothing (is_timed k)))

untimed_one : (k : Kind) (n : ℕ) (f : CoreFormula) (a : Bool) → is_timed k ≡ false → any_timed (numbered n f) ≡ a → any_timed (numbered_one k n f) ≡ a
untimed_one k n f a e p = one_timed k n f a p ∙ rw e (or_nothing a)

untimed_two : (k : Kind) (n : ℕ) (f g : CoreFormula) (a b : Bool) → is_timed k ≡ false → any_timed (numbered n f) ≡ a → any_timed (numbered (n + nodes f) g) ≡ b →
    any_timed (numbered_two k n f g) ≡ (a || b)
untimed_two k n f g a b e p q = two_timed k n f g a b p q ∙ rw (e, or_nothing b) refl

timed_last : (k : Kind) (n : ℕ) (f : CoreFormula) → is_timed k ≡ true → any_timed (numbered_one k n f) ≡ true
timed_last k n f e = one_timed k n f _ refl ∙ rw e (or_always (any_timed (numbered n f)))

timed_behind : (k : Kind) (n : ℕ) (f g : CoreFormula) → is_timed k ≡ true → any_timed (numbered_two k n f g) ≡ true
timed_behind k n f g e =
    two_timed k n f g _ _ refl refl ∙ rw (e, or_always (any_timed (numbered (n + nodes f) g))) (or_always (any_timed (numbered n f)))

timed_since : (b : Bound) → is_timed (since_kind b) ≡ true
timed_since (AtMost m) = refl
timed_since (MoreThan m) = refl

timed_once : (b : Bound) → is_timed (once_kind b) ≡ true
timed_once (AtMost m) = refl
timed_once (MoreThan m) = refl

timed_always : (b : Bound) → is_timed (always_kind b) ≡ true
timed_always (AtMost m) = refl
timed_always (MoreThan m) = refl

-- a formula has a timed operator where one of its rows is one
rows_timed : (f : CoreFormula) (n : ℕ) → any_timed (numbered n f) ≡ has_timed f
rows_timed True n = refl
rows_timed False n = refl
rows_timed (Atom a) n = refl
rows_timed (Not f) n = untimed_one kind.Not n f _ refl (rows_timed f n)
rows_timed (And f g) n = untimed_two kind.And n f g _ _ refl (rows_timed f n) (rows_timed g (n + nodes f))
rows_timed (Or f g) n = untimed_two kind.Or n f g _ _ refl (rows_timed f n) (rows_timed g (n + nodes f))
rows_timed (Implies f g) n = untimed_two kind.Implies n f g _ _ refl (rows_timed f n) (rows_timed g (n + nodes f))
rows_timed (Iff f g) n = untimed_two kind.Iff n f g _ _ refl (rows_timed f n) (rows_timed g (n + nodes f))
rows_timed (Prev f) n = untimed_one kind.Prev n f _ refl (rows_timed f n)
rows_timed (Since f g) n = untimed_two kind.Since n f g _ _ refl (rows_timed f n) (rows_timed g (n + nodes f))
rows_timed (TimedSince b f g) n = timed_behind (since_kind b) n f g (timed_since b)
rows_timed (Once f) n = untimed_one kind.Once n f _ refl (rows_timed f n)
rows_timed (TimedOnce b f) n = timed_last (once_kind b) n f (timed_once b)
rows_timed (Always f) n = untimed_one kind.Always n f _ refl (rows_timed f n)
rows_timed (TimedAlways b f) n = timed_last (always_kind b) n f (timed_always b)
rows_timed (Interval f g) n = untimed_two kind.Interval n f g _ _ refl (rows_timed f n) (rows_timed g (n + nodes f))
rows_timed (Exists v f) n = untimed_one (kind.Exists v) n f _ refl (rows_timed f n)
rows_timed (Forall v f) n = untimed_one (kind.Forall v) n f _ refl (rows_timed f n)

pub all_timed : (n : ℕ) (props : List (Text × CoreFormula)) → any_timed (all_numbered n props) ≡ list_any (λ p. has_timed p.1) props
all_timed n [] = refl
all_timed n (p ∷ props) =
    parts_timed (numbered n p.1) (all_numbered (n + nodes p.1) props) (has_timed p.1) _ (rows_timed p.1 n) (all_timed (n + nodes p.1) props)
