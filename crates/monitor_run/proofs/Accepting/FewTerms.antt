-- The atoms of a specification's rows have few terms, as those of its formulas do.
use Rattle.std.proofs.Common.{◌≡◌, ℕ, ◌+◌, List, [], ◌∷◌, ◌++◌, sym, subst}
use Rattle.std.specs.List.{AllByRecursion}
use Rattle.qtl_syntax.specs.declared.formula.Bound.{Bound}
use Rattle.qtl_syntax.specs.declared.formula.Bound.TheVariants.{AtMost, MoreThan}
use Rattle.qtl_syntax.specs.Tree.{Text}
use Rattle.subformulas.specs.Numbering.{sub, since_kind, once_kind, always_kind, numbered, numbered_one, numbered_two, all_numbered}
use Rattle.subformulas.specs.Table.{Table, HasFewTerms}
use Rattle.subformulas.specs.declared.table.Kind.{Kind}
use Rattle.subformulas.specs.declared.table.Kind.TheVariants as kind
use Rattle.subformulas.specs.declared.table.Sub.{Sub}
use Rattle.wellformed.specs.CoreTree.{CoreFormula, True, False, Atom, Not, And, Or, Implies, Iff, Prev, Since, TimedSince, Once, TimedOnce, Always, TimedAlways, Interval, Exists, Forall}
use Rattle.wellformed.specs.Sound.{nodes}
use Rattle.wellformed.specs.Terms as formula

-- no atom of the rows has too many terms
abbrev pub AreFew : List Sub → Type 0
AreFew rows = AllByRecursion (λ s. HasFewTerms s.kind) rows

parts_few : (xs ys : List Sub) → AreFew xs → AreFew ys → AreFew (xs ++ ys)
parts_few [] ys p q = q
parts_few (x ∷ xs) ys p q = (p.0, parts_few xs ys p.1 q)

one_few : (k : Kind) (n : ℕ) (f : CoreFormula) → HasFewTerms k → AreFew (numbered n f) → AreFew (numbered_one k n f)
one_few k n f own p = parts_few (numbered n f) (sub k (n + nodes f) 0 ∷ []) p (own, tt)

two_few : (k : Kind) (n : ℕ) (f g : CoreFormula) → HasFewTerms k → AreFew (numbered n f) → AreFew (numbered (n + nodes f) g) → AreFew (numbered_two k n f g)
two_few k n f g own p q =
    parts_few (numbered n f) (numbered (n + nodes f) g ++ sub k (n + nodes f) (n + nodes f + nodes g) ∷ []) p
    (parts_few (numbered (n + nodes f) g) (sub k (n + nodes f) (n + nodes f + nodes g) ∷ []) q (own, tt))

few_since : (b : Bound) → HasFewTerms (since_kind b)
few_since (AtMost m) = tt
few_since (MoreThan m) = tt

few_once : (b : Bound) → HasFewTerms (once_kind b)
few_once (AtMost m) = tt
few_once (MoreThan m) = tt

few_always : (b : Bound) → HasFewTerms (always_kind b)
few_always (AtMost m) = tt
few_always (MoreThan m) = tt

rows_few : (f : CoreFormula) (n : ℕ) → formula.HasFewTerms f → AreFew (numbered n f)
rows_few True n h = (tt, tt)
rows_few False n h = (tt, tt)
rows_few (Atom a) n h = (h, tt)
rows_few (Not f) n h = one_few kind.Not n f tt (rows_few f n h)
rows_few (And f g) n h = two_few kind.And n f g tt (rows_few f n h.0) (rows_few g (n + nodes f) h.1)
rows_few (Or f g) n h = two_few kind.Or n f g tt (rows_few f n h.0) (rows_few g (n + nodes f) h.1)
rows_few (Implies f g) n h = two_few kind.Implies n f g tt (rows_few f n h.0) (rows_few g (n + nodes f) h.1)
rows_few (Iff f g) n h = two_few kind.Iff n f g tt (rows_few f n h.0) (rows_few g (n + nodes f) h.1)
rows_few (Prev f) n h = one_few kind.Prev n f tt (rows_few f n h)
rows_few (Since f g) n h = two_few kind.Since n f g tt (rows_few f n h.0) (rows_few g (n + nodes f) h.1)
rows_few (TimedSince b f g) n h = two_few (since_kind b) n f g (few_since b) (rows_few f n h.0) (rows_few g (n + nodes f) h.1)
rows_few (Once f) n h = one_few kind.Once n f tt (rows_few f n h)
rows_few (TimedOnce b f) n h = one_few (once_kind b) n f (few_once b) (rows_few f n h)
rows_few (Always f) n h = one_few kind.Always n f tt (rows_few f n h)
rows_few (TimedAlways b f) n h = one_few (always_kind b) n f (few_always b) (rows_few f n h)
rows_few (Interval f g) n h = two_few kind.Interval n f g tt (rows_few f n h.0) (rows_few g (n + nodes f) h.1)
rows_few (Exists v f) n h = one_few (kind.Exists v) n f tt (rows_few f n h)
rows_few (Forall v f) n h = one_few (kind.Forall v) n f tt (rows_few f n h)

all_few : (n : ℕ) (props : List (Text × CoreFormula)) → AllByRecursion (λ p. formula.HasFewTerms p.1) props → AreFew (all_numbered n props)
all_few n [] h = tt
all_few n (p ∷ props) h =
    parts_few (numbered n p.1) (all_numbered (n + nodes p.1) props) (rows_few p.1 n h.0) (all_few (n + nodes p.1) props h.1)

-- the plan of such properties
pub plan_few : (props : List (Text × CoreFormula)) (plan : Table) → AllByRecursion (λ p. formula.HasFewTerms p.1) props → plan.subs ≡ all_numbered 0 props → AreFew plan.subs
plan_few props plan few rows = subst AreFew (sym rows) (all_few 0 props few)
