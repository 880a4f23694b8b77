-- The nodes of a formula are the same in each scope.
use Rattle.std.proofs.Common.{◌≡◌, ℕ, List, ◌∷◌, ◌++◌, length, length-append, suc, refl, ap, arith}
use Rattle.qtl_syntax.specs.Tree.{Text, Formula, True, False, Atom, Not, And, Or, Implies, Iff, Prev, Since, TimedSince, Once, TimedOnce, Always, TimedAlways, Interval, Exists, Forall}
use Rattle.wellformed.specs.Faults.{nodes_in, nodes_of}

one_more : (m n : ℕ) → m ≡ n → suc m ≡ suc n
one_more m n e = ap suc e

two_more : (xs ys : List (List Text × Formula)) (us vs : List Formula) → length xs ≡ length us → length ys ≡ length vs → suc (length (xs ++ ys)) ≡ suc (length (us ++ vs))
two_more xs ys us vs e d = omega (arith, length-append xs ys, length-append us vs)

pub same_length : (f : Formula) (s : List Text) → length (nodes_in s f) ≡ length (nodes_of f)
same_length True s = refl
same_length False s = refl
same_length (Atom name terms) s = refl
same_length (Not f) s = one_more _ _ (same_length f s)
same_length (And f g) s = two_more _ _ _ _ (same_length f s) (same_length g s)
same_length (Or f g) s = two_more _ _ _ _ (same_length f s) (same_length g s)
same_length (Implies f g) s = two_more _ _ _ _ (same_length f s) (same_length g s)
same_length (Iff f g) s = two_more _ _ _ _ (same_length f s) (same_length g s)
same_length (Prev f) s = one_more _ _ (same_length f s)
same_length (Since f g) s = two_more _ _ _ _ (same_length f s) (same_length g s)
same_length (TimedSince b f g) s = two_more _ _ _ _ (same_length f s) (same_length g s)
same_length (Once f) s = one_more _ _ (same_length f s)
same_length (TimedOnce b f) s = one_more _ _ (same_length f s)
same_length (Always f) s = one_more _ _ (same_length f s)
same_length (TimedAlways b f) s = one_more _ _ (same_length f s)
same_length (Interval f g) s = two_more _ _ _ _ (same_length f s) (same_length g s)
same_length (Exists x f) s = one_more _ _ (same_length f (x ∷ s))
same_length (Forall x f) s = one_more _ _ (same_length f (x ∷ s))
