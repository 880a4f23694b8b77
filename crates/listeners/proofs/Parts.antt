-- A front of bytes that are written in two parts.
use Rattle.std.proofs.Common.{[], ℕ, List, ◌++◌, refl, sym, ap, append-nil}
use Rattle.std.specs.Prelude.{Option}
use Rattle.std.specs.Io.KnownBytes.{Appends}
use Rattle.std.proofs.KnownBytes.{Appends-nil}
use Rattle.mon_base.specs.Told.{AppendsFront}
use Rattle.mon_base.proofs.Appending.{front_after}

-- a front of the first part
pub front_first : (a b : Option (List ℕ)) (xs ys : List ℕ) → AppendsFront a b xs → AppendsFront a b (xs ++ ys)
front_first a b xs ys front = front_after a a b [] xs ys (xs ++ ys) (Appends-nil a) front refl

-- the first part, and a front of the second
pub front_second : (a b c : Option (List ℕ)) (xs ys : List ℕ) → Appends a b xs → AppendsFront b c ys → AppendsFront a c (xs ++ ys)
front_second a b c xs ys whole front = front_after a b c xs ys [] (xs ++ ys) whole front (ap (λ l. xs ++ l) (sym (append-nil ys)))
