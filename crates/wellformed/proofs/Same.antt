-- Names compared by their bytes.
use Rattle.std.proofs.Common.{◌≡◌, refl, Bool, true, false}
use Rattle.std.specs.Prelude.{bytes_eq}
use Rattle.std.proofs.lemmas.Slice.Eq.{bytes_eq-Decides}
use Rattle.qtl_syntax.specs.Tree.{Text}

pub same_bytes : (x y : Text) → x ≡ y → bytes_eq x y ≡ true
same_bytes x y e = (bytes_eq-Decides x y).1 e

not_true : (b : Bool) → (b ≡ true → ⊥) → b ≡ false
not_true true h = absurd (h refl)
not_true false h = refl

pub other_bytes : (x y : Text) → (x ≡ y → ⊥) → bytes_eq x y ≡ false
other_bytes x y h = not_true (bytes_eq x y) (λ e. h ((bytes_eq-Decides x y).0 e))
