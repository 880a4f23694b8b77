-- Places are compared by their three numbers, so the test is equality.
use Rattle.std.proofs.Common.{◌≡◌, Bool, true, false, refl, sym, ap}
use Rattle.std.specs.Prelude.{Decides, nat_eq, ◌&&◌}
use Rattle.std.specs.Cmp.{IsEquivalence}
use Rattle.std.proofs.lemmas.Bool.Decides.{Decides-eqb, Decides-and, same_from_decides}
use Rattle.op_cache.specs.declared.key.Place.{Place}
use Rattle.op_cache.specs.Keys.{same_place}

pub Decides-place : (p q : Place) → Decides (same_place p q) (p ≡ q)
Decides-place p q = (λ e. let h = parts.0 e in λ i. record { op = h.0.0 i; left = h.0.1 i; right = h.1 i }, λ e. parts.1 ((ap (λ r. r.op) e, ap (λ r. r.left) e), ap (λ r. r.right) e))
  where
    parts : Decides (same_place p q) (((p.op ≡ q.op) × (p.left ≡ q.left)) × (p.right ≡ q.right))
    parts =
        Decides-and (nat_eq p.op q.op && nat_eq p.left q.left) (nat_eq p.right q.right) (Decides-and (nat_eq p.op q.op) (nat_eq p.left q.left) (Decides-eqb p.op q.op) (Decides-eqb p.left q.left)) (Decides-eqb p.right q.right)

pub places_laws : IsEquivalence same_place
places_laws = record {
  refl = λ p. (Decides-place p p).1 refl;
  symm = λ p q. same_from_decides (same_place p q) (same_place q p) (Decides-place p q) (λ e. sym ((Decides-place q p).0 e), λ e. (Decides-place q p).1 (sym e));
  congr = λ p q r e. ap (λ x. same_place x r) ((Decides-place p q).0 e);
}

pub differ : (p q : Place) → (p ≡ q → ⊥) → same_place p q ≡ false
differ p q never = by_test (same_place p q) refl
  where
    by_test : (b : Bool) → same_place p q ≡ b → b ≡ false
    by_test true e = absurd (never ((Decides-place p q).0 e))
    by_test false e = refl
