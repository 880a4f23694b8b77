-- Texts for the variables of a chain, one after the other.
use Rattle.std.proofs.Common.{◌≡◌, ◌≢◌, ℕ, ◌<◌, ◌⊎◌, inl, inr, refl, sym, ◌∙◌, ap, subst, arith, List, [], ◌∷◌, true, false}
use Rattle.std.specs.Prelude.{nat_eq, if◌then◌else◌}
use Rattle.std.specs.List.{AllByRecursion}
use Rattle.std.proofs.lemmas.Bool.Decides.{eqb_tells, nat_tests}
use Rattle.qtl_syntax.specs.Tree.{Text}
use Rattle.qtl_truth.specs.Truth.{IsText}
use Rattle.qtl_truth.specs.declared.event.Event.{Event}
use Rattle.subformulas.specs.Assigned.{Texts, put, Truth}
use Rattle.subformulas.specs.Table.{Table}
use Rattle.wellformed.specs.CoreTree.{CoreFormula}
use Rattle.report.specs.Witness.{CanFail}

-- the numbers ascend
abbrev pub Ascends : List ℕ → Type 0
Ascends [] = Unit {0}
Ascends (x ∷ xs) = AllByRecursion (λ y. x < y) xs × Ascends xs

abbrev pub IsOneOf : List ℕ → ℕ → Type 0
IsOneOf [] y = ⊥
IsOneOf (x ∷ xs) y = (x ≡ y) ⊎ IsOneOf xs y

-- the texts of the one for these variables, and of the other for the rest
abbrev pub over : List ℕ → Texts → Texts → Texts
over [] us nu = nu
over (x ∷ later) us nu = over later us (put x (us x) nu)

pub all_map : (P Q : ℕ → Type 0) → ((x : ℕ) → P x → Q x) → (xs : List ℕ) → AllByRecursion P xs → AllByRecursion Q xs
all_map P Q f [] h = tt
all_map P Q f (x ∷ xs) h = (f x h.0, all_map P Q f xs h.1)

pub put_own : (x : ℕ) (t : Text) (nu : Texts) → put x t nu x ≡ t
put_own x t nu = let same : nat_eq x x ≡ true = grind (arith, nat_tests) in ap (λ b. if b then t else nu x) same

pub put_greater : (x y : ℕ) (t : Text) (nu : Texts) → x < y → put x t nu y ≡ nu y
put_greater x y t nu l = let other : nat_eq x y ≡ false = grind (arith, nat_tests, l) in ap (λ b. if b then t else nu y) other

-- only the texts of these variables are looked at
pub over_same : (xs : List ℕ) (us other nu : Texts) → AllByRecursion (λ x. us x ≡ other x) xs → over xs us nu ≡ over xs other nu
over_same [] us other nu h = refl
over_same (x ∷ later) us other nu h = ap (λ t. over later us (put x t nu)) h.0 ∙ over_same later us other (put x (other x) nu) h.1

-- texts that are alike at each variable stay so
module _ (n : ℕ) (R : ℕ → Text → Text → Type 0) where
  abbrev pub Alike : Texts → Texts → Type 0
  Alike nu other = (y : ℕ) → y < n → R y (nu y) (other y)

  pub put_alike : (x : ℕ) (t u : Text) (nu other : Texts) → R x t u → Alike nu other → Alike (put x t nu) (put x u other)
  put_alike x t u nu other r h y l = by_test (eqb_tells x y)
    where
      by_test : ((nat_eq x y ≡ true) × (x ≡ y)) ⊎ ((nat_eq x y ≡ false) × (x ≢ y)) → R y (if nat_eq x y then t else nu y) (if nat_eq x y then u else other y)
      by_test (inl e) = rw e.0 (subst (λ (z : ℕ). R z t u) e.1 r)
      by_test (inr e) = rw e.0 (h y l)

  pub over_alike : (xs : List ℕ) (us ws nu other : Texts) → AllByRecursion (λ x. R x (us x) (ws x)) xs → Alike nu other → Alike (over xs us nu) (over xs ws other)
  over_alike [] us ws nu other r h = h
  over_alike (x ∷ later) us ws nu other r h = over_alike later us ws (put x (us x) nu) (put x (ws x) other) r.1 (put_alike x (us x) (ws x) nu other r.0 h)

-- at the variables of the chain it has the chain's texts
over_out : (xs : List ℕ) (us nu : Texts) (y : ℕ) → AllByRecursion (λ z. y < z) xs → over xs us nu y ≡ nu y
over_out [] us nu y h = refl
over_out (x ∷ later) us nu y h = over_out later us (put x (us x) nu) y h.1 ∙ put_less x y (us x) nu h.0
  where
    put_less : (x y : ℕ) (t : Text) (nu : Texts) → y < x → put x t nu y ≡ nu y
    put_less x y t nu l = let other : nat_eq x y ≡ false = grind (arith, nat_tests, l) in ap (λ b. if b then t else nu y) other

pub over_in : (xs : List ℕ) (us nu : Texts) (y : ℕ) → Ascends xs → IsOneOf xs y → over xs us nu y ≡ us y
over_in [] us nu y a h = absurd h
over_in (x ∷ later) us nu y a (inr h) = over_in later us (put x (us x) nu) y a.1 h
over_in (x ∷ later) us nu y a (inl e) =
    subst (λ (z : ℕ). over later us (put x (us x) nu) z ≡ us z) e (over_out later us (put x (us x) nu) x a.0 ∙ put_own x (us x) nu)

module _ (t : Table) (log : List Event) (i : ℕ) (f : CoreFormula) where
  -- some texts that make it false
  pub record Fails (xs : List ℕ) (nu : Texts) : Type 0 where
    pub texts : Texts
    pub are_texts : AllByRecursion (λ x. IsText (texts x)) xs
    pub fails : ¬ Truth log f (over xs texts nu) i

  pub to_texts : (xs : List ℕ) (nu : Texts) → Ascends xs → CanFail t log i xs f nu → Fails xs nu
  to_texts [] nu a h = record { texts = nu; are_texts = tt; fails = h }
  to_texts (x ∷ later) nu a (u, text, more) =
      let rest = to_texts later (put x u nu) a.1 more in
      let us : Texts = put x u rest.texts in
      let own : us x ≡ u = put_own x u rest.texts in
      let others : AllByRecursion (λ y. us y ≡ rest.texts y) later = all_map (λ y. x < y) (λ y. us y ≡ rest.texts y) (λ y l. put_greater x y u rest.texts l) later a.0 in
      let same : over later us (put x (us x) nu) ≡ over later rest.texts (put x u nu) =
      ap (λ w. over later us (put x w nu)) own ∙ over_same later us rest.texts (put x u nu) others in
      record {
        texts = us;
        are_texts = (subst IsText (sym own) text, both_texts later us rest.texts others rest.are_texts);
        fails = subst (λ w. ¬ Truth log f w i) (sym same) rest.fails;
      }
    where
      both_texts : (ys : List ℕ) (us ws : Texts) → AllByRecursion (λ y. us y ≡ ws y) ys → AllByRecursion (λ y. IsText (ws y)) ys → AllByRecursion (λ y. IsText (us y)) ys
      both_texts [] us ws e h = tt
      both_texts (y ∷ ys) us ws e h = (subst IsText (sym e.0) h.0, both_texts ys us ws e.1 h.1)

  pub from_texts : (xs : List ℕ) (us nu : Texts) → AllByRecursion (λ x. IsText (us x)) xs → ¬ Truth log f (over xs us nu) i → CanFail t log i xs f nu
  from_texts [] us nu texts h = h
  from_texts (x ∷ later) us nu texts h = (us x, texts.0, from_texts later us (put x (us x) nu) texts.1 h)
