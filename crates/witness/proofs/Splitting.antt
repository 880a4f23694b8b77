-- A search below a tree is one below its halves.
use Rattle.std.proofs.Common.{◌≡◌, ◌≢◌, ◌⊎◌, inl, inr, ⊎_elim, ℕ, zero, suc, ◌+◌, ◌-◌, ◌^◌, ◌<◌, ◌≤◌, refl, sym, ◌∙◌, ap, subst, arith, eqb, Bool, true, false, cond, Option, Some, None, [], ◌∷◌}
use Rattle.std.proofs.lemmas.Bool.Decides.{nat_tests, eqb_tells}
use Rattle.std.specs.Prelude.{nat_le, nat_eq, if◌then◌else◌}
use Rattle.qtl_syntax.specs.Tree.{Text}
use Rattle.node_tree.specs.Tree.{Tree, Zero, One, Branch}
use Rattle.node_tree.specs.Restrict.{restrict}
use Rattle.node_table.specs.Table.{Table, tree_of, IsShared, IsValid}
use Rattle.bdd_ops.specs.Reading.{set_block}
use Rattle.value_codes.specs.Pairs.{Pairs, IsPaired, value_of}
use Rattle.monitor_model.specs.State.{is_one}
use Rattle.witness.specs.Least.{least_failing}
use Rattle.witness.specs.Searching.{CanLeave, IsLeastIfAny, lesser_of}
use Rattle.witness.proofs.Order.{least_either, least_one, least_same, one_least}

true_false : {B : Type 0} → true ≡ false → B
true_false e = absurd (let no : ⊥ = cc in no)

-- a tree that is true everywhere leaves itself
pub block_one : (n first code : ℕ) → set_block first n code One ≡ One
block_one zero first code = refl
block_one (suc n) first code = either (nat_le (2 ^ n) code) (block_one n (first + 1) (code - 2 ^ n)) (block_one n (first + 1) code)
  where
    either : (b : Bool) → set_block (first + 1) n (code - 2 ^ n) One ≡ One → set_block (first + 1) n code One ≡ One →
        cond b (set_block (first + 1) n (code - 2 ^ n) One) (set_block (first + 1) n code One) ≡ One
    either true p q = p
    either false p q = q

pub none_below_one : (pairs : Pairs) (level bits from : ℕ) (tree : Tree) → tree ≡ One → (u : Text) → ¬ CanLeave pairs level bits from tree u
none_below_one pairs level bits from tree e u c =
    true_false (sym (ap is_one (ap (set_block level bits c.code) e ∙ block_one bits level c.code)) ∙ c.leaves)

pub other_than_one : (t : Tree) → t ≢ One → is_one t ≡ false
other_than_one Zero h = refl
other_than_one One h = absurd (h refl)
other_than_one (Branch level low high) h = refl

some_same : (a b : Text) → Some a ≡ Some b → a ≡ b
some_same a b e = cc

-- no level is left: the code itself stands for the text
pub least_at_code : (pairs : Pairs) (level from : ℕ) (tree : Tree) (o : Option Text) → tree ≢ One → o ≡ value_of pairs from → IsLeastIfAny (CanLeave pairs level 0 from tree) o
least_at_code pairs level from tree None other e = λ u c.
    let here : from + c.code ≡ from = let l = c.below in omega (arith, l) in
    let no : None ≡ Some u = e ∙ (ap (value_of pairs) (sym here) ∙ c.given) in absurd (let none : ⊥ = cc in none)
least_at_code pairs level from tree (Some t) other e =
    least_same (λ u. t ≡ u) (CanLeave pairs level 0 from tree) (Some t)
    (λ u same. record { code = 0; below = omega arith; given = ap (value_of pairs) (let z : from + 0 ≡ from = omega arith in z) ∙ (sym e ∙ ap Some same); leaves = other_than_one tree other })
    (λ u c. let here : from + c.code ≡ from = let l = c.below in omega (arith, l) in some_same t u (e ∙ (ap (value_of pairs) (sym here) ∙ c.given)))
    (least_one t)

module _ (pairs : Pairs) (level n from : ℕ) (tree : Tree) where
  abbrev Whole : Text → Type 0
  Whole = CanLeave pairs level (suc n) from tree

  abbrev Low : Text → Type 0
  Low = CanLeave pairs (level + 1) n from (restrict level false tree)

  abbrev High : Text → Type 0
  High = CanLeave pairs (level + 1) n (from + 2 ^ n) (restrict level true tree)

  abbrev halves : ℕ → Bool → Tree
  halves code b = cond b (set_block (level + 1) n (code - 2 ^ n) (restrict level true tree)) (set_block (level + 1) n code (restrict level false tree))

  twice : 2 ^ suc n ≡ 2 ^ n + 2 ^ n
  twice = omega arith

  from_low : (u : Text) → Low u → Whole u
  from_low u c =
      let less = c.below in
      let test : nat_le (2 ^ n) c.code ≡ false = grind (arith, nat_tests, less) in
      record {
        code = c.code;
        below = omega (arith, less, twice);
        given = c.given;
        leaves = ap (λ b. is_one (halves c.code b)) test ∙ c.leaves;
      }

  from_high : (u : Text) → High u → Whole u
  from_high u c =
      let less = c.below in
      let test : nat_le (2 ^ n) (2 ^ n + c.code) ≡ true = grind (arith, nat_tests) in
      let back : 2 ^ n + c.code - 2 ^ n ≡ c.code = omega arith in
      let place : from + (2 ^ n + c.code) ≡ from + 2 ^ n + c.code = omega arith in
      record {
        code = 2 ^ n + c.code;
        below = omega (arith, less, twice);
        given = ap (value_of pairs) place ∙ c.given;
        leaves = ap (λ b. is_one (halves (2 ^ n + c.code) b)) test ∙ (ap (λ (d : ℕ). is_one (set_block (level + 1) n d (restrict level true tree))) back ∙ c.leaves);
      }

  to_either : (u : Text) → Whole u → Low u ⊎ High u
  to_either u c = by_half (nat_le (2 ^ n) c.code) refl
    where
      by_half : (b : Bool) → nat_le (2 ^ n) c.code ≡ b → Low u ⊎ High u
      by_half true e =
          let most : 2 ^ n ≤ c.code = grind (arith, nat_tests, e) in
          let less = c.below in
          let place : from + 2 ^ n + (c.code - 2 ^ n) ≡ from + c.code = omega (arith, most) in
          inr (record {
            code = c.code - 2 ^ n;
            below = omega (arith, less, twice, most);
            given = ap (value_of pairs) place ∙ c.given;
            leaves = sym (ap (λ b. is_one (halves c.code b)) e) ∙ c.leaves;
          })
      by_half false e =
          let few : c.code < 2 ^ n = grind (arith, nat_tests, e) in
          inl (record {
            code = c.code;
            below = few;
            given = c.given;
            leaves = sym (ap (λ b. is_one (halves c.code b)) e) ∙ c.leaves;
          })

  pub least_of_halves : (a b : Option Text) → IsLeastIfAny Low a → IsLeastIfAny High b → IsLeastIfAny Whole (lesser_of a b)
  least_of_halves a b h k = least_either Low High Whole a b from_low from_high to_either h k

-- The least text of the pairs

-- a code of the pairs stands for the text and leaves a tree other than true
pub record Leaves (first bits : ℕ) (tree : Tree) (pairs : Pairs) (u : Text) : Type 0 where
  pub code : ℕ
  pub given : value_of pairs code ≡ Some u
  pub leaves : is_one (set_block first bits code tree) ≡ false

none_some : {B : Type 0} (o : Option Text) (u : Text) → o ≡ None → o ≡ Some u → B
none_some o u e d = let no : None ≡ Some u = sym e ∙ d in absurd (let none : ⊥ = cc in none)

later_leaves : (first bits : ℕ) (tree : Tree) (p : Text × ℕ) (pairs : Pairs) → IsPaired (p ∷ pairs) → (u : Text) → Leaves first bits tree pairs u → Leaves first bits tree (p ∷ pairs) u
later_leaves first bits tree p pairs paired u c = record { code = c.code; given = by_test (eqb_tells p.1 c.code); leaves = c.leaves }
  where
    by_test : ((nat_eq p.1 c.code ≡ true) × (p.1 ≡ c.code)) ⊎ ((nat_eq p.1 c.code ≡ false) × (p.1 ≢ c.code)) → value_of (p ∷ pairs) c.code ≡ Some u
    by_test (inl e) = none_some (value_of pairs c.code) u (subst (λ (d : ℕ). value_of pairs d ≡ None) e.1 paired.1) c.given
    by_test (inr e) = rw e.0 c.given

first_or_later : (first bits : ℕ) (tree : Tree) (p : Text × ℕ) (pairs : Pairs) (u : Text) → Leaves first bits tree (p ∷ pairs) u →
    ((p.0 ≡ u) × (is_one (set_block first bits p.1 tree) ≡ false)) ⊎ Leaves first bits tree pairs u
first_or_later first bits tree p pairs u c = by_test (eqb_tells p.1 c.code) c.given
  where
    by_test : ((nat_eq p.1 c.code ≡ true) × (p.1 ≡ c.code)) ⊎ ((nat_eq p.1 c.code ≡ false) × (p.1 ≢ c.code)) → value_of (p ∷ pairs) c.code ≡ Some u →
        ((p.0 ≡ u) × (is_one (set_block first bits p.1 tree) ≡ false)) ⊎ Leaves first bits tree pairs u
    by_test (inl e) given =
        let own : (if true then Some p.0 else value_of pairs c.code) ≡ Some u = rw e.0 at given in
        inl (some_same p.0 u own, ap (λ (d : ℕ). is_one (set_block first bits d tree)) e.1 ∙ c.leaves)
    by_test (inr e) given =
        let own : (if false then Some p.0 else value_of pairs c.code) ≡ Some u = rw e.0 at given in
        inr (record { code = c.code; given = own; leaves = c.leaves })

pub least_listed : (first bits : ℕ) (tree : Tree) (pairs : Pairs) → IsPaired pairs → IsLeastIfAny (Leaves first bits tree pairs) (least_failing first bits tree pairs)
least_listed first bits tree [] paired = λ u c. none_some None u refl c.given
least_listed first bits tree (p ∷ pairs) paired = by_test (is_one (set_block first bits p.1 tree)) refl (least_listed first bits tree pairs paired.2)
  where
    by_test : (b : Bool) → is_one (set_block first bits p.1 tree) ≡ b → IsLeastIfAny (Leaves first bits tree pairs) (least_failing first bits tree pairs) →
        IsLeastIfAny (Leaves first bits tree (p ∷ pairs)) (if b then least_failing first bits tree pairs else lesser_of (Some p.0) (least_failing first bits tree pairs))
    by_test true e h =
        least_same (Leaves first bits tree pairs) (Leaves first bits tree (p ∷ pairs)) (least_failing first bits tree pairs)
        (later_leaves first bits tree p pairs paired)
        (λ u c. ⊎_elim (λ own. true_false (sym e ∙ own.1)) (λ l. l) (first_or_later first bits tree p pairs u c)) h
    by_test false e h =
        least_either (λ u. p.0 ≡ u) (Leaves first bits tree pairs) (Leaves first bits tree (p ∷ pairs)) (Some p.0) (least_failing first bits tree pairs)
        (λ u same. record { code = p.1; given = subst (λ v. value_of (p ∷ pairs) p.1 ≡ Some v) same (own_value (nat_eq p.1 p.1) (grind (arith, nat_tests))); leaves = e })
        (later_leaves first bits tree p pairs paired)
        (λ u c. ⊎_elim (λ own. inl own.0) (λ l. inr l) (first_or_later first bits tree p pairs u c))
        (least_one p.0) h
      where
        own_value : (b : Bool) → b ≡ true → (if b then Some p.0 else value_of pairs p.1) ≡ Some p.0
        own_value true e = refl
        own_value false e = true_false (sym e)

-- the search of a whole block gives it
pub least_of_block : (first bits : ℕ) (tree : Tree) (pairs : Pairs) (o : Option Text) → IsPaired pairs → ((c : ℕ) → value_of pairs c ≢ None → c < 2 ^ bits - 1) →
    IsLeastIfAny (CanLeave pairs first bits 0 tree) o → o ≡ least_failing first bits tree pairs
least_of_block first bits tree pairs o paired below h =
    one_least (CanLeave pairs first bits 0 tree) (Leaves first bits tree pairs) o (least_failing first bits tree pairs)
    (λ u c. record { code = c.code; given = ap (value_of pairs) (own_place c.code) ∙ c.given; leaves = c.leaves })
    (λ u c. let less = below c.code (λ e. none_some (value_of pairs c.code) u e c.given) in
    record { code = c.code; below = omega (arith, less); given = ap (value_of pairs) (sym (own_place c.code)) ∙ c.given; leaves = c.leaves })
    h (least_listed first bits tree pairs paired)
  where
    own_place : (c : ℕ) → c ≡ 0 + c
    own_place c = omega arith

-- A step down

same_handles : (a b : ℕ) → eqb a b ≡ true → a ≡ b
same_handles a b e = ⊎_elim (λ h. h.1) (λ h. true_false (sym e ∙ h.0)) (eqb_tells a b)

other_handles : (a b : ℕ) → eqb a b ≡ false → a ≢ b
other_handles a b e = ⊎_elim (λ h. true_false (sym h.0 ∙ e)) (λ h. h.1) (eqb_tells a b)

-- the handle of the leaf that is true is that of its tree alone
pub one_tree : (t : Table) (h one : ℕ) → tree_of t one ≡ One → eqb h one ≡ true → tree_of t h ≡ One
one_tree t h one is e = ap (tree_of t) (same_handles h one e) ∙ is

pub other_tree : (t : Table) (h one : ℕ) → IsShared t → IsValid t h → IsValid t one → tree_of t one ≡ One → eqb h one ≡ false → tree_of t h ≢ One
other_tree t h one shared valid one_valid is e = λ same. other_handles h one e (shared.one_handle h one valid one_valid (same ∙ sym is))

pub low_child : (level first : ℕ) (t r : Tree) → first ≡ level → r ≡ set_block first 1 0 t → r ≡ restrict level false t
low_child level first t r same e = e ∙ ap (λ (l : ℕ). restrict l false t) same

pub high_child : (level first : ℕ) (t r : Tree) → first ≡ level → r ≡ set_block first 1 1 t → r ≡ restrict level true t
high_child level first t r same e = e ∙ ap (λ (l : ℕ). restrict l true t) same

-- the least of a tree from those of its children
pub least_of_children : (pairs : Pairs) (level bits from half : ℕ) (tree low high : Tree) (a b o : Option Text) → 1 ≤ bits → half ≡ 2 ^ (bits - 1) →
    low ≡ restrict level false tree → high ≡ restrict level true tree →
    IsLeastIfAny (CanLeave pairs (level + 1) (bits - 1) from low) a → IsLeastIfAny (CanLeave pairs (level + 1) (bits - 1) (from + half) high) b →
    o ≡ lesser_of a b → IsLeastIfAny (CanLeave pairs level bits from tree) o
least_of_children pairs level zero from half tree low high a b o some power is_low is_high h k e = absurd (omega (arith, some))
least_of_children pairs level (suc n) from half tree low high a b o some power is_low is_high h k e =
    let n_is : suc n - 1 ≡ n = omega arith in
    let place : from + half ≡ from + 2 ^ n = ap (λ (d : ℕ). from + d) (power ∙ ap (λ (d : ℕ). 2 ^ d) n_is) in
    subst (IsLeastIfAny (CanLeave pairs level (suc n) from tree)) (sym e)
    (least_of_halves pairs level n from tree a b
    (subst (λ t. IsLeastIfAny (CanLeave pairs (level + 1) n from t) a) is_low (subst (λ (d : ℕ). IsLeastIfAny (CanLeave pairs (level + 1) d from low) a) n_is h))
    (subst (λ t. IsLeastIfAny (CanLeave pairs (level + 1) n (from + 2 ^ n) t) b) is_high
    (subst (λ (d : ℕ). IsLeastIfAny (CanLeave pairs (level + 1) n d high) b) place (subst (λ (d : ℕ). IsLeastIfAny (CanLeave pairs (level + 1) d (from + half) high) b) n_is k))))
