-- The order of texts by bytes, and the least of several.
use Rattle.std.proofs.Common.{◌≡◌, ◌⊎◌, ⊎_elim, refl, sym, ◌∙◌, ap, subst, Bool, true, false, Option, Some, None, Ordering, Less, Equal, Greater}
use Rattle.std.specs.Prelude.{if◌then◌else◌}
use Rattle.std.specs.Cmp.Lexicographic.{slice_cmp, nat_list_cmp_total}
use Rattle.std.specs.Ordering.{is_lt, nat_cmp, ordering_reverse}
use Rattle.qtl_syntax.specs.Tree.{Text}
use Rattle.report.specs.Witness.{is_before, IsLeast}
use Rattle.report.proofs.OneWitness.{same_place}
use Rattle.witness.specs.Searching.{lesser_of, IsLeastIfAny}

abbrev Before : Text → Text → Type 0
Before a b = is_before a b ≡ true

is_less : (o : Ordering) → is_lt o ≡ true → o ≡ Less
is_less Less h = refl
is_less Equal h = absurd (let no : ⊥ = cc in no)
is_less Greater h = absurd (let no : ⊥ = cc in no)

before_before : (a b c : Text) → Before a b → Before b c → Before a c
before_before a b c h k = ap is_lt (nat_list_cmp_total.trans a b c (is_less (slice_cmp nat_cmp a b) h) (is_less (slice_cmp nat_cmp b c) k))

-- what stands before a text stands before one that doesn't stand before that
before_later : (u a b : Text) → Before u a → ¬ Before b a → Before u b
before_later u a b h other = by_order (slice_cmp nat_cmp a b) refl
  where
    by_order : (o : Ordering) → slice_cmp nat_cmp a b ≡ o → Before u b
    by_order Less e = before_before u a b h (ap is_lt e)
    by_order Equal e =
        let same : slice_cmp nat_cmp u b ≡ slice_cmp nat_cmp u a =
        nat_list_cmp_total.antisymm u b ∙ ap ordering_reverse (sym (nat_list_cmp_total.congr a b u e)) ∙ sym (nat_list_cmp_total.antisymm u a) in
        ap is_lt same ∙ h
    by_order Greater e = absurd (other (ap is_lt (nat_list_cmp_total.antisymm b a ∙ ap ordering_reverse e)))

own_reverse : (o : Ordering) → o ≡ ordering_reverse o → is_lt o ≡ false
own_reverse Less e = absurd (let no : ⊥ = cc in no)
own_reverse Equal e = refl
own_reverse Greater e = refl

not_before_itself : (t : Text) → ¬ Before t t
not_before_itself t h = let no : true ≡ false = sym h ∙ own_reverse (slice_cmp nat_cmp t t) (nat_list_cmp_total.antisymm t t) in absurd (let none : ⊥ = cc in none)

-- the least of the texts of which either of two claims holds
pub least_either : (P Q R : Text → Type 0) (a b : Option Text) → ((u : Text) → P u → R u) → ((u : Text) → Q u → R u) → ((u : Text) → R u → P u ⊎ Q u) →
    IsLeastIfAny P a → IsLeastIfAny Q b → IsLeastIfAny R (lesser_of a b)
least_either P Q R None None p q r h k = λ u x. ⊎_elim (h u) (k u) (r u x)
least_either P Q R None (Some b) p q r h k = (q b k.0, λ u x. ⊎_elim (λ y. absurd (h u y)) (k.1 u) (r u x))
least_either P Q R (Some a) None p q r h k = (p a h.0, λ u x. ⊎_elim (h.1 u) (λ y. absurd (k u y)) (r u x))
least_either P Q R (Some a) (Some b) p q r h k = by_test (is_before b a) refl
  where
    by_test : (c : Bool) → is_before b a ≡ c → IsLeast R (if c then b else a)
    by_test true e = (q b k.0, λ u x. ⊎_elim (λ y f. h.1 u y (before_before u b a f e)) (k.1 u) (r u x))
    by_test false e = (
      p a h.0,
      λ u x. ⊎_elim (h.1 u) (λ y f. k.1 u y (before_later u a b f (λ t. let no : true ≡ false = sym t ∙ e in absurd (let none : ⊥ = cc in none)))) (r u x),
    )

-- there is one least text at most
pub one_least : (P Q : Text → Type 0) (a b : Option Text) → ((u : Text) → P u → Q u) → ((u : Text) → Q u → P u) → IsLeastIfAny P a → IsLeastIfAny Q b → a ≡ b
one_least P Q None None p q h k = refl
one_least P Q None (Some b) p q h k = absurd (h b (q b k.0))
one_least P Q (Some a) None p q h k = absurd (k a (p a h.0))
one_least P Q (Some a) (Some b) p q h k = ap Some (same_place a b (k.1 a (p a h.0)) (h.1 b (q b k.0)))

pub least_same : (P Q : Text → Type 0) (a : Option Text) → ((u : Text) → P u → Q u) → ((u : Text) → Q u → P u) → IsLeastIfAny P a → IsLeastIfAny Q a
least_same P Q None p q h = λ u x. h u (q u x)
least_same P Q (Some a) p q h = (p a h.0, λ u x. h.1 u (q u x))

-- of one text it is the least
pub least_one : (t : Text) → IsLeastIfAny (λ u. t ≡ u) (Some t)
least_one t = (refl, λ u e f. not_before_itself t (subst (λ (v : Text). Before v t) (sym e) f))
