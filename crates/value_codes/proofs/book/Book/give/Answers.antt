use Rattle.std.proofs.Common.{◌≡◌, ◌∙◌, sym, ap, subst, ◌+◌, ◌<◌, ◌-◌, ◌^◌, length, arith, ℕ, None}
use Rattle.std.specs.Prelude.{nat_eq}
use Rattle.std.specs.Cmp.Lexicographic.{pointwise}
use Rattle.std.specs.Map.{lookup}
use Rattle.indexmap.proofs.CallerLemmas.{insert_entry-new}
use Rattle.qtl_syntax.specs.Tree.{Text}
use Rattle.value_codes.specs.Pairs.{Contents, Pairs, IsLeastFree, Adds, code_of}
use Rattle.value_codes.specs.Places.{IsFirstFree}
use Rattle.value_codes.proofs.Lookups.{code_lookup}
use Rattle.value_codes.proofs.Kept.{gives, reaches_only, least, free_below, is_book, adds}
use Rattle.value_codes.proofs.book.Book.give.Goals as goal

-- codes are left where some are free
some_left : (free count limit : ℕ) → free + count ≡ limit → (free ≡ 0 → ⊥) → count < limit
some_left free count limit e never = omega arith

-- the map has no entry of a text without a code
no_entry : (pairs : Pairs) (b : Contents) (t : Text) → pairs ≡ b.pairs → code_of b.pairs t ≡ None → lookup (pointwise nat_eq t) pairs ≡ None
no_entry pairs b t e none = code_lookup pairs t ∙ (ap (λ p. code_of p t) e ∙ none)

pub invariant_of-self-in_err-insert : goal.invariant_of-self-in_err-insert
invariant_of-self-in_err-insert c =
    let count = subst (λ b. c.free_count.result + length b.pairs ≡ 2 ^ b.bits - 1) (sym c.self.view_is) c.free_count.ensures.count in
    reaches_only c.self.inside.bits c.self.inside.codes.entries c.self.inside.places.items c.self.inside.hint c.self.invariant c.first_free-code.result _ _
    c.in_err-insert.ensures.err c.in_ok-make_place.ensures.made
    (subst (λ p. IsFirstFree p c.self.inside.hint c.first_free-code.result) c.deref.ensures.value c.first_free-code.ensures)
    (some_left _ _ _ count c.if-free_count-eq0.false)

pub invariant_of-self-2 : goal.invariant_of-self-2
invariant_of-self-2 c =
    let count = subst (λ b. c.free_count.result + length b.pairs ≡ 2 ^ b.bits - 1) (sym c.self.view_is) c.free_count.ensures.count in
    let absent = no_entry c.self.inside.codes.entries c.args.self.now c.args.value (ap (λ b. b.pairs) c.self.view_is) c.requires in
    gives c.self.inside.bits c.self.inside.codes.entries c.self.inside.places.items c.self.inside.hint c.self.invariant c.args.value c.first_free-code.result
    c.insert.new.self.entries c.make_place.new.places.items c.len-place.result
    (c.in_ok-insert.ensures.entries ∙ insert_entry-new (pointwise nat_eq) c.self.inside.codes c.args.value c.first_free-code.result absent)
    c.in_ok-make_place.ensures.made c.len-place.ensures.len c.insert.ensures.unique
    (subst (λ p. IsFirstFree p c.self.inside.hint c.first_free-code.result) c.deref.ensures.value c.first_free-code.ensures)
    (some_left _ _ _ count c.if-free_count-eq0.false)

pub returns-clause-least : goal.returns-clause-least
returns-clause-least c =
    subst (λ b. IsLeastFree b.pairs c.first_free-code.result) c.self.view_is
    (least c.self.inside.bits c.self.inside.codes.entries c.self.inside.places.items c.self.inside.hint c.self.invariant c.first_free-code.result
    (subst (λ p. IsFirstFree p c.self.inside.hint c.first_free-code.result) c.deref.ensures.value c.first_free-code.ensures))

pub returns-clause-below : goal.returns-clause-below
returns-clause-below c =
    let count = subst (λ b. c.free_count.result + length b.pairs ≡ 2 ^ b.bits - 1) (sym c.self.view_is) c.free_count.ensures.count in
    subst (λ b. c.first_free-code.result < 2 ^ b.bits - 1) c.self.view_is
    (free_below c.self.inside.bits c.self.inside.codes.entries c.self.inside.places.items c.self.inside.hint c.self.invariant c.first_free-code.result
    (subst (λ p. IsFirstFree p c.self.inside.hint c.first_free-code.result) c.deref.ensures.value c.first_free-code.ensures)
    (some_left _ _ _ count c.if-free_count-eq0.false))

pub returns-clause-added : goal.returns-clause-added
returns-clause-added c =
    let absent = no_entry c.self.inside.codes.entries c.args.self.now c.args.value (ap (λ b. b.pairs) c.self.view_is) c.requires in
    let before = is_book c.self.inside.bits c.self.inside.codes.entries c.self.inside.places.items c.self.inside.hint c.self.invariant in
    let after = is_book _ _ _ _ (invariant_of-self-2 c) in
    subst (λ b. Adds b.pairs c.args.value c.first_free-code.result c.insert.new.self.entries) c.self.view_is
    (adds c.self.inside.codes.entries c.insert.new.self.entries c.args.value c.first_free-code.result before.paired after.paired
    (subst (λ b. code_of b.pairs c.args.value ≡ None) (sym c.self.view_is) c.requires)
    (c.in_ok-insert.ensures.entries ∙ insert_entry-new (pointwise nat_eq) c.self.inside.codes c.args.value c.first_free-code.result absent)
    c.in_ok-insert.ensures.updates.0)

pub returns-clause-sound : goal.returns-clause-sound
returns-clause-sound c = is_book _ _ _ _ (invariant_of-self-2 c)
