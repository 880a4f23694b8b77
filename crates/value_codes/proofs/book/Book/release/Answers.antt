use Rattle.std.proofs.Common.{◌≢◌, ◌∙◌, sym, ap, subst, arith, None}
use Rattle.std.specs.Prelude.{IsSome, IsSomeAnd}
use Rattle.std.specs.Option.{option_map}
use Rattle.std.proofs.lemmas.Option.{IfSome_then}
use Rattle.value_codes.specs.Pairs.{Removes, value_of}
use Rattle.value_codes.specs.Places.{place_of}
use Rattle.value_codes.proofs.Kept.{has_place, last_within, releases, removes_it, is_book}
use Rattle.value_codes.proofs.book.Book.release.Goals as goal

pub unwrap-place-requires : goal.unwrap-place-requires
unwrap-place-requires c =
    subst IsSome (sym (c.place_of.ensures ∙ ap (λ p. place_of p c.args.code) c.deref.ensures.value))
    (has_place c.self.inside.bits c.self.inside.codes.entries c.self.inside.places.items c.self.inside.hint c.self.invariant c.args.code
    (subst (λ b. value_of b.pairs c.args.code ≢ None) (sym c.self.view_is) c.requires))

pub index_mut-requires : goal.index_mut-requires
index_mut-requires c =
    let held = c.self.inside.places.ok.0 in
    let within = last_within c.self.inside.bits c.self.inside.codes.entries c.self.inside.places.items c.self.inside.hint c.self.invariant c.unwrap.result.0.now c.unwrap.result.1.now
    (sym c.last.ensures.entry ∙ ap (λ o. option_map (λ p. (p.0.now, p.1.now)) o) c.unwrap.ensures) in
    omega arith

pub invariant_of-self : goal.invariant_of-self
invariant_of-self c =
    releases c.self.inside.bits c.self.inside.codes.entries c.self.inside.places.items c.self.inside.hint c.self.invariant c.args.code c.unwrap-place.result c.unwrap.result.0.now c.unwrap.result.1.now
    c.swap_remove_index.new.self.entries c.swap_remove_index.result c.min-self-inside.result
    (sym (c.place_of.ensures ∙ ap (λ p. place_of p c.args.code) c.deref.ensures.value) ∙ c.unwrap-place.ensures)
    (sym c.last.ensures.entry ∙ ap (λ o. option_map (λ p. (p.0.now, p.1.now)) o) c.unwrap.ensures)
    c.swap_remove_index.ensures.entry c.swap_remove_index.ensures.entries c.swap_remove_index.ensures.unique c.min-self-inside.ensures

pub returns-clause-removed : goal.returns-clause-removed
returns-clause-removed c =
    let after = is_book _ _ _ _ (invariant_of-self c) in
    subst (λ b. IsSomeAnd (value_of b.pairs c.args.code) (λ t. Removes b.pairs t c.args.code c.swap_remove_index.new.self.entries)) c.self.view_is
    (removes_it c.self.inside.bits c.self.inside.codes.entries c.self.inside.places.items c.self.inside.hint c.self.invariant c.args.code c.unwrap-place.result
    c.swap_remove_index.new.self.entries c.swap_remove_index.result
    (sym (c.place_of.ensures ∙ ap (λ p. place_of p c.args.code) c.deref.ensures.value) ∙ c.unwrap-place.ensures)
    after.paired c.swap_remove_index.ensures.entry c.swap_remove_index.ensures.len
    (IfSome_then c.swap_remove_index.result c.swap_remove_index.ensures.updates (λ x u. u.0)))

pub returns-clause-sound : goal.returns-clause-sound
returns-clause-sound c = is_book _ _ _ _ (invariant_of-self c)
