use Rattle.std.proofs.Common.{◌≡◌, sym, subst, ◌∙◌, ap, Some, None}
use Rattle.std.specs.Option.{option_map}
use Rattle.value_codes.specs.Pairs.{value_of}
use Rattle.value_codes.specs.Places.{place_of}
use Rattle.value_codes.proofs.Kept.{value_free, value_read}
use Rattle.value_codes.proofs.book.Book.value_of.Goals as goal

pub returns-in_err-place : goal.returns-in_err-place
returns-in_err-place c = record {
  value =
      ap (λ o. option_map (λ t. t.now) o) c.from_residual.ensures
      ∙ subst (λ b. None ≡ value_of b.pairs c.args.code) c.self.view_is
      (sym (value_free c.self.inside.bits c.self.inside.codes.entries c.self.inside.places.items c.self.inside.hint c.self.invariant c.args.code
      (subst (λ p. place_of p c.args.code ≡ None) c.deref.ensures.value (sym c.in_err-place.ensures))));
}

pub returns : goal.returns
returns c = record {
  value =
      subst (λ b. Some c.in_ok-value.value.now ≡ value_of b.pairs c.args.code) c.self.view_is
      (sym (value_read c.self.inside.bits c.self.inside.codes.entries c.self.inside.places.items c.self.inside.hint c.self.invariant c.args.code c.in_ok-place.place c.in_ok-value.value.now c.in_ok-value.field-0-1.now
      (subst (λ p. place_of p c.args.code ≡ Some c.in_ok-place.place) c.deref.ensures.value (sym c.in_ok-place.ensures))
      (sym c.in_ok-value.ensures.entry)));
}
