use Rattle.std.proofs.Common.{◌≡◌, None, length, refl, arith}
use Rattle.qtl_syntax.specs.Tree.{items_of}
use Rattle.wellformed.specs.Faults.{first_count, first_name}
use Rattle.wellformed.proofs.Accepted.{accepted_kept}
use Rattle.wellformed.proofs.SoundProps.{accepted_sound, sound_props, some_props}
use Rattle.wellformed.proofs.passes.check.Goals as goal

pub invariant_of-result : goal.invariant_of-result
invariant_of-result c =
    let names : first_name (items_of c.args.spec) ≡ None = rw c.as_slice-items.ensures at (c.in_ok-check_names.ensures.accepted refl) in
    let counts : first_count (items_of c.args.spec) ≡ None = rw c.as_slice-items.ensures at (c.in_ok-check_counts.ensures.accepted refl) in
    let sound = sound_props c.in_ok-expanded.expanded.props (items_of c.args.spec) (length c.in_ok-expanded.expanded.variables) (rw c.as_slice-items.ensures at c.in_ok-expanded.ensures.props)
    (rw c.as_slice-items.ensures at c.in_ok-expanded.ensures.count) (accepted_sound (items_of c.args.spec) names counts c.args.spec.lawful) in
    record {
      some = some_props c.in_ok-expanded.expanded.props sound.some;
      few_variables = sound.few_variables;
      few_nodes = sound.few_nodes;
      in_order = sound.in_order;
      closed = sound.closed;
      bounds = sound.bounds;
    }

pub returns-clause-kept : goal.returns-clause-kept
returns-clause-kept c = λ log nu long.
    let names : first_name (items_of c.args.spec) ≡ None = rw c.as_slice-items.ensures at (c.in_ok-check_names.ensures.accepted refl) in
    let count = rw c.as_slice-items.ensures at c.in_ok-expanded.ensures.count in
    rw (rw c.as_slice-items.ensures at c.in_ok-expanded.ensures.props) (accepted_kept (items_of c.args.spec) names log nu (omega arith))
