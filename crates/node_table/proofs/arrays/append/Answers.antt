use Rattle.std.proofs.Common.{◌≡◌, List, length, refl, sym, subst, set}
use Rattle.std.specs.Prelude.{slice_index_or}
use Rattle.node_table.specs.declared.arrays.Slot.{Slot}
use Rattle.node_table.specs.Chains.{IsChained}
use Rattle.node_table.specs.Arrays.{node_in, chain_in}
use Rattle.node_table.proofs.Writing.{linked_last}
use Rattle.node_table.proofs.arrays.append.Goals as goal

pub returns-clause-chained : goal.returns-clause-chained
returns-clause-chained c =
    let number : c.len-number.result ≡ length c.args.slots.now.items = cc in
    subst (λ n. IsChained (node_in c.push_reserved.new.self.items) (chain_in c.push_reserved.new.self.items) (set c.args.heads.now c.args.bucket n) (length c.push_reserved.new.self.items)) (sym number)
    (subst (λ (new : List Slot). IsChained (node_in new) (chain_in new) (set c.args.heads.now c.args.bucket (length c.args.slots.now.items)) (length new)) (sym c.push_reserved.ensures.items)
    (linked_last c.args.slots.now.items c.args.node (slice_index_or c.args.heads.now c.args.bucket 0) c.requires.apart c.args.heads.now c.args.bucket c.requires.chained c.requires.bucket c.requires.within c.requires.two refl))
