use Rattle.std.proofs.Common.{arith}
use Rattle.subformulas.specs.Adding.{place_text}
use Rattle.subformulas.proofs.Uses.{uses_more}
use Rattle.subformulas.proofs.need_list.add_uses.Goals as goal

pub loop-x-preserved : goal.loop-x-preserved
loop-x-preserved c =
    let inv = c.loop-x.invariant in
    let one = c.in_ok-add_use.ensures in
    record {
      added = uses_more c.args.args.now c.loop-x.x (place_text c.args.args.now c.args.places.now) c.args.entries.now.items c.loop-x.entries.items c.add_use.new.entries.items
          c.args.uses.now.items c.loop-x.uses.items c.add_use.new.uses.items inv.added one.added;
      listed = one.listed c.args.variables c.loop-x-test.true inv.listed;
      entries = let a = inv.entries in let b = one.entries in omega (arith, a, b);
      uses = let a = inv.uses in let b = one.uses in omega (arith, a, b);
      entry_room = let a = inv.entry_room in let b = one.entry_room in omega (arith, a, b);
      use_room = let a = inv.use_room in let b = one.use_room in omega (arith, a, b);
    }
