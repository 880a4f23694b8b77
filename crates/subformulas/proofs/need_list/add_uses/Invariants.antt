use Rattle.std.proofs.Common.{◌+◌, ◌≤◌, length}
use Rattle.std.specs.Prelude.{vec_capacity}
use Rattle.subformulas.specs.Adding.{place_text, AddsUses, AreListed}
use Rattle.subformulas.proofs.need_list.add_uses.Given as goal

abbrev pub invariant-loop-x : goal.invariant-loop-x
invariant-loop-x l = record {
  added : AddsUses l.args l.x (place_text l.args l.places) l.fn.entries.items l.entries.items l.fn.uses.items l.uses.items;
  listed : AreListed l.variables l.args l.entries.items l.uses.items;
  entries : length l.entries.items ≤ length l.fn.entries.items + l.x;
  uses : length l.uses.items ≤ length l.fn.uses.items + l.x;
  entry_room : vec_capacity l.fn.entries ≤ vec_capacity l.entries;
  use_room : vec_capacity l.fn.uses ≤ vec_capacity l.uses;
}
