use Rattle.std.proofs.Common.{◌≡◌, ◌-◌, true}
use Rattle.std.specs.Prelude.{None, vec_len}
use Rattle.qtl_syntax.specs.Tree as tree
use Rattle.log_reader.specs.Standing.{Goes}
use Rattle.log_reader.specs.State.{reading_of, IsState}
use Rattle.log_reader.proofs.state.State.next_record.Given as goal

-- the state stands for the same bytes, and no event was given
abbrev pub invariant-turns : goal.invariant-turns
invariant-turns l = record {
  sound : IsState l.self;
  started : l.self.is_begun ≡ true;
  right : l.self.fault ≡ None;
  given : l.self.given ≡ l.fn.self.given;
  ended : l.self.ended ≡ l.fn.self.ended;
  timed : l.self.timed ≡ l.fn.self.timed;
  goes : (bytes : tree.Text) → Goes bytes (reading_of l.fn.self) → Goes bytes (reading_of l.self);
}

abbrev pub decreases-turns : goal.decreases-turns
decreases-turns l = vec_len l.self.held - l.self.seen
