use Rattle.std.proofs.Common.{◌≡◌, ℕ, ◌≤◌, sym, subst, true, arith}
use Rattle.std.specs.Prelude.{nat_lt}
use Rattle.std.proofs.lemmas.Bool.Decides.{nat_tests}
use Rattle.monitor_model.specs.State.{State, IsLive, IsMonitor}
use Rattle.monitor_step.proofs.monitor.Monitor.is_live.Goals as goal

some_events : (n : ℕ) → 1 ≤ n → nat_lt 0 n ≡ true
some_events n h = grind (arith, nat_tests)

pub returns-clause-sound : goal.returns-clause-sound
returns-clause-sound c = subst IsMonitor c.self.view_is c.self.invariant.0

pub returns-clause-alive : goal.returns-clause-alive
returns-clause-alive c = λ live. subst IsLive c.self.view_is (c.self.invariant.2 live)

pub returns-clause-judged : goal.returns-clause-judged
returns-clause-judged c = λ some.
    subst (λ (n : State). n.has_now ≡ true) c.self.view_is
    (some_events c.self.inside.events (subst (λ (n : State). 1 ≤ n.events) (sym c.self.view_is) some))
