-- How the steps of events add up, and what stays of a judge.
use Rattle.std.proofs.Common.{◌≡◌, ℕ, ◌+◌, ◌*◌, ◌≤◌, refl, sym, ◌∙◌, subst, add-one, arith}
use Rattle.std.proofs.Math.Nat.{mul-suc}
use Rattle.bdd_ops.specs.Shelf.{IsLarge}
use Rattle.monitor_run.specs.Judging.{Spends, judge_bound}
use Rattle.monitor_run.specs.Standing.{KeepsPlan}
use Rattle.monitor_run.specs.declared.judge.Judge.{Judge}

-- plan, sizes and what is shown stay where nothing is done, and from one call to the next
pub keeps_none : (j : Judge) → KeepsPlan j j
keeps_none j = record { shows = refl; plan = refl; bits = refl; room = refl; entries = refl }

pub keeps_trans : (i j k : Judge) → KeepsPlan i j → KeepsPlan j k → KeepsPlan i k
keeps_trans i j k a b = record { shows = b.shows ∙ a.shows; plan = b.plan ∙ a.plan; bits = b.bits ∙ a.bits; room = b.room ∙ a.room; entries = b.entries ∙ a.entries }

-- so a memo stays large enough, and an event's bound is the same
pub keeps_large : (j k : Judge) → KeepsPlan j k → IsLarge j.monitor.shelf → IsLarge k.monitor.shelf
keeps_large j k s h = same j.monitor.shelf.table.room k.monitor.shelf.table.room j.monitor.shelf.memo.entries k.monitor.shelf.memo.entries s.room s.entries h where
  same : (a b c d : ℕ) → b ≡ a → d ≡ c → (a + 2) * (a + 3) ≤ c → (b + 2) * (b + 3) ≤ d
  same a b c d e f h = rw (e, f) h

pub keeps_bound : (j k : Judge) → KeepsPlan j k → judge_bound k.monitor ≡ judge_bound j.monitor
keeps_bound j k s = rw (s.plan, s.bits, s.room) refl

-- no event, and no step
pub spends_none : (bound n before : ℕ) → Spends bound n n before before
spends_none bound n before = go (bound * n) where
  go : (x : ℕ) → before + x ≤ before + x
  go x = omega arith

-- one stretch after the other
pub spends_trans : (bound from mid to before now after : ℕ) → Spends bound from mid before now → Spends bound mid to now after → Spends bound from to before after
spends_trans bound from mid to before now after a b = go (bound * from) (bound * mid) (bound * to) a b where
  go : (x y z : ℕ) → now + x ≤ before + y → after + y ≤ now + z → after + x ≤ before + z
  go x y z a b = omega (arith, a, b)

-- one event more
pub spends_one : (bound from to before now after : ℕ) → Spends bound from to before now → after ≤ now + bound → Spends bound from (to + 1) before after
spends_one bound from to before now after a b = go (bound * from) (bound * to) (bound * (to + 1)) (times bound to) a where
  times : (b n : ℕ) → b * (n + 1) ≡ b * n + b
  times b n = rw add-one (mul-suc b n)

  go : (x y z : ℕ) → z ≡ y + bound → now + x ≤ before + y → after + x ≤ before + z
  go x y z e a = omega (arith, e, a, b)

-- the last event by another name
pub spends_to : (bound from to to' before after : ℕ) → to' ≡ to → Spends bound from to before after → Spends bound from to' before after
spends_to bound from to to' before after same a = subst (λ (n : ℕ). Spends bound from n before after) (sym same) a

-- no event, where as many were given as judged
pub spends_still : (bound events given before : ℕ) → events ≡ given → Spends bound events given before before
spends_still bound events given before same = spends_to bound events events given before before (sym same) (spends_none bound events before)

-- one event more, also where it can't be judged
last_cost : (i j : Judge) (before now after : ℕ) → KeepsPlan i j → (IsLarge i.monitor.shelf → Spends (judge_bound i.monitor) i.events j.events before now) →
    (IsLarge j.monitor.shelf → after ≤ now + judge_bound j.monitor) → IsLarge i.monitor.shelf → Spends (judge_bound i.monitor) i.events (j.events + 1) before after
last_cost i j before now after same spent one large =
    spends_one (judge_bound i.monitor) i.events j.events before now after (spent large)
    (subst (λ (b : ℕ). after ≤ now + b) (keeps_bound i j same) (one (keeps_large i j same large)))

pub asked_cost : (i j : Judge) (asked before now after : ℕ) → KeepsPlan i j → asked ≡ j.events + 1 → (IsLarge i.monitor.shelf → Spends (judge_bound i.monitor) i.events j.events before now) →
    (IsLarge j.monitor.shelf → after ≤ now + judge_bound j.monitor) → IsLarge i.monitor.shelf → Spends (judge_bound i.monitor) i.events asked before after
asked_cost i j asked before now after same count spent one large =
    spends_to (judge_bound i.monitor) i.events (j.events + 1) asked before after count (last_cost i j before now after same spent one large)

-- one call after the other
pub calls_cost : (i j : Judge) (to before now after : ℕ) → KeepsPlan i j → (IsLarge i.monitor.shelf → Spends (judge_bound i.monitor) i.events j.events before now) →
    (IsLarge j.monitor.shelf → Spends (judge_bound j.monitor) j.events to now after) → IsLarge i.monitor.shelf → Spends (judge_bound i.monitor) i.events to before after
calls_cost i j to before now after same one two large =
    spends_trans (judge_bound i.monitor) i.events j.events to before now after (one large)
    (subst (λ (b : ℕ). Spends b j.events to now after) (keeps_bound i j same) (two (keeps_large i j same large)))
