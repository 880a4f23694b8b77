use Rattle.std.proofs.Common.{◌≡◌, map, take, drop, vec_len}
use Rattle.listeners.specs.Meaning.{meaning_of}
use Rattle.listeners.specs.Each.{EachIsTold}
use Rattle.listeners.proofs.telling.tell_all.Given as goal

-- the listeners so far were told, and the others are the same
abbrev pub invariant-loop-i : goal.invariant-loop-i
invariant-loop-i g l = record {
  before : EachIsTold
      (meaning_of
      (λ b. (goal.Listener-dyn g (b.vtable, b.value)).name b.value)
      (λ b. (goal.Listener-dyn g (b.vtable, b.value)).told b.value)
      (λ b. (goal.Listener-dyn g (b.vtable, b.value)).finished b.value)
      (λ b. (goal.Listener-dyn g (b.vtable, b.value)).faults b.value))
      l.violation (take l.i l.fn.listeners.items) (take l.i l.listeners.items) (take l.i l.fn.failed.items) (take l.i l.failed.items);
  same : drop l.i l.listeners.items ≡ drop l.i l.fn.listeners.items;
  same_flags : drop l.i l.failed.items ≡ drop l.i l.fn.failed.items;
  names : map (λ b. (goal.Listener-dyn g (b.vtable, b.value)).name b.value) l.listeners.items ≡ map (λ b. (goal.Listener-dyn g (b.vtable, b.value)).name b.value) l.fn.listeners.items;
  finished : map (λ b. (goal.Listener-dyn g (b.vtable, b.value)).finished b.value) l.listeners.items ≡ map (λ b. (goal.Listener-dyn g (b.vtable, b.value)).finished b.value) l.fn.listeners.items;
  count : vec_len l.listeners ≡ vec_len l.fn.listeners;
  flags : vec_len l.failed ≡ vec_len l.fn.failed;
}
