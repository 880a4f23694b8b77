use Rattle.std.proofs.Common.{◌≡◌, ◌∷◌, [], length-append, arith}
use Rattle.value_codes.specs.Pairs.{IsBook, Contents}
use Rattle.monitor_step.proofs.Serving.All.{all_more}
use Rattle.monitor_step.proofs.monitor.open_books.Goals as goal

pub loop-preserved : goal.loop-preserved
loop-preserved c =
    let i = c.loop.invariant in
    let n = length-append c.loop.books.items (c.in_ok-open.field-0 ∷ []) in
    let m = i.count in
    rw c.in_ok-push.ensures.items (record {
      count = omega (arith, n, m);
      empty = all_more (λ (b : Contents). b ≡ record { bits = c.args.bits; pairs = [] }) c.loop.books.items c.in_ok-open.field-0 i.empty c.in_ok-open.ensures.empty;
      sound = all_more IsBook c.loop.books.items c.in_ok-open.field-0 i.sound c.in_ok-open.ensures.sound;
    })
