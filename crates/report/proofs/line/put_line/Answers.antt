use Rattle.std.proofs.Common.{◌++◌, append-nil, subst, List, ℕ}
use Rattle.std.specs.Prelude.{OnOk, OnErr}
use Rattle.mon_base.specs.Told.{AppendsFront}
use Rattle.report.specs.Passing.{Passes}
use Rattle.report.proofs.line.put_line.Goals as goal

pub returns-clause-ok : goal.returns-clause-ok
returns-clause-ok g c =
    subst (λ (l : List ℕ). OnOk c.put_parts.result (Passes (g.W.Sink.written c.args.out.now) (g.W.Sink.written c.put_parts.new.out) c.args.output.now c.put_parts.new.self (c.args.head.now ++ (c.args.middle.now ++ l)))) (append-nil c.args.tail.now) c.put_parts.ensures.ok

pub returns-clause-err : goal.returns-clause-err
returns-clause-err g c =
    subst (λ (l : List ℕ). OnErr c.put_parts.result (AppendsFront (g.W.Sink.written c.args.out.now) (g.W.Sink.written c.put_parts.new.out) (c.args.output.now ++ (c.args.head.now ++ (c.args.middle.now ++ l))))) (append-nil c.args.tail.now) c.put_parts.ensures.err
