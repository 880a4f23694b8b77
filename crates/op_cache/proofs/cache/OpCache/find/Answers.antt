use Rattle.std.proofs.Common.{ap, ◌∙◌, take, List}
use Rattle.op_cache.specs.declared.chains.Entry.{Entry}
use Rattle.op_cache.specs.declared.key.Place.{Place}
use Rattle.op_cache.specs.Memo.{Memo, result_at}
use Rattle.op_cache.specs.Chains.{pairs_of}
use Rattle.op_cache.proofs.cache.OpCache.find.Goals as goal

pub returns-clause-found : goal.returns-clause-found
returns-clause-found g c =
    c.find.ensures
    ∙ ap (λ (es : List (Entry g.row.H.Denot)). result_at (pairs_of (take c.self.inside.held es)) c.of.result) c.deref.ensures.value
    ∙ ap (λ (m : Memo g.row.H.Denot). result_at m.pairs c.of.result) c.self.view_is
    ∙ ap (λ (p : Place). result_at c.args.self.now.pairs p) c.of.ensures

pub returns-clause-own : goal.returns-clause-own
returns-clause-own g c = λ other e.
    let key = c.args.key in
    let op = ap (λ (p : Place). p.op) e in
    let left = g.met.H.Numbered.exact other.left key.left (ap (λ (p : Place). p.left) e) in
    let right = g.met.H.Numbered.exact other.right key.right (ap (λ (p : Place). p.right) e) in
    λ i. record { op = op i; left = left i; right = right i }
