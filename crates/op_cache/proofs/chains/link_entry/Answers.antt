use Rattle.std.proofs.Common.{◌≡◌, ◌+◌, take, set, get_or, sym, subst, refl, arith, List}
use Rattle.std.proofs.Math.Seq.{map-set_same}
use Rattle.std.proofs.lemmas.List.{take_more_set, length-take-le}
use Rattle.op_cache.specs.declared.chains.Entry.{Entry}
use Rattle.op_cache.specs.declared.heads.Head.{Head}
use Rattle.op_cache.specs.Chains.{AreLinked, bucket_of}
use Rattle.op_cache.proofs.Linking.{linked_pushed}
use Rattle.op_cache.proofs.chains.link_entry.Goals as goal

pub returns-clause-linked : goal.returns-clause-linked
returns-clause-linked g c =
    let es = c.args.entries.now in
    let heads = c.args.heads.now in
    let at = c.args.at in
    let b = c.bucket-bucket.result in
    let old = get_or es at c.index-entries-at.result in
    let new : Entry g.row.H.Denot = record { place = old.place; result = old.result; link = c.first_link-entry.result } in
    let head : Head = record { round = c.args.round; link = at + 1 } in
    let in_b : bucket_of c.args.window old.place ≡ b = sym c.bucket-bucket.ensures.bucket in
    subst (λ (xs : List (Entry g.row.H.Denot)). AreLinked xs (set heads b head) c.args.window c.args.round) (sym (take_more_set es at new c.requires.within))
    (linked_pushed (take at es) heads c.args.window c.args.round c.requires.linked new at b (sym (length-take-le at es (omega arith))) in_b (omega arith) c.first_link-entry.ensures)

pub returns-clause-pairs : goal.returns-clause-pairs
returns-clause-pairs g c = map-set_same (λ (e : Entry g.row.H.Denot). (e.place, e.result)) c.args.entries.now c.args.at _ c.index-entries-at.result refl
