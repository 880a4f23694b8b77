-- Each use gets the code that is listed for it, in its variable's block.
use Rattle.std.proofs.Common.{rules, ◌≡◌, ℕ, ◌+◌, ◌*◌, ◌∙◌, List, [], ◌∷◌, ◌++◌, length, take, ap, sym, subst}
use Rattle.std.specs.Prelude.{slice_index_or}
use Rattle.std.specs.List.{All}
use Rattle.std.proofs.lemmas.List.{length_push, take_all}
use Rattle.bdd_ops.specs.Codes.{HasLevels}
use Rattle.bdd_ops.specs.declared.code_cubes.BlockCode.{BlockCode}
use Rattle.subformulas.specs.declared.need_list.Use.{Use}
use Rattle.monitor_step.specs.Coded.{IsCoding, Served}
use Rattle.monitor_step.proofs.Serving.Uses.{are_coded, coding_step, levels_step}
use Rattle.monitor_step.proofs.serve.code_uses.Goals as goal

pub loop-one-preserved : goal.loop-one-preserved
loop-one-preserved c =
    let none : Use = record { variable = 0; nth = 0 } in
    let i = c.loop-one.one-index in
    let one : Use = slice_index_or c.args.uses.now i none in
    let held : Served = c.args.served.now in
    let starts_are : c.served.inside.starts.items ≡ held.starts =
    ap (λ (s : Served). s.starts) c.served.view_is in
    let codes_are : c.served.inside.codes.items ≡ held.codes =
    ap (λ (s : Served). s.codes) c.served.view_is in
    let start :
    c.unwrap_or-start.result ≡ slice_index_or c.served.inside.starts.items one.variable 0 =
    search rules in
    let from : c.unwrap_or-start.result ≡ slice_index_or held.starts one.variable 0 =
    start ∙ ap (λ (ss : List ℕ). slice_index_or ss one.variable 0) starts_are in
    let place = c.unwrap_or-start.result + one.nth in
    let code : c.index.result.now ≡ slice_index_or held.codes place c.index.result.now =
    c.index.ensures
    ∙ ap (λ (cs : List ℕ). slice_index_or cs place c.index.result.now) codes_are in
    let part : BlockCode = record {
      block = record { first = one.variable * c.args.bits; bits = c.args.bits };
      code = c.index.result.now;
    } in
    let items : c.push.new.self.items ≡ c.loop-one.coded.items ++ part ∷ [] =
    c.in_ok-push.ensures.items in
    record {
      coding =
          subst (λ (cs : List BlockCode).
          IsCoding c.args.bits held (take (i + 1) c.args.uses.now) cs)
          (sym items)
          (coding_step c.args.bits held c.args.uses.now i none c.loop-one.coded.items
          c.unwrap_or-start.result c.index.result.now c.loop-one-test.true c.requires.codes from
          code
          c.loop-one.invariant.coding);
      levels =
          subst (λ (cs : List BlockCode). All HasLevels cs) (sym items)
          (levels_step c.args.bits c.args.uses.now i none c.loop-one.coded.items c.index.result.now
          c.loop-one-test.true c.requires.blocks c.loop-one.invariant.levels);
      count =
          ap (λ (cs : List BlockCode). length cs) items
          ∙ length_push c.loop-one.coded.items part
          ∙ ap (λ (n : ℕ). n + 1) c.loop-one.invariant.count;
      room = search rules;
    }

pub returns-clause-coded : goal.returns-clause-coded
returns-clause-coded c fr entries slots =
    let all : take c.loop-one.one-index c.args.uses.now ≡ c.args.uses.now =
    take_all _ _ c.loop-one-test.false in
    are_coded fr entries c.args.served.now c.args.uses.now c.loop-one.coded.items slots c.args.bits
    (subst (λ (us : List Use). IsCoding c.args.bits c.args.served.now us c.loop-one.coded.items) all
    c.loop-one.invariant.coding)
