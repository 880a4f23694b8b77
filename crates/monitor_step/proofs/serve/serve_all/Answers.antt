-- Each variable in turn is served: its entries are split off those that are left.
use Rattle.std.proofs.Common.{rules, arith, ◌≡◌, ◌≢◌, ℕ, ◌+◌, ◌*◌, ◌-◌, ◌^◌, ◌<◌, ◌≤◌, ◌∙◌, List, [], ◌∷◌, ◌++◌, None, get_or, length, map, set, false, true, ap, subst, sym}
use Rattle.std.specs.Prelude.{vec_capacity}
use Rattle.qtl_syntax.specs.Tree.{Text}
use Rattle.node_tree.specs.Tree.{Tree}
use Rattle.node_table.specs.Table.{tree_of}
use Rattle.subformulas.specs.Texts.{Has}
use Rattle.value_codes.specs.Pairs.{Pairs, code_of}
use Rattle.monitor_model.specs.Books.{AllApart}
use Rattle.monitor_step.specs.Giving.{own_texts, AddsCodes}
use Rattle.monitor_step.specs.Serving.{IsEndAt, IsServed}
use Rattle.monitor_step.proofs.Serving.All.{IsServing, cost_end, cost_more, end_passed, own_few, own_is, pairs_are, same_trees, serving_end, serving_more, width_here}
use Rattle.monitor_step.proofs.serve.serve_all.Goals as goal

pub overflow_cast-variable : goal.overflow_cast-variable
overflow_cast-variable g c =
    let wide = width_here c.args.bits c.loop-x.x (length c.args.books.now) c.loop-x.books
    c.index-books-x.result c.loop-x.invariant.serving.count c.loop-x-test.true c.requires.blocks
    c.loop-x.invariant.serving.same_bits c.free_count-free.ensures.sound in
    let few = wide.0 in
    omega (arith, few)

pub overflow_cast-block : goal.overflow_cast-block
overflow_cast-block g c =
    let wide = width_here c.args.bits c.loop-x.x (length c.args.books.now) c.loop-x.books
    c.index-books-x.result c.loop-x.invariant.serving.count c.loop-x-test.true c.requires.blocks
    c.loop-x.invariant.serving.same_bits c.free_count-free.ensures.sound in
    let few = wide.0 in
    omega (arith, few)

pub overflow_mul-block : goal.overflow_mul-block
overflow_mul-block g c =
    let wide = width_here c.args.bits c.loop-x.x (length c.args.books.now) c.loop-x.books
    c.index-books-x.result c.loop-x.invariant.serving.count c.loop-x-test.true c.requires.blocks
    c.loop-x.invariant.serving.same_bits c.free_count-free.ensures.sound in
    let few = wide.2 in
    omega (arith, few)

pub returns-in_err-push-clause-cost : goal.returns-in_err-push-clause-cost
returns-in_err-push-clause-cost g c =
    let each =
    (2 ^ c.args.bits - 1) * ((c.args.store.now.table.room + 2) * (2 * c.args.bits + 1)) in
    cost_end each c.args.steps.now c.loop-x.steps c.loop-x.steps c.loop-x.x
    (length c.args.books.now) c.loop-x-test.true c.loop-x.invariant.cost (omega arith)

pub serve_variable-requires-clause-once : goal.serve_variable-requires-clause-once
serve_variable-requires-clause-once g c =
    let trees = map (tree_of c.args.store.now.table) c.args.remembered.now in
    let event = c.args.event.now in
    let x = c.loop-x.x in
    let own = c.split_at.result.0.now in
    let given : c.as_slice-args.result.now ≡ event.args = c.as_slice-args.ensures in
    let own_are : own_texts c.as_slice-args.result.now own ≡ own_texts event.args own =
    ap (λ (ts : List Text). own_texts ts own) given in
    let same = own_is trees c.args.bits event c.args.entries.now c.args.books.now x
    c.loop-x.left.now c.loop-x.books c.loop-x.codes-inside.starts.items
    c.loop-x.codes-inside.codes.items c.loop-x.invariant.serving own c.split_at.result.1.now
    c.count_before.result
    c.split_at.ensures.front c.split_at.ensures.back c.count_before.ensures.front
    c.count_before.ensures.back in
    subst AllApart (sym (own_are ∙ same)) (c.requires.once x c.loop-x-test.true)

pub serve_variable-requires-clause-block : goal.serve_variable-requires-clause-block
serve_variable-requires-clause-block g c =
    let wide = width_here c.args.bits c.loop-x.x (length c.args.books.now) c.loop-x.books
    c.index-books-x.result c.loop-x.invariant.serving.count c.loop-x-test.true c.requires.blocks
    c.loop-x.invariant.serving.same_bits c.free_count-free.ensures.sound in
    wide.1

pub returns-in_err-serve_variable-clause-served : goal.returns-in_err-serve_variable-clause-served
returns-in_err-serve_variable-clause-served g c =
    let trees = map (tree_of c.args.store.now.table) c.args.remembered.now in
    let event = c.args.event.now in
    let x = c.loop-x.x in
    let own = c.split_at.result.0.now in
    let here : x < length c.args.books.now = c.loop-x-test.true in
    let within : x < length c.loop-x.books =
    subst (λ (n : ℕ). x < n) (sym c.loop-x.invariant.serving.count) here in
    let given : c.as_slice-args.result.now ≡ event.args = c.as_slice-args.ensures in
    let own_are : own_texts c.as_slice-args.result.now own ≡ own_texts event.args own =
    ap (λ (ts : List Text). own_texts ts own) given in
    let why = c.in_err-serve_variable.field-0.0 in
    let held = (get_or c.loop-x.books x c.index-books-x.result).pairs in
    let ends : IsEndAt trees (x * c.args.bits) c.args.bits x (own_texts event.args own) held why =
    subst (λ (ts : List Text). IsEndAt trees (x * c.args.bits) c.args.bits x ts held why) own_are
    (subst (λ (ts : List Tree). IsEndAt ts (x * c.args.bits) c.args.bits x
    (own_texts c.as_slice-args.result.now own) held why)
    (same_trees c.loop-x.store.table c.args.store.now.table c.loop-x.invariant.nodes
    c.args.remembered.now) c.in_err-serve_variable.ensures.served) in
    end_passed _ _ c.from_residual-in_err-serve_variable.result why
    (serving_end trees c.args.bits event c.args.entries.now c.args.books.now x
    c.loop-x.left.now c.loop-x.books c.loop-x.codes-inside.starts.items
    c.loop-x.codes-inside.codes.items c.loop-x.invariant.serving own c.split_at.result.1.now
    c.count_before.result
    c.split_at.ensures.front c.split_at.ensures.back c.count_before.ensures.front
    c.count_before.ensures.back
    c.index-books-x.result within c.serve_variable.new.book why ends)
    c.from_residual-in_err-serve_variable.ensures.1

pub returns-in_err-serve_variable-clause-no_memory :
    goal.returns-in_err-serve_variable-clause-no_memory
returns-in_err-serve_variable-clause-no_memory g c coded start_room code_room =
    let trees = map (tree_of c.args.store.now.table) c.args.remembered.now in
    let event = c.args.event.now in
    let x = c.loop-x.x in
    let own = c.split_at.result.0.now in
    let here : x < length c.args.books.now = c.loop-x-test.true in
    let within : x < length c.loop-x.books =
    subst (λ (n : ℕ). x < n) (sym c.loop-x.invariant.serving.count) here in
    let given : c.as_slice-args.result.now ≡ event.args = c.as_slice-args.ensures in
    let own_are : own_texts c.as_slice-args.result.now own ≡ own_texts event.args own =
    ap (λ (ts : List Text). own_texts ts own) given in
    let same = own_is trees c.args.bits event c.args.entries.now c.args.books.now x
    c.loop-x.left.now c.loop-x.books c.loop-x.codes-inside.starts.items
    c.loop-x.codes-inside.codes.items c.loop-x.invariant.serving own c.split_at.result.1.now
    c.count_before.result
    c.split_at.ensures.front c.split_at.ensures.back c.count_before.ensures.front
    c.count_before.ensures.back in
    let pairs = pairs_are trees c.args.bits event c.args.entries.now c.args.books.now x
    c.loop-x.left.now c.loop-x.books c.loop-x.codes-inside.starts.items
    c.loop-x.codes-inside.codes.items c.loop-x.invariant.serving own c.split_at.result.1.now
    c.count_before.result
    c.split_at.ensures.front c.split_at.ensures.back c.count_before.ensures.front
    c.count_before.ensures.back
    c.index-books-x.result within in
    let few : length c.loop-x.codes-inside.codes.items + length own ≤ length c.args.entries.now =
    own_few trees c.args.bits event c.args.entries.now c.args.books.now x
    c.loop-x.left.now c.loop-x.books c.loop-x.codes-inside.starts.items
    c.loop-x.codes-inside.codes.items c.loop-x.invariant.serving own c.split_at.result.1.now
    c.count_before.result
    c.split_at.ensures.front c.split_at.ensures.back c.count_before.ensures.front
    c.count_before.ensures.back in
    let kept = c.loop-x.invariant.code_room in
    let room : length c.loop-x.codes-inside.codes.items + length own ≤
    vec_capacity c.loop-x.codes-inside.codes = omega (arith, few, kept, code_room) in
    let have : (t : Text) → Has (own_texts c.as_slice-args.result.now own) t →
    code_of (get_or c.loop-x.books x c.index-books-x.result).pairs t ≢ None =
    λ t h. subst (λ (ps : Pairs). code_of ps t ≢ None) (sym pairs)
    (coded x t here (subst (λ (ts : List Text). Has ts t) (own_are ∙ same) h)) in
    let ended : false ≡ true = c.in_err-serve_variable.ensures.no_memory have room in
    absurd (let never : ⊥ = cc in never)

pub returns-in_err-serve_variable-clause-cost : goal.returns-in_err-serve_variable-clause-cost
returns-in_err-serve_variable-clause-cost g c =
    let each =
    (2 ^ c.args.bits - 1) * ((c.args.store.now.table.room + 2) * (2 * c.args.bits + 1)) in
    cost_end each c.args.steps.now c.loop-x.steps c.serve_variable.new.steps c.loop-x.x
    (length c.args.books.now) c.loop-x-test.true c.loop-x.invariant.cost
    (subst (λ (n : ℕ). c.serve_variable.new.steps ≤
    c.loop-x.steps + (2 ^ c.args.bits - 1) * ((n + 2) * (2 * c.args.bits + 1)))
    c.loop-x.invariant.room c.serve_variable.ensures.cost)

pub loop-x-preserved : goal.loop-x-preserved
loop-x-preserved g c =
    let trees = map (tree_of c.args.store.now.table) c.args.remembered.now in
    let event = c.args.event.now in
    let x = c.loop-x.x in
    let own = c.split_at.result.0.now in
    let here : x < length c.args.books.now = c.loop-x-test.true in
    let within : x < length c.loop-x.books =
    subst (λ (n : ℕ). x < n) (sym c.loop-x.invariant.serving.count) here in
    let given : c.as_slice-args.result.now ≡ event.args = c.as_slice-args.ensures in
    let own_are : own_texts c.as_slice-args.result.now own ≡ own_texts event.args own =
    ap (λ (ts : List Text). own_texts ts own) given in
    let each =
    (2 ^ c.args.bits - 1) * ((c.args.store.now.table.room + 2) * (2 * c.args.bits + 1)) in
    let held = (get_or c.loop-x.books x c.index-books-x.result).pairs in
    let codes = c.loop-x.codes-inside.codes.items in
    let after = c.serve_variable.new.book in
    let more = c.serve_variable.new.codes.items in
    let served : IsServed trees (x * c.args.bits) c.args.bits (own_texts event.args own) held
    after.pairs =
    subst (λ (ts : List Text). IsServed trees (x * c.args.bits) c.args.bits ts held after.pairs)
    own_are
    (subst (λ (ts : List Tree). IsServed ts (x * c.args.bits) c.args.bits
    (own_texts c.as_slice-args.result.now own) held after.pairs)
    (same_trees c.loop-x.store.table c.args.store.now.table c.loop-x.invariant.nodes
    c.args.remembered.now) c.in_ok-serve_variable.ensures.served) in
    let added : AddsCodes after.pairs (own_texts event.args own) codes more =
    subst (λ (ts : List Text). AddsCodes after.pairs ts codes more) own_are
    c.in_ok-serve_variable.ensures.codes in
    let starts : c.push.new.self.items ≡ c.loop-x.codes-inside.starts.items ++ c.len.result ∷ [] =
    c.in_ok-push.ensures.items in
    let counted : c.len.result ≡ length codes = search rules in
    record {
      serving =
          subst (λ (ss : List ℕ). IsServing trees c.args.bits event c.args.entries.now
          c.args.books.now (x + 1) c.split_at.result.1.now (set c.loop-x.books x after) ss more)
          (sym starts)
          (serving_more trees c.args.bits event c.args.entries.now c.args.books.now x
          c.loop-x.left.now
          c.loop-x.books c.loop-x.codes-inside.starts.items c.loop-x.codes-inside.codes.items
          c.loop-x.invariant.serving own c.split_at.result.1.now
          c.count_before.result
          c.split_at.ensures.front c.split_at.ensures.back c.count_before.ensures.front
          c.count_before.ensures.back
          c.index-books-x.result within after c.len.result more counted added served
          c.serve_variable.ensures.bits c.serve_variable.ensures.sound);
      start_room = search rules;
      code_room = search rules;
      room = c.serve_variable.ensures.room ∙ c.loop-x.invariant.room;
      nodes = c.serve_variable.ensures.nodes ∙ c.loop-x.invariant.nodes;
      entries = c.serve_variable.ensures.entries ∙ c.loop-x.invariant.entries;
      cost =
          cost_more each c.args.steps.now c.loop-x.steps c.serve_variable.new.steps x
          c.loop-x.invariant.cost
          (subst (λ (n : ℕ). c.serve_variable.new.steps ≤
          c.loop-x.steps + (2 ^ c.args.bits - 1) * ((n + 2) * (2 * c.args.bits + 1)))
          c.loop-x.invariant.room c.serve_variable.ensures.cost);
      idle = λ e. c.serve_variable.ensures.idle e ∙ c.loop-x.invariant.idle e;
    }
