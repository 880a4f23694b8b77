use Rattle.std.proofs.Common.{◌≡◌, ℕ, ◌+◌, ◌-◌, ◌^◌, ◌*◌, ◌<◌, ◌≤◌, refl, sym, ◌∙◌, ap, subst, Bool, true, false}
use Rattle.std.specs.Prelude.{not, unwrap_or}
use Rattle.std.specs.Option.{option_map}
use Rattle.node_tree.specs.Tree.{One}
use Rattle.node_table.specs.Table.{Table, tree_of}
use Rattle.node_table.specs.declared.handle.Block.{Block}
use Rattle.bdd_ops.specs.Reading.{set_block}
use Rattle.value_codes.specs.Pairs.{Pairs, code_of}
use Rattle.monitor_model.specs.Setting.{first_of}
use Rattle.monitor_model.specs.State.{is_one, pairs_in, setting_of}
use Rattle.report.specs.declared.shown.Value.TheVariants.{Any, Known}
use Rattle.witness.specs.Finding.{code_for, ones, value_of, value_over, with_code_of}
use Rattle.witness.specs.Least.{least_failing}
use Rattle.witness.proofs.Choosing.{book_pairs, code_fits, left_is, turn_cost, value_is}
use Rattle.witness.proofs.Splitting.{one_tree}
use Rattle.witness.proofs.choose.choose.Goals as goal

same_where : (b : Bool) → not b ≡ false → b ≡ true
same_where true e = refl
same_where false e = absurd (let no : ⊥ = cc in no)

pub walk-rest-requires-in-Some-clause-code : goal.walk-rest-requires-in-Some-clause-code
walk-rest-requires-in-Some-clause-code g c =
    let m = c.args.monitor.now in
    let bits : c.block-block.result.bits ≡ m.bits = ap (λ (b : Block). b.bits) c.block-block.ensures in
    subst (λ (n : ℕ). n < 2 ^ c.block-block.result.bits) (sym c.unwrap_or-code.ensures)
    (code_fits m c.args.x c.book-book.result.now c.code_of.result c.in-Some.text.now c.all_ones-ones.result c.block-block.result.bits c.is_live-live.ensures.sound
    (c.is_live-live.ensures.alive (c.is_live-live.ensures.is ∙ c.requires.live)) c.book-book.ensures bits c.code_of.ensures.code c.all_ones-ones.ensures)

pub returns-in_err-copy-in-Some-clause-cost : goal.returns-in_err-copy-in-Some-clause-cost
returns-in_err-copy-in-Some-clause-cost g c =
    let m = c.args.monitor.now in
    let bits : c.block-block.result.bits ≡ m.bits = ap (λ (b : Block). b.bits) c.block-block.ensures in
    subst (λ (n : ℕ). c.walk-rest-in-Some.new.steps ≤ c.args.steps.now + (n + 1) * 2 ^ n) bits
    (turn_cost c.block-block.result.bits c.args.steps.now c.walk-rest.new.steps c.least_failing.new.steps c.walk-rest-in-Some.new.steps
    (subst (λ (n : ℕ). 1 ≤ n) (sym bits) c.is_live-live.ensures.sound.some_bits) c.walk-rest.ensures.cost c.least_failing.ensures.cost c.walk-rest-in-Some.ensures.cost)

pub returns-in_ok-copy-in-Some-clause-cost : goal.returns-in_ok-copy-in-Some-clause-cost
returns-in_ok-copy-in-Some-clause-cost g c =
    let m = c.args.monitor.now in
    let bits : c.block-block.result.bits ≡ m.bits = ap (λ (b : Block). b.bits) c.block-block.ensures in
    subst (λ (n : ℕ). c.walk-rest-in-Some.new.steps ≤ c.args.steps.now + (n + 1) * 2 ^ n) bits
    (turn_cost c.block-block.result.bits c.args.steps.now c.walk-rest.new.steps c.least_failing.new.steps c.walk-rest-in-Some.new.steps
    (subst (λ (n : ℕ). 1 ≤ n) (sym bits) c.is_live-live.ensures.sound.some_bits) c.walk-rest.ensures.cost c.least_failing.ensures.cost c.walk-rest-in-Some.ensures.cost)

pub returns-in-None-clause-value : goal.returns-in-None-clause-value
returns-in-None-clause-value g c =
    let m = c.args.monitor.now in
    let table = c.table-table.result.now in
    let tree = tree_of m.shelf.table c.args.h in
    let rest : tree_of m.shelf.table c.walk-rest.result ≡ with_code_of m c.args.x (ones m) tree =
    subst (λ (t : Table). tree_of t c.walk-rest.result ≡ with_code_of m c.args.x (ones m) (tree_of t c.args.h)) c.table-table.ensures
    (subst (λ (b : Block). tree_of table c.walk-rest.result ≡ set_block b.first b.bits (2 ^ b.bits - 1) (tree_of table c.args.h)) c.block-block.ensures
    (subst (λ (n : ℕ). tree_of table c.walk-rest.result ≡ set_block c.block-block.result.first c.block-block.result.bits n (tree_of table c.args.h)) c.all_ones-ones.ensures c.walk-rest.ensures.tree)) in
    let whole : tree_of m.shelf.table c.walk-rest.result ≡ One =
    subst (λ (t : Table). tree_of t c.walk-rest.result ≡ One) c.table-table.ensures
    (one_tree table c.walk-rest.result c.one.result c.one.ensures.tree (same_where _ (sym c.ne.ensures ∙ c.if-ne.false))) in
    let is_true : is_one (with_code_of m c.args.x (ones m) tree) ≡ true = ap is_one (sym rest ∙ whole) in
    let pairs = book_pairs m c.args.x c.book-book.result.now c.book-book.ensures in
    let found = option_map (λ t. t.now) c.least_failing.result in
    let least : found ≡ least_failing (first_of (setting_of m) c.args.x) m.bits tree (pairs_in m c.args.x) =
    subst (λ (ps : Pairs). found ≡ least_failing (first_of (setting_of m) c.args.x) m.bits tree ps) (sym pairs)
    (subst (λ (t : Table). found ≡ least_failing (first_of (setting_of m) c.args.x) m.bits (tree_of t c.args.h) c.book-book.result.now.pairs) c.table-table.ensures
    (subst (λ (b : Block). found ≡ least_failing b.first b.bits (tree_of table c.args.h) c.book-book.result.now.pairs) c.block-block.ensures c.least_failing.ensures.least)) in
    let value : Any ≡ value_over m c.args.x tree = ap (λ o. value_of (option_map (λ t. t.now) o)) (sym c.in-None.is) ∙ value_is m c.args.x tree found is_true least in
    value

pub returns-in-None-clause-tree : goal.returns-in-None-clause-tree
returns-in-None-clause-tree g c =
    let m = c.args.monitor.now in
    let table = c.table-table.result.now in
    let tree = tree_of m.shelf.table c.args.h in
    let rest : tree_of m.shelf.table c.walk-rest.result ≡ with_code_of m c.args.x (ones m) tree =
    subst (λ (t : Table). tree_of t c.walk-rest.result ≡ with_code_of m c.args.x (ones m) (tree_of t c.args.h)) c.table-table.ensures
    (subst (λ (b : Block). tree_of table c.walk-rest.result ≡ set_block b.first b.bits (2 ^ b.bits - 1) (tree_of table c.args.h)) c.block-block.ensures
    (subst (λ (n : ℕ). tree_of table c.walk-rest.result ≡ set_block c.block-block.result.first c.block-block.result.bits n (tree_of table c.args.h)) c.all_ones-ones.ensures c.walk-rest.ensures.tree)) in
    left_is m c.args.x tree Any (tree_of m.shelf.table c.walk-rest.result) (returns-in-None-clause-value g c) rest

pub returns-in_ok-copy-in-Some-clause-value : goal.returns-in_ok-copy-in-Some-clause-value
returns-in_ok-copy-in-Some-clause-value g c =
    let m = c.args.monitor.now in
    let table = c.table-table.result.now in
    let tree = tree_of m.shelf.table c.args.h in
    let rest : tree_of m.shelf.table c.walk-rest.result ≡ with_code_of m c.args.x (ones m) tree =
    subst (λ (t : Table). tree_of t c.walk-rest.result ≡ with_code_of m c.args.x (ones m) (tree_of t c.args.h)) c.table-table.ensures
    (subst (λ (b : Block). tree_of table c.walk-rest.result ≡ set_block b.first b.bits (2 ^ b.bits - 1) (tree_of table c.args.h)) c.block-block.ensures
    (subst (λ (n : ℕ). tree_of table c.walk-rest.result ≡ set_block c.block-block.result.first c.block-block.result.bits n (tree_of table c.args.h)) c.all_ones-ones.ensures c.walk-rest.ensures.tree)) in
    let whole : tree_of m.shelf.table c.walk-rest.result ≡ One =
    subst (λ (t : Table). tree_of t c.walk-rest.result ≡ One) c.table-table.ensures
    (one_tree table c.walk-rest.result c.one.result c.one.ensures.tree (same_where _ (sym c.ne.ensures ∙ c.if-ne.false))) in
    let is_true : is_one (with_code_of m c.args.x (ones m) tree) ≡ true = ap is_one (sym rest ∙ whole) in
    let pairs = book_pairs m c.args.x c.book-book.result.now c.book-book.ensures in
    let found = option_map (λ t. t.now) c.least_failing.result in
    let least : found ≡ least_failing (first_of (setting_of m) c.args.x) m.bits tree (pairs_in m c.args.x) =
    subst (λ (ps : Pairs). found ≡ least_failing (first_of (setting_of m) c.args.x) m.bits tree ps) (sym pairs)
    (subst (λ (t : Table). found ≡ least_failing (first_of (setting_of m) c.args.x) m.bits (tree_of t c.args.h) c.book-book.result.now.pairs) c.table-table.ensures
    (subst (λ (b : Block). found ≡ least_failing b.first b.bits (tree_of table c.args.h) c.book-book.result.now.pairs) c.block-block.ensures c.least_failing.ensures.least)) in
    let own : value_of found ≡ Known c.in_ok-copy-in-Some.field-0 =
    ap (λ o. value_of (option_map (λ t. t.now) o)) c.in-Some.is ∙ ap Known (sym c.in_ok-copy-in-Some.ensures) in
    let value : Known c.in_ok-copy-in-Some.field-0 ≡ value_over m c.args.x tree = sym own ∙ value_is m c.args.x tree found is_true least in
    value

pub returns-in_ok-copy-in-Some-clause-tree : goal.returns-in_ok-copy-in-Some-clause-tree
returns-in_ok-copy-in-Some-clause-tree g c =
    let m = c.args.monitor.now in
    let table = c.table-table.result.now in
    let tree = tree_of m.shelf.table c.args.h in
    let pairs = book_pairs m c.args.x c.book-book.result.now c.book-book.ensures in
    let bits : c.block-block.result.bits ≡ m.bits = ap (λ (b : Block). b.bits) c.block-block.ensures in
    let text = c.in_ok-copy-in-Some.field-0 in
    let code : c.unwrap_or-code.result ≡ code_for (ones m) (pairs_in m c.args.x) (Known text) =
    c.unwrap_or-code.ensures
    ∙ ap (λ o. unwrap_or o c.all_ones-ones.result) (c.code_of.ensures.code ∙ (ap (code_of c.book-book.result.now.pairs) (sym c.in_ok-copy-in-Some.ensures) ∙ ap (λ (ps : Pairs). code_of ps text) (sym pairs)))
    ∙ ap (unwrap_or (code_of (pairs_in m c.args.x) text)) (c.all_ones-ones.ensures ∙ ap (λ (n : ℕ). 2 ^ n - 1) bits) in
    let r = c.walk-rest-in-Some.result in
    let left : tree_of m.shelf.table r ≡ with_code_of m c.args.x (code_for (ones m) (pairs_in m c.args.x) (Known text)) tree =
    subst (λ (t : Table). tree_of t r ≡ with_code_of m c.args.x (code_for (ones m) (pairs_in m c.args.x) (Known text)) (tree_of t c.args.h)) c.table-table.ensures
    (subst (λ (n : ℕ). tree_of table r ≡ with_code_of m c.args.x n (tree_of table c.args.h)) code
    (subst (λ (b : Block). tree_of table r ≡ set_block b.first b.bits c.unwrap_or-code.result (tree_of table c.args.h)) c.block-block.ensures c.walk-rest-in-Some.ensures.tree)) in
    left_is m c.args.x tree (Known text) (tree_of m.shelf.table r) (returns-in_ok-copy-in-Some-clause-value g c) left
