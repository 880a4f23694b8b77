-- Serving one variable does what the next book is defined by, and lists the codes of its texts.
use Rattle.std.proofs.Common.{◌≡◌, ◌-◌, ◌∙◌, drop, length, map, take, subst, sym, arith}
use Rattle.std.proofs.lemmas.Result.{err_from_is_err_and}
use Rattle.node_table.specs.Table.{tree_of, KeepsTrees}
use Rattle.bdd_ops.proofs.Growing.{keeps_same}
use Rattle.monitor_step.specs.Giving.{marked, own_texts}
use Rattle.monitor_step.proofs.Serving.Marked.{behind, marked_all, put_behind}
use Rattle.monitor_step.proofs.Serving.Next.{HasRoom, IsCounted, none_counted, is_swept, room_free, room_swept, room_ready, ready_marked, served_none, served_ready, end_ready}
use Rattle.monitor_step.proofs.serve.serve_variable.Goals.{then-free-new+in_ok-make_room, else-free-new}
use Rattle.monitor_step.proofs.serve.serve_variable.Goals as goal

pub returns-then-new-eq0-clause-served : goal.returns-then-new-eq0-clause-served
returns-then-new-eq0-clause-served g c =
    let needed = own_texts c.args.args.now c.args.own.now in
    let trees = map (tree_of c.args.store.now.table) c.args.remembered.now in
    let first = c.args.block.first in
    let bits = c.args.block.bits in
    let book = c.args.book.now in
    let free = c.free_count-free.result in
    let new = c.in_ok-new.new in
    let counted : IsCounted bits needed book free new = record {
      sound = c.free_count-free.ensures.sound;
      same_bits = c.requires.bits;
      frees = c.free_count-free.ensures.count;
      news = c.in_ok-new.ensures.count;
    } in
    served_none trees first bits needed book free new counted c.requires.once c.if-new-eq0.true

pub returns-then-new-eq0-clause-codes : goal.returns-then-new-eq0-clause-codes
returns-then-new-eq0-clause-codes g c =
    let needed = own_texts c.args.args.now c.args.own.now in
    let book = c.args.book.now.pairs in
    record {
      added = marked book needed;
      behind = c.in_ok-new.ensures.listed;
      codes = marked_all book needed (sym c.in_ok-new.ensures.count ∙ c.if-new-eq0.true);
    }

pub returns-in_err-make_room-clause-no_memory : goal.returns-in_err-make_room-clause-no_memory
returns-in_err-make_room-clause-no_memory g c coded room =
    let needed = own_texts c.args.args.now c.args.own.now in
    let trees = map (tree_of c.args.store.now.table) c.args.remembered.now in
    let first = c.args.block.first in
    let bits = c.args.block.bits in
    let book = c.args.book.now in
    let free = c.free_count-free.result in
    let new = c.in_ok-new.new in
    let counted : IsCounted bits needed book free new = record {
      sound = c.free_count-free.ensures.sound;
      same_bits = c.requires.bits;
      frees = c.free_count-free.ensures.count;
      news = c.in_ok-new.ensures.count;
    } in
    absurd
    (c.if-new-eq0.false (none_counted trees first bits needed book free new counted coded))

pub returns-in_err-give_new-clause-no_memory : goal.returns-in_err-give_new-clause-no_memory
returns-in_err-give_new-clause-no_memory g c coded room =
    let needed = own_texts c.args.args.now c.args.own.now in
    let trees = map (tree_of c.args.store.now.table) c.args.remembered.now in
    let first = c.args.block.first in
    let bits = c.args.block.bits in
    let book = c.args.book.now in
    let free = c.free_count-free.result in
    let new = c.in_ok-new.new in
    let counted : IsCounted bits needed book free new = record {
      sound = c.free_count-free.ensures.sound;
      same_bits = c.requires.bits;
      frees = c.free_count-free.ensures.count;
      news = c.in_ok-new.ensures.count;
    } in
    absurd
    (c.if-new-eq0.false (none_counted trees first bits needed book free new counted coded))

pub returns-in_err-make_room-clause-served : goal.returns-in_err-make_room-clause-served
returns-in_err-make_room-clause-served g c =
    let needed = own_texts c.args.args.now c.args.own.now in
    let trees = map (tree_of c.args.store.now.table) c.args.remembered.now in
    let first = c.args.block.first in
    let bits = c.args.block.bits in
    let book = c.args.book.now in
    let free = c.free_count-free.result in
    let new = c.in_ok-new.new in
    let from = c.len-from.result in
    let counted : IsCounted bits needed book free new = record {
      sound = c.free_count-free.ensures.sound;
      same_bits = c.requires.bits;
      frees = c.free_count-free.ensures.count;
      news = c.in_ok-new.ensures.count;
    } in
    let old = c.args.codes.now.items in
    let begin : from ≡ length old =
    let k = c.args.codes.now.ok.0 in let l = c.len-from.ensures in omega (arith, k, l) in
    let all = c.deref.result.now in
    let codes = take (length all - from) (drop from all) in
    let listed : codes ≡ marked book.pairs needed =
    behind from old (marked book.pairs needed) all begin
    (c.deref.ensures.value ∙ c.in_ok-new.ensures.listed) in
    let mid = c.make_room.new.book in
    let swept =
    is_swept trees first bits needed book free new counted mid.pairs codes c.if-free-new.true listed
    c.in_err-make_room.ensures.swept in
    let p =
    err_from_is_err_and c.from_residual-in_err-make_room.result
    c.from_residual-in_err-make_room.ensures.1 in
    rw (p.1, p.2)
    (end_ready trees first bits needed book free new counted c.requires.once c.args.variable mid
    c.make_room.ensures.sound swept c.in_err-make_room.field-0.0
    c.in_err-make_room.ensures.answer)

pub give_new-requires-clause-listed : goal.give_new-requires-clause-listed
give_new-requires-clause-listed g c =
    let needed = own_texts c.args.args.now c.args.own.now in
    let trees = map (tree_of c.args.store.now.table) c.args.remembered.now in
    let first = c.args.block.first in
    let bits = c.args.block.bits in
    let book = c.args.book.now in
    let free = c.free_count-free.result in
    let new = c.in_ok-new.new in
    let from = c.len-from.result in
    let old = c.args.codes.now.items in
    let added = marked book.pairs needed in
    let counted : IsCounted bits needed book free new = record {
      sound = c.free_count-free.ensures.sound;
      same_bits = c.requires.bits;
      frees = c.free_count-free.ensures.count;
      news = c.in_ok-new.ensures.count;
    } in
    let begin : from ≡ length old =
    let k = c.args.codes.now.ok.0 in let l = c.len-from.ensures in omega (arith, k, l) in
    let mid = c.if-free-new.book in
    let room : HasRoom trees first bits needed book.pairs mid = elim c.if-free-new.branch [
      | then-free-new+in_ok-make_room w ↦
          let all = w.deref.result.now in
          let codes = take (length all - from) (drop from all) in
          let listed : codes ≡ added =
          behind from old added all begin (w.deref.ensures.value ∙ c.in_ok-new.ensures.listed) in
          let left = w.make_room.new.book in
          let swept =
          is_swept trees first bits needed book free new counted left.pairs codes
          w.if-free-new.true listed w.in_ok-make_room.ensures.swept in
          subst (HasRoom trees first bits needed book.pairs) (sym {a = mid} {b = left} w.book-is)
          (room_swept trees first bits needed book free new counted left swept
          w.in_ok-make_room.ensures.answer w.make_room.ensures.bits w.make_room.ensures.sound)
      | else-free-new w ↦
          subst (HasRoom trees first bits needed book.pairs) (sym {a = mid} {b = book} w.book-is)
          (room_free trees first bits needed book free new counted w.if-free-new.false)
    ] in
    let all = c.deref_mut.result.now in
    behind from old added all begin (c.deref_mut.ensures.value ∙ c.in_ok-new.ensures.listed)
    ∙ sym (ready_marked trees first bits needed book free new counted mid room)

pub give_new-requires-clause-room : goal.give_new-requires-clause-room
give_new-requires-clause-room g c =
    let needed = own_texts c.args.args.now c.args.own.now in
    let trees = map (tree_of c.args.store.now.table) c.args.remembered.now in
    let first = c.args.block.first in
    let bits = c.args.block.bits in
    let book = c.args.book.now in
    let free = c.free_count-free.result in
    let new = c.in_ok-new.new in
    let from = c.len-from.result in
    let old = c.args.codes.now.items in
    let added = marked book.pairs needed in
    let counted : IsCounted bits needed book free new = record {
      sound = c.free_count-free.ensures.sound;
      same_bits = c.requires.bits;
      frees = c.free_count-free.ensures.count;
      news = c.in_ok-new.ensures.count;
    } in
    let begin : from ≡ length old =
    let k = c.args.codes.now.ok.0 in let l = c.len-from.ensures in omega (arith, k, l) in
    let mid = c.if-free-new.book in
    let room : HasRoom trees first bits needed book.pairs mid = elim c.if-free-new.branch [
      | then-free-new+in_ok-make_room w ↦
          let all = w.deref.result.now in
          let codes = take (length all - from) (drop from all) in
          let listed : codes ≡ added =
          behind from old added all begin (w.deref.ensures.value ∙ c.in_ok-new.ensures.listed) in
          let left = w.make_room.new.book in
          let swept =
          is_swept trees first bits needed book free new counted left.pairs codes
          w.if-free-new.true listed w.in_ok-make_room.ensures.swept in
          subst (HasRoom trees first bits needed book.pairs) (sym {a = mid} {b = left} w.book-is)
          (room_swept trees first bits needed book free new counted left swept
          w.in_ok-make_room.ensures.answer w.make_room.ensures.bits w.make_room.ensures.sound)
      | else-free-new w ↦
          subst (HasRoom trees first bits needed book.pairs) (sym {a = mid} {b = book} w.book-is)
          (room_free trees first bits needed book free new counted w.if-free-new.false)
    ] in
    room_ready trees first bits needed book free new counted mid room

pub returns-clause-served : goal.returns-clause-served
returns-clause-served g c =
    let needed = own_texts c.args.args.now c.args.own.now in
    let trees = map (tree_of c.args.store.now.table) c.args.remembered.now in
    let first = c.args.block.first in
    let bits = c.args.block.bits in
    let book = c.args.book.now in
    let free = c.free_count-free.result in
    let new = c.in_ok-new.new in
    let from = c.len-from.result in
    let old = c.args.codes.now.items in
    let added = marked book.pairs needed in
    let counted : IsCounted bits needed book free new = record {
      sound = c.free_count-free.ensures.sound;
      same_bits = c.requires.bits;
      frees = c.free_count-free.ensures.count;
      news = c.in_ok-new.ensures.count;
    } in
    let begin : from ≡ length old =
    let k = c.args.codes.now.ok.0 in let l = c.len-from.ensures in omega (arith, k, l) in
    let mid = c.if-free-new.book in
    let room : HasRoom trees first bits needed book.pairs mid = elim c.if-free-new.branch [
      | then-free-new+in_ok-make_room w ↦
          let all = w.deref.result.now in
          let codes = take (length all - from) (drop from all) in
          let listed : codes ≡ added =
          behind from old added all begin (w.deref.ensures.value ∙ c.in_ok-new.ensures.listed) in
          let left = w.make_room.new.book in
          let swept =
          is_swept trees first bits needed book free new counted left.pairs codes
          w.if-free-new.true listed w.in_ok-make_room.ensures.swept in
          subst (HasRoom trees first bits needed book.pairs) (sym {a = mid} {b = left} w.book-is)
          (room_swept trees first bits needed book free new counted left swept
          w.in_ok-make_room.ensures.answer w.make_room.ensures.bits w.make_room.ensures.sound)
      | else-free-new w ↦
          subst (HasRoom trees first bits needed book.pairs) (sym {a = mid} {b = book} w.book-is)
          (room_free trees first bits needed book free new counted w.if-free-new.false)
    ] in
    served_ready trees first bits needed book free new counted c.requires.once mid
    c.give_new.new.book.pairs room c.in_ok-give_new.ensures.given

pub returns-clause-kept : goal.returns-clause-kept
returns-clause-kept g c =
    let table = c.args.store.now.table in
    elim c.if-free-new.branch [
      | then-free-new+in_ok-make_room w ↦
          subst (λ s. KeepsTrees table s.table)
          (sym {a = c.if-free-new.store} {b = w.make_room.new.store} w.store-is)
          w.make_room.ensures.kept
      | else-free-new w ↦
          subst (λ s. KeepsTrees table s.table)
          (sym {a = c.if-free-new.store} {b = c.args.store.now} w.store-is) (keeps_same table)
    ]

pub returns-clause-codes : goal.returns-clause-codes
returns-clause-codes g c =
    let needed = own_texts c.args.args.now c.args.own.now in
    let from = c.len-from.result in
    let old = c.args.codes.now.items in
    let added = marked c.args.book.now.pairs needed in
    let held = c.list_codes.new.codes in
    let all = c.deref_mut.result.now in
    let begin : from ≡ length old =
    let k = c.args.codes.now.ok.0 in let l = c.len-from.ensures in omega (arith, k, l) in
    record {
      added = c.give_new.new.codes;
      behind = put_behind from old added all c.give_new.new.codes held.items held.len begin
          (c.deref_mut.ensures.value ∙ c.in_ok-new.ensures.listed) c.deref_mut.ensures.value
          held.ok.0 c.give_new.ensures.count;
      codes = c.in_ok-give_new.ensures.codes;
    }
