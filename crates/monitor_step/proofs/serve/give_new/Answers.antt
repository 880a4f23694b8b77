-- Each text whose code is a mark gets the least free one, and its place in the list the code.
use Rattle.std.proofs.Common.{◌≡◌, ◌+◌, [], ◌∷◌, drop, refl, sym, subst, ap, None}
use Rattle.std.specs.Prelude.{slice_index_or}
use Rattle.std.proofs.lemmas.List.{drop_all}
use Rattle.subformulas.specs.declared.need_list.Need.{Need}
use Rattle.value_codes.specs.Pairs.{code_of}
use Rattle.monitor_model.specs.Books.{AllApart}
use Rattle.monitor_step.specs.Giving.{own_texts, Takes}
use Rattle.monitor_step.proofs.Serving.Given.{IsGiving, GivenUpTo, gives_code, gives_nothing, given_first, given_last, giving_more, room_here}
use Rattle.monitor_step.proofs.Serving.Marked.{AreGiven, arg_here, code_small, given_begin, given_end, given_put, given_skip, mark_none, no_mark, own_first, text_here}
use Rattle.monitor_step.proofs.serve.give_new.Goals.{then-codes-i+in_ok-codes, else-codes-i}
use Rattle.monitor_step.proofs.serve.give_new.Goals as goal

abbrev none : Need
none = record { variable = 0; arg = 0 }

pub loop-i-init : goal.loop-i-init
loop-i-init c =
    let all = own_texts c.args.args.now c.args.own.now in
    record {
      giving = record {
        given = given_first c.args.book.now.bits all c.args.book.now.pairs;
        room = c.requires.room;
        once = c.requires.once;
        same_bits = refl;
        sound = c.free_count-free.ensures.sound;
      };
      given = given_begin c.args.args.now c.args.own.now c.args.book.now.pairs c.args.codes.now
          c.requires.listed;
      within = c.requires.args;
    }

pub give_one-requires-clause-none : goal.give_one-requires-clause-none
give_one-requires-clause-none c =
    let args = c.args.args.now in
    let ns = c.args.own.now in
    let now = c.loop-i.book in
    let small = code_small now c.loop-i.invariant.giving.sound in
    let uncoded =
    mark_none args ns c.loop-i.i none c.loop-i-test.true now.pairs c.loop-i.codes
    c.loop-i.invariant.given small c.if-codes-i.true in
    let is =
    text_here args ns c.loop-i.i none c.index-args-entry.result c.loop-i-test.true
    c.loop-i.invariant.within c.index-args-entry.is in
    subst (λ t. code_of now.pairs t ≡ None) (sym is) uncoded

pub give_one-requires-clause-room : goal.give_one-requires-clause-room
give_one-requires-clause-room c =
    let args = c.args.args.now in
    let ns = c.args.own.now in
    let i = c.loop-i.i in
    let now = c.loop-i.book in
    let text = slice_index_or args (slice_index_or ns i none).arg [] in
    let small = code_small now c.loop-i.invariant.giving.sound in
    let uncoded =
    mark_none args ns i none c.loop-i-test.true now.pairs c.loop-i.codes
    c.loop-i.invariant.given small c.if-codes-i.true in
    room_here c.args.book.now.bits (own_texts args ns) c.args.book.now.pairs text
    (own_texts args (drop i ns)) (own_texts args (drop (i + 1) ns)) now
    c.loop-i.invariant.giving (own_first args ns i none c.loop-i-test.true) uncoded

pub loop-i-preserved : goal.loop-i-preserved
loop-i-preserved c =
    let args = c.args.args.now in
    let ns = c.args.own.now in
    let i = c.loop-i.i in
    let now = c.loop-i.book in
    let bits = c.args.book.now.bits in
    let first = c.args.book.now.pairs in
    let all = own_texts args ns in
    let rest = own_texts args (drop (i + 1) ns) in
    let l = c.loop-i-test.true in
    let inv = c.loop-i.invariant in
    let text = slice_index_or args (slice_index_or ns i none).arg [] in
    let next : own_texts args (drop i ns) ≡ text ∷ rest = own_first args ns i none l in
    let apart : AllApart (text ∷ rest) = subst AllApart next inv.giving.once in
    let within = (arg_here args ns i none l inv.within).1 in
    elim c.if-codes-i.branch [
      | then-codes-i+in_ok-codes w ↦
          let code = w.in_ok-codes.field-0 in
          let after = w.give_one.new.book in
          let small = code_small now inv.giving.sound in
          let uncoded =
          mark_none args ns i none l now.pairs c.loop-i.codes inv.given small
          w.if-codes-i.true in
          let is =
          text_here args ns i none w.index-args-entry.result l inv.within
          w.index-args-entry.is in
          let takes : Takes now.bits text code now.pairs after.pairs =
          subst (λ t. Takes now.bits t code now.pairs after.pairs) is
          w.in_ok-codes.ensures.given in
          let giving =
          giving_more bits all first text (own_texts args (drop i ns)) rest now after inv.giving
          next (gives_code now.bits text code now.pairs after.pairs uncoded takes)
          w.give_one.ensures.bits w.give_one.ensures.sound in
          let given =
          given_put args ns i none l now.pairs c.loop-i.codes inv.given code after.pairs uncoded
          takes.adds apart.0 in
          record {
            giving = subst (IsGiving bits all first rest) (sym w.book-is) giving;
            given = subst (λ b. AreGiven args ns (i + 1) b.pairs c.if-codes-i.codes)
                (sym w.book-is)
                (subst (AreGiven args ns (i + 1) after.pairs) (sym w.codes-is) given);
            within = within;
          }
      | else-codes-i w ↦
          let has =
          no_mark args ns i none l now.pairs c.loop-i.codes inv.given w.if-codes-i.false in
          let giving =
          giving_more bits all first text (own_texts args (drop i ns)) rest now now inv.giving next
          (gives_nothing now.bits text (slice_index_or c.loop-i.codes i 0) now.pairs has) refl
          inv.giving.sound in
          let given =
          given_skip args ns i none l now.pairs c.loop-i.codes inv.given w.if-codes-i.false in
          record {
            giving = subst (IsGiving bits all first rest) (sym w.book-is) giving;
            given = subst (λ b. AreGiven args ns (i + 1) b.pairs c.if-codes-i.codes)
                (sym w.book-is)
                (subst (AreGiven args ns (i + 1) now.pairs) (sym w.codes-is) given);
            within = within;
          }
    ]

pub returns-clause-given : goal.returns-clause-given
returns-clause-given c =
    let args = c.args.args.now in
    let ns = c.args.own.now in
    let bits = c.args.book.now.bits in
    let first = c.args.book.now.pairs in
    let all = own_texts args ns in
    let end : own_texts args (drop c.loop-i.i ns) ≡ [] =
    ap (λ xs. own_texts args xs) (drop_all c.loop-i.i ns c.loop-i-test.false) in
    given_last bits all first c.loop-i.book.pairs
    (subst (λ ts. GivenUpTo bits all first ts c.loop-i.book.pairs) end
    c.loop-i.invariant.giving.given)

pub returns-clause-codes : goal.returns-clause-codes
returns-clause-codes c =
    given_end c.args.args.now c.args.own.now c.loop-i.i c.loop-i.book.pairs c.loop-i.codes
    c.loop-i-test.false c.loop-i.invariant.given
