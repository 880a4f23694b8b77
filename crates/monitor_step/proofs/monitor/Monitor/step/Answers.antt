use Rattle.std.proofs.Common.{◌≡◌, ◌∙◌, refl, sym, ap, subst, true, false}
use Rattle.std.specs.Prelude.{Ok}
use Rattle.std.specs.Vec.{with_items}
use Rattle.std.proofs.lemmas.List.{with_items_is}
use Rattle.monitor_model.specs.Rows.{Frame}
use Rattle.monitor_model.specs.State.{State, IsLive, IsMonitor}
use Rattle.monitor_step.specs.Frame.{frame_of, setting_with}
use Rattle.monitor_step.specs.Handles.{brought_forward}
use Rattle.monitor_step.specs.Monitor.{HasSmallAtoms}
use Rattle.monitor_step.specs.Serving.{pairs_at}
use Rattle.monitor_step.specs.declared.frame.Frame as of_rows
use Rattle.monitor_step.proofs.Stepping.Parts.{answers, coded_named, codes_named, codes_refused, event_bound, next_live, next_monitor, next_read, next_shape, nodes_refused, rows_readable, serving_bound, some_events}
use Rattle.monitor_step.proofs.monitor.Monitor.step.Goals as goal

pub returns-in_err-code_event-clause-reads : goal.returns-in_err-code_event-clause-reads
returns-in_err-code_event-clause-reads g c =
    let live = c.self.invariant.2 (subst (λ (m : State). m.live ≡ true) (sym c.self.view_is) c.requires.live) in
    codes_refused _ _ c.self.view_is c.self.invariant.0 live c.live-nodes.ensures.shared c.args.event.now
    c.self.inside.remembered c.self.invariant.1
    c.deref.result.now c.deref.ensures.value c.deref_mut.result.now c.deref_mut.ensures.value c.code_event.new.books
    _ c.in_err-code_event.field-0.0 c.in_err-code_event.ensures.served
    c.from_residual.result c.from_residual.ensures.1

pub returns-in_err-code_event-clause-answers : goal.returns-in_err-code_event-clause-answers
returns-in_err-code_event-clause-answers g c = λ log is_log stands.
    let live = c.self.invariant.2 (subst (λ (m : State). m.live ≡ true) (sym c.self.view_is) c.requires.live) in
    answers c.args.self.now _ c.args.event.now c.from_residual.result
    (subst IsMonitor c.self.view_is c.self.invariant.0) (subst IsLive c.self.view_is live)
    (returns-in_err-code_event-clause-reads g c) log is_log stands

pub returns-in_err-code_event-clause-no_memory : goal.returns-in_err-code_event-clause-no_memory
returns-in_err-code_event-clause-no_memory g c = λ small codes none.
    absurd (let no : false ≡ true =
    c.in_err-code_event.ensures.no_memory c.self.invariant.3
    (subst (λ (b : State). HasSmallAtoms b.plan) (sym c.self.view_is) small)
    (codes_named _ _ c.self.view_is c.args.event.now c.deref_mut.result.now c.deref_mut.ensures.value codes) in cc)

pub returns-in_err-code_event-clause-cost : goal.returns-in_err-code_event-clause-cost
returns-in_err-code_event-clause-cost g c = λ large.
    serving_bound _ _ c.self.view_is c.self.invariant.0 c.self.inside.remembered c.self.invariant.1
    c.deref.result.now c.deref.ensures.value c.deref_mut.result.now c.deref_mut.ensures.value
    c.args.steps.now c.code_event.new.steps c.code_event.ensures.cost c.code_event.ensures.idle

pub event_rows-requires-clause-coded : goal.event_rows-requires-clause-coded
event_rows-requires-clause-coded g c =
    let books = c.code_event.new.books in
    let same = with_items_is c.self.inside.books books (c.code_event.ensures.count ∙ c.deref_mut.ensures.len) in
    let now = c.deref-2.ensures.value ∙ same in
    let f : of_rows.Frame = record { event = c.args.event; books = c.deref-2.result; matched = c.matched.result; coded = c.deref-3.result; bits = c.self.inside.bits; time = c.time_block-time.result; delta = c.time_since-delta.result } in
    let frame : Frame = frame_of (setting_with c.self.inside.plan c.self.inside.bits c.code_event.new.store.table.room) f in
    coded_named frame
    c.self.inside.plan.subs c.code_event.new.lists.coded.items c.deref-3.result.now
    c.code_event.new.lists.needs.matched c.matched.result.now c.deref-3.ensures.value c.matched.ensures
    (c.in_ok-code_event.ensures.coded frame refl refl refl refl (ap pairs_at now))

pub event_rows-requires-clause-readable : goal.event_rows-requires-clause-readable
event_rows-requires-clause-readable g c =
    let live = c.self.invariant.2 (subst (λ (m : State). m.live ≡ true) (sym c.self.view_is) c.requires.live) in
    let books = c.code_event.new.books in
    let same = with_items_is c.self.inside.books books (c.code_event.ensures.count ∙ c.deref_mut.ensures.len) in
    let now = c.deref-2.ensures.value ∙ same in
    let f : of_rows.Frame = record { event = c.args.event; books = c.deref-2.result; matched = c.matched.result; coded = c.deref-3.result; bits = c.self.inside.bits; time = c.time_block-time.result; delta = c.time_since-delta.result } in
    rows_readable _ _ c.self.view_is c.self.invariant.0 live c.live-nodes.ensures.shared c.args.event.now
    c.self.inside.remembered c.self.invariant.1
    c.deref.result.now c.deref.ensures.value c.deref_mut.result.now c.deref_mut.ensures.value c.code_event.new.books
    tt c.in_ok-code_event.ensures.served c.code_event.new.store.table c.code_event.ensures.nodes c.code_event.ensures.room f
    refl now refl c.time_since-delta.ensures c.deref_mut-2.result.now c.deref_mut-2.ensures.value

pub returns-in_err-event_rows-clause-reads : goal.returns-in_err-event_rows-clause-reads
returns-in_err-event_rows-clause-reads g c =
    let live = c.self.invariant.2 (subst (λ (m : State). m.live ≡ true) (sym c.self.view_is) c.requires.live) in
    let books = c.code_event.new.books in
    let same = with_items_is c.self.inside.books books (c.code_event.ensures.count ∙ c.deref_mut.ensures.len) in
    let now = c.deref-2.ensures.value ∙ same in
    let f : of_rows.Frame = record { event = c.args.event; books = c.deref-2.result; matched = c.matched.result; coded = c.deref-3.result; bits = c.self.inside.bits; time = c.time_block-time.result; delta = c.time_since-delta.result } in
    nodes_refused _ _ c.self.view_is c.self.invariant.0 live c.live-nodes.ensures.shared c.args.event.now
    c.self.inside.remembered c.self.invariant.1
    c.deref.result.now c.deref.ensures.value c.deref_mut.result.now c.deref_mut.ensures.value c.code_event.new.books
    tt c.in_ok-code_event.ensures.served c.code_event.new.store.table c.code_event.ensures.nodes c.code_event.ensures.room f
    refl now refl c.time_since-delta.ensures c.deref_mut-2.result.now c.deref_mut-2.ensures.value
    _ c.in_err-event_rows.field-0.0 c.in_err-event_rows.ensures.made
    c.from_residual-in_err-event_rows.result c.from_residual-in_err-event_rows.ensures.1

pub returns-in_err-event_rows-clause-answers : goal.returns-in_err-event_rows-clause-answers
returns-in_err-event_rows-clause-answers g c = λ log is_log stands.
    let live = c.self.invariant.2 (subst (λ (m : State). m.live ≡ true) (sym c.self.view_is) c.requires.live) in
    answers c.args.self.now _ c.args.event.now c.from_residual-in_err-event_rows.result
    (subst IsMonitor c.self.view_is c.self.invariant.0) (subst IsLive c.self.view_is live)
    (returns-in_err-event_rows-clause-reads g c) log is_log stands

pub returns-in_err-event_rows-clause-cost : goal.returns-in_err-event_rows-clause-cost
returns-in_err-event_rows-clause-cost g c =
    event_bound _ _ c.self.view_is c.self.invariant.0 c.self.inside.remembered c.self.invariant.1
    c.deref.result.now c.deref.ensures.value c.deref_mut.result.now c.deref_mut.ensures.value
    c.args.steps.now c.code_event.new.steps c.event_rows.new.steps c.code_event.new.store
    c.code_event.ensures.cost c.code_event.ensures.idle c.code_event.ensures.room c.code_event.ensures.entries
    c.event_rows.ensures.cost

pub invariant_of-self-2 : goal.invariant_of-self-2
invariant_of-self-2 g c =
    let live = c.self.invariant.2 (subst (λ (m : State). m.live ≡ true) (sym c.self.view_is) c.requires.live) in
    let books = c.code_event.new.books in
    let same = with_items_is c.self.inside.books books (c.code_event.ensures.count ∙ c.deref_mut.ensures.len) in
    let now = c.deref-2.ensures.value ∙ same in
    let f : of_rows.Frame = record { event = c.args.event; books = c.deref-2.result; matched = c.matched.result; coded = c.deref-3.result; bits = c.self.inside.bits; time = c.time_block-time.result; delta = c.time_since-delta.result } in
    let handles = c.self.inside.handles in
    let made = c.event_rows.new.handles in
    let put = with_items_is handles made (c.event_rows.auto.handles ∙ c.deref_mut-2.ensures.len) in
    let kept = with_items_is (with_items handles made) c.remember.new.handles (c.remember.auto.handles ∙ c.deref_mut-3.ensures.len) in
    let forward = kept ∙ (c.remember.ensures ∙ ap (brought_forward c.self.inside.remembered) (c.deref_mut-3.ensures.value ∙ put)) in (
      next_monitor _ _ c.self.view_is c.self.invariant.0 live c.live-nodes.ensures.shared c.args.event.now
          c.self.inside.remembered c.self.invariant.1
          c.deref.result.now c.deref.ensures.value c.deref_mut.result.now c.deref_mut.ensures.value c.code_event.new.books
          tt c.in_ok-code_event.ensures.served c.code_event.new.store.table c.code_event.ensures.nodes c.code_event.ensures.room f
          refl now refl c.time_since-delta.ensures c.deref_mut-2.result.now c.deref_mut-2.ensures.value
          _ made c.in_ok-event_rows.ensures.made forward refl refl (c.event_rows.ensures.room ∙ c.code_event.ensures.room) same refl
          (some_events c.self.inside.events) refl refl
          c.code_event.ensures.bits c.code_event.ensures.count,
      c.self.invariant.1,
      λ is_live. next_live _ _ c.self.view_is c.self.invariant.0 live c.live-nodes.ensures.shared c.args.event.now
          c.self.inside.remembered c.self.invariant.1
          c.deref.result.now c.deref.ensures.value c.deref_mut.result.now c.deref_mut.ensures.value c.code_event.new.books
          tt c.in_ok-code_event.ensures.served c.code_event.new.store.table c.code_event.ensures.nodes c.code_event.ensures.room f
          refl now refl c.time_since-delta.ensures c.deref_mut-2.result.now c.deref_mut-2.ensures.value
          _ made c.in_ok-event_rows.ensures.made forward refl refl (c.event_rows.ensures.room ∙ c.code_event.ensures.room) same refl
          (some_events c.self.inside.events) refl refl
          c.code_event.ensures.bits c.in_ok-code_event.ensures.sound,
      c.code_event.ensures.lists c.self.invariant.3,
    )

pub returns-clause-reads : goal.returns-clause-reads
returns-clause-reads g c =
    let live = c.self.invariant.2 (subst (λ (m : State). m.live ≡ true) (sym c.self.view_is) c.requires.live) in
    let books = c.code_event.new.books in
    let same = with_items_is c.self.inside.books books (c.code_event.ensures.count ∙ c.deref_mut.ensures.len) in
    let now = c.deref-2.ensures.value ∙ same in
    let f : of_rows.Frame = record { event = c.args.event; books = c.deref-2.result; matched = c.matched.result; coded = c.deref-3.result; bits = c.self.inside.bits; time = c.time_block-time.result; delta = c.time_since-delta.result } in
    let handles = c.self.inside.handles in
    let made = c.event_rows.new.handles in
    let put = with_items_is handles made (c.event_rows.auto.handles ∙ c.deref_mut-2.ensures.len) in
    let kept = with_items_is (with_items handles made) c.remember.new.handles (c.remember.auto.handles ∙ c.deref_mut-3.ensures.len) in
    let forward = kept ∙ (c.remember.ensures ∙ ap (brought_forward c.self.inside.remembered) (c.deref_mut-3.ensures.value ∙ put)) in
    next_read _ _ c.self.view_is c.self.invariant.0 live c.live-nodes.ensures.shared c.args.event.now
    c.self.inside.remembered c.self.invariant.1
    c.deref.result.now c.deref.ensures.value c.deref_mut.result.now c.deref_mut.ensures.value c.code_event.new.books
    tt c.in_ok-code_event.ensures.served c.code_event.new.store.table c.code_event.ensures.nodes c.code_event.ensures.room f
    refl now refl c.time_since-delta.ensures c.deref_mut-2.result.now c.deref_mut-2.ensures.value
    _ made c.in_ok-event_rows.ensures.made forward refl refl (c.event_rows.ensures.room ∙ c.code_event.ensures.room) same refl
    (some_events c.self.inside.events) refl refl

pub returns-clause-shape : goal.returns-clause-shape
returns-clause-shape g c =
    let live = c.self.invariant.2 (subst (λ (m : State). m.live ≡ true) (sym c.self.view_is) c.requires.live) in
    let books = c.code_event.new.books in
    let same = with_items_is c.self.inside.books books (c.code_event.ensures.count ∙ c.deref_mut.ensures.len) in
    let now = c.deref-2.ensures.value ∙ same in
    let f : of_rows.Frame = record { event = c.args.event; books = c.deref-2.result; matched = c.matched.result; coded = c.deref-3.result; bits = c.self.inside.bits; time = c.time_block-time.result; delta = c.time_since-delta.result } in
    let handles = c.self.inside.handles in
    let made = c.event_rows.new.handles in
    let put = with_items_is handles made (c.event_rows.auto.handles ∙ c.deref_mut-2.ensures.len) in
    let kept = with_items_is (with_items handles made) c.remember.new.handles (c.remember.auto.handles ∙ c.deref_mut-3.ensures.len) in
    let forward = kept ∙ (c.remember.ensures ∙ ap (brought_forward c.self.inside.remembered) (c.deref_mut-3.ensures.value ∙ put)) in
    next_shape _ _ c.self.view_is c.self.invariant.0 live c.live-nodes.ensures.shared c.args.event.now
    c.self.inside.remembered c.self.invariant.1
    c.deref.result.now c.deref.ensures.value c.deref_mut.result.now c.deref_mut.ensures.value c.code_event.new.books
    tt c.in_ok-code_event.ensures.served c.code_event.new.store.table c.code_event.ensures.nodes c.code_event.ensures.room f
    refl now refl c.time_since-delta.ensures c.deref_mut-2.result.now c.deref_mut-2.ensures.value
    _ made c.in_ok-event_rows.ensures.made forward refl refl (c.event_rows.ensures.room ∙ c.code_event.ensures.room) same refl
    (some_events c.self.inside.events) refl refl
    c.code_event.ensures.bits c.in_ok-code_event.ensures.sound

pub returns-clause-answers : goal.returns-clause-answers
returns-clause-answers g c = λ log is_log stands.
    let live = c.self.invariant.2 (subst (λ (m : State). m.live ≡ true) (sym c.self.view_is) c.requires.live) in
    answers c.args.self.now _ c.args.event.now (Ok tt)
    (subst IsMonitor c.self.view_is c.self.invariant.0) (subst IsLive c.self.view_is live)
    (returns-clause-reads g c) log is_log stands

pub returns-clause-cost : goal.returns-clause-cost
returns-clause-cost g c =
    event_bound _ _ c.self.view_is c.self.invariant.0 c.self.inside.remembered c.self.invariant.1
    c.deref.result.now c.deref.ensures.value c.deref_mut.result.now c.deref_mut.ensures.value
    c.args.steps.now c.code_event.new.steps c.event_rows.new.steps c.code_event.new.store
    c.code_event.ensures.cost c.code_event.ensures.idle c.code_event.ensures.room c.code_event.ensures.entries
    c.event_rows.ensures.cost
