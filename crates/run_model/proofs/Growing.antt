-- Where a walk along what was taken of a log stops for another reason than that no more was taken, the walk along the whole log
-- stops there too.
use Rattle.std.proofs.Common.{◌≡◌, ℕ, ◌+◌, ◌-◌, ◌<◌, ◌≤◌, ◌⊎◌, inl, inr, List, [], ◌∷◌, ◌++◌, length, length-append, take, refl, sym, ap, ◌∙◌, subst, append_assoc, append-nil, arith, Bool, true, false, nat_le}
use Rattle.std.specs.Prelude.{◌≢◌}
use Rattle.std.proofs.lemmas.Bool.Decides.{nat_tests}
use Rattle.std.proofs.lemmas.Bool.{cases_lt}
use Rattle.std.proofs.Math.Seq.{take-append-add}
use Rattle.qtl_syntax.specs.Tree.{Text}
use Rattle.qtl_truth.specs.declared.event.Event.{Event}
use Rattle.log_reader.specs.Records.{Cut, End, Rest, At, cut}
use Rattle.log_reader.specs.Growth.{GoesOnBehind}
use Rattle.log_reader.specs.Standing.{numbered}
use Rattle.log_reader.proofs.GrowthLemmas.{grows}
use Rattle.run_model.specs.Walk.{Form, Input, Close, Open, Ended, Past, Taken, Takes, Comes, Ends, Halts, Walks, or_fault, input_by, known, whole_of, input_of}
use Rattle.run_model.specs.declared.stop.LogStop.{LogStop}
use Rattle.run_model.specs.declared.stop.LogStop.TheVariants.{Unread, Whole, Fault, Long}

is_within : (a b : ℕ) → a ≤ b → nat_le a b ≡ true
is_within a b h = grind (arith, nat_tests)

is_past : (a b : ℕ) → b < a → nat_le a b ≡ false
is_past a b h = grind (arith, nat_tests)

-- as much as a run may take of a log that isn't too long, and of a longer one
whole_short : (limit : ℕ) (all : Text) → length all ≤ limit → whole_of limit all ≡ record { given = all; close = Ended }
whole_short limit all h = rw (is_within (length all) limit h) refl

whole_long : (limit : ℕ) (all : Text) → limit < length all → whole_of limit all ≡ record { given = take limit all; close = Past }
whole_long limit all h = rw (is_past (length all) limit h) refl

-- The whole log has the records of these bytes and some more
record Behind (form : Form) (limit : ℕ) (all given : Text) : Type 0 where
  more : Text
  ended : Bool
  stop : LogStop
  is : input_of form limit all ≡ input_by stop (cut (given ++ more) form.timed ended)

behind : (form : Form) (limit : ℕ) (all given left : Text) → all ≡ given ++ left → length given ≤ limit → (limit < length all) ⊎ (length all ≤ limit) → Behind form limit all given
behind form limit all given left split short (inr few) =
    record {
      more = left;
      ended = true;
      stop = Whole;
      is = ap (λ (t : Taken). known form limit t) (whole_short limit all few) ∙ ap (λ (l : Text). input_by Whole (cut l form.timed true)) split;
    }
behind form limit all given left split short (inl many) =
    let n : limit ≡ length given + (limit - length given) = omega arith in
    let front : take limit all ≡ given ++ take (limit - length given) left =
    ap (λ (l : Text). take limit l) split ∙ ap (λ (k : ℕ). take k (given ++ left)) n ∙ take-append-add given left (limit - length given) in
    record {
      more = take (limit - length given) left;
      ended = false;
      stop = Long limit;
      is = ap (λ (t : Taken). known form limit t) (whole_long limit all many) ∙ ap (λ (l : Text). input_by (Long limit) (cut l form.timed false)) front;
    }

-- The events of a front of a log are its first ones, and what stops a walk behind them other than the front's end stops it there
pub record Agrees (front whole : Input) : Type 0 where
  pub more : List Event
  pub events : whole.events ≡ front.events ++ more
  pub stop : front.stop ≢ Unread → (whole.events ≡ front.events) × (whole.stop ≡ front.stop)

agree_behind : (end : End) (stop : LogStop) (front whole : Cut) → end ≡ front.end → GoesOnBehind end front whole → Agrees (input_by Unread front) (input_by stop whole)
agree_behind Rest stop front whole e g =
    record {
      more = g.0;
      events = g.1;
      stop = λ other. absurd (other (ap (λ (x : End). or_fault Unread x) (sym e)));
    }
agree_behind (At number why) stop front whole e g =
    let fault : or_fault Unread front.end ≡ Fault (numbered number why) = ap (λ (x : End). or_fault Unread x) (sym e) in
    let again : or_fault stop whole.end ≡ Fault (numbered number why) = ap (λ (c : Cut). or_fault stop c.end) g ∙ ap (λ (x : End). or_fault stop x) (sym e) in
    record {
      more = [];
      events = ap (λ (c : Cut). c.events) g ∙ sym (append-nil front.events);
      stop = λ other. (ap (λ (c : Cut). c.events) g, again ∙ sym fault);
    }

agree_open : (form : Form) (limit : ℕ) (all left given : Text) → all ≡ given ++ left → length given ≤ limit → Agrees (known form limit (record { given = given; close = Open })) (input_of form limit all)
agree_open form limit all left given split short =
    let b = behind form limit all given left split short (cases_lt limit (length all)) in
    subst (λ (i : Input). Agrees (known form limit (record { given = given; close = Open })) i) (sym b.is)
    (agree_behind (cut given form.timed false).end b.stop (cut given form.timed false) (cut (given ++ b.more) form.timed b.ended) refl (grows given b.more form.timed b.ended))

agree_same : (front whole : Input) → whole ≡ front → Agrees front whole
agree_same front whole e =
    record {
      more = [];
      events = ap (λ (i : Input). i.events) e ∙ sym (append-nil front.events);
      stop = λ other. (ap (λ (i : Input). i.events) e, ap (λ (i : Input). i.stop) e);
    }

pub agree : (form : Form) (limit : ℕ) (all left given : Text) (close : Close) → Takes limit all left (record { given = given; close = close }) →
    Agrees (known form limit (record { given = given; close = close })) (input_of form limit all)
agree form limit all left given Open t = agree_open form limit all left given t.of_log t.few
agree form limit all left given Ended t =
    let few : length all ≤ limit = subst (λ (l : Text). length l ≤ limit) (sym t.of_log.0) t.few in
    let same : whole_of limit all ≡ record { given = given; close = Ended } = whole_short limit all few ∙ ap (λ (l : Text). let w : Taken = record { given = l; close = Ended } in w) t.of_log.0 in
    agree_same _ _ (ap (λ (w : Taken). known form limit w) same)
agree form limit all left given Past t =
    let full = t.of_log.0 in
    let split : all ≡ given ++ t.of_log.1 ∷ left = t.of_log.2 in
    let n : length all ≡ length given + length (t.of_log.1 ∷ left) = ap length split ∙ length-append given (t.of_log.1 ∷ left) in
    let many : limit < length all = omega (arith, n, full) in
    let e : limit ≡ length given + 0 = omega (arith, full) in
    let front : take limit all ≡ given =
    ap (λ (l : Text). take limit l) split ∙ ap (λ (k : ℕ). take k (given ++ t.of_log.1 ∷ left)) e ∙ take-append-add given (t.of_log.1 ∷ left) 0 ∙ append-nil given in
    let same : whole_of limit all ≡ record { given = given; close = Past } = whole_long limit all many ∙ ap (λ (l : Text). let w : Taken = record { given = l; close = Past } in w) front in
    agree_same _ _ (ap (λ (w : Taken). known form limit w) same)

-- so a walk that stops on what was taken stops so on the whole log
by_stop : (comes : Comes) (front whole : Input) (judged : List Event) (stop : LogStop) → stop ≢ Unread → Agrees front whole → Ends front judged stop ⊎ Halts comes front judged stop → Ends whole judged stop ⊎ Halts comes whole judged stop
by_stop comes front whole judged stop other a (inl (all, is)) =
    let same = a.stop (λ bad. other (is ∙ bad)) in
    inl (all ∙ sym same.0, is ∙ sym same.1)
by_stop comes front whole judged stop other a (inr h) =
    inr (record {
      event = h.event;
      later = h.later ++ a.more;
      why = h.why;
      split = a.events ∙ ap (λ (l : List Event). l ++ a.more) h.split ∙ append_assoc judged (h.event ∷ h.later) a.more;
      comes_there = h.comes_there;
      told = h.told;
    })

pub walk_whole : (comes : Comes) (form : Form) (limit : ℕ) (all left : Text) (taken : Taken) (judged : List Event) (stop : LogStop) → Takes limit all left taken → stop ≢ Unread →
    Walks comes (known form limit taken) judged stop → Walks comes (input_of form limit all) judged stop
walk_whole comes form limit all left taken judged stop t other w =
    record {
      fits = w.fits;
      stops = by_stop comes (known form limit taken) (input_of form limit all) judged stop other (agree form limit all left taken.given taken.close t) w.stops;
    }
