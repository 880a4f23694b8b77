-- How the events that a reader gives are the log's.
use Rattle.std.proofs.Common.{◌≡◌, ℕ, ◌+◌, ◌≤◌, ◌⊎◌, inl, inr, List, [], ◌∷◌, ◌++◌, length, length-append, drop, refl, sym, ap, ◌∙◌, subst, append_assoc, append-nil, arith, Bool, true, false}
use Rattle.std.specs.Prelude.{Option, Some, None, Result, Ok, Err}
use Rattle.qtl_syntax.specs.Tree.{Text}
use Rattle.qtl_truth.specs.Truth.{time_at}
use Rattle.qtl_truth.specs.declared.event.Event.{Event}
use Rattle.log_reader.specs.Records.{Cut, End, Rest, At, cut}
use Rattle.log_reader.specs.Faults.{Fault}
use Rattle.log_reader.specs.Growth.{GoesOnBehind}
use Rattle.log_reader.specs.Standing.{Reading, Stands, IsNext, answer, answer_at, left, numbered, with_rest, fresh_reading, given_next}
use Rattle.log_reader.specs.declared.fault.LogFault.{LogFault}
use Rattle.log_reader.specs.declared.fault.LogFault.TheVariants.{NoMemory}
use Rattle.log_reader.proofs.GrowthLemmas.{grows, take_bytes}
use Rattle.monitor_run.specs.Reading.{Fed, IsFed, IsFedWithin, AreAll}
use Rattle.monitor_run.proofs.Judged.Judges.{time_last, time_before}

drop_front : {A : Type 0} (xs ys : List A) → drop (length xs) (xs ++ ys) ≡ ys
drop_front [] ys = refl
drop_front (x ∷ xs) ys = drop_front xs ys

-- what comes next of the records behind these events
next_is : (timed : Bool) (bytes : Text) (ended : Bool) (log : List Event) (r : Reading) (f : Fed timed bytes ended log r) →
    answer (left r.given (cut bytes r.timed r.ended)) ≡ answer_at f.later (cut bytes timed ended).end
next_is timed bytes ended log r f =
    rw (f.times, f.closed, f.count, f.first, drop_front log f.later) refl

abbrev Answers : Bool → Text → Bool → List Event → Reading → Result (Option Event) LogFault → Type 0
Answers timed bytes ended later r result = (result ≡ Err NoMemory) ⊎ (result ≡ answer_at later (cut bytes timed ended).end)

answers : (timed : Bool) (bytes : Text) (ended : Bool) (log : List Event) (r : Reading) (f : Fed timed bytes ended log r) (result : Result (Option Event) LogFault) → IsNext bytes r result → Answers timed bytes ended f.later r result
answers timed bytes ended log r f result (inl none) = inl none
answers timed bytes ended log r f result (inr is) = inr (is ∙ next_is timed bytes ended log r f)

-- an event is the first one of those to come
first_later : (end : End) (later : List Event) (e : Event) → Ok (Some e) ≡ answer_at later end → (more : List Event) × (later ≡ e ∷ more)
first_later Rest [] e is = let no : Ok (Some e) ≡ Ok None = is in absurd (let n : ⊥ = cc in n)
first_later (At number why) [] e is = let no : Ok (Some e) ≡ Err (numbered number why) = is in absurd (let n : ⊥ = cc in n)
first_later end (x ∷ later) e is = let same : Ok (Some e) ≡ Ok (Some x) = is in let one : e ≡ x = cc in (later, ap (λ y. y ∷ later) (sym one))

found : (timed : Bool) (bytes : Text) (ended : Bool) (log : List Event) (r : Reading) (f : Fed timed bytes ended log r) (e : Event) → Answers timed bytes ended f.later r (Ok (Some e)) →
    (more : List Event) × ((cut bytes timed ended).events ≡ (log ++ e ∷ []) ++ more)
found timed bytes ended log r f e (inl gone) = let n : ⊥ = cc in absurd n
found timed bytes ended log r f e (inr is) =
    let l = first_later (cut bytes timed ended).end f.later e is in
    (l.0, f.first ∙ ap (λ (x : List Event). log ++ x) l.1 ∙ sym (append_assoc log (e ∷ []) l.0))

-- one event more was given
pub fed_event : (timed : Bool) (bytes : Text) (ended : Bool) (log : List Event) (r t : Reading) (o : Option Event) (e : Event) → o ≡ Some e → Fed timed bytes ended log r → IsNext bytes r (Ok o) → Stands bytes t →
    t.timed ≡ r.timed → t.ended ≡ r.ended → t.given ≡ given_next r.given (Ok o) → Fed timed bytes ended (log ++ e ∷ []) t
fed_event timed bytes ended log r t o e is f next stands same closed gives =
    let more = found timed bytes ended log r f e (answers timed bytes ended log r f (Ok (Some e)) (subst (λ (x : Option Event). IsNext bytes r (Ok x)) is next)) in
    let given : t.given ≡ r.given + 1 = gives ∙ ap (λ (x : Option Event). given_next r.given (Ok x)) is in
    record {
      stands = stands;
      times = same ∙ f.times;
      closed = closed ∙ f.closed;
      count = let n = length-append log (e ∷ []) in omega (arith, n, given, f.count);
      later = more.0;
      first = more.1;
    }

-- no event more was given
pub fed_still : (timed : Bool) (bytes : Text) (ended : Bool) (log : List Event) (r t : Reading) (o : Option Event) → o ≡ None → Fed timed bytes ended log r → Stands bytes t → t.timed ≡ r.timed → t.ended ≡ r.ended →
    t.given ≡ given_next r.given (Ok o) → Fed timed bytes ended log t
fed_still timed bytes ended log r t o is f stands same closed gives =
    let given : t.given ≡ r.given = gives ∙ ap (λ (x : Option Event). given_next r.given (Ok x)) is in
    record { stands = stands; times = same ∙ f.times; closed = closed ∙ f.closed; count = given ∙ f.count; later = f.later; first = f.first }

none_later : (end : End) (later : List Event) → Ok None ≡ answer_at later end → (later ≡ []) × (end ≡ Rest)
none_later Rest [] is = (refl, refl)
none_later (At number why) [] is = let n : ⊥ = cc in absurd n
none_later end (x ∷ later) is = let n : ⊥ = cc in absurd n

cut_is : (c : Cut) (events : List Event) (end : End) → c.events ≡ events → c.end ≡ end → c ≡ record { events = events; end = end }
cut_is c events end a b = rw (← a, ← b) refl

all_given : (timed : Bool) (bytes : Text) (ended : Bool) (log : List Event) (r : Reading) (f : Fed timed bytes ended log r) → Answers timed bytes ended f.later r (Ok None) → AreAll timed bytes ended log
all_given timed bytes ended log r f (inl gone) = let n : ⊥ = cc in absurd n
all_given timed bytes ended log r f (inr is) =
    let l = none_later (cut bytes timed ended).end f.later is in
    cut_is (cut bytes timed ended) log Rest (f.first ∙ ap (λ (x : List Event). log ++ x) l.0 ∙ append-nil log) l.1

-- there is no further event
pub fed_all : (timed : Bool) (bytes : Text) (ended : Bool) (log : List Event) (r : Reading) (o : Option Event) → o ≡ None → Fed timed bytes ended log r → IsNext bytes r (Ok o) → AreAll timed bytes ended log
fed_all timed bytes ended log r o is f next = all_given timed bytes ended log r f (answers timed bytes ended log r f (Ok None) (subst (λ (x : Option Event). IsNext bytes r (Ok x)) is next))

-- the records end with this fault
abbrev IsFaultAt : End → LogFault → Type 0
IsFaultAt Rest fault = ⊥
IsFaultAt (At number why) fault = fault ≡ numbered number why

-- the records of the bytes are these events, and then this fault
pub record IsFaulty (timed : Bool) (bytes : Text) (ended : Bool) (log : List Event) (fault : LogFault) : Type 0 where
  pub number : ℕ
  pub why : Fault
  pub named : fault ≡ numbered number why
  pub records : cut bytes timed ended ≡ record { events = log; end = At number why }

fault_later : (end : End) (later : List Event) (fault : LogFault) → Err fault ≡ answer_at later end → (later ≡ []) × IsFaultAt end fault
fault_later Rest [] fault is = let n : ⊥ = cc in absurd n
fault_later (At number why) [] fault is = let e : Err fault ≡ Err (numbered number why) = is in let same : fault ≡ numbered number why = cc in (refl, same)
fault_later end (x ∷ later) fault is = let n : ⊥ = cc in absurd n

faulty_at : (timed : Bool) (bytes : Text) (ended : Bool) (log : List Event) (c : Cut) (fault : LogFault) → cut bytes timed ended ≡ c → c.events ≡ log → (end : End) → c.end ≡ end → IsFaultAt end fault → IsFaulty timed bytes ended log fault
faulty_at timed bytes ended log c fault is events Rest end at = absurd at
faulty_at timed bytes ended log c fault is events (At number why) end at = record { number = number; why = why; named = at; records = is ∙ cut_is c log (At number why) events end }

-- there is no memory, or this fault is next
pub fed_fault : (timed : Bool) (bytes : Text) (ended : Bool) (log : List Event) (r : Reading) (fault : LogFault) → Fed timed bytes ended log r → IsNext bytes r (Err fault) → (fault ≡ NoMemory) ⊎ IsFaulty timed bytes ended log fault
fed_fault timed bytes ended log r fault f next = go (answers timed bytes ended log r f (Err fault) next) where
  go : Answers timed bytes ended f.later r (Err fault) → (fault ≡ NoMemory) ⊎ IsFaulty timed bytes ended log fault
  go (inl none) = let same : fault ≡ NoMemory = let e : Err fault ≡ Err NoMemory = none in cc in inl same
  go (inr is) =
      let l = fault_later (cut bytes timed ended).end f.later fault is in
      inr (faulty_at timed bytes ended log (cut bytes timed ended) fault refl (f.first ∙ ap (λ (x : List Event). log ++ x) l.0 ∙ append-nil log) (cut bytes timed ended).end refl l.1)

-- the events of a front of the log are the log's first ones
goes_events : (end : End) (front whole : Cut) → GoesOnBehind end front whole → (later : List Event) × (whole.events ≡ front.events ++ later)
goes_events Rest front whole g = g
goes_events (At number why) front whole g = ([], ap (λ (c : Cut). c.events) g ∙ sym (append-nil front.events))

pub front_stays : (timed : Bool) (bytes more : Text) (ended : Bool) (log later : List Event) → (cut bytes timed false).events ≡ log ++ later →
    (rest : List Event) × ((cut (bytes ++ more) timed ended).events ≡ log ++ rest)
front_stays timed bytes more ended log later first =
    let g = goes_events (cut bytes timed false).end (cut bytes timed false) (cut (bytes ++ more) timed ended) (grows bytes more timed ended) in
    (later ++ g.0, g.1 ∙ ap (λ (x : List Event). x ++ g.0) first ∙ append_assoc log later g.0)

-- a piece more is fed
pub fed_piece : (timed : Bool) (bytes piece : Text) (log : List Event) (r t : Reading) → Fed timed bytes false log r → t ≡ with_rest r (r.rest ++ piece) → Stands (bytes ++ piece) t → Fed timed (bytes ++ piece) false log t
fed_piece timed bytes piece log r t f is stands =
    let s = front_stays timed bytes piece false log f.later f.first in
    record {
      stands = stands;
      times = ap (λ (x : Reading). x.timed) is ∙ f.times;
      closed = ap (λ (x : Reading). x.ended) is ∙ f.closed;
      count = ap (λ (x : Reading). x.given) is ∙ f.count;
      later = s.0;
      first = s.1;
    }

-- the log ends
pub fed_end : (timed : Bool) (bytes : Text) (log : List Event) (r t : Reading) → Fed timed bytes false log r → Stands bytes t → t.timed ≡ r.timed → t.ended ≡ true → t.given ≡ r.given → Fed timed bytes true log t
fed_end timed bytes log r t f stands same closed given =
    let s = front_stays timed bytes [] true log f.later f.first in
    record {
      stands = stands;
      times = same ∙ f.times;
      closed = closed;
      count = given ∙ f.count;
      later = s.0;
      first = subst (λ (b : Text). (cut b timed true).events ≡ log ++ s.0) (append-nil bytes) s.1;
    }

-- no more events were given than bytes were fed
pub few_given : (timed : Bool) (bytes : Text) (ended : Bool) (log : List Event) (r : Reading) → Fed timed bytes ended log r → r.given ≤ length bytes
few_given timed bytes ended log r f =
    let n = take_bytes bytes timed ended in
    let m = ap length f.first in
    let k = length-append log f.later in
    omega (arith, n, m, k, f.count)

pub few_fed : (most : ℕ) (r : Reading) (last : ℕ) → IsFedWithin most r last → r.given ≤ most
few_fed most r last w = let f = w.fed in let n = few_given f.timed f.bytes f.ended f.log r f.fed in omega (arith, n, f.size, w.few)

-- the same for bytes that are not named
pub is_fed_event : (count : ℕ) (r t : Reading) (last : ℕ) (o : Option Event) (e : Event) → o ≡ Some e → ((bytes : Text) → Stands bytes r → IsNext bytes r (Ok o)) → ((bytes : Text) → Stands bytes r → Stands bytes t) →
    t.timed ≡ r.timed → t.ended ≡ r.ended → t.given ≡ given_next r.given (Ok o) → IsFed count r last → IsFed count t e.time
is_fed_event count r t last o e is next stands same closed given f =
    record {
      timed = f.timed;
      bytes = f.bytes;
      ended = f.ended;
      log = f.log ++ e ∷ [];
      fed = fed_event f.timed f.bytes f.ended f.log r t o e is f.fed (next f.bytes f.fed.stands) (stands f.bytes f.fed.stands) same closed given;
      size = f.size;
      time = ap (time_at (f.log ++ e ∷ [])) (length-append f.log (e ∷ [])) ∙ time_last f.log e;
    }

pub is_fed_still : (count : ℕ) (r t : Reading) (last : ℕ) (o : Option Event) → o ≡ None → ((bytes : Text) → Stands bytes r → Stands bytes t) → t.timed ≡ r.timed → t.ended ≡ r.ended →
    t.given ≡ given_next r.given (Ok o) → IsFed count r last → IsFed count t last
is_fed_still count r t last o is stands same closed given f =
    record {
      timed = f.timed;
      bytes = f.bytes;
      ended = f.ended;
      log = f.log;
      fed = fed_still f.timed f.bytes f.ended f.log r t o is f.fed (stands f.bytes f.fed.stands) same closed given;
      size = f.size;
      time = f.time;
    }

pub is_fed_within : (most : ℕ) (r t : Reading) (last now : ℕ) → ((count : ℕ) → IsFed count r last → IsFed count t now) → IsFedWithin most r last → IsFedWithin most t now
is_fed_within most r t last now f w = record { count = w.count; fed = f w.count w.fed; few = w.few }

pub given_more : (o : Option Event) (e : Event) (given now : ℕ) → o ≡ Some e → now ≡ given_next given (Ok o) → now ≡ given + 1
given_more o e given now is gives = gives ∙ ap (λ (x : Option Event). given_next given (Ok x)) is

pub given_still : (o : Option Event) (given now : ℕ) → o ≡ None → now ≡ given_next given (Ok o) → now ≡ given
given_still o given now is gives = gives ∙ ap (λ (x : Option Event). given_next given (Ok x)) is

-- a piece more is fed
pub is_fed_piece : (count : ℕ) (piece : Text) (r t : Reading) (last : ℕ) → r.ended ≡ false → t ≡ with_rest r (r.rest ++ piece) → ((bytes : Text) → Stands bytes r → Stands (bytes ++ piece) t) →
    IsFed count r last → IsFed (count + length piece) t last
is_fed_piece count piece r t last on is stands f =
    let fed : Fed f.timed f.bytes false f.log r = subst (λ (b : Bool). Fed f.timed f.bytes b f.log r) (sym f.fed.closed ∙ on) f.fed in
    record {
      timed = f.timed;
      bytes = f.bytes ++ piece;
      ended = false;
      log = f.log;
      fed = fed_piece f.timed f.bytes piece f.log r t fed is (stands f.bytes f.fed.stands);
      size = let n = length-append f.bytes piece in omega (arith, n, f.size);
      time = f.time;
    }

-- the log ends
pub is_fed_end : (count : ℕ) (r t : Reading) (last : ℕ) → r.ended ≡ false → t.timed ≡ r.timed → t.ended ≡ true → t.given ≡ r.given → ((bytes : Text) → Stands bytes r → Stands bytes t) → IsFed count r last → IsFed count t last
is_fed_end count r t last on same closed given stands f =
    let fed : Fed f.timed f.bytes false f.log r = subst (λ (b : Bool). Fed f.timed f.bytes b f.log r) (sym f.fed.closed ∙ on) f.fed in
    record {
      timed = f.timed;
      bytes = f.bytes;
      ended = true;
      log = f.log;
      fed = fed_end f.timed f.bytes f.log r t fed (stands f.bytes f.fed.stands) same closed given;
      size = f.size;
      time = f.time;
    }

-- nothing was fed yet
pub fed_start : (timed : Bool) (r : Reading) → r ≡ fresh_reading timed → Stands [] r → Fed timed [] false [] r
fed_start timed r fresh stands =
    record {
      stands = stands;
      times = ap (λ (x : Reading). x.timed) fresh;
      closed = ap (λ (x : Reading). x.ended) fresh;
      count = ap (λ (x : Reading). x.given) fresh;
      later = [];
      first = refl;
    }

pub is_fed_start : (timed : Bool) (r : Reading) (last : ℕ) → r ≡ fresh_reading timed → Stands [] r → last ≡ 0 → IsFed 0 r last
is_fed_start timed r last fresh stands none =
    record { timed = timed; bytes = []; ended = false; log = []; fed = fed_start timed r fresh stands; size = refl; time = sym none }

-- Times

-- the times of a log's events do not fall
abbrev pub TimesNeverFall : Type 0
TimesNeverFall =
    (bytes : Text) (timed ended : Bool) (i j : ℕ) → 1 ≤ j → j ≤ i → i ≤ length (cut bytes timed ended).events →
    time_at (cut bytes timed ended).events j ≤ time_at (cut bytes timed ended).events i

-- the last one of the events that a reader gave is at the time of the one before it, or later
pub fed_time : TimesNeverFall → (timed : Bool) (bytes : Text) (ended : Bool) (log : List Event) (e : Event) (r : Reading) →
    Fed timed bytes ended (log ++ e ∷ []) r → time_at log (length log) ≤ e.time
fed_time law timed bytes ended [] e r f = let none : time_at [] 0 ≡ 0 = refl in omega (arith, none)
fed_time law timed bytes ended (x ∷ front) e r f =
    let log : List Event = x ∷ front in
    let events = (cut bytes timed ended).events in
    let count : length events ≡ length log + 1 + length f.later =
    let n = ap length f.first in let m = length-append (log ++ e ∷ []) f.later in let k = length-append log (e ∷ []) in omega (arith, n, m, k) in
    let falls = law bytes timed ended (length log + 1) (length log) (omega arith) (omega arith) (omega (arith, count)) in
    let here : time_at events (length log + 1) ≡ e.time =
    ap (λ (l : List Event). time_at l (length log + 1)) f.first
    ∙ time_before (log ++ e ∷ []) f.later (length log + 1) (omega arith) (let k = length-append log (e ∷ []) in omega (arith, k)) ∙ time_last log e in
    let before : time_at events (length log) ≡ time_at log (length log) =
    ap (λ (l : List Event). time_at l (length log)) f.first
    ∙ time_before (log ++ e ∷ []) f.later (length log) (omega arith) (let k = length-append log (e ∷ []) in omega (arith, k)) ∙ time_before log (e ∷ []) (length log) (omega arith) (omega arith) in
    omega (arith, falls, here, before)
