-- The records of a log's first bytes are the first records of the log, and each event takes a byte.
use Rattle.std.proofs.Common.{◌≡◌, ℕ, ◌+◌, ◌≤◌, List, [], ◌∷◌, ◌++◌, length, map, drop, refl, sym, ap, ◌∙◌, arith, Bool, true, false, length-append, length-drop, append-nil}
use Rattle.std.specs.Prelude.{Option, Some, None, Ok, nat_eq, not, if◌then◌else◌}
use Rattle.std.specs.List.{starts_with}
use Rattle.qtl_syntax.specs.Tree.{Text}
use Rattle.qtl_truth.specs.declared.event.Event.{Event}
use Rattle.log_reader.specs.Fields.{text_of}
use Rattle.log_reader.specs.Lines.{fields, in_quotes, ends_line, with_line, lines_from}
use Rattle.log_reader.specs.Faults.{Fault, QuoteOpen, first_fault}
use Rattle.log_reader.specs.Records.{Judged, Nothing, Good, Bad, event_of, is_blank_line, judged_fields, or_judged, judged_line, judged_last, End, Rest, At, Cut, with_event, cut_last, cut_behind, cut_in, cut, mark, without_mark}
use Rattle.log_reader.specs.Growth.{GoesOnBehind, GoesOn}
use Rattle.log_reader.specs.Standing.{answer_at}
use Rattle.log_reader.specs.Marks.{mark_of, mark_length}
use Rattle.log_reader.proofs.LineLemmas.{fault_ends}
use Rattle.log_reader.proofs.MarkLemmas.{Unmarks, unmarks, none_begun, begun_waits}

-- Growth

-- an event before both
grows_behind : (e : Event) (end : End) (front whole : Cut) → GoesOnBehind end front whole → GoesOnBehind end (with_event e front) (with_event e whole)
grows_behind e Rest front whole h = (h.0, ap (λ l. e ∷ l) h.1)
grows_behind e (At number fault) front whole h = ap (with_event e) h

-- the line begun
grows_last : (timed ended : Bool) (number before : ℕ) (line more : Text) (o : Option Fault) → first_fault line ≡ o →
    GoesOn (cut_last number (or_judged o Nothing)) (cut_in timed ended number before (lines_from line more))
grows_last timed ended number before line more None e = ((cut_in timed ended number before (lines_from line more)).events, refl)
grows_last timed ended number before line more (Some fault) e = fault_ends timed ended number before line more fault e

-- the lines from a line begun on
pub grows_from : (timed ended : Bool) (number before : ℕ) (line bytes more : Text) → GoesOn (cut_in timed false number before (lines_from line bytes)) (cut_in timed ended number before (lines_from line (bytes ++ more)))
grows_from timed ended number before line [] more = grows_last timed ended number before line more (first_fault line) refl
grows_from timed ended number before line (b ∷ bytes) more =
    by_end (ends_line line b) (grows_from timed ended number before (line ++ b ∷ []) bytes more) (λ n t. grows_from timed ended n t [] bytes more)
  where
    by_judged : (j : Judged) → ((n t : ℕ) → GoesOn (cut_in timed false n t (lines_from [] bytes)) (cut_in timed ended n t (lines_from [] (bytes ++ more)))) →
        GoesOn (cut_behind number j (cut_in timed false number before (lines_from [] bytes)) (λ e. cut_in timed false (number + 1) e.time (lines_from [] bytes)))
        (cut_behind number j (cut_in timed ended number before (lines_from [] (bytes ++ more))) (λ e. cut_in timed ended (number + 1) e.time (lines_from [] (bytes ++ more))))
    by_judged Nothing h = h number before
    by_judged (Good e) h = grows_behind e (cut_in timed false (number + 1) e.time (lines_from [] bytes)).end (cut_in timed false (number + 1) e.time (lines_from [] bytes)) (cut_in timed ended (number + 1) e.time (lines_from [] (bytes ++ more))) (h (number + 1) e.time)
    by_judged (Bad fault) h = refl

    by_end : (x : Bool) → GoesOn (cut_in timed false number before (lines_from (line ++ b ∷ []) bytes)) (cut_in timed ended number before (lines_from (line ++ b ∷ []) (bytes ++ more))) →
        ((n t : ℕ) → GoesOn (cut_in timed false n t (lines_from [] bytes)) (cut_in timed ended n t (lines_from [] (bytes ++ more)))) →
        GoesOn (cut_in timed false number before (if x then with_line line (lines_from [] bytes) else lines_from (line ++ b ∷ []) bytes))
        (cut_in timed ended number before (if x then with_line line (lines_from [] (bytes ++ more)) else lines_from (line ++ b ∷ []) (bytes ++ more)))
    by_end true same later = by_judged (judged_line timed before line) later
    by_end false same later = same

-- where the next answer is none yet there is nothing
none_yet : (events : List Event) (end : End) (whole : Cut) → answer_at events end ≡ Ok None → GoesOnBehind end (record { events = events; end = end }) whole
none_yet [] Rest whole e = (whole.events, refl)
none_yet [] (At number fault) whole e = absurd (let never : ⊥ = cc in never)
none_yet (v ∷ events) end whole e = absurd (let never : ⊥ = cc in never)

pub grows : (bytes more : Text) (timed ended : Bool) → GoesOn (cut bytes timed false) (cut (bytes ++ more) timed ended)
grows bytes more timed ended = by_mark (mark_length (mark_of bytes) false) refl (unmarks bytes false)
  where
    by_mark : (o : Option ℕ) → mark_length (mark_of bytes) false ≡ o → Unmarks bytes false o → GoesOn (cut bytes timed false) (cut (bytes ++ more) timed ended)
    by_mark None e u =
        none_yet (cut bytes timed false).events (cut bytes timed false).end (cut (bytes ++ more) timed ended) (begun_waits timed 1 0 bytes (none_begun (mark_of bytes) false e).0)
    by_mark (Some n) e u =
        let here : without_mark bytes ≡ drop n bytes = ap without_mark (sym (append-nil bytes)) ∙ u.1 [] true tt ∙ append-nil (drop n bytes) in
        rw (here, u.1 more ended tt) (grows_from timed ended 1 0 [] (drop n bytes) more)

-- Length

some_event : (timed : Bool) (before number : ℕ) (line : Text) (j : Judged) → length (cut_last number (if is_blank_line line then Nothing else j)).events ≤ length line
some_event timed before number [] j = omega arith
some_event timed before number (b ∷ line) j = by_test (is_blank_line (b ∷ line)) j
  where
    by_test : (x : Bool) (j : Judged) → length (cut_last number (if x then Nothing else j)).events ≤ length (b ∷ line)
    by_test true j = omega arith
    by_test false Nothing = omega arith
    by_test false (Good e) = omega arith
    by_test false (Bad fault) = omega arith

last_length : (timed ended : Bool) (number before : ℕ) (line : Text) → length (cut_last number (judged_last timed ended before line)).events ≤ length line
last_length timed ended number before line = by_fault (first_fault line) ended (in_quotes line)
  where
    by_fault : (o : Option Fault) (ended open_quotes : Bool) → length (cut_last number (or_judged o (if not ended then Nothing else (if open_quotes then Bad QuoteOpen else judged_fields timed before line)))).events ≤ length line
    by_fault (Some fault) ended open_quotes = omega arith
    by_fault None false open_quotes = omega arith
    by_fault None true true = omega arith
    by_fault None true false = some_event timed before number line (event_of timed before (map text_of (fields line)))

pub length_from : (timed ended : Bool) (number before : ℕ) (line bytes : Text) → length (cut_in timed ended number before (lines_from line bytes)).events ≤ length line + length bytes
length_from timed ended number before line [] = let h = last_length timed ended number before line in omega arith
length_from timed ended number before line (b ∷ bytes) =
    by_end (ends_line line b) (length_from timed ended number before (line ++ b ∷ []) bytes) (λ n t. length_from timed ended n t [] bytes)
  where
    by_judged : (j : Judged) → ((n t : ℕ) → length (cut_in timed ended n t (lines_from [] bytes)).events ≤ 0 + length bytes) →
        length (cut_behind number j (cut_in timed ended number before (lines_from [] bytes)) (λ e. cut_in timed ended (number + 1) e.time (lines_from [] bytes))).events ≤ length line + length (b ∷ bytes)
    by_judged Nothing h = let k = h number before in omega arith
    by_judged (Good e) h = let k = h (number + 1) e.time in omega arith
    by_judged (Bad fault) h = omega arith

    by_end : (x : Bool) → length (cut_in timed ended number before (lines_from (line ++ b ∷ []) bytes)).events ≤ length (line ++ b ∷ []) + length bytes →
        ((n t : ℕ) → length (cut_in timed ended n t (lines_from [] bytes)).events ≤ 0 + length bytes) →
        length (cut_in timed ended number before (if x then with_line line (lines_from [] bytes) else lines_from (line ++ b ∷ []) bytes)).events ≤ length line + length (b ∷ bytes)
    by_end true same later = by_judged (judged_line timed before line) later
    by_end false same later = let l : length (line ++ b ∷ []) ≡ length line + 1 = length-append line (b ∷ []) in omega arith

unmarked_length : (bytes : Text) → length (without_mark bytes) ≤ length bytes
unmarked_length bytes = by_test (starts_with nat_eq bytes mark)
  where
    by_test : (x : Bool) → length (if x then drop 3 bytes else bytes) ≤ length bytes
    by_test true = omega (arith, length-drop 3 bytes)
    by_test false = omega arith

pub take_bytes : (bytes : Text) (timed ended : Bool) → length (cut bytes timed ended).events ≤ length bytes
take_bytes bytes timed ended = let h = length_from timed ended 1 0 [] (without_mark bytes) in let k = unmarked_length bytes in omega arith
