-- A reading behind some bytes of the field.
use Rattle.std.proofs.Common.{◌≡◌, ℕ, ◌+◌, ◌<◌, ◌≤◌, get_or, [], ◌∷◌, ◌++◌, length, refl, sym, ap, ◌∙◌, subst, arith, Bool, true, false, append_assoc, append-nil}
use Rattle.std.specs.Prelude.{Option, Some, None, if◌then◌else◌}
use Rattle.qtl_syntax.specs.Tree.{Text}
use Rattle.log_reader.specs.Places.{place_of, next_place, is_in_field, place_on, then_on, run_on}
use Rattle.log_reader.specs.State.{span}
use Rattle.log_reader.specs.Standing.{Reading, Goes}
use Rattle.log_reader.specs.declared.place.Place.{Place}
use Rattle.log_reader.proofs.PlaceLemmas.{place_more}
use Rattle.log_reader.proofs.Spans.{span_more}
use Rattle.log_reader.proofs.StandLemmas.{goes_in_field}

-- behind one byte more
pub run_more : (bytes : Text) (b : ℕ) (o : Option Place) → run_on o (bytes ++ b ∷ []) ≡ then_on (run_on o bytes) b
run_more [] b o = refl
run_more (a ∷ bytes) b o = run_more bytes b (then_on o a)

run_none : (bytes : Text) (p : Place) → run_on None bytes ≡ Some p → ⊥
run_none [] p e = let h : None ≡ Some p = e in cc
run_none (a ∷ bytes) p e = run_none bytes p e

pub goes_run : (bytes run : Text) (r : Reading) (length1 : ℕ) (field1 : Text) (place1 : Place) (rest1 : Text) →
    Goes bytes r → r.is_begun ≡ true → r.rest ≡ run ++ rest1 → run_on (Some r.place) run ≡ Some place1 → length1 ≡ r.length + length run → field1 ≡ r.field ++ run → length1 ≤ 65536 →
    Goes bytes (record r { length = length1; field = field1; place = place1; rest = rest1 })
goes_run bytes [] r length1 field1 place1 rest1 g started rests runs long longer short =
    let l : r.length ≡ length1 = omega arith in
    let f : r.field ≡ field1 = sym (longer ∙ append-nil r.field) in
    let s : Some r.place ≡ Some place1 = runs in
    let p : r.place ≡ place1 = cc in
    subst (Goes bytes) (λ i. record r { length = l i; field = f i; place = p i; rest = rests i }) g
goes_run bytes (b ∷ run) r length1 field1 place1 rest1 g started rests runs long longer short =
    by_test (is_in_field r.place b) refl runs
    (λ inside later. goes_run bytes run (record r { length = r.length + 1; field = r.field ++ b ∷ []; place = next_place r.place b; rest = run ++ rest1 }) length1 field1 place1 rest1
    (goes_in_field bytes r g b (run ++ rest1) (started, rests) inside (omega arith)) started refl later (omega arith) (longer ∙ sym (append_assoc r.field (b ∷ []) run)) short)
  where
    by_test : (x : Bool) → is_in_field r.place b ≡ x → run_on (if x then Some (next_place r.place b) else None) run ≡ Some place1 →
        (is_in_field r.place b ≡ true → run_on (Some (next_place r.place b)) run ≡ Some place1 → Goes bytes (record r { length = length1; field = field1; place = place1; rest = rest1 })) →
        Goes bytes (record r { length = length1; field = field1; place = place1; rest = rest1 })
    by_test true e runs k = k e runs
    by_test false e runs k = absurd (run_none run place1 runs)

-- the place behind a field that is longer by these bytes
pub place_run : (run field : Text) (place : Place) → run_on (Some (place_of field)) run ≡ Some place → place_of (field ++ run) ≡ place
place_run [] field place e = let s : Some (place_of field) ≡ Some place = e in ap place_of (append-nil field) ∙ (cc)
place_run (b ∷ run) field place e = by_test (is_in_field (place_of field) b) e (λ later. ap place_of (sym (append_assoc field (b ∷ []) run)) ∙ place_run run (field ++ b ∷ []) place (ap (λ p. run_on (Some p) run) (place_more field b) ∙ later))
  where
    by_test : (x : Bool) → run_on (if x then Some (next_place (place_of field) b) else None) run ≡ Some place →
        (run_on (Some (next_place (place_of field) b)) run ≡ Some place → place_of (field ++ b ∷ run) ≡ place) → place_of (field ++ b ∷ run) ≡ place
    by_test true f k = k f
    by_test false f k = absurd (run_none run place f)

-- a scan that is one byte further
pub span_run : (bytes : Text) (from i : ℕ) (first place next : Place) → from ≤ i → i < length bytes → run_on (Some first) (span from i bytes) ≡ Some place → place_on place (get_or bytes i 0) ≡ Some next →
    run_on (Some first) (span from (i + 1) bytes) ≡ Some next
span_run bytes from i first place next h k run on =
    ap (run_on (Some first)) (span_more from i bytes h k)
    ∙ run_more (span from i bytes) (get_or bytes i 0) (Some first)
    ∙ ap (λ o. then_on o (get_or bytes i 0)) run
    ∙ on
