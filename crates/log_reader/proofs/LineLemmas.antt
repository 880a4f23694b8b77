-- How a line goes on by one byte: its fields, its first fault, and the lines behind it.
use Rattle.std.proofs.Common.{◌≡◌, ℕ, ◌+◌, List, [], ◌∷◌, ◌++◌, refl, sym, ap, ◌∙◌, subst, arith, Bool, true, false, append_assoc, append-nil}
use Rattle.std.specs.Prelude.{Option, Some, None, ◌&&◌, not, ◌==◌, if◌then◌else◌}
use Rattle.std.proofs.lemmas.Bool.Decides.{nat_tests}
use Rattle.qtl_syntax.specs.Tree.{Text}
use Rattle.log_reader.specs.Fields.{is_blank, drop_blanks, form_of, is_open}
use Rattle.log_reader.specs.Lines.{ends_field, finished_from, begun_from, finished, begun, ends_line, with_line, lines_from}
use Rattle.log_reader.specs.Faults.{Fault, is_empty, fault_at, or_else, first_fault_from, first_fault}
use Rattle.log_reader.specs.Records.{judged_fields, or_judged, At, no_events, cut_behind, cut_in, is_blank_line}

-- a byte that ends the field begun
pub finished_ends : (field line : Text) (b : ℕ) → ends_field (begun_from field line) b ≡ true → finished_from field (line ++ b ∷ []) ≡ finished_from field line ++ begun_from field line ∷ []
finished_ends field [] b e = rw e refl
finished_ends field (a ∷ line) b e = by_test (ends_field field a) (finished_ends [] line b) (finished_ends (field ++ a ∷ []) line b) e
  where
    by_test : (x : Bool) →
        (ends_field (begun_from [] line) b ≡ true → finished_from [] (line ++ b ∷ []) ≡ finished_from [] line ++ begun_from [] line ∷ []) →
        (ends_field (begun_from (field ++ a ∷ []) line) b ≡ true → finished_from (field ++ a ∷ []) (line ++ b ∷ []) ≡ finished_from (field ++ a ∷ []) line ++ begun_from (field ++ a ∷ []) line ∷ []) →
        ends_field (if x then begun_from [] line else begun_from (field ++ a ∷ []) line) b ≡ true →
        (if x then field ∷ finished_from [] (line ++ b ∷ []) else finished_from (field ++ a ∷ []) (line ++ b ∷ [])) ≡
        (if x then field ∷ finished_from [] line else finished_from (field ++ a ∷ []) line) ++ (if x then begun_from [] line else begun_from (field ++ a ∷ []) line) ∷ []
    by_test true h k f = ap (λ l. field ∷ l) (h f)
    by_test false h k f = k f

pub begun_ends : (field line : Text) (b : ℕ) → ends_field (begun_from field line) b ≡ true → begun_from field (line ++ b ∷ []) ≡ []
begun_ends field [] b e = rw e refl
begun_ends field (a ∷ line) b e = by_test (ends_field field a) (begun_ends [] line b) (begun_ends (field ++ a ∷ []) line b) e
  where
    by_test : (x : Bool) →
        (ends_field (begun_from [] line) b ≡ true → begun_from [] (line ++ b ∷ []) ≡ []) →
        (ends_field (begun_from (field ++ a ∷ []) line) b ≡ true → begun_from (field ++ a ∷ []) (line ++ b ∷ []) ≡ []) →
        ends_field (if x then begun_from [] line else begun_from (field ++ a ∷ []) line) b ≡ true →
        (if x then begun_from [] (line ++ b ∷ []) else begun_from (field ++ a ∷ []) (line ++ b ∷ [])) ≡ []
    by_test true h k f = h f
    by_test false h k f = k f

-- and one that doesn't
pub finished_same : (field line : Text) (b : ℕ) → ends_field (begun_from field line) b ≡ false → finished_from field (line ++ b ∷ []) ≡ finished_from field line
finished_same field [] b e = rw e refl
finished_same field (a ∷ line) b e = by_test (ends_field field a) (finished_same [] line b) (finished_same (field ++ a ∷ []) line b) e
  where
    by_test : (x : Bool) →
        (ends_field (begun_from [] line) b ≡ false → finished_from [] (line ++ b ∷ []) ≡ finished_from [] line) →
        (ends_field (begun_from (field ++ a ∷ []) line) b ≡ false → finished_from (field ++ a ∷ []) (line ++ b ∷ []) ≡ finished_from (field ++ a ∷ []) line) →
        ends_field (if x then begun_from [] line else begun_from (field ++ a ∷ []) line) b ≡ false →
        (if x then field ∷ finished_from [] (line ++ b ∷ []) else finished_from (field ++ a ∷ []) (line ++ b ∷ [])) ≡
        (if x then field ∷ finished_from [] line else finished_from (field ++ a ∷ []) line)
    by_test true h k f = ap (λ l. field ∷ l) (h f)
    by_test false h k f = k f

pub begun_more : (field line : Text) (b : ℕ) → ends_field (begun_from field line) b ≡ false → begun_from field (line ++ b ∷ []) ≡ begun_from field line ++ b ∷ []
begun_more field [] b e = rw e refl
begun_more field (a ∷ line) b e = by_test (ends_field field a) (begun_more [] line b) (begun_more (field ++ a ∷ []) line b) e
  where
    by_test : (x : Bool) →
        (ends_field (begun_from [] line) b ≡ false → begun_from [] (line ++ b ∷ []) ≡ begun_from [] line ++ b ∷ []) →
        (ends_field (begun_from (field ++ a ∷ []) line) b ≡ false → begun_from (field ++ a ∷ []) (line ++ b ∷ []) ≡ begun_from (field ++ a ∷ []) line ++ b ∷ []) →
        ends_field (if x then begun_from [] line else begun_from (field ++ a ∷ []) line) b ≡ false →
        (if x then begun_from [] (line ++ b ∷ []) else begun_from (field ++ a ∷ []) (line ++ b ∷ [])) ≡
        (if x then begun_from [] line else begun_from (field ++ a ∷ []) line) ++ b ∷ []
    by_test true h k f = h f
    by_test false h k f = k f

-- the first fault of a line, after one byte more
fault_more_from : (front line : Text) (b : ℕ) → first_fault_from front line ≡ None → first_fault_from front (line ++ b ∷ []) ≡ fault_at (front ++ line) b
fault_more_from front [] b e = by_fault (fault_at front b) ∙ ap (λ l. fault_at l b) (sym (append_nil front))
  where
    append_nil : (l : Text) → l ++ [] ≡ l
    append_nil l = simp append-nil

    by_fault : (o : Option Fault) → or_else o None ≡ o
    by_fault None = refl
    by_fault (Some fault) = refl
fault_more_from front (a ∷ line) b e = by_fault (fault_at front a) (fault_more_from (front ++ a ∷ []) line b) e ∙ ap (λ l. fault_at l b) (append_assoc front (a ∷ []) line)
  where
    by_fault : (o : Option Fault) →
        (first_fault_from (front ++ a ∷ []) line ≡ None → first_fault_from (front ++ a ∷ []) (line ++ b ∷ []) ≡ fault_at ((front ++ a ∷ []) ++ line) b) →
        or_else o (first_fault_from (front ++ a ∷ []) line) ≡ None →
        or_else o (first_fault_from (front ++ a ∷ []) (line ++ b ∷ [])) ≡ fault_at ((front ++ a ∷ []) ++ line) b
    by_fault None h f = h f
    by_fault (Some fault) h f = let no : Some fault ≡ None = f in absurd (let never : ⊥ = cc in never)

pub fault_more : (line : Text) (b : ℕ) → first_fault line ≡ None → first_fault (line ++ b ∷ []) ≡ fault_at line b
fault_more line b e = fault_more_from [] line b e

-- a fault stays the first one
fault_stays_from : (front line : Text) (b : ℕ) (fault : Fault) → first_fault_from front line ≡ Some fault → first_fault_from front (line ++ b ∷ []) ≡ Some fault
fault_stays_from front [] b fault e = let no : None ≡ Some fault = e in absurd (let never : ⊥ = cc in never)
fault_stays_from front (a ∷ line) b fault e = by_fault (fault_at front a) (fault_stays_from (front ++ a ∷ []) line b fault) e
  where
    by_fault : (o : Option Fault) →
        (first_fault_from (front ++ a ∷ []) line ≡ Some fault → first_fault_from (front ++ a ∷ []) (line ++ b ∷ []) ≡ Some fault) →
        or_else o (first_fault_from (front ++ a ∷ []) line) ≡ Some fault →
        or_else o (first_fault_from (front ++ a ∷ []) (line ++ b ∷ [])) ≡ Some fault
    by_fault None h f = h f
    by_fault (Some other) h f = f

pub fault_ends : (timed ended : Bool) (number before : ℕ) (line rest : Text) (fault : Fault) → first_fault line ≡ Some fault → cut_in timed ended number before (lines_from line rest) ≡ no_events (At number fault)
fault_ends timed ended number before line [] fault e = rw e refl
fault_ends timed ended number before line (b ∷ rest) fault e =
    by_test (ends_line line b) (fault_ends timed ended number before (line ++ b ∷ []) rest fault (fault_stays_from [] line b fault e))
  where
    by_test : (x : Bool) → cut_in timed ended number before (lines_from (line ++ b ∷ []) rest) ≡ no_events (At number fault) →
        cut_in timed ended number before (if x then with_line line (lines_from [] rest) else lines_from (line ++ b ∷ []) rest) ≡ no_events (At number fault)
    by_test true h = ap (λ o. cut_behind number (or_judged o (judged_fields timed before line)) (cut_in timed ended number before (lines_from [] rest)) (λ v. cut_in timed ended (number + 1) v.time (lines_from [] rest))) e
    by_test false h = h

-- a line of blanks has no finished field, and blanks alone in the field begun
some_left : (field rest : Text) → is_empty (drop_blanks (field ++ 44 ∷ rest)) ≡ false
some_left [] rest = refl
some_left (a ∷ field) rest = by_test (is_blank a) (some_left field rest)
  where
    by_test : (x : Bool) → is_empty (drop_blanks (field ++ 44 ∷ rest)) ≡ false → is_empty (if x then drop_blanks (field ++ 44 ∷ rest) else a ∷ (field ++ 44 ∷ rest)) ≡ false
    by_test true h = h
    by_test false h = refl

ends_comma : (field : Text) (a : ℕ) → ends_field field a ≡ true → a ≡ 44
ends_comma field a e = by_test (a == 44) refl e
  where
    by_test : (x : Bool) → (a == 44) ≡ x → (x && not (is_open (form_of field))) ≡ true → a ≡ 44
    by_test true f g = grind (arith, nat_tests)
    by_test false f g = let no : false ≡ true = g in absurd (let never : ⊥ = cc in never)

abbrev pub has_none : List Text → Bool
has_none [] = true
has_none (t ∷ ts) = false

blank_from : (field line : Text) → is_empty (drop_blanks (field ++ line)) ≡ (has_none (finished_from field line) && is_empty (drop_blanks (begun_from field line)))
blank_from field [] = ap (λ l. is_empty (drop_blanks l)) (append-nil field)
blank_from field (a ∷ line) = by_test (ends_field field a) refl (blank_from (field ++ a ∷ []) line)
  where
    by_test : (x : Bool) → ends_field field a ≡ x →
        is_empty (drop_blanks ((field ++ a ∷ []) ++ line)) ≡ (has_none (finished_from (field ++ a ∷ []) line) && is_empty (drop_blanks (begun_from (field ++ a ∷ []) line))) →
        is_empty (drop_blanks (field ++ a ∷ line)) ≡
        (has_none (if x then field ∷ finished_from [] line else finished_from (field ++ a ∷ []) line) && is_empty (drop_blanks (if x then begun_from [] line else begun_from (field ++ a ∷ []) line)))
    by_test true e h = subst (λ n. is_empty (drop_blanks (field ++ n ∷ line)) ≡ false) (sym (ends_comma field a e)) (some_left field line)
    by_test false e h = ap (λ l. is_empty (drop_blanks l)) (sym (append_assoc field (a ∷ []) line)) ∙ h

pub blank_line : (line : Text) → is_blank_line line ≡ (has_none (finished line) && is_empty (drop_blanks (begun line)))
blank_line line = blank_from [] line
