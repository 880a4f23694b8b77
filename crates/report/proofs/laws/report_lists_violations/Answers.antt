use Rattle.std.proofs.Common.{◌≡◌, ℕ, ◌+◌, List, [], ◌∷◌, false, ◌++◌, refl, sym, ap, ◌∙◌, append-nil}
use Rattle.std.specs.List.{flat_map}
use Rattle.std.proofs.lemmas.Grind.{flat_map-append}
use Rattle.qtl_syntax.specs.Tree.{Text}
use Rattle.report.specs.Lines.{Told, event_lines, event_violations, report_lines, told_of, verdict_text, violation_line, violations}
use Rattle.report.specs.Verdicts.{Verdict, True, False}
use Rattle.report.proofs.laws.report_lists_violations.Goals as goal

abbrev lines_in : List Told → Text
lines_in told = flat_map (λ t. t.line) told

verdict_lines : (event property : ℕ) (name : Text) (v : Verdict) → verdict_text false event name v ≡ lines_in (told_of event property name v)
verdict_lines event property name True = refl
verdict_lines event property name (False witness) = sym (append-nil (violation_line event name witness))

both : (a b : Text) (xs ys : List Told) → a ≡ lines_in xs → b ≡ lines_in ys → a ++ b ≡ lines_in (xs ++ ys)
both a b xs ys p q = ap (λ (l : Text). l ++ b) p ∙ ap (λ (l : Text). lines_in xs ++ l) q ∙ sym (flat_map-append (λ (t : Told). t.line) xs ys)

row_lines : (event property : ℕ) (names : List Text) (row : List Verdict) → event_lines false event names row ≡ lines_in (event_violations event property names row)
row_lines event property [] row = refl
row_lines event property (name ∷ names) [] = refl
row_lines event property (name ∷ names) (v ∷ row) =
    both (verdict_text false event name v) (event_lines false event names row) (told_of event property name v) (event_violations event (property + 1) names row)
    (verdict_lines event property name v) (row_lines event (property + 1) names row)

all_lines : (event : ℕ) (names : List Text) (rows : List (List Verdict)) → report_lines false event names rows ≡ lines_in (violations event names rows)
all_lines event names [] = refl
all_lines event names (row ∷ rows) =
    both (event_lines false event names row) (report_lines false (event + 1) names rows) (event_violations event 0 names row) (violations (event + 1) names rows)
    (row_lines event 0 names row) (all_lines (event + 1) names rows)

pub returns : goal.returns
returns c = all_lines
