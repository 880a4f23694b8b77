-- What was written is the text of the stop that was reached, or a front of it: for every stop and every loss at once.
use Rattle.std.proofs.Common.{◌≡◌, [], ◌++◌, sym, ap, ◌∙◌, subst, append_assoc, append-nil}
use Rattle.std.specs.Prelude.{Option, Some, None}
use Rattle.std.specs.Io.KnownBytes.{Appends}
use Rattle.std.proofs.KnownBytes.{Appends-trans}
use Rattle.mon_base.specs.Told.{AppendsFront}
use Rattle.qtl_syntax.specs.Tree.{Text}
use Rattle.report.specs.Passing.{Passes}
use Rattle.run_model.specs.Course.{stop_in}
use Rattle.monitor_run.specs.Finishing.{Finishes}
use Rattle.monitor_run.specs.Reading.{LinesPass}
use Rattle.run_model.specs.Lines.{IsSentOf}
use Rattle.run_model.specs.declared.stop.Loss.TheVariants.{Cut, Starved}
use Rattle.run_model.specs.declared.stop.Stop.{Stop}
use Rattle.run_model.specs.declared.stop.Halt.{Halt}
use Rattle.run_model.specs.declared.stop.Halt.TheVariants as halt
use Rattle.run_model.specs.declared.stop.Course.{Course}
use Rattle.run_model.specs.declared.stop.Course.TheVariants.{Came, Lost}

-- what was written, and that it is the text or a front of it
pub record Sends (course : Course) (old new : Option Text) (text : Text) : Type 0 where
  pub sent : Text
  pub written : Appends old new sent
  pub whole : IsSentOf course sent text

-- the last line of a stop, if there is one
abbrev pub last_at : (Stop → Text) → Option Stop → Text
last_at last None = []
last_at last (Some stop) = last stop

-- bytes that passed the buffer, and more behind them
passed : (sent held lines more : Text) → sent ++ held ≡ lines → sent ++ (held ++ more) ≡ lines ++ more
passed sent held lines more is = sym (append_assoc sent held more) ∙ ap (λ (l : Text). l ++ more) is

-- and then all was written
sent_whole : (stop : Stop) (w0 w1 w2 : Option Text) (held lines more : Text) → Passes w0 w1 [] held lines → Appends w1 w2 (held ++ more) → Sends (Came stop) w0 w2 (lines ++ more)
sent_whole stop w0 w1 w2 held lines more p f =
    record { sent = p.sent ++ (held ++ more); written = Appends-trans w0 w1 w2 p.sent (held ++ more) p.grown f; whole = passed p.sent held lines more p.whole }

-- or a front
sent_front : (w0 w1 w2 : Option Text) (held lines more : Text) → Passes w0 w1 [] held lines → AppendsFront w1 w2 (held ++ more) →
    (sent : Text) × Appends w0 w2 sent × ((rest : Text) × (lines ++ more ≡ sent ++ rest))
sent_front w0 w1 w2 held lines more p f = (
  p.sent ++ f.front,
  Appends-trans w0 w1 w2 p.sent f.front p.grown f.grown,
  (f.rest, sym (passed p.sent held lines more p.whole) ∙ ap (λ (l : Text). p.sent ++ l) f.split ∙ sym (append_assoc p.sent f.front f.rest)),
)

-- The lines so far passed through the buffer, and the run finished
pub finished : {S : Type 0} (part : S → Stop) (last : Stop → Text) (h : Halt S) (course : Course) (w0 w1 w2 : Option Text) (held lines : Text) → LinesPass h w0 w1 held lines → Finishes part last h course held w1 w2 →
    Sends course w0 w2 (lines ++ last_at last (stop_in course))
finished part last (halt.At stop) (Came came) w0 w1 w2 held lines p (same, f) =
    subst (λ (s : Stop). Sends (Came came) w0 w2 (lines ++ last s)) (sym same) (sent_whole came w0 w1 w2 held lines (last (part stop)) p f)
finished part last (halt.At stop) (Lost Cut (Some came)) w0 w1 w2 held lines p (same, f) =
    let s = sent_front w0 w1 w2 held lines (last (part stop)) p f in
    subst (λ (x : Stop). Sends (Lost Cut (Some came)) w0 w2 (lines ++ last x)) (sym same) (record { sent = s.0; written = s.1; whole = s.2 })
finished part last (halt.At stop) (Lost Cut None) w0 w1 w2 held lines p f = absurd f
finished part last (halt.At stop) (Lost Starved o) w0 w1 w2 held lines p f = absurd f
finished part last (halt.Lost Cut) (Lost Cut None) w0 w1 w2 held lines p f =
    record {
      sent = p.front ++ [];
      written = Appends-trans w0 w1 w2 p.front [] p.grown f;
      whole = (p.rest, append-nil lines ∙ p.split ∙ ap (λ (l : Text). l ++ p.rest) (sym (append-nil p.front)));
    }
finished part last (halt.Lost Cut) (Lost Cut (Some came)) w0 w1 w2 held lines p f = absurd f
finished part last (halt.Lost Cut) (Lost Starved o) w0 w1 w2 held lines p f = absurd f
finished part last (halt.Lost Cut) (Came came) w0 w1 w2 held lines p f = absurd f
finished part last (halt.Lost Starved) (Lost Starved None) w0 w1 w2 held lines p f =
    let front : AppendsFront w1 w2 (held ++ []) = subst (λ (l : Text). AppendsFront w1 w2 l) (sym (append-nil held)) f in
    let s = sent_front w0 w1 w2 held lines [] p front in
    record { sent = s.0; written = s.1; whole = s.2 }
finished part last (halt.Lost Starved) (Lost Starved (Some came)) w0 w1 w2 held lines p f = absurd f
finished part last (halt.Lost Starved) (Lost Cut o) w0 w1 w2 held lines p f = absurd f
finished part last (halt.Lost Starved) (Came came) w0 w1 w2 held lines p f = absurd f
