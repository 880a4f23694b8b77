-- A reading before any byte, behind more bytes, at the end of the log, and behind the mark.
use Rattle.std.proofs.Common.{◌≡◌, ◌+◌, [], ◌++◌, refl, sym, ap, ◌∙◌, subst, Bool, true, false, append_assoc}
use Rattle.std.specs.Prelude.{Option, Some, None, Result, Ok, Err, OnOk}
use Rattle.qtl_syntax.specs.Tree.{Text}
use Rattle.log_reader.specs.Lines.{lines_from}
use Rattle.log_reader.specs.Records.{cut, cut_in}
use Rattle.log_reader.specs.Standing.{Reading, IsLater, unmarked, left, answer, Goes, Fails, StandsIn, Stands, with_rest}
use Rattle.log_reader.specs.declared.place.Place.TheVariants.{Before}
use Rattle.log_reader.specs.declared.fault.LogFault.{LogFault}
use Rattle.log_reader.proofs.EndLemmas.{now, nothing_later}

-- a new reader
pub fresh : (timed : Bool) → Stands [] (record { timed = timed; ended = false; given = 0; last_time = 0; fault = None; is_begun = false; length = 0; texts = []; field = []; place = Before; rest = [] })
fresh timed = record {
  line = [];
  fits = record { texts = refl; field = refl; place = refl; length = refl; right = refl; first = λ e. refl };
  coming = λ more ended later. refl;
}

-- more bytes
module _ (bytes piece : Text) (r : Reading) (on : r.ended ≡ false) where
  later_too : (more : Text) (ended : Bool) → IsLater r.ended (piece ++ more) ended
  later_too more ended = subst (λ x. IsLater x (piece ++ more) ended) (sym on) tt

  fed_goes : Goes bytes r → Goes (bytes ++ piece) (record r { rest = r.rest ++ piece })
  fed_goes g = record {
    line = g.line;
    fits = record { texts = g.fits.texts; field = g.fits.field; place = g.fits.place; length = g.fits.length; right = g.fits.right; first = g.fits.first };
    coming = λ more ended later.
        ap (λ l. left r.given (cut l r.timed ended)) (append_assoc bytes piece more)
        ∙ g.coming (piece ++ more) ended (later_too more ended)
        ∙ ap (λ l. cut_in r.timed ended (r.given + 1) r.last_time (lines_from g.line (unmarked r.is_begun l))) (sym (append_assoc r.rest piece more));
  }

  fed_fails : (f : LogFault) → Fails bytes r f → Fails (bytes ++ piece) (record r { rest = r.rest ++ piece }) f
  fed_fails f g = record {
    fault = g.fault;
    named = g.named;
    coming = λ more ended later.
        ap (λ l. left r.given (cut l r.timed ended)) (append_assoc bytes piece more)
        ∙ g.coming (piece ++ more) ended (later_too more ended);
  }

  fed_in : (o : Option LogFault) → StandsIn bytes r o → StandsIn (bytes ++ piece) (record r { rest = r.rest ++ piece }) o
  fed_in None s = fed_goes s
  fed_in (Some f) s = fed_fails f s

  pub fed : Stands bytes r → Stands (bytes ++ piece) (record r { rest = r.rest ++ piece })
  fed s = fed_in r.fault s

-- the end of the log
module _ (bytes : Text) (r : Reading) where
  earlier : (was : Bool) (more : Text) (ended : Bool) → IsLater true more ended → IsLater was more ended
  earlier true more ended later = later
  earlier false more ended later = tt

  over_goes : Goes bytes r → Goes bytes (record r { ended = true })
  over_goes g = record {
    line = g.line;
    fits = record { texts = g.fits.texts; field = g.fits.field; place = g.fits.place; length = g.fits.length; right = g.fits.right; first = g.fits.first };
    coming = λ more ended later. g.coming more ended (earlier r.ended more ended later);
  }

  over_fails : (f : LogFault) → Fails bytes r f → Fails bytes (record r { ended = true }) f
  over_fails f g = record { fault = g.fault; named = g.named; coming = λ more ended later. g.coming more ended (earlier r.ended more ended later) }

  over_in : (o : Option LogFault) → StandsIn bytes r o → StandsIn bytes (record r { ended = true }) o
  over_in None s = over_goes s
  over_in (Some f) s = over_fails f s

  pub over : Stands bytes r → Stands bytes (record r { ended = true })
  over s = over_in r.fault s

-- a fault that stands is the answer
pub fails_again : (bytes : Text) (r : Reading) (f : LogFault) → Fails bytes r f → answer (left r.given (cut bytes r.timed r.ended)) ≡ Err f
fails_again bytes r f g = ap answer (now bytes r _ (g.coming [] r.ended (nothing_later r.ended))) ∙ ap (λ x. Err x) g.named

-- a piece that was taken
pub fed_ok : {T E : Type 0} (result : Result T E) (piece : Text) (r t now : Reading) → r ≡ now → now.ended ≡ false → OnOk result (t ≡ with_rest r (r.rest ++ piece)) →
    OnOk result ((bytes : Text) → Stands bytes now → Stands (bytes ++ piece) t)
fed_ok (Ok x) piece r t now is on e = λ bytes s. subst (Stands (bytes ++ piece)) (sym e) (fed bytes piece r (ap (λ q. q.ended) is ∙ on) (subst (Stands bytes) (sym is) s))
fed_ok (Err x) piece r t now is on e = tt
