-- How a reading goes on: each step stands for the same bytes.
use Rattle.std.proofs.Common.{◌≡◌, ℕ, ◌+◌, ◌<◌, ◌≤◌, [], ◌∷◌, ◌++◌, length, map, refl, sym, ap, ◌∙◌, subst, arith, Bool, true, false, length-append}
use Rattle.std.proofs.lemmas.List.{length-map, map-append}
use Rattle.std.specs.Prelude.{Some, None, ◌&&◌, not, ◌==◌, nat_le}
use Rattle.std.proofs.lemmas.Bool.Decides.{nat_tests}
use Rattle.qtl_syntax.specs.Tree.{Text}
use Rattle.log_reader.specs.Fields.{Form, Bare, Open, Closed, form_of, is_open, text_of}
use Rattle.log_reader.specs.Lines.{ends_field, finished, begun, ends_line, with_line, lines_from}
use Rattle.log_reader.specs.Faults.{Fault, RecordTooLong, AfterQuote, TooManyFields, is_misplaced, fault_at}
use Rattle.log_reader.specs.Records.{no_events, At, cut, cut_in}
use Rattle.log_reader.specs.Places.{place_of, next_place, is_inside, is_in_field}
use Rattle.log_reader.specs.Standing.{Reading, Fits, IsLater, unmarked, records_from, left, Goes}
use Rattle.log_reader.specs.declared.place.Place.TheVariants.{Before}
use Rattle.log_reader.proofs.PlaceLemmas.{Agrees, agrees, place_more, in_field}
use Rattle.log_reader.proofs.LineLemmas.{finished_ends, begun_ends, finished_same, begun_more, fault_more, fault_ends}

-- tests of a byte outside or inside quotes
outside : (quotes x : Bool) → (quotes ≡ false → x ≡ false) → (x && not quotes) ≡ false
outside true true h = refl
outside true false h = refl
outside false true h = h refl
outside false false h = refl

pub is_outside : (quotes x : Bool) → quotes ≡ false → x ≡ true → (x && not quotes) ≡ true
is_outside quotes x e f = rw (e, f) refl

pub agree : (line : Text) (r : Reading) → Fits line r → Agrees (form_of (begun line)) r.place
agree line r fits = subst (λ p. Agrees (form_of (begun line)) p) (ap place_of fits.field ∙ fits.place) (agrees (begun line))

is_short : (line : Text) (r : Reading) → Fits line r → r.length < 65536 → nat_le 65536 (length line) ≡ false
is_short line r fits short = let l = fits.length in grind (arith, nat_tests)

-- the lines behind a byte that ends none
line_goes : (line rest : Text) (b : ℕ) → ends_line line b ≡ false → lines_from line (b ∷ rest) ≡ lines_from (line ++ b ∷ []) rest
line_goes line rest b e = rw e refl

-- and behind one that does
pub line_ends : (line rest : Text) (b : ℕ) → ends_line line b ≡ true → lines_from line (b ∷ rest) ≡ with_line line (lines_from [] rest)
line_ends line rest b e = rw e refl

-- the next byte of a reading that has begun
abbrev pub IsAt : Reading → ℕ → Text → Type 0
IsAt r b rest = (r.is_begun ≡ true) × (r.rest ≡ b ∷ rest)

pub at_byte : (r : Reading) (b : ℕ) (rest more : Text) → IsAt r b rest → unmarked r.is_begun (r.rest ++ more) ≡ b ∷ (rest ++ more)
at_byte r b rest more h = ap (λ x. unmarked x (r.rest ++ more)) h.0 ∙ ap (λ l. l ++ more) h.1

begun_still : (r : Reading) → r.is_begun ≡ true → (line : Text) → r.is_begun ≡ false → line ≡ []
begun_still r e line f = let never : true ≡ false = sym e ∙ f in absurd (let n : ⊥ = cc in n)

module _ (bytes : Text) (r : Reading) (g : Goes bytes r) (b : ℕ) (rest : Text) (here : IsAt r b rest) where
  module _ (goes : ends_line g.line b ≡ false) where
    -- the records behind a byte that doesn't end the line
    same_records : (r' : Reading) → r'.timed ≡ r.timed → r'.ended ≡ r.ended → r'.given ≡ r.given → r'.last_time ≡ r.last_time → r'.is_begun ≡ r.is_begun → r'.rest ≡ rest →
        (more : Text) (ended : Bool) → IsLater r'.ended more ended → left r'.given (cut (bytes ++ more) r'.timed ended) ≡ records_from r' (g.line ++ b ∷ []) more ended
    same_records r' t d n l s e more ended later =
        rw (t, n, l, s, e)
        (g.coming more ended (subst (λ x. IsLater x more ended) d later)
        ∙ ap (λ l. cut_in r.timed ended (r.given + 1) r.last_time (lines_from g.line l)) (at_byte r b rest more here)
        ∙ ap (cut_in r.timed ended (r.given + 1) r.last_time) (line_goes g.line (rest ++ more) b goes)
        ∙ ap (λ x. cut_in r.timed ended (r.given + 1) r.last_time (lines_from (g.line ++ b ∷ []) (unmarked x (rest ++ more)))) (sym here.0))

    -- a fault at the byte
    pub fails : (fault : Fault) → fault_at g.line b ≡ Some fault → (more : Text) (ended : Bool) → IsLater r.ended more ended → left r.given (cut (bytes ++ more) r.timed ended) ≡ no_events (At (r.given + 1) fault)
    fails fault e more ended later =
        g.coming more ended later
        ∙ ap (λ l. cut_in r.timed ended (r.given + 1) r.last_time (lines_from g.line l)) (at_byte r b rest more here)
        ∙ ap (cut_in r.timed ended (r.given + 1) r.last_time) (line_goes g.line (rest ++ more) b goes)
        ∙ fault_ends r.timed ended (r.given + 1) r.last_time (g.line ++ b ∷ []) (rest ++ more) fault (fault_more g.line b g.fits.right ∙ e)

  -- a byte of the field
  module _ (inside : is_in_field r.place b ≡ true) (short : r.length < 65536) where
    no_comma : ends_field (begun g.line) b ≡ false
    no_comma = outside (is_open (form_of (begun g.line))) (b == 44) (λ e. (in_field r.place b inside (sym (agree g.line r g.fits).inside ∙ e)).0)

    no_feed : ends_line g.line b ≡ false
    no_feed = outside (is_open (form_of (begun g.line))) (b == 10) (λ e. (in_field r.place b inside (sym (agree g.line r g.fits).inside ∙ e)).1)

    no_fault : fault_at g.line b ≡ None
    no_fault = rw (is_short g.line r g.fits short, (agree g.line r g.fits).stays b inside, no_comma) refl

    pub goes_in_field : Goes bytes (record r { length = r.length + 1; field = r.field ++ b ∷ []; place = next_place r.place b; rest = rest })
    goes_in_field = record {
      line = g.line ++ b ∷ [];
      fits = record {
        texts = ap (map text_of) (finished_same [] g.line b no_comma) ∙ g.fits.texts;
        field = begun_more [] g.line b no_comma ∙ ap (λ l. l ++ b ∷ []) g.fits.field;
        place = place_more r.field b ∙ ap (λ p. next_place p b) g.fits.place;
        length = let l = g.fits.length in simp length-append (omega arith);
        right = fault_more g.line b g.fits.right ∙ no_fault;
        first = begun_still r here.0 (g.line ++ b ∷ []);
      };
      coming = same_records no_feed (record r { length = r.length + 1; field = r.field ++ b ∷ []; place = next_place r.place b; rest = rest }) refl refl refl refl refl refl;
    }

  -- a comma outside quotes
  module _ (comma : b ≡ 44) (out : is_inside r.place ≡ false) (short : r.length < 65536) where
    is_comma : ends_field (begun g.line) b ≡ true
    is_comma = is_outside (is_open (form_of (begun g.line))) (b == 44) ((agree g.line r g.fits).inside ∙ out) (rw comma refl)

    no_feed_at : ends_line g.line b ≡ false
    no_feed_at = rw comma refl

    not_misplaced : is_misplaced (form_of (begun g.line)) b ≡ false
    not_misplaced = by_form (form_of (begun g.line))
      where
        by_form : (f : Form) → is_misplaced f b ≡ false
        by_form Bare = refl
        by_form Open = refl
        by_form (Closed text behind) = rw comma refl

    same_count : length (finished g.line) ≡ length r.texts
    same_count = sym (length-map (finished g.line) text_of) ∙ ap length g.fits.texts

    pub goes_to_field : length r.texts < 63 → Goes bytes (record r { length = r.length + 1; texts = r.texts ++ text_of r.field ∷ []; field = []; place = Before; rest = rest })
    goes_to_field few = record {
      line = g.line ++ b ∷ [];
      fits = record {
        texts = ap (map text_of) (finished_ends [] g.line b is_comma) ∙ map-append text_of (finished g.line) (begun g.line ∷ []) ∙ ap (λ ts. ts ++ text_of (begun g.line) ∷ []) g.fits.texts ∙ ap (λ f. r.texts ++ text_of f ∷ []) g.fits.field;
        field = begun_ends [] g.line b is_comma;
        place = refl;
        length = let l = g.fits.length in simp length-append (omega arith);
        right = fault_more g.line b g.fits.right ∙ no_fault_at;
        first = begun_still r here.0 (g.line ++ b ∷ []);
      };
      coming = same_records no_feed_at (record r { length = r.length + 1; texts = r.texts ++ text_of r.field ∷ []; field = []; place = Before; rest = rest }) refl refl refl refl refl refl;
    }
      where
        is_few : nat_le 63 (length (finished g.line)) ≡ false
        is_few = let l = same_count in grind (arith, nat_tests)

        no_fault_at : fault_at g.line b ≡ None
        no_fault_at = rw (is_short g.line r g.fits short, not_misplaced, is_comma, is_few) refl

    pub too_many : 63 ≤ length r.texts → fault_at g.line b ≡ Some TooManyFields
    too_many many = rw (is_short g.line r g.fits short, not_misplaced, is_comma, is_many) refl
      where
        is_many : nat_le 63 (length (finished g.line)) ≡ true
        is_many = let l = same_count in grind (arith, nat_tests)

  -- a byte that is neither of the field, nor a comma, nor a line feed
  pub after_quote : r.length < 65536 → is_in_field r.place b ≡ false → (b == 44) ≡ false → (b == 10) ≡ false → fault_at g.line b ≡ Some AfterQuote
  after_quote short out comma feed = rw (is_short g.line r g.fits short, (agree g.line r g.fits).leaves b comma feed out) refl

  -- byte 65,537
  pub too_long : 65536 ≤ r.length → fault_at g.line b ≡ Some RecordTooLong
  too_long long = rw is_long refl
    where
      is_long : nat_le 65536 (length g.line) ≡ true
      is_long = let l = g.fits.length in grind (arith, nat_tests)
