-- What a command line asks for.
use Rattle.std.specs.Prelude.{ℕ, List, [], ◌∷◌, Bool, false, nat_eq, ◌&&◌, Option, Some, None, codes, string_bytes, if◌then◌else◌, bytes_eq}
use Rattle.std.specs.List.{slice_split}
use Rattle.std.specs.Option.{option_map_or}
use Rattle.clap.specs.Words.{Kinds, Row, fault_of, first_of, found_of, matches_of, one_of, rows_of}
use Rattle.clap.specs.declared.parser.matches.ArgMatches.{ArgMatches}
use Rattle.settings.specs.Command.{dejavu}
use Rattle.settings.specs.Numbers.{given, number_within, sizes_of}
use Rattle.settings.specs.declared.types.Settings.{Settings}
use Rattle.settings.specs.declared.types.LogFrom.{LogFrom}
use Rattle.settings.specs.declared.types.LogFrom.TheVariants as log_from

-- where the log comes from: the file of a name, or a sample of a seed and a number of events
pub data Origin : Type 0 where
  FromFile : List ℕ → Origin
  FromSample : ℕ → ℕ → Origin

-- what the words ask for, with each text as its bytes
pub record Asked : Type 0 where
  pub bits : ℕ
  pub nodes : ℕ
  pub cache : ℕ
  pub limit : ℕ
  pub all : Bool
  pub listen : List (List ℕ)
  pub spec : List ℕ
  pub log : Origin

-- the log of the settings, with its name as bytes
abbrev pub origin_in : LogFrom → Origin
origin_in (log_from.File name) = FromFile (string_bytes name)
origin_in (log_from.Sample seed events) = FromSample seed events

-- the settings, with each text as its bytes
abbrev pub asked_by : Settings → Asked
asked_by s = record {
  bits = s.bits;
  nodes = s.nodes;
  cache = s.cache;
  limit = s.limit;
  all = s.all;
  listen = s.listen;
  spec = string_bytes s.spec;
  log = origin_in s.log;
}

-- the pieces between a text's commas, one more than there are commas
abbrev pub pieces : List ℕ → List (List ℕ)
pieces = slice_split (λ b. nat_eq b 44)

-- a sample is asked for by two pieces: a seed of at most 4,294,967,295, and 1 to 10,000,000 events
abbrev pub sample_of : List (List ℕ) → Option Origin
sample_of (seed ∷ events ∷ []) =
    given (number_within 0 4294967295 seed) (λ s.
    given (number_within 1 10000000 events) (λ n.
    Some (FromSample s n)))
sample_of _ = None

-- the name of standard input
abbrev pub is_dash : List ℕ → Bool
is_dash word = bytes_eq word (codes "-")

-- the log by SPEC, LOG and the value of --sample: one of LOG and --sample has to be there and not both, and SPEC and LOG are not both `-`
abbrev pub log_of : List ℕ → Option (List ℕ) → Option (List ℕ) → Option Origin
log_of spec (Some log) None = if is_dash spec && is_dash log then None else Some (FromFile log)
log_of spec None (Some sample) = sample_of (pieces sample)
log_of spec _ _ = None

-- the names of --listen, none where it is absent
abbrev pub names_of : Option (List ℕ) → List (List ℕ)
names_of None = []
names_of (Some value) = pieces value

-- whether --all was given: then its value is `true`
abbrev pub is_all : List Row → Bool
is_all rows = option_map_or (λ value. bytes_eq value (codes "true")) (one_of (codes "all") rows) false

-- what the matches of a parse ask for, or nothing
abbrev pub asked_in : List Row → Option Asked
asked_in rows =
    given (sizes_of rows) (λ sizes.
    given (first_of (codes "SPEC") rows) (λ spec.
    given (log_of spec (first_of (codes "LOG") rows) (first_of (codes "sample") rows)) (λ log.
    Some (record {
      bits = sizes.bits;
      nodes = sizes.nodes;
      cache = sizes.cache;
      limit = sizes.limit;
      all = is_all rows;
      listen = names_of (first_of (codes "listen") rows);
      spec = spec;
      log = log;
    }))))

-- nothing where the parse has a fault, a call for help among them
abbrev pub after_parse : Kinds → List Row → Option Asked
after_parse [] rows = asked_in rows
after_parse (_ ∷ _) rows = None

-- what the words ask for, or nothing where they are a wrong use
unfoldable pub settings_of : List (List ℕ) → Option Asked
settings_of words = after_parse (fault_of dejavu words) (matches_of dejavu words)

-- the matches that a parse gave
unfoldable pub rows_in : ArgMatches → List Row
rows_in matches = rows_of (found_of matches)
