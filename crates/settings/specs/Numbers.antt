-- The numbers of the options.
use Rattle.std.specs.Prelude.{ℕ, ◌≤◌, List, length, ◌&&◌, ◌+◌, max, Option, Some, None, codes, if◌then◌else◌}
use Rattle.std.specs.Int.{is_in_range}
use Rattle.std.specs.Str.{all_ascii_digits}
use Rattle.std.specs.Str.Parse.{digits_value}
use Rattle.clap.specs.Words.{Row, first_of}
use Rattle.settings.specs.declared.numbers.Sizes.{Sizes}

-- the sizes lie within their limits
pub record AreLawful (bits nodes cache limit : ℕ) : Type 0 where
  pub some_bits : 1 ≤ bits
  pub few_bits : bits ≤ 20
  pub some_nodes : 2 ≤ nodes
  pub few_nodes : nodes ≤ 4194304
  pub enough_entries : nodes + 2 ≤ cache
  pub few_entries : cache ≤ 8388608
  pub some_bytes : 1 ≤ limit
  pub few_bytes : limit ≤ 281474976710656

-- the option's value handed on, where there is one
abbrev pub given : {A B : Type 0} → Option A → (A → Option B) → Option B
given None next = None
given (Some x) next = next x

-- the number that one to twenty digits write, where it is from `least` to `most`
abbrev pub number_within : ℕ → ℕ → List ℕ → Option ℕ
number_within least most text =
    if is_in_range 1 20 (length text) && all_ascii_digits text && is_in_range least most (digits_value 10 text)
    then Some (digits_value 10 text) else None

-- the number of an option, and `usual` where the option is absent
abbrev pub number_or : ℕ → ℕ → ℕ → Option (List ℕ) → Option ℕ
number_or usual least most None = Some usual
number_or usual least most (Some text) = number_within least most text

-- the bits of a variable, the nodes, the cache entries, of which there are two more than nodes at least, and the bytes of log
abbrev pub sizes_of : List Row → Option Sizes
sizes_of rows =
    given (number_or 16 1 20 (first_of (codes "bits") rows)) (λ bits.
    given (number_or 1048576 2 4194304 (first_of (codes "nodes") rows)) (λ nodes.
    given (number_or (max 2097152 (nodes + 2)) (nodes + 2) 8388608 (first_of (codes "cache") rows)) (λ cache.
    given (number_or 281474976710656 1 281474976710656 (first_of (codes "limit") rows)) (λ limit.
    Some (record { bits = bits; nodes = nodes; cache = cache; limit = limit })))))
