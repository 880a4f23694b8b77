-- Bytes on their way through a buffer.
use Rattle.std.specs.Prelude.{◌≡◌, ℕ, List, ◌++◌, Option}
use Rattle.std.specs.Io.KnownBytes.{Appends}

-- a front of what the buffer held and these bytes was sent on, and the buffer holds the rest
pub record Passes (sent0 sent1 : Option (List ℕ)) (held0 held1 bytes : List ℕ) : Type 0 where
  pub sent : List ℕ
  pub grown : Appends sent0 sent1 sent
  pub whole : sent ++ held1 ≡ held0 ++ bytes
