-- What a book holds: pairs of a text and its code. They are spoken of by look-ups, so their order doesn't matter.
use Rattle.std.specs.Prelude.{◌≡◌, ◌≢◌, ℕ, ◌+◌, ◌-◌, ◌^◌, ◌<◌, ◌≤◌, List, [], ◌∷◌, length, Option, Some, None, nat_eq, if◌then◌else◌, bytes_eq}
use Rattle.qtl_syntax.specs.Tree.{Text}

-- pairs of a text and its code
abbrev pub Pairs : Type 0
Pairs = List (Text × ℕ)

-- the code that the pairs give a text
abbrev pub code_of : Pairs → Text → Option ℕ
code_of [] t = None
code_of (p ∷ pairs) t = if bytes_eq p.0 t then Some p.1 else code_of pairs t

-- the text that a code stands for
abbrev pub value_of : Pairs → ℕ → Option Text
value_of [] c = None
value_of (p ∷ pairs) c = if nat_eq p.1 c then Some p.0 else value_of pairs c

-- c isn't given, and each lesser code is
abbrev pub IsLeastFree : Pairs → ℕ → Type 0
IsLeastFree pairs c = (value_of pairs c ≡ None) × ((d : ℕ) → d < c → value_of pairs d ≢ None)

-- no text and no code stands twice
abbrev pub IsPaired : Pairs → Type 0
IsPaired [] = Unit {0}
IsPaired (p ∷ pairs) = (code_of pairs p.0 ≡ None) × (value_of pairs p.1 ≡ None) × IsPaired pairs

-- the later pairs are the earlier ones and this one
pub record Adds (before : Pairs) (t : Text) (c : ℕ) (after : Pairs) : Type 0 where
  pub codes : (u : Text) → code_of after u ≡ (if bytes_eq t u then Some c else code_of before u)
  pub values : (d : ℕ) → value_of after d ≡ (if nat_eq c d then Some t else value_of before d)
  pub count : length after ≡ length before + 1

-- the later pairs are the earlier ones without this one, which was there
pub record Removes (before : Pairs) (t : Text) (c : ℕ) (after : Pairs) : Type 0 where
  pub codes : (u : Text) → code_of after u ≡ (if bytes_eq t u then None else code_of before u)
  pub values : (d : ℕ) → value_of after d ≡ (if nat_eq c d then None else value_of before d)
  pub count : length after + 1 ≡ length before

-- a book: how many bits its codes have, and its pairs
pub record Contents : Type 0 where
  pub bits : ℕ
  pub pairs : Pairs

-- what holds of every book: no text and no code stands twice, and the code of all ones isn't given
pub record IsBook (b : Contents) : Type 0 where
  pub some_bits : 1 ≤ b.bits
  pub few_bits : b.bits ≤ 20
  pub paired : IsPaired b.pairs
  pub below : (c : ℕ) → value_of b.pairs c ≢ None → c < 2 ^ b.bits - 1
