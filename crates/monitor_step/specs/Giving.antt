-- What the parts of serving one variable do.
use Rattle.std.specs.Prelude.{◌≡◌, ℕ, ◌+◌, ◌-◌, ◌^◌, ◌<◌, ◌≤◌, List, [], ◌∷◌, ◌++◌, Some, unwrap_or, slice_index_or}
use Rattle.qtl_syntax.specs.Tree.{Text}
use Rattle.subformulas.specs.declared.need_list.Need.{Need}
use Rattle.value_codes.specs.Pairs.{Pairs, code_of, IsPaired, IsLeastFree, Adds}
use Rattle.monitor_model.specs.Books.{Gives, without_code}
use Rattle.monitor_model.specs.State.{SameCodes}
use Rattle.monitor_step.specs.declared.serve.ServeEnd.{ServeEnd}
use Rattle.monitor_step.specs.declared.serve.ServeEnd.TheVariants as serve

-- the texts of entries, whatever their variables
abbrev pub own_texts : (args : List Text) → List Need → List Text
own_texts args [] = []
own_texts args (n ∷ ns) = slice_index_or args n.arg [] ∷ own_texts args ns

-- stands for the code of a text that has none: no code is as great
abbrev pub no_code : ℕ
no_code = 4294967295

-- the codes of texts, with a mark for each that has none
abbrev pub marked : Pairs → List Text → List ℕ
marked book [] = []
marked book (t ∷ ts) = unwrap_or (code_of book t) no_code ∷ marked book ts

-- each text has a code, and these are they
abbrev pub HaveCodes : Pairs → List Text → List ℕ → Type 0
HaveCodes book [] cs = cs ≡ []
HaveCodes book (t ∷ ts) cs =
    (c : ℕ) × (rest : List ℕ) × (cs ≡ c ∷ rest) × (code_of book t ≡ Some c) × HaveCodes book ts rest

-- the codes of texts come behind others
pub record AddsCodes (book : Pairs) (ts : List Text) (old new : List ℕ) : Type 0 where
  pub added : List ℕ
  pub behind : new ≡ old ++ added
  pub codes : HaveCodes book ts added

-- for this variable so many codes are wanted, and there are fewer
abbrev pub TakesTooMany : (bits variable wanted : ℕ) → ServeEnd → Type 0
TakesTooMany bits variable wanted (serve.CodesFull x need) =
    (x ≡ variable) × (need ≡ wanted) × (2 ^ bits ≤ wanted)
TakesTooMany bits variable wanted serve.NoMemory = ⊥

-- a text without a code takes this one, the least that is free
pub record Takes (bits : ℕ) (t : Text) (c : ℕ) (before after : Pairs) : Type 0 where
  pub least : IsLeastFree before c
  pub below : c < 2 ^ bits - 1
  pub adds : Adds before t c after

-- of each book with the same codes as before, the texts without a code make one with the same codes as
-- after
abbrev pub GivesAll : (bits : ℕ) → List Text → (before after : Pairs) → Type 0
GivesAll bits ts before after =
    (book : Pairs) → IsPaired book → SameCodes before book →
    (next : Pairs) × Gives bits (without_code before ts) book next × SameCodes after next
