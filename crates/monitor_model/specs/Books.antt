-- Which code stands for which text of a variable, and how codes are given and taken back.
use Rattle.std.specs.Prelude.{◌≡◌, ℕ, zero, suc, ◌-◌, ◌^◌, ◌<◌, List, [], ◌∷◌, ◌++◌, length, Some, None, nat_lt, if◌then◌else◌, bytes_eq, slice_get, unwrap_or, is_some}
use Rattle.std.specs.List.{list_any}
use Rattle.qtl_syntax.specs.Tree.{Text}
use Rattle.qtl_truth.specs.declared.event.Event.{Event}
use Rattle.subformulas.specs.declared.table.Sub.{Sub}
use Rattle.subformulas.specs.Needs.{need, IsToldTexts}
use Rattle.subformulas.specs.Pinned.{pinned}
use Rattle.subformulas.specs.Texts.{Has}
use Rattle.value_codes.specs.Pairs.{Pairs, code_of, value_of, IsLeastFree}

-- each text in order, none of which has a code yet, takes the least free code below 2^bits - 1
abbrev pub Gives : (bits : ℕ) → List Text → (before after : Pairs) → Type 0
Gives bits [] book after = after ≡ book
Gives bits (t ∷ ts) book after =
    (c : ℕ) × (code_of book t ≡ None) × IsLeastFree book c × (c < 2 ^ bits - 1) ×
    Gives bits ts ((t, c) ∷ book) after

-- the pairs whose text is one of ts
abbrev pub keep : List Text → Pairs → Pairs
keep ts [] = []
keep ts (p ∷ book) = if list_any (bytes_eq p.0) ts then p ∷ keep ts book else keep ts book

-- no text stands twice
abbrev pub AllApart : List Text → Type 0
AllApart [] = Unit {0}
AllApart (t ∷ ts) = (¬ Has ts t) × AllApart ts

-- the texts that have no code
abbrev pub without_code : Pairs → List Text → List Text
without_code book [] = []
without_code book (t ∷ ts) =
    if is_some (code_of book t) then without_code book ts else t ∷ without_code book ts

-- how many codes are free; the code of all ones is never given
abbrev pub free_count : (bits : ℕ) → Pairs → ℕ
free_count bits book = 2 ^ bits - 1 - length book

-- where the new texts are more than the free codes, the pairs go whose text is neither pinned, told
-- apart nor needed
abbrev pub with_room : (bits : ℕ) → (pins told needed : List Text) → Pairs → Pairs
with_room bits pins told needed book =
    if nat_lt (free_count bits book) (length (without_code book needed))
    then keep (pins ++ (told ++ needed)) book else book

-- the book after an event that needs these texts
abbrev pub IsNextBook :
    (bits : ℕ) → (pins told needed : List Text) → (before after : Pairs) → Type 0
IsNextBook bits pins told needed before after =
    Gives bits (without_code before needed) (with_room bits pins told needed before) after

-- the book of variable x after i events; before the first one it has the pinned texts
abbrev pub IsBook : (bits : ℕ) → List Sub → List Event → (x i : ℕ) → Pairs → Type 0
IsBook bits subs log x zero book = Gives bits (pinned subs x) [] book
IsBook bits subs log x (suc i) book =
    (before : Pairs) × (told : List Text) × (e : Event) × IsBook bits subs log x i before ×
    IsToldTexts subs log x i told × (slice_get log i ≡ Some e) ×
    IsNextBook bits (pinned subs x) told (need subs x e) before book

-- what a code reads as: its text, else another one
abbrev pub reads : Pairs → (other : Text) → ℕ → Text
reads book other c = unwrap_or (value_of book c) other
