-- What the pass over numbers of terms remembers.
use Rattle.std.specs.Prelude.{◌≡◌, ℕ, ◌+◌, List, [], ◌∷◌, length, Option, Some, None, Bool, true, false, not, nat_eq, bytes_eq, if◌then◌else◌}
use Rattle.std.specs.BTreeMap.{BTreeMap, get}
use Rattle.std.specs.Cmp.Lexicographic.{slice_cmp}
use Rattle.std.specs.Ordering.{nat_cmp}
use Rattle.qtl_syntax.specs.Tree.{Text, Formula, Item}
use Rattle.wellformed.specs.Faults.{event_atom}

-- for each name of an atom that was seen, how many terms it had
abbrev pub Seen : Type 0
Seen = Text → Option ℕ

-- the same in the program's map
abbrev pub seen_in : BTreeMap Text ℕ → Seen
seen_in map = get (slice_cmp nat_cmp) map

-- another number of terms was seen
abbrev pub is_other_count : Option ℕ → ℕ → Bool
is_other_count None n = false
is_other_count (Some m) n = not (nat_eq m n)

-- an atom clashes with what was seen
abbrev pub clashes_seen : Seen → Option (Text × ℕ) → Bool
clashes_seen seen None = false
clashes_seen seen (Some here) = is_other_count (seen here.0) here.1

-- what was seen, and an atom
abbrev pub with_seen : Seen → Option (Text × ℕ) → Seen
with_seen seen None = seen
with_seen seen (Some here) = λ name. if bytes_eq here.0 name then Some here.1 else seen name

-- what was seen, and the atoms of the nodes
abbrev pub seen_after : List Item → Seen → List Formula → Seen
seen_after before seen [] = seen
seen_after before seen (node ∷ nodes) = seen_after before (with_seen seen (event_atom before node)) nodes

-- the number of the first node that clashes, where the first node has the number n
abbrev pub clash_seen : List Item → Seen → ℕ → List Formula → Option ℕ
clash_seen before seen n [] = None
clash_seen before seen n (node ∷ nodes) =
    if clashes_seen seen (event_atom before node) then Some n
    else clash_seen before (with_seen seen (event_atom before node)) (n + 1) nodes

-- whether an atom clashes with those seen; where it doesn't, it is seen too
abbrev pub IsAtomClash : Seen → Option (Text × ℕ) → Seen → Bool → Type 0
IsAtomClash old atom new true = clashes_seen old atom ≡ true
IsAtomClash old atom new false = (clashes_seen old atom ≡ false) × (new ≡ with_seen old atom)

-- the first of the nodes that clashes has the number m, where the first node has the number n; where none clashes, m comes
-- after them and their atoms are seen too
abbrev pub IsClash : List Item → Seen → ℕ → List Formula → ℕ → Seen → Bool → Type 0
IsClash before old n nodes m new true = clash_seen before old n nodes ≡ Some m
IsClash before old n nodes m new false = (clash_seen before old n nodes ≡ None) × (m ≡ n + length nodes) × (new ≡ seen_after before old nodes)
