-- What serving the variables of an event does to their books, and what it answers.
use Rattle.std.specs.Prelude.{◌≡◌, ℕ, ◌*◌, ◌^◌, ◌<◌, ◌≤◌, List, [], length, map, slice_index_or}
use Rattle.qtl_syntax.specs.Tree.{Text}
use Rattle.subformulas.specs.Needs.{code_need}
use Rattle.subformulas.specs.NeedList.{texts_for}
use Rattle.subformulas.specs.declared.need_list.Need.{Need}
use Rattle.node_tree.specs.Tree.{Tree}
use Rattle.value_codes.specs.Pairs.{Pairs, Contents}
use Rattle.monitor_model.specs.Books.{IsNextBook}
use Rattle.monitor_model.specs.Reading.{AreTold}
use Rattle.monitor_model.specs.State.{SameCodes}
use Rattle.monitor_step.specs.declared.serve.ServeEnd.{ServeEnd}
use Rattle.monitor_step.specs.declared.serve.ServeEnd.TheVariants as serve

-- the codes suffice, and the later pairs are those of the next book; no text is pinned
pub record HasNext (bits : ℕ) (told needed : List Text) (before after : Pairs) : Type 0 where
  pub enough : code_need [] told needed < 2 ^ bits
  pub next : Pairs
  pub is_next : IsNextBook bits [] told needed before next
  pub same : SameCodes after next

-- so many texts are told apart or needed, and the codes are fewer
pub record IsTooMany (bits : ℕ) (told needed : List Text) (need : ℕ) : Type 0 where
  pub counts : need ≡ code_need [] told needed
  pub more : 2 ^ bits ≤ need

-- the later pairs are those of the next book after an event that needs these texts, whatever the list
-- of those that are told apart
abbrev pub IsServed :
    (trees : List Tree) → (first bits : ℕ) → (needed : List Text) → (before after : Pairs) → Type 0
IsServed trees first bits needed before after =
    (told : List Text) → AreTold trees first bits before told →
    HasNext bits told needed before after

-- there is no next book, since so many texts are told apart or needed
abbrev pub IsFull :
    (trees : List Tree) → (first bits : ℕ) → (needed : List Text) → (before : Pairs) → (need : ℕ) →
    Type 0
IsFull trees first bits needed before need =
    (told : List Text) → AreTold trees first bits before told → IsTooMany bits told needed need

-- why this variable was not served
abbrev pub IsEndAt :
    (trees : List Tree) → (first bits variable : ℕ) → (needed : List Text) → (before : Pairs) →
    ServeEnd → Type 0
IsEndAt trees first bits variable needed before (serve.CodesFull x need) =
    (x ≡ variable) × IsFull trees first bits needed before need
IsEndAt trees first bits variable needed before serve.NoMemory = Unit {0}

-- the pairs of a variable's book; none where it has no book
abbrev pub pairs_at : List Contents → ℕ → Pairs
pairs_at books x = slice_index_or (map (λ b. b.pairs) books) x []

-- each variable below n was served; the block of variable x has the levels from x * bits on
abbrev pub AreServed :
    (trees : List Tree) → (bits : ℕ) → (args : List Text) → List Need → (n : ℕ) →
    (before after : List Contents) → Type 0
AreServed trees bits args entries n before after =
    (x : ℕ) → x < n →
    IsServed trees (x * bits) bits (texts_for x args entries) (pairs_at before x) (pairs_at after x)

-- why the variables were not served: the first one that could not be has too few codes
abbrev pub IsServeEnd :
    (trees : List Tree) → (bits : ℕ) → (args : List Text) → List Need →
    (before after : List Contents) → ServeEnd → Type 0
IsServeEnd trees bits args entries before after (serve.CodesFull x need) =
    (x < length before) × AreServed trees bits args entries x before after ×
    IsFull trees (x * bits) bits (texts_for x args entries) (pairs_at before x) need
IsServeEnd trees bits args entries before after serve.NoMemory = Unit {0}
