-- The laws of the operations on ages.
use Rattle.std.specs.Prelude.{◌≡◌, ℕ, ◌^◌, ◌<◌, ◌≤◌, ◌⊎◌, Bool, ◌&&◌, ◌||◌, List, Option, None, IfSome}
use Rattle.node_tree.specs.Tree.{Tree, IsOrdered, IsReduced, value}
use Rattle.node_tree.specs.Levels.{LevelsBelow}
use Rattle.timed_bits.specs.Ages.{is_age, SameBefore, HasAges}
use Rattle.timed_bits.specs.Changes.{chain_of, dropped, capped, is_there, stamped, age_drop, age_cap, any_time, at_time, stamp, age_where, either_age}
use Rattle.timed_bits.specs.Entries.{entry, age_at, SaysOfAge}

-- the tree at each entry to the block is the chain of the age there
abbrev pub EntryIsChain : Type 0
EntryIsChain =
    (first width : ℕ) (t : Tree) (age : List Bool → Option ℕ) → HasAges first width t age →
    (bits : List Bool) → entry first t bits ≡ chain_of first width (age bits)

-- and the age can be read there
abbrev pub EntryHasAge : Type 0
EntryHasAge =
    (first width : ℕ) (t : Tree) (age : List Bool → Option ℕ) → HasAges first width t age →
    (bits : List Bool) → age_at first t bits ≡ age bits

abbrev pub AgeDropHasAges : Type 0
AgeDropHasAges =
    (first width delta most : ℕ) (t : Tree) (age : List Bool → Option ℕ) → most < 2 ^ width →
    HasAges first width t age →
    HasAges first width (age_drop first width delta most t) (λ bits. dropped delta most (age bits))

abbrev pub AgeCapHasAges : Type 0
AgeCapHasAges =
    (first width delta cap : ℕ) (t : Tree) (age : List Bool → Option ℕ) → cap < 2 ^ width →
    HasAges first width t age →
    HasAges first width (age_cap first width delta cap t) (λ bits. capped delta cap (age bits))

abbrev pub AnyTimeSays : Type 0
AnyTimeSays =
    (first width : ℕ) (t : Tree) (age : List Bool → Option ℕ) → HasAges first width t age →
    SaysOfAge first (any_time first width t) (λ bits. is_there (age bits))

abbrev pub AtTimeSays : Type 0
AtTimeSays =
    (first width n : ℕ) (t : Tree) (age : List Bool → Option ℕ) → HasAges first width t age →
    SaysOfAge first (at_time first width n t) (λ bits. is_age (age bits) n)

abbrev pub StampHasAges : Type 0
StampHasAges =
    (first width : ℕ) (t : Tree) → IsOrdered t → IsReduced t → LevelsBelow first t →
    HasAges first width (stamp first width t) (λ bits. stamped (value t bits))

-- what And and AndNot of an age tree and a tree that the bits before the block decide give
abbrev pub WithinHasAges : Type 0
WithinHasAges =
    (first width : ℕ) (t u : Tree) (age : List Bool → Option ℕ) (says : List Bool → Bool) →
    HasAges first width t age → IsOrdered u → IsReduced u →
    ((bits other : List Bool) → SameBefore first bits other → says bits ≡ says other) →
    ((bits : List Bool) → value u bits ≡ (says bits && value t bits)) →
    HasAges first width u (λ bits. age_where (says bits) (age bits))

-- what Or of two age trees gives that never both have an age
abbrev pub EitherHasAges : Type 0
EitherHasAges =
    (first width : ℕ) (s t u : Tree) (x y : List Bool → Option ℕ) →
    HasAges first width s x → HasAges first width t y → IsOrdered u → IsReduced u →
    ((bits : List Bool) → (x bits ≡ None) ⊎ (y bits ≡ None)) →
    ((bits : List Bool) → value u bits ≡ (value s bits || value t bits)) →
    HasAges first width u (λ bits. either_age (x bits) (y bits))

-- a tree of levels before the block says at the bits what it says wherever these are the same
-- before the block
abbrev pub BeforeSays : Type 0
BeforeSays =
    (first : ℕ) (t : Tree) → LevelsBelow first t →
    (bits other : List Bool) → SameBefore first bits other → value t bits ≡ value t other

-- no time passed, and no age is past the bound: the tree stays
abbrev pub DropNow : Type 0
DropNow =
    (first width most : ℕ) (t : Tree) (age : List Bool → Option ℕ) → most < 2 ^ width →
    HasAges first width t age → ((bits : List Bool) → IfSome (age bits) (λ a. a ≤ most)) →
    age_drop first width 0 most t ≡ t

abbrev pub CapNow : Type 0
CapNow =
    (first width cap : ℕ) (t : Tree) (age : List Bool → Option ℕ) → cap < 2 ^ width →
    HasAges first width t age → ((bits : List Bool) → IfSome (age bits) (λ a. a ≤ cap)) →
    age_cap first width 0 cap t ≡ t

-- two age trees with ages at the same bits have one any_time
abbrev pub AnyTimeSame : Type 0
AnyTimeSame =
    (first width : ℕ) (s t : Tree) (x y : List Bool → Option ℕ) →
    HasAges first width s x → HasAges first width t y →
    ((bits : List Bool) → is_there (x bits) ≡ is_there (y bits)) →
    any_time first width s ≡ any_time first width t
