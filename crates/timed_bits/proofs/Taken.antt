-- Trees that a change takes, and their parts.
use Rattle.std.proofs.Common.{◌≡◌, ℕ, suc, ◌+◌, ◌-◌, ◌^◌, ◌<◌, ◌≤◌, List, [], Bool, true, false, cond, Option, Some, None, refl, sym, ap, ◌∙◌, arith, subst}
use Rattle.std.specs.Prelude.{nat_lt, nat_le, IfSome}
use Rattle.std.proofs.lemmas.Bool.{cond_both, leb-true, leb-false}
use Rattle.std.proofs.lemmas.Bool.Decides.{Decides-ltb, nat_tests}
use Rattle.node_tree.specs.Tree.{Tree, Zero, One, Branch, tree_eq, bit, join, IsOrderedFrom}
use Rattle.node_tree.specs.Levels.{LevelsBelow}
use Rattle.node_tree.specs.Restrict.{with_bit}
use Rattle.node_tree.proofs.OneTree.{bit-put_same, bit-put_other}
use Rattle.timed_bits.specs.declared.change.Change.{Change}
use Rattle.timed_bits.specs.declared.change.Change.TheVariants.{Drop, Cap, Any, At, Stamp}
use Rattle.timed_bits.specs.Ages.{HasAges}
use Rattle.timed_bits.specs.Changes.{chain, chain_of, read_on, is_there}
use Rattle.timed_bits.specs.Entries.{entry}
use Rattle.timed_bits.specs.Changing.{changed, changed_entry, IsEntry, HasChains, IsLeaf, Accepts, AcceptsEntry}
use Rattle.timed_bits.proofs.Chains.{chain-no_zero, chain_of-read}
use Rattle.timed_bits.proofs.Entries.{same_cond, entry-chain, IsFit, at_entries-ordered}
use Rattle.timed_bits.proofs.Walking.{JoinsAbove}
use Rattle.timed_bits.proofs.Ages.{chains-fit, leaves-fit}

is_less : (l n : ℕ) → l < n → nat_lt l n ≡ true
is_less l n h = (Decides-ltb l n).1 h

is_no_less : (l n : ℕ) → n ≤ l → nat_lt l n ≡ false
is_no_less l n h = grind (arith, nat_tests)

-- the entry of a tree below a level does not look at its bit
entry-put : (first : ℕ) (t : Tree) (n l : ℕ) (bits : List Bool) (v : Bool) → IsOrderedFrom n t → l < n → entry first t (with_bit bits l v) ≡ entry first t bits
entry-put first Zero n l bits v o h = refl
entry-put first One n l bits v o h = refl
entry-put first (Branch k a b) n l bits v o h =
    let from : n ≤ k = o.0 in
    ap (λ z. cond (nat_lt k first) z (Branch k a b))
    (same_cond (bit (with_bit bits l v) k) (bit bits k) _ _ _ _ (bit-put_other bits l k v (omega arith)) (entry-put first b (k + 1) l bits v o.2 (omega arith)) (entry-put first a (k + 1) l bits v o.1 (omega arith)))

chains-low : (first width l : ℕ) (a b : Tree) → IsOrderedFrom (l + 1) a → l < first → HasChains first width (Branch l a b) → HasChains first width a
chains-low first width l a b o h e bits =
    let x = e (with_bit bits l false) in
    let is : entry first (Branch l a b) (with_bit bits l false) ≡ entry first a bits =
    ap (λ z. cond z (cond (bit (with_bit bits l false) l) (entry first b (with_bit bits l false)) (entry first a (with_bit bits l false))) (Branch l a b)) (is_less l first h)
    ∙ (ap (λ z. cond z (entry first b (with_bit bits l false)) (entry first a (with_bit bits l false))) (bit-put_same bits l false) ∙ entry-put first a (l + 1) l bits false o (omega arith)) in
    (x.0, x.1, sym is ∙ x.2)

chains-high : (first width l : ℕ) (a b : Tree) → IsOrderedFrom (l + 1) b → l < first → HasChains first width (Branch l a b) → HasChains first width b
chains-high first width l a b o h e bits =
    let x = e (with_bit bits l true) in
    let is : entry first (Branch l a b) (with_bit bits l true) ≡ entry first b bits =
    ap (λ z. cond z (cond (bit (with_bit bits l true) l) (entry first b (with_bit bits l true)) (entry first a (with_bit bits l true))) (Branch l a b)) (is_less l first h)
    ∙ (ap (λ z. cond z (entry first b (with_bit bits l true)) (entry first a (with_bit bits l true))) (bit-put_same bits l true) ∙ entry-put first b (l + 1) l bits true o (omega arith)) in
    (x.0, x.1, sym is ∙ x.2)

-- a change that takes a node takes its children
pub accepts-low : (first width : ℕ) (ch : Change) (l : ℕ) (a b : Tree) → IsOrderedFrom (l + 1) a → l < first → Accepts first width ch (Branch l a b) → Accepts first width ch a
accepts-low first width (Drop delta most) l a b o h e = chains-low first width l a b o h e
accepts-low first width (Cap delta cap) l a b o h e = chains-low first width l a b o h e
accepts-low first width Any l a b o h e = chains-low first width l a b o h e
accepts-low first width (At age) l a b o h e = chains-low first width l a b o h e
accepts-low first width Stamp l a b o h e = e.1

pub accepts-high : (first width : ℕ) (ch : Change) (l : ℕ) (a b : Tree) → IsOrderedFrom (l + 1) b → l < first → Accepts first width ch (Branch l a b) → Accepts first width ch b
accepts-high first width (Drop delta most) l a b o h e = chains-high first width l a b o h e
accepts-high first width (Cap delta cap) l a b o h e = chains-high first width l a b o h e
accepts-high first width Any l a b o h e = chains-high first width l a b o h e
accepts-high first width (At age) l a b o h e = chains-high first width l a b o h e
accepts-high first width Stamp l a b o h e = e.2

-- a tree that begins no higher than the block is its own entry
own_entry : (first : ℕ) (t : Tree) (bits : List Bool) → IsOrderedFrom first t → entry first t bits ≡ t
own_entry first Zero bits h = refl
own_entry first One bits h = refl
own_entry first (Branch l a b) bits h = ap (λ z. cond z (cond (bit bits l) (entry first b bits) (entry first a bits)) (Branch l a b)) (is_no_less l first h.0)

chains-entry : (first width : ℕ) (t : Tree) → IsOrderedFrom first t → HasChains first width t → IsEntry first width t
chains-entry first width t h e = let x = e [] in (x.0, x.1, sym (own_entry first t [] h) ∙ x.2)

leaf_here : (first : ℕ) (t : Tree) → IsOrderedFrom first t → LevelsBelow first t → IsLeaf t
leaf_here first Zero h e = (false, refl)
leaf_here first One h e = (true, refl)
leaf_here first (Branch l a b) h e = absurd (let less : l < first = e.0 in let more : first ≤ l = h.0 in omega (arith, more, less))

-- a change that takes a tree of the block takes it at an entry
pub accepts-entry : (first width : ℕ) (ch : Change) (t : Tree) → IsOrderedFrom first t → Accepts first width ch t → AcceptsEntry first width ch t
accepts-entry first width (Drop delta most) t h e = chains-entry first width t h e
accepts-entry first width (Cap delta cap) t h e = chains-entry first width t h e
accepts-entry first width Any t h e = chains-entry first width t h e
accepts-entry first width (At age) t h e = chains-entry first width t h e
accepts-entry first width Stamp t h e = leaf_here first t h e

-- an age tree has chains
pub ages-chains : (first width : ℕ) (t : Tree) (age : List Bool → Option ℕ) → HasAges first width t age → HasChains first width t
ages-chains first width t age h bits = (age bits, h.fits bits, entry-chain first width t age h bits)

-- the change, case by case

-- a change above the block joins the changes of the children
pub changed-above : (first width : ℕ) (ch : Change) (l : ℕ) (a b : Tree) → l < first → changed first width ch (Branch l a b) ≡ join l (changed first width ch a) (changed first width ch b)
changed-above first width ch l a b h = ap (λ z. cond z (join l (changed first width ch a) (changed first width ch b)) (changed_entry first width ch (Branch l a b))) (is_less l first h)

-- a change in the block changes the entry
pub changed-here : (first width : ℕ) (ch : Change) (t : Tree) → IsOrderedFrom first t → changed first width ch t ≡ changed_entry first width ch t
changed-here first width ch Zero h = refl
changed-here first width ch One h = refl
changed-here first width ch (Branch l a b) h = ap (λ z. cond z (join l (changed first width ch a) (changed first width ch b)) (changed_entry first width ch (Branch l a b))) (is_no_less l first h.0)

fits : (first width : ℕ) (ch : Change) → IsFit first (λ u. changed_entry first width ch u)
fits first width (Drop delta most) = chains-fit first width _
fits first width (Cap delta cap) = chains-fit first width _
fits first width Any = leaves-fit first _
fits first width (At age) = leaves-fit first _
fits first width Stamp = chains-fit first width _

-- a change keeps the order of levels
pub changed-ordered : (first width : ℕ) (ch : Change) (t : Tree) (n : ℕ) → n ≤ first → IsOrderedFrom n t → IsOrderedFrom n (changed first width ch t)
changed-ordered first width ch t n l o = at_entries-ordered first (λ u. changed_entry first width ch u) (fits first width ch) t n l o

-- so a walk can change the parts of a tree
pub change_joins : (first width : ℕ) (ch : Change) → JoinsAbove (λ t. changed first width ch t) first
change_joins first width ch = record { above = changed-above first width ch; ordered = changed-ordered first width ch }

-- a chain's first bit

pub record FirstBit (first w n : ℕ) (a b : Tree) : Type 0 where
  pub high : a ≡ Zero → (2 ^ w ≤ n) × (b ≡ chain (first + 1) w (n - 2 ^ w))
  pub low : (a ≡ Zero → ⊥) → (n < 2 ^ w) × (a ≡ chain (first + 1) w n)

apart : (t : Tree) → tree_eq t Zero ≡ false → t ≡ Zero → ⊥
apart t e p = let q : tree_eq Zero Zero ≡ false = subst (λ u. tree_eq u Zero ≡ false) p e in cc

-- the children of a chain tell its first bit
pub first_bit : (first w n l : ℕ) (a b : Tree) → Branch l a b ≡ chain first (suc w) n → FirstBit first w n a b
first_bit first w n l a b =
    cond_both (nat_le (2 ^ w) n) (Branch first Zero (chain (first + 1) w (n - 2 ^ w))) (Branch first (chain (first + 1) w n) Zero) (λ t. Branch l a b ≡ t → FirstBit first w n a b)
    (λ e p. (let ea : a ≡ Zero = cc in let eb : b ≡ chain (first + 1) w (n - 2 ^ w) = cc in record { high = λ z. (leb-true (2 ^ w) n e, eb); low = λ z. absurd (z ea) }))
    (λ e p. (let ea : a ≡ chain (first + 1) w n = cc in record { high = λ z. absurd (apart (chain (first + 1) w n) (chain-no_zero (first + 1) w n) (sym ea ∙ z)); low = λ z. (leb-false (2 ^ w) n e, ea) }))

-- a chain of some bits is a branch
pub no_leaf : (first w n : ℕ) (t : Tree) → t ≡ chain first (suc w) n → (t ≡ Zero → ⊥) × (t ≡ One → ⊥)
no_leaf first w n t =
    cond_both (nat_le (2 ^ w) n) (Branch first Zero (chain (first + 1) w (n - 2 ^ w))) (Branch first (chain (first + 1) w n) Zero) (λ u. t ≡ u → (t ≡ Zero → ⊥) × (t ≡ One → ⊥))
    (λ e p. ((λ z. cc), (λ z. cc))) (λ e p. ((λ z. cc), (λ z. cc)))

-- what is read at an entry

entry_number : (first width r : ℕ) (t : Tree) (o : Option ℕ) → IfSome o (λ a. a < 2 ^ width) → t ≡ chain_of first width o → (t ≡ Zero → ⊥) →
    ((first n : ℕ) → n < 2 ^ width → t ≡ chain first width n → r ≡ n) → Some r ≡ read_on 0 t
entry_number first width r t None small e z given = absurd (z e)
entry_number first width r t (Some n) small e z given =
    ap (λ x. Some x) (given first n small e) ∙ sym (ap (read_on 0) e ∙ chain_of-read first width (Some n) small)

-- the number of the chain is the age that stands there
pub entry_read : (first width r : ℕ) (t : Tree) → IsEntry first width t → (t ≡ Zero → ⊥) → ((first n : ℕ) → n < 2 ^ width → t ≡ chain first width n → r ≡ n) → Some r ≡ read_on 0 t
entry_read first width r t e z given = entry_number first width r t e.0 e.1 e.2 z given

-- where an entry is not the leaf that is false, it is a chain
pub entry_chain : (first width : ℕ) (t : Tree) → IsEntry first width t → (t ≡ Zero → ⊥) → (k : ℕ) × (n : ℕ) × (n < 2 ^ width) × (t ≡ chain k width n)
entry_chain first width t (o, small, e) z = by o small e
  where
    by : (o : Option ℕ) → IfSome o (λ a. a < 2 ^ width) → t ≡ chain_of first width o → (k : ℕ) × (n : ℕ) × (n < 2 ^ width) × (t ≡ chain k width n)
    by None small e = absurd (z e)
    by (Some n) small e = (first, n, small, e)

-- and there is an age
pub entry_there : (first width : ℕ) (t : Tree) → IsEntry first width t → (t ≡ Zero → ⊥) → is_there (read_on 0 t) ≡ true
entry_there first width t (o, small, e) z = by o small e
  where
    by : (o : Option ℕ) → IfSome o (λ a. a < 2 ^ width) → t ≡ chain_of first width o → is_there (read_on 0 t) ≡ true
    by None small e = absurd (z e)
    by (Some n) small e = ap is_there (ap (read_on 0) e ∙ chain_of-read first width (Some n) small)
