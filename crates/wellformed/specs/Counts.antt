-- Sizes and numbers of quantifiers, each told up to 1,000,000.
use Rattle.std.specs.Prelude.{◌≡◌, ℕ, ◌+◌, List, [], ◌∷◌, min}
use Rattle.qtl_syntax.specs.declared.formula.Item as rust_item
use Rattle.qtl_syntax.specs.Tree.{Formula, Item, Pred, Prop, item_of}
use Rattle.wellformed.specs.declared.counts.Counts.{Counts}
use Rattle.wellformed.specs.Expansion.{size, quantifiers}
use Rattle.wellformed.specs.Faults.{body_of}

-- a size and a number of quantifiers, or 1,000,000 where that is less
pub record IsCount (c : Counts) (nodes bound : ℕ) : Type 0 where
  pub size : c.size ≡ min nodes 1000000
  pub quantifiers : c.quantifiers ≡ min bound 1000000

-- those of a formula under the items before it
abbrev pub IsCountOf : Counts → List Item → Formula → Type 0
IsCountOf c before f = IsCount c (size before f) (quantifiers before f)

-- those of the formula of each item, which stands behind these items and the ones in front of it
abbrev pub AreCounts : List Item → List rust_item.Item → List Counts → Type 0
AreCounts before [] [] = Unit {0}
AreCounts before (item ∷ items) (c ∷ counts) = IsCountOf c before (body_of (item_of item)) × AreCounts (item_of item ∷ before) items counts
AreCounts before _ _ = ⊥

-- a total with the counts of an item, if it is a property
abbrev pub IsTotal : Counts → Counts → Item → Counts → Type 0
IsTotal old own (Pred name params body) new = new ≡ old
IsTotal old own (Prop name body) new =
    (new.size ≡ min (old.size + own.size) 1000000) × (new.quantifiers ≡ min (old.quantifiers + own.quantifiers) 1000000)
