-- What a tree is on the way along the `forall` at the top of a formula, and what the way costs.
use Rattle.std.specs.Prelude.{ℕ, ◌+◌, ◌*◌, ◌^◌, ◌⊎◌, List, [], ◌∷◌, length, slice_get, unwrap_or}
use Rattle.std.specs.Option.{option_map}
use Rattle.subformulas.specs.Unfolded.{formula_at}
use Rattle.node_tree.specs.Levels.{AllLevels, IsInBlock}
use Rattle.node_tree.specs.Tree.{Tree}
use Rattle.monitor_model.specs.Setting.{Setting, first_of}
use Rattle.monitor_model.specs.State.{State}
use Rattle.report.specs.Witness.{chain}

-- the level is one of the block of one of these variables
abbrev pub IsLevelOf : Setting → List ℕ → (level : ℕ) → Type 0
IsLevelOf s [] level = ⊥
IsLevelOf s (x ∷ xs) level = IsInBlock (first_of s x) s.bits level ⊎ IsLevelOf s xs level

-- the levels of the tree are those of the variables whose turn is to come
abbrev pub HasTurns : Setting → List ℕ → Tree → Type 0
HasTurns s xs tree = AllLevels (IsLevelOf s xs) tree

module _ (m : State) where
  -- the number of the formula of property p
  abbrev pub root_of : (p : ℕ) → ℕ
  root_of p = unwrap_or (option_map (λ q. q.root) (slice_get m.plan.props p)) 0

  -- how many steps its witness costs at most
  abbrev pub find_bound : (root : ℕ) → ℕ
  find_bound root = length (chain (formula_at m.plan.subs root)) * ((m.bits + 1) * 2 ^ m.bits)
