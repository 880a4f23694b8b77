-- The trace of a run's files: which were asked for, what came of it, and what the files tell of
-- that.
use Rattle.std.specs.Prelude.{◌≡◌, ⊤, List, [], ◌∷◌, ◌++◌, map, Bool, true, Option, Some, None, IfSome}
use Rattle.qtl_syntax.specs.Tree.{Text}

-- a list that is told has grown by these
abbrev pub Gained : {T : Type 0} → Option (List T) → Option (List T) → List T → Type 0
Gained None new xs = ⊤
Gained (Some told) None xs = ⊥
Gained (Some told) (Some now) xs = now ≡ told ++ xs

-- What came of asking for a file: no source was given; or one was, and when it was closed it had
-- failed or not, and had these bytes left, where they are told.
pub data Fate : Type 0 where
  NotGiven : Fate
  Closed : (hurt : Bool) → (left : Option Text) → Fate

pub record Use : Type 0 where
  pub name : Text
  pub came : Fate

-- the names that were asked for
abbrev pub names_in : List Use → List Text
names_in uses = map (λ u. u.name) uses

-- whether the closed sources had failed, in order
abbrev pub hurt_by : Fate → List Bool → List Bool
hurt_by NotGiven later = later
hurt_by (Closed hurt left) later = hurt ∷ later

abbrev pub hurt_in : List Use → List Bool
hurt_in [] = []
hurt_in (u ∷ uses) = hurt_by u.came (hurt_in uses)

-- what they had left, where each of them tells it
abbrev pub told_first : Option Text → Option (List Text) → Option (List Text)
told_first (Some text) (Some later) = Some (text ∷ later)
told_first _ _ = None

abbrev pub left_by : Fate → Option (List Text) → Option (List Text)
left_by NotGiven later = later
left_by (Closed hurt left) later = told_first left later

abbrev pub left_in : List Use → Option (List Text)
left_in [] = Some []
left_in (u ∷ uses) = left_by u.came (left_in uses)

-- What the files tell, before and after these uses: the names, and of each closed source whether it
-- had failed and what it had left. So sources are closed in the order in which they were given.
pub record TellUses (uses : List Use) (opened0 opened1 : Option (List Text))
    (hurt0 hurt1 : Option (List Bool)) (unread0 unread1 : Option (List Text)) : Type 0 where
  pub opened : Gained opened0 opened1 (names_in uses)
  pub hurt : Gained hurt0 hurt1 (hurt_in uses)
  pub unread : IfSome (left_in uses) (λ left. Gained unread0 unread1 left)

-- What a run asks of a file: none is given, one fails, or one is given
pub data Way : Type 0 where
  Refused : Way
  Failed : Way
  Given : Way

pub record Ask : Type 0 where
  pub name : Text
  pub way : Way

abbrev pub refused : Text → Ask
refused name = record { name = name; way = Refused }

abbrev pub failed : Text → Ask
failed name = record { name = name; way = Failed }

abbrev pub given : Text → Ask
given name = record { name = name; way = Given }

-- a use of this way
abbrev pub IsWay : Way → Fate → Type 0
IsWay Refused NotGiven = ⊤
IsWay Failed (Closed hurt left) = hurt ≡ true
IsWay Given (Closed hurt left) = ⊤
IsWay _ _ = ⊥

-- these files were asked for, in this order, and in these ways
abbrev pub AreAsked : List Ask → List Use → Type 0
AreAsked [] [] = ⊤
AreAsked (a ∷ asks) (u ∷ uses) = (u.name ≡ a.name) × IsWay a.way u.came × AreAsked asks uses
AreAsked _ _ = ⊥

-- the first of these files were, perhaps none
abbrev pub AreSomeAsked : List Ask → List Use → Type 0
AreSomeAsked asks uses =
    (first : List Ask) × (later : List Ask) × (asks ≡ first ++ later) × AreAsked first uses
