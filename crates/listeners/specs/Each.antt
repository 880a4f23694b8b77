-- What a call on all listeners makes of each, and of its flag, which is set once a call of it failed.
use Rattle.std.specs.Prelude.{◌≡◌, Bool, true, false, List, [], ◌∷◌, ⊤, ◌⊎◌}
use Rattle.listeners.specs.Meaning.{Meaning, TellSucceeds, FinishSucceeds, CallFails, LacksMemory}

-- one listener, by its flag before and after: where that was set, listener and flag are the same;
-- where it was not, the call succeeded and the flag still is not, or the call failed and it is
abbrev pub ByFlag : {B : Type 0} → (B → B → Type 0) → (B → B → Type 0) → B → B → Bool → Bool
    → Type 0
ByFlag Succeeds Fails old new true true = new ≡ old
ByFlag Succeeds Fails old new true false = ⊥
ByFlag Succeeds Fails old new false false = Succeeds old new
ByFlag Succeeds Fails old new false true = Fails old new

-- one listener is told x, unless its flag is set
abbrev pub IsTold : {B T : Type 0} → Meaning B T → T → B → B → Bool → Bool → Type 0
IsTold m x = ByFlag (TellSucceeds m x) (CallFails m)

-- one listener is finished, unless its flag is set
abbrev pub IsFinished : {B T : Type 0} → Meaning B T → B → B → Bool → Bool → Type 0
IsFinished m = ByFlag (FinishSucceeds m) (CallFails m)

-- this holds of each listener and its flag, before and after
abbrev pub Each : {B : Type 0} → (B → B → Bool → Bool → Type 0) → List B → List B → List Bool
    → List Bool → Type 0
Each IsCalled [] [] [] [] = ⊤
Each IsCalled (old ∷ olds) (new ∷ news) (was ∷ wases) (now ∷ nows) =
    IsCalled old new was now × Each IsCalled olds news wases nows
Each IsCalled _ _ _ _ = ⊥

-- the same of each listener before one whose flag is not set and of which this holds; the listeners
-- behind that one are the same, and so are the flags from it on
abbrev pub StopsAt : {B : Type 0} → (B → B → Bool → Bool → Type 0) → (B → B → Type 0) → List B
    → List B → List Bool → List Bool → Type 0
StopsAt IsCalled IsLeft (old ∷ olds) (new ∷ news) (was ∷ wases) (now ∷ nows) =
    (IsCalled old new was now × StopsAt IsCalled IsLeft olds news wases nows)
    ⊎ (IsLeft old new × (was ≡ false) × (now ≡ false) × (news ≡ olds) × (nows ≡ wases))
StopsAt IsCalled IsLeft _ _ _ _ = ⊥

-- each listener is told x, unless its flag is set
abbrev pub EachIsTold : {B T : Type 0} → Meaning B T → T → List B → List B → List Bool → List Bool
    → Type 0
EachIsTold m x = Each (IsTold m x)

-- each listener is finished, unless its flag is set
abbrev pub EachIsFinished : {B T : Type 0} → Meaning B T → List B → List B → List Bool → List Bool
    → Type 0
EachIsFinished m = Each (IsFinished m)

-- so each listener is told x before one that has no memory
abbrev pub TellingStops : {B T : Type 0} → Meaning B T → T → List B → List B → List Bool
    → List Bool → Type 0
TellingStops m x = StopsAt (IsTold m x) (LacksMemory m)

-- so each listener is finished before one that has no memory
abbrev pub FinishingStops : {B T : Type 0} → Meaning B T → List B → List B → List Bool
    → List Bool → Type 0
FinishingStops m = StopsAt (IsFinished m) (LacksMemory m)
