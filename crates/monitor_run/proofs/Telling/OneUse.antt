-- The trace of one file: it was given, its read failed, it was refused, or there was no memory.
use Rattle.std.proofs.Common.{◌≡◌, ℕ, List, [], ◌∷◌, refl, sym, ap, append-nil, arith, Bool, true, nat_lt}
use Rattle.std.proofs.lemmas.Bool.Decides.{nat_tests}
use Rattle.std.specs.Prelude.{Option, Some, None, IfSome, IsSomeAnd}
use Rattle.std.specs.Io.KnownBytes.{Consumes}
use Rattle.mon_base.specs.Causes.{Rose}
use Rattle.mon_base.specs.Told.{Stays, Gains, GainsTold, GivesText, text_of}
use Rattle.qtl_syntax.specs.Tree.{Text}
use Rattle.run_model.specs.Uses.{Use, NotGiven, Closed, Failed, Refused, given, AreAsked, AreSomeAsked, left_in, told_first}
use Rattle.monitor_run.specs.Opening.{AreTold}
use Rattle.monitor_run.proofs.ReadLog.Reads.{taken}
use Rattle.run_model.proofs.Trace.{tell_refused, tell_closed, stays_gained}

-- a source that failed once has failed
pub has_failed : (before count : ℕ) → before ≡ 0 → Rose before count → nat_lt 0 count ≡ true
has_failed before count fresh r = grind (arith, nat_tests, r, fresh)

-- where the texts are told, so is what a source has left

left_of : (texts : List (Text × Text)) (name : Text) (left0 left1 : Option Text) (o : Option Text) → IsSomeAnd o (λ bytes. left0 ≡ Some bytes) → (given : Text) → Consumes left0 left1 given → (l : Text) × (left1 ≡ Some l)
left_of texts name left0 left1 (Some all) is given c = let k = taken left0 left1 all given is c in (k.0, k.1)
left_of texts name left0 left1 None is given c = absurd is

pub left_told : (t : Option (List (Text × Text))) (name : Text) (left0 left1 : Option Text) → GivesText t name left0 → (given : Text) × Consumes left0 left1 given → IfSome t (λ _. (l : Text) × (left1 ≡ Some l))
left_told None name left0 left1 g c = tt
left_told (Some texts) name left0 left1 g c = left_of texts name left0 left1 (text_of texts name) g c.0 c.1

lefts_told : (t : Option (List (Text × Text))) (name : Text) (hurt : Bool) (left : Option Text) → IfSome t (λ _. (l : Text) × (left ≡ Some l)) →
    IfSome t (λ _. (lefts : List Text) × (left_in (record { name = name; came = Closed hurt left } ∷ []) ≡ Some lefts))
lefts_told None name hurt left k = tt
lefts_told (Some texts) name hurt left (l, is) = (l ∷ [], ap (λ (o : Option Text). told_first o (Some [])) is)

pub none_told : (t : Option (List (Text × Text))) → IfSome t (λ _. (lefts : List Text) × (left_in [] ≡ Some lefts))
none_told None = tt
none_told (Some texts) = ([], refl)

refused_told : (t : Option (List (Text × Text))) (name : Text) → IfSome t (λ _. (lefts : List Text) × (left_in (record { name = name; came = NotGiven } ∷ []) ≡ Some lefts))
refused_told None name = tt
refused_told (Some texts) name = ([], refl)

module _ (t : Option (List (Text × Text))) (name : Text) (o0 o1 o2 : Option (List Text)) (h0 h1 h2 : Option (List Bool)) (u0 u1 u2 : Option (List Text)) where
  module _ (hurt : Bool) (left : Option Text) (a : Gains o0 o1 name) (b : Stays o1 o2) (c : Stays h0 h1) (d : Gains h1 h2 hurt) (e : Stays u0 u1) (f : GainsTold u1 u2 left) (k : IfSome t (λ _. (l : Text) × (left ≡ Some l))) where
    abbrev used : List Use
    used = record { name = name; came = Closed hurt left } ∷ []

    told : AreTold t used o0 o2 h0 h2 u0 u2
    told = record { told = tell_closed name hurt left o0 o1 o2 h0 h1 h2 u0 u1 u2 a b c d e f; left = lefts_told t name hurt left k }

    pub use_given : (uses : List Use) × AreAsked (given name ∷ []) uses × AreTold t uses o0 o2 h0 h2 u0 u2
    use_given = (used, (refl, tt, tt), told)

    pub use_failed : hurt ≡ true → (uses : List Use) × AreAsked (record { name = name; way = Failed } ∷ []) uses × AreTold t uses o0 o2 h0 h2 u0 u2
    use_failed is = (used, (refl, is, tt), told)

    -- given, and then there was no memory
    pub use_starved : {P : Type 0} → P → (uses : List Use) × (P × AreSomeAsked (given name ∷ []) uses) × AreTold t uses o0 o2 h0 h2 u0 u2
    use_starved p = (used, (p, (given name ∷ [], [], sym (append-nil (given name ∷ [])), (refl, tt, tt))), told)

  pub use_refused : Gains o0 o1 name → Stays h0 h1 → Stays u0 u1 → (uses : List Use) × AreAsked (record { name = name; way = Refused } ∷ []) uses × AreTold t uses o0 o1 h0 h1 u0 u1
  use_refused a b c = (record { name = name; came = NotGiven } ∷ [], (refl, tt, tt), record { told = tell_refused name o0 o1 h0 h1 u0 u1 a b c; left = refused_told t name })

  -- nothing was asked for
  pub use_none : {P : Type 0} → P → Stays o0 o1 → Stays h0 h1 → Stays u0 u1 → (uses : List Use) × (P × AreSomeAsked (given name ∷ []) uses) × AreTold t uses o0 o1 h0 h1 u0 u1
  use_none p a b c = ([], (p, ([], given name ∷ [], refl, tt)), record { told = record { opened = stays_gained o0 o1 a; hurt = stays_gained h0 h1 b; unread = stays_gained u0 u1 c }; left = none_told t })

pub stays_same : {T : Type 0} (a : Option (List T)) → Stays a a
stays_same None = tt
stays_same (Some xs) = refl
