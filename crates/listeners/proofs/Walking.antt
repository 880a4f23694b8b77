-- A call on all listeners goes one listener further, or stops there. Up to place i the lists are as the
-- call left them, and from i on they are as before.
use Rattle.std.proofs.Common.{◌≡◌, ◌<◌, ◌+◌, ℕ, suc, Bool, false, List, [], ◌∷◌, ◌++◌, length, map}
use Rattle.std.proofs.Common.{take, drop, set, get_or, inl, inr, refl, sym, ap, ◌∙◌, arith, add-one}
use Rattle.std.proofs.Common.{take-suc, take-suc-set, drop-cons, drop-set-lt}
use Rattle.std.proofs.Math.Seq.{map-set_same}
use Rattle.std.proofs.lemmas.List.{take-set, drop-set, take-append-drop}
use Rattle.listeners.specs.Each.{Each, StopsAt}

-- the member at i ends the list up to it
up_to : {A : Type 0} (xs : List A) (i : ℕ) (y : A) → i < length xs → y ≡ get_or xs i y
    → take (i + 1) xs ≡ take i xs ++ y ∷ []
up_to {A} xs i y within here =
    rw add-one (take-suc xs i y within ∙ ap (λ (x : A). take i xs ++ x ∷ []) (sym here))

-- and begins the list from it on
from_on : {A : Type 0} (xs : List A) (i : ℕ) (y : A) → i < length xs → y ≡ get_or xs i y
    → drop i xs ≡ y ∷ drop (suc i) xs
from_on {A} xs i y within here =
    drop-cons xs i y within ∙ ap (λ (x : A). x ∷ drop (suc i) xs) (sym here)

-- lists that are the same from i on have the same member there, and are the same behind it
same_next : {A : Type 0} (old cur : List A) (i : ℕ) (y : A) → i < length old → i < length cur
    → drop i cur ≡ drop i old
    → (get_or cur i y ≡ get_or old i y) × (drop (suc i) cur ≡ drop (suc i) old)
same_next old cur i y in_old in_cur same =
    let parts : get_or cur i y ∷ drop (suc i) cur ≡ get_or old i y ∷ drop (suc i) old
    = sym (drop-cons cur i y in_cur) ∙ same ∙ drop-cons old i y in_old in
    ((cc), (cc))

-- so the member of the one is that of the other
same_here : {A : Type 0} (old cur : List A) (i : ℕ) (y : A) → i < length old → i < length cur
    → drop i cur ≡ drop i old → y ≡ get_or cur i y → y ≡ get_or old i y
same_here old cur i y in_old in_cur same here = here ∙ (same_next old cur i y in_old in_cur same).0

-- a write at i leaves what is behind it
pub same_behind : {A : Type 0} (old cur : List A) (i : ℕ) (y : A) → i < length old
    → i < length cur → drop i cur ≡ drop i old → drop (i + 1) (set cur i y) ≡ drop (i + 1) old
same_behind old cur i y in_old in_cur same =
    drop-set-lt (i + 1) cur i y (omega arith)
    ∙ rw add-one (same_next old cur i y in_old in_cur same).1

-- what a call leaves of the listener at i, it leaves of all
pub map_stays : {B A : Type 0} (f : B → A) (old cur : List B) (i : ℕ) (b c : B)
    → b ≡ get_or cur i b → f c ≡ f b → map f cur ≡ map f old → map f (set cur i c) ≡ map f old
map_stays f old cur i b c here stays all = map-set_same f cur i c b (stays ∙ ap f here) ∙ all

-- one listener more at the end
each_append : {B : Type 0} (R : B → B → Bool → Bool → Type 0) (bs cs : List B) (fs gs : List Bool)
    (b c : B) (f g : Bool) → Each R bs cs fs gs → R b c f g
    → Each R (bs ++ b ∷ []) (cs ++ c ∷ []) (fs ++ f ∷ []) (gs ++ g ∷ [])
each_append R [] [] [] [] b c f g each one = (one, tt)
each_append R (x ∷ bs) (y ∷ cs) (h ∷ fs) (k ∷ gs) b c f g each one =
    (each.0, each_append R bs cs fs gs b c f g each.1 one)
each_append R _ _ _ _ b c f g each one = absurd each

-- the listener at i was called
pub each_step : {B : Type 0} (R : B → B → Bool → Bool → Type 0) (old cur : List B)
    (fs gs : List Bool) (i : ℕ) (b c : B) (f g : Bool)
    → i < length old → i < length cur → i < length fs → i < length gs
    → Each R (take i old) (take i cur) (take i fs) (take i gs)
    → drop i cur ≡ drop i old → drop i gs ≡ drop i fs
    → b ≡ get_or cur i b → f ≡ get_or gs i f → R b c f g
    → Each R (take (i + 1) old) (take (i + 1) (set cur i c)) (take (i + 1) fs) (take (i + 1) (set gs i g))
each_step R old cur fs gs i b c f g in_old in_cur in_fs in_gs each same same_flags b_here f_here one =
    let olds = up_to old i b in_old (same_here old cur i b in_old in_cur same b_here) in
    let curs : take (i + 1) (set cur i c) ≡ take i cur ++ c ∷ []
    = rw add-one (take-suc-set cur i c in_cur) in
    let flags = up_to fs i f in_fs (same_here fs gs i f in_fs in_gs same_flags f_here) in
    let now_flags : take (i + 1) (set gs i g) ≡ take i gs ++ g ∷ []
    = rw add-one (take-suc-set gs i g in_gs) in
    rw (olds, curs, flags, now_flags)
    (each_append R (take i old) (take i cur) (take i fs) (take i gs) b c f g each one)

-- those before were called, and then one had no memory
stops_behind : {B : Type 0} (R : B → B → Bool → Bool → Type 0) (S : B → B → Type 0)
    (bs cs xs ys : List B) (fs gs hs ks : List Bool) → Each R bs cs fs gs → StopsAt R S xs ys hs ks
    → StopsAt R S (bs ++ xs) (cs ++ ys) (fs ++ hs) (gs ++ ks)
stops_behind R S [] [] xs ys [] [] hs ks each stops = stops
stops_behind R S (b ∷ bs) (c ∷ cs) xs ys (f ∷ fs) (g ∷ gs) hs ks each stops =
    inl (each.0, stops_behind R S bs cs xs ys fs gs hs ks each.1 stops)
stops_behind R S _ _ xs ys _ _ hs ks each stops = absurd each

-- the listener at i had no memory
pub stops_here : {B : Type 0} (R : B → B → Bool → Bool → Type 0) (S : B → B → Type 0)
    (old cur : List B) (fs gs : List Bool) (i : ℕ) (b c : B) (f : Bool)
    → i < length old → i < length cur → i < length fs → i < length gs
    → Each R (take i old) (take i cur) (take i fs) (take i gs)
    → drop i cur ≡ drop i old → drop i gs ≡ drop i fs
    → b ≡ get_or cur i b → f ≡ get_or gs i f → f ≡ false → S b c
    → StopsAt R S old (set cur i c) fs gs
stops_here {B} R S old cur fs gs i b c f in_old in_cur in_fs in_gs each same same_flags b_here f_here unset left =
    let olds = from_on old i b in_old (same_here old cur i b in_old in_cur same b_here) in
    let behind = (same_next old cur i b in_old in_cur same).1 in
    let curs : drop i (set cur i c) ≡ c ∷ drop (suc i) old
    = drop-set cur i c in_cur ∙ rw add-one (ap (λ (ys : List B). c ∷ ys) behind) in
    let flags = from_on fs i f in_fs (same_here fs gs i f in_fs in_gs same_flags f_here) in
    let now_flags = same_flags ∙ flags in
    let rest : StopsAt R S (drop i old) (drop i (set cur i c)) (drop i fs) (drop i gs)
    = rw (olds, curs, flags, now_flags) (inr (left, unset, unset, refl, refl)) in
    let before = take-set cur i c in
    let whole = stops_behind R S (take i old) (take i (set cur i c)) _ _ (take i fs) (take i gs) _ _
    (rw before each) rest in
    rw (← take-append-drop i old, ← take-append-drop i (set cur i c), ← take-append-drop i fs, ← take-append-drop i gs)
    whole
