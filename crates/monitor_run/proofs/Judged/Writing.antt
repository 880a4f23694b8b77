-- What an event writes, verdict by verdict.
use Rattle.std.proofs.Common.{◌≡◌, ℕ, zero, suc, ◌+◌, ◌<◌, ◌≤◌, List, [], ◌∷◌, ◌++◌, length, take, drop, map, refl, sym, ap, ◌∙◌, append_assoc, append-nil, length-append, take-append-drop, subst, arith, Bool, true, false, Option, Some, None}
use Rattle.std.specs.Prelude.{if◌then◌else◌, slice_get, unwrap_or}
use Rattle.std.specs.Bool.{◌==◌}
use Rattle.std.specs.List.{sum_by}
use Rattle.std.specs.Option.{option_map}
use Rattle.std.proofs.lemmas.Bool.Decides.{nat_tests}
use Rattle.std.proofs.lemmas.List.{length-map}
use Rattle.std.proofs.lemmas.List.Sums.{sum_by-append, sum_by-cons, sum_by-take-le}
use Rattle.std.proofs.lemmas.Option.{slice_get-map}
use Rattle.qtl_syntax.specs.Tree.{Text}
use Rattle.subformulas.specs.declared.table.PlanProp.{PlanProp}
use Rattle.monitor_model.specs.State.{State, verdict_at}
use Rattle.report.specs.Lines.{event_lines, verdict_text, violation_line}
use Rattle.report.specs.Passing.{Passes}
use Rattle.report.specs.Verdicts.{Verdict, True, False, false_in}
use Rattle.report.specs.declared.shown.Shown.{Shown}
use Rattle.report.proofs.Passages.{front_before, passes_front, passes_trans}
use Rattle.mon_base.specs.Told.{AppendsFront}
use Rattle.witness.specs.Finding.{witness_of}
use Rattle.witness.specs.Turns.{find_bound}
use Rattle.monitor_run.specs.Judging.{witness_bound, witnesses_in}
use Rattle.monitor_run.specs.Standing.{names_in, row_of, verdict_of}

get_within : {A : Type 0} (xs : List A) (k : ℕ) (v : A) → slice_get xs k ≡ Some v → k < length xs
get_within [] k v e = absurd (let no : ⊥ = cc in no)
get_within (x ∷ xs) zero v e = omega arith
get_within (x ∷ xs) (suc k) v e = let h = get_within xs k v e in omega (arith, h)

-- The witnesses, one verdict more

witnesses_append : (xs ys : List Verdict) → witnesses_in (xs ++ ys) ≡ witnesses_in xs ++ witnesses_in ys
witnesses_append [] ys = refl
witnesses_append (True ∷ xs) ys = witnesses_append xs ys
witnesses_append (False w ∷ xs) ys = ap (λ (l : List (List Shown)). w ∷ l) (witnesses_append xs ys)

take_more : {A : Type 0} (xs : List A) (k : ℕ) (v : A) → slice_get xs k ≡ Some v → (take (k + 1) xs ≡ take k xs ++ v ∷ []) × (length (take k xs) ≡ k)
take_more [] k v e = absurd (let no : ⊥ = cc in no)
take_more (x ∷ xs) zero v e = let same : x ≡ v = cc in (ap (λ w. w ∷ []) same, refl)
take_more (x ∷ xs) (suc k) v e =
    let more = take_more xs k v e in
    let n : suc k + 1 ≡ suc (k + 1) = omega arith in
    (ap (λ (j : ℕ). take j (x ∷ xs)) n ∙ ap (λ l. x ∷ l) more.0, let c = more.1 in omega (arith, c))

next_witnesses : (row : List Verdict) (p : ℕ) (v : Verdict) → slice_get row p ≡ Some v → witnesses_in (take (p + 1) row) ≡ witnesses_in (take p row) ++ witnesses_in (v ∷ [])
next_witnesses row p v at = ap witnesses_in (take_more row p v at).0 ∙ witnesses_append (take p row) (v ∷ [])

-- the verdict on a property
row_at : (m : State) (p : ℕ) (q : PlanProp) → slice_get m.plan.props p ≡ Some q → slice_get (row_of m) p ≡ Some (verdict_of m q)
row_at m p q at = slice_get-map (verdict_of m) m.plan.props p ∙ ap (option_map (verdict_of m)) at

verdict_by : (m : State) (q : PlanProp) (b : Bool) → verdict_at m q.root ≡ b → verdict_of m q ≡ (if b then True else False (witness_of m q.root))
verdict_by m q b e = ap (λ (c : Bool). if c then True else False (witness_of m q.root)) e

prop_at : (m : State) (p : ℕ) (b : Bool) (o : Option PlanProp) → slice_get m.plan.props p ≡ o → option_map (λ q. verdict_at m q.root) o ≡ Some b →
    (q : PlanProp) × (slice_get m.plan.props p ≡ Some q) × (verdict_at m q.root ≡ b)
prop_at m p b None at e = absurd (let no : ⊥ = cc in no)
prop_at m p b (Some q) at e = (q, at, let same : verdict_at m q.root ≡ b = cc in same)

-- the verdict on a property, by what the monitor tells of it
row_told : (m : State) (p : ℕ) (b : Bool) → option_map (λ q. verdict_at m q.root) (slice_get m.plan.props p) ≡ Some b →
    (q : PlanProp) × (slice_get m.plan.props p ≡ Some q) × (slice_get (row_of m) p ≡ Some (if b then True else False (witness_of m q.root)))
row_told m p b told =
    let prop = prop_at m p b (slice_get m.plan.props p) refl told in
    (prop.0, prop.1, row_at m p prop.0 prop.1 ∙ ap Some (verdict_by m prop.0 b prop.2))

-- a true one adds none
pub true_adds : (m : State) (p : ℕ) → option_map (λ q. verdict_at m q.root) (slice_get m.plan.props p) ≡ Some true → witnesses_in (take (p + 1) (row_of m)) ≡ witnesses_in (take p (row_of m))
true_adds m p told = next_witnesses (row_of m) p True (row_told m p true told).2 ∙ append-nil (witnesses_in (take p (row_of m)))

-- a false one adds its own
pub false_adds : (m : State) (p root : ℕ) (witness : List Shown) → option_map (λ q. verdict_at m q.root) (slice_get m.plan.props p) ≡ Some false →
    unwrap_or (option_map (λ q. q.root) (slice_get m.plan.props p)) 0 ≡ root → witness ≡ witness_of m root →
    witnesses_in (take (p + 1) (row_of m)) ≡ witnesses_in (take p (row_of m)) ++ witness ∷ []
false_adds m p root witness told at is =
    let (q, there, row) = row_told m p false told in
    let own : q.root ≡ root = sym (ap (λ o. unwrap_or (option_map (λ (q : PlanProp). q.root) o) 0) there) ∙ at in
    next_witnesses (row_of m) p (False witness) (row ∙ ap (λ (w : List Shown). Some (False w)) (ap (witness_of m) own ∙ sym is))

-- so there is one more
pub false_adds_one : (m : State) (p : ℕ) → option_map (λ q. verdict_at m q.root) (slice_get m.plan.props p) ≡ Some false → length (witnesses_in (take (p + 1) (row_of m))) ≡ length (witnesses_in (take p (row_of m))) + 1
false_adds_one m p told =
    let (q, there, row) = row_told m p false told in
    let more = ap length (next_witnesses (row_of m) p (False (witness_of m q.root)) row) in
    let n = length-append (witnesses_in (take p (row_of m))) (witness_of m q.root ∷ []) in
    omega (arith, more, n)

take_past : {A : Type 0} (xs : List A) (n : ℕ) → length xs ≤ n → take n xs ≡ xs
take_past [] zero h = refl
take_past [] (suc n) h = refl
take_past (x ∷ xs) zero h = absurd (omega arith)
take_past (x ∷ xs) (suc n) h = ap (λ l. x ∷ l) (take_past xs n (omega arith))

-- all properties were gone through
pub all_witnesses : (m : State) (p : ℕ) → length m.plan.props ≤ p → witnesses_in (take p (row_of m)) ≡ witnesses_in (row_of m)
all_witnesses m p h = ap witnesses_in (take_past (row_of m) p (let n = length-map m.plan.props (verdict_of m) in omega (arith, n, h)))

-- how many they are
witness_count : (row : List Verdict) → length (witnesses_in row) ≡ false_in row
witness_count [] = refl
witness_count (True ∷ row) = let h = witness_count row in omega (arith, h)
witness_count (False w ∷ row) = let h = witness_count row in omega (arith, h)

false_few : (row : List Verdict) → false_in row ≤ length row
false_few [] = omega arith
false_few (True ∷ row) = let h = false_few row in omega (arith, h)
false_few (False w ∷ row) = let h = false_few row in omega (arith, h)

pub count_is : {V : Type 0} (items : V → List Shown) (m : State) (found : List V) → map items found ≡ witnesses_in (row_of m) → (length found ≡ false_in (row_of m)) × (length found ≤ length m.plan.props)
count_is items m found are =
    let n : length found ≡ false_in (row_of m) = sym (length-map found items) ∙ (ap length are ∙ witness_count (row_of m)) in
    let few = false_few (row_of m) in
    let row = length-map m.plan.props (verdict_of m) in
    (n, omega (arith, n, few, row))

-- the witness of a false one stands where those before it end
witness_at : (row : List Verdict) (p : ℕ) (w : List Shown) → slice_get row p ≡ Some (False w) → slice_get (witnesses_in row) (length (witnesses_in (take p row))) ≡ Some w
witness_at [] p w at = absurd (let no : ⊥ = cc in no)
witness_at (True ∷ row) zero w at = absurd (let no : ⊥ = cc in no)
witness_at (False v ∷ row) zero w at = let same : v ≡ w = cc in ap Some same
witness_at (True ∷ row) (suc p) w at = witness_at row p w at
witness_at (False v ∷ row) (suc p) w at = witness_at row p w at

-- What is written of them

lines_append : (all : Bool) (event : ℕ) (ns ms : List Text) (us vs : List Verdict) → length ns ≡ length us →
    event_lines all event (ns ++ ms) (us ++ vs) ≡ event_lines all event ns us ++ event_lines all event ms vs
lines_append all event [] ms [] vs same = refl
lines_append all event [] ms (u ∷ us) vs same = absurd (omega (arith, same))
lines_append all event (n ∷ ns) ms [] vs same = absurd (omega (arith, same))
lines_append all event (n ∷ ns) ms (u ∷ us) vs same =
    ap (λ (l : Text). verdict_text all event n u ++ l) (lines_append all event ns ms us vs (omega (arith, same)))
    ∙ sym (append_assoc (verdict_text all event n u) (event_lines all event ns us) (event_lines all event ms vs))

-- the lines of the first properties
abbrev pub first_lines : (all : Bool) → ℕ → State → (p : ℕ) → Text
first_lines all event m p = event_lines all event (take p (names_in m)) (take p (row_of m))

module _ (all : Bool) (event : ℕ) (m : State) (p : ℕ) (name : Text) (v : Verdict)
    (named : slice_get (names_in m) p ≡ Some name) (there : slice_get (row_of m) p ≡ Some v) where
  -- one line more
  line_more : first_lines all event m (p + 1) ≡ first_lines all event m p ++ verdict_text all event name v
  line_more =
      let ns = take_more (names_in m) p name named in
      let vs = take_more (row_of m) p v there in
      ap (λ (l : List Text). event_lines all event l (take (p + 1) (row_of m))) ns.0
      ∙ ap (λ (l : List Verdict). event_lines all event (take p (names_in m) ++ name ∷ []) l) vs.0
      ∙ lines_append all event (take p (names_in m)) (name ∷ []) (take p (row_of m)) (v ∷ []) (ns.1 ∙ sym vs.1)
      ∙ ap (λ (l : Text). first_lines all event m p ++ l) (append-nil (verdict_text all event name v))

  -- and those behind it
  lines_split : event_lines all event (names_in m) (row_of m) ≡
      (first_lines all event m p ++ verdict_text all event name v) ++ event_lines all event (drop (p + 1) (names_in m)) (drop (p + 1) (row_of m))
  lines_split =
      let ns = take_more (names_in m) p name named in
      let vs = take_more (row_of m) p v there in
      let same : length (take (p + 1) (names_in m)) ≡ length (take (p + 1) (row_of m)) = let n = ap length ns.0 in let k = ap length vs.0 in omega (arith, n, k, ns.1, vs.1, length-append (take p (names_in m)) (name ∷ []), length-append (take p (row_of m)) (v ∷ [])) in
      ap (λ (l : List Text). event_lines all event l (row_of m)) (sym (take-append-drop (p + 1) (names_in m)))
      ∙ ap (λ (l : List Verdict). event_lines all event (take (p + 1) (names_in m) ++ drop (p + 1) (names_in m)) l) (sym (take-append-drop (p + 1) (row_of m)))
      ∙ lines_append all event (take (p + 1) (names_in m)) (drop (p + 1) (names_in m)) (take (p + 1) (row_of m)) (drop (p + 1) (row_of m)) same
      ∙ ap (λ (l : Text). l ++ event_lines all event (drop (p + 1) (names_in m)) (drop (p + 1) (row_of m))) line_more

-- nothing is written where no verdict is false, and true ones aren't shown
quiet_lines : (event : ℕ) (ns : List Text) (row : List Verdict) → witnesses_in row ≡ [] → event_lines false event ns row ≡ []
quiet_lines event [] row none = refl
quiet_lines event (n ∷ ns) [] none = refl
quiet_lines event (n ∷ ns) (True ∷ row) none = quiet_lines event ns row none
quiet_lines event (n ∷ ns) (False w ∷ row) none = absurd (let no : ⊥ = cc in no)

none_is : {V : Type 0} (xs : List V) → length xs ≡ 0 → xs ≡ []
none_is [] e = refl
none_is (x ∷ xs) e = absurd (omega (arith, e))

pub empty_is : {V : Type 0} (xs : List V) → (length xs == 0) ≡ true → xs ≡ []
empty_is xs e = none_is xs (grind (arith, nat_tests, e))

pub nothing_shown : {V : Type 0} (items : V → List Shown) (event : ℕ) (m : State) (found : List V) → map items found ≡ witnesses_in (row_of m) → found ≡ [] → event_lines false event (names_in m) (row_of m) ≡ []
nothing_shown items event m found are none = quiet_lines event (names_in m) (row_of m) (sym are ∙ ap (map items) none)

name_told : (m : State) (p : ℕ) (name : Text) → option_map (λ q. q.name) (slice_get m.plan.props p) ≡ Some name → slice_get (names_in m) p ≡ Some name
name_told m p name told = slice_get-map (λ (q : PlanProp). q.name) m.plan.props p ∙ told

-- What a buffer passes of them, verdict by verdict

abbrev pub HavePassed : (all : Bool) → ℕ → State → (p : ℕ) → (sent0 sent1 : Option Text) → (held0 held1 : Text) → Type 0
HavePassed all event m p sent0 sent1 held0 held1 = Passes sent0 sent1 held0 held1 (first_lines all event m p)

module _ (all : Bool) (event : ℕ) (m : State) (p : ℕ) (name : Text) (w0 w1 w2 : Option Text) (held0 held1 held2 : Text)
    (told : option_map (λ (q : PlanProp). q.name) (slice_get m.plan.props p) ≡ Some name) (passed : HavePassed all event m p w0 w1 held0 held1) where
  -- a verdict more
  pass_more : (v : Verdict) → slice_get (row_of m) p ≡ Some v → Passes w1 w2 held1 held2 (verdict_text all event name v) → HavePassed all event m (p + 1) w0 w2 held0 held2
  pass_more v there more =
      subst (λ (l : Text). Passes w0 w2 held0 held2 l) (sym (line_more all event m p name v (name_told m p name told) there))
      (passes_trans w0 w1 w2 held0 held1 held2 (first_lines all event m p) (verdict_text all event name v) passed more)

  -- a write of it fails
  pass_front : (v : Verdict) → slice_get (row_of m) p ≡ Some v → AppendsFront w1 w2 (held1 ++ verdict_text all event name v) → AppendsFront w0 w2 (held0 ++ event_lines all event (names_in m) (row_of m))
  pass_front v there front =
      subst (λ (l : Text). AppendsFront w0 w2 (held0 ++ l)) (sym (lines_split all event m p name v (name_told m p name told) there))
      (front_before w0 w2 held0 (first_lines all event m p ++ verdict_text all event name v) _
      (passes_front w0 w1 w2 held0 held1 (first_lines all event m p) (verdict_text all event name v) passed front))

  pub pass_true : option_map (λ (q : PlanProp). verdict_at m q.root) (slice_get m.plan.props p) ≡ Some true → Passes w1 w2 held1 held2 (verdict_text all event name True) → HavePassed all event m (p + 1) w0 w2 held0 held2
  pass_true holds more = pass_more True (row_told m p true holds).2 more

  pub front_true : option_map (λ (q : PlanProp). verdict_at m q.root) (slice_get m.plan.props p) ≡ Some true → AppendsFront w1 w2 (held1 ++ verdict_text all event name True) →
      AppendsFront w0 w2 (held0 ++ event_lines all event (names_in m) (row_of m))
  front_true holds front = pass_front True (row_told m p true holds).2 front

  -- a false one with its witness, which stands where the earlier ones end
  module _ {V : Type 0} (items : V → List Shown) (found : List V) (next : ℕ) (own : V) (are : map items found ≡ witnesses_in (row_of m)) (behind : next ≡ length (witnesses_in (take p (row_of m))))
      (fails : option_map (λ (q : PlanProp). verdict_at m q.root) (slice_get m.plan.props p) ≡ Some false) (at : slice_get found next ≡ Some own) where
    row_false : slice_get (row_of m) p ≡ Some (False (items own))
    row_false =
        let (q, there, row) = row_told m p false fails in
        let known : slice_get (witnesses_in (row_of m)) next ≡ Some (witness_of m q.root) = ap (slice_get (witnesses_in (row_of m))) behind ∙ witness_at (row_of m) p (witness_of m q.root) row in
        let mine : slice_get (witnesses_in (row_of m)) next ≡ Some (items own) = ap (λ l. slice_get l next) (sym are) ∙ slice_get-map items found next ∙ ap (option_map items) at in
        let same : witness_of m q.root ≡ items own = let e = sym known ∙ mine in cc in
        row ∙ ap (λ (w : List Shown). Some (False w)) same

    pub pass_false : Passes w1 w2 held1 held2 (violation_line event name (items own)) → HavePassed all event m (p + 1) w0 w2 held0 held2
    pass_false more = pass_more (False (items own)) row_false more

    pub front_false : AppendsFront w1 w2 (held1 ++ violation_line event name (items own)) → AppendsFront w0 w2 (held0 ++ event_lines all event (names_in m) (row_of m))
    front_false front = pass_front (False (items own)) row_false front

-- there is one for each false verdict
pub one_more_witness : {V : Type 0} (items : V → List Shown) (m : State) (p next : ℕ) (found : List V) → map items found ≡ witnesses_in (row_of m) → next ≡ length (witnesses_in (take p (row_of m))) →
    option_map (λ q. verdict_at m q.root) (slice_get m.plan.props p) ≡ Some false → next < length found
one_more_witness items m p next found are behind fails =
    let (q, there, row) = row_told m p false fails in
    let n = length-map found items in
    let k = ap length are in
    let l = get_within (witnesses_in (row_of m)) next (witness_of m q.root) (ap (slice_get (witnesses_in (row_of m))) behind ∙ witness_at (row_of m) p (witness_of m q.root) row) in
    omega (arith, n, k, l)

-- Steps

-- the steps of the first witnesses
abbrev pub first_bound : State → ℕ → ℕ
first_bound m p = sum_by (λ (q : PlanProp). find_bound m q.root) (take p m.plan.props)

sum_more : (f : PlanProp → ℕ) (qs : List PlanProp) (p : ℕ) (q : PlanProp) → slice_get qs p ≡ Some q → sum_by f (take (p + 1) qs) ≡ sum_by f (take p qs) + f q
sum_more f qs p q at =
    let more = ap (sum_by f) (take_more qs p q at).0 in
    let both = sum_by-append f (take p qs) (q ∷ []) in
    let last = sum_by-cons f q [] in
    let none : sum_by f [] ≡ 0 = refl in
    omega (arith, more, both, last, none)

pub bound_more : (m : State) (p root before now after : ℕ) (b : Bool) → option_map (λ q. verdict_at m q.root) (slice_get m.plan.props p) ≡ Some b →
    unwrap_or (option_map (λ q. q.root) (slice_get m.plan.props p)) 0 ≡ root → now ≤ before + first_bound m p → after ≤ now + find_bound m root → after ≤ before + first_bound m (p + 1)
bound_more m p root before now after b told at h k =
    let prop = prop_at m p b (slice_get m.plan.props p) refl told in
    let own : prop.0.root ≡ root = sym (ap (λ o. unwrap_or (option_map (λ (q : PlanProp). q.root) o) 0) prop.1) ∙ at in
    let same : find_bound m prop.0.root ≡ find_bound m root = ap (find_bound m) own in
    let more = sum_more (λ (q : PlanProp). find_bound m q.root) m.plan.props p prop.0 prop.1 in
    omega (arith, h, k, same, more)

-- no witness is sought for a true one
pub bound_stays : (m : State) (p before now : ℕ) (b : Bool) → option_map (λ q. verdict_at m q.root) (slice_get m.plan.props p) ≡ Some b → now ≤ before + first_bound m p → now ≤ before + first_bound m (p + 1)
bound_stays m p before now b told h =
    let prop = prop_at m p b (slice_get m.plan.props p) refl told in
    let more = sum_more (λ (q : PlanProp). find_bound m q.root) m.plan.props p prop.0 prop.1 in
    omega (arith, h, more)

pub bound_whole : (m : State) (p before now : ℕ) → now ≤ before + first_bound m p → now ≤ before + witness_bound m
bound_whole m p before now h = let l = sum_by-take-le (λ (q : PlanProp). find_bound m q.root) m.plan.props p in omega (arith, h, l)
