-- A walk along an input judges one list of events and stops in one way, whatever the input is and whatever comes at its events.
use Rattle.std.proofs.Common.{◌≡◌, ◌+◌, ◌<◌, ◌≤◌, ◌⊎◌, inl, inr, List, [], ◌∷◌, ◌++◌, length, length-append, append-nil, refl, sym, ap, ◌∙◌, subst, arith}
use Rattle.std.specs.Prelude.{Option, Some, None}
use Rattle.std.proofs.lemmas.Bool.{cases_lt}
use Rattle.qtl_truth.specs.declared.event.Event.{Event}
use Rattle.monitor_model.specs.Ends as event_end
use Rattle.run_model.specs.Walk.{Input, Comes, AllFit, Ends, Halts, Walks, stop_at}
use Rattle.run_model.specs.declared.stop.LogStop.{LogStop}

-- one thing comes at an event
abbrev pub OneComes : Comes → Type 0
OneComes comes = (log : List Event) (e : Event) (a b : Option event_end.End) → comes log e a → comes log e b → a ≡ b

-- fronts of the same list: the longer one goes on behind the shorter, and such of one length are the same
pub goes_on : {A : Type 0} (long rest short later : List A) (e : A) → long ++ rest ≡ short ++ e ∷ later → length short < length long → (more : List A) × (long ≡ short ++ e ∷ more)
goes_on [] rest short later e is l = absurd (omega (arith, l))
goes_on (x ∷ long) rest [] later e is l = (long, let first : x ≡ e = cc in cc)
goes_on (x ∷ long) rest (y ∷ short) later e is l =
    let first : x ≡ y = cc in
    let tails : long ++ rest ≡ short ++ e ∷ later = cc in
    let more = goes_on long rest short later e tails (omega (arith, l)) in
    let same : long ≡ short ++ e ∷ more.0 = more.1 in (more.0, cc)

pub one_front : {A : Type 0} (front rest other more : List A) → front ++ rest ≡ other ++ more → length front ≡ length other → (front ≡ other) × (rest ≡ more)
one_front [] rest [] more is l = (refl, is)
one_front [] rest (y ∷ other) more is l = absurd (omega (arith, l))
one_front (x ∷ front) rest [] more is l = absurd (omega (arith, l))
one_front (x ∷ front) rest (y ∷ other) more is l =
    let first : x ≡ y = cc in
    let tails : front ++ rest ≡ other ++ more = cc in
    let same = one_front front rest other more tails (omega (arith, l)) in
    let fronts : front ≡ other = same.0 in (cc, same.1)

module _ (comes : Comes) (one : OneComes comes) (input : Input) where
  -- no event behind one that can't be judged was judged
  not_beyond : (judged other rest : List Event) (stop : LogStop) → Halts comes input judged stop → input.events ≡ other ++ rest → AllFit comes other → length other ≤ length judged
  not_beyond judged other rest stop h split fits = by_length (cases_lt (length judged) (length other))
    where
      by_length : (length judged < length other) ⊎ (length other ≤ length judged) → length other ≤ length judged
      by_length (inr l) = l
      by_length (inl l) =
          let more = goes_on other rest judged h.later h.event (sym split ∙ h.split) l in
          let never : None ≡ Some h.why = one judged h.event None (Some h.why) (fits judged more.0 h.event more.1) h.comes_there in
          absurd (let no : ⊥ = cc in no)

  not_all : (judged : List Event) (stop : LogStop) → Halts comes input judged stop → length judged < length input.events
  not_all judged stop h = let long = ap (λ (l : List Event). length l) h.split in omega (arith, long, length-append judged (h.event ∷ h.later))

  -- a walk that judged all, and one that halts
  never_both : (judged other : List Event) (stop due : LogStop) → AllFit comes judged → judged ≡ input.events → Halts comes input other due → ⊥
  never_both judged other stop due fits all h =
      let few = not_beyond other judged [] due h (sym all ∙ sym (append-nil judged)) fits in
      let many = not_all other due h in
      let same = ap (λ (l : List Event). length l) all in
      omega (arith, few, many, same)

  -- two that halt
  both_halt : (judged other : List Event) (stop due : LogStop) → AllFit comes judged → AllFit comes other → Halts comes input judged stop → Halts comes input other due → (judged ≡ other) × (stop ≡ due)
  both_halt judged other stop due fits fits' s t = (judged_same, stop_same)
    where
      few : length other ≤ length judged
      few = not_beyond judged other (t.event ∷ t.later) stop s t.split fits'

      many : length judged ≤ length other
      many = not_beyond other judged (s.event ∷ s.later) due t s.split fits

      fronts : (judged ≡ other) × (s.event ∷ s.later ≡ t.event ∷ t.later)
      fronts = one_front judged (s.event ∷ s.later) other (t.event ∷ t.later) (sym s.split ∙ t.split) (omega (arith, few, many))

      judged_same : judged ≡ other
      judged_same = fronts.0

      next : s.event ≡ t.event
      next = let r : s.event ∷ s.later ≡ t.event ∷ t.later = fronts.1 in cc

      there : comes other t.event (Some s.why)
      there = subst (λ (l : List Event). comes l t.event (Some s.why)) judged_same (subst (λ (e : Event). comes judged e (Some s.why)) next s.comes_there)

      why : s.why ≡ t.why
      why = let reasons : Some s.why ≡ Some t.why = one other t.event (Some s.why) (Some t.why) there t.comes_there in cc

      stop_same : stop ≡ due
      stop_same =
          s.told ∙ ap (λ (w : event_end.End). stop_at (length judged + 1) w) why ∙ ap (λ (l : List Event). stop_at (length l + 1) t.why) judged_same ∙ sym t.told

  by_stops : (judged other : List Event) (stop due : LogStop) → AllFit comes judged → AllFit comes other → Ends input judged stop ⊎ Halts comes input judged stop →
      Ends input other due ⊎ Halts comes input other due → (judged ≡ other) × (stop ≡ due)
  by_stops judged other stop due fits fits' (inl (all, is)) (inl (all', is')) = (all ∙ sym all', is ∙ sym is')
  by_stops judged other stop due fits fits' (inl (all, is)) (inr h) = absurd (never_both judged other stop due fits all h)
  by_stops judged other stop due fits fits' (inr h) (inl (all, is)) = absurd (never_both other judged due stop fits' all h)
  by_stops judged other stop due fits fits' (inr s) (inr t) = both_halt judged other stop due fits fits' s t

  pub one_walk : (judged other : List Event) (stop due : LogStop) → Walks comes input judged stop → Walks comes input other due → (judged ≡ other) × (stop ≡ due)
  one_walk judged other stop due a b = by_stops judged other stop due a.fits b.fits a.stops b.stops
