-- What is found of a false property is its witness.
use Rattle.std.proofs.Common.{◌≡◌, ◌≢◌, ℕ, zero, suc, ◌<◌, ◌≤◌, ◌⊎◌, ◌↔◌, inl, inr, refl, sym, ◌∙◌, ap, subst, arith, List, [], ◌∷◌, length, Bool, true, false, Option, Some, None, IsTrue}
use Rattle.std.specs.Prelude.{slice_get, slice_index_or, unwrap_or}
use Rattle.std.specs.Option.{option_map}
use Rattle.qtl_syntax.specs.Tree.{Text}
use Rattle.qtl_truth.specs.Truth.{IsLog}
use Rattle.qtl_truth.specs.declared.event.Event.{Event}
use Rattle.wellformed.specs.CoreTree.{CoreFormula, True, False, Atom, Not, And, Or, Implies, Iff, Prev, Since, TimedSince, Once, TimedOnce, Always, TimedAlways, Interval, Exists, Forall}
use Rattle.wellformed.specs.Sound.{is_closed}
use Rattle.subformulas.specs.Assigned.{Texts, put, Truth}
use Rattle.subformulas.specs.Free.{is_free}
use Rattle.subformulas.specs.Table.{HasRoot, IsClosedProp, IsSound}
use Rattle.subformulas.specs.Unfolded.{formula_at}
use Rattle.subformulas.specs.declared.table.PlanProp.{PlanProp}
use Rattle.subformulas.proofs.Agree.{joined}
use Rattle.subformulas.proofs.ByNumber.{all_at}
use Rattle.subformulas.proofs.Free.{looks_at_free}
use Rattle.node_tree.specs.Tree.{Tree, One, value}
use Rattle.node_tree.proofs.Apart.{same_or_differ}
use Rattle.monitor_model.specs.Drawn.{readings}
use Rattle.monitor_model.specs.Shape.{HasOwnLevels}
use Rattle.monitor_model.specs.Stands.{IsNow, IsPlan}
use Rattle.monitor_model.specs.State.{State, IsLive, IsMonitor, Stands, is_one, now_of, setting_of, verdict_at}
use Rattle.monitor_model.proofs.Telling.Given.{now_point, plan_is}
use Rattle.report.specs.Witness.{AreShown, IsWitness, below_chain, chain}
use Rattle.report.specs.declared.shown.Shown.{Shown}
use Rattle.witness.specs.Finding.{row_below, shown_over, witness_of}
use Rattle.witness.specs.Laws.{WitnessesHold}
use Rattle.witness.specs.Turns.{HasTurns, root_of}
use Rattle.witness.proofs.BelowChain.{IsBelow, free_in_chain, is_below, own_turns}
use Rattle.witness.proofs.Showing.Along.{along}
use Rattle.witness.proofs.Showing.Failing.{other_text, some_point}
use Rattle.witness.proofs.Showing.Over.{over, over_in}

-- a formula is true under all texts where the one below its chain is
chain_true : (log : List Event) (i : ℕ) (g : CoreFormula) → ((nu : Texts) → Truth log (below_chain g) nu i) → (nu : Texts) → Truth log g nu i
chain_true log i (Forall x g) h nu = λ t text. chain_true log i g h (put x t nu)
chain_true log i True h nu = h nu
chain_true log i False h nu = h nu
chain_true log i (Atom a) h nu = h nu
chain_true log i (Not f) h nu = h nu
chain_true log i (And f g) h nu = h nu
chain_true log i (Or f g) h nu = h nu
chain_true log i (Implies f g) h nu = h nu
chain_true log i (Iff f g) h nu = h nu
chain_true log i (Prev f) h nu = h nu
chain_true log i (Since f g) h nu = h nu
chain_true log i (TimedSince b f g) h nu = h nu
chain_true log i (Once f) h nu = h nu
chain_true log i (TimedOnce b f) h nu = h nu
chain_true log i (Always f) h nu = h nu
chain_true log i (TimedAlways b f) h nu = h nu
chain_true log i (Interval f g) h nu = h nu
chain_true log i (Exists x f) h nu = h nu

-- places in a list
index_get : {A : Type 0} (xs : List A) (k : ℕ) (x : A) → k < length xs → slice_index_or xs k x ≡ x → slice_get xs k ≡ Some x
index_get [] k x l e = absurd (omega (arith, l))
index_get (y ∷ xs) zero x l e = ap Some e
index_get (y ∷ xs) (suc k) x l e = index_get xs k x (omega (arith, l)) e

get_index : {A : Type 0} (xs : List A) (k : ℕ) (x : A) → slice_get xs k ≡ Some x → (k < length xs) × (slice_index_or xs k x ≡ x)
get_index [] k x e = absurd (let no : ⊥ = cc in no)
get_index (y ∷ xs) zero x e = (omega arith, let same : y ≡ x = cc in same)
get_index (y ∷ xs) (suc k) x e = let more = get_index xs k x e in let l = more.0 in (omega (arith, l), more.1)

-- the root of a property is a row, and its formula is closed
record IsRoot (m : State) (k : ℕ) : Type 0 where
  from : 1 ≤ k
  to : k ≤ length m.plan.subs
  closed : IsTrue (is_closed [] (formula_at m.plan.subs k))

root_at : (m : State) → IsSound m.plan → (p : ℕ) (q : PlanProp) (k : ℕ) → slice_get m.plan.props p ≡ Some q → q.root ≡ k → IsRoot m k
root_at m sound p q k at same =
    subst (IsRoot m) same (record {
      from = (all_at (HasRoot (length m.plan.subs)) m.plan.props p q sound.roots at).0;
      to = (all_at (HasRoot (length m.plan.subs)) m.plan.props p q sound.roots at).1;
      closed = all_at (IsClosedProp m.plan.subs) m.plan.props p q sound.closed at;
    })

module _ (m : State) (log : List Event) (k : ℕ) (monitor : IsMonitor m) (live : IsLive m) (is_log : IsLog log) (stands : Stands m log) (judged : m.has_now ≡ true)
    (root : IsRoot m k) (below : IsBelow m.plan k (row_below m.plan.subs k k)) where
  abbrev body : ℕ
  body = row_below m.plan.subs k k

  abbrev i : ℕ
  i = length log

  plan : IsPlan (setting_of m)
  plan = plan_is m monitor

  some : 1 ≤ length log
  some = subst (λ (n : ℕ). 1 ≤ n) stands.events (monitor.some_events judged)

  drawn : IsNow (setting_of m) log (length log) stands.books body (now_of m body)
  drawn = stands.now judged body below.from below.to

  -- were the tree true everywhere, so would the property be
  other_than_one : verdict_at m k ≡ false → now_of m body ≢ One
  other_than_one fails one =
      let all : (nu : Texts) → Truth log (formula_at m.plan.subs body) nu i =
      λ nu. let (p, point) = some_point m.plan (setting_of m) plan log is_log i some stands.books stands.stands.books_are nu in
      (now_point (setting_of m) plan log is_log i stands.books stands.stands.books_are some body (now_of m body) nu p below.from below.to drawn point).0 (ap (λ t. value t p) one) in
      let whole : (nu : Texts) → Truth log (formula_at m.plan.subs k) nu i =
      chain_true log i (formula_at m.plan.subs k) (λ nu. subst (λ g. Truth log g nu i) below.body (all nu)) in
      let top = stands.now judged k root.from root.to in
      by_tree top.values whole (same_or_differ (now_of m k) One top.ordered top.reduced tt tt)
    where
      by_tree : ((p : List Bool) → IsTrue (value (now_of m k) p) ↔ Truth log (formula_at m.plan.subs k) (readings (setting_of m) stands.books (other_text m.plan (setting_of m) plan log is_log i some stands.books stands.stands.books_are) p) i) →
          ((nu : Texts) → Truth log (formula_at m.plan.subs k) nu i) → (now_of m k ≡ One) ⊎ ((bits : List Bool) × (value (now_of m k) bits ≢ true)) → ⊥
      by_tree gives whole (inl e) = let no : true ≡ false = sym (ap is_one e) ∙ fails in let impossible : ⊥ = cc in impossible
      by_tree gives whole (inr (p, differ)) = differ ((gives p).1 (whole _))

  shown : verdict_at m k ≡ false → IsWitness m.plan log i k (witness_of m k)
  shown fails =
      subst (λ g. AreShown m.plan log i (chain (formula_at m.plan.subs k)) g (λ x. []) (witness_of m k)) below.body
      (along m log monitor live is_log stands some body below.from below.to (now_of m body) drawn (chain (formula_at m.plan.subs k)) (λ x. []) (now_of m body)
      below.ascends below.known drawn.ordered drawn.reduced reading (other_than_one fails))
    where
      other : Text
      other = other_text m.plan (setting_of m) plan log is_log i some stands.books stands.stands.books_are

      reading : (p : List Bool) → IsTrue (value (now_of m body) p) ↔
          Truth log (formula_at m.plan.subs body) (over (chain (formula_at m.plan.subs k)) (readings (setting_of m) stands.books other p) (λ x. [])) i
      reading p =
          joined (drawn.values p)
          (looks_at_free log (formula_at m.plan.subs body) (readings (setting_of m) stands.books other p)
          (over (chain (formula_at m.plan.subs k)) (readings (setting_of m) stands.books other p) (λ x. [])) i
          (λ x free. sym (over_in (chain (formula_at m.plan.subs k)) (readings (setting_of m) stands.books other p) (λ y. []) x below.ascends
          (free_in_chain (formula_at m.plan.subs k) root.closed x (subst (λ g. IsTrue (is_free x g)) below.body free)))))

below_root : (m : State) → IsSound m.plan → (k : ℕ) → IsRoot m k → IsBelow m.plan k (row_below m.plan.subs k k)
below_root m sound k root = is_below m.plan sound k k root.from root.to (omega arith)

pub witnesses_hold : WitnessesHold
witnesses_hold m log k monitor live is_log stands judged (p, q, less, at, same) fails =
    let root = root_at m monitor.plan p q k (index_get m.plan.props p q less at) same in
    shown m log k monitor live is_log stands judged root (below_root m monitor.plan k root) fails

-- What `find` begins with

prop_by : (m : State) (p root : ℕ) (o : Option PlanProp) → slice_get m.plan.props p ≡ o → option_map (λ q. q.root) o ≡ Some root →
    (q : PlanProp) × (slice_get m.plan.props p ≡ Some q) × (q.root ≡ root)
prop_by m p root None at e = absurd (let no : ⊥ = cc in no)
prop_by m p root (Some q) at e = (q, at, let same : q.root ≡ root = cc in same)

pub first_turns : (m : State) → IsSound m.plan → (p root b : ℕ) (tree : Tree) → option_map (λ q. q.root) (slice_get m.plan.props p) ≡ Some root → b ≡ row_below m.plan.subs root root →
    HasOwnLevels (setting_of m) b tree → HasTurns (setting_of m) (chain (formula_at m.plan.subs root)) tree
first_turns m sound p root b tree at is levels =
    let prop = prop_by m p root (slice_get m.plan.props p) refl at in
    let own = root_at m sound p prop.0 root prop.1 prop.2 in
    let below = below_root m sound root own in
    own_turns (setting_of m) m.plan refl root (row_below m.plan.subs root root) tree own.closed below.body (subst (λ (n : ℕ). HasOwnLevels (setting_of m) n tree) is levels)

false_by : (m : State) (root : ℕ) (o : Option PlanProp) (q : PlanProp) → o ≡ Some q → q.root ≡ root → option_map (λ r. verdict_at m r.root) o ≡ Some false → verdict_at m root ≡ false
false_by m root o q at same e =
    let here : Some (verdict_at m q.root) ≡ Some false = ap (option_map (λ (r : PlanProp). verdict_at m r.root)) (sym at) ∙ e in
    ap (verdict_at m) (sym same) ∙ (let own : verdict_at m q.root ≡ false = cc in own)

-- what it gives is the witness
pub found_is : WitnessesHold → (m : State) (log : List Event) → IsMonitor m → IsLive m → IsLog log → Stands m log → m.has_now ≡ true → (p root b : ℕ) (tree : Tree) (shown : List Shown) →
    option_map (λ q. q.root) (slice_get m.plan.props p) ≡ Some root → option_map (λ q. verdict_at m q.root) (slice_get m.plan.props p) ≡ Some false →
    b ≡ row_below m.plan.subs root root → tree ≡ now_of m b → shown ≡ shown_over m (chain (formula_at m.plan.subs root)) tree → IsWitness m.plan log (length log) (root_of m p) shown
found_is law m log monitor live is_log stands judged p root b tree shown at fails is now items =
    let prop = prop_by m p root (slice_get m.plan.props p) refl at in
    let place = get_index m.plan.props p prop.0 prop.1 in
    let whole : shown ≡ witness_of m root = items ∙ ap (shown_over m (chain (formula_at m.plan.subs root))) (now ∙ ap (now_of m) is) in
    let own : root_of m p ≡ root = ap (λ o. unwrap_or o 0) at in
    subst (λ (n : ℕ). IsWitness m.plan log (length log) n shown) (sym own)
    (subst (IsWitness m.plan log (length log) root) (sym whole)
    (law m log root monitor live is_log stands judged (p, prop.0, place.0, place.1, prop.2) (false_by m root (slice_get m.plan.props p) prop.0 prop.1 prop.2 fails)))
