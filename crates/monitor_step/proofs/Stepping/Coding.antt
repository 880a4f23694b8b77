-- The codes of an event's texts, by what its list of needs holds.
use Rattle.std.proofs.Common.{◌≡◌, ◌≢◌, ℕ, zero, suc, ◌+◌, ◌*◌, ◌<◌, ◌≤◌, refl, sym, subst, arith, List, [], ◌∷◌, length, Option, Some, None}
use Rattle.std.specs.Prelude.{Result, Ok, Err, IsErrAnd, slice_get}
use Rattle.std.specs.List.{AllByRecursion}
use Rattle.std.proofs.Math.Nat.{mul-le-mul_right}
use Rattle.qtl_syntax.specs.Tree.{Text}
use Rattle.qtl_truth.specs.declared.event.Event.{Event}
use Rattle.subformulas.specs.Matched.{AreMatched, AreUsesBelow}
use Rattle.subformulas.specs.NeedList.{texts_for}
use Rattle.subformulas.specs.Needs.{need}
use Rattle.subformulas.specs.declared.need_list.Need.{Need}
use Rattle.subformulas.specs.declared.need_list.Stretch.{Stretch}
use Rattle.subformulas.specs.declared.need_list.Use.{Use}
use Rattle.subformulas.specs.declared.table.Sub.{Sub}
use Rattle.node_tree.specs.Tree.{Tree}
use Rattle.value_codes.specs.Pairs.{Pairs, Contents}
use Rattle.bdd_ops.specs.declared.code_cubes.BlockCode.{BlockCode}
use Rattle.monitor_model.specs.Books.{AllApart}
use Rattle.monitor_model.specs.Rows.{Frame}
use Rattle.monitor_model.proofs.Books.Room.{unrepeated_apart}
use Rattle.monitor_step.specs.Coded.{code_at, AreAtomCodes, AreCodes, AreCoded, Served}
use Rattle.monitor_step.specs.Serving.{AreServed, IsFull, IsServed, IsServeEnd, pairs_at}
use Rattle.monitor_step.specs.Stages.{AnswersServing, EachServed}
use Rattle.monitor_step.specs.declared.serve.ServeEnd.{ServeEnd}
use Rattle.monitor_step.specs.declared.serve.ServeEnd.TheVariants as serve

module _ (subs : List Sub) (e : Event) (entries : List Need)
    (texts : (x : ℕ) → texts_for x e.args entries ≡ need subs x e) where
  -- no text is needed twice
  pub needed_once : (x : ℕ) → AllApart (texts_for x e.args entries)
  needed_once x = subst AllApart (sym (texts x)) (unrepeated_apart _)

  module _ (bits : ℕ) (trees : List Tree) (before after : List Contents) where
    each_served : (n : ℕ) → AreServed trees bits e.args entries n before after →
        EachServed bits subs e trees n before after
    each_served n served x p =
        subst
        (λ (ts : List Text). IsServed trees (x * bits) bits ts (pairs_at before x) (pairs_at after x))
        (texts x) (served x p)

    -- the variables were served
    pub all_served : (u : Unit {0}) → AreServed trees bits e.args entries (length before) before after →
        AnswersServing bits subs e trees before after (Ok u)
    all_served u = each_served (length before)

    -- or one was not
    by_end : (end : ServeEnd) → IsServeEnd trees bits e.args entries before after end →
        AnswersServing bits subs e trees before after (Err end)
    by_end (serve.CodesFull x n) (within, served, full) = (
      within,
      each_served x served,
      subst (λ (ts : List Text). IsFull trees (x * bits) bits ts (pairs_at before x) n) (texts x) full,
    )
    by_end serve.NoMemory h = tt

    pub not_served : (end : ServeEnd) → IsServeEnd trees bits e.args entries before after end →
        (r : Result Unit ServeEnd) → IsErrAnd r (λ f. f ≡ end) →
        AnswersServing bits subs e trees before after r
    not_served end h (Ok u) made = absurd made
    not_served end h (Err f) made =
        subst (λ (g : ServeEnd). AnswersServing bits subs e trees before after (Err g)) (sym made)
        (by_end end h)

read_below : {A : Type 0} (xs : List A) (n : ℕ) → n < length xs → (x : A) × (slice_get xs n ≡ Some x)
read_below [] n h = absurd (omega (arith, h))
read_below (x ∷ xs) zero h = (x, refl)
read_below (x ∷ xs) (suc n) h = read_below xs n (omega (arith, h))

some_not_none : {A : Type 0} (o : Option A) (a : A) → o ≡ Some a → o ≢ None
some_not_none o a e f = let never : ⊥ = cc in never

module _ (n : ℕ) (e : Event) (entries : List Need) where
  -- each use has a code
  pub uses_coded : (books : ℕ → Pairs) (served : Served) → AreCodes n e entries books served →
      (us : List Use) → AreUsesBelow n e.args entries us →
      AllByRecursion (λ (u : Use). code_at served u.variable u.nth ≢ None) us
  uses_coded books served codes [] h = tt
  uses_coded books served codes (u ∷ us) h =
      let (t, at) = read_below (texts_for u.variable e.args entries) u.nth h.0.1 in
      let (c, coded, own) = codes u.variable u.nth t h.0.0 at in
      (some_not_none _ c coded, uses_coded books served codes us h.1)

  -- and its block stands among the levels
  pub uses_within : (bits : ℕ) → n ≤ 64 → bits ≤ 20 → (us : List Use) →
      AreUsesBelow n e.args entries us →
      AllByRecursion (λ (u : Use). u.variable * bits + bits ≤ 65536) us
  uses_within bits few low [] h = tt
  uses_within bits few low (u ∷ us) h = (
    (let within = h.0.0 in
        let most : u.variable * bits ≤ 64 * bits = mul-le-mul_right bits (omega (arith, within, few)) in
        omega (arith, most, low)),
    uses_within bits few low us h.1,
  )

-- so the atoms have the codes of the texts that they are given, in each frame of this event, these books
-- and these sizes
pub atoms_coded : (bits variables : ℕ) (subs : List Sub) (e : Event) (entries : List Need)
    (uses : List Use) (slots : List (Option Stretch)) (books : List Contents) (served : Served)
    (coded : List BlockCode) → AreMatched variables subs e entries uses slots →
    AreCodes variables e entries (pairs_at books) served → AreAtomCodes bits served uses coded →
    (fr : Frame) → fr.setting.bits ≡ bits → fr.setting.variables ≡ variables →
    fr.setting.subs ≡ subs → fr.event ≡ e → fr.books ≡ pairs_at books → AreCoded fr subs coded slots
atoms_coded bits variables subs e entries uses slots books served coded matched codes atoms fr a b c d f =
    let own_matched : AreMatched fr.setting.variables fr.setting.subs fr.event entries uses slots =
    subst (λ (n : ℕ). AreMatched n fr.setting.subs fr.event entries uses slots) (sym b)
    (subst (λ (us : List Sub). AreMatched variables us fr.event entries uses slots) (sym c)
    (subst (λ (g : Event). AreMatched variables subs g entries uses slots) (sym d) matched)) in
    let own_codes : AreCodes fr.setting.variables fr.event entries fr.books served =
    subst (λ (n : ℕ). AreCodes n fr.event entries fr.books served) (sym b)
    (subst (λ (g : Event). AreCodes variables g entries fr.books served) (sym d)
    (subst (λ (ps : ℕ → Pairs). AreCodes variables e entries ps served) (sym f) codes)) in
    subst (λ (us : List Sub). AreCoded fr us coded slots) c (atoms fr entries slots a own_matched own_codes)
