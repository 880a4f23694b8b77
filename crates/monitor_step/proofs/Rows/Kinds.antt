-- The rows of one kind.
use Rattle.std.proofs.Common.{◌≡◌, ℕ, ◌*◌, refl, sym, ap, ◌∙◌, subst, List, [], ◌∷◌, ◌++◌, length, Bool, true, false, Some, None, Option}
use Rattle.std.specs.Prelude.{Result, Ok, MatchBool, if◌then◌else◌, slice_get, slice_index_or}
use Rattle.std.specs.List.{Contains}
use Rattle.std.proofs.Common.{zero, suc, ◌+◌, ◌<◌, ◌≤◌, arith, not}
use Rattle.qtl_truth.specs.declared.numbered_atom.Atom.{Atom}
use Rattle.node_tree.specs.Tree.{Tree, Zero, One}
use Rattle.node_table.specs.Table.{Table, tree_of, IsValid, IsShared}
use Rattle.node_table.specs.Collects.{AllValid}
use Rattle.bdd_ops.proofs.Tries.{stay_same}
use Rattle.bdd_ops.specs.declared.code_cubes.BlockCode.{BlockCode}
use Rattle.bdd_ops.specs.declared.literals.Literal.{Literal}
use Rattle.bdd_ops.specs.Codes.{code_list_literals}
use Rattle.bdd_ops.specs.Cube.{cube_tree, AscendFrom}
use Rattle.operation_rows.specs.declared.rows.RowFull.{RowFull}
use Rattle.operation_rows.specs.declared.updated.Updated.{Updated}
use Rattle.operation_rows.specs.Rows.{Update, MakesUpdate}
use Rattle.bdd_ops.specs.Apply.{map_leaves}
use Rattle.bdd_ops.specs.declared.op.Op.TheVariants.{And, Or, AndNot}
use Rattle.timed_bits.specs.Changes.{age_drop, age_cap, any_time, at_time, stamp}
use Rattle.operation_rows.specs.Kinds.{applied, one_row, block_update, atom_update, since_at_most, once_at_most, always_at_most, since_more_than, once_more_than, always_more_than}
use Rattle.subformulas.specs.Facts.{fact_of}
use Rattle.subformulas.specs.Matched.{items_of}
use Rattle.subformulas.specs.Needs.{fits}
use Rattle.subformulas.specs.Memory.{is_temporal}
use Rattle.subformulas.specs.Table.{children}
use Rattle.subformulas.specs.declared.need_list.Stretch.{Stretch}
use Rattle.subformulas.specs.declared.table.Kind.{Kind}
use Rattle.subformulas.specs.declared.table.Kind.TheVariants as kind
use Rattle.subformulas.specs.declared.table.Sub.{Sub}
use Rattle.monitor_model.specs.Rows.{Frame, cubes, fact_literals, update}
use Rattle.monitor_model.specs.Setting.{time_first, time_width}
use Rattle.monitor_model.proofs.Drawing.Atoms.{fact_ascends}
use Rattle.monitor_step.specs.Coded.{IsCoded, AreCoded}
use Rattle.monitor_step.specs.Frame.{slot_update, HasAscending, IsCodedKind}

-- what an atom whose codes these are makes
module _ (fr : Frame) (coded : List BlockCode) (a : Atom) (slot : Option Stretch) where
  abbrev literals : List Literal
  literals = fact_literals fr a (fact_of fr.event) fr.setting.variables

  abbrev Stands : Type 0
  Stands = (r : Stretch) × (slot ≡ Some r) × (code_list_literals (items_of r coded) ≡ literals)

  cubes_by : (b : Bool) → fits a (fact_of fr.event) ≡ b → atom_update (cubes fr a) ≡ atom_update ((if b then cube_tree literals ∷ [] else []) ++ [])
  cubes_by b e = ap (λ c. atom_update ((if c then cube_tree literals ∷ [] else []) ++ [])) e

  pub slot_is : IsCoded fr coded a slot → slot_update coded slot ≡ atom_update (cubes fr a)
  slot_is h = by_fits (fits a (fact_of fr.event)) refl h
    where
      by_fits : (b : Bool) → fits a (fact_of fr.event) ≡ b → MatchBool b Stands (slot ≡ None) → slot_update coded slot ≡ atom_update (cubes fr a)
      by_fits true e (r, is, lits) = ap (slot_update coded) is ∙ (ap (λ ls. one_row (cube_tree ls)) lits ∙ sym (cubes_by true e))
      by_fits false e is = ap (slot_update coded) is ∙ sym (cubes_by false e)

  pub slot_ascends : IsCoded fr coded a slot → HasAscending coded slot
  slot_ascends h = by_fits (fits a (fact_of fr.event)) h
    where
      by_fits : (b : Bool) → MatchBool b Stands (slot ≡ None) → HasAscending coded slot
      by_fits true (r, is, lits) = subst (HasAscending coded) (sym is) (subst (AscendFrom 0) (sym lits) (fact_ascends fr a (fact_of fr.event) fr.setting.variables))
      by_fits false is = subst (HasAscending coded) (sym is) tt

-- the codes of a subformula, among those of all
pub kind_coded : (fr : Frame) (subs : List Sub) (coded : List BlockCode) (slots : List (Option Stretch)) → AreCoded fr subs coded slots →
    (k : ℕ) (u : Sub) (slot : Option Stretch) → slice_get subs k ≡ Some u → slot ≡ slice_index_or slots k None → IsCodedKind fr coded u.kind slot
kind_coded fr subs coded slots all k u slot at is = by_kind u.kind refl
  where
    by_kind : (j : Kind) → u.kind ≡ j → IsCodedKind fr coded j slot
    by_kind (kind.Atom a) e = subst (IsCoded fr coded a) (sym is) (all k u a at e)
    by_kind _ e = tt

-- the codes of a kind that is this atom
pub kind_ascends : (fr : Frame) (k : Kind) (a : Atom) (coded : List BlockCode) (slot : Option Stretch) → k ≡ kind.Atom a → IsCodedKind fr coded k slot → HasAscending coded slot
kind_ascends fr k a coded slot e h = slot_ascends fr coded a slot (subst (λ j. IsCodedKind fr coded j slot) e h)

module _ (fr : Frame) (f g m : Tree) (roots : List ℕ) (old new : Table) (r : Result Updated RowFull) where
  pub atom_rows : (k : Kind) (a : Atom) (coded : List BlockCode) (slot : Option Stretch) → k ≡ kind.Atom a → IsCodedKind fr coded k slot →
      MakesUpdate (slot_update coded slot) roots old new r → MakesUpdate (update fr k f g m) roots old new r
  atom_rows k a coded slot e h made =
      subst (λ j. MakesUpdate (update fr j f g m) roots old new r) (sym e)
      (subst (λ u. MakesUpdate u roots old new r) (slot_is fr coded a slot (subst (λ j. IsCodedKind fr coded j slot) e h)) made)

  module _ (x first width : ℕ) (at : first ≡ x * fr.setting.bits) (wide : width ≡ fr.setting.bits) where
    same_block : (all : Bool) → MakesUpdate (block_update all first width f) roots old new r → MakesUpdate (block_update all (x * fr.setting.bits) fr.setting.bits f) roots old new r
    same_block all h =
        subst (λ (n : ℕ). MakesUpdate (block_update all (x * fr.setting.bits) n f) roots old new r) wide
        (subst (λ (n : ℕ). MakesUpdate (block_update all n width f) roots old new r) at h)

    pub exists_rows : (k : Kind) → k ≡ kind.Exists x → MakesUpdate (block_update false first width f) roots old new r → MakesUpdate (update fr k f g m) roots old new r
    exists_rows k e h = subst (λ j. MakesUpdate (update fr j f g m) roots old new r) (sym e) (same_block false h)

    pub forall_rows : (k : Kind) → k ≡ kind.Forall x → MakesUpdate (block_update true first width f) roots old new r → MakesUpdate (update fr k f g m) roots old new r
    forall_rows k e h = subst (λ j. MakesUpdate (update fr j f g m) roots old new r) (sym e) (same_block true h)

root_valid : (t : Table) (roots : List ℕ) (h : ℕ) → AllValid t roots → Contains roots h → IsValid t h
root_valid t roots h v (k, l, e) = go roots v k l e
  where
    go : (hs : List ℕ) → AllValid t hs → (k : ℕ) → k < length hs → slice_index_or hs k h ≡ h → IsValid t h
    go [] v k l e = absurd (omega (arith, l))
    go (x ∷ hs) v zero l e = subst (IsValid t) e (v 0 (omega arith))
    go (x ∷ hs) v (suc k) l e = go hs (λ j m. v (suc j) (omega (arith, m))) k (omega (arith, l)) e

module _ (fr : Frame) (f g m : Tree) (roots : List ℕ) (t : Table) (shared : IsShared t) (valid : AllValid t roots) where
  -- a constant has no row
  pub true_rows : (k : Kind) (h : ℕ) → k ≡ kind.True → IsValid t h → tree_of t h ≡ One → MakesUpdate (update fr k f g m) roots t t (Ok (record { now = h; next = h }))
  true_rows k h e v is =
      subst (λ j. MakesUpdate (update fr j f g m) roots t t (Ok (record { now = h; next = h }))) (sym e) (record {
        room = refl;
        shared = shared;
        roots_stay = stay_same t roots valid;
        now = (v, is);
        next = (v, is);
        full = refl;
      })

  pub false_rows : (k : Kind) (h : ℕ) → k ≡ kind.False → IsValid t h → tree_of t h ≡ Zero → MakesUpdate (update fr k f g m) roots t t (Ok (record { now = h; next = h }))
  false_rows k h e v is =
      subst (λ j. MakesUpdate (update fr j f g m) roots t t (Ok (record { now = h; next = h }))) (sym e) (record {
        room = refl;
        shared = shared;
        roots_stay = stay_same t roots valid;
        now = (v, is);
        next = (v, is);
        full = refl;
      })

-- what the event before left is the result of a previous, and its child is remembered; it has no row
pub previous_rows : (fr : Frame) (k : Kind) (g : Tree) (roots : List ℕ) (t : Table) (left memory : ℕ) → k ≡ kind.Prev → IsShared t → AllValid t roots →
    Contains roots left → Contains roots memory →
    MakesUpdate (update fr k (tree_of t left) g (tree_of t memory)) roots t t (Ok (record { now = memory; next = left }))
previous_rows fr k g roots t left memory e s v c d =
    subst (λ j. MakesUpdate (update fr j (tree_of t left) g (tree_of t memory)) roots t t (Ok (record { now = memory; next = left }))) (sym e) (record {
      room = refl;
      shared = s;
      roots_stay = stay_same t roots v;
      now = (root_valid t roots memory v d, refl);
      next = (root_valid t roots left v c, refl);
      full = refl;
    })

-- what a timed kind makes, over a time block of so many levels
module _ (delta n first width : ℕ) (f g m : Tree) where
  abbrev since_within : Update
  since_within =
      let a = age_drop first width delta n m in
      let b = applied And f a in
      let c = applied AndNot b g in
      let z = stamp first width g in
      let e = applied Or c z in
      since_at_most a b c z e (any_time first width e)

  abbrev once_within : Update
  once_within =
      let a = age_drop first width delta n m in
      let c = applied AndNot a f in
      let z = stamp first width f in
      let e = applied Or c z in
      once_at_most a c z e (any_time first width e)

  abbrev always_within : Update
  always_within =
      let a = age_drop first width delta n m in
      let c = applied And a f in
      let o = map_leaves not f in
      let z = stamp first width o in
      let e = applied Or c z in
      let y = any_time first width e in
      always_at_most a c o z e y (map_leaves not y)

  abbrev since_beyond : Update
  since_beyond =
      let c = age_cap first width delta (n + 1) m in
      let a = applied And f c in
      let y = any_time first width a in
      let w = applied AndNot g y in
      let z = stamp first width w in
      let e = applied Or a z in
      since_more_than c a y w z e (at_time first width (n + 1) e)

  abbrev once_beyond : Update
  once_beyond =
      let a = age_cap first width delta (n + 1) m in
      let y = any_time first width a in
      let w = applied AndNot f y in
      let z = stamp first width w in
      let e = applied Or a z in
      once_more_than a y w z e (at_time first width (n + 1) e)

  abbrev always_beyond : Update
  always_beyond =
      let a = age_cap first width delta (n + 1) m in
      let y = any_time first width a in
      let o = map_leaves not f in
      let w = applied AndNot o y in
      let z = stamp first width w in
      let e = applied Or a z in
      let v = at_time first width (n + 1) e in
      always_more_than a y o w z e v (map_leaves not v)

-- over the block of the setting that is what the kind makes at an event
module _ (fr : Frame) (f g m : Tree) (roots : List ℕ) (old new : Table) (r : Result Updated RowFull) (n first width : ℕ)
    (at : first ≡ time_first fr.setting) (wide : width ≡ time_width fr.setting) where
  abbrev Makes : Kind → Type 0
  Makes k = MakesUpdate (update fr k f g m) roots old new r

  moved : (u : ℕ → ℕ → Update) → MakesUpdate (u first width) roots old new r →
      MakesUpdate (u (time_first fr.setting) (time_width fr.setting)) roots old new r
  moved u h =
      subst (λ (w : ℕ). MakesUpdate (u (time_first fr.setting) w) roots old new r) wide
      (subst (λ (a : ℕ). MakesUpdate (u a width) roots old new r) at h)

  pub since_within-rows : (k : Kind) → k ≡ kind.SinceAtMost n → MakesUpdate (since_within fr.delta n first width f g m) roots old new r → Makes k
  since_within-rows k e h = subst Makes (sym e) (moved (λ a w. since_within fr.delta n a w f g m) h)

  pub once_within-rows : (k : Kind) → k ≡ kind.OnceAtMost n → MakesUpdate (once_within fr.delta n first width f g m) roots old new r → Makes k
  once_within-rows k e h = subst Makes (sym e) (moved (λ a w. once_within fr.delta n a w f g m) h)

  pub always_within-rows : (k : Kind) → k ≡ kind.AlwaysAtMost n → MakesUpdate (always_within fr.delta n first width f g m) roots old new r → Makes k
  always_within-rows k e h = subst Makes (sym e) (moved (λ a w. always_within fr.delta n a w f g m) h)

  pub since_beyond-rows : (k : Kind) → k ≡ kind.SinceMoreThan n → MakesUpdate (since_beyond fr.delta n first width f g m) roots old new r → Makes k
  since_beyond-rows k e h = subst Makes (sym e) (moved (λ a w. since_beyond fr.delta n a w f g m) h)

  pub once_beyond-rows : (k : Kind) → k ≡ kind.OnceMoreThan n → MakesUpdate (once_beyond fr.delta n first width f g m) roots old new r → Makes k
  once_beyond-rows k e h = subst Makes (sym e) (moved (λ a w. once_beyond fr.delta n a w f g m) h)

  pub always_beyond-rows : (k : Kind) → k ≡ kind.AlwaysMoreThan n → MakesUpdate (always_beyond fr.delta n first width f g m) roots old new r → Makes k
  always_beyond-rows k e h = subst Makes (sym e) (moved (λ a w. always_beyond fr.delta n a w f g m) h)

-- a kind that is none of those that remember nothing remembers something
pub only_temporal : (k : Kind) → (k ≡ kind.True → ⊥) → (k ≡ kind.False → ⊥) → ((a : Atom) → k ≡ kind.Atom a → ⊥) → (k ≡ kind.Not → ⊥) → (k ≡ kind.And → ⊥) →
    (k ≡ kind.Or → ⊥) → (k ≡ kind.Implies → ⊥) → (k ≡ kind.Iff → ⊥) → ((x : ℕ) → k ≡ kind.Exists x → ⊥) → ((x : ℕ) → k ≡ kind.Forall x → ⊥) → is_temporal k ≡ true
only_temporal kind.True a b c d e f g h i j = absurd (a refl)
only_temporal kind.False a b c d e f g h i j = absurd (b refl)
only_temporal (kind.Atom x) a b c d e f g h i j = absurd (c x refl)
only_temporal kind.Not a b c d e f g h i j = absurd (d refl)
only_temporal kind.And a b c d e f g h i j = absurd (e refl)
only_temporal kind.Or a b c d e f g h i j = absurd (f refl)
only_temporal kind.Implies a b c d e f g h i j = absurd (g refl)
only_temporal kind.Iff a b c d e f g h i j = absurd (h refl)
only_temporal (kind.Exists x) a b c d e f g h i j = absurd (i x refl)
only_temporal (kind.Forall x) a b c d e f g h i j = absurd (j x refl)
only_temporal _ a b c d e f g h i j = refl

-- and has a child
pub temporal_child : (k : Kind) → is_temporal k ≡ true → 1 ≤ children k
temporal_child kind.True t = absurd (let never : ⊥ = cc in never)
temporal_child kind.False t = absurd (let never : ⊥ = cc in never)
temporal_child (kind.Atom x) t = absurd (let never : ⊥ = cc in never)
temporal_child kind.Not t = absurd (let never : ⊥ = cc in never)
temporal_child kind.And t = absurd (let never : ⊥ = cc in never)
temporal_child kind.Or t = absurd (let never : ⊥ = cc in never)
temporal_child kind.Implies t = absurd (let never : ⊥ = cc in never)
temporal_child kind.Iff t = absurd (let never : ⊥ = cc in never)
temporal_child (kind.Exists x) t = absurd (let never : ⊥ = cc in never)
temporal_child (kind.Forall x) t = absurd (let never : ⊥ = cc in never)
temporal_child kind.Prev t = omega arith
temporal_child kind.Since t = omega arith
temporal_child kind.Once t = omega arith
temporal_child kind.Always t = omega arith
temporal_child kind.Interval t = omega arith
temporal_child (kind.SinceAtMost x) t = omega arith
temporal_child (kind.SinceMoreThan x) t = omega arith
temporal_child (kind.OnceAtMost x) t = omega arith
temporal_child (kind.OnceMoreThan x) t = omega arith
temporal_child (kind.AlwaysAtMost x) t = omega arith
temporal_child (kind.AlwaysMoreThan x) t = omega arith

-- of the kinds that remember something one has neither a row nor a bound
pub only_previous : (k : Kind) → is_temporal k ≡ true → (k ≡ kind.Since → ⊥) → (k ≡ kind.Once → ⊥) → (k ≡ kind.Always → ⊥) → (k ≡ kind.Interval → ⊥) →
    ((x : ℕ) → k ≡ kind.SinceAtMost x → ⊥) → ((x : ℕ) → k ≡ kind.SinceMoreThan x → ⊥) → ((x : ℕ) → k ≡ kind.OnceAtMost x → ⊥) →
    ((x : ℕ) → k ≡ kind.OnceMoreThan x → ⊥) → ((x : ℕ) → k ≡ kind.AlwaysAtMost x → ⊥) → ((x : ℕ) → k ≡ kind.AlwaysMoreThan x → ⊥) → k ≡ kind.Prev
only_previous kind.True t a b c d e f g h i j = absurd (let never : ⊥ = cc in never)
only_previous kind.False t a b c d e f g h i j = absurd (let never : ⊥ = cc in never)
only_previous (kind.Atom x) t a b c d e f g h i j = absurd (let never : ⊥ = cc in never)
only_previous kind.Not t a b c d e f g h i j = absurd (let never : ⊥ = cc in never)
only_previous kind.And t a b c d e f g h i j = absurd (let never : ⊥ = cc in never)
only_previous kind.Or t a b c d e f g h i j = absurd (let never : ⊥ = cc in never)
only_previous kind.Implies t a b c d e f g h i j = absurd (let never : ⊥ = cc in never)
only_previous kind.Iff t a b c d e f g h i j = absurd (let never : ⊥ = cc in never)
only_previous (kind.Exists x) t a b c d e f g h i j = absurd (let never : ⊥ = cc in never)
only_previous (kind.Forall x) t a b c d e f g h i j = absurd (let never : ⊥ = cc in never)
only_previous kind.Prev t a b c d e f g h i j = refl
only_previous kind.Since t a b c d e f g h i j = absurd (a refl)
only_previous kind.Once t a b c d e f g h i j = absurd (b refl)
only_previous kind.Always t a b c d e f g h i j = absurd (c refl)
only_previous kind.Interval t a b c d e f g h i j = absurd (d refl)
only_previous (kind.SinceAtMost x) t a b c d e f g h i j = absurd (e x refl)
only_previous (kind.SinceMoreThan x) t a b c d e f g h i j = absurd (f x refl)
only_previous (kind.OnceAtMost x) t a b c d e f g h i j = absurd (g x refl)
only_previous (kind.OnceMoreThan x) t a b c d e f g h i j = absurd (h x refl)
only_previous (kind.AlwaysAtMost x) t a b c d e f g h i j = absurd (i x refl)
only_previous (kind.AlwaysMoreThan x) t a b c d e f g h i j = absurd (j x refl)
