-- The rows of an event look at the remembered trees of temporal subformulas alone.
use Rattle.std.proofs.Common.{◌≡◌, ℕ, suc, ◌+◌, ◌-◌, refl, ap, ◌∙◌, subst, arith, List, [], ◌∷◌, ◌++◌, length, length-append, map, take, Bool, true, false, Some, IsTrue}
use Rattle.std.specs.Prelude.{if◌then◌else◌, slice_get}
use Rattle.subformulas.specs.Memory.{is_temporal, IsTemporal}
use Rattle.subformulas.specs.declared.table.Kind.{Kind}
use Rattle.subformulas.specs.declared.table.Kind.TheVariants as kind
use Rattle.subformulas.specs.declared.table.Sub.{Sub}
use Rattle.subformulas.proofs.Plain.{some_is}
use Rattle.node_tree.specs.Tree.{Tree}
use Rattle.operation_rows.specs.Rows.{first_full, Update}
use Rattle.monitor_model.specs.Rows.{Frame, Sources, update, nth, of_temporal, at_row, update_after, updates_from, updates, next_at, kept_at, full_from, nodes_full}

-- an update looks at the remembered tree of a temporal kind alone
pub update_memory : (fr : Frame) (k : Kind) (f g m m' : Tree) →
    (IsTrue (is_temporal k) → m ≡ m') → update fr k f g m ≡ update fr k f g m'
update_memory fr kind.Prev f g m m' e = ap (update fr kind.Prev f g) (e refl)
update_memory fr kind.Since f g m m' e = ap (update fr kind.Since f g) (e refl)
update_memory fr kind.Once f g m m' e = ap (update fr kind.Once f g) (e refl)
update_memory fr kind.Always f g m m' e = ap (update fr kind.Always f g) (e refl)
update_memory fr kind.Interval f g m m' e = ap (update fr kind.Interval f g) (e refl)
update_memory fr (kind.SinceAtMost n) f g m m' e = ap (update fr (kind.SinceAtMost n) f g) (e refl)
update_memory fr (kind.SinceMoreThan n) f g m m' e =
    ap (update fr (kind.SinceMoreThan n) f g) (e refl)
update_memory fr (kind.OnceAtMost n) f g m m' e = ap (update fr (kind.OnceAtMost n) f g) (e refl)
update_memory fr (kind.OnceMoreThan n) f g m m' e =
    ap (update fr (kind.OnceMoreThan n) f g) (e refl)
update_memory fr (kind.AlwaysAtMost n) f g m m' e =
    ap (update fr (kind.AlwaysAtMost n) f g) (e refl)
update_memory fr (kind.AlwaysMoreThan n) f g m m' e =
    ap (update fr (kind.AlwaysMoreThan n) f g) (e refl)
update_memory fr _ f g m m' e = refl

-- the same tree is remembered of each temporal subformula of a list whose first one has number n
abbrev SameFrom : (memory other : ℕ → Tree) → ℕ → List Sub → Type 0
SameFrom memory other n subs =
    (j : ℕ) (u : Sub) → slice_get subs j ≡ Some u → IsTrue (is_temporal u.kind) →
    memory (n + j) ≡ other (n + j)

module _ (memory memory' : ℕ → Tree) where
  from_here : (n : ℕ) (u : Sub) (subs : List Sub) → SameFrom memory memory' n (u ∷ subs) →
      IsTrue (is_temporal u.kind) → memory n ≡ memory' n
  from_here n u subs h t =
      let z : n + 0 ≡ n = omega arith in
      subst (λ (k : ℕ). memory k ≡ memory' k) z (h 0 u refl t)

  from_behind : (n m : ℕ) (u : Sub) (subs : List Sub) → m ≡ n + 1 →
      SameFrom memory memory' n (u ∷ subs) → SameFrom memory memory' m subs
  from_behind n m u subs e h j r g t =
      let z : n + suc j ≡ m + j = omega (arith, e) in
      subst (λ (k : ℕ). memory k ≡ memory' k) z (h (suc j) r g t)

  same_temporal : (n : ℕ) (subs : List Sub) → SameFrom memory memory' n subs →
      of_temporal memory n subs ≡ of_temporal memory' n subs
  same_temporal n [] h = refl
  same_temporal n (u ∷ subs) h =
      by_test (is_temporal u.kind) (from_here n u subs h)
      (same_temporal (n + 1) subs (from_behind n (n + 1) u subs refl h))
    where
      by_test : (b : Bool) → (IsTrue b → memory n ≡ memory' n) →
          of_temporal memory (n + 1) subs ≡ of_temporal memory' (n + 1) subs →
          (if b then memory n ∷ of_temporal memory (n + 1) subs
          else of_temporal memory (n + 1) subs) ≡
          (if b then memory' n ∷ of_temporal memory' (n + 1) subs
          else of_temporal memory' (n + 1) subs)
      by_test true f e =
          ap (λ t. t ∷ of_temporal memory (n + 1) subs) (f refl) ∙ ap (λ ts. memory' n ∷ ts) e
      by_test false f e = e

module _ (fr : Frame) (memory memory' : ℕ → Tree)
    (alike : (k : ℕ) → IsTemporal fr.setting.subs k → memory k ≡ memory' k) where
  abbrev remembering : (ℕ → Tree) → Sources
  remembering trees = record { frame = fr; memory = trees }

  all_from : SameFrom memory memory' 1 fr.setting.subs
  all_from j u g t =
      let z : 1 + j - 1 ≡ j = omega arith in
      alike (1 + j)
      (omega arith, some_is _ u _ (ap (λ (m : ℕ). slice_get fr.setting.subs m) z ∙ g) t)

  same_after : (done : List Update) (u : Sub) →
      (IsTrue (is_temporal u.kind) → memory (length done + 1) ≡ memory' (length done + 1)) →
      update_after (remembering memory) done u ≡ update_after (remembering memory') done u
  same_after done u h =
      update_memory fr u.kind (nth done u.left).now (nth done u.right).now
      (memory (length done + 1)) (memory' (length done + 1)) h

  updates_after : (done : List Update) (subs : List Sub) →
      SameFrom memory memory' (length done + 1) subs →
      updates_from (remembering memory) done subs ≡ updates_from (remembering memory') done subs
  updates_after done [] h = refl
  updates_after done (u ∷ subs) h =
      let l = length-append done (update_after (remembering memory) done u ∷ []) in
      updates_after (done ++ update_after (remembering memory) done u ∷ []) subs
      (from_behind memory memory' (length done + 1) _ u subs (omega (arith, l)) h) ∙
      ap (λ v. updates_from (remembering memory') (done ++ v ∷ []) subs)
      (same_after done u (from_here memory memory' (length done + 1) u subs h))

  -- the same updates are made
  pub same_made : updates (remembering memory) ≡ updates (remembering memory')
  same_made = updates_after [] fr.setting.subs all_from

  same_kept : (k : ℕ) → kept_at (remembering memory) k ≡ kept_at (remembering memory') k
  same_kept k =
      ap (λ ts. ts ++
      (of_temporal (next_at (remembering memory)) 1 (take (k - 1) fr.setting.subs) ++
      map (λ u. u.now) (take (k - 1) (updates (remembering memory)))))
      (same_temporal memory memory' 1 fr.setting.subs all_from) ∙
      ap (λ us. of_temporal memory' 1 fr.setting.subs ++
      (of_temporal (λ j. (nth us j).next) 1 (take (k - 1) fr.setting.subs) ++
      map (λ u. u.now) (take (k - 1) us))) same_made

  same_from : (k : ℕ) (us : List Update) →
      full_from (remembering memory) k us ≡ full_from (remembering memory') k us
  same_from k [] = refl
  same_from k (u ∷ us) =
      ap (λ kept. at_row k (first_full fr.setting.nodes kept u.rows)
      (full_from (remembering memory) (k + 1) us)) (same_kept k) ∙
      ap (λ later. at_row k (first_full fr.setting.nodes (kept_at (remembering memory') k) u.rows)
      later) (same_from (k + 1) us)

  -- and the same row is the first without room
  pub same_without_room :
      nodes_full (record { frame = fr; memory = memory }) ≡
      nodes_full (record { frame = fr; memory = memory' })
  same_without_room =
      same_from 1 (updates (remembering memory)) ∙
      ap (λ us. full_from (remembering memory') 1 us) same_made
