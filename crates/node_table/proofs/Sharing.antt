-- What every table promises, and what one node more changes.
use Rattle.std.proofs.Common.{◌≡◌, ℕ, zero, suc, ◌+◌, ◌<◌, ◌≤◌, List, [], ◌∷◌, ◌++◌, length, refl, ap, sym, ◌∙◌, arith, subst, ⊎_elim}
use Rattle.std.specs.Prelude.{Bool, true, false, cond, ◌||◌, ◌==◌, Option, Some, None, ◌≢◌}
use Rattle.std.specs.Option.{is_some}
use Rattle.std.specs.Cmp.{both_ways}
use Rattle.std.specs.List.{IsDistinct, AllByRecursion, list_any}
use Rattle.std.specs.Set.{is_member}
use Rattle.std.proofs.lemmas.Bool.{or_cases, cases_lt}
use Rattle.std.proofs.lemmas.List.{get_or_past}
use Rattle.std.proofs.Math.Bool.{or-true}
use Rattle.std.proofs.lemmas.List.{length-map}
use Rattle.std.proofs.lemmas.List.Folds.{list_any-append}
use Rattle.std.proofs.lemmas.Map.Keys.{IsDistinct-cons}
use Rattle.std.proofs.lemmas.Map.Made.{length-from_keys}
use Rattle.node_tree.specs.Tree.{Tree, Branch, tree_eq, branches, top}
use Rattle.node_tree.proofs.Same.{tree_eq-refl, same_tree}
use Rattle.node_tree.proofs.Counting.{tree_eq_laws}
use Rattle.node_tree.proofs.Setting.{weaken}
use Rattle.node_table.specs.declared.node.Node.{Node}
use Rattle.node_table.specs.Unfold.{tree_in, tree_at, node_tree, is_valid, level_of, level_at, IsWell, all_levels, all_levels-big}
use Rattle.node_table.specs.Table.{Table, node_at, tree_of, IsValid, numbers, held, live_of, need, KeepsTrees, HoldsAlso, IsTable, IsShared}
use Rattle.node_table.proofs.Unfolds.{enough, level_at-le, tree_at-zero, tree_at-one, tree_at-one_number, tree_at-canonical, tree_at-node, grown, valid-grown}
use Rattle.node_table.proofs.Numbers.{has, only, distinct, few}
use Rattle.node_table.proofs.Putting.{put_more, put_here, put_cases, put_well}

-- each Branch of a held tree is held
pub closed_in : (f : ℕ → Option Node) → IsWell f → (n h : ℕ) → is_valid f h ≡ true → 65536 < n + level_at f h → (q : Tree) → is_member tree_eq (branches (tree_in f n h)) q ≡ true → (k : ℕ) × (s : Node) × (f k ≡ Some s) × (tree_at f k ≡ q)
closed_in f w zero h v p q m = absurd (omega (arith, level_at-le f w h))
closed_in f w (suc n) zero v p q m = cc
closed_in f w (suc n) (suc zero) v p q m = cc
closed_in f w (suc n) (suc (suc k)) v p q m =
    elim (f (suc (suc k))) as (λ o. f (suc (suc k)) ≡ o → 65536 < suc n + level_of o → is_member tree_eq (branches (node_tree o (tree_in f n))) q ≡ true → (k : ℕ) × (s : Node) × (f k ≡ Some s) × (tree_at f k ≡ q)) [
      | None ↦ λ e p m. cc
      | Some s ↦ λ e p m.
          let a = w.low (suc (suc k)) s e in let b = w.high (suc (suc k)) s e in
          ⊎_elim
          (λ t.
          let low : tree_at f s.low ≡ tree_in f n s.low = enough f w all_levels n s.low (omega (arith, all_levels-big)) (omega (arith, a.1)) in
          let high : tree_at f s.high ≡ tree_in f n s.high = enough f w all_levels n s.high (omega (arith, all_levels-big)) (omega (arith, b.1)) in
          let parts : Branch s.level (tree_at f s.low) (tree_at f s.high) ≡ Branch s.level (tree_in f n s.low) (tree_in f n s.high) = cc in
          (suc (suc k), s, e, tree_at-node f w (suc (suc k)) s e ∙ parts ∙ sym (same_tree q _ t)))
          (λ t. ⊎_elim
          (λ t. closed_in f w n s.low a.0 (omega (arith, a.1)) q t)
          (λ t. closed_in f w n s.high b.0 (omega (arith, b.1)) q t)
          (or_cases _ _ (sym (list_any-append (tree_eq q) (branches (tree_in f n s.low)) (branches (tree_in f n s.high))) ∙ t)))
          (or_cases _ _ m)
    ] refl p m

pub two_on : (t : Table) → IsTable t → (k : ℕ) (s : Node) → node_at t k ≡ Some s → 2 ≤ k
two_on t i zero s e = let z = i.well.no_zero in cc
two_on t i (suc zero) s e = let z = i.well.no_one in cc
two_on t i (suc (suc k)) s e = omega arith

-- a number that has a node is within the list
pub within : (t : Table) (k : ℕ) (s : Node) → node_at t k ≡ Some s → k < length t.nodes
within t k s e = ⊎_elim (λ (q : k < length t.nodes). q) (λ (q : length t.nodes ≤ k). (let x = get_or_past t.nodes k None q in absurd (none_some s (sym x ∙ e)))) (cases_lt k (length t.nodes))
  where
    none_some : (s : Node) → None ≡ Some s → ⊥
    none_some s e = cc

pub has_tree : (t : Table) (k : ℕ) (s : Node) → node_at t k ≡ Some s → is_member tree_eq (held t) (tree_of t k) ≡ true
has_tree t k s e = has (tree_of t) (node_at t) (length t.nodes) k s e (within t k s e)

pub only_tree : (t : Table) (q : Tree) → is_member tree_eq (held t) q ≡ true → (h : ℕ) × (s : Node) × (node_at t h ≡ Some s) × (tree_of t h ≡ q)
only_tree t q m = let r = only (tree_of t) (node_at t) (length t.nodes) q m in (r.0, r.1, r.3, r.4)

pub valid_from_found : (t : Table) → IsTable t → (k : ℕ) (s : Node) → node_at t k ≡ Some s → IsValid t k
valid_from_found t i zero s e = refl
valid_from_found t i (suc zero) s e = refl
valid_from_found t i (suc (suc k)) s e = ap is_some e

pub held-distinct : (t : Table) → IsTable t → IsDistinct tree_eq (held t)
held-distinct t i = distinct (tree_of t) (node_at t) (λ h k s r a b e. tree_at-one_number (node_at t) i.well h k (valid_from_found t i h s a) (valid_from_found t i k r b) e) (length t.nodes)

pub live-held : (t : Table) → length (held t) ≡ live_of t
live-held t = length-map (numbers t) (tree_of t)

pub held-branches : (t : Table) → IsTable t → (h : ℕ) → IsValid t h → (q : Tree) → is_member tree_eq (branches (tree_of t h)) q ≡ true → is_member tree_eq (held t) q ≡ true
held-branches t i h v q m =
    let c = closed_in (node_at t) i.well all_levels h v (omega (arith, all_levels-big)) q m in
    subst (λ q. is_member tree_eq (held t) q ≡ true) c.3 (has_tree t c.0 c.1 c.2)

pub shared : (t : Table) → IsTable t → IsShared t
shared t i = record {
  zero = (refl, tree_at-zero (node_at t) i.well);
  one = (refl, tree_at-one (node_at t) i.well);
  one_handle = λ h k u v e. tree_at-one_number (node_at t) i.well h k u v e;
  ordered = λ h v. weaken (tree_of t h) (level_at (node_at t) h) 0 (omega arith) (tree_at-canonical (node_at t) i.well h v).1;
  reduced = λ h v. (tree_at-canonical (node_at t) i.well h v).2;
  closed = held-branches t i;
  bound = (let n = few (node_at t) i.well.no_zero i.well.no_one (length t.nodes) i.leaves in omega (arith, n, i.few));
}

-- a table that holds another's nodes and the branches of a tree has as many as are needed
pub live-need : (t u : Table) (tree : Tree) → IsTable u → HoldsAlso t u tree → live_of u ≡ need t tree
live-need t u tree i a =
    sym (live-held u)
    ∙ length-from_keys tree_eq_laws (held u) (branches tree ++ held t) (held-distinct u i) (λ q. a.also q ∙ sym (list_any-append (tree_eq q) (branches tree) (held t)))

implied : (a b : Bool) → (a ≡ true → b ≡ true) → b ≡ (a || b)
implied true b h = h refl
implied false b h = refl

pub holds_already : (t : Table) (tree : Tree) → ((q : Tree) → is_member tree_eq (branches tree) q ≡ true → is_member tree_eq (held t) q ≡ true) → HoldsAlso t t tree
holds_already t tree h = record { also = λ q. implied (is_member tree_eq (branches tree) q) (is_member tree_eq (held t) q) (h q) }

absorbed : (a b c d : Bool) → (b ≡ true → d ≡ true) → (c ≡ true → d ≡ true) → (a || d) ≡ ((a || (b || c)) || d)
absorbed true b c d g h = refl
absorbed false true c d g h = g refl
absorbed false false true d g h = h refl
absorbed false false false d g h = refl

-- a tree that isn't held, whose children are, needs one node more
pub need-one : (t : Table) → IsTable t → (level low high : ℕ) → IsValid t low → IsValid t high → is_member tree_eq (held t) (Branch level (tree_of t low) (tree_of t high)) ≡ false → live_of t + 1 ≡ need t (Branch level (tree_of t low) (tree_of t high))
need-one t i level low high v u absent =
    let tree : Tree = Branch level (tree_of t low) (tree_of t high) in
    let n = length-from_keys tree_eq_laws (tree ∷ held t) (branches tree ++ held t)
    (IsDistinct-cons tree_eq tree (held t) (none_same tree (held t) absent) (held-distinct t i))
    (λ q. absorbed (tree_eq q tree) (is_member tree_eq (branches (tree_of t low)) q) (is_member tree_eq (branches (tree_of t high)) q) (is_member tree_eq (held t) q) (held-branches t i low v q) (held-branches t i high u q)
    ∙ ap (λ b. (tree_eq q tree || b) || is_member tree_eq (held t) q) (sym (list_any-append (tree_eq q) (branches (tree_of t low)) (branches (tree_of t high))))
    ∙ sym (list_any-append (tree_eq q) (branches tree) (held t))) in
    omega (arith, n, live-held t)
  where
    none_same : (x : Tree) (ys : List Tree) → list_any (tree_eq x) ys ≡ false → AllByRecursion (λ y. tree_eq x y ≡ false) ys
    none_same x [] h = tt
    none_same x (y ∷ ys) h = elim (tree_eq x y) as (λ b. tree_eq x y ≡ b → (b || list_any (tree_eq x) ys) ≡ false → (b ≡ false) × AllByRecursion (λ y. tree_eq x y ≡ false) ys) [ true ↦ λ e h. cc | false ↦ λ e h. (refl, none_same x ys h) ] refl h

module _ (t u : Table) (i : IsTable t) (same_room : u.room ≡ t.room) (number : ℕ) (slot : Node) (free : node_at t number ≡ None) (two : 2 ≤ number) (long : 2 ≤ length u.nodes) (fits : length u.nodes ≤ t.room + 2)
    (put : (h : ℕ) → node_at u h ≡ cond (h == number) (Some slot) (node_at t h))
    (low : IsValid t slot.low) (below_low : slot.level < top (tree_of t slot.low)) (high : IsValid t slot.high) (below_high : slot.level < top (tree_of t slot.high))
    (apart : slot.low ≢ slot.high) (level : slot.level < 65536) (absent : (h : ℕ) → node_at t h ≡ Some slot → ⊥) where
  pub put_is_table : IsTable u
  put_is_table =
      let f = node_at t in let g = node_at u in
      let a = (tree_at-canonical f i.well slot.low low).0 in
      let b = (tree_at-canonical f i.well slot.high high).0 in
      record {
        well = put_well f g i.well number slot free two put (low, omega (arith, a, below_low)) (high, omega (arith, b, below_high)) apart level absent;
        leaves = long;
        few = omega (arith, fits, same_room);
      }

  pub put_keeps : KeepsTrees t u
  put_keeps =
      let f = node_at t in let g = node_at u in let more = put_more f g i.well number slot free two put in
      record { room = same_room; trees = λ h v. (valid-grown f g more h v, sym (grown f g i.well more all_levels h v)) }

  pub put_tree : tree_of u number ≡ Branch slot.level (tree_of t slot.low) (tree_of t slot.high)
  put_tree =
      let f = node_at t in let g = node_at u in
      let a = (put_keeps.trees slot.low low).1 in let b = (put_keeps.trees slot.high high).1 in
      let e : tree_of u number ≡ Branch slot.level (tree_of u slot.low) (tree_of u slot.high) = tree_at-node g (put_is_table.well) number slot (put_here f g i.well number slot free two put) in cc

  pub put_also : HoldsAlso t u (Branch slot.level (tree_of t slot.low) (tree_of t slot.high))
  put_also =
      let f = node_at t in let g = node_at u in
      let tree : Tree = Branch slot.level (tree_of t slot.low) (tree_of t slot.high) in
      let more = put_more f g i.well number slot free two put in
      let kept : (q : Tree) → is_member tree_eq (held t) q ≡ true → is_member tree_eq (held u) q ≡ true =
      λ q m. (let r = only_tree t q m in
      let e : tree_of u r.0 ≡ q = (put_keeps.trees r.0 (valid_from_found t i r.0 r.1 r.2)).1 ∙ r.3 in
      subst (λ q. is_member tree_eq (held u) q ≡ true) e (has_tree u r.0 r.1 (more r.0 r.1 r.2))) in
      let here : (q : Tree) → tree_eq q tree ≡ true → is_member tree_eq (held u) q ≡ true =
      λ q e. subst (λ q. is_member tree_eq (held u) q ≡ true) (put_tree ∙ sym (same_tree q tree e)) (has_tree u number slot (put_here f g i.well number slot free two put)) in
      let back : (q : Tree) → is_member tree_eq (held u) q ≡ true → (is_member tree_eq (branches tree) q || is_member tree_eq (held t) q) ≡ true =
      λ q m. (let r = only_tree u q m in
      ⊎_elim
      (λ c. ap (λ b. (b || is_member tree_eq (branches (tree_of t slot.low) ++ branches (tree_of t slot.high)) q) || is_member tree_eq (held t) q)
      (ap (λ x. tree_eq x tree) (sym r.3 ∙ ap (tree_of u) c.0 ∙ put_tree) ∙ tree_eq-refl tree))
      (λ c. (let e : tree_of t r.0 ≡ q = sym ((put_keeps.trees r.0 (valid_from_found t i r.0 r.1 c)).1) ∙ r.3 in
      let m : is_member tree_eq (held t) q ≡ true = subst (λ q. is_member tree_eq (held t) q ≡ true) e (has_tree t r.0 r.1 c) in
      rw m (or-true _)))
      (put_cases f g i.well number slot free two put r.0 r.1 r.2)) in
      record {
        also = λ q. both_ways (is_member tree_eq (held u) q) (is_member tree_eq (branches tree) q || is_member tree_eq (held t) q) (back q)
            (λ m. ⊎_elim
            (λ a. ⊎_elim (here q)
            (λ b. kept q (⊎_elim (held-branches t i slot.low low q) (held-branches t i slot.high high q)
            (or_cases _ _ (sym (list_any-append (tree_eq q) (branches (tree_of t slot.low)) (branches (tree_of t slot.high))) ∙ b))))
            (or_cases _ _ a))
            (kept q) (or_cases _ _ m));
      }
