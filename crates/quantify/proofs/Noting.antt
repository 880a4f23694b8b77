-- Counting the handles without a note, and a note taken.
use Rattle.std.proofs.Common.{◌≡◌, ◌≢◌, ◌⊎◌, ℕ, zero, suc, ◌+◌, ◌<◌, ◌≤◌, cond, refl, ap, sym, ◌∙◌, arith, subst, inl, inr, ⊎_elim}
use Rattle.std.specs.Prelude.{Bool, true, false, ◌==◌, Option, Some, None, is_some}
use Rattle.std.proofs.lemmas.Bool.{cases_eq, ne_eqb}
use Rattle.std.proofs.lemmas.Bool.Decides.{Decides-eqb}
use Rattle.node_tree.specs.Tree.{Tree}
use Rattle.node_table.specs.Table.{Table, tree_of, note_of, IsValid, KeepsTrees}
use Rattle.quantify.specs.Notes.{HoldsNotes, unnoted_below, unnoted}

-- ---- counting

digit : (a b : Bool) → (a ≡ true → b ≡ true) → cond b 0 1 ≤ cond a 0 1
digit true true h = omega arith
digit true false h = absurd (let e : false ≡ true = h refl in cc)
digit false true h = omega arith
digit false false h = omega arith

below_le : (f g : ℕ → Option ℕ) → ((k : ℕ) → is_some (f k) ≡ true → is_some (g k) ≡ true) → (n : ℕ) → unnoted_below g n ≤ unnoted_below f n
below_le f g more zero = omega arith
below_le f g more (suc n) = let a = below_le f g more n in let b = digit (is_some (f n)) (is_some (g n)) (more n) in omega (arith, a, b)

below_less : (f g : ℕ → Option ℕ) → ((k : ℕ) → is_some (f k) ≡ true → is_some (g k) ≡ true) → (h n : ℕ) → h < n → is_some (f h) ≡ false → is_some (g h) ≡ true → unnoted_below g n + 1 ≤ unnoted_below f n
below_less f g more h zero l none some = absurd (omega (arith, l))
below_less f g more h (suc n) l none some = by_place (cases_eq h n) (λ m. below_less f g more h n m none some)
  where
    by_place : (h ≡ n) ⊎ (h ≡ n → ⊥) → (h < n → unnoted_below g n + 1 ≤ unnoted_below f n) → unnoted_below g (suc n) + 1 ≤ unnoted_below f (suc n)
    by_place (inl e) before =
        let a = below_le f g more n in
        let b : ◌≡◌ {A = ℕ} (cond (is_some (f n)) 0 1) 1 = ap (λ b. cond b 0 1) (ap (λ (k : ℕ). is_some (f k)) (sym e) ∙ none) in
        let c : ◌≡◌ {A = ℕ} (cond (is_some (g n)) 0 1) 0 = ap (λ b. cond b 0 1) (ap (λ (k : ℕ). is_some (g k)) (sym e) ∙ some) in
        omega (arith, a, b, c)
    by_place (inr e) before =
        let a = before (omega (arith, l, e)) in
        let b = digit (is_some (f n)) (is_some (g n)) (more n) in
        omega (arith, a, b)

below_all : (f : ℕ → Option ℕ) (n : ℕ) → unnoted_below f n ≤ n
below_all f zero = omega arith
below_all f (suc n) = let a = below_all f n in let b = digit false (is_some (f n)) (λ (e : false ≡ true). cc) in omega (arith, a, b)

-- there are no more than there can be nodes, and the leaves
pub unnoted_few : (t : Table) → unnoted t ≤ t.room + 2
unnoted_few t = below_all (note_of t) (t.room + 2)

-- where all that was noted is, there are no more left
pub unnoted_le : (t w : Table) → w.room ≡ t.room → ((k : ℕ) → is_some (note_of t k) ≡ true → is_some (note_of w k) ≡ true) → unnoted w ≤ unnoted t
unnoted_le t w room more =
    let e : unnoted w ≡ unnoted_below (note_of w) (t.room + 2) = ap (λ (n : ℕ). unnoted_below (note_of w) (n + 2)) room in
    let a = below_le (note_of t) (note_of w) more (t.room + 2) in
    omega (arith, e, a)

-- as many where the notes are as before
pub unnoted_same : (t w : Table) → w.room ≡ t.room → ((k : ℕ) → note_of w k ≡ note_of t k) → unnoted w ≤ unnoted t
unnoted_same t w room same = unnoted_le t w room (λ k e. ap is_some (same k) ∙ e)

-- ---- a note that was taken

pub note_here : (h v : ℕ) (x : Option ℕ) → cond (h == h) (Some v) x ≡ Some v
note_here h v x = ap (λ b. cond b (Some v) x) ((Decides-eqb h h).1 refl)

pub note_there : (k h v : ℕ) (x : Option ℕ) → k ≢ h → cond (k == h) (Some v) x ≡ x
note_there k h v x n = ap (λ b. cond b (Some v) x) (ne_eqb k h n)

module _ (t w : Table) (h v : ℕ) (noted : (k : ℕ) → note_of w k ≡ cond (k == h) (Some v) (note_of t k)) where
  pub taken_here : note_of w h ≡ Some v
  taken_here = noted h ∙ note_here h v (note_of t h)

  pub taken_there : (k : ℕ) → k ≢ h → note_of w k ≡ note_of t k
  taken_there k n = noted k ∙ note_there k h v (note_of t k) n

  more : (k : ℕ) → is_some (note_of t k) ≡ true → is_some (note_of w k) ≡ true
  more k e = ⊎_elim
      (λ (q : k ≡ h). ap (λ (j : ℕ). is_some (note_of w j)) q ∙ ap is_some taken_here)
      (λ (q : k ≢ h). ap is_some (taken_there k q) ∙ e)
      (cases_eq k h)

  pub taken_le : w.room ≡ t.room → unnoted w ≤ unnoted t
  taken_le room = unnoted_le t w room more

  -- of a handle that had none
  pub taken_less : w.room ≡ t.room → h < w.room + 2 → None ≡ note_of t h → unnoted w + 1 ≤ unnoted t
  taken_less room within none =
      let e : unnoted w ≡ unnoted_below (note_of w) (t.room + 2) = ap (λ (n : ℕ). unnoted_below (note_of w) (n + 2)) room in
      let a = below_less (note_of t) (note_of w) more h (t.room + 2) (omega (arith, within, room)) (ap is_some (sym none)) (ap is_some taken_here) in
      omega (arith, e, a)

-- ---- what notes hold

-- over a table that keeps its trees, and has the same notes
pub notes_kept : (f : Tree → Tree) (t w : Table) → KeepsTrees t w → ((k : ℕ) → note_of w k ≡ note_of t k) → HoldsNotes f t → HoldsNotes f w
notes_kept f t w keeps same holds = λ u k e.
    let x = holds u k (sym (same u) ∙ e) in
    let a = keeps.trees u x.0 in let b = keeps.trees k x.1 in
    (a.0, b.0, b.1 ∙ x.2 ∙ sym (ap f a.1))

-- and one more
pub notes_taken : (f : Tree → Tree) (t w : Table) (h v : ℕ) → KeepsTrees t w → ((k : ℕ) → note_of w k ≡ cond (k == h) (Some v) (note_of t k)) → IsValid w h → IsValid w v → tree_of w v ≡ f (tree_of w h) → HoldsNotes f t → HoldsNotes f w
notes_taken f t w h v keeps noted vh vv is holds = λ u k e. by_place u k e (cases_eq u h)
  where
    by_place : (u k : ℕ) → note_of w u ≡ Some k → (u ≡ h) ⊎ (u ≡ h → ⊥) → IsValid w u × IsValid w k × (tree_of w k ≡ f (tree_of w u))
    by_place u k e (inl q) =
        let both : Some v ≡ Some k = sym (taken_here t w h v noted) ∙ ap (note_of w) (sym q) ∙ e in
        let vk : v ≡ k = cc in
        (subst (IsValid w) (sym q) vh, subst (IsValid w) vk vv, ap (tree_of w) (sym vk) ∙ is ∙ ap (λ (j : ℕ). f (tree_of w j)) (sym q))
    by_place u k e (inr q) =
        let x = holds u k (sym (taken_there t w h v noted u q) ∙ e) in
        let a = keeps.trees u x.0 in let b = keeps.trees k x.1 in
        (a.0, b.0, b.1 ∙ x.2 ∙ sym (ap f a.1))

-- no notes hold nothing wrong
pub notes_none : (f : Tree → Tree) (t : Table) → ((k : ℕ) → note_of t k ≡ None) → HoldsNotes f t
notes_none f t none = λ u k e. absurd (let x : None ≡ Some k = sym (none u) ∙ e in cc)
