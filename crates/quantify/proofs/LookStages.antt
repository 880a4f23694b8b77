-- The stages of a walk that looks for a level, one after another.
use Rattle.std.proofs.Common.{◌≡◌, ◌⊎◌, ℕ, ◌+◌, ◌<◌, List, cond, refl, ap, sym, ◌∙◌, arith, subst, inl, inr}
use Rattle.std.specs.Prelude.{Bool, true, false, Some, None, ◌==◌, nat_eq, Option, IsTrue, slice_index_or}
use Rattle.std.proofs.lemmas.Bool.{cases_eq}
use Rattle.std.proofs.lemmas.Bool.Decides.{Decides-eqb}
use Rattle.node_tree.specs.Tree.{Zero, Branch, depth}
use Rattle.node_tree.specs.Levels.{LevelsBelow}
use Rattle.node_table.specs.declared.node.Node.{Node}
use Rattle.node_table.specs.Unfold.{tree_at, is_valid}
use Rattle.node_table.specs.Table.{Table, tree_of, note_of, IsValid}
use Rattle.quantify.specs.Notes.{NotesBefore}
use Rattle.quantify.specs.Cut.{cut, IsBefore, Looks}
use Rattle.quantify.proofs.Cutting.{none-cut}
use Rattle.quantify.proofs.Noting.{taken_here, taken_there, taken_le, taken_less}

-- trees of tables with the same nodes
pub same_tree : (t w : Table) → w.nodes ≡ t.nodes → (h : ℕ) → tree_of w h ≡ tree_of t h
same_tree t w e h = ap (λ (ns : List (Option Node)). tree_at (λ k. slice_index_or ns k None) h) e

pub same_valid : (t w : Table) → w.nodes ≡ t.nodes → (h : ℕ) → IsValid t h → IsValid w h
same_valid t w e h v = ap (λ (ns : List (Option Node)). is_valid (λ k. slice_index_or ns k None) h) e ∙ v

-- no notes say nothing wrong
pub before_none : (level : ℕ) (t : Table) → ((k : ℕ) → note_of t k ≡ None) → NotesBefore level t
before_none level t none = λ u e. absurd (let x : None ≡ Some u = sym (none u) ∙ e in cc)

-- a note of another tree, or of the handle itself where its tree has no such level
before_taken : (level : ℕ) (t w : Table) (h v : ℕ) → w.nodes ≡ t.nodes → ((k : ℕ) → note_of w k ≡ cond (k == h) (Some v) (note_of t k)) → (v ≡ h → LevelsBelow level (tree_of w h)) → NotesBefore level t → NotesBefore level w
before_taken level t w h v nodes noted own holds = λ u e. by_place u e (cases_eq u h)
  where
    by_place : (u : ℕ) → note_of w u ≡ Some u → (u ≡ h) ⊎ (u ≡ h → ⊥) → LevelsBelow level (tree_of w u)
    by_place u e (inl q) =
        let both : Some v ≡ Some u = sym (taken_here t w h v noted) ∙ ap (note_of w) (sym q) ∙ e in
        let vu : v ≡ u = cc in
        subst (λ (j : ℕ). LevelsBelow level (tree_of w j)) (sym q) (own (vu ∙ q))
    by_place u e (inr q) = subst (LevelsBelow level) (sym (same_tree t w nodes u)) (holds u (sym (taken_there t w h v noted u q) ∙ e))

-- a note that the handle itself was found
own_note : (level h found : ℕ) (t : Table) → NotesBefore level t → Some found ≡ note_of t h → IsTrue (nat_eq found h) → LevelsBelow level (tree_of t h)
own_note level h found t holds e same = holds h (sym e ∙ ap (λ (k : ℕ). Some k) ((Decides-eqb found h).0 same))

module _ (level h : ℕ) (t : Table) (s : ℕ) (vh : IsValid t h) (re : NotesBefore level t) (q : ℕ) (one : q ≡ s + 1) where
  -- to cut off what stands from the level on answers the handle itself, or another
  pub looked : (answer : ℕ) → tree_of t answer ≡ cut false level (tree_of t h) → Looks level h t t s q (nat_eq answer h)
  looked answer is = record {
    room = refl;
    nodes = refl;
    below = λ e. none-cut false level (tree_of t h) (sym is ∙ ap (tree_of t) ((Decides-eqb answer h).0 e));
    noted = re;
    cost = omega (arith, one);
  }

  pub known : (found : ℕ) → Some found ≡ note_of t h → Looks level h t t s q (nat_eq found h)
  known found e = record {
    room = refl;
    nodes = refl;
    below = λ same. own_note level h found t re e same;
    noted = re;
    cost = omega (arith, one);
  }

  module _ (at lo hi : ℕ) (ab : IsBefore t h level at lo hi) (none : None ≡ note_of t h) (zero : ℕ) (vz : tree_of t zero ≡ Zero) (w : Table) (room : w.room ≡ t.room) (nodes : w.nodes ≡ t.nodes)
      (noted : (k : ℕ) → note_of w k ≡ cond (k == h) (Some zero) (note_of t k)) (within : h < w.room + 2) where
    -- until more is known, the leaf is noted
    pub begun : NotesBefore level w
    begun = before_taken level t w h zero nodes noted (λ e. absurd (let z : Zero ≡ Branch at (tree_of t lo) (tree_of t hi) = sym vz ∙ ap (tree_of t) e ∙ ab.tree in cc)) re

    pub valid_low : IsValid w lo
    valid_low = same_valid t w nodes lo ab.low_valid

    pub less_low : depth (tree_of w lo) < depth (tree_of t h)
    less_low = let d = ap depth ab.tree in let e = ap depth (same_tree t w nodes lo) in omega (arith, d, e)

    module _ (x : Table) (k : ℕ) (low : Bool) (a : Looks level lo w x q k low) where
      -- a level was found below
      pub found_low : low ≡ false → Looks level h t x s k false
      found_low e = record {
        room = a.room ∙ room;
        nodes = a.nodes ∙ nodes;
        below = λ z. absurd (let y : false ≡ true = z in cc);
        noted = a.noted;
        cost = (let l = taken_less t w h zero noted room within none in let c = a.cost in omega (arith, one, l, c));
      }

      pub valid_high : IsValid x hi
      valid_high = same_valid t x (a.nodes ∙ nodes) hi ab.high_valid

      pub less_high : depth (tree_of x hi) < depth (tree_of t h)
      less_high = let d = ap depth ab.tree in let e = ap depth (same_tree t x (a.nodes ∙ nodes) hi) in omega (arith, d, e)

      module _ (y : Table) (j : ℕ) (high : Bool) (b : Looks level hi x y k j high) where
        pub found_high : high ≡ false → Looks level h t y s j false
        found_high e = record {
          room = b.room ∙ a.room ∙ room;
          nodes = b.nodes ∙ a.nodes ∙ nodes;
          below = λ z. absurd (let y : false ≡ true = z in cc);
          noted = b.noted;
          cost = (let l = taken_less t w h zero noted room within none in let c = a.cost in let d = b.cost in omega (arith, one, l, c, d));
        }

        pub valid_here : IsValid y h
        valid_here = same_valid t y (b.nodes ∙ a.nodes ∙ nodes) h vh

        -- none was found
        pub done : low ≡ true → high ≡ true → (z : Table) → z.room ≡ y.room → z.nodes ≡ y.nodes → ((k : ℕ) → note_of z k ≡ cond (k == h) (Some h) (note_of y k)) → Looks level h t z s j true
        done el eh z zr zn last =
            let all_nodes : z.nodes ≡ t.nodes = zn ∙ b.nodes ∙ a.nodes ∙ nodes in
            let below_low : LevelsBelow level (tree_of t lo) = subst (LevelsBelow level) (same_tree t w nodes lo) (a.below el) in
            let below_high : LevelsBelow level (tree_of t hi) = subst (LevelsBelow level) (same_tree t x (a.nodes ∙ nodes) hi) (b.below eh) in
            let here : LevelsBelow level (tree_of t h) = subst (LevelsBelow level) (sym ab.tree) (ab.before, below_low, below_high) in
            record {
              room = zr ∙ b.room ∙ a.room ∙ room;
              nodes = all_nodes;
              below = λ _. here;
              noted = before_taken level y z h h zn last (λ _. subst (LevelsBelow level) (sym (same_tree t z all_nodes h)) here) b.noted;
              cost =
                  (let l = taken_less t w h zero noted room within none in let c = a.cost in let d = b.cost in
                  let m = taken_le y z h h last zr in
                  omega (arith, one, l, c, d, m));
            }
