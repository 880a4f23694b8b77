-- The stages of an operation, one after another.
use Rattle.std.proofs.Common.{◌≡◌, ◌⊎◌, ℕ, ◌+◌, ◌<◌, ◌≤◌, refl, ap, sym, ◌∙◌, arith, subst, inl, inr}
use Rattle.std.specs.Prelude.{true, false, ◌↔◌, Some, None, Result, Ok, Err, IfOk, IsErr, OnOk, OnErr, length}
use Rattle.node_tree.specs.Tree.{Tree, branches, join, top, depth}
use Rattle.node_tree.proofs.Joins.{join_low, join_high}
use Rattle.node_table.specs.declared.table.Full.{Full}
use Rattle.node_table.specs.Table.{Table, tree_of, IsValid, need, KeepsTrees, HoldsAlso, IsShared}
use Rattle.op_cache.specs.Memo.{Memo, result_at, Adds}
use Rattle.bdd_ops.specs.declared.op.Op.{Op}
use Rattle.bdd_ops.specs.declared.parts.Split.{Split}
use Rattle.bdd_ops.specs.Apply.{apply_tree}
use Rattle.bdd_ops.specs.Numbers.{truth_of, number_of, place}
use Rattle.bdd_ops.specs.Split.{Splits}
use Rattle.bdd_ops.specs.Applied.{Grows, Makes, op_tree, HoldsResults, depths, LeavesOthers, unfinished, Costs, Applies}
use Rattle.bdd_ops.proofs.Splitting.{Parts, parts}
use Rattle.bdd_ops.proofs.Growing.{In, IsPart, keeps_same, grows_none, widened, chained, made_grows, full_back, fits_in}
use Rattle.bdd_ops.proofs.Memo.{sound_kept, sound_added, others_same, others_chained, others_below, others_added, costs_none, costs_part, costs_chained, costs_dropped, costs_stored}

pub never : false ≡ true → ⊥
never e = cc

-- a tree that is made has no want of room
pub made_ok : (t w : Table) (tree : Tree) (h : ℕ) → IsValid w h → tree_of w h ≡ tree → Grows t w tree → Makes tree t w (Ok h)
made_ok t w tree h v e g = record { valid = v; is = e; grows = g; full = (λ x. absurd (never x), λ f. (let n = fits_in t w tree h g v e in absurd (omega (arith, n, f)))) }

-- what was made over a table that had grown by the tree's branches at most
pub makes_grown : (t w new : Table) (tree : Tree) (r : Result ℕ Full) → Grows t w tree → Makes tree w new r → Makes tree t new r
makes_grown t w new tree (Ok h) g m = made_ok t new tree h m.valid m.is (chained t w new tree g m.grows)
makes_grown t w new tree (Err e) g m = record {
  valid = tt;
  is = tt;
  grows = chained t w new tree g m.grows;
  full = (λ x. full_back t w tree tree g (λ q i. i) (m.full.0 x), λ f. refl);
}

-- what `make` says, of the tree that joins two others
pub makes_node : (t w : Table) (tree : Tree) (r : Result ℕ Full) → IfOk r (λ h. IsValid w h) → IfOk r (λ h. tree_of w h ≡ tree) → KeepsTrees t w → OnOk r (HoldsAlso t w tree) → OnErr r (w ≡
    t) → IsShared w → (IsErr r ↔ (t.room < need t tree)) → Makes tree t w r
makes_node t w tree (Ok h) v i k also gone s full = record { valid = v; is = i; grows = made_grows t w tree k also s; full = full }
makes_node t w tree (Err x) v i k also gone s full = record { valid = tt; is = tt; grows = subst (λ y. Grows t y tree) (sym gone) (grows_none t tree (subst IsShared gone s)); full = full }

pub unfinished-le : (r : Result ℕ Full) (n : ℕ) → unfinished r n ≤ n
unfinished-le (Ok h) n = omega arith
unfinished-le (Err e) n = omega arith

module _ (op : Op) (u v : ℕ) (t : Table) (m : Memo ℕ) (s : ℕ) (sh : IsShared t) (vu : IsValid t u) (vv : IsValid t v) (so : HoldsResults t m.pairs) where
  abbrev Whole : Tree
  Whole = op_tree op t u v

  -- the answer is there
  pub there : (h : ℕ) → IsValid t h → tree_of t h ≡ op_tree op t u v → Applies op u v t t m m s s (Ok h)
  there h vh e = record { made = made_ok t t Whole h vh e (grows_none t Whole sh); sound = so; others = others_same t m.pairs (number_of op) u v; costs = costs_none m s 0 }

  pub found : (h : ℕ) → Some h ≡ result_at m.pairs (place op u v) → Applies op u v t t m m s s (Ok h)
  found h e = let x = so.each op u v h (sym e) in there h x.2 x.3

  module _ (k : Split) (sp : Splits t u v k) (q : ℕ) (two : q ≡ s + 2) where
    ps : Parts (truth_of op) t u v k
    ps = parts (truth_of op) t u v k sh vu vv sp

    pub less_low : depths t k.left_low k.right_low < depths t u v
    less_low = ps.depth_low

    low_part : IsPart (op_tree op t k.left_low k.right_low) Whole
    low_part x i = subst (λ w. In (branches w) x) (sym ps.whole) (join_low k.level _ _ x i)

    high_part : IsPart (op_tree op t k.left_high k.right_high) Whole
    high_part x i = subst (λ w. In (branches w) x) (sym ps.whole) (join_high k.level _ _ x i)

    module _ (w : Table) (n : Memo ℕ) (s1 : ℕ) (r : Result ℕ Full) (a : Applies op k.left_low k.right_low t w m n q s1 r) where
      costs_first : Costs m n (s + 2) s1 (unfinished r (depths t k.left_low k.right_low))
      costs_first = subst (λ x. Costs m n x s1 (unfinished r (depths t k.left_low k.right_low))) two a.costs

      others_low : LeavesOthers t m.pairs n.pairs (number_of op) u v
      others_low = others_below t t m.pairs n.pairs (number_of op) u v k.left_low k.right_low (keeps_same t) sp.left_low.0 sp.right_low.0 ps.depth_low a.others

      grows_low : Grows t w Whole
      grows_low = widened t w (op_tree op t k.left_low k.right_low) Whole low_part a.made.grows

      -- the lower part had no room
      pub err_low : (z : Result ℕ Full) → IsErr r → IsErr z → Applies op u v t w m n s s1 z
      err_low (Ok h) x y = absurd (never y)
      err_low (Err e) x y = record {
        made = record { valid = tt; is = tt; grows = grows_low; full = (λ y. full_back t t (op_tree op t k.left_low k.right_low) Whole (grows_none t Whole sh) low_part (a.made.full.0 x), λ y. refl) };
        sound = a.sound;
        others = others_low;
        costs = costs_part m n s s1 (unfinished r (depths t k.left_low k.right_low)) (depths t k.left_low k.right_low) (depths t u v) costs_first (unfinished-le r _) ps.depth_low;
      }

      keeps : KeepsTrees t w
      keeps = a.made.grows.keeps

      same_high : op_tree op w k.left_high k.right_high ≡ op_tree op t k.left_high k.right_high
      same_high = ap (λ x. apply_tree (truth_of op) x (tree_of w k.right_high)) (keeps.trees k.left_high sp.left_high.0).1 ∙ ap (apply_tree (truth_of op) (tree_of t k.left_high))
          (keeps.trees k.right_high sp.right_high.0).1

      high_now : IsPart (op_tree op w k.left_high k.right_high) Whole
      high_now x i = high_part x (subst (λ y. In (branches y) x) same_high i)

      pub less_high : depths w k.left_high k.right_high < depths t u v
      less_high = omega (arith, ps.depth_high, ap depth (keeps.trees k.left_high sp.left_high.0).1, ap depth (keeps.trees k.right_high sp.right_high.0).1)

      pub valid_high : IsValid w k.left_high × IsValid w k.right_high
      valid_high = ((keeps.trees k.left_high sp.left_high.0).0, (keeps.trees k.right_high sp.right_high.0).0)

      module _ (x : Table) (o : Memo ℕ) (s2 : ℕ) (r2 : Result ℕ Full) (low : ℕ) (ok : r ≡ Ok low) (b : Applies op k.left_high k.right_high w x n o s1 s2 r2) where
        costs_low : Costs m n (s + 2) s1 0
        costs_low = subst (λ y. Costs m n (s + 2) s1 (unfinished y (depths t k.left_low k.right_low))) ok costs_first

        others_both : LeavesOthers t m.pairs o.pairs (number_of op) u v
        others_both =
            others_chained t m.pairs n.pairs o.pairs (number_of op) u v others_low
            (others_below w t n.pairs o.pairs (number_of op) u v k.left_high k.right_high keeps sp.left_high.0 sp.right_high.0 ps.depth_high b.others)

        grows_both : Grows t x Whole
        grows_both = chained t w x Whole grows_low (widened w x (op_tree op w k.left_high k.right_high) Whole high_now b.made.grows)

        -- the higher part had no room
        pub err_high : (z : Result ℕ Full) → IsErr r2 → IsErr z → Applies op u v t x m o s s2 z
        err_high (Ok h) y i = absurd (never i)
        err_high (Err e) y i = record {
          made = record { valid = tt; is = tt; grows = grows_both; full = (λ z. full_back t w (op_tree op w k.left_high k.right_high) Whole grows_low high_now (b.made.full.0 y), λ z. refl) };
          sound = b.sound;
          others = others_both;
          costs = costs_part m o s s2 (unfinished r2 (depths w k.left_high k.right_high)) (depths w k.left_high k.right_high) (depths t u v) (costs_chained m n o (s + 2) s1 s2 _ costs_low
              b.costs) (unfinished-le r2 _) less_high;
        }

        -- the key is still absent
        pub absent : result_at m.pairs (place op u v) ≡ None → result_at o.pairs (place op u v) ≡ None
        absent e =
            let d : depths w k.left_high k.right_high < depths w u v = (let h = less_high in let i = ap depth (keeps.trees u vu).1 in let j = ap depth (keeps.trees v vv).1 in omega (
              arith,
              h,
              i,
              j,
            )) in
            b.others.deeper (place op u v) (keeps.trees u vu).0 (keeps.trees v vv).0 d ∙ a.others.deeper (place op u v) vu vv ps.depth_low ∙ e

        module _ (high : ℕ) (ok2 : r2 ≡ Ok high) where
          costs_both : Costs m o (s + 2) s2 0
          costs_both = costs_chained m n o (s + 2) s1 s2 0 costs_low (subst (λ y. Costs n o s1 s2 (unfinished y (depths w k.left_high k.right_high))) ok2 b.costs)

          low_made : Makes (op_tree op t k.left_low k.right_low) t w (Ok low)
          low_made = subst (Makes (op_tree op t k.left_low k.right_low) t w) ok a.made

          high_made : Makes (op_tree op w k.left_high k.right_high) w x (Ok high)
          high_made = subst (Makes (op_tree op w k.left_high k.right_high) w x) ok2 b.made

          low_is : tree_of x low ≡ op_tree op t k.left_low k.right_low
          low_is = (b.made.grows.keeps.trees low low_made.valid).1 ∙ low_made.is

          high_is : tree_of x high ≡ op_tree op t k.left_high k.right_high
          high_is = high_made.is ∙ same_high

          pub can_make : IsValid x low × IsValid x high × (k.level < top (tree_of x low)) × (k.level < top (tree_of x high))
          can_make = (
            (b.made.grows.keeps.trees low low_made.valid).0,
            high_made.valid,
            subst (λ y. k.level < top y) (sym low_is) ps.below_low,
            subst (λ y. k.level < top y) (sym high_is) ps.below_high,
          )

          joins : join k.level (tree_of x low) (tree_of x high) ≡ Whole
          joins = ap (λ y. join k.level y (tree_of x high)) low_is ∙ ap (join k.level (op_tree op t k.left_low k.right_low)) high_is ∙ sym ps.whole

          unmade : (z : Result ℕ Full) → IsErr z → x.room < need x (join k.level (tree_of x low) (tree_of x high)) → Applies op u v t x m o s s2 z
          unmade (Ok h) y f = absurd (never y)
          unmade (Err e) y f = record {
            made = record { valid = tt; is = tt; grows = grows_both; full = (λ z. full_back t x Whole Whole grows_both (λ q i. i) (subst (λ y. x.room < need x y) joins f), λ z. refl) };
            sound = b.sound;
            others = others_both;
            costs = costs_dropped m o s s2 (depths t u v) costs_both (let d = ps.depth_low in omega (arith, d));
          }

          pub err_make : (y : Table) (z : Result ℕ Full) → y ≡ x → IsErr z → x.room < need x (join k.level (tree_of x low) (tree_of x high)) → Applies op u v t y m o s s2 z
          err_make y z same i f = subst (λ w. Applies op u v t w m o s s2 z) (sym same) (unmade z i f)

          -- the node was made, and its pair stored where there was room
          pub done : (y : Table) (h : ℕ) (p : Memo ℕ) → IsValid y h → tree_of y h ≡ join k.level (tree_of x low) (tree_of x high) → KeepsTrees x y → HoldsAlso x y (join k.level (tree_of x
              low) (tree_of x high)) → IsShared y
              → p.entries ≡ o.entries → (Adds o.pairs (place op u v) h p.pairs ⊎ ((p ≡ o) × (length o.pairs ≡ o.entries))) → Applies op u v t y m p s s2 (Ok h)
          done y h p vh e keep holds shy entries stored =
              let grown = chained t x y Whole grows_both (made_grows x y Whole keep (subst (HoldsAlso x y) joins holds) shy) in
              let is : tree_of y h ≡ Whole = e ∙ joins in
              let before = sound_kept x y o.pairs keep b.sound in
              record {
                made = made_ok t y Whole h vh is grown;
                sound = now y h p vh is grown before stored;
                others = later h p stored;
                costs = costs_stored m o p s s2 h (place op u v) costs_both entries stored;
              }
            where
              now : (y : Table) (h : ℕ) (p : Memo ℕ) → IsValid y h → tree_of y h ≡ Whole → Grows t y Whole → HoldsResults y o.pairs → (Adds o.pairs (place op u v) h p.pairs ⊎ ((p ≡ o) × (length
                  o.pairs ≡ o.entries))) → HoldsResults y p.pairs
              now y h p vh is g before (inl adds) =
                  let a = g.keeps.trees u vu in let b = g.keeps.trees v vv in
                  sound_added y o.pairs p.pairs op u v h before a.0 b.0 vh (is ∙ sym (ap (λ z. apply_tree (truth_of op) z (tree_of y v)) a.1 ∙ ap (apply_tree (truth_of op) (tree_of t u)) b.1)) adds
              now y h p vh is g before (inr same) = subst (λ z. HoldsResults y z) (sym (ap (λ (z : Memo ℕ). z.pairs) same.0)) before

              later : (h : ℕ) (p : Memo ℕ) → (Adds o.pairs (place op u v) h p.pairs ⊎ ((p ≡ o) × (length o.pairs ≡ o.entries))) → LeavesOthers t m.pairs p.pairs (number_of op) u v
              later h p (inl adds) = others_chained t m.pairs o.pairs p.pairs (number_of op) u v others_both (others_added t o.pairs p.pairs (number_of op) u v h adds)
              later h p (inr same) = subst (λ z. LeavesOthers t m.pairs z (number_of op) u v) (sym (ap (λ (z : Memo ℕ). z.pairs) same.0)) others_both
