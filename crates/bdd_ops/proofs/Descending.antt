-- The stages of an operation that takes a level out, one after another.
use Rattle.std.proofs.Common.{◌≡◌, ◌≢◌, ◌⊎◌, ℕ, ◌+◌, ◌<◌, ◌≤◌, refl, ap, sym, ◌∙◌, arith, subst, inl, inr}
use Rattle.std.specs.Prelude.{Some, None, Result, Ok, Err, IsErr, length}
use Rattle.node_tree.specs.Tree.{Tree, branches, join, top, depth, IsOrderedFrom}
use Rattle.node_tree.proofs.Joins.{join_low, join_high, ordered_from_top, top_from_ordered}
use Rattle.node_table.specs.declared.table.Full.{Full}
use Rattle.node_table.specs.Table.{Table, tree_of, IsValid, need, KeepsTrees, HoldsAlso, IsShared}
use Rattle.op_cache.specs.Memo.{Memo, result_at, Adds}
use Rattle.bdd_ops.specs.declared.level.Merge.{Merge}
use Rattle.bdd_ops.specs.Numbers.{number_of}
use Rattle.bdd_ops.specs.Parts.{IsBranch}
use Rattle.bdd_ops.specs.Applied.{Grows, Makes, HoldsResults, depths, unfinished, Costs}
use Rattle.bdd_ops.specs.Level.{at_level, merged, merge_number, inner, HoldsTrees, LeavesRest, Changes, Merges, IsAbove}
use Rattle.bdd_ops.proofs.Growing.{In, IsPart, keeps_same, grows_none, widened, chained, made_grows, full_back}
use Rattle.bdd_ops.proofs.Memo.{sound_kept, sound_other, costs_none}
use Rattle.bdd_ops.proofs.Stages.{never, made_ok, unfinished-le}
use Rattle.bdd_ops.proofs.LevelLaws.{at_level-ordered, at_level-here, at_level-above, at_level-below}
use Rattle.bdd_ops.proofs.Rest.{merge_above, numbers_differ, at_one, remembers_kept, remembers_added, rest_same, rest_wider, rest_chained, rest_below, rest_added, level_low, level_both, level_high, level_stored, costs_wider}

unfinished-mono : (r : Result ℕ Full) (a b : ℕ) → a ≤ b → unfinished r a ≤ unfinished r b
unfinished-mono (Ok h) a b l = omega arith
unfinished-mono (Err e) a b l = l

-- a child takes the place
pub takes_child : (k : Merge) (u v r : ℕ) (t : Table) (m : Memo ℕ) (s : ℕ) → IsShared t → HoldsResults t m.pairs → IsValid t r → tree_of t r ≡ merged k (tree_of t u) (tree_of t v) → Merges k u v
    t t m m s s (Ok r)
takes_child k u v r t m s sh so vr e = record {
  made = made_ok t t (merged k (tree_of t u) (tree_of t v)) r vr e (grows_none t (merged k (tree_of t u) (tree_of t v)) sh);
  sound = so;
  others = rest_same t m.pairs (number_of (inner k)) (number_of (inner k)) u v;
  costs = costs_none m s 0;
}

module _ (k : Merge) (level h : ℕ) (t : Table) (m : Memo ℕ) (s : ℕ) (small : level < 65536) (sh : IsShared t) (vh : IsValid t h) (so : HoldsResults t m.pairs) (re : HoldsTrees (at_level (merged k)
    level) (merge_number k) t m.pairs) where
  abbrev F : Tree → Tree
  F = at_level (merged k) level

  abbrev Whole : Tree
  Whole = at_level (merged k) level (tree_of t h)

  there : (q r : ℕ) → q ≡ s + 1 → IsValid t r → tree_of t r ≡ Whole → Changes k level h t t m m s q (Ok r)
  there q r e v i = record {
    made = made_ok t t Whole r v i (grows_none t Whole sh);
    sound = so;
    remembers = re;
    others = rest_same t m.pairs (merge_number k) (number_of (inner k)) h h;
    costs = subst (λ x. Costs m m (s + 1) x 0) (sym e) (costs_none m (s + 1) 0);
  }

  -- the tree stands below the level
  pub below : (q : ℕ) → q ≡ s + 1 → level < top (tree_of t h) → Changes k level h t t m m s q (Ok h)
  below q e l = there q h e vh (sym (at_level-below (merged k) level (tree_of t h) (ordered_from_top (tree_of t h) (level + 1) (omega (arith, l)) (sh.ordered h vh)) (sh.reduced h vh)))

  pub found : (q r : ℕ) → q ≡ s + 1 → Some r ≡ result_at m.pairs (at_one (merge_number k) h) → Changes k level h t t m m s q (Ok r)
  found q r e f = let x = re.each h h r (sym f) in there q r e x.3 x.4

  module _ (at lo hi : ℕ) (ab : IsAbove t h level at lo hi) (q : ℕ) (one : q ≡ s + 1) where
    deep_low : depths t lo lo < depths t h h
    deep_low = let d = ap depth ab.tree in omega (arith, d)

    deep_high : depths t hi hi < depths t h h
    deep_high = let d = ap depth ab.tree in omega (arith, d)

    deep_both : depths t lo hi < depths t h h
    deep_both = let d = ap depth ab.tree in omega (arith, d)

    -- the node stands at the level
    pub here : at ≡ level → (w : Table) (n : Memo ℕ) (j : ℕ) (r : Result ℕ Full) → Merges k lo hi t w m n q j r → Changes k level h t w m n s j r
    here e w n j r a = record {
      made = subst (λ x. Makes x t w r) (sym (ap F ab.tree ∙ at_level-here (merged k) at level (tree_of t lo) (tree_of t hi) e)) a.made;
      sound = a.sound;
      remembers = remembers_kept F (merge_number k) t w m.pairs n.pairs a.made.grows.keeps (λ p i. a.others.other_op p (λ x. numbers_differ k (inner k) (sym i ∙ x)) (λ x. numbers_differ k
          (inner k) (sym i ∙ x))) re;
      others = rest_wider t m.pairs n.pairs (merge_number k) (number_of (inner k)) h h (rest_below t t m.pairs n.pairs (number_of (inner k)) (number_of (inner k)) h h lo hi (keeps_same t)
          ab.low_valid ab.high_valid deep_both a.others);
      costs = costs_wider m n (s + 1) j (unfinished r (depths t lo hi)) (unfinished r (depths t h h)) (subst (λ x. Costs m n x j (unfinished r (depths t lo hi))) one a.costs)
          (unfinished-mono r (depths t lo hi) (depths t h h) (let d = deep_both in omega (arith, d)));
    }

    module _ (apart : at ≢ level) where
      whole : Whole ≡ join at (F (tree_of t lo)) (F (tree_of t hi))
      whole = ap F ab.tree ∙ at_level-above (merged k) at level (tree_of t lo) (tree_of t hi) apart

      ordered : IsOrderedFrom (at + 1) (tree_of t lo) × IsOrderedFrom (at + 1) (tree_of t hi)
      ordered = let o = subst (IsOrderedFrom 0) ab.tree (sh.ordered h vh) in (o.1, o.2)

      low_part : IsPart (F (tree_of t lo)) Whole
      low_part x i = subst (λ w. In (branches w) x) (sym whole) (join_low at _ _ x i)

      high_part : IsPart (F (tree_of t hi)) Whole
      high_part x i = subst (λ w. In (branches w) x) (sym whole) (join_high at _ _ x i)

      pub less_low : depths t lo lo < depths t h h
      less_low = deep_low

      module _ (w : Table) (n : Memo ℕ) (s1 : ℕ) (r : Result ℕ Full) (a : Changes k level lo t w m n q s1 r) where
        rest_low : LeavesRest t m.pairs n.pairs (merge_number k) (number_of (inner k)) h h
        rest_low = rest_below t t m.pairs n.pairs (merge_number k) (number_of (inner k)) h h lo lo (keeps_same t) ab.low_valid ab.low_valid deep_low a.others

        grows_low : Grows t w Whole
        grows_low = widened t w (F (tree_of t lo)) Whole low_part a.made.grows

        -- the lower part had no room
        pub err_low : (z : Result ℕ Full) → IsErr r → IsErr z → Changes k level h t w m n s s1 z
        err_low (Ok y) x i = absurd (never i)
        err_low (Err e) x i = record {
          made = record { valid = tt; is = tt; grows = grows_low; full = (λ y. full_back t t (F (tree_of t lo)) Whole (grows_none t Whole sh) low_part (a.made.full.0 x), λ y. refl) };
          sound = a.sound;
          remembers = a.remembers;
          others = rest_low;
          costs = level_low m n s q s1 (unfinished r (depths t lo lo)) (depths t lo lo) (depths t h h) one a.costs (unfinished-le r _) deep_low;
        }

        keeps : KeepsTrees t w
        keeps = a.made.grows.keeps

        same_high : F (tree_of w hi) ≡ F (tree_of t hi)
        same_high = ap F (keeps.trees hi ab.high_valid).1

        high_now : IsPart (F (tree_of w hi)) Whole
        high_now x i = high_part x (subst (λ y. In (branches y) x) same_high i)

        pub less_high : depths w hi hi < depths t h h
        less_high = let d = deep_high in let e = ap depth (keeps.trees hi ab.high_valid).1 in omega (arith, d, e)

        pub valid_high : IsValid w hi
        valid_high = (keeps.trees hi ab.high_valid).0

        module _ (x : Table) (o : Memo ℕ) (s2 : ℕ) (r2 : Result ℕ Full) (low : ℕ) (ok : r ≡ Ok low) (b : Changes k level hi w x n o s1 s2 r2) where
          costs_two : Costs m o (s + 3) s2 (unfinished r2 (depths w hi hi))
          costs_two = level_both m n o s q s1 s2 (unfinished r2 (depths w hi hi)) one (subst (λ y. Costs m n (q + 1) s1 (unfinished y (depths t lo lo))) ok a.costs) b.costs

          rest_both : LeavesRest t m.pairs o.pairs (merge_number k) (number_of (inner k)) h h
          rest_both =
              rest_chained t m.pairs n.pairs o.pairs (merge_number k) (number_of (inner k)) h h rest_low
              (rest_below w t n.pairs o.pairs (merge_number k) (number_of (inner k)) h h hi hi keeps ab.high_valid ab.high_valid deep_high b.others)

          grows_both : Grows t x Whole
          grows_both = chained t w x Whole grows_low (widened w x (F (tree_of w hi)) Whole high_now b.made.grows)

          -- the higher part had no room
          pub err_high : (z : Result ℕ Full) → IsErr r2 → IsErr z → Changes k level h t x m o s s2 z
          err_high (Ok y) i j = absurd (never j)
          err_high (Err e) i j = record {
            made = record { valid = tt; is = tt; grows = grows_both; full = (λ z. full_back t w (F (tree_of w hi)) Whole grows_low high_now (b.made.full.0 i), λ z. refl) };
            sound = b.sound;
            remembers = b.remembers;
            others = rest_both;
            costs = level_high m o s s2 (unfinished r2 (depths w hi hi)) (depths w hi hi) (depths t h h) costs_two (unfinished-le r2 _) less_high;
          }

          -- the key is still absent
          pub absent : result_at m.pairs (at_one (merge_number k) h) ≡ None → result_at o.pairs (at_one (merge_number k) h) ≡ None
          absent e =
              let d : depths w hi hi < depths w h h = (let i = less_high in let j = ap depth (keeps.trees h vh).1 in omega (arith, i, j)) in
              b.others.deeper (at_one (merge_number k) h) (keeps.trees h vh).0 (keeps.trees h vh).0 d ∙ a.others.deeper (at_one (merge_number k) h) vh vh deep_low ∙ e

          module _ (high : ℕ) (ok2 : r2 ≡ Ok high) where
            costs_both : Costs m o (s + 3) s2 0
            costs_both = subst (λ y. Costs m o (s + 3) s2 (unfinished y (depths w hi hi))) ok2 costs_two

            low_made : Makes (F (tree_of t lo)) t w (Ok low)
            low_made = subst (Makes (F (tree_of t lo)) t w) ok a.made

            high_made : Makes (F (tree_of w hi)) w x (Ok high)
            high_made = subst (Makes (F (tree_of w hi)) w x) ok2 b.made

            low_is : tree_of x low ≡ F (tree_of t lo)
            low_is = (b.made.grows.keeps.trees low low_made.valid).1 ∙ low_made.is

            high_is : tree_of x high ≡ F (tree_of t hi)
            high_is = high_made.is ∙ same_high

            under : (u v : Tree) → u ≡ F v → IsOrderedFrom (at + 1) v → at < top u
            under u v e o =
                let p = subst (IsOrderedFrom (at + 1)) (sym e) (at_level-ordered k level v (at + 1) o) in
                let l = ab.above in let f = top_from_ordered u (at + 1) (omega (arith, l, small)) p in omega (arith, f)

            pub can_make : IsValid x low × IsValid x high × (at < top (tree_of x low)) × (at < top (tree_of x high))
            can_make = (
              (b.made.grows.keeps.trees low low_made.valid).0,
              high_made.valid,
              under (tree_of x low) (tree_of t lo) low_is ordered.0,
              under (tree_of x high) (tree_of t hi) high_is
                  ordered.1,
            )

            joins : join at (tree_of x low) (tree_of x high) ≡ Whole
            joins = ap (λ y. join at y (tree_of x high)) low_is ∙ ap (join at (F (tree_of t lo))) high_is ∙ sym whole

            -- the node had no room
            unmade : (z : Result ℕ Full) → IsErr z → x.room < need x (join at (tree_of x low) (tree_of x high)) → Changes k level h t x m o s s2 z
            unmade (Ok y) i f = absurd (never i)
            unmade (Err e) i f = record {
              made = record { valid = tt; is = tt; grows = grows_both; full = (λ z. full_back t x Whole Whole grows_both (λ y j. j) (subst (λ y. x.room < need x y) joins f), λ z. refl) };
              sound = b.sound;
              remembers = b.remembers;
              others = rest_both;
              costs = level_high m o s s2 0 0 (depths t h h) costs_both (omega arith) (let d = deep_low in omega (arith, d));
            }

            pub err_make : (y : Table) (z : Result ℕ Full) → y ≡ x → IsErr z → x.room < need x (join at (tree_of x low) (tree_of x high)) → Changes k level h t y m o s s2 z
            err_make y z same i f = subst (λ w. Changes k level h t w m o s s2 z) (sym same) (unmade z i f)

            -- the node was made, and its pair stored where there was room
            pub done : (y : Table) (g : ℕ) (p : Memo ℕ) → IsValid y g → tree_of y g ≡ join at (tree_of x low) (tree_of x high) → KeepsTrees x y → HoldsAlso x y (join at (tree_of x low)
                (tree_of x high)) → IsShared y
                → p.entries ≡ o.entries → (Adds o.pairs (at_one (merge_number k) h) g p.pairs ⊎ ((p ≡ o) × (length o.pairs ≡ o.entries))) → Changes k level h t y m p s s2 (Ok g)
            done y g p vg e keep holds shy entries stored =
                let grown = chained t x y Whole grows_both (made_grows x y Whole keep (subst (HoldsAlso x y) joins holds) shy) in
                let is : tree_of y g ≡ Whole = e ∙ joins in
                record {
                  made = made_ok t y Whole g vg is grown;
                  sound = sounds y g p (sound_kept x y o.pairs keep b.sound) stored;
                  remembers = now y g p vg is grown (remembers_kept F (merge_number k) x y o.pairs o.pairs keep (λ q i. refl) b.remembers) stored;
                  others = later g p stored;
                  costs = level_stored m o p s s2 g (at_one (merge_number k) h) costs_both entries stored;
                }
              where
                sounds : (y : Table) (g : ℕ) (p : Memo ℕ) → HoldsResults y o.pairs → (Adds o.pairs (at_one (merge_number k) h) g p.pairs ⊎ ((p ≡ o) × (length o.pairs ≡ o.entries))) → HoldsResults y p.pairs
                sounds y g p before (inl adds) = sound_other y o.pairs p.pairs (at_one (merge_number k) h) g (merge_above k) before adds
                sounds y g p before (inr same) = subst (λ z. HoldsResults y z) (sym (ap (λ (z : Memo ℕ). z.pairs) same.0)) before

                now : (y : Table) (g : ℕ) (p : Memo ℕ) → IsValid y g → tree_of y g ≡ Whole → Grows t y Whole → HoldsTrees F (merge_number k) y o.pairs → (Adds o.pairs (at_one (merge_number k)
                    h) g p.pairs ⊎ ((p ≡ o) × (length o.pairs ≡ o.entries))) → HoldsTrees F (merge_number k) y p.pairs
                now y g p vg is grown before (inl adds) =
                    let a = grown.keeps.trees h vh in
                    remembers_added F (merge_number k) y o.pairs p.pairs h g before a.0 (subst IsBranch (sym (a.1 ∙ ab.tree)) tt) vg (is ∙ sym (ap F a.1)) adds
                now y g p vg is grown before (inr same) = subst (λ z. HoldsTrees F (merge_number k) y z) (sym (ap (λ (z : Memo ℕ). z.pairs) same.0)) before

                later : (g : ℕ) (p : Memo ℕ) → (Adds o.pairs (at_one (merge_number k) h) g p.pairs ⊎ ((p ≡ o) × (length o.pairs ≡ o.entries))) → LeavesRest t m.pairs p.pairs (merge_number k)
                    (number_of (inner k)) h h
                later g p (inl adds) = rest_chained t m.pairs o.pairs p.pairs (merge_number k) (number_of (inner k)) h h rest_both (rest_added t o.pairs p.pairs (merge_number k) (number_of
                    (inner k)) h g adds)
                later g p (inr same) = subst (λ z. LeavesRest t m.pairs z (merge_number k) (number_of (inner k)) h h) (sym (ap (λ (z : Memo ℕ). z.pairs) same.0)) rest_both
