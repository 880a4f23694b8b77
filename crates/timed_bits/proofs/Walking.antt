-- The stages of a walk that makes of each tree what f makes of it, one after another.
use Rattle.std.proofs.Common.{◌≡◌, ℕ, ◌+◌, ◌*◌, ◌<◌, ◌≤◌, true, false, refl, ap, sym, ◌∙◌, arith, subst}
use Rattle.std.specs.Prelude.{Some, None, Result, Ok, Err, IsErr, ◌==◌, if◌then◌else◌}
use Rattle.std.proofs.Math.Nat.{mul-le-mul_left}
use Rattle.node_tree.specs.Tree.{Tree, Zero, Branch, branches, join, top, depth, IsOrderedFrom}
use Rattle.node_tree.proofs.Joins.{join_low, join_high, top_from_ordered}
use Rattle.node_table.specs.declared.table.Full.{Full}
use Rattle.node_table.specs.Table.{Table, tree_of, note_of, IsValid, KeepsTrees, IsShared}
use Rattle.bdd_ops.specs.Applied.{Grows, Makes, unfinished}
use Rattle.bdd_ops.proofs.Bounds.{depth-le}
use Rattle.bdd_ops.proofs.Growing.{In, IsPart, keeps_same, grows_none, widened, chained, full_back}
use Rattle.bdd_ops.proofs.Stages.{never, made_ok, unfinished-le}
use Rattle.quantify.specs.Notes.{HoldsNotes, unnoted}
use Rattle.quantify.proofs.Noting.{notes_kept, notes_taken, unnoted_few, unnoted_same, taken_there, taken_less}
use Rattle.timed_bits.specs.Walks.{SameNotes, IsNodeBefore, Walks}

-- what f makes of a node before the level joins what it makes of the children, in the order of levels
pub record JoinsAbove (f : Tree → Tree) (first : ℕ) : Type 0 where
  pub above : (l : ℕ) (a b : Tree) → l < first → f (Branch l a b) ≡ join l (f a) (f b)
  pub ordered : (t : Tree) (n : ℕ) → n ≤ first → IsOrderedFrom n t → IsOrderedFrom n (f t)

-- the notes of trees that are deeper than a handle's
abbrev LeavesDeeper : Table → ℕ → Table → Table → Type 0
LeavesDeeper t h s u = (q : ℕ) → IsValid t q → depth (tree_of t h) < depth (tree_of t q) → note_of u q ≡ note_of s q

deeper_same : (t : Table) (h : ℕ) (s u : Table) → SameNotes s u → LeavesDeeper t h s u
deeper_same t h s u same q v l = same q

deeper_chained : (t : Table) (h : ℕ) (s u w : Table) → LeavesDeeper t h s u → LeavesDeeper t h u w → LeavesDeeper t h s w
deeper_chained t h s u w a b q v l = b q v l ∙ a q v l

-- what a call on a less deep handle leaves, over a table that keeps trees
deeper_below : (t w : Table) (h k : ℕ) (s u : Table) → KeepsTrees t w → IsValid t k → depth (tree_of t k) < depth (tree_of t h) → LeavesDeeper w k s u → LeavesDeeper t h s u
deeper_below t w h k s u keep vk less a q v l =
    let x = keep.trees q v in let y = ap depth x.1 in let z = ap depth (keep.trees k vk).1 in
    a q x.0 (omega (arith, y, z, less, l))

-- the steps of so many handles

scale : (n u v : ℕ) → u + 1 ≤ v → n * u + n ≤ n * v
scale n u v h = let x = mul-le-mul_left n h in let e : n * (u + 1) ≡ n * u + n = grind arith in omega (arith, x, e)

wide : (n u v : ℕ) → u ≤ v → n * u ≤ n * v
wide n u v h = mul-le-mul_left n h

none_left : (n d : ℕ) (r : Result ℕ Full) (k : ℕ) → r ≡ Ok k → n * unfinished r d ≡ 0
none_left n d r k e = ap (λ z. n * unfinished z d) e ∙ (let z : n * 0 ≡ 0 = omega arith in z)

module _ (f : Tree → Tree) (first h : ℕ) (x : Table) (s : ℕ) (small : first ≤ 65536) (joins_above : JoinsAbove f first) (sh : IsShared x) (vh : IsValid x h) (ho : HoldsNotes f x) where
  abbrev Whole : Tree
  Whole = f (tree_of x h)

  -- a note has the answer
  pub found : (r : ℕ) → Some r ≡ note_of x h → Walks f h x x s s (Ok r)
  found r e =
      let z = ho h r (sym e) in
      record {
        made = made_ok x x Whole r z.1 z.2 (grows_none x Whole sh);
        noted = ho;
        deeper = deeper_same x h x x (λ q. refl);
        cost = λ n i. omega arith;
      }

  -- the last of the walk: the tree was made without a note, or not
  module _ (none : None ≡ note_of x h) (y g : Table) (r : Result ℕ Full) (grows : Grows x y Whole) (hy : HoldsNotes f y) (dy : LeavesDeeper x h x y) (still : note_of y h ≡ note_of x h)
      (same : SameNotes y g) (c : Makes Whole y g r) (j : ℕ) (spent : (n : ℕ) → n ≡ x.room + 2 → j + n * unnoted y ≤ s + n + n * unnoted x) where
    grows_all : Grows x g Whole
    grows_all = chained x y g Whole grows c.grows

    now : HoldsNotes f g
    now = notes_kept f y g c.grows.keeps same hy

    kept : LeavesDeeper x h x g
    kept = deeper_chained x h x y g dy (deeper_same x h y g same)

    few : (n : ℕ) → n * unnoted g ≤ n * unnoted y
    few n = wide n (unnoted g) (unnoted y) (unnoted_same y g c.grows.keeps.room same)

    last_err : (z : Result ℕ Full) → IsErr r → IsErr z → Walks f h x g s j z
    last_err (Ok k) i k2 = absurd (never k2)
    last_err (Err e) i k2 = record {
      made = record {
        valid = tt;
        is = tt;
        grows = grows_all;
        full = (λ z. full_back x y Whole Whole grows (λ t k. k) (c.full.0 i), λ z. refl);
      };
      noted = now;
      deeper = kept;
      cost = λ n i.
          (let a = spent n i in let b = few n in let d = scale n 0 (depth (tree_of x h) + 1) (omega arith) in
          let t : j + n * unnoted g ≤ s + n * unnoted x + n * (depth (tree_of x h) + 1) = omega (arith, a, b, d) in t);
    }

    last_valid : IsValid g h
    last_valid = (grows_all.keeps.trees h vh).0

    last_ok : (made : ℕ) → r ≡ Ok made → (z : Table) → Grows g z Zero → ((k : ℕ) → note_of z k ≡ (if k == h then Some made else note_of g k)) → h < z.room + 2 → Walks f h x z s j (Ok made)
    last_ok made ok z gz taken within =
        let is = subst (Makes Whole y g) ok c in
        let nothing : IsPart Zero Whole = λ q m. absurd (let e : false ≡ true = m in cc) in
        let last = widened g z Zero Whole nothing gz in
        let k = last.keeps.trees h last_valid in
        let m = last.keeps.trees made is.valid in
        let all = chained x g z Whole grows_all last in
        let hx = all.keeps.trees h vh in
        record {
          made = made_ok x z Whole made m.0 (m.1 ∙ is.is) all;
          noted = notes_taken f g z h made last.keeps taken k.0 m.0 (m.1 ∙ is.is ∙ sym (ap f hx.1)) now;
          deeper = λ q v l. taken_there g z h made taken q (λ e. let d = ap (λ (i : ℕ). depth (tree_of x i)) e in omega (arith, d, l)) ∙ kept q v l;
          cost = λ n i.
              (let a = spent n i in let b = few n in
              let less = taken_less g z h made taken last.keeps.room within (none ∙ sym (same h ∙ still)) in
              let d = scale n (unnoted z) (unnoted g) less in
              omega (arith, a, b, d));
        }

  -- an entry, which is e after the change
  module _ (none : None ≡ note_of x h) (w : Table) (e : Tree) (r : Result ℕ Full) (is : f (tree_of x h) ≡ e) (same : SameNotes x w) (m : Makes e x w r) (j : ℕ) (spent : j ≤ s + 1 + (depth (tree_of x h) + 1)) where
    entry_makes : Makes Whole x w r
    entry_makes = subst (λ t. Makes t x w r) (sym is) m

    entry_spent : (n : ℕ) → n ≡ x.room + 2 → j + n * unnoted x ≤ s + n + n * unnoted x
    entry_spent n i = let d = depth-le x h sh vh in omega (arith, d, spent, i)

    pub entry_err : (z : Result ℕ Full) → IsErr r → IsErr z → Walks f h x w s j z
    entry_err z i k =
        last_err none x w r (grows_none x Whole sh) ho (deeper_same x h x x (λ q. refl)) refl same entry_makes j entry_spent z i k

    pub entry_valid : IsValid w h
    entry_valid = last_valid none x w r (grows_none x Whole sh) ho (deeper_same x h x x (λ q. refl)) refl same entry_makes j entry_spent

    pub entry_done : (made : ℕ) → r ≡ Ok made → (z : Table) → Grows w z Zero → ((k : ℕ) → note_of z k ≡ (if k == h then Some made else note_of w k)) → h < z.room + 2 → Walks f h x z s j (Ok made)
    entry_done made ok z gz taken within =
        last_ok none x w r (grows_none x Whole sh) ho (deeper_same x h x x (λ q. refl)) refl same entry_makes j entry_spent made ok z gz taken within

  -- a node

  module _ (at lo hi : ℕ) (ab : IsNodeBefore x h first at lo hi) (q1 : ℕ) (one : q1 ≡ s + 1) where
    pub deep_low : depth (tree_of x lo) < depth (tree_of x h)
    deep_low = let d = ap depth ab.tree in omega (arith, d)

    pub deep_high : depth (tree_of x hi) < depth (tree_of x h)
    deep_high = let d = ap depth ab.tree in omega (arith, d)

    whole : Whole ≡ join at (f (tree_of x lo)) (f (tree_of x hi))
    whole = ap f ab.tree ∙ joins_above.above at (tree_of x lo) (tree_of x hi) ab.before

    pub ordered : IsOrderedFrom (at + 1) (tree_of x lo) × IsOrderedFrom (at + 1) (tree_of x hi)
    ordered = let o = subst (IsOrderedFrom 0) ab.tree (sh.ordered h vh) in (o.1, o.2)

    low_part : IsPart (f (tree_of x lo)) Whole
    low_part y i = subst (λ w. In (branches w) y) (sym whole) (join_low at _ _ y i)

    high_part : IsPart (f (tree_of x hi)) Whole
    high_part y i = subst (λ w. In (branches w) y) (sym whole) (join_high at _ _ y i)

    module _ (w : Table) (s1 : ℕ) (r : Result ℕ Full) (a : Walks f lo x w q1 s1 r) where
      rest_low : LeavesDeeper x h x w
      rest_low = deeper_below x x h lo x w (keeps_same x) ab.low_valid deep_low a.deeper

      grows_low : Grows x w Whole
      grows_low = widened x w (f (tree_of x lo)) Whole low_part a.made.grows

      -- the lower part had no room
      pub err_low : (z : Result ℕ Full) → IsErr r → IsErr z → Walks f h x w s s1 z
      err_low (Ok y) i j = absurd (never j)
      err_low (Err e) i j = record {
        made = record {
          valid = tt;
          is = tt;
          grows = grows_low;
          full = (λ y. full_back x x (f (tree_of x lo)) Whole (grows_none x Whole sh) low_part (a.made.full.0 i), λ y. refl);
        };
        noted = a.noted;
        deeper = rest_low;
        cost = λ n i.
            (let c = a.cost n i in
            let u = unfinished-le r (depth (tree_of x lo) + 1) in let d = deep_low in
            let m = scale n (unfinished r (depth (tree_of x lo) + 1)) (depth (tree_of x h) + 1) (omega (arith, u, d)) in
            let t : s1 + n * unnoted w ≤ s + n * unnoted x + n * (depth (tree_of x h) + 1) = omega (arith, c, m, one, i) in t);
      }

      pub keeps : KeepsTrees x w
      keeps = a.made.grows.keeps

      same_high : f (tree_of w hi) ≡ f (tree_of x hi)
      same_high = ap f (keeps.trees hi ab.high_valid).1

      high_now : IsPart (f (tree_of w hi)) Whole
      high_now y i = high_part y (subst (λ z. In (branches z) y) same_high i)

      pub less_high : depth (tree_of w hi) < depth (tree_of x h)
      less_high = let d = deep_high in let e = ap depth (keeps.trees hi ab.high_valid).1 in omega (arith, d, e)

      module _ (y : Table) (s2 : ℕ) (r2 : Result ℕ Full) (low : ℕ) (ok : r ≡ Ok low) (b : Walks f hi w y s1 s2 r2) where
        low_cost : (n : ℕ) → n ≡ x.room + 2 → s1 + n * unnoted w ≤ s + 1 + n * unnoted x
        low_cost n i = let c = a.cost n i in let z = none_left n (depth (tree_of x lo) + 1) r low ok in omega (arith, c, z, one)

        high_cost : (n : ℕ) → n ≡ x.room + 2 → s2 + n * unnoted y ≤ s1 + n * unnoted w + n * unfinished r2 (depth (tree_of w hi) + 1)
        high_cost n i = b.cost n (let k = keeps.room in omega (arith, i, k))

        rest_both : LeavesDeeper x h x y
        rest_both = deeper_chained x h x w y rest_low (deeper_below x w h hi w y keeps ab.high_valid deep_high b.deeper)

        grows_both : Grows x y Whole
        grows_both = chained x w y Whole grows_low (widened w y (f (tree_of w hi)) Whole high_now b.made.grows)

        -- the higher part had no room
        pub err_high : (z : Result ℕ Full) → IsErr r2 → IsErr z → Walks f h x y s s2 z
        err_high (Ok g) i j = absurd (never j)
        err_high (Err e) i j = record {
          made = record {
            valid = tt;
            is = tt;
            grows = grows_both;
            full = (λ z. full_back x w (f (tree_of w hi)) Whole grows_low high_now (b.made.full.0 i), λ z. refl);
          };
          noted = b.noted;
          deeper = rest_both;
          cost = λ n i.
              (let c = low_cost n i in let k = high_cost n i in
              let u = unfinished-le r2 (depth (tree_of w hi) + 1) in let d = less_high in
              let m = scale n (unfinished r2 (depth (tree_of w hi) + 1)) (depth (tree_of x h) + 1) (omega (arith, u, d)) in
              let t : s2 + n * unnoted y ≤ s + n * unnoted x + n * (depth (tree_of x h) + 1) = omega (arith, c, k, m, i) in t);
        }

        -- the notes of the handle itself are as before
        still : note_of y h ≡ note_of x h
        still =
            let k = keeps.trees h vh in
            let d : depth (tree_of w hi) < depth (tree_of w h) = (let i = less_high in let e = ap depth k.1 in omega (arith, i, e)) in
            b.deeper h k.0 d ∙ a.deeper h vh deep_low

        module _ (high : ℕ) (ok2 : r2 ≡ Ok high) where
          both_cost : (n : ℕ) → n ≡ x.room + 2 → s2 + n * unnoted y ≤ s + n + n * unnoted x
          both_cost n i =
              let c = low_cost n i in let k = high_cost n i in
              let z = none_left n (depth (tree_of w hi) + 1) r2 high ok2 in omega (arith, c, k, z, i)

          low_made : Makes (f (tree_of x lo)) x w (Ok low)
          low_made = subst (Makes (f (tree_of x lo)) x w) ok a.made

          high_made : Makes (f (tree_of w hi)) w y (Ok high)
          high_made = subst (Makes (f (tree_of w hi)) w y) ok2 b.made

          low_is : tree_of y low ≡ f (tree_of x lo)
          low_is = (b.made.grows.keeps.trees low low_made.valid).1 ∙ low_made.is

          high_is : tree_of y high ≡ f (tree_of x hi)
          high_is = high_made.is ∙ same_high

          under : (u v : Tree) → u ≡ f v → IsOrderedFrom (at + 1) v → at < top u
          under u v e o =
              let l = ab.before in
              let p = subst (IsOrderedFrom (at + 1)) (sym e) (joins_above.ordered v (at + 1) (omega (arith, l)) o) in
              let t = top_from_ordered u (at + 1) (omega (arith, l, small)) p in omega (arith, t)

          pub can_make : IsValid y low × IsValid y high × (at < top (tree_of y low)) × (at < top (tree_of y high))
          can_make = (
            (b.made.grows.keeps.trees low low_made.valid).0,
            high_made.valid,
            under (tree_of y low) (tree_of x lo) low_is ordered.0,
            under (tree_of y high) (tree_of x hi) high_is ordered.1,
          )

          joins : join at (tree_of y low) (tree_of y high) ≡ Whole
          joins = ap (λ z. join at z (tree_of y high)) low_is ∙ ap (join at (f (tree_of x lo))) high_is ∙ sym whole

          module _ (none : None ≡ note_of x h) (g : Table) (same : SameNotes y g) (r3 : Result ℕ Full) (c : Makes (join at (tree_of y low) (tree_of y high)) y g r3) where
            last : Makes Whole y g r3
            last = subst (λ z. Makes z y g r3) joins c

            -- the node had no room
            pub err_make : (z : Result ℕ Full) → IsErr r3 → IsErr z → Walks f h x g s s2 z
            err_make z i j = last_err none y g r3 grows_both b.noted rest_both still same last s2 both_cost z i j

            -- the handle can have a note
            pub can_note : IsValid g h
            can_note = last_valid none y g r3 grows_both b.noted rest_both still same last s2 both_cost

            -- the node was made, and a note taken
            pub done : (made : ℕ) → r3 ≡ Ok made → (z : Table) → Grows g z Zero → ((k : ℕ) → note_of z k ≡ (if k == h then Some made else note_of g k)) → h < z.room + 2 → Walks f h x z s s2 (Ok made)
            done made ok3 z gz taken within = last_ok none y g r3 grows_both b.noted rest_both still same last s2 both_cost made ok3 z gz taken within

-- a whole walk, over a table without notes
module _ (f : Tree → Tree) (h : ℕ) (t x w : Table) (s j : ℕ) (r : Result ℕ Full) (vh : IsValid t h) (cleared : Grows t x Zero) (a : Walks f h x w s j r) where
  nothing : IsPart Zero (f (tree_of t h))
  nothing q m = absurd (let e : false ≡ true = m in cc)

  begun : Grows t x (f (tree_of t h))
  begun = widened t x Zero (f (tree_of t h)) nothing cleared

  same_tree : f (tree_of x h) ≡ f (tree_of t h)
  same_tree = ap f (cleared.keeps.trees h vh).1

  pub whole_made : Makes (f (tree_of t h)) t w r
  whole_made = over r (subst (λ z. Makes z x w r) same_tree a.made)
    where
      over : (r : Result ℕ Full) → Makes (f (tree_of t h)) x w r → Makes (f (tree_of t h)) t w r
      over (Ok k) m = made_ok t w (f (tree_of t h)) k m.valid m.is (chained t x w (f (tree_of t h)) begun m.grows)
      over (Err e) m = record {
        valid = tt;
        is = tt;
        grows = chained t x w (f (tree_of t h)) begun m.grows;
        full = (λ z. full_back t x (f (tree_of t h)) (f (tree_of t h)) begun (λ q i. i) (m.full.0 refl), λ z. refl);
      }

  pub whole_cost : IsShared t → j ≤ s + 2 * ((t.room + 2) * (t.room + 2))
  whole_cost sh =
      let n = t.room + 2 in
      let k = cleared.keeps.room in
      let c = a.cost n (omega (arith, k)) in
      let e = unnoted_few x in
      let d = depth-le t h sh vh in
      let same = ap depth (cleared.keeps.trees h vh).1 in
      let u = unfinished-le r (depth (tree_of x h) + 1) in
      let p = wide n (unnoted x) n (omega (arith, e, k)) in
      let q = wide n (unfinished r (depth (tree_of x h) + 1)) n (omega (arith, u, d, same)) in
      omega (arith, c, p, q)
