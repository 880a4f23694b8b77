-- Two tries of an operation: what they need, and what they keep.
use Rattle.std.proofs.Common.{◌≡◌, ◌⊎◌, ℕ, zero, suc, ◌<◌, ◌≤◌, List, [], ◌∷◌, ◌++◌, length, map, refl, ap, sym, ◌∙◌, arith, ⊎_elim}
use Rattle.std.specs.Prelude.{true, false, ◌||◌, Result, Ok, Err, slice_index_or}
use Rattle.std.specs.Set.{is_member}
use Rattle.std.proofs.lemmas.Bool.{or_cases}
use Rattle.std.proofs.Math.Bool.{or-true}
use Rattle.std.proofs.lemmas.List.Folds.{list_any-append}
use Rattle.std.proofs.lemmas.Map.Made.{distinct_count-le}
use Rattle.node_tree.specs.Tree.{Tree, tree_eq, branches, branches_of, size}
use Rattle.node_tree.proofs.Counting.{distinct_count-le_from_members}
use Rattle.node_table.specs.declared.table.Full.{Full}
use Rattle.node_table.specs.Table.{Table, tree_of, IsValid, held, KeepsTrees, IsShared}
use Rattle.node_table.specs.Collects.{AllValid, Collects}
use Rattle.node_table.proofs.Sharing.{live-held}
use Rattle.bdd_ops.specs.declared.store.NodesFull.{NodesFull}
use Rattle.bdd_ops.specs.Applied.{Makes}
use Rattle.bdd_ops.specs.Operates.{AllStay, need_with, Operates}
use Rattle.bdd_ops.proofs.Growing.{In}
use Rattle.bdd_ops.proofs.Stages.{never}

pub in_either : (xs ys : List Tree) (q : Tree) → In (xs ++ ys) q → In xs q ⊎ In ys q
in_either xs ys q m = or_cases _ _ (sym (list_any-append (tree_eq q) xs ys) ∙ m)

pub in_left : (xs ys : List Tree) (q : Tree) → In xs q → In (xs ++ ys) q
in_left xs ys q m = list_any-append (tree_eq q) xs ys ∙ ap (λ b. b || is_member tree_eq ys q) m

pub in_right : (xs ys : List Tree) (q : Tree) → In ys q → In (xs ++ ys) q
in_right xs ys q m = list_any-append (tree_eq q) xs ys ∙ (ap (λ b. is_member tree_eq xs q || b) m ∙ or-true _)

-- trees of handles that are the same one by one
pub same_map : (f g : ℕ → Tree) (hs : List ℕ) → ((j : ℕ) → j < length hs → f (slice_index_or hs j 0) ≡ g (slice_index_or hs j 0)) → map f hs ≡ map g hs
same_map f g [] e = refl
same_map f g (h ∷ hs) e =
    let x : f h ≡ g h = e 0 (omega arith) in
    let y : map f hs ≡ map g hs = same_map f g hs (λ j p. e (suc j) (omega arith)) in cc

-- branches of handles' trees are held
handles_held : (t : Table) (hs : List ℕ) → IsShared t → AllValid t hs → (q : Tree) → In (branches_of (map (tree_of t) hs)) q → In (held t) q
handles_held t [] s v q m = absurd (let x : false ≡ true = m in cc)
handles_held t (h ∷ hs) s v q m =
    ⊎_elim (λ x. s.closed h (v 0 (omega arith)) q x) (λ x. handles_held t hs s (λ j p. v (suc j) (omega arith)) q x)
    (in_either (branches (tree_of t h)) (branches_of (map (tree_of t) hs)) q m)

-- what stands in one table fits in its room
pub fits_all : (t : Table) (made : ℕ) (hs : List ℕ) → IsShared t → IsValid t made → AllValid t hs → size (tree_of t made ∷ map (tree_of t) hs) ≤ t.room
fits_all t made hs s vm vs =
    let n = distinct_count-le_from_members (branches (tree_of t made) ++ branches_of (map (tree_of t) hs)) (held t) (λ q m.
    ⊎_elim (λ x. s.closed made vm q x) (λ x. handles_held t hs s vs q x) (in_either (branches (tree_of t made)) (branches_of (map (tree_of t) hs)) q m)) in
    omega (arith, n, distinct_count-le tree_eq (held t), live-held t, s.bound)

-- a fact of each handle of two lists is one of each handle of both
both_lists : (P : ℕ → Type 0) (xs ys : List ℕ) → ((j : ℕ) → j < length xs → P (slice_index_or xs j 0)) → ((j : ℕ) → j < length ys → P (slice_index_or ys j 0)) → (j : ℕ) → j < length (xs ++
    ys) → P (slice_index_or (xs ++ ys) j 0)
both_lists P [] ys p q j l = q j l
both_lists P (x ∷ xs) ys p q zero l = p 0 (omega arith)
both_lists P (x ∷ xs) ys p q (suc j) l = both_lists P xs ys (λ k m. p (suc k) (omega arith)) q j (omega arith)

pub stay_same : (t : Table) (hs : List ℕ) → AllValid t hs → AllStay t t hs
stay_same t hs v j l = (v j l, refl)

pub stay_kept : (t u w : Table) (hs : List ℕ) → KeepsTrees u w → AllStay t u hs → AllStay t w hs
stay_kept t u w hs k s j l = (let x = s j l in let y = k.trees (slice_index_or hs j 0) x.0 in (y.0, y.1 ∙ x.1))

pub stay_valid : (t u : Table) (hs : List ℕ) → AllStay t u hs → AllValid u hs
stay_valid t u hs s j l = (s j l).0

-- the need of handles in a table that keeps their trees
pub same_need : (tree : Tree) (hs : List ℕ) (t u : Table) → AllStay t u hs → need_with tree hs u ≡ need_with tree hs t
same_need tree hs t u s = ap (λ xs. size (tree ∷ xs)) (same_map (tree_of u) (tree_of t) hs (λ j l. (s j l).1))

module _ (tree : Tree) (operands roots : List ℕ) (old w new : Table) (room : w.room ≡ old.room) (so : AllStay old w operands) (sr : AllStay old w roots) where
  stay : AllStay old w (operands ++ roots)
  stay = both_lists (λ h. IsValid w h × (tree_of w h ≡ tree_of old h)) operands roots so sr

  -- the tree is there over a table that has all operands and roots
  pub there_ends : (made : ℕ) → KeepsTrees w new → IsShared new → IsValid new made → tree_of new made ≡ tree → Operates tree operands roots old new (Ok made)
  there_ends made k s valid is =
      let here = stay_kept old w new (operands ++ roots) k stay in
      let fit = fits_all new made (operands ++ roots) s valid (stay_valid old new (operands ++ roots) here) in
      let same : size (tree_of new made ∷ map (tree_of new) (operands ++ roots)) ≡ need_with tree (operands ++ roots) old =
      ap (λ x. size (x ∷ map (tree_of new) (operands ++ roots))) is ∙ same_need tree (operands ++ roots) old new here in
      let r = k.room in
      record {
        room = k.room ∙ room;
        shared = s;
        valid = valid;
        is = is;
        ordered = s.ordered made valid;
        reduced = s.reduced made valid;
        operands_stay = stay_kept old w new operands k so;
        roots_stay = stay_kept old w new roots k sr;
        full = (λ x. absurd (never x), λ f. absurd (omega (arith, f, fit, same, r, room)));
      }

  pub ok_ends : (made : ℕ) → Makes tree w new (Ok made) → Operates tree operands roots old new (Ok made)
  ok_ends made m = there_ends made m.grows.keeps m.grows.shared m.valid m.is

  -- after a collection, too much for the table is too much for operands, roots and result
  pub full_ends : (e : NodesFull) (z : Full) → Collects old w roots operands → Makes tree w new (Err z) → Operates tree operands roots old new (Err e)
  full_ends e z c m =
      let k = m.grows.keeps in
      let n = distinct_count-le_from_members (branches tree ++ held w) (branches tree ++ branches_of (map (tree_of old) (operands ++ roots))) (λ t i.
      ⊎_elim (λ x. in_left (branches tree) (branches_of (map (tree_of old) (operands ++ roots))) t x)
      (λ x. in_right (branches tree) (branches_of (map (tree_of old) (operands ++ roots))) t
      (⊎_elim (λ y. second operands roots t y) (λ y. first operands roots t y) (or_cases _ _ (sym (c.nodes t) ∙ x))))
      (in_either (branches tree) (held w) t i)) in
      let full = m.full.0 refl in let r = c.room in
      record {
        room = k.room ∙ c.room;
        shared = m.grows.shared;
        valid = tt;
        is = tt;
        ordered = tt;
        reduced = tt;
        operands_stay = stay_kept old w new operands k so;
        roots_stay = stay_kept old w new roots k sr;
        full = (λ x. omega (arith, n, full, r), λ f. refl);
      }
    where
      first : (xs ys : List ℕ) (t : Tree) → In (branches_of (map (tree_of old) xs)) t → In (branches_of (map (tree_of old) (xs ++ ys))) t
      first [] ys t m = absurd (let x : false ≡ true = m in cc)
      first (x ∷ xs) ys t m =
          ⊎_elim (λ y. in_left (branches (tree_of old x)) _ t y) (λ y. in_right (branches (tree_of old x)) _ t (first xs ys t y)) (in_either (branches (tree_of old x)) (branches_of (map
          (tree_of old) xs)) t m)

      second : (xs ys : List ℕ) (t : Tree) → In (branches_of (map (tree_of old) ys)) t → In (branches_of (map (tree_of old) (xs ++ ys))) t
      second [] ys t m = m
      second (x ∷ xs) ys t m = in_right (branches (tree_of old x)) _ t (second xs ys t m)

-- a second try over what the first left
pub tried_before : (tree : Tree) (operands roots : List ℕ) (old w new : Table) (r : Result ℕ NodesFull) → w.room ≡ old.room → AllStay old w operands → AllStay old w roots → Operates tree
    operands roots w new r → Operates tree operands roots old new r
tried_before tree operands roots old w new r room so sr o =
    let same = same_need tree (operands ++ roots) old w (both_lists (λ h. IsValid w h × (tree_of w h ≡ tree_of old h)) operands roots so sr) in
    record {
      room = o.room ∙ room;
      shared = o.shared;
      valid = o.valid;
      is = o.is;
      ordered = o.ordered;
      reduced = o.reduced;
      operands_stay = λ j l. ((o.operands_stay j l).0, (o.operands_stay j l).1 ∙ (so j l).1);
      roots_stay = λ j l. ((o.roots_stay j l).0, (o.roots_stay j l).1 ∙ (sr j l).1);
      full = (λ x. (let f = o.full.0 x in omega (arith, f, same, room)), λ f. o.full.1 (omega (arith, f, same, room)));
    }

-- ---- whole operations

-- the first try made the tree
pub first_ok : (tree : Tree) (operands roots : List ℕ) (t new : Table) (made : ℕ) → AllValid t operands → AllValid t roots → Makes tree t new (Ok made) → Operates tree operands roots t new (Ok made)
first_ok tree operands roots t new made vo vr m = ok_ends tree operands roots t t new refl (stay_same t operands vo) (stay_same t roots vr) made m

module _ (tree : Tree) (operands roots : List ℕ) (t mid w new : Table) (k : KeepsTrees t mid) (vo : AllValid t operands) (vr : AllValid t roots) (c : Collects mid w roots operands) where
  still : (hs : List ℕ) → AllValid w hs → AllStay mid w hs
  still hs v j l = (v j l, (c.trees (slice_index_or hs j 0) (v j l)).1)

  before : (hs : List ℕ) → AllValid t hs → AllStay t mid hs
  before hs v = stay_kept t t mid hs k (stay_same t hs v)

  -- what a collection left of operands and roots
  pub stay_collected : AllStay t w operands × AllStay t w roots
  stay_collected = (chain operands (before operands vo) (still operands c.more_stay), chain roots (before roots vr) (still roots c.roots_stay))
    where
      chain : (hs : List ℕ) → AllStay t mid hs → AllStay mid w hs → AllStay t w hs
      chain hs x y j l = ((y j l).0, (y j l).1 ∙ (x j l).1)

  -- the second try made the tree
  pub again_ok : (made : ℕ) → Makes tree w new (Ok made) → Operates tree operands roots t new (Ok made)
  again_ok made m =
      tried_before tree operands roots t mid new (Ok made) k.room (before operands vo) (before roots vr)
      (ok_ends tree operands roots mid w new c.room (still operands c.more_stay) (still roots c.roots_stay) made m)

  -- the second try had no room either
  pub again_full : (e : NodesFull) (z : Full) → Makes tree w new (Err z) → Operates tree operands roots t new (Err e)
  again_full e z m =
      tried_before tree operands roots t mid new (Err e) k.room (before operands vo) (before roots vr)
      (full_ends tree operands roots mid w new c.room (still operands c.more_stay) (still roots c.roots_stay) e z c m)

-- two handles are a list of valid ones
pub both_valid : (t : Table) (u v : ℕ) → IsValid t u → IsValid t v → AllValid t (u ∷ (v ∷ []))
both_valid t u v a b zero l = a
both_valid t u v a b (suc zero) l = b
both_valid t u v a b (suc (suc j)) l = absurd (omega (arith, l))

pub none_valid : (t : Table) → AllValid t []
none_valid t j l = absurd (omega (arith, l))
