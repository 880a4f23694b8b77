-- The rows of one subformula more: what they read, whether they fit, and where their trees stand.
use Rattle.std.proofs.Common.{◌≡◌, ℕ, zero, suc, ◌+◌, ◌-◌, ◌*◌, ◌<◌, ◌≤◌, ⊎_elim, refl, sym, ap, ◌∙◌, subst, arith, List, [], ◌∷◌, ◌++◌, length, length-append, map, take, get_or, Bool, true, false, Some, None}
use Rattle.std.specs.Prelude.{set, drop, slice_get, slice_index_or, Result, Ok, if◌then◌else◌}
use Rattle.std.specs.List.{Contains}
use Rattle.std.proofs.Math.Seq.{take-set-lt, take-add, take-append_seam}
use Rattle.std.proofs.lemmas.List.{take_more_set, drop_more, drop_all, map-append, map-set, length-set, get_or-map, length-take-le, length-map, take-append-drop}
use Rattle.std.proofs.lemmas.Option.{slice_get_within}
use Rattle.subformulas.specs.declared.table.Kind.{Kind}
use Rattle.subformulas.specs.declared.table.Kind.TheVariants as kind
use Rattle.subformulas.specs.declared.table.Sub.{Sub}
use Rattle.subformulas.specs.Memory.{is_temporal}
use Rattle.subformulas.specs.Table.{children, AreChildren, IsTable}
use Rattle.subformulas.proofs.ByNumber.{first_child, second_child, children_within}
use Rattle.subformulas.proofs.Unfold.{children_at}
use Rattle.node_tree.specs.Tree.{Tree, Zero}
use Rattle.node_table.specs.Table.{Table, tree_of, IsValid}
use Rattle.node_table.specs.Collects.{AllValid}
use Rattle.operation_rows.specs.declared.rows.RowFull.{RowFull}
use Rattle.operation_rows.specs.declared.updated.Updated.{Updated}
use Rattle.operation_rows.specs.Rows.{Row, Update, plain, first_full, full_row, MakesUpdate}
use Rattle.operation_rows.proofs.Fitting.{full_same}
use Rattle.operation_rows.proofs.Making.{stay_map}
use Rattle.operation_rows.proofs.Sizes.{Has, has_left, has_right, has_cases}
use Rattle.monitor_model.specs.Rows.{Frame, Sources, update, updates, nth, now_at, next_at, of_temporal, kept_at, full_from, nodes_full, at_row}
use Rattle.monitor_model.specs.Setting.{Setting, first_of}
use Rattle.node_tree.specs.Levels.{LevelsBelow}
use Rattle.monitor_model.specs.State.{temporal_count}
use Rattle.monitor_model.proofs.Drawing.Updates.{update_same, update_memory, updates_count, updates_are}
use Rattle.monitor_step.specs.RowsMade.{memory_in, HasRows, IsBeforeTime, HasOldest, IsReadable}
use Rattle.monitor_step.proofs.Rows.Counted.{temporal_place, memories_are}
use Rattle.monitor_step.proofs.Rows.Placed.{nows_to, trees_after, placed_first, placed_last, read_now, read_memory, placed_yes, placed_no}

abbrev none : Update
none = plain [] Zero

-- what a kind's rows ask of the trees that they read, they ask of the same trees
readable_same : (s : Setting) (k : Kind) (f f' g g' m m' : Tree) → (1 ≤ children k → f ≡ f') → (2 ≤ children k → g ≡ g') →
    (is_temporal k ≡ true → m ≡ m') → IsReadable s k f g m → IsReadable s k f' g' m'
readable_same s (kind.Exists x) f f' g g' m m' p q r h = subst (LevelsBelow (first_of s x + s.bits)) (p (omega arith)) h
readable_same s (kind.Forall x) f f' g g' m m' p q r h = subst (LevelsBelow (first_of s x + s.bits)) (p (omega arith)) h
readable_same s (kind.SinceAtMost n) f f' g g' m m' p q r h =
    (subst (IsBeforeTime s) (p (omega arith)) h.0, subst (IsBeforeTime s) (q (omega arith)) h.1, subst (HasOldest s n) (r refl) h.2)
readable_same s (kind.SinceMoreThan n) f f' g g' m m' p q r h =
    (subst (IsBeforeTime s) (p (omega arith)) h.0, subst (IsBeforeTime s) (q (omega arith)) h.1, subst (HasOldest s (n + 1)) (r refl) h.2)
readable_same s (kind.OnceAtMost n) f f' g g' m m' p q r h = (subst (IsBeforeTime s) (p (omega arith)) h.0, subst (HasOldest s n) (r refl) h.1)
readable_same s (kind.OnceMoreThan n) f f' g g' m m' p q r h = (subst (IsBeforeTime s) (p (omega arith)) h.0, subst (HasOldest s (n + 1)) (r refl) h.1)
readable_same s (kind.AlwaysAtMost n) f f' g g' m m' p q r h = (subst (IsBeforeTime s) (p (omega arith)) h.0, subst (HasOldest s n) (r refl) h.1)
readable_same s (kind.AlwaysMoreThan n) f f' g g' m m' p q r h = (subst (IsBeforeTime s) (p (omega arith)) h.0, subst (HasOldest s (n + 1)) (r refl) h.1)
readable_same s _ f f' g g' m m' p q r h = tt

-- a handle is one of the first n
among_first : (hs : List ℕ) (n i h : ℕ) → slice_get hs i ≡ Some h → i < n → (i < length (take n hs)) × (slice_index_or (take n hs) i h ≡ h)
among_first [] n i h e l = absurd (let never : ⊥ = cc in never)
among_first (x ∷ hs) zero i h e l = absurd (omega (arith, l))
among_first (x ∷ hs) (suc n) zero h e l = (omega arith, let same : x ≡ h = cc in same)
among_first (x ∷ hs) (suc n) (suc i) h e l = let r = among_first hs n i h e (omega (arith, l)) in (let a = r.0 in omega (arith, a), r.1)

contains_first : (hs : List ℕ) (n i h : ℕ) → slice_get hs i ≡ Some h → i < n → Contains (take n hs) h
contains_first hs n i h e l = let r = among_first hs n i h e l in (i, r.0, r.1)

-- what is left of a list has no other trees
has_rest : (n : ℕ) (ts : List Tree) (t : Tree) → Has (drop n ts) t → Has ts t
has_rest n ts t h = subst (λ xs. Has xs t) (take-append-drop n ts) (has_right (take n ts) (drop n ts) t h)

-- the subformula of a number, counted from 1
pub at_back : (subs : List Sub) (k : ℕ) (u : Sub) → slice_get subs (k + 1 - 1) ≡ Some u → slice_get subs k ≡ Some u
at_back subs k u e = let b : k + 1 - 1 ≡ k = omega arith in subst (λ (n : ℕ). slice_get subs n ≡ Some u) b e

pub kids_within : (subs : List Sub) (k : ℕ) (u : Sub) → IsTable 0 subs → slice_get subs (k + 1 - 1) ≡ Some u → (u.left < k + 1) × (u.right < k + 1)
kids_within subs k u table e = children_within (k + 1) (children u.kind) u.left u.right (omega arith) (children_at subs (k + 1) u table (omega arith) e)

-- what an event's rows are made from, where the temporal subformulas remember these trees, in order
abbrev pub made_from : Frame → List Tree → Sources
made_from fr M = record { frame = fr; memory = memory_in fr.setting.subs M }

valid_set : (t : Table) (hs : List ℕ) (i h : ℕ) → AllValid t hs → IsValid t h → AllValid t (set hs i h)
valid_set t [] i h v w j l = absurd (omega (arith, l))
valid_set t (x ∷ hs) zero h v w zero l = w
valid_set t (x ∷ hs) zero h v w (suc j) l = v (suc j) l
valid_set t (x ∷ hs) (suc i) h v w zero l = v zero (omega arith)
valid_set t (x ∷ hs) (suc i) h v w (suc j) l = valid_set t hs i h (λ n m. v (suc n) (omega (arith, m))) w j (omega (arith, l))

pub valid_more : (t : Table) (xs : List ℕ) (x : ℕ) → AllValid t xs → IsValid t x → AllValid t (xs ++ x ∷ [])
valid_more t [] x v w zero l = w
valid_more t [] x v w (suc j) l = absurd (omega (arith, l))
valid_more t (y ∷ xs) x v w zero l = v 0 (omega arith)
valid_more t (y ∷ xs) x v w (suc j) l = valid_more t xs x (λ i p. v (suc i) (omega (arith, p))) w j (omega (arith, l))

pub valid_one : (t : Table) (h : ℕ) → IsValid t h → AllValid t (h ∷ [])
valid_one t h v zero l = v
valid_one t h v (suc j) l = absurd (omega (arith, l))

pub valid_append : (t : Table) (xs ys : List ℕ) → AllValid t xs → AllValid t ys → AllValid t (xs ++ ys)
valid_append t [] ys v w j l = w j l
valid_append t (x ∷ xs) ys v w zero l = v zero (omega arith)
valid_append t (x ∷ xs) ys v w (suc j) l = valid_append t xs ys (λ i p. v (suc i) (omega (arith, p))) w j (omega (arith, l))

-- the remembered trees are as many as the temporal subformulas
pub count_trees : (t : Table) (hs : List ℕ) (R n : ℕ) (subs : List Sub) → length hs ≡ 2 * R + n + 3 → R ≡ temporal_count subs →
    length (map (tree_of t) (take R hs)) ≡ temporal_count subs
count_trees t hs R n subs l e = length-map (take R hs) (tree_of t) ∙ (length-take-le R hs (omega (arith, l)) ∙ e)

-- before the rows the trees are those that are remembered, twice
pub start_trees : (s : Sources) (t : Table) (hs : List ℕ) (R : ℕ) → take R (drop R hs) ≡ take R hs →
    map (tree_of t) (take (2 * R + 0) hs) ≡ trees_after s (map (tree_of t) (take R hs)) 0
start_trees s t hs R twice =
    let both : 2 * R + 0 ≡ R + R = omega arith in
    ap (λ (n : ℕ). map (tree_of t) (take n hs)) both
    ∙ (ap (map (tree_of t)) (take-add R R hs ∙ ap (λ xs. take R hs ++ xs) twice)
    ∙ (map-append (tree_of t) (take R hs) (take R hs) ∙ sym (placed_first s (map (tree_of t) (take R hs)))))

-- the handles keep their number
pub put_count : (b : Bool) (hs : List ℕ) (i x j y : ℕ) → length (set (if b then set hs i x else hs) j y) ≡ length hs
put_count true hs i x j y = length-set (set hs i x) j y ∙ length-set hs i x
put_count false hs i x j y = length-set hs j y

-- all rows are made
module _ (fr : Frame) (M : List Tree) (count : length M ≡ temporal_count fr.setting.subs) where
  abbrev whole : Sources
  whole = made_from fr M

  abbrev subs : List Sub
  subs = fr.setting.subs

  module _ (t old : Table) (before hs after : List ℕ) (R leaf : ℕ) (remembered : R ≡ temporal_count fr.setting.subs)
      (size : length before ≡ 2 * R + length fr.setting.subs + 3) (same_size : length hs ≡ length before) (M_is : M ≡ map (tree_of old) (take R before))
      (after_is : after ≡ take (length hs - 3) hs ++ (leaf ∷ (leaf ∷ (leaf ∷ [])))) where
    abbrev done : ℕ
    done = 2 * R + length subs

    abbrev letters : List ℕ
    letters = leaf ∷ (leaf ∷ (leaf ∷ []))

    without : length hs - 3 ≡ done
    without = omega (arith, size, same_size)

    now_is : after ≡ take done hs ++ letters
    now_is = after_is ∙ ap (λ (n : ℕ). take n hs ++ letters) without

    front_length : length (take done hs) ≡ done
    front_length = length-take-le done hs (omega (arith, size, same_size))

    front_is : take done after ≡ take done hs
    front_is = ap (take done) now_is ∙ (ap (λ (n : ℕ). take n (take done hs ++ letters)) (sym front_length) ∙ take-append_seam (take done hs) letters)

    pub rows_done : AllValid t (take done hs) → IsValid t leaf → map (tree_of t) (take done hs) ≡ trees_after whole M (length subs) →
        nodes_full whole ≡ full_from whole (length subs + 1) (drop (length subs) (updates whole)) → HasRows whole before after old t
    rows_done valid leaf_valid trees fit = record {
      count = (let a = ap length now_is in let b = length-append (take done hs) letters in let c = front_length in omega (arith, a, b, c, size));
      valid =
          subst (AllValid t) (sym now_is) (valid_append t (take done hs) letters valid
          (valid_append t (leaf ∷ []) (leaf ∷ (leaf ∷ [])) (valid_one t leaf leaf_valid) (valid_append t (leaf ∷ []) (leaf ∷ []) (valid_one t leaf leaf_valid) (valid_one t leaf leaf_valid))));
      trees =
          subst (λ (r : ℕ). map (tree_of t) (take (2 * r + length subs) after) ≡ map (tree_of old) (take r before) ++ (of_temporal (next_at whole) 1 subs ++ map (λ x. x.now) (updates whole))) remembered
          (ap (map (tree_of t)) front_is ∙ (trees ∙ (placed_last whole M count ∙ ap (λ ts. ts ++ (of_temporal (next_at whole) 1 subs ++ map (λ x. x.now) (updates whole))) M_is)));
      fit = (let c = updates_count whole subs in fit ∙ ap (full_from whole (length subs + 1)) (drop_all (length subs) (updates whole) (omega (arith, c))));
    }

module _ (fr : Frame) (M : List Tree) (count : length M ≡ temporal_count fr.setting.subs) (k : ℕ) (u : Sub) (at : slice_get fr.setting.subs k ≡ Some u) where
  abbrev made : Sources
  made = made_from fr M

  abbrev own : Update
  own = nth (updates made) (k + 1)

  within : k < length fr.setting.subs
  within = slice_get_within fr.setting.subs k u at

  back : k + 1 - 1 ≡ k
  back = omega arith

  abbrev coming : List Tree
  coming = of_temporal (next_at made) 1 (take k fr.setting.subs)

  abbrev rest : List Tree
  rest = drop (temporal_count (take k fr.setting.subs)) M

  abbrev nows : List Tree
  nows = nows_to made M k

  kept_is : kept_at made (k + 1) ≡ M ++ (coming ++ nows)
  kept_is =
      ap (λ (n : ℕ). of_temporal made.memory 1 fr.setting.subs ++ (of_temporal (next_at made) 1 (take n fr.setting.subs) ++ map (λ x. x.now) (take n (updates made)))) back
      ∙ ap (λ ts. ts ++ (coming ++ nows)) (memories_are fr.setting.subs M count)

  kept_there : (t : Tree) → Has (M ++ (coming ++ nows)) t → Has ((M ++ (coming ++ rest)) ++ nows) t
  kept_there t h =
      ⊎_elim (λ a. has_left (M ++ (coming ++ rest)) nows t (has_left M (coming ++ rest) t a))
      (λ a. ⊎_elim (λ b. has_left (M ++ (coming ++ rest)) nows t (has_right M (coming ++ rest) t (has_left coming rest t b)))
      (λ b. has_right (M ++ (coming ++ rest)) nows t b) (has_cases coming nows t a)) (has_cases M (coming ++ nows) t h)

  front_back : (t : Tree) → Has (M ++ (coming ++ rest)) t → Has (M ++ (coming ++ nows)) t
  front_back t h =
      ⊎_elim (λ a. has_left M (coming ++ nows) t a)
      (λ a. ⊎_elim (λ b. has_right M (coming ++ nows) t (has_left coming nows t b))
      (λ b. has_left M (coming ++ nows) t (has_rest (temporal_count (take k fr.setting.subs)) M t b)) (has_cases coming rest t a)) (has_cases M (coming ++ rest) t h)

  kept_back : (t : Tree) → Has ((M ++ (coming ++ rest)) ++ nows) t → Has (M ++ (coming ++ nows)) t
  kept_back t h =
      ⊎_elim (λ a. front_back t a) (λ a. has_right M (coming ++ nows) t (has_right coming nows t a)) (has_cases (M ++ (coming ++ rest)) nows t h)

  -- the trees kept beside the rows are those of the handles before them
  kept_here : (N : ℕ) (rows : List Row) → first_full N (kept_at made (k + 1)) rows ≡ first_full N (trees_after made M k) rows
  kept_here N rows =
      ap (λ ts. first_full N ts rows) kept_is ∙ full_same N (M ++ (coming ++ nows)) (trees_after made M k) rows kept_there kept_back

  opened : full_from made (k + 1) (drop k (updates made)) ≡
      at_row (k + 1) (first_full fr.setting.nodes (trees_after made M k) own.rows) (full_from made (k + 1 + 1) (drop (k + 1) (updates made)))
  opened =
      let all = updates_count made fr.setting.subs in let w = within in
      ap (full_from made (k + 1)) (drop_more (updates made) k none (omega (arith, all, w)))
      ∙ (ap (λ (i : ℕ). at_row (k + 1) (first_full fr.setting.nodes (kept_at made (k + 1)) (get_or (updates made) i none).rows) (full_from made (k + 1 + 1) (drop (k + 1) (updates made)))) (sym back)
      ∙ ap (λ o. at_row (k + 1) o (full_from made (k + 1 + 1) (drop (k + 1) (updates made)))) (kept_here fr.setting.nodes own.rows))

  -- rows that fit leave it to the later ones
  pub rows_fit : nodes_full made ≡ full_from made (k + 1) (drop k (updates made)) →
      first_full fr.setting.nodes (trees_after made M k) own.rows ≡ None →
      nodes_full made ≡ full_from made (k + 1 + 1) (drop (k + 1) (updates made))
  rows_fit before e = before ∙ (opened ∙ ap (λ o. at_row (k + 1) o (full_from made (k + 1 + 1) (drop (k + 1) (updates made)))) e)

  -- a row that doesn't fit is the first one
  pub row_stops : (r : ℕ) → nodes_full made ≡ full_from made (k + 1) (drop k (updates made)) →
      first_full fr.setting.nodes (trees_after made M k) own.rows ≡ Some r → nodes_full made ≡ Some (k + 1, r)
  row_stops r before e = before ∙ (opened ∙ ap (λ o. at_row (k + 1) o (full_from made (k + 1 + 1) (drop (k + 1) (updates made)))) e)

  -- whether rows that were made over these trees fit
  pub same_full : (t new : Table) (roots : List ℕ) (w : Update) (r : Result Updated RowFull) → t.room ≡ fr.setting.nodes →
      map (tree_of t) roots ≡ trees_after made M k → w ≡ own → MakesUpdate w roots t new r →
      first_full fr.setting.nodes (trees_after made M k) own.rows ≡ full_row r
  same_full t new roots w r room trees is m =
      ap (λ (n : ℕ). first_full n (trees_after made M k) own.rows) (sym room)
      ∙ (ap (λ ts. first_full t.room ts own.rows) (sym trees)
      ∙ (ap (λ (x : Update). first_full t.room (map (tree_of t) roots) x.rows) (sym is) ∙ m.full))

  -- the handles of the children and of the remembered tree have the trees that the rows are made from
  module _ (table : IsTable 0 fr.setting.subs) (t : Table) (hs : List ℕ) (R : ℕ) (remembered : R ≡ temporal_count fr.setting.subs)
      (trees : map (tree_of t) (take (2 * R + k) hs) ≡ trees_after made M k) (f g m : ℕ)
      (left : 1 ≤ u.left → slice_get hs (2 * R + u.left - 1) ≡ Some f) (right : 1 ≤ u.right → slice_get hs (2 * R + u.right - 1) ≡ Some g)
      (memory : slice_get hs (temporal_count (take k fr.setting.subs)) ≡ Some m) where
    kids : AreChildren (k + 1) (children u.kind) u.left u.right
    kids = children_at fr.setting.subs (k + 1) u table (omega arith) (subst (λ (n : ℕ). slice_get fr.setting.subs n ≡ Some u) (sym back) at)

    same_count : 2 * length M ≡ 2 * R
    same_count = omega (arith, count, remembered)

    read : (i h : ℕ) → slice_get hs i ≡ Some h → i < 2 * R + k → tree_of t h ≡ slice_index_or (trees_after made M k) i Zero
    read i h e l =
        let (a, b) = among_first hs (2 * R + k) i h e l in
        ap (tree_of t) (sym b) ∙ (sym (get_or-map (tree_of t) (take (2 * R + k) hs) i h Zero a) ∙ ap (λ ts. slice_index_or ts i Zero) trees)

    child_tree : (c h : ℕ) → slice_get hs (2 * R + c - 1) ≡ Some h → 1 ≤ c → c < k + 1 → tree_of t h ≡ now_at made c
    child_tree c h e a b =
        read (2 * R + c - 1) h e (omega (arith, a, b))
        ∙ (ap (λ (n : ℕ). slice_index_or (trees_after made M k) (n + c - 1) Zero) (sym same_count) ∙ read_now made M count k c a (omega (arith, b)))

    pub left_tree : 1 ≤ children u.kind → tree_of t f ≡ now_at made u.left
    left_tree o = let b = first_child (k + 1) (children u.kind) u.left u.right kids o in child_tree u.left f (left b.0) b.0 b.1

    right_tree : 2 ≤ children u.kind → tree_of t g ≡ now_at made u.right
    right_tree o = let b = second_child (k + 1) (children u.kind) u.left u.right kids o in child_tree u.right g (right b.0) b.0 b.1

    memory_tree : is_temporal u.kind ≡ true → tree_of t m ≡ made.memory (k + 1)
    memory_tree e =
        let place = temporal_place fr.setting.subs k u at e in
        read (temporal_count (take k fr.setting.subs)) m memory (omega (arith, place, remembered))
        ∙ (read_memory made M count k (temporal_count (take k fr.setting.subs)) (omega (arith, place, count))
        ∙ ap (λ (i : ℕ). slice_index_or M (temporal_count (take i fr.setting.subs)) Zero) (sym back))

    -- so what they make is the subformula's update
    pub update_is : update fr u.kind (tree_of t f) (tree_of t g) (tree_of t m) ≡ own
    update_is =
        update_same fr u.kind (tree_of t f) (tree_of t g) (now_at made u.left) (now_at made u.right) (tree_of t m) left_tree right_tree
        ∙ (update_memory fr u.kind (now_at made u.left) (now_at made u.right) (tree_of t m) (made.memory (k + 1)) memory_tree
        ∙ sym (updates_are made table (k + 1) u (omega arith) (subst (λ (n : ℕ). slice_get fr.setting.subs n ≡ Some u) (sym back) at)))

    -- and they can be made of these trees
    pub readable_here : IsReadable fr.setting u.kind (now_at made u.left) (now_at made u.right) (made.memory (k + 1)) →
        IsReadable fr.setting u.kind (tree_of t f) (tree_of t g) (tree_of t m)
    readable_here =
        readable_same fr.setting u.kind (now_at made u.left) (tree_of t f) (now_at made u.right) (tree_of t g) (made.memory (k + 1))
        (tree_of t m) (λ o. sym (left_tree o)) (λ o. sym (right_tree o)) (λ e. sym (memory_tree e))

    pub left_root : 1 ≤ children u.kind → Contains (take (2 * R + k) hs) f
    left_root o = let b = first_child (k + 1) (children u.kind) u.left u.right kids o in let (x, y) = b in contains_first hs (2 * R + k) (2 * R + u.left - 1) f (left x) (omega (arith, x, y))

    pub right_root : 2 ≤ children u.kind → Contains (take (2 * R + k) hs) g
    right_root o = let b = second_child (k + 1) (children u.kind) u.left u.right kids o in let (x, y) = b in contains_first hs (2 * R + k) (2 * R + u.right - 1) g (right x) (omega (arith, x, y))

    pub memory_root : is_temporal u.kind ≡ true → Contains (take (2 * R + k) hs) m
    memory_root e = let place = temporal_place fr.setting.subs k u at e in contains_first hs (2 * R + k) (temporal_count (take k fr.setting.subs)) m memory (omega (arith, place, remembered))

  -- the handles of what was made, in their places
  module _ (t new : Table) (hs : List ℕ) (R next : ℕ) (remembered : R ≡ temporal_count fr.setting.subs) (place : next ≡ temporal_count (take k fr.setting.subs))
      (room : 2 * R + k < length hs) (trees : map (tree_of t) (take (2 * R + k) hs) ≡ trees_after made M k) (x : Updated)
      (m : MakesUpdate own (take (2 * R + k) hs) t new (Ok x)) where
    abbrev roots : List ℕ
    roots = take (2 * R + k) hs

    -- the handles of the first subformulas and of this one are valid, and have their trees
    pub record HasPlaces (after : List ℕ) : Type 0 where
      pub valid : AllValid new (take (2 * R + (k + 1)) after)
      pub trees_are : map (tree_of new) (take (2 * R + (k + 1)) after) ≡ trees_after made M (k + 1)

    stop : 2 * R + k + 1 ≡ 2 * R + (k + 1)
    stop = omega arith

    valid_roots : AllValid new roots
    valid_roots j l = (m.roots_stay j l).0

    same_trees : map (tree_of new) roots ≡ trees_after made M k
    same_trees = stay_map t new roots m.roots_stay ∙ trees

    put_yes : is_temporal u.kind ≡ true → HasPlaces (set (set hs (R + next) x.next) (2 * R + k) x.now)
    put_yes e =
        let low = temporal_place fr.setting.subs k u at e in
        let inside : R + next < 2 * R + k = omega (arith, low, place, remembered) in
        let len : length (set hs (R + next) x.next) ≡ length hs = length-set hs (R + next) x.next in
        let here : take (2 * R + (k + 1)) (set (set hs (R + next) x.next) (2 * R + k) x.now) ≡ set roots (R + next) x.next ++ x.now ∷ [] =
        ap (λ (n : ℕ). take n (set (set hs (R + next) x.next) (2 * R + k) x.now)) (sym stop)
        ∙ (take_more_set (set hs (R + next) x.next) (2 * R + k) x.now (omega (arith, len, room))
        ∙ ap (λ ys. ys ++ x.now ∷ []) (take-set-lt (2 * R + k) hs (R + next) x.next inside)) in
        record {
          valid = subst (AllValid new) (sym here) (valid_more new (set roots (R + next) x.next) x.now (valid_set new roots (R + next) x.next valid_roots m.next.0) m.now.0);
          trees_are =
              ap (map (tree_of new)) here
              ∙ (map-append (tree_of new) (set roots (R + next) x.next) (x.now ∷ [])
              ∙ (ap (λ ts. ts ++ tree_of new x.now ∷ []) (map-set (tree_of new) roots (R + next) x.next)
              ∙ (ap (λ ts. set ts (R + next) (tree_of new x.next) ++ tree_of new x.now ∷ []) same_trees
              ∙ (ap (λ v. set (trees_after made M k) (R + next) v ++ tree_of new x.now ∷ []) m.next.1
              ∙ (ap (λ v. set (trees_after made M k) (R + next) (next_at made (k + 1)) ++ v ∷ []) m.now.1
              ∙ placed_yes made M count k u at e (R + next) (omega (arith, place, remembered, count)))))));
        }

    put_no : is_temporal u.kind ≡ false → HasPlaces (set hs (2 * R + k) x.now)
    put_no e =
        let here : take (2 * R + (k + 1)) (set hs (2 * R + k) x.now) ≡ roots ++ x.now ∷ [] =
        ap (λ (n : ℕ). take n (set hs (2 * R + k) x.now)) (sym stop) ∙ take_more_set hs (2 * R + k) x.now room in
        record {
          valid = subst (AllValid new) (sym here) (valid_more new roots x.now valid_roots m.now.0);
          trees_are =
              ap (map (tree_of new)) here
              ∙ (map-append (tree_of new) roots (x.now ∷ [])
              ∙ (ap (λ ts. ts ++ tree_of new x.now ∷ []) same_trees
              ∙ (ap (λ v. trees_after made M k ++ v ∷ []) m.now.1 ∙ placed_no made M count k u at e)));
        }

    pub put_both : HasPlaces (set (if is_temporal u.kind then set hs (R + next) x.next else hs) (2 * R + k) x.now)
    put_both = by_test (is_temporal u.kind) refl
      where
        by_test : (b : Bool) → is_temporal u.kind ≡ b → HasPlaces (set (if is_temporal u.kind then set hs (R + next) x.next else hs) (2 * R + k) x.now)
        by_test true e = rw e (put_yes e)
        by_test false e = rw e (put_no e)
