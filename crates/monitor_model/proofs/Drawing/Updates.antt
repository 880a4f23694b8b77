-- The updates of an event are made one after the other: each is made of those of its children, which stand before it.
use Rattle.std.proofs.Common.{◌≡◌, ℕ, zero, suc, ◌+◌, ◌-◌, ◌<◌, ◌≤◌, refl, sym, ap, ◌∙◌, subst, arith, List, [], ◌∷◌, ◌++◌, length, take, drop, length-append, append-nil, append_assoc, add-one, IsTrue, Some}
use Rattle.std.specs.Prelude.{slice_get, slice_index_or}
use Rattle.std.proofs.Math.ListN.{get_or-append}
use Rattle.std.proofs.Math.Seq.{get_or-append_seam, take-append_seam}
use Rattle.std.proofs.lemmas.List.{take-append-drop, length-take-le, get_or-take}
use Rattle.std.proofs.lemmas.Option.{slice_get_within}
use Rattle.subformulas.specs.Memory.{is_temporal}
use Rattle.subformulas.specs.Table.{children, AreChildren, IsTable}
use Rattle.subformulas.specs.declared.table.Kind.{Kind}
use Rattle.subformulas.specs.declared.table.Kind.TheVariants as kind
use Rattle.subformulas.specs.declared.table.Sub.{Sub}
use Rattle.subformulas.proofs.ByNumber.{first_child, second_child}
use Rattle.node_tree.specs.Tree.{Tree, Zero}
use Rattle.operation_rows.specs.Rows.{Update, plain}
use Rattle.monitor_model.specs.Rows.{Frame, Sources, update, nth, subs_of, update_after, updates_from, updates, now_at}

module _ (fr : Frame) where
  one_same : (k : Kind) (f g f' m : Tree) → f ≡ f' → update fr k f g m ≡ update fr k f' g m
  one_same k f g f' m e = ap (λ (t : Tree). update fr k t g m) e

  both_same : (k : Kind) (f g f' g' m : Tree) → f ≡ f' → g ≡ g' →
      update fr k f g m ≡ update fr k f' g' m
  both_same k f g f' g' m e d = one_same k f g f' m e ∙ ap (λ (t : Tree). update fr k f' t m) d

  -- a kind's update depends on the children that the kind has
  pub update_same : (k : Kind) (f g f' g' m : Tree) → (1 ≤ children k → f ≡ f') →
      (2 ≤ children k → g ≡ g') → update fr k f g m ≡ update fr k f' g' m
  update_same kind.True f g f' g' m one two = refl
  update_same kind.False f g f' g' m one two = refl
  update_same (kind.Atom a) f g f' g' m one two = refl
  update_same kind.Not f g f' g' m one two = one_same kind.Not f g f' m (one (omega arith))
  update_same kind.And f g f' g' m one two =
      both_same kind.And f g f' g' m (one (omega arith)) (two (omega arith))
  update_same kind.Or f g f' g' m one two =
      both_same kind.Or f g f' g' m (one (omega arith)) (two (omega arith))
  update_same kind.Implies f g f' g' m one two =
      both_same kind.Implies f g f' g' m (one (omega arith)) (two (omega arith))
  update_same kind.Iff f g f' g' m one two =
      both_same kind.Iff f g f' g' m (one (omega arith)) (two (omega arith))
  update_same (kind.Exists x) f g f' g' m one two =
      one_same (kind.Exists x) f g f' m (one (omega arith))
  update_same (kind.Forall x) f g f' g' m one two =
      one_same (kind.Forall x) f g f' m (one (omega arith))
  update_same kind.Prev f g f' g' m one two = one_same kind.Prev f g f' m (one (omega arith))
  update_same kind.Since f g f' g' m one two =
      both_same kind.Since f g f' g' m (one (omega arith)) (two (omega arith))
  update_same kind.Once f g f' g' m one two = one_same kind.Once f g f' m (one (omega arith))
  update_same kind.Always f g f' g' m one two = one_same kind.Always f g f' m (one (omega arith))
  update_same kind.Interval f g f' g' m one two =
      both_same kind.Interval f g f' g' m (one (omega arith)) (two (omega arith))
  update_same (kind.SinceAtMost n) f g f' g' m one two =
      both_same (kind.SinceAtMost n) f g f' g' m (one (omega arith)) (two (omega arith))
  update_same (kind.SinceMoreThan n) f g f' g' m one two =
      both_same (kind.SinceMoreThan n) f g f' g' m (one (omega arith)) (two (omega arith))
  update_same (kind.OnceAtMost n) f g f' g' m one two =
      one_same (kind.OnceAtMost n) f g f' m (one (omega arith))
  update_same (kind.OnceMoreThan n) f g f' g' m one two =
      one_same (kind.OnceMoreThan n) f g f' m (one (omega arith))
  update_same (kind.AlwaysAtMost n) f g f' g' m one two =
      one_same (kind.AlwaysAtMost n) f g f' m (one (omega arith))
  update_same (kind.AlwaysMoreThan n) f g f' g' m one two =
      one_same (kind.AlwaysMoreThan n) f g f' m (one (omega arith))

  memory_there : (k : Kind) (f g m m' : Tree) → m ≡ m' → update fr k f g m ≡ update fr k f g m'
  memory_there k f g m m' e = ap (λ (t : Tree). update fr k f g t) e

  -- and on the remembered tree of a temporal kind alone
  pub update_memory : (k : Kind) (f g m m' : Tree) → (IsTrue (is_temporal k) → m ≡ m') →
      update fr k f g m ≡ update fr k f g m'
  update_memory kind.Prev f g m m' e = memory_there kind.Prev f g m m' (e refl)
  update_memory kind.Since f g m m' e = memory_there kind.Since f g m m' (e refl)
  update_memory kind.Once f g m m' e = memory_there kind.Once f g m m' (e refl)
  update_memory kind.Always f g m m' e = memory_there kind.Always f g m m' (e refl)
  update_memory kind.Interval f g m m' e = memory_there kind.Interval f g m m' (e refl)
  update_memory (kind.SinceAtMost n) f g m m' e =
      memory_there (kind.SinceAtMost n) f g m m' (e refl)
  update_memory (kind.SinceMoreThan n) f g m m' e =
      memory_there (kind.SinceMoreThan n) f g m m' (e refl)
  update_memory (kind.OnceAtMost n) f g m m' e = memory_there (kind.OnceAtMost n) f g m m' (e refl)
  update_memory (kind.OnceMoreThan n) f g m m' e =
      memory_there (kind.OnceMoreThan n) f g m m' (e refl)
  update_memory (kind.AlwaysAtMost n) f g m m' e =
      memory_there (kind.AlwaysAtMost n) f g m m' (e refl)
  update_memory (kind.AlwaysMoreThan n) f g m m' e =
      memory_there (kind.AlwaysMoreThan n) f g m m' (e refl)
  update_memory _ f g m m' e = refl

module _ (s : Sources) where
  -- the updates of two lists of subformulas are made one list after the other
  pub updates_append : (done : List Update) (xs ys : List Sub) →
      updates_from s done (xs ++ ys) ≡ updates_from s (updates_from s done xs) ys
  updates_append done [] ys = refl
  updates_append done (u ∷ xs) ys = updates_append (done ++ update_after s done u ∷ []) xs ys

  -- those that are done stay in front
  pub updates_front : (done : List Update) (subs : List Sub) →
      (more : List Update) × (updates_from s done subs ≡ done ++ more)
  updates_front done [] = ([], sym (append-nil done))
  updates_front done (u ∷ subs) =
      let t = update_after s done u in
      let (more, e) = updates_front (done ++ t ∷ []) subs in
      (t ∷ more, e ∙ append_assoc done (t ∷ []) more)

  updates_length : (done : List Update) (subs : List Sub) →
      length (updates_from s done subs) ≡ length done + length subs
  updates_length done [] = omega arith
  updates_length done (u ∷ subs) =
      let h = updates_length (done ++ update_after s done u ∷ []) subs in
      let a = length-append done (update_after s done u ∷ []) in
      omega arith

  -- there is an update for each subformula
  pub updates_count : (subs : List Sub) → length (updates_from s [] subs) ≡ length subs
  updates_count subs = let h = updates_length [] subs in omega arith

  stays : (done more : List Update) (c : ℕ) → 1 ≤ c → c ≤ length done →
      nth (done ++ more) c ≡ nth done c
  stays done more c p q = get_or-append done more (plain [] Zero) (c - 1) (omega arith)

  -- what subformula k makes of the updates of its children, which are among all
  abbrev pub IsMade : List Update → ℕ → Sub → Type 0
  IsMade all k u = nth all k ≡ update s.frame u.kind (nth all u.left).now (nth all u.right).now (s.memory k)

  made_here : (done more all : List Update) (u : Sub) →
      AreChildren (length done + 1) (children u.kind) u.left u.right →
      all ≡ done ++ update_after s done u ∷ more → IsMade all (length done + 1) u
  made_here done more all u h e =
      let t = update_after s done u in
      let n = length done + 1 in
      let f : n - 1 ≡ length done = omega arith in
      let here : nth all n ≡ t =
      ap (λ (us : List Update). nth us n) e ∙
      (ap (λ (i : ℕ). slice_index_or (done ++ t ∷ more) i (plain [] Zero)) f ∙ get_or-append_seam done t more (plain [] Zero))
      in
      let child : (c : ℕ) → (1 ≤ c) × (c < n) → (nth done c).now ≡ (nth all c).now =
      λ c b. let low = b.1 in ap (λ (z : Update). z.now) (sym (ap (λ (us : List Update). nth us c) e ∙ stays done (t ∷ more) c b.0 (omega arith))) in
      here ∙ update_same s.frame u.kind _ _ _ _ (s.memory n)
      (λ some. child u.left (first_child n (children u.kind) u.left u.right h some))
      (λ some. child u.right (second_child n (children u.kind) u.left u.right h some))

  made_from : (done : List Update) (subs : List Sub) → IsTable (length done) subs →
      (k : ℕ) (u : Sub) → slice_get subs k ≡ Some u →
      IsMade (updates_from s done subs) (length done + k + 1) u
  made_from done [] h k u e = let none : ⊥ = cc in absurd none
  made_from done (r ∷ subs) h zero u e =
      let same : r ≡ u = cc in
      let n : length done + 1 ≡ length done + 0 + 1 = omega arith in
      let (more, f) = updates_front (done ++ update_after s done r ∷ []) subs in
      subst (IsMade (updates_from s done (r ∷ subs)) (length done + 0 + 1)) same
      (subst (λ (l : ℕ). IsMade (updates_from s done (r ∷ subs)) l r) n
      (made_here done more (updates_from s done (r ∷ subs)) r h.0 (f ∙ append_assoc done (update_after s done r ∷ []) more)))
  made_from done (r ∷ subs) h (suc k) u e =
      let t = update_after s done r in
      let a = length-append done (t ∷ []) in
      let n : length done + 1 ≡ length (done ++ t ∷ []) = omega arith in
      let m : length (done ++ t ∷ []) + k + 1 ≡ length done + suc k + 1 = omega arith in
      subst (λ (l : ℕ). IsMade (updates_from s done (r ∷ subs)) l u) m
      (made_from (done ++ t ∷ []) subs (subst (λ (l : ℕ). IsTable l subs) n h.1) k u e)

  -- the update of each subformula is that of its kind over the trees of its children
  pub updates_are : IsTable 0 (subs_of s) → (k : ℕ) (u : Sub) → 1 ≤ k →
      slice_get (subs_of s) (k - 1) ≡ Some u →
      nth (updates s) k ≡ update s.frame u.kind (now_at s u.left) (now_at s u.right) (s.memory k)
  updates_are h k u one e =
      let n : 0 + (k - 1) + 1 ≡ k = omega arith in
      subst (λ (l : ℕ). IsMade (updates s) l u) n (made_from [] (subs_of s) h (k - 1) u e)

  -- the first k updates are those of the first k subformulas
  pub updates_take : (subs : List Sub) (k : ℕ) → k ≤ length subs →
      take k (updates_from s [] subs) ≡ updates_from s [] (take k subs)
  updates_take subs k h =
      let front = updates_from s [] (take k subs) in
      let (more, e) = updates_front front (drop k subs) in
      let n : length front ≡ k = updates_count (take k subs) ∙ length-take-le k subs h in
      ap (λ (xs : List Sub). take k (updates_from s [] xs)) (sym (take-append-drop k subs))
      ∙ (ap (λ (us : List Update). take k us) (updates_append [] (take k subs) (drop k subs) ∙ e)
      ∙ (ap (λ (m : ℕ). take m (front ++ more)) (sym n) ∙ take-append_seam front more))

  take_more : (xs : List Sub) (k : ℕ) (u : Sub) → slice_get xs k ≡ Some u →
      take (suc k) xs ≡ take k xs ++ u ∷ []
  take_more [] k u e = let none : ⊥ = cc in absurd none
  take_more (x ∷ xs) zero u e = let f : x ≡ u = cc in ap (λ (z : Sub). z ∷ []) f
  take_more (x ∷ xs) (suc k) u e = ap (λ (zs : List Sub). x ∷ zs) (take_more xs k u e)

  -- behind the first k updates comes what subformula k + 1 makes of them
  pub updates_more : (subs : List Sub) (k : ℕ) (u : Sub) → slice_get subs k ≡ Some u →
      let front = take k (updates_from s [] subs) in
      take (k + 1) (updates_from s [] subs) ≡ front ++ update_after s front u ∷ []
  updates_more subs k u e =
      let w = slice_get_within subs k u e in
      updates_take subs (k + 1) (omega arith)
      ∙ (ap (λ (j : ℕ). updates_from s [] (take j subs)) (add-one k)
      ∙ (ap (λ (xs : List Sub). updates_from s [] xs) (take_more subs k u e)
      ∙ (updates_append [] (take k subs) (u ∷ [])
      ∙ ap (λ (us : List Update). us ++ update_after s us u ∷ [])
      (sym (updates_take subs k (omega arith))))))

  -- so each update is made after those before it
  pub nth_update : (subs : List Sub) (k : ℕ) (u : Sub) → slice_get subs (k - 1) ≡ Some u →
      nth (updates_from s [] subs) k ≡ update_after s (take (k - 1) (updates_from s [] subs)) u
  nth_update subs k u e =
      let all = updates_from s [] subs in
      let front = take (k - 1) all in
      let t = update_after s front u in
      let w = slice_get_within subs (k - 1) u e in
      let c = updates_count subs in
      let n : length front ≡ k - 1 = length-take-le (k - 1) all (omega arith) in
      sym (get_or-take (k - 1 + 1) all (k - 1) (plain [] Zero) (omega arith))
      ∙ (ap (λ (us : List Update). slice_index_or us (k - 1) (plain [] Zero))
      (updates_more subs (k - 1) u e)
      ∙ (ap (λ (i : ℕ). slice_index_or (front ++ t ∷ []) i (plain [] Zero)) (sym n)
      ∙ get_or-append_seam front t [] (plain [] Zero)))
