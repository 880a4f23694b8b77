-- Atoms that clash, a node at a time.
use Rattle.std.proofs.Common.{◌≡◌, ℕ, ◌+◌, List, [], ◌∷◌, ◌++◌, length, length-append, suc, refl, Option, Some, None, Bool, true, false, Result, Ok, Err, ap, sym, subst, ◌∙◌, arith, ◌⊎◌, inl, inr, ⊎_elim}
use Rattle.std.proofs.lemmas.Bool.{cases_Bool}
use Rattle.std.proofs.lemmas.Bool.Decides.{nat_tests}
use Rattle.std.proofs.lemmas.List.Folds.{list_any-append}
use Rattle.std.proofs.lemmas.Slice.Eq.{bytes_eq-Decides}
use Rattle.std.specs.Cmp.Lexicographic.{slice_cmp, texts_ties}
use Rattle.std.specs.Ordering.{nat_cmp, eq_by_cmp}
use Rattle.std.specs.Prelude.{is_some, if◌then◌else◌, IfOk, bytes_eq, nat_eq, not, ◌&&◌, ◌||◌}
use Rattle.qtl_syntax.specs.Tree.{Text, Formula, Item}
use Rattle.wellformed.specs.Clash.{Seen, is_other_count, clashes_seen, with_seen, seen_after, clash_seen, IsAtomClash, IsClash}
use Rattle.wellformed.proofs.Accepted.{not_false}
use Rattle.wellformed.specs.Faults.{atoms_before, clash_from, clashes, event_atom, is_other, with_atom, with_atoms}

after_append : (before : List Item) (seen : Seen) (xs ys : List Formula) →
    seen_after before seen (xs ++ ys) ≡ seen_after before (seen_after before seen xs) ys
after_append before seen [] ys = refl
after_append before seen (x ∷ xs) ys = after_append before (with_seen seen (event_atom before x)) xs ys

some_by : (b : Bool) (n : ℕ) (o p : Option ℕ) (m : ℕ) → (if b then Some n else o) ≡ Some m → (o ≡ Some m → p ≡ Some m) → (if b then Some n else p) ≡ Some m
some_by true n o p m e h = e
some_by false n o p m e h = h e

none_by : (b : Bool) (n : ℕ) (o p q : Option ℕ) → (if b then Some n else o) ≡ None → (o ≡ None → p ≡ q) → (if b then Some n else p) ≡ q
none_by true n o p q e h = absurd (let no : ⊥ = cc in no)
none_by false n o p q e h = h e

clash_some : (before : List Item) (seen : Seen) (n : ℕ) (xs ys : List Formula) (m : ℕ) →
    clash_seen before seen n xs ≡ Some m → clash_seen before seen n (xs ++ ys) ≡ Some m
clash_some before seen n [] ys m e = absurd (let no : ⊥ = cc in no)
clash_some before seen n (x ∷ xs) ys m e =
    some_by (clashes_seen seen (event_atom before x)) n _ _ m e (λ h. clash_some before (with_seen seen (event_atom before x)) (n + 1) xs ys m h)

clash_none : (before : List Item) (seen : Seen) (n : ℕ) (xs ys : List Formula) → clash_seen before seen n xs ≡ None →
    clash_seen before seen n (xs ++ ys) ≡ clash_seen before (seen_after before seen xs) (n + length xs) ys
clash_none before seen n [] ys e = let z : n + 0 ≡ n = omega arith in rw z refl
clash_none before seen n (x ∷ xs) ys e =
    let s : n + suc (length xs) ≡ (n + 1) + length xs = omega arith in
    none_by (clashes_seen seen (event_atom before x)) n _ _ _ e (λ h. rw s (clash_none before (with_seen seen (event_atom before x)) (n + 1) xs ys h))

pub clash_left : (before : List Item) (old new : Seen) (n : ℕ) (xs ys : List Formula) (m : ℕ) →
    IsClash before old n xs m new true → IsClash before old n (xs ++ ys) m new true
clash_left before old new n xs ys m h = clash_some before old n xs ys m h

clash_right : (before : List Item) (old mid new : Seen) (n : ℕ) (xs ys : List Formula) (k m : ℕ) (b : Bool) →
    IsClash before old n xs k mid false → IsClash before mid k ys m new b → IsClash before old n (xs ++ ys) m new b
clash_right before old mid new n xs ys k m true h g = clash_none before old n xs ys h.0 ∙ rw (← h.1, ← h.2) g
clash_right before old mid new n xs ys k m false h g = (
  clash_none before old n xs ys h.0 ∙ rw (← h.1, ← h.2) g.0,
  (let e = h.1 in let f = g.1 in omega (arith, length-append xs ys)),
  g.2 ∙ rw h.2 (sym (after_append before old xs ys)),
)

pub clash_right_ok : {E : Type 0} (before : List Item) (old mid new : Seen) (n : ℕ) (xs ys : List Formula) (k m : ℕ) (r : Result Bool E) →
    IsClash before old n xs k mid false → IfOk r (λ b. IsClash before mid k ys m new b) → IfOk r (λ b. IsClash before old n (xs ++ ys) m new b)
clash_right_ok before old mid new n xs ys k m (Ok b) h g = clash_right before old mid new n xs ys k m b h g
clash_right_ok before old mid new n xs ys k m (Err e) h g = g

-- an atom of a name that was seen, or of a new one
Same : Bool → Text → Text → Type 0
Same b s t = ((b ≡ true) × (s ≡ t)) ⊎ (b ≡ false)

texts_same : (s t : Text) → Same (bytes_eq s t) s t
unfolding Same
texts_same s t = ⊎_elim (λ e. inl (e, (bytes_eq-Decides s t).0 e)) (λ e. inr e) (cases_Bool (bytes_eq s t))

same_number : (m n : ℕ) → not (nat_eq m n) ≡ false → m ≡ n
same_number m n e = let t = not_false (nat_eq m n) e in grind (arith, nat_tests)

same_by : (seen : Seen) (name : Text) (n : ℕ) (q : Text) → seen name ≡ Some n → Same (bytes_eq name q) name q → seen q ≡ (if bytes_eq name q then Some n else seen q)
unfolding Same
same_by seen name n q e (inl s) = rw s.0 (subst (λ z. seen z ≡ Some n) s.1 e)
same_by seen name n q e (inr s) = rw s refl

known_end : (seen : Seen) (name : Text) (m n : ℕ) (b : Bool) → seen name ≡ Some m → not (nat_eq m n) ≡ b → IsAtomClash seen (Some (name, n)) seen b
known_end seen name m n true e f = ap (λ o. is_other_count o n) e ∙ f
known_end seen name m n false e f = (
  ap (λ o. is_other_count o n) e ∙ f,
  (λ i q. same_by seen name n q (e ∙ ap (λ k. Some k) (same_number m n f)) (texts_same name q) i),
)

pub atom_known : (seen : Seen) (name : Text) (m n : ℕ) → seen name ≡ Some m → IsAtomClash seen (Some (name, n)) seen (not (nat_eq m n))
atom_known seen name m n e = known_end seen name m n (not (nat_eq m n)) e refl

pub atom_new : (old new : Seen) (name : Text) (n : ℕ) → old name ≡ None → ((q : Text) → new q ≡ (if bytes_eq name q then Some n else old q)) → IsAtomClash old (Some (name, n)) new false
atom_new old new name n e f = (ap (λ o. is_other_count o n) e, λ i q. f q i)

pub atom_added : {A : Type 0} (old new : Seen) (o : Option A) (key name : Text) (n : ℕ) → key ≡ name → is_some o ≡ false → old name ≡ None →
    ((q : Text) → new q ≡ (if eq_by_cmp (slice_cmp nat_cmp) key q then Some n else old q)) → IsAtomClash old (if is_some o then None else Some (name, n)) new false
atom_added old new o key name n k none e f =
    rw none (atom_new old new name n e (λ q. f q ∙ ap (λ b. if b then Some n else old q) (sym (texts_ties key q)) ∙ ap (λ z. if bytes_eq z q then Some n else old q) k))

-- what was seen tells of each atom whether it clashes with these earlier ones
abbrev pub Tells : Seen → List (Text × ℕ) → Type 0
Tells seen earlier = (name : Text) (n : ℕ) → clashes earlier (Some (name, n)) ≡ is_other_count (seen name) n

tells_atom : (seen : Seen) (earlier : List (Text × ℕ)) (atom : Option (Text × ℕ)) → Tells seen earlier → clashes_seen seen atom ≡ clashes earlier atom
tells_atom seen earlier None t = refl
tells_atom seen earlier (Some here) t = sym (t here.0 here.1)

or_not : (x y : Bool) → x ≡ false → (x || (y || false)) ≡ y
or_not false true e = refl
or_not false false e = refl
or_not true y e = absurd (let no : ⊥ = cc in no)

or_none : (x : Bool) → (x || (false || false)) ≡ x
or_none true = refl
or_none false = refl

-- an atom that doesn't clash: its name's number is its own, or there is none
or_same : (o : Option ℕ) (n u : ℕ) → is_other_count o n ≡ false → (is_other_count o u || (not (nat_eq n u) || false)) ≡ not (nat_eq n u)
or_same None n u e = or_not false (not (nat_eq n u)) refl
or_same (Some m) n u e = rw (same_number m n e) (twice (not (nat_eq n u)))
  where
    twice : (x : Bool) → (x || (x || false)) ≡ x
    twice true = refl
    twice false = refl

tells_by : (seen : Seen) (name : Text) (n : ℕ) (q : Text) (u : ℕ) → is_other_count (seen name) n ≡ false → Same (bytes_eq name q) name q →
    (is_other_count (seen q) u || ((bytes_eq name q && not (nat_eq n u)) || false)) ≡ is_other_count (if bytes_eq name q then Some n else seen q) u
unfolding Same
tells_by seen name n q u e (inl s) = rw s.0 (or_same (seen q) n u (subst (λ z. is_other_count (seen z) n ≡ false) s.1 e))
tells_by seen name n q u e (inr s) = rw s (or_none (is_other_count (seen q) u))

tells_step : (seen : Seen) (earlier : List (Text × ℕ)) (atom : Option (Text × ℕ)) → Tells seen earlier → clashes earlier atom ≡ false → Tells (with_seen seen atom) (with_atom earlier atom)
tells_step seen earlier None t e = t
tells_step seen earlier (Some here) t e =
    λ q u. list_any-append (λ a. is_other a (q, u)) earlier (here ∷ []) ∙ ap (λ x. x || (is_other here (q, u) || false)) (t q u)
    ∙ tells_by seen here.0 here.1 q u (sym (t here.0 here.1) ∙ e) (texts_same here.0 q)

clash_by : (b : Bool) (n : ℕ) (o p : Option ℕ) → (b ≡ false → o ≡ p) → (if b then Some n else o) ≡ (if b then Some n else p)
clash_by true n o p h = refl
clash_by false n o p h = h refl

pub tells_clash : (before : List Item) (seen : Seen) (earlier : List (Text × ℕ)) (n : ℕ) (nodes : List Formula) → Tells seen earlier →
    clash_seen before seen n nodes ≡ clash_from before earlier n nodes
tells_clash before seen earlier n [] t = refl
tells_clash before seen earlier n (x ∷ xs) t =
    ap (λ b. if b then Some n else clash_seen before (with_seen seen (event_atom before x)) (n + 1) xs) (tells_atom seen earlier (event_atom before x) t)
    ∙ clash_by (clashes earlier (event_atom before x)) n _ _ (λ e. tells_clash before (with_seen seen (event_atom before x)) (with_atom earlier (event_atom before x)) (n + 1) xs
    (tells_step seen earlier (event_atom before x) t e))

none_of : (b : Bool) (n : ℕ) (o : Option ℕ) → (if b then Some n else o) ≡ None → (b ≡ false) × (o ≡ None)
none_of true n o e = absurd (let no : ⊥ = cc in no)
none_of false n o e = (refl, e)

pub tells_after : (before : List Item) (seen : Seen) (earlier : List (Text × ℕ)) (n : ℕ) (nodes : List Formula) → Tells seen earlier → clash_from before earlier n nodes ≡ None →
    Tells (seen_after before seen nodes) (with_atoms before earlier nodes)
tells_after before seen earlier n [] t e = t
tells_after before seen earlier n (x ∷ xs) t e =
    let h = none_of (clashes earlier (event_atom before x)) n _ e in
    tells_after before (with_seen seen (event_atom before x)) (with_atom earlier (event_atom before x)) (n + 1) xs (tells_step seen earlier (event_atom before x) t h.0) h.1

-- an item's nodes
pub clash_here : (seen : Seen) (before : List Item) (n : ℕ) (nodes : List Formula) (o : Option ℕ) → Tells seen (atoms_before before) → clash_seen before seen n nodes ≡ o →
    clash_from before (atoms_before before) n nodes ≡ o
clash_here seen before n nodes o t e = sym (tells_clash before seen (atoms_before before) n nodes t) ∙ e

pub tells_next : (old new : Seen) (before : List Item) (n : ℕ) (nodes : List Formula) → Tells old (atoms_before before) → clash_seen before old n nodes ≡ None →
    new ≡ seen_after before old nodes → Tells new (with_atoms before (atoms_before before) nodes)
tells_next old new before n nodes t e f =
    rw f (tells_after before old (atoms_before before) n nodes t (clash_here old before n nodes None t e))
