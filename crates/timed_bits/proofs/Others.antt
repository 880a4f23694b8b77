-- The ages of what operations on two trees make of an age tree and a tree before the block.
use Rattle.std.proofs.Common.{◌≡◌, ◌⊎◌, ℕ, ◌^◌, ◌<◌, List, Bool, true, false, not, ◌&&◌, Option, Some, None, refl, sym, ap, ◌∙◌, subst, inl, inr}
use Rattle.std.specs.Prelude.{if◌then◌else◌, nat_lt, nat_eq, IfSome}
use Rattle.node_tree.specs.Tree.{Tree, Zero, One, Branch, value, join, tree_eq, IsOrdered, IsReduced}
use Rattle.node_tree.specs.Levels.{LevelsBelow}
use Rattle.bdd_ops.specs.declared.op.Op.TheVariants.{And, Or, AndNot}
use Rattle.bdd_ops.specs.Apply.{leaf_of, map_leaves, merge, apply_tree}
use Rattle.bdd_ops.specs.Numbers.{truth_of}
use Rattle.bdd_ops.proofs.Values.{apply-value, apply-ordered, apply-reduced, map_leaves-ordered, map_leaves-reduced, map_leaves-value}
use Rattle.timed_bits.specs.Ages.{is_age, spelled, SameBefore, HasAges}
use Rattle.timed_bits.specs.Changes.{is_there, stamped, age_where, either_age, any_time, stamp}
use Rattle.timed_bits.specs.Entries.{SaysOfAge}
use Rattle.timed_bits.proofs.Ages.{any_time-says, stamp-ages, value-before, ages_where, ages_either}

-- levels of operations

module _ (n : ℕ) where
  join-below : (l : ℕ) (u v : Tree) → l < n → LevelsBelow n u → LevelsBelow n v → LevelsBelow n (join l u v)
  join-below l u v p h k = by (tree_eq u v)
    where
      by : (b : Bool) → LevelsBelow n (if b then u else Branch l u v)
      by true = h
      by false = (p, h, k)

  leaf-below : (b : Bool) → LevelsBelow n (leaf_of b)
  leaf-below true = tt
  leaf-below false = tt

  pub map_leaves-below : (f : Bool → Bool) (t : Tree) → LevelsBelow n t → LevelsBelow n (map_leaves f t)
  map_leaves-below f Zero h = leaf-below (f false)
  map_leaves-below f One h = leaf-below (f true)
  map_leaves-below f (Branch l a b) h = join-below l _ _ h.0 (map_leaves-below f a h.1) (map_leaves-below f b h.2)

  by_order : (b c : Bool) (x y z : Tree) → LevelsBelow n x → LevelsBelow n y → LevelsBelow n z → LevelsBelow n (if b then x else (if c then y else z))
  by_order true c x y z h k m = h
  by_order false true x y z h k m = k
  by_order false false x y z h k m = m

  abbrev KeepsBelow : (Tree → Tree) → Type 0
  KeepsBelow f = (t : Tree) → LevelsBelow n t → LevelsBelow n (f t)

  merge-below : (l : ℕ) (f g : Tree → Tree) → l < n → KeepsBelow f → KeepsBelow g → (v : Tree) → LevelsBelow n v → LevelsBelow n (merge l f g v)
  merge-below l f g p kf kg Zero h = join-below l _ _ p (kf Zero h) (kg Zero h)
  merge-below l f g p kf kg One h = join-below l _ _ p (kf One h) (kg One h)
  merge-below l f g p kf kg (Branch m c d) h =
      by_order (nat_lt l m) (nat_eq l m) _ _ _ (join-below l _ _ p (kf (Branch m c d) h) (kg (Branch m c d) h)) (join-below l _ _ p (kf c h.1) (kg d h.2))
      (join-below m _ _ h.0 (merge-below l f g p kf kg c h.1) (merge-below l f g p kf kg d h.2))

  -- an operation on two trees of levels before n has such levels
  pub apply-below : (f : Bool → Bool → Bool) (u v : Tree) → LevelsBelow n u → LevelsBelow n v → LevelsBelow n (apply_tree f u v)
  apply-below f Zero v h k = map_leaves-below (f false) v k
  apply-below f One v h k = map_leaves-below (f true) v k
  apply-below f (Branch l a b) v h k = merge-below l _ _ h.0 (λ t m. apply-below f a t h.1 m) (λ t m. apply-below f b t h.2 m) v k

-- trees before the block

-- a tree before the block says its own values
pub says_itself : (first : ℕ) (t : Tree) → IsOrdered t → IsReduced t → LevelsBelow first t → SaysOfAge first t (λ bits. value t bits)
says_itself first t o r b = record { ordered = o; reduced = r; stands = b; values = λ bits. refl }

-- what it says hangs on the bits before the block alone
pub early : (first : ℕ) (t : Tree) (x : List Bool → Bool) → SaysOfAge first t x → (bits other : List Bool) → SameBefore first bits other → x bits ≡ x other
early first t x s bits other e = sym (s.values bits) ∙ (value-before first t s.stands bits other e ∙ s.values other)

and_swap : (a b : Bool) → (a && b) ≡ (b && a)
and_swap true true = refl
and_swap true false = refl
and_swap false true = refl
and_swap false false = refl

pub not-says : (first : ℕ) (t : Tree) (x : List Bool → Bool) → SaysOfAge first t x → SaysOfAge first (map_leaves not t) (λ bits. not (x bits))
not-says first t x s = record {
  ordered = map_leaves-ordered not t 0 s.ordered;
  reduced = map_leaves-reduced not t s.reduced;
  stands = map_leaves-below first not t s.stands;
  values = λ bits. map_leaves-value not t bits ∙ ap (λ b. not b) (s.values bits);
}

pub and_not-says : (first : ℕ) (t u : Tree) (x y : List Bool → Bool) → SaysOfAge first t x → SaysOfAge first u y → SaysOfAge first (apply_tree (truth_of AndNot) t u) (λ bits. x bits && not (y bits))
and_not-says first t u x y s r = record {
  ordered = apply-ordered (truth_of AndNot) t u 0 s.ordered r.ordered;
  reduced = apply-reduced (truth_of AndNot) t u s.reduced r.reduced;
  stands = apply-below first (truth_of AndNot) t u s.stands r.stands;
  values = λ bits. apply-value (truth_of AndNot) t u bits ∙ (ap (λ v. v && not (value u bits)) (s.values bits) ∙ ap (λ v. x bits && not v) (r.values bits));
}

-- And(f, a)
pub and-ages : (first width : ℕ) (f a : Tree) (x : List Bool → Bool) (age : List Bool → Option ℕ) → SaysOfAge first f x → HasAges first width a age →
    HasAges first width (apply_tree (truth_of And) f a) (λ bits. age_where (x bits) (age bits))
and-ages first width f a x age s h =
    ages_where first width a (apply_tree (truth_of And) f a) age x h (apply-ordered (truth_of And) f a 0 s.ordered h.ordered) (apply-reduced (truth_of And) f a s.reduced h.reduced) (early first f x s)
    (λ bits. apply-value (truth_of And) f a bits ∙ ap (λ v. v && value a bits) (s.values bits))

-- And(a, f)
pub ages-and : (first width : ℕ) (f a : Tree) (x : List Bool → Bool) (age : List Bool → Option ℕ) → SaysOfAge first f x → HasAges first width a age →
    HasAges first width (apply_tree (truth_of And) a f) (λ bits. age_where (x bits) (age bits))
ages-and first width f a x age s h =
    ages_where first width a (apply_tree (truth_of And) a f) age x h (apply-ordered (truth_of And) a f 0 h.ordered s.ordered) (apply-reduced (truth_of And) a f h.reduced s.reduced) (early first f x s)
    (λ bits. apply-value (truth_of And) a f bits ∙ (ap (λ v. value a bits && v) (s.values bits) ∙ and_swap (value a bits) (x bits)))

-- AndNot(a, g)
pub ages-and_not : (first width : ℕ) (g a : Tree) (y : List Bool → Bool) (age : List Bool → Option ℕ) → SaysOfAge first g y → HasAges first width a age →
    HasAges first width (apply_tree (truth_of AndNot) a g) (λ bits. age_where (not (y bits)) (age bits))
ages-and_not first width g a y age s h =
    ages_where first width a (apply_tree (truth_of AndNot) a g) age (λ bits. not (y bits)) h (apply-ordered (truth_of AndNot) a g 0 h.ordered s.ordered) (apply-reduced (truth_of AndNot) a g h.reduced s.reduced)
    (λ bits other e. ap (λ b. not b) (early first g y s bits other e))
    (λ bits. apply-value (truth_of AndNot) a g bits ∙ (ap (λ v. value a bits && not v) (s.values bits) ∙ and_swap (value a bits) (not (y bits))))

-- Or(a, stamp(w)), where w is true only where a has no age
pub ages-or_stamp : (first width : ℕ) (a w : Tree) (age : List Bool → Option ℕ) (z : List Bool → Bool) → HasAges first width a age → SaysOfAge first w z →
    ((bits : List Bool) → (age bits ≡ None) ⊎ (stamped (z bits) ≡ None)) → HasAges first width (apply_tree (truth_of Or) a (stamp first width w)) (λ bits. either_age (age bits) (stamped (z bits)))
ages-or_stamp first width a w age z h s apart =
    let st = stamp-ages first width w s.ordered s.reduced s.stands in
    let st2 : HasAges first width (stamp first width w) (λ bits. stamped (z bits)) = record {
      ordered = st.ordered;
      reduced = st.reduced;
      fits = λ bits. subst (λ b. IfSome (stamped b) (λ a. a < 2 ^ width)) (s.values bits) (st.fits bits);
      before = λ bits other e. ap stamped (early first w z s bits other e);
      values = λ bits. st.values bits ∙ ap (λ b. is_age (stamped b) (spelled bits first width)) (s.values bits);
    } in
    ages_either first width a (stamp first width w) (apply_tree (truth_of Or) a (stamp first width w)) age (λ bits. stamped (z bits)) h st2
    (apply-ordered (truth_of Or) a (stamp first width w) 0 h.ordered st2.ordered) (apply-reduced (truth_of Or) a (stamp first width w) h.reduced st2.reduced) apart
    (λ bits. apply-value (truth_of Or) a (stamp first width w) bits)

not_both : (y : Bool) (o : Option ℕ) → (age_where (not y) o ≡ None) ⊎ (stamped y ≡ None)
not_both true o = inl refl
not_both false o = inr refl

not_both_not : (y : Bool) (o : Option ℕ) → (age_where y o ≡ None) ⊎ (stamped (not y) ≡ None)
not_both_not true o = inr refl
not_both_not false o = inl refl

-- Or(AndNot(a, g), stamp(g))
pub without-or_stamp : (first width : ℕ) (a g : Tree) (age : List Bool → Option ℕ) (y : List Bool → Bool) → HasAges first width a age → SaysOfAge first g y →
    HasAges first width (apply_tree (truth_of Or) (apply_tree (truth_of AndNot) a g) (stamp first width g)) (λ bits. either_age (age_where (not (y bits)) (age bits)) (stamped (y bits)))
without-or_stamp first width a g age y h s =
    ages-or_stamp first width _ g _ y (ages-and_not first width g a y age s h) s (λ bits. not_both (y bits) (age bits))

-- Or(And(a, f), stamp(not f))
pub within-or_stamp : (first width : ℕ) (a f : Tree) (age : List Bool → Option ℕ) (x : List Bool → Bool) → HasAges first width a age → SaysOfAge first f x →
    HasAges first width (apply_tree (truth_of Or) (apply_tree (truth_of And) a f) (stamp first width (map_leaves not f))) (λ bits. either_age (age_where (x bits) (age bits)) (stamped (not (x bits))))
within-or_stamp first width a f age x h s =
    ages-or_stamp first width _ (map_leaves not f) _ (λ bits. not (x bits)) (ages-and first width f a x age s h) (not-says first f x s) (λ bits. not_both_not (x bits) (age bits))

no_age_now : (y : Bool) (o : Option ℕ) → (o ≡ None) ⊎ (stamped (y && not (is_there o)) ≡ None)
no_age_now y None = inl refl
no_age_now true (Some a) = inr refl
no_age_now false (Some a) = inr refl

-- Or(a, stamp(AndNot(g, any_time(a))))
pub or_stamp_elsewhere : (first width : ℕ) (g a : Tree) (y : List Bool → Bool) (age : List Bool → Option ℕ) → SaysOfAge first g y → HasAges first width a age →
    HasAges first width (apply_tree (truth_of Or) a (stamp first width (apply_tree (truth_of AndNot) g (any_time first width a)))) (λ bits. either_age (age bits) (stamped (y bits && not (is_there (age bits)))))
or_stamp_elsewhere first width g a y age s h =
    let t = any_time-says first width a age h in
    let w = and_not-says first g (any_time first width a) y (λ bits. is_there (age bits)) s t in
    ages-or_stamp first width a (apply_tree (truth_of AndNot) g (any_time first width a)) age (λ bits. y bits && not (is_there (age bits))) h w (λ bits. no_age_now (y bits) (age bits))
