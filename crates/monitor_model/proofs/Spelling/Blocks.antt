-- Rows over the bits of a block quantify over the block; the literals of a code hold where the bits spell it.
use Rattle.std.proofs.Common.{◌≡◌, ◌≢◌, ℕ, zero, suc, ◌+◌, ◌*◌, ◌/◌, ◌%◌, ◌^◌, ◌<◌, ◌≤◌, ◌⊎◌, ◌↔◌, inl, inr, ⊎_elim, refl, sym, ◌∙◌, subst, arith, List, [], ◌∷◌, ◌++◌, Bool, true, false, ◌&&◌, ◌||◌, IsTrue}
use Rattle.std.specs.Prelude.{nat_eq, not, if◌then◌else◌}
use Rattle.std.specs.List.{AllByRecursion}
use Rattle.std.proofs.Math.Nat.{two-pow-succ}
use Rattle.std.proofs.lemmas.Bool.{cases_lt, cases_eq}
use Rattle.std.proofs.lemmas.Bool.Decides.{eqb_tells}
use Rattle.subformulas.proofs.Agree.{same, joined, turned}
use Rattle.node_tree.specs.Tree.{Tree, Zero, One, Branch, IsOrdered, IsReduced, bit, value}
use Rattle.node_tree.specs.Restrict.{with_bit}
use Rattle.node_tree.proofs.OneTree.{bit-put_same, put_other}
use Rattle.bdd_ops.specs.declared.op.Op.TheVariants.{And, Or}
use Rattle.bdd_ops.specs.Numbers.{truth_of}
use Rattle.bdd_ops.specs.declared.literals.Literal.{Literal}
use Rattle.bdd_ops.specs.Cube.{all_hold, AscendFrom}
use Rattle.timed_bits.specs.Ages.{spelled}
use Rattle.monitor_model.specs.Operations.{SameOutside, IsSomeOfBlock, IsEachOfBlock}
use Rattle.bdd_ops.specs.Codes.{literal_at, code_literals}
use Rattle.monitor_model.specs.Blocks.{AreRows}
use Rattle.monitor_model.proofs.Spelling.Bits.{digit}
use Rattle.monitor_model.proofs.Drawing.Connectives.{and_iff, or_iff}

-- the value looks at the bits by their levels alone
pub value_same : (t : Tree) (a b : List Bool) → ((l : ℕ) → bit a l ≡ bit b l) → value t a ≡ value t b
value_same Zero a b h = refl
value_same One a b h = refl
value_same (Branch l x y) a b h = rw (h l, value_same x a b h, value_same y a b h) refl

pub level_cases : (first n l : ℕ) → (l < first) ⊎ (first + n ≤ l) → (l < first) ⊎ ((first + n ≡ l) ⊎ (first + suc n ≤ l))
level_cases first n l (inl p) = inl p
level_cases first n l (inr p) = inr (⊎_elim (λ e. inl e) (λ d. inr (let x : first + n ≢ l = d in omega arith)) (cases_eq (first + n) l))

-- other bits in a block of n, with the next bit set
set_outside : (first n : ℕ) (bits other : List Bool) (v : Bool) → SameOutside first n bits other → SameOutside first (suc n) bits (with_bit other (first + n) v)
set_outside first n bits other v o l p =
    put_other other (first + n) l v (λ e. ⊎_elim (λ x. omega arith) (λ x. omega arith) p) ∙ o l (⊎_elim (λ x. inl x) (λ x. inr (omega arith)) p)

-- other bits in a block of n + 1, with the last bit put back
back_outside : (first n : ℕ) (bits other : List Bool) → SameOutside first (suc n) bits other → SameOutside first n bits (with_bit other (first + n) (bit bits (first + n)))
back_outside first n bits other o l p = by_level (level_cases first n l p)
  where
    by_level : (l < first) ⊎ ((first + n ≡ l) ⊎ (first + suc n ≤ l)) → bit (with_bit other (first + n) (bit bits (first + n))) l ≡ bit bits l
    by_level (inl q) = put_other other (first + n) l _ (λ e. omega arith) ∙ o l (inl q)
    by_level (inr (inl e)) = subst (λ (j : ℕ). bit (with_bit other (first + n) (bit bits (first + n))) j ≡ bit bits j) e (bit-put_same other (first + n) _)
    by_level (inr (inr q)) = put_other other (first + n) l _ (λ e. omega arith) ∙ o l (inr q)

twice : (other : List Bool) (k : ℕ) (u : Bool) (l : ℕ) → bit (with_bit (with_bit other k u) k (bit other k)) l ≡ bit other l
twice other k u l = by_level (cases_eq k l)
  where
    by_level : (k ≡ l) ⊎ (k ≡ l → ⊥) → bit (with_bit (with_bit other k u) k (bit other k)) l ≡ bit other l
    by_level (inl e) = subst (λ (j : ℕ). bit (with_bit (with_bit other k u) k (bit other k)) j ≡ bit other j) e (bit-put_same (with_bit other k u) k _)
    by_level (inr n) = put_other (with_bit other k u) k l _ n ∙ put_other other k l u n

-- the value at other bits, by the value that the bit has there
at_bit : (h : Tree) (other : List Bool) (k : ℕ) (u v : Bool) → bit other k ≡ v → value h (with_bit (with_bit other k u) k v) ≡ value h other
at_bit h other k u v e = subst (λ w. value h (with_bit (with_bit other k u) k w) ≡ value h other) e (value_same h _ _ (twice other k u))

same_all : (first : ℕ) (bits other : List Bool) → SameOutside first 0 bits other → (l : ℕ) → bit other l ≡ bit bits l
same_all first bits other o l = o l (⊎_elim (λ p. inl p) (λ p. inr (omega arith)) (cases_lt l first))

pub some_of_block : (first n : ℕ) (h result : Tree) → IsOrdered h → IsReduced h → AreRows (truth_of Or) first n h result → IsSomeOfBlock first n h result
some_of_block first zero h result p q e = record {
  ordered = subst IsOrdered (sym e) p;
  reduced = subst IsReduced (sym e) q;
  values = λ bits. subst (λ t. IsTrue (value t bits) ↔ ((other : List Bool) × SameOutside first 0 bits other × IsTrue (value h other))) (sym e)
      (λ v. (bits, λ l o. refl, v), λ (other, o, v). sym (value_same h other bits (same_all first bits other o)) ∙ v);
}
some_of_block first (suc n) h result p q (row, r, rows) =
    let s = some_of_block first n row result r.ordered r.reduced rows in
    let k = first + n in
    record {
      ordered = s.ordered;
      reduced = s.reduced;
      values = λ bits. joined (s.values bits) (
        λ (other, o, v). ⊎_elim (λ w. (with_bit other k false, set_outside first n bits other false o, w)) (λ w. (with_bit other k true, set_outside first n bits other true o, w))
            ((or_iff _ _ _ _ same same).0 (sym (r.values other) ∙ v)),
        λ (other, o, v). (
          with_bit other k (bit bits k),
          back_outside first n bits other o,
          r.values (with_bit other k (bit bits k)) ∙ back h other k (bit bits k) (bit other k) refl v,
        ),
      );
    }
  where
    back : (h : Tree) (other : List Bool) (k : ℕ) (u v : Bool) → bit other k ≡ v → IsTrue (value h other) → (value h (with_bit (with_bit other k u) k false) || value h (with_bit (with_bit other k u) k true)) ≡ true
    back h other k u false e w = (or_iff _ _ _ _ same same).1 (inl (at_bit h other k u false e ∙ w))
    back h other k u true e w = (or_iff _ _ _ _ same same).1 (inr (at_bit h other k u true e ∙ w))

pub each_of_block : (first n : ℕ) (h result : Tree) → IsOrdered h → IsReduced h → AreRows (truth_of And) first n h result → IsEachOfBlock first n h result
each_of_block first zero h result p q e = record {
  ordered = subst IsOrdered (sym e) p;
  reduced = subst IsReduced (sym e) q;
  values = λ bits. subst (λ t. IsTrue (value t bits) ↔ ((other : List Bool) → SameOutside first 0 bits other → IsTrue (value h other))) (sym e)
      (λ v other o. value_same h other bits (same_all first bits other o) ∙ v, λ all. all bits (λ l o. refl));
}
each_of_block first (suc n) h result p q (row, r, rows) =
    let s = each_of_block first n row result r.ordered r.reduced rows in
    let k = first + n in
    record {
      ordered = s.ordered;
      reduced = s.reduced;
      values = λ bits. joined (s.values bits) (
        λ all other o. forth h other k (bit bits k) (bit other k) refl (sym (r.values (with_bit other k (bit bits k))) ∙ all (with_bit other k (bit bits k)) (back_outside first n bits other o)),
        λ all other o. r.values other ∙ (and_iff _ _ _ _ same same).1 (all (with_bit other k false) (set_outside first n bits other false o), all (with_bit other k true) (set_outside first n bits other true o)),
      );
    }
  where
    forth : (h : Tree) (other : List Bool) (k : ℕ) (u v : Bool) → bit other k ≡ v → (value h (with_bit (with_bit other k u) k false) && value h (with_bit (with_bit other k u) k true)) ≡ true → IsTrue (value h other)
    forth h other k u false e w = sym (at_bit h other k u false e) ∙ ((and_iff _ _ _ _ same same).0 w).0
    forth h other k u true e w = sym (at_bit h other k u true e) ∙ ((and_iff _ _ _ _ same same).0 w).1

pub all_hold-append : (xs ys : List Literal) (bits : List Bool) → all_hold (xs ++ ys) bits ≡ (all_hold xs bits && all_hold ys bits)
all_hold-append [] ys bits = refl
all_hold-append (l ∷ xs) ys bits = regroup _ _ _ (all_hold-append xs ys bits)
  where
    regroup : (a b c : Bool) {d : Bool} → d ≡ (b && c) → (a && d) ≡ ((a && b) && c)
    regroup true b c e = e
    regroup false b c e = refl

last_holds : (b v : Bool) → IsTrue ((if v then b else not b) && true) ↔ (b ≡ v)
last_holds true true = (λ h. refl, λ e. refl)
last_holds true false = (λ h. sym h, λ e. sym e)
last_holds false true = (λ h. h, λ e. e)
last_holds false false = (λ h. refl, λ e. refl)

last_digit : (b : Bool) (s c : ℕ) → (2 * s + digit b ≡ c) ↔ ((s ≡ c / 2) × (b ≡ nat_eq (c % 2) 1))
last_digit true s c = (
  λ e. (omega arith, odd (eqb_tells (c % 2) 1) (omega arith)),
  λ (p, q). is_odd (eqb_tells (c % 2) 1) p q,
)
  where
    odd : ((nat_eq (c % 2) 1 ≡ true) × (c % 2 ≡ 1)) ⊎ ((nat_eq (c % 2) 1 ≡ false) × (c % 2 ≢ 1)) → c % 2 ≡ 1 → true ≡ nat_eq (c % 2) 1
    odd (inl t) e = sym t.0
    odd (inr t) e = absurd (t.1 e)

    is_odd : ((nat_eq (c % 2) 1 ≡ true) × (c % 2 ≡ 1)) ⊎ ((nat_eq (c % 2) 1 ≡ false) × (c % 2 ≢ 1)) → s ≡ c / 2 → true ≡ nat_eq (c % 2) 1 → 2 * s + 1 ≡ c
    is_odd (inl t) p q = let r = t.1 in omega arith
    is_odd (inr t) p q = absurd (let r : true ≡ false = q ∙ t.0 in cc)
last_digit false s c = (
  λ e. (omega arith, even (eqb_tells (c % 2) 1) (omega arith)),
  λ (p, q). is_even (eqb_tells (c % 2) 1) p q,
)
  where
    even : ((nat_eq (c % 2) 1 ≡ true) × (c % 2 ≡ 1)) ⊎ ((nat_eq (c % 2) 1 ≡ false) × (c % 2 ≢ 1)) → c % 2 ≡ 0 → false ≡ nat_eq (c % 2) 1
    even (inl t) e = absurd (let r = t.1 in omega arith)
    even (inr t) e = sym t.0

    is_even : ((nat_eq (c % 2) 1 ≡ true) × (c % 2 ≡ 1)) ⊎ ((nat_eq (c % 2) 1 ≡ false) × (c % 2 ≢ 1)) → s ≡ c / 2 → false ≡ nat_eq (c % 2) 1 → 2 * s + 0 ≡ c
    is_even (inl t) p q = absurd (let r : false ≡ true = q ∙ t.0 in cc)
    is_even (inr t) p q = let r : c % 2 ≢ 1 = t.1 in omega arith

-- the literals of a code hold where the bits spell it
pub code_holds : (first n c : ℕ) (bits : List Bool) → c < 2 ^ n → IsTrue (all_hold (code_literals first n c) bits) ↔ (spelled bits first n ≡ c)
code_holds first zero c bits h = (λ x. omega arith, λ e. refl)
code_holds first (suc n) c bits h =
    let p = two-pow-succ n in
    let half : c / 2 < 2 ^ n = omega arith in
    let last = literal_at (first + n) (nat_eq (c % 2) 1) ∷ [] in
    subst (λ b. IsTrue b ↔ (2 * spelled bits first n + digit (bit bits (first + n)) ≡ c)) (sym (all_hold-append (code_literals first n (c / 2)) last bits))
    (joined (and_iff _ _ _ _ (code_holds first n (c / 2) bits half) (last_holds (bit bits (first + n)) (nat_eq (c % 2) 1)))
    (turned (last_digit (bit bits (first + n)) (spelled bits first n) c)))

-- ---- the order of literals

abbrev pub LevelsBelow : ℕ → List Literal → Type 0
LevelsBelow n ls = AllByRecursion (λ l. l.level < n) ls

pub below_append : (n : ℕ) (xs ys : List Literal) → LevelsBelow n xs → LevelsBelow n ys → LevelsBelow n (xs ++ ys)
below_append n [] ys a b = b
below_append n (l ∷ xs) ys a b = (a.0, below_append n xs ys a.1 b)

pub below_weaken : (n m : ℕ) (ls : List Literal) → n ≤ m → LevelsBelow n ls → LevelsBelow m ls
below_weaken n m [] h b = tt
below_weaken n m (l ∷ ls) h b = (let x = b.0 in omega arith, below_weaken n m ls h b.1)

pub ascend_weaken : (n m : ℕ) (ls : List Literal) → n ≤ m → AscendFrom m ls → AscendFrom n ls
ascend_weaken n m [] h a = tt
ascend_weaken n m (l ∷ ls) h a = (let x = a.0 in omega arith, a.1)

-- literals below a level, and those from that level on
pub ascend_append : (n m : ℕ) (xs ys : List Literal) → n ≤ m → AscendFrom n xs → LevelsBelow m xs → AscendFrom m ys → AscendFrom n (xs ++ ys)
ascend_append n m [] ys h a b c = ascend_weaken n m ys h c
ascend_append n m (l ∷ xs) ys h a b c = (a.0, ascend_append (l.level + 1) m xs ys (let x = b.0 in omega arith) a.1 b.1 c)

-- the literals of a code are those of its block's levels, in order
pub code_below : (first n c : ℕ) → LevelsBelow (first + n) (code_literals first n c)
code_below first zero c = tt
code_below first (suc n) c =
    below_append (first + suc n) (code_literals first n (c / 2)) (literal_at (first + n) (nat_eq (c % 2) 1) ∷ [])
    (below_weaken (first + n) (first + suc n) (code_literals first n (c / 2)) (omega arith) (code_below first n (c / 2)))
    (omega arith, tt)

pub code_ascends : (first n c : ℕ) → AscendFrom first (code_literals first n c)
code_ascends first zero c = tt
code_ascends first (suc n) c =
    ascend_append first (first + n) (code_literals first n (c / 2)) (literal_at (first + n) (nat_eq (c % 2) 1) ∷ []) (omega arith)
    (code_ascends first n (c / 2)) (code_below first n (c / 2)) (omega arith, tt)
