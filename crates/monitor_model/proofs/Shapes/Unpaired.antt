-- A tree reads alike exactly where its values are the same at bits that spell a code without a pair
-- and at the same bits with the block all ones.
use Rattle.std.proofs.Common.{◌≡◌, ◌≢◌, ℕ, ◌+◌, ◌-◌, ◌^◌, ◌<◌, ◌≤◌, ◌⊎◌, inl, inr, ⊎_elim, refl, sym, ◌∙◌, subst, arith, List, Bool, true, false, None}
use Rattle.std.proofs.lemmas.Nat.{pow_pos}
use Rattle.std.proofs.lemmas.Bool.{cases_Bool, cases_eq}
use Rattle.node_tree.specs.Tree.{Tree, Zero, One, Branch, IsOrdered, IsReduced, bit, value}
use Rattle.node_tree.specs.Restrict.{with_bit}
use Rattle.node_tree.specs.Levels.{AllLevels, IsInBlock}
use Rattle.node_tree.proofs.OneTree.{bit-put_same, put_other}
use Rattle.bdd_ops.specs.Reading.{with_code}
use Rattle.value_codes.specs.Pairs.{Pairs, value_of}
use Rattle.code_reclaim.specs.Told.{differs}
use Rattle.code_reclaim.proofs.Telling.{differs_bits, bits_differ}
use Rattle.timed_bits.specs.Ages.{spelled}
use Rattle.monitor_model.specs.Setting.{Setting, first_of}
use Rattle.monitor_model.specs.Operations.{SameOutside}
use Rattle.monitor_model.specs.Shape.{ReadsAlike}
use Rattle.monitor_model.proofs.Spelling.Bits.{spelled_same, apart}
use Rattle.monitor_model.proofs.Spelling.Codes.{with_code_outside, with_code_spells, value_with_code}

-- in the block of x the first bits spell a code c without a pair and the other bits are all ones;
-- elsewhere they are the same
pub record IsUnpaired (s : Setting) (books : ℕ → Pairs) (x c : ℕ) (a b : List Bool) : Type 0 where
  pub variable : x < s.variables
  pub small : c < 2 ^ s.bits
  pub no_pair : value_of (books x) c ≡ None
  pub outside : SameOutside (first_of s x) s.bits a b
  pub spells : spelled a (first_of s x) s.bits ≡ c
  pub ones : spelled b (first_of s x) s.bits ≡ 2 ^ s.bits - 1

same_or_not : (a b : Bool) → (a ≡ b) ⊎ (a ≢ b)
same_or_not true true = inl refl
same_or_not false false = inl refl
same_or_not true false = inr (λ e. cc)
same_or_not false true = inr (λ e. cc)

never : false ≡ true → ⊥
never e = cc

-- the value looks at the bits of the tree's levels alone
pub value_on : (P : ℕ → Type 0) (t : Tree) (a b : List Bool) → AllLevels P t →
    ((l : ℕ) → P l → bit a l ≡ bit b l) → value t a ≡ value t b
value_on P Zero a b h e = refl
value_on P One a b h e = refl
value_on P (Branch l x y) a b h e =
    rw (e l h.0, value_on P x a b h.1 e, value_on P y a b h.2 e) refl

module _ (s : Setting) (books : ℕ → Pairs) where
  -- a tree that reads alike has the same value at such bits
  pub alike_same : (t : Tree) → IsOrdered t → ReadsAlike s books t → (x c : ℕ) (a b : List Bool) →
      IsUnpaired s books x c a b → value t a ≡ value t b
  alike_same t o h x c a b u =
      let first = first_of s x in
      let here = value_with_code t a a first s.bits c (λ l p. refl) u.spells in
      let there = value_with_code t a b first s.bits (2 ^ s.bits - 1) u.outside u.ones in
      ⊎_elim
      (λ e. e)
      (λ n. absurd (never (sym (h x c u.variable u.small u.no_pair) ∙
      bits_differ first s.bits c t o (a, λ e. n (sym here ∙ e ∙ there)))))
      (same_or_not (value t a) (value t b))

  set_bits : (x c : ℕ) (bits : List Bool) → x < s.variables → c < 2 ^ s.bits →
      value_of (books x) c ≡ None →
      IsUnpaired s books x c (with_code bits (first_of s x) s.bits c)
      (with_code bits (first_of s x) s.bits (2 ^ s.bits - 1))
  set_bits x c bits v l n = record {
    variable = v;
    small = l;
    no_pair = n;
    outside = λ k p.
        with_code_outside bits (first_of s x) s.bits (2 ^ s.bits - 1) k p ∙
        sym (with_code_outside bits (first_of s x) s.bits c k p);
    spells = with_code_spells bits (first_of s x) s.bits c l;
    ones = with_code_spells bits (first_of s x) s.bits (2 ^ s.bits - 1)
        (let h = pow_pos s.bits in omega arith);
  }

  -- and back
  pub same_alike : (t : Tree) → IsOrdered t → IsReduced t →
      ((x c : ℕ) (a b : List Bool) → IsUnpaired s books x c a b → value t a ≡ value t b) →
      ReadsAlike s books t
  same_alike t o r h x c v l n =
      ⊎_elim
      (λ e.
      let (bits, apart) = differs_bits (first_of s x) s.bits c t o r e in
      absurd (apart (h x c _ _ (set_bits x c bits v l n))))
      (λ e. e)
      (cases_Bool (differs (first_of s x) s.bits c t))

  module _ (x c : ℕ) where
    -- a bit that is set outside the block leaves the bits so
    pub set_other : (a b : List Bool) (level : ℕ) (v : Bool) →
        (level < first_of s x) ⊎ (first_of s x + s.bits ≤ level) → IsUnpaired s books x c a b →
        IsUnpaired s books x c (with_bit a level v) (with_bit b level v)
    set_other a b level v out u = record {
      variable = u.variable;
      small = u.small;
      no_pair = u.no_pair;
      outside = λ k p. by_level k p (cases_eq level k);
      spells = spelled_same a (with_bit a level v) (first_of s x) s.bits
          (λ k p q. put_other a level k v (λ e. ⊎_elim (λ d. omega arith) (λ d. omega arith) out)) ∙
          u.spells;
      ones = spelled_same b (with_bit b level v) (first_of s x) s.bits
          (λ k p q. put_other b level k v (λ e. ⊎_elim (λ d. omega arith) (λ d. omega arith) out)) ∙
          u.ones;
    }
      where
        by_level : (k : ℕ) → (k < first_of s x) ⊎ (first_of s x + s.bits ≤ k) →
            (level ≡ k) ⊎ (level ≡ k → ⊥) → bit (with_bit b level v) k ≡ bit (with_bit a level v) k
        by_level k p (inl e) =
            subst (λ (j : ℕ). bit (with_bit b level v) j ≡ bit (with_bit a level v) j) e
            (bit-put_same b level v ∙ sym (bit-put_same a level v))
        by_level k p (inr n) =
            put_other b level k v n ∙ u.outside k p ∙ sym (put_other a level k v n)

    -- a level of another variable's block lies outside
    pub other_outside : (y level : ℕ) → y ≢ x → IsInBlock (first_of s y) s.bits level →
        (level < first_of s x) ⊎ (first_of s x + s.bits ≤ level)
    other_outside y level n (p, q) = apart x y s.bits level n p q
