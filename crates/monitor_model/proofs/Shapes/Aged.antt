-- Age trees that read alike: what the operations on ages make of them is such a tree.
use Rattle.std.proofs.Common.{◌≡◌, ℕ, ◌+◌, ◌^◌, ◌<◌, ◌≤◌, ◌⊎◌, inl, inr, ⊎_elim, refl, sym, ap, ◌∙◌, arith, List, Bool, true, false, not, ◌&&◌, Option, Some, None}
use Rattle.std.specs.Prelude.{if◌then◌else◌, nat_eq, nat_le, IfSome}
use Rattle.std.proofs.lemmas.Bool.{cases_lt}
use Rattle.std.proofs.lemmas.Bool.Decides.{leb_tells}
use Rattle.node_tree.specs.Tree.{Tree, bit, value}
use Rattle.node_tree.specs.Levels.{AllLevels}
use Rattle.bdd_ops.specs.declared.op.Op.{Op}
use Rattle.bdd_ops.specs.declared.op.Op.TheVariants.{And, Or, AndNot}
use Rattle.bdd_ops.specs.Apply.{leaf_of, map_leaves}
use Rattle.bdd_ops.specs.Numbers.{truth_of}
use Rattle.operation_rows.specs.Kinds.{applied}
use Rattle.timed_bits.specs.Ages.{spelled, is_age, HasAges, HasAgesTo}
use Rattle.timed_bits.specs.Changes.{chain_of, read_on, dropped, capped, is_there, stamped, is_one, age_drop, age_cap, any_time, at_time, stamp, age_where, either_age}
use Rattle.timed_bits.specs.Entries.{SaysOfAge}
use Rattle.timed_bits.proofs.Ages.{age_drop-ages, age_cap-ages, any_time-says, at_time-says}
use Rattle.timed_bits.proofs.Others.{says_itself, and-ages, without-or_stamp, within-or_stamp, or_stamp_elsewhere}
use Rattle.value_codes.specs.Pairs.{Pairs}
use Rattle.monitor_model.specs.Setting.{Setting, first_of, time_first, time_width}
use Rattle.monitor_model.specs.Operations.{SameOutside}
use Rattle.monitor_model.specs.Shape.{IsTimeLevel}
use Rattle.monitor_model.proofs.Spelling.Bits.{spell, spelled_same, block_end, age_other}
use Rattle.monitor_model.proofs.Spelling.Codes.{spelled_inside}
use Rattle.monitor_model.proofs.Timed.Nexts.{past_is}
use Rattle.monitor_model.proofs.Shapes.Kept.{Keeps, keeps_not, keeps_applied}
use Rattle.monitor_model.proofs.Shapes.Levels.{apply_levels, entry_levels, chain_of_levels, leaf_levels, weaker_levels}
use Rattle.monitor_model.proofs.Shapes.Unpaired.{IsUnpaired}

-- ---- ages

test_same : (n : ℕ) → nat_eq n n ≡ true
test_same n = (past_is (Some n) n).1 refl

-- two ages below a number are one where each test tells the same of them
options_same : (o p : Option ℕ) (m : ℕ) → IfSome o (λ a. a < m) → IfSome p (λ a. a < m) →
    ((n : ℕ) → n < m → is_age o n ≡ is_age p n) → o ≡ p
options_same None None m h k e = refl
options_same (Some a) p m h k e = sym ((past_is p a).0 (sym (e a h) ∙ test_same a))
options_same None (Some b) m h k e = absurd (let f : false ≡ true = e b k ∙ test_same b in cc)

dropped_small : (delta most : ℕ) (o : Option ℕ) → IfSome (dropped delta most o) (λ a. a ≤ most)
dropped_small delta most None = tt
dropped_small delta most (Some a) = by_test (nat_le (a + delta) most) (leb_tells (a + delta) most)
  where
    by_test : (b : Bool) → ((b ≡ true) × (a + delta ≤ most)) ⊎ ((b ≡ false) × (most < a + delta)) →
        IfSome (if b then Some (a + delta) else None) (λ a. a ≤ most)
    by_test true (inl p) = p.1
    by_test true (inr p) = absurd (let e : true ≡ false = p.0 in cc)
    by_test false p = tt

capped_small : (delta cap : ℕ) (o : Option ℕ) → IfSome (capped delta cap o) (λ a. a ≤ cap)
capped_small delta cap None = tt
capped_small delta cap (Some a) = omega arith

stamped_small : (most : ℕ) (b : Bool) → IfSome (stamped b) (λ a. a ≤ most)
stamped_small most true = omega arith
stamped_small most false = tt

where_small : (most : ℕ) (b : Bool) (o : Option ℕ) → IfSome o (λ a. a ≤ most) →
    IfSome (age_where b o) (λ a. a ≤ most)
where_small most true o h = h
where_small most false o h = tt

either_small : (most : ℕ) (o p : Option ℕ) → IfSome o (λ a. a ≤ most) → IfSome p (λ a. a ≤ most) →
    IfSome (either_age o p) (λ a. a ≤ most)
either_small most None p h k = k
either_small most (Some a) p h k = h

module _ (s : Setting) (books : ℕ → Pairs) (x c : ℕ) (P : ℕ → Type 0) where
  abbrev R : List Bool → List Bool → Type 0
  R = IsUnpaired s books x c

  abbrev T : ℕ
  T = time_first s

  abbrev W : ℕ
  W = time_width s

  -- a tree with ages at most this one, which read alike, over levels that P allows
  pub record Aged (most : ℕ) (t : Tree) : Type 0 where
    pub levels : AllLevels (λ l. P l ⊎ IsTimeLevel s l) t
    pub age : List Bool → Option ℕ
    pub has : HasAges (time_first s) (time_width s) t age
    pub small : (bits : List Bool) → IfSome (age bits) (λ a. a ≤ most)
    pub same : (a b : List Bool) → IsUnpaired s books x c a b → age a ≡ age b

  time_same : (a b : List Bool) → R a b → spelled b T W ≡ spelled a T W
  time_same a b u = age_other s x a b u.variable u.outside

  -- the value of an age tree reads alike
  pub aged_same : (most : ℕ) (t : Tree) → Aged most t → (a b : List Bool) → R a b →
      value t a ≡ value t b
  aged_same most t k a b u =
      k.has.values a ∙ ap (λ o. is_age o (spelled a T W)) (k.same a b u) ∙
      ap (λ (n : ℕ). is_age (k.age b) n) (sym (time_same a b u)) ∙ sym (k.has.values b)

  -- bits that spell the same number in the time block stay so
  spelled_alike : (n : ℕ) (a b p q : List Bool) → SameOutside T W a p → spelled p T W ≡ n →
      SameOutside T W b q → spelled q T W ≡ n → R a b → R p q
  spelled_alike n a b p q f e g d u = record {
    variable = u.variable;
    small = u.small;
    no_pair = u.no_pair;
    outside = λ l o. by_level l o (cases_lt l T) (cases_lt l (T + W));
    spells = spelled_same a p (first_of s x) s.bits
        (λ l i j. f l (inl (let e = block_end s x u.variable in omega arith))) ∙ u.spells;
    ones = spelled_same b q (first_of s x) s.bits
        (λ l i j. g l (inl (let e = block_end s x u.variable in omega arith))) ∙ u.ones;
  }
    where
      by_level : (l : ℕ) → (l < first_of s x) ⊎ (first_of s x + s.bits ≤ l) → (l < T) ⊎ (T ≤ l) →
          (l < T + W) ⊎ (T + W ≤ l) → bit q l ≡ bit p l
      by_level l o (inl i) j = g l (inl i) ∙ u.outside l o ∙ sym (f l (inl i))
      by_level l o (inr i) (inl j) = spelled_inside T W p q (e ∙ sym d) l i j
      by_level l o (inr i) (inr j) = g l (inr j) ∙ u.outside l o ∙ sym (f l (inr j))

  -- an age tree whose value reads alike has ages that do
  pub ages_same : (t : Tree) (age : List Bool → Option ℕ) → HasAges T W t age →
      ((a b : List Bool) → R a b → value t a ≡ value t b) → (a b : List Bool) → R a b →
      age a ≡ age b
  ages_same t age has h a b u =
      options_same (age a) (age b) (2 ^ W) (has.fits a) (has.fits b) each
    where
      at_number : (bits other : List Bool) (n : ℕ) → SameOutside T W bits other →
          spelled other T W ≡ n → is_age (age bits) n ≡ value t other
      at_number bits other n o e =
          ap (λ z. is_age z n) (has.before bits other (λ l p. sym (o l (inl p)))) ∙
          ap (λ (m : ℕ). is_age (age other) m) (sym e) ∙ sym (has.values other)

      each : (n : ℕ) → n < 2 ^ W → is_age (age a) n ≡ is_age (age b) n
      each n l =
          let (p, f, e) = spell T W n a l in
          let (q, g, d) = spell T W n b l in
          at_number a p n f e ∙ h p q (spelled_alike n a b p q f e g d u) ∙
          sym (at_number b q n g d)

  -- so a remembered age tree is one
  pub aged_of : (most : ℕ) (t : Tree) → AllLevels (λ l. P l ⊎ IsTimeLevel s l) t →
      HasAgesTo T W most t → ((a b : List Bool) → R a b → value t a ≡ value t b) → Aged most t
  aged_of most t levels (age, has, small) h = record {
    levels = levels;
    age = age;
    has = has;
    small = small;
    same = ages_same t age has h;
  }

  chain_here : (o : Option ℕ) → AllLevels (λ l. P l ⊎ IsTimeLevel s l) (chain_of T W o)
  chain_here o = chain_of_levels (λ l. P l ⊎ IsTimeLevel s l) T W o (λ l p. inr p)

  -- ages later, and none past the bound
  pub aged_drop : (delta n : ℕ) (t : Tree) → n < 2 ^ W → Aged n t → Aged n (age_drop T W delta n t)
  aged_drop delta n t l k = record {
    levels = entry_levels (λ l. P l ⊎ IsTimeLevel s l) T
        (λ u. chain_of T W (dropped delta n (read_on 0 u)))
        (λ u. chain_here (dropped delta n (read_on 0 u))) t
        (weaker_levels (λ l. P l ⊎ IsTimeLevel s l) (λ l. (l < T) → P l ⊎ IsTimeLevel s l)
        (λ l p q. p) t k.levels);
    age = λ bits. dropped delta n (k.age bits);
    has = age_drop-ages T W delta n t k.age l k.has;
    small = λ bits. dropped_small delta n (k.age bits);
    same = λ a b u. ap (dropped delta n) (k.same a b u);
  }

  -- ages later, each cut
  pub aged_cap : (delta n : ℕ) (t : Tree) → n < 2 ^ W → Aged n t → Aged n (age_cap T W delta n t)
  aged_cap delta n t l k = record {
    levels = entry_levels (λ l. P l ⊎ IsTimeLevel s l) T
        (λ u. chain_of T W (capped delta n (read_on 0 u)))
        (λ u. chain_here (capped delta n (read_on 0 u))) t
        (weaker_levels (λ l. P l ⊎ IsTimeLevel s l) (λ l. (l < T) → P l ⊎ IsTimeLevel s l)
        (λ l p q. p) t k.levels);
    age = λ bits. capped delta n (k.age bits);
    has = age_cap-ages T W delta n t k.age l k.has;
    small = λ bits. capped_small delta n (k.age bits);
    same = λ a b u. ap (capped delta n) (k.same a b u);
  }

  -- a tree of levels that P allows, which reads alike
  abbrev Own : Tree → Type 0
  Own t = Keeps P (IsUnpaired s books x c) t

  entry_own : (most : ℕ) (t : Tree) → Aged most t → AllLevels (λ l. (l < T) → P l) t
  entry_own most t k =
      weaker_levels (λ l. P l ⊎ IsTimeLevel s l) (λ l. (l < T) → P l)
      (λ l p q. ⊎_elim (λ o. o) (λ (i, j). absurd (omega arith)) p) t k.levels

  -- where there is an age, and where it is this one, is told by a tree of levels that P allows
  pub own_any : (most : ℕ) (t : Tree) → Aged most t → Own (any_time T W t)
  own_any most t k =
      let says = any_time-says T W t k.age k.has in
      record {
        ordered = says.ordered;
        reduced = says.reduced;
        levels = entry_levels P T (λ u. leaf_of (is_there (read_on 0 u)))
            (λ u. leaf_levels P (is_there (read_on 0 u))) t (entry_own most t k);
        same = λ a b u. says.values a ∙ ap is_there (k.same a b u) ∙ sym (says.values b);
      }

  -- the same of one age
  pub own_at : (most n : ℕ) (t : Tree) → Aged most t → Own (at_time T W n t)
  own_at most n t k =
      let says = at_time-says T W n t k.age k.has in
      record {
        ordered = says.ordered;
        reduced = says.reduced;
        levels = entry_levels P T (λ u. leaf_of (is_age (read_on 0 u) n))
            (λ u. leaf_levels P (is_age (read_on 0 u) n)) t (entry_own most t k);
        same = λ a b u. says.values a ∙ ap (λ o. is_age o n) (k.same a b u) ∙ sym (says.values b);
      }

  abbrev Wide : Tree → Type 0
  Wide t = AllLevels (λ l. P l ⊎ IsTimeLevel s l) t

  wide : (g : Tree) → Own g → Wide g
  wide g k = weaker_levels P (λ l. P l ⊎ IsTimeLevel s l) (λ l p. inl p) g k.levels

  stamp_levels : (g : Tree) → Own g → Wide (stamp T W g)
  stamp_levels g k =
      entry_levels (λ l. P l ⊎ IsTimeLevel s l) T (λ u. chain_of T W (stamped (is_one u)))
      (λ u. chain_here (stamped (is_one u))) g
      (weaker_levels P (λ l. (l < T) → P l ⊎ IsTimeLevel s l) (λ l p q. inl p) g k.levels)

  applied_levels : (op : Op) (u v : Tree) → Wide u → Wide v → Wide (applied op u v)
  applied_levels op u v h k =
      apply_levels (λ l. P l ⊎ IsTimeLevel s l) (truth_of op) u v h k

  -- the levels that P allows stand before the time block
  module _ (low : (l : ℕ) → P l → l < time_first s) where
    own_says : (g : Tree) → Own g → SaysOfAge T g (λ bits. value g bits)
    own_says g k =
        says_itself T g k.ordered k.reduced (weaker_levels P (λ l. l < T) low g k.levels)

    -- ages where g holds
    pub aged_and : (most : ℕ) (g t : Tree) → Own g → Aged most t → Aged most (applied And g t)
    aged_and most g t h k = record {
      levels = applied_levels And g t (wide g h) k.levels;
      age = λ bits. age_where (value g bits) (k.age bits);
      has = and-ages T W g t (value g) k.age (own_says g h) k.has;
      small = λ bits. where_small most (value g bits) (k.age bits) (k.small bits);
      same = λ a b u.
          ap (λ v. age_where v (k.age a)) (h.same a b u) ∙
          ap (age_where (value g b)) (k.same a b u);
    }

    -- ages where g does not hold, and age 0 where it does
    pub aged_within : (most : ℕ) (t g : Tree) → Aged most t → Own g →
        Aged most (applied Or (applied AndNot t g) (stamp T W g))
    aged_within most t g k h = record {
      levels = applied_levels Or (applied AndNot t g) (stamp T W g)
          (applied_levels AndNot t g k.levels (wide g h)) (stamp_levels g h);
      age = λ bits.
          either_age (age_where (not (value g bits)) (k.age bits)) (stamped (value g bits));
      has = without-or_stamp T W t g k.age (value g) k.has (own_says g h);
      small = λ bits.
          either_small most _ _ (where_small most (not (value g bits)) (k.age bits) (k.small bits))
          (stamped_small most (value g bits));
      same = λ a b u.
          ap (λ v. either_age (age_where (not v) (k.age a)) (stamped v)) (h.same a b u) ∙
          ap (λ o. either_age (age_where (not (value g b)) o) (stamped (value g b)))
          (k.same a b u);
    }

    -- ages where f holds, and age 0 where it does not
    pub aged_opposite : (most : ℕ) (t f : Tree) → Aged most t → Own f →
        Aged most (applied Or (applied And t f) (stamp T W (map_leaves not f)))
    aged_opposite most t f k h = record {
      levels = applied_levels Or (applied And t f) (stamp T W (map_leaves not f))
          (applied_levels And t f k.levels (wide f h))
          (stamp_levels (map_leaves not f) (keeps_not P (IsUnpaired s books x c) f h));
      age = λ bits.
          either_age (age_where (value f bits) (k.age bits)) (stamped (not (value f bits)));
      has = within-or_stamp T W t f k.age (value f) k.has (own_says f h);
      small = λ bits.
          either_small most _ _ (where_small most (value f bits) (k.age bits) (k.small bits))
          (stamped_small most (not (value f bits)));
      same = λ a b u.
          ap (λ v. either_age (age_where v (k.age a)) (stamped (not v))) (h.same a b u) ∙
          ap (λ o. either_age (age_where (value f b) o) (stamped (not (value f b))))
          (k.same a b u);
    }

    -- the ages that there are, and age 0 where g holds and there is none
    pub aged_beyond : (most : ℕ) (t g : Tree) → Aged most t → Own g →
        Aged most (applied Or t (stamp T W (applied AndNot g (any_time T W t))))
    aged_beyond most t g k h =
        let w = applied AndNot g (any_time T W t) in
        let own : Own w =
        keeps_applied P (IsUnpaired s books x c) AndNot g (any_time T W t) h
        (own_any most t k) in
        record {
          levels = applied_levels Or t (stamp T W w) k.levels (stamp_levels w own);
          age = λ bits.
              either_age (k.age bits) (stamped (value g bits && not (is_there (k.age bits))));
          has = or_stamp_elsewhere T W g t (value g) k.age (own_says g h) k.has;
          small = λ bits.
              either_small most _ _ (k.small bits)
              (stamped_small most (value g bits && not (is_there (k.age bits))));
          same = λ a b u.
              ap (λ v. either_age (k.age a) (stamped (v && not (is_there (k.age a)))))
              (h.same a b u) ∙
              ap (λ o. either_age o (stamped (value g b && not (is_there o)))) (k.same a b u);
        }
