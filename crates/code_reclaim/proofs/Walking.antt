-- A walk below a handle is a search for each candidate at once.
use Rattle.std.proofs.Common.{◌≡◌, ℕ, ◌+◌, ◌*◌, ◌≤◌, List, length, refl, ap, sym, ◌∙◌, arith, subst}
use Rattle.std.specs.Prelude.{Bool, true, false, not, ◌&&◌}
use Rattle.std.proofs.lemmas.Nat.{mul-le}
use Rattle.node_tree.specs.Tree.{top}
use Rattle.node_table.specs.Table.{Table, tree_of, IsValid, IsShared}
use Rattle.code_reclaim.specs.Told.{differs}
use Rattle.code_reclaim.specs.Candidates.{is_candidate, struck}
use Rattle.code_reclaim.specs.Search.{HasChildren, Searches, AreClear, Strikes}
use Rattle.code_reclaim.proofs.Searching.{Marks, passed_over, looked_at, clear_low, found_below, clear_high, found_after}
use Rattle.code_reclaim.proofs.Striking.{struck_length, struck_at}

pub not_not : (b : Bool) → not (not b) ≡ b
not_not true = refl
not_not false = refl

-- what is still a candidate was one
pub was_candidate : (before after : List Bool) → ((i : ℕ) → is_candidate before i ≡ false → is_candidate after i ≡ false) → (i : ℕ) → is_candidate after i ≡ true → is_candidate before i ≡ true
was_candidate before after others i e = by_test (is_candidate before i) refl
  where
    by_test : (b : Bool) → is_candidate before i ≡ b → b ≡ true
    by_test true f = refl
    by_test false f = let g : false ≡ true = sym (others i f) ∙ e in cc

module _ (first bits from h : ℕ) (old mid : Table) (said : Bool) (shared : IsShared old) (valid : IsValid old h) (mark : Marks h old mid said) (before : List Bool)
    (clear : AreClear first bits from before (top (tree_of old h)) old) where
  -- a marked handle strikes none
  pub all_passed : said ≡ false → Strikes first bits from h old mid before before
  all_passed e = record {
    room = mark.room;
    nodes = mark.nodes;
    count = refl;
    others = λ i f. f;
    codes = λ i f. subst (λ b. Searches (differs first bits (from + i)) h old mid (not b)) (sym f) (passed_over first bits (from + i) h old mid said shared valid (clear i f) mark e);
  }

  -- an entry of the block strikes what its tree tells apart
  pub all_looked_at : (after : List Bool) → after ≡ struck (λ c. differs first bits c (tree_of mid h)) from before → Strikes first bits from h old mid before after
  all_looked_at after e = record {
    room = mark.room;
    nodes = mark.nodes;
    count = ap (λ (xs : List Bool). length xs) e ∙ struck_length (λ c. differs first bits c (tree_of mid h)) from before;
    others = λ i f. at i ∙ ap (λ b. b && not (differs first bits (from + i) (tree_of mid h))) f;
    codes = λ i f.
        looked_at first bits (from + i) h old mid said shared valid (clear i f) mark (not (is_candidate after i))
        (ap not (at i) ∙ ap (λ b. not (b && not (differs first bits (from + i) (tree_of mid h)))) f ∙ not_not (differs first bits (from + i) (tree_of mid h)));
  }
    where
      at : (i : ℕ) → is_candidate after i ≡ (is_candidate before i && not (differs first bits (from + i) (tree_of mid h)))
      at i = ap (λ (xs : List Bool). is_candidate xs i) e ∙ struck_at (λ c. differs first bits c (tree_of mid h)) from before i

  module _ (low high : ℕ) (fits : first ≤ 65536) (c : HasChildren mid h first low high) where
    pub all_clear_low : AreClear first bits from before (top (tree_of mid low)) mid
    all_clear_low i f = clear_low first bits (from + i) h old mid said shared valid (clear i f) mark low high fits c

    module _ (after : Table) (between : List Bool) (one : Strikes first bits from low mid after before between) where
      pub all_clear_high : AreClear first bits from between (top (tree_of after high)) after
      all_clear_high i f =
          let was = was_candidate before between one.others i f in
          clear_high first bits (from + i) h old mid said shared valid (clear i was) mark low high fits c after (not (is_candidate between i)) (one.codes i was) (ap not f)

      pub all_struck : (new : Table) (last : List Bool) → Strikes first bits from high after new between last → Strikes first bits from h old new before last
      all_struck new last two = record {
        room = two.room ∙ one.room ∙ mark.room;
        nodes = two.nodes ∙ one.nodes ∙ mark.nodes;
        count = two.count ∙ one.count;
        others = λ i f. two.others i (one.others i f);
        codes = λ i f. by_test i f (is_candidate between i) refl;
      }
        where
          by_test : (i : ℕ) → is_candidate before i ≡ true → (b : Bool) → is_candidate between i ≡ b → Searches (differs first bits (from + i)) h old new (not (is_candidate last i))
          by_test i f true g =
              found_after first bits (from + i) h old mid said shared valid (clear i f) mark low high fits c after (not (is_candidate between i)) (one.codes i f) (ap not g) new (not (is_candidate last i)) (two.codes i g)
          by_test i f false g =
              subst (λ b. Searches (differs first bits (from + i)) h old new (not b)) (sym (two.others i g))
              (found_below first bits (from + i) h old mid said shared valid (clear i f) mark low high fits c after (not (is_candidate between i)) (one.codes i f) (ap not g) new two.room two.nodes)

-- ---- steps

-- a step at a node above the block
pub paid_step : (size bits before after : ℕ) → 1 ≤ size → after ≡ before + 1 → after ≤ before + size * (2 * bits + 1)
paid_step size bits before after some e = (let m = mul-le 1 1 size (2 * bits + 1) some (omega arith) in omega (arith, m, e))

-- a step at an entry, and steps for each bit of all ones and of each code
pub paid_entry : (size bits before there after : ℕ) → 1 ≤ size → there ≡ before + 1 → after ≤ there + bits + size * bits → after ≤ before + size * (2 * bits + 1)
paid_entry size bits before there after some e c =
    (let m = mul-le 1 bits size bits some (omega arith) in let f = spread size bits in sum (size * bits) (size * (2 * bits + 1)) m f c)
  where
    spread : (x y : ℕ) → x * (2 * y + 1) ≡ x * y + x * y + x
    spread x y = omega arith

    sum : (p q : ℕ) → 1 * bits ≤ p → q ≡ p + p + size → after ≤ there + bits + p → after ≤ before + q
    sum p q m f d = omega (arith, m, f, d, e, some)
