use Rattle.std.proofs.Common.{◌≡◌, ℕ, ◌+◌, ◌-◌, ◌^◌, ◌<◌, ◌≤◌, ◌∙◌, ◌++◌, min, refl, sym, subst, ap, arith, length, true, false}
use Rattle.node_table.specs.Table.{tree_of}
use Rattle.code_reclaim.specs.Candidates.{departs}
use Rattle.code_reclaim.proofs.Striking.{struck_idle, past_apart, past_same, joined, fits_low, fits_high, paid_parts, some_candidate, low_ordered, high_ordered}
use Rattle.code_reclaim.proofs.entry.+strike_range.Goals as goal

-- how many codes stand below the half
counted : (count size half from rest : ℕ) → count ≡ min size rest → rest ≡ half - from → count ≡ min size (half - from)
counted count size half from rest c e = c ∙ ap (λ (k : ℕ). min size k) e

pub returns-then-not-contains-clause-struck : goal.returns-then-not-contains-clause-struck
returns-then-not-contains-clause-struck g t c =
    sym (struck_idle _ refl (departs c.args.level c.args.bits (tree_of c.args.table.now c.args.h) (tree_of c.args.table.now c.args.ones)) c.args.from c.args.candidates.now (sym c.contains.ensures.value ∙ c.if-not-contains.true))

pub returns-then-number-clause-struck : goal.returns-then-number-clause-struck
returns-then-number-clause-struck g t c =
    c.fill.ensures.after (λ y e. e)
    ∙ sym (past_apart c.args.table.now c.args.h c.args.ones c.args.level c.args.bits c.args.from c.number.result c.number-in_default.result c.args.candidates.now c.live-held.ensures.shared c.requires.valid c.requires.ones
    c.in_default.ensures.halves c.number.ensures c.number-in_default.ensures c.if-number.true)

pub returns-else-number-clause-struck : goal.returns-else-number-clause-struck
returns-else-number-clause-struck g t c =
    sym (past_same c.args.table.now c.args.h c.args.ones c.args.level c.args.bits c.args.from c.number.result c.number-in_default.result c.args.candidates.now c.live-held.ensures.shared c.requires.valid c.requires.ones
    c.in_default.ensures.halves c.number.ensures c.number-in_default.ensures c.if-number.false)

pub strike_range-requires : goal.strike_range-requires
strike_range-requires g t c κs within =
    let x = c.in-Some.ensures.halves in
    let some = x.some in (
      subst (λ (n : ℕ). c.args.bits - 1 < n) c.decreases (omega (arith, some)),
      (
        within,
        (
          x.low_valid,
          (
            c.requires.ones,
            (
              omega (arith, c.requires.width),
              (
                omega (arith, c.requires.block, some),
                (
                  subst (λ (k : ℕ). c.min.result + k ≤ 2 ^ (c.args.bits - 1)) (sym c.split_at_mut-below.ensures.front_len)
                      (fits_low c.args.from c.min-count.result (length c.args.candidates.now) c.half-half.result c.args.bits c.min.result c.half-half.ensures (counted c.min-count.result (length c.args.candidates.now) c.half-half.result c.args.from c.saturating_sub.result c.min-count.ensures c.saturating_sub.ensures) c.min.ensures),
                  low_ordered c.args.table.now c.args.h c.args.level c.args.bits c.in-Some.halves.low c.in-Some.halves.high c.live-held.ensures.shared c.requires.valid c.requires.below x,
                ),
              ),
            ),
          ),
        ),
      ),
    )

pub strike_range-requires-2 : goal.strike_range-requires-2
strike_range-requires-2 g t c κs within =
    let x = c.in-Some.ensures.halves in
    let some = x.some in (
      subst (λ (n : ℕ). c.args.bits - 1 < n) c.decreases (omega (arith, some)),
      (
        within,
        (
          x.high_valid,
          (
            c.requires.ones,
            (
              omega (arith, c.requires.width),
              (
                omega (arith, c.requires.block, some),
                (
                  fits_high c.args.from c.min-count.result (length c.args.candidates.now) (length c.split_at_mut-below.result.1.now) c.half-half.result c.args.bits c.saturating_sub-2.result some
                      (counted c.min-count.result (length c.args.candidates.now) c.half-half.result c.args.from c.saturating_sub.result c.min-count.ensures c.saturating_sub.ensures) c.saturating_sub-2.ensures c.half-half.ensures c.split_at_mut-below.ensures.back_len c.requires.fits,
                  high_ordered c.args.table.now c.args.h c.args.level c.args.bits c.in-Some.halves.low c.in-Some.halves.high c.live-held.ensures.shared c.requires.valid c.requires.below x,
                ),
              ),
            ),
          ),
        ),
      ),
    )

pub returns-clause-struck : goal.returns-clause-struck
returns-clause-struck g t c =
    let x = c.in-Some.ensures.halves in
    (λ i. c.strike_range.ensures.struck i ++ c.strike_range-2.ensures.struck i)
    ∙ joined c.args.bits c.args.level c.args.from c.min.result c.saturating_sub-2.result c.min-count.result c.half-half.result (tree_of c.args.table.now c.args.h) (tree_of c.args.table.now c.args.ones)
    c.args.candidates.now c.split_at_mut-below.result.0.now c.split_at_mut-below.result.1.now x.some c.half-half.ensures c.split_at_mut-below.ensures.value c.split_at_mut-below.ensures.front_len
    c.split_at_mut-below.ensures.back_len (counted c.min-count.result (length c.args.candidates.now) c.half-half.result c.args.from c.saturating_sub.result c.min-count.ensures c.saturating_sub.ensures) c.min.ensures c.saturating_sub-2.ensures (tree_of c.args.table.now c.in-Some.halves.low)
    (tree_of c.args.table.now c.in-Some.halves.high) x.low_tree x.high_tree

pub returns-clause-cost : goal.returns-clause-cost
returns-clause-cost g t c =
    paid_parts (length c.args.candidates.now) (length c.split_at_mut-below.result.0.now) (length c.split_at_mut-below.result.1.now) c.args.bits c.args.steps.now c.halves_of.new.steps c.strike_range.new.steps c.strike_range-2.new.steps
    (some_candidate _ c.args.candidates.now (λ e. (let f : true ≡ false = sym c.if-not-contains.false ∙ c.contains.ensures.value ∙ e in cc))) c.in-Some.ensures.halves.some
    (omega (arith, c.split_at_mut-below.ensures.back_len, c.split_at_mut-below.ensures.front_len)) c.halves_of.ensures.cost c.strike_range.ensures.cost c.strike_range-2.ensures.cost
