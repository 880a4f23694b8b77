-- Quantifying over a block of bits draws the quantifier over all texts.
use Rattle.std.proofs.Common.{◌≡◌, ℕ, ◌-◌, ◌*◌, ◌^◌, ◌<◌, ◌↔◌, inl, inr, refl, sym, ap, subst, arith, List, Bool, Option, Some, None}
use Rattle.std.specs.Prelude.{nat_eq, unwrap_or}
use Rattle.std.proofs.lemmas.Nat.{pow_pos}
use Rattle.std.proofs.lemmas.Bool.Decides.{eqb_tells}
use Rattle.qtl_syntax.specs.Tree.{Text}
use Rattle.qtl_truth.specs.Truth.{IsText}
use Rattle.subformulas.specs.Assigned.{Texts, put}
use Rattle.subformulas.proofs.Agree.{same, joined}
use Rattle.node_tree.specs.Tree.{Tree}
use Rattle.value_codes.specs.Pairs.{Pairs, code_of, value_of, IsPaired}
use Rattle.value_codes.proofs.Lookups.{Tells, code_reads}
use Rattle.monitor_model.specs.Books.{reads}
use Rattle.timed_bits.specs.Ages.{spelled}
use Rattle.monitor_model.specs.Setting.{Setting}
use Rattle.monitor_model.specs.Drawn.{Draws, readings}
use Rattle.monitor_model.specs.Operations.{SameOutside, IsSomeOfBlock, IsEachOfBlock}
use Rattle.monitor_model.proofs.Books.Pairing.{EachPair, ones_free}
use Rattle.monitor_model.proofs.Spelling.Bits.{spell, readings_other}

module _ (s : Setting) (x : ℕ) (books : ℕ → Pairs) (fresh : Text) (fresh_text : IsText fresh) (paired : IsPaired (books x))
    (below : EachPair (λ c t. c < 2 ^ s.bits - 1) (books x)) (texts : EachPair (λ c t. IsText t) (books x))
    (F : Texts → Type 0) (F_same : (nu nu' : Texts) → ((y : ℕ) → nu y ≡ nu' y) → F nu ↔ F nu')
    (unread : (t : Text) (nu : Texts) → code_of (books x) t ≡ None → F (put x t nu) ↔ F (put x fresh nu)) where
  reads_text : (c : ℕ) → IsText (reads (books x) fresh c)
  reads_text c = by_value (value_of (books x) c) refl
    where
      by_value : (o : Option Text) → value_of (books x) c ≡ o → IsText (unwrap_or o fresh)
      by_value None e = fresh_text
      by_value (Some t) e = texts c t e

  -- each text reads like some code: its own, or all ones
  reach : (t : Text) (nu : Texts) → (c : ℕ) × (c < 2 ^ s.bits) × (F (put x t nu) ↔ F (put x (reads (books x) fresh c) nu))
  reach t nu = by_code (code_of (books x) t) refl
    where
      by_code : (o : Option ℕ) → code_of (books x) t ≡ o → (c : ℕ) × (c < 2 ^ s.bits) × (F (put x t nu) ↔ F (put x (reads (books x) fresh c) nu))
      by_code (Some c) e =
          let v = code_reads (books x) t c paired e in
          (c, (let h = below c t v in omega arith), subst (λ o. F (put x t nu) ↔ F (put x (unwrap_or o fresh) nu)) (sym v) same)
      by_code None e =
          (2 ^ s.bits - 1, (let h = pow_pos s.bits in omega arith), subst (λ o. F (put x t nu) ↔ F (put x (unwrap_or o fresh) nu)) (sym (ones_free s.bits (books x) below)) (unread t nu e))

  -- bits that differ in the block alone read as a text put for x
  block_reads : (bits other : List Bool) → SameOutside (x * s.bits) s.bits bits other → (y : ℕ) →
      put x (readings s books fresh other x) (readings s books fresh bits) y ≡ readings s books fresh other y
  block_reads bits other o y = by_test (eqb_tells x y)
    where
      by_test : Tells (nat_eq x y) (x ≡ y) → put x (readings s books fresh other x) (readings s books fresh bits) y ≡ readings s books fresh other y
      by_test (inl q) = rw q.0 (ap (readings s books fresh other) q.1)
      by_test (inr q) = rw q.0 (sym (readings_other s books fresh x y bits other o (λ e. q.1 (sym e))))

  -- the bits that spell a code for x
  found : (t : Text) (bits : List Bool) → (other : List Bool) × SameOutside (x * s.bits) s.bits bits other × (F (put x t (readings s books fresh bits)) ↔ F (readings s books fresh other))
  found t bits =
      let (c, l, h) = reach t (readings s books fresh bits) in
      let (other, o, spells) = spell (x * s.bits) s.bits c bits l in (
        other,
        o,
        joined h (joined (subst (λ (d : ℕ). F (put x (reads (books x) fresh c) (readings s books fresh bits)) ↔ F (put x (reads (books x) fresh d) (readings s books fresh bits))) (sym spells) same)
            (F_same _ _ (block_reads bits other o))),
      )

  pub draws_exists : (h r : Tree) → Draws (λ bits. F (readings s books fresh bits)) h → IsSomeOfBlock (x * s.bits) s.bits h r →
      Draws (λ bits. (t : Text) × IsText t × F (put x t (readings s books fresh bits))) r
  draws_exists h r d q = record {
    ordered = q.ordered;
    reduced = q.reduced;
    values = λ bits. joined (q.values bits) (
      λ (other, o, v). (readings s books fresh other x, reads_text (spelled other (x * s.bits) s.bits), (F_same _ _ (block_reads bits other o)).1 ((d.values other).0 v)),
      λ (t, k, v). let (other, o, e) = found t bits in (other, o, (d.values other).1 (e.0 v)),
    );
  }

  pub draws_forall : (h r : Tree) → Draws (λ bits. F (readings s books fresh bits)) h → IsEachOfBlock (x * s.bits) s.bits h r →
      Draws (λ bits. (t : Text) → IsText t → F (put x t (readings s books fresh bits))) r
  draws_forall h r d q = record {
    ordered = q.ordered;
    reduced = q.reduced;
    values = λ bits. joined (q.values bits) (
      λ all t k. let (other, o, e) = found t bits in e.1 ((d.values other).0 (all other o)),
      λ all other o. (d.values other).1 ((F_same _ _ (block_reads bits other o)).0 (all (readings s books fresh other x) (reads_text (spelled other (x * s.bits) s.bits)))),
    );
  }
