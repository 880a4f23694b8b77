-- The rows of quantification over a block.
use Rattle.std.proofs.Common.{◌≡◌, ℕ, zero, suc, ◌<◌, ◌≤◌, List, [], ◌∷◌, ◌++◌, length, map, refl, ap, ◌∙◌, arith, ⊎_elim, inl, inr, subst, length-append, append_assoc, Some, None}
use Rattle.std.specs.Prelude.{Bool, Result, Ok, Err}
use Rattle.std.specs.List.{Contains}
use Rattle.std.proofs.lemmas.Bool.{cases_lt}
use Rattle.node_tree.specs.Tree.{Tree}
use Rattle.node_table.specs.Table.{Table, tree_of}
use Rattle.quantify.specs.Quantified.{after_rows}
use Rattle.quantify.specs.Rows as quantify
use Rattle.quantify.specs.declared.block.BlockFull.{BlockFull}
use Rattle.operation_rows.specs.declared.rows.RowFull.{RowFull}
use Rattle.operation_rows.specs.Rows.{Row, row, row_need, first_full, MakesUpdate}
use Rattle.operation_rows.specs.Kinds.{block_rows, block_update}
use Rattle.operation_rows.proofs.Fitting.{rows_then, rows_stop}
use Rattle.operation_rows.proofs.Sizes.{Has, has_left, has_right, has_cases, has_handle, size_same}

module _ (all : Bool) (first bits : ℕ) where
  -- the row after so many
  abbrev pub block_row : ℕ → Tree → Row
  block_row n t = row (after_rows all first bits n t ∷ []) (after_rows all first bits (suc n) t)

  length_block : (n : ℕ) (t : Tree) → length (block_rows all first bits n t) ≡ n
  length_block zero t = refl
  length_block (suc n) t =
      let e = length-append (block_rows all first bits n t) (block_row n t ∷ []) in let r = length_block n t in omega (arith, e, r)

  -- the rows from one on
  split_block : (p m : ℕ) (t : Tree) → p < m → (more : List Row) × (block_rows all first bits m t ≡ block_rows all first bits p t ++ block_row p t ∷ more)
  split_block p zero t l = absurd (omega arith)
  split_block p (suc m) t l =
      ⊎_elim (λ (k : p < m). let (more, e) = split_block p m t k in
      (more ++ block_row m t ∷ [], ap (λ rs. rs ++ block_row m t ∷ []) e ∙ append_assoc (block_rows all first bits p t) (block_row p t ∷ more) (block_row m t ∷ [])))
      (λ (k : m ≤ p). let same : p ≡ m = omega arith in ([], rw same refl)) (cases_lt p m)

  module _ (h : ℕ) (roots : List ℕ) (t : Table) (among : Contains roots h) where
    abbrev operand : Tree
    operand = tree_of t h

    abbrev kept : List Tree
    kept = map (tree_of t) roots

    there : (n : ℕ) (x : Tree) → Has (kept ++ (after_rows all first bits n operand ∷ (after_rows all first bits (suc n) operand ∷ []))) x →
        Has (after_rows all first bits (suc n) operand ∷ (after_rows all first bits n operand ∷ (operand ∷ kept))) x
    there n x k =
        ⊎_elim (λ i. inr (inr (inr i))) (λ i. ⊎_elim (λ e. inr (inl e)) (λ j. ⊎_elim (λ e. inl e) (λ none. absurd none) j) i)
        (has_cases kept (after_rows all first bits n operand ∷ (after_rows all first bits (suc n) operand ∷ [])) x k)

    back : (n : ℕ) (x : Tree) → Has (after_rows all first bits (suc n) operand ∷ (after_rows all first bits n operand ∷ (operand ∷ kept))) x →
        Has (kept ++ (after_rows all first bits n operand ∷ (after_rows all first bits (suc n) operand ∷ []))) x
    back n x (inl e) = has_right kept _ x (inr (inl e))
    back n x (inr (inl e)) = has_right kept _ x (inl e)
    back n x (inr (inr (inl e))) = has_left kept _ x (subst (Has kept) e (has_handle (tree_of t) roots h among))
    back n x (inr (inr (inr i))) = has_left kept _ x i

    -- what a row needs is what the call that makes it does
    same_need : (n : ℕ) → row_need kept (block_row n operand) ≡ quantify.bit_need all first bits n h roots t
    same_need n =
        size_same (kept ++ (after_rows all first bits n operand ∷ (after_rows all first bits (suc n) operand ∷ [])))
        (after_rows all first bits (suc n) operand ∷ (after_rows all first bits n operand ∷ (operand ∷ kept))) (there n) (back n)

    fit_to : (n : ℕ) → ((q : ℕ) → q < n → quantify.bit_need all first bits q h roots t ≤ t.room) → first_full t.room kept (block_rows all first bits n operand) ≡ None
    fit_to zero f = refl
    fit_to (suc n) f =
        let l = f n (omega arith) in let e = same_need n in
        rows_then t.room kept (block_rows all first bits n operand) (block_row n operand) (fit_to n (λ q k. f q (omega arith))) (omega (arith, l, e))

    pub block_ok : (new : Table) (made : ℕ) (r : Result ℕ BlockFull) → r ≡ Ok made → quantify.Quantifies all first bits 0 h roots t new r →
        MakesUpdate (block_update all first bits operand) roots t new (Ok (record { now = made; next = made }))
    block_ok new made r e o =
        let q : quantify.Quantifies all first bits 0 h roots t new (Ok made) = subst (quantify.Quantifies all first bits 0 h roots t new) e o in record {
          room = q.room;
          shared = q.shared;
          roots_stay = q.roots_stay;
          now = (q.valid, q.is);
          next = (q.valid, q.is);
          full = fit_to bits (λ j l. q.fits j (omega arith) l);
        }

    pub block_full : (new : Table) (x : BlockFull) (f : RowFull) (r : Result ℕ BlockFull) → r ≡ Err x → f.row ≡ x.row → quantify.Quantifies all first bits 0 h roots t new r →
        MakesUpdate (block_update all first bits operand) roots t new (Err f)
    block_full new x f r e at o =
        let q : quantify.Quantifies all first bits 0 h roots t new (Err x) = subst (quantify.Quantifies all first bits 0 h roots t new) e o in
        let (p, is, low, high, more, before) = q.refused in
        let (rest, split) = split_block p bits operand high in
        let need = same_need p in let len = length_block p operand in record {
          room = q.room;
          shared = q.shared;
          roots_stay = q.roots_stay;
          now = tt;
          next = tt;
          full = ap (first_full t.room kept) split
              ∙ rows_stop t.room kept (block_rows all first bits p operand) (block_row p operand) rest (fit_to p (λ j l. before j (omega arith) l)) (omega (arith, more, need))
              ∙ ap (λ (n : ℕ). Some n) (omega (arith, len, at, is));
        }
