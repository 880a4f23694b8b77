-- The cube of a fact that an atom fits is true exactly where the bits spell the codes that the fact gives.
use Rattle.std.proofs.Common.{◌≡◌, ℕ, zero, suc, ◌+◌, ◌*◌, ◌^◌, ◌<◌, ◌≤◌, ◌⊎◌, ◌↔◌, inl, inr, sym, ap, ◌∙◌, refl, subst, arith, List, [], ◌∷◌, Bool, IsTrue, Option, Some, None}
use Rattle.std.specs.Option.{option_and_then}
use Rattle.std.proofs.lemmas.Bool.{cases_lt}
use Rattle.qtl_syntax.specs.Tree.{Text}
use Rattle.qtl_truth.specs.declared.numbered_atom.Atom.{Atom}
use Rattle.subformulas.specs.Facts.{Fact}
use Rattle.subformulas.specs.Needs.{given}
use Rattle.subformulas.proofs.Agree.{joined}
use Rattle.value_codes.specs.Pairs.{Pairs, code_of}
use Rattle.value_codes.proofs.Lookups.{some_none}
use Rattle.node_tree.specs.Tree.{Tree, Zero, join, IsReduced}
use Rattle.node_tree.proofs.Same.{join_reduced}
use Rattle.bdd_ops.specs.declared.literals.Literal.{Literal}
use Rattle.bdd_ops.specs.Cube.{literal_tree, cube_tree, all_hold, AscendFrom}
use Rattle.bdd_ops.proofs.Cubes.{cube-value, cube-ordered}
use Rattle.monitor_model.specs.Setting.{Setting, first_of}
use Rattle.monitor_model.specs.Drawn.{Draws, code_at}
use Rattle.monitor_model.specs.Rows.{Frame, block_literals, given_code, fact_literals}
use Rattle.monitor_model.proofs.Books.Pairing.{by_if}
use Rattle.monitor_model.proofs.Drawing.Connectives.{and_iff}
use Rattle.monitor_model.proofs.Spelling.Blocks.{all_hold-append, code_holds, LevelsBelow, below_append, below_weaken, ascend_append, code_below, code_ascends}

literal_reduced : (l : Literal) (t : Tree) → IsReduced t → IsReduced (literal_tree l t)
literal_reduced l t r =
    by_if IsReduced l.bit (join l.level Zero t) (join l.level t Zero)
    (join_reduced l.level Zero t tt r) (join_reduced l.level t Zero r tt)

pub cube_reduced : (ls : List Literal) → IsReduced (cube_tree ls)
cube_reduced [] = tt
cube_reduced (l ∷ ls) = literal_reduced l (cube_tree ls) (cube_reduced ls)

module _ (s : Setting) where
  block_below : (x : ℕ) (o : Option ℕ) → LevelsBelow (first_of s x + s.bits) (block_literals s x o)
  block_below x None = tt
  block_below x (Some c) = code_below (first_of s x) s.bits c

  block_ascends : (x : ℕ) (o : Option ℕ) → AscendFrom (first_of s x) (block_literals s x o)
  block_ascends x None = tt
  block_ascends x (Some c) = code_ascends (first_of s x) s.bits c

module _ (fr : Frame) (a : Atom) (q : Fact) where
  -- the literals of a fact are those of the blocks of its variables, in order
  pub fact_below : (n : ℕ) → LevelsBelow (n * fr.setting.bits) (fact_literals fr a q n)
  fact_below zero = tt
  fact_below (suc n) =
      let w = fr.setting.bits in
      let d : suc n * w ≡ n * w + w = omega arith in
      subst (λ (k : ℕ). LevelsBelow k (fact_literals fr a q (suc n))) (sym d)
      (below_append (n * w + w) (fact_literals fr a q n) (block_literals fr.setting n (given_code fr.books a q n))
      (below_weaken (n * w) (n * w + w) (fact_literals fr a q n) (omega arith) (fact_below n))
      (block_below fr.setting n (given_code fr.books a q n)))

  pub fact_ascends : (n : ℕ) → AscendFrom 0 (fact_literals fr a q n)
  fact_ascends zero = tt
  fact_ascends (suc n) =
      ascend_append 0 (n * fr.setting.bits) (fact_literals fr a q n)
      (block_literals fr.setting n (given_code fr.books a q n)) (omega arith)
      (fact_ascends n) (fact_below n) (block_ascends fr.setting n (given_code fr.books a q n))

  -- the code that the fact gives to x is spelled in the block of x
  abbrev pub Spells : List Bool → ℕ → Type 0
  Spells bits x = (t : Text) (c : ℕ) → given a.terms q.args x ≡ Some t → code_of (fr.books x) t ≡ Some c → code_at fr.setting bits x ≡ c

  module _ (low : (x : ℕ) (t : Text) (c : ℕ) → code_of (fr.books x) t ≡ Some c → c < 2 ^ fr.setting.bits) where
    block_holds : (bits : List Bool) (x : ℕ) →
        IsTrue (all_hold (block_literals fr.setting x (given_code fr.books a q x)) bits) ↔ Spells bits x
    block_holds bits x = by_given (given a.terms q.args x) refl
      where
        by_code : (u : Text) → given a.terms q.args x ≡ Some u → (o : Option ℕ) →
            code_of (fr.books x) u ≡ o →
            IsTrue (all_hold (block_literals fr.setting x o) bits) ↔ Spells bits x
        by_code u g None k = (
          λ h t c g' k'. let f : Some u ≡ Some t = sym g ∙ g' in let z : u ≡ t = cc in some_none (code_of (fr.books x) t) c k' (subst (λ v. code_of (fr.books x) v ≡ None) z k),
          λ h. refl,
        )
        by_code u g (Some d) k =
            let l = code_holds (first_of fr.setting x) fr.setting.bits d bits (low x u d k) in (
              λ h t c g' k'.
                  let f : Some u ≡ Some t = sym g ∙ g' in
                  let z : u ≡ t = cc in
                  let v : Some d ≡ Some c = sym (subst (λ w. code_of (fr.books x) w ≡ Some d) z k) ∙
                  k' in
                  let w : d ≡ c = cc in
                  l.0 h ∙ w,
              λ h. l.1 (h u d g k),
            )

        by_given : (o : Option Text) → given a.terms q.args x ≡ o →
            IsTrue (all_hold (block_literals fr.setting x (option_and_then (code_of (fr.books x)) o)) bits) ↔ Spells bits x
        by_given None g = (λ h t c g' k. some_none (given a.terms q.args x) t g' g, λ h. refl)
        by_given (Some u) g = by_code u g (code_of (fr.books x) u) refl

    fact_holds : (bits : List Bool) (n : ℕ) →
        IsTrue (all_hold (fact_literals fr a q n) bits) ↔ ((x : ℕ) → x < n → Spells bits x)
    fact_holds bits zero = (λ h x l. absurd (omega arith), λ h. refl)
    fact_holds bits (suc n) =
        subst (λ b. IsTrue b ↔ ((x : ℕ) → x < suc n → Spells bits x))
        (sym (all_hold-append (fact_literals fr a q n) (block_literals fr.setting n (given_code fr.books a q n)) bits))
        (joined (and_iff _ _ _ _ (fact_holds bits n) (block_holds bits n)) (
          λ (h, k) x l. by_place h k x l (cases_lt x n),
          λ h. (λ x l. h x (omega arith), h n (omega arith)),
        ))
      where
        by_place : ((x : ℕ) → x < n → Spells bits x) → Spells bits n → (x : ℕ) → x < suc n →
            (x < n) ⊎ (n ≤ x) → Spells bits x
        by_place h k x l (inl p) = h x p
        by_place h k x l (inr p) = let z : n ≡ x = omega arith in subst (Spells bits) z k

    -- the cube draws that the bits spell the codes of the fact
    pub draws_fact : ((x : ℕ) → fr.setting.variables ≤ x → fr.books x ≡ []) →
        Draws (λ bits. (x : ℕ) → Spells bits x) (cube_tree (fact_literals fr a q fr.setting.variables))
    draws_fact no_more = record {
      ordered =
          cube-ordered (fact_literals fr a q fr.setting.variables) 0
          (fact_ascends fr.setting.variables);
      reduced = cube_reduced (fact_literals fr a q fr.setting.variables);
      values =
          λ bits. subst (λ b. IsTrue b ↔ ((x : ℕ) → Spells bits x)) (sym (cube-value (fact_literals fr a q fr.setting.variables) bits))
          (joined (fact_holds bits fr.setting.variables) (λ h x. by_place bits h x (cases_lt x fr.setting.variables), λ h x l. h x));
    }
      where
        none : {A : Type 0} (book : Pairs) (t : Text) (c : ℕ) → book ≡ [] →
            code_of book t ≡ Some c → A
        none book t c z k = some_none (code_of book t) c k (ap (λ b. code_of b t) z)

        by_place : (bits : List Bool) → ((x : ℕ) → x < fr.setting.variables → Spells bits x) →
            (x : ℕ) → (x < fr.setting.variables) ⊎ (fr.setting.variables ≤ x) → Spells bits x
        by_place bits h x (inl p) = h x p
        by_place bits h x (inr p) = λ t c g k. none (fr.books x) t c (no_more x p) k
