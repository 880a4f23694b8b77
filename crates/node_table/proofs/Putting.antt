-- One node more.
use Rattle.std.proofs.Common.{◌≡◌, ℕ, zero, suc, ◌<◌, ◌≤◌, refl, ap, sym, ◌∙◌, arith, subst, inl, inr}
use Rattle.std.specs.Prelude.{true, false, cond, ◌==◌, Option, Some, None, ◌≢◌, ◌⊎◌}
use Rattle.std.specs.Option.{is_some}
use Rattle.std.proofs.Common.{⊎_elim}
use Rattle.std.proofs.lemmas.Bool.Decides.{Decides-eqb}
use Rattle.node_table.specs.declared.node.Node.{Node}
use Rattle.node_table.specs.Unfold.{is_valid, level_of, level_at, IsWell}
use Rattle.node_table.proofs.Unfolds.{valid-grown}

module _ (f g : ℕ → Option Node) (w : IsWell f) (number : ℕ) (slot : Node) (free : f number ≡ None) (two : 2 ≤ number) (put : (h : ℕ) → g h ≡ cond (h == number) (Some slot) (f h)) where
  pub put_more : (h : ℕ) (s : Node) → f h ≡ Some s → g h ≡ Some s
  put_more h s e = put h ∙ elim (h == number) as (λ b. (h == number) ≡ b → cond b (Some slot) (f h) ≡ Some s) [
    | true ↦ λ i. let n : h ≡ number = (Decides-eqb h number).0 i in let m : f h ≡ f number = ap f n in cc
    | false ↦ λ i. e
  ] refl

  pub put_here : g number ≡ Some slot
  put_here = put number ∙ ap (λ b. cond b (Some slot) (f number)) ((Decides-eqb number number).1 refl)

  pub put_cases : (h : ℕ) (s : Node) → g h ≡ Some s → ((h ≡ number) × (s ≡ slot)) ⊎ (f h ≡ Some s)
  put_cases h s e =
      elim (h == number) as (λ b. (h == number) ≡ b → cond b (Some slot) (f h) ≡ Some s → ((h ≡ number) × (s ≡ slot)) ⊎ (f h ≡ Some s))
      [ true ↦ λ i e. inl ((Decides-eqb h number).0 i, (let r : s ≡ slot = cc in r)) | false ↦ λ i e. inr e ] refl (sym (put h) ∙ e)

  put_level : (h : ℕ) → is_valid f h ≡ true → level_at g h ≡ level_at f h
  put_level zero v = refl
  put_level (suc zero) v = refl
  put_level (suc (suc k)) v =
      elim (f (suc (suc k))) as (λ o. f (suc (suc k)) ≡ o → is_some o ≡ true → level_of (g (suc (suc k))) ≡ level_of o)
      [ None ↦ λ e v. cc | Some s ↦ λ e v. ap level_of (put_more (suc (suc k)) s e) ] refl v

  module _ (low : (is_valid f slot.low ≡ true) × (slot.level < level_at f slot.low)) (high : (is_valid f slot.high ≡ true) × (slot.level < level_at f slot.high)) (apart : slot.low ≢ slot.high) (level : slot.level < 65536) (absent : (h : ℕ) → f h ≡ Some slot → ⊥) where
    child : (s : Node) (h : ℕ) → (is_valid f h ≡ true) × (s.level < level_at f h) → (is_valid g h ≡ true) × (s.level < level_at g h)
    child s h c = (valid-grown f g put_more h c.0, subst (λ l. s.level < l) (sym (put_level h c.0)) c.1)

    pub put_well : IsWell g
    put_well = record {
      no_zero = put 0 ∙ elim (0 == number) as (λ b. (0 == number) ≡ b → cond b (Some slot) (f 0) ≡ None) [ true ↦ λ i. absurd (omega (arith, (Decides-eqb 0 number).0 i)) | false ↦ λ i. w.no_zero ] refl;
      no_one = put 1 ∙ elim (1 == number) as (λ b. (1 == number) ≡ b → cond b (Some slot) (f 1) ≡ None) [ true ↦ λ i. absurd (omega (arith, (Decides-eqb 1 number).0 i)) | false ↦ λ i. w.no_one ] refl;
      low = λ h s e. child s s.low (⊎_elim (λ c. subst (λ (t : Node). (is_valid f t.low ≡ true) × (t.level < level_at f t.low)) (sym c.1) low) (λ c. w.low h s c) (put_cases h s e));
      high = λ h s e. child s s.high (⊎_elim (λ c. subst (λ (t : Node). (is_valid f t.high ≡ true) × (t.level < level_at f t.high)) (sym c.1) high) (λ c. w.high h s c) (put_cases h s e));
      apart = λ h s e. ⊎_elim (λ c. subst (λ (t : Node). t.low ≢ t.high) (sym c.1) apart) (λ c. w.apart h s c) (put_cases h s e);
      level = λ h s e. ⊎_elim (λ c. subst (λ (t : Node). t.level < 65536) (sym c.1) level) (λ c. w.level h s c) (put_cases h s e);
      single = λ h k s p q. ⊎_elim
          (λ c. ⊎_elim (λ d. c.0 ∙ sym d.0) (λ d. absurd (absent k (d ∙ ap (λ z. Some z) c.1))) (put_cases k s q))
          (λ c. ⊎_elim (λ d. absurd (absent h (c ∙ ap (λ z. Some z) d.1))) (λ d. w.single h k s c d) (put_cases k s q))
          (put_cases h s p);
    }
