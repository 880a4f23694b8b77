-- A sweep goes through the codes from 0 on.
use Rattle.std.proofs.Common.{◌≡◌, ℕ, ◌-◌, ◌^◌, ◌≤◌, cond, refl, ap, sym, ◌∙◌, arith, ⊎_elim}
use Rattle.std.specs.Prelude.{Bool, true, false, Option, Some, None}
use Rattle.std.proofs.lemmas.Bool.{cases_lt}
use Rattle.qtl_syntax.specs.Tree.{Text}
use Rattle.value_codes.specs.Pairs.{Pairs, code_of, value_of, IsPaired, Contents, IsBook}
use Rattle.value_codes.proofs.Lookups.{code_reads, reads_code}
use Rattle.code_reclaim.specs.Swept.{kept_code, Keeps, KeepsWithin}

-- a range after those below it
pub swept_on : (kept : ℕ → Bool) (from to : ℕ) (before between after : Pairs) → from ≤ to → KeepsWithin kept 0 from before between → KeepsWithin kept from to between after → KeepsWithin kept 0 to before after
swept_on kept from to before between after l one two = record {
  below = λ c m. absurd (omega (arith, m));
  within = λ c m n.
      ⊎_elim (λ x. two.below c x ∙ one.within c m x) (λ x. two.within c x n ∙ ap (λ o. cond (kept c) o None) (one.above c x)) (cases_lt c from);
  above = λ c m. two.above c m ∙ one.above c (omega (arith, l, m));
}

-- the texts follow the codes
codes_follow : (kept : ℕ → Bool) (before after : Pairs) → IsPaired before → IsPaired after → ((c : ℕ) → value_of after c ≡ cond (kept c) (value_of before c) None) → (t : Text) → code_of after t ≡ kept_code kept (code_of before t)
codes_follow kept before after p q v t = by_code (code_of before t) refl
  where
    -- a code that a text has afterwards stays, and was the text's
    was : (o : Option ℕ) → code_of after t ≡ o → (c : ℕ) → o ≡ Some c → (kept c ≡ true) × (code_of before t ≡ Some c)
    was o e c f = by_kept (kept c) refl (sym (v c) ∙ code_reads after t c q (e ∙ f))
      where
        by_kept : (b : Bool) → kept c ≡ b → cond (kept c) (value_of before c) None ≡ Some t → (kept c ≡ true) × (code_of before t ≡ Some c)
        by_kept true i g = (i, reads_code before t c p (sym (ap (λ b. cond b (value_of before c) None) i) ∙ g))
        by_kept false i g = let h : None ≡ Some t = sym (ap (λ b. cond b (value_of before c) None) i) ∙ g in cc

    none : ((c : ℕ) → kept c ≡ true → code_of before t ≡ Some c → ⊥) → (o : Option ℕ) → code_of after t ≡ o → o ≡ None
    none n None e = refl
    none n (Some c) e = (let w = was (Some c) e c refl in absurd (n c w.0 w.1))

    by_code : (o : Option ℕ) → code_of before t ≡ o → code_of after t ≡ kept_code kept o
    by_code None e = none (λ c k f. (let g : None ≡ Some c = sym e ∙ f in cc)) (code_of after t) refl
    by_code (Some c) e = by_kept (kept c) refl
      where
        by_kept : (b : Bool) → kept c ≡ b → code_of after t ≡ cond (kept c) (Some c) None
        by_kept true i = reads_code after t c q (v c ∙ ap (λ b. cond b (value_of before c) None) i ∙ code_reads before t c p e) ∙ ap (λ b. cond b (Some c) None) (sym i)
        by_kept false i =
            none (λ d k f. (let g : Some c ≡ Some d = sym e ∙ f in let h : c ≡ d = cc in let j : false ≡ true = sym i ∙ ap kept h ∙ k in cc)) (code_of after t) refl
            ∙ ap (λ b. cond b (Some c) None) (sym i)

pub swept : (kept : ℕ → Bool) (n : ℕ) (before after : Contents) → IsBook before → IsBook after → n ≡ 2 ^ before.bits - 1 → KeepsWithin kept 0 n before.pairs after.pairs → Keeps kept before.pairs after.pairs
swept kept n before after p q e k = record { values = values; codes = codes_follow kept before.pairs after.pairs p.paired q.paired values }
  where
    free : (c : ℕ) → n ≤ c → (o : Option Text) → value_of before.pairs c ≡ o → o ≡ None
    free c l None f = refl
    free c l (Some t) f = (let m = p.below c (λ g. (let h : Some t ≡ None = sym f ∙ g in cc)) in absurd (omega (arith, l, m, e)))

    both : (b : Bool) (o : Option Text) → o ≡ None → o ≡ cond b o None
    both true o f = refl
    both false o f = f

    values : (c : ℕ) → value_of after.pairs c ≡ cond (kept c) (value_of before.pairs c) None
    values c = ⊎_elim (λ l. k.within c (omega arith) l) (λ l. k.above c l ∙ both (kept c) (value_of before.pairs c) (free c l (value_of before.pairs c) refl)) (cases_lt c n)
