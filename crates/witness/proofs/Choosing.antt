-- What is shown for a variable, and the tree that is left.
use Rattle.std.proofs.Common.{◌≡◌, ℕ, zero, suc, ◌+◌, ◌-◌, ◌*◌, ◌^◌, ◌<◌, ◌≤◌, refl, sym, ◌∙◌, ap, subst, arith, List, [], ◌∷◌, map, Bool, true, Option, Some, None}
use Rattle.std.specs.Prelude.{if◌then◌else◌, slice_get, slice_index_or, unwrap_or}
use Rattle.std.proofs.lemmas.Nat.{pow_pos}
use Rattle.qtl_syntax.specs.Tree.{Text}
use Rattle.node_tree.specs.Tree.{Tree}
use Rattle.value_codes.specs.Pairs.{Contents, Pairs, IsBook, code_of}
use Rattle.value_codes.specs.Pairs as pairs
use Rattle.value_codes.proofs.Lookups.{code_reads}
use Rattle.subformulas.proofs.ByNumber.{all_at}
use Rattle.monitor_model.specs.State.{State, IsLive, IsMonitor, is_one, pairs_in}
use Rattle.monitor_model.specs.Setting.{first_of}
use Rattle.monitor_model.specs.State.{setting_of}
use Rattle.report.specs.declared.shown.Value.{Value}
use Rattle.report.specs.declared.shown.Value.TheVariants.{Any}
use Rattle.witness.specs.Finding.{code_for, left_over, ones, value_of, value_over, with_code_of}
use Rattle.witness.specs.Least.{least_failing}

value_by : (b : Bool) (o o' : Option Text) → b ≡ true → o' ≡ o → value_of o' ≡ (if b then value_of o else Any)
value_by b o o' e d = rw (e, d) refl

module _ (m : State) (x : ℕ) (tree : Tree) where
  -- all ones leave a tree that is true
  pub value_is : (o : Option Text) → is_one (with_code_of m x (ones m) tree) ≡ true →
      o ≡ least_failing (first_of (setting_of m) x) m.bits tree (pairs_in m x) → value_of o ≡ value_over m x tree
  value_is o e d = value_by _ _ o e d

  pub left_is : (v : Value) (r : Tree) → v ≡ value_over m x tree → r ≡ with_code_of m x (code_for (ones m) (pairs_in m x) v) tree → r ≡ left_over m x tree
  left_is v r e d = d ∙ ap (λ w. with_code_of m x (code_for (ones m) (pairs_in m x) w) tree) e

pairs_at : (bs : List Contents) (x : ℕ) (b : Contents) → slice_get bs x ≡ Some b → slice_index_or (map (λ (c : Contents). c.pairs) bs) x [] ≡ b.pairs
pairs_at [] x b e = absurd (let no : ⊥ = cc in no)
pairs_at (c ∷ bs) zero b e = let same : c ≡ b = cc in ap (λ (d : Contents). d.pairs) same
pairs_at (c ∷ bs) (suc x) b e = pairs_at bs x b e

-- the pairs of a variable are those of its book
pub book_pairs : (m : State) (x : ℕ) (b : Contents) → slice_get m.books x ≡ Some b → pairs_in m x ≡ b.pairs
book_pairs m x b = pairs_at m.books x b

-- a code of a book has so many bits
code_below : (b : Contents) (o : Option ℕ) (t : Text) (n : ℕ) → IsBook b → o ≡ code_of b.pairs t → n < 2 ^ b.bits → unwrap_or o n < 2 ^ b.bits
code_below b None t n book e l = l
code_below b (Some c) t n book e l =
    let given : pairs.value_of b.pairs c ≡ Some t = code_reads b.pairs t c book.paired (sym e) in
    let less = book.below c (λ none. let no : Some t ≡ None = sym given ∙ none in absurd (let impossible : ⊥ = cc in impossible)) in
    omega (arith, less)

pub code_fits : (m : State) (x : ℕ) (b : Contents) (o : Option ℕ) (t : Text) (n bits : ℕ) → IsMonitor m → IsLive m → slice_get m.books x ≡ Some b → bits ≡ m.bits →
    o ≡ code_of b.pairs t → n ≡ 2 ^ bits - 1 → unwrap_or o n < 2 ^ bits
code_fits m x b o t n bits monitor live at same e is =
    let width : b.bits ≡ m.bits = all_at (λ (c : Contents). c.bits ≡ m.bits) m.books x b monitor.book_bits at in
    let some = pow_pos bits in
    let own : 2 ^ bits ≡ 2 ^ b.bits = ap (λ (k : ℕ). 2 ^ k) (same ∙ sym width) in
    subst (λ (k : ℕ). unwrap_or o n < k) (sym own) (code_below b o t n (all_at IsBook m.books x b live.books at) e (omega (arith, own, some, is)))

-- two walks and a search within their bound
pub turn_cost : (bits first second third fourth : ℕ) → 1 ≤ bits → second ≤ first + bits → third + 2 ≤ second + 2 * 2 ^ bits → fourth ≤ third + bits →
    fourth ≤ first + (bits + 1) * 2 ^ bits
turn_cost zero first second third fourth some a b c = absurd (omega (arith, some))
turn_cost (suc n) first second third fourth some a b c =
    let pos = pow_pos n in
    by_power (2 ^ n) (2 ^ suc n) (omega arith) pos b
  where
    by_power : (half power : ℕ) → power ≡ half + half → 1 ≤ half → third + 2 ≤ second + 2 * power → fourth ≤ first + (suc n + 1) * power
    by_power zero power e p d = absurd (omega (arith, p))
    by_power (suc h) power e p d =
        let whole : (suc n + 1) * power ≡ n * (h + h) + n * 2 + 2 * power = products (suc n + 1) n h power e in
        omega (arith, a, c, d, whole, e)
      where
        products : (k n h power : ℕ) → power ≡ suc h + suc h → (suc n + 1) * power ≡ n * (h + h) + n * 2 + 2 * power
        products k n h power e = rw e (omega arith)
