-- What is remembered of a timed subformula of a log is an age tree with bounded ages.
use Rattle.std.proofs.Common.{◌≡◌, ℕ, ◌+◌, ◌-◌, ◌^◌, ◌<◌, ◌≤◌, refl, sym, ap, subst, arith, ◌↔◌, List, Bool, Some, None, length}
use Rattle.std.specs.Prelude.{IsTrue, IsSomeAnd, slice_get}
use Rattle.qtl_syntax.specs.declared.formula.Bound.{Bound}
use Rattle.qtl_syntax.specs.declared.formula.Bound.TheVariants.{AtMost, MoreThan}
use Rattle.qtl_syntax.specs.Tree.{Text}
use Rattle.qtl_truth.specs.declared.event.Event.{Event}
use Rattle.qtl_truth.specs.Truth.{Claim}
use Rattle.node_tree.specs.Tree.{Tree}
use Rattle.wellformed.specs.CoreTree.{CoreFormula, True, Not}
use Rattle.subformulas.specs.Assigned.{Texts, Truth}
use Rattle.subformulas.specs.Memory.{IsAge, Memo, is_temporal, memo_at}
use Rattle.subformulas.specs.Pinned.{fresh}
use Rattle.subformulas.specs.Table.{HasLawfulBound}
use Rattle.subformulas.specs.TimeBits.{past_bound}
use Rattle.subformulas.specs.Unfolded.{formula_at, formula_with}
use Rattle.subformulas.specs.declared.table.Kind.{Kind}
use Rattle.subformulas.specs.declared.table.Kind.TheVariants as kind
use Rattle.subformulas.specs.declared.table.Sub.{Sub}
use Rattle.subformulas.proofs.Agree.{same}
use Rattle.subformulas.proofs.Below.{memo_below, each_atom_below, SameBelow}
use Rattle.subformulas.proofs.Digits.{ages_fit}
use Rattle.subformulas.proofs.ByNumber.{all_at}
use Rattle.subformulas.proofs.Unfold.{unfolds, temporal_at}
use Rattle.timed_bits.specs.Ages.{SameBefore, HasAgesTo}
use Rattle.value_codes.specs.Pairs.{Pairs}
use Rattle.value_codes.proofs.Lookups.{some_none}
use Rattle.monitor_model.specs.Books.{reads}
use Rattle.monitor_model.specs.Drawn.{readings}
use Rattle.monitor_model.specs.Setting.{Setting, first_of, time_first, time_width}
use Rattle.monitor_model.specs.Shape.{oldest}
use Rattle.monitor_model.specs.Stands.{IsPlan, IsRemembered}
use Rattle.monitor_model.proofs.Spelling.Bits.{spelled_same, block_end}
use Rattle.monitor_model.proofs.Timed.Drawn.{age_of, is_age_of, has_ages, if_some}

-- the greatest age under a bound
abbrev pub most_of : Bound → ℕ
most_of (AtMost n) = n
most_of (MoreThan n) = n + 1

-- each remembered age is at most that
pub age_small : (b : Bound) (log : List Event) (f g : Claim) (i a : ℕ) → IsAge b log f g i a → a ≤ most_of b
age_small (AtMost n) log f g i a h = h.0
age_small (MoreThan n) log f g i a ((j, k, l, (s, e)), each) = omega arith

-- and there is at most one
pub age_one : (b : Bound) (log : List Event) (f g : Claim) (i a c : ℕ) → IsAge b log f g i a → IsAge b log f g i c → a ≡ c
age_one (AtMost n) log f g i a c (x, (j, p, q, (s, e)), each) (y, (k, u, v, (t, d)), all) = let v = each k u v t in let w = all j p q s in omega arith
age_one (MoreThan n) log f g i a c ((j, p, q, (s, e)), each) ((k, u, v, (t, d)), all) = let v = each k u v t in let w = all j p q s in omega arith

-- at most one number, none past the bound, which the time block holds
record IsBounded (k : Kind) (most : ℕ) (M : ℕ → Type 0) : Type 0 where
  small : (a : ℕ) → M a → a ≤ most
  one : (a c : ℕ) → M a → M c → a ≡ c
  within : most ≤ past_bound k
  lawful : HasLawfulBound k → past_bound k < 2 ^ 20
  temporal : IsTrue (is_temporal k)

bounded : (k : Kind) (b : Bound) (log : List Event) (f g : Claim) (i : ℕ) → most_of b ≤ past_bound k → (HasLawfulBound k → past_bound k < 2 ^ 20) → IsTrue (is_temporal k) →
    (most : ℕ) → Some (most_of b) ≡ Some most → IsBounded k most (IsAge b log f g i)
bounded k b log f g i w l t most e =
    let d : most_of b ≡ most = cc in
    subst (λ (n : ℕ). IsBounded k n (IsAge b log f g i)) d
    (record { small = age_small b log f g i; one = age_one b log f g i; within = w; lawful = l; temporal = t })

kind_bounded : (k : Kind) (F G : CoreFormula) (most : ℕ) → oldest k ≡ Some most → (log : List Event) (nu : Texts) (i : ℕ) → IsBounded k most (Memo log (formula_with k F G) nu i)
kind_bounded (kind.SinceAtMost n) F G most e log nu i = bounded (kind.SinceAtMost n) (AtMost n) log (Truth log F nu) (Truth log G nu) i (omega arith) (λ h. omega arith) refl most e
kind_bounded (kind.OnceAtMost n) F G most e log nu i = bounded (kind.OnceAtMost n) (AtMost n) log (Truth log True nu) (Truth log F nu) i (omega arith) (λ h. omega arith) refl most e
kind_bounded (kind.AlwaysAtMost n) F G most e log nu i = bounded (kind.AlwaysAtMost n) (AtMost n) log (Truth log True nu) (Truth log (Not F) nu) i (omega arith) (λ h. omega arith) refl most e
kind_bounded (kind.SinceMoreThan n) F G most e log nu i = bounded (kind.SinceMoreThan n) (MoreThan n) log (Truth log F nu) (Truth log G nu) i (omega arith) (λ h. omega arith) refl most e
kind_bounded (kind.OnceMoreThan n) F G most e log nu i = bounded (kind.OnceMoreThan n) (MoreThan n) log (Truth log True nu) (Truth log F nu) i (omega arith) (λ h. omega arith) refl most e
kind_bounded (kind.AlwaysMoreThan n) F G most e log nu i = bounded (kind.AlwaysMoreThan n) (MoreThan n) log (Truth log True nu) (Truth log (Not F) nu) i (omega arith) (λ h. omega arith) refl most e
kind_bounded _ F G most e log nu i = let no : ⊥ = cc in absurd no

-- of the kinds without a bound the number says nothing
kind_numberless : (k : Kind) (F G : CoreFormula) → oldest k ≡ None → IsTrue (is_temporal k) →
    (log : List Event) (nu : Texts) (i a c : ℕ) →
    Memo log (formula_with k F G) nu i a ↔ Memo log (formula_with k F G) nu i c
kind_numberless kind.Prev F G e t log nu i a c = same
kind_numberless kind.Since F G e t log nu i a c = same
kind_numberless kind.Once F G e t log nu i a c = same
kind_numberless kind.Always F G e t log nu i a c = same
kind_numberless kind.Interval F G e t log nu i a c = same
kind_numberless (kind.SinceAtMost n) F G e t log nu i a c = some_none (Some n) n refl e
kind_numberless (kind.OnceAtMost n) F G e t log nu i a c = some_none (Some n) n refl e
kind_numberless (kind.AlwaysAtMost n) F G e t log nu i a c = some_none (Some n) n refl e
kind_numberless (kind.SinceMoreThan n) F G e t log nu i a c = some_none (Some (n + 1)) (n + 1) refl e
kind_numberless (kind.OnceMoreThan n) F G e t log nu i a c = some_none (Some (n + 1)) (n + 1) refl e
kind_numberless (kind.AlwaysMoreThan n) F G e t log nu i a c =
    some_none (Some (n + 1)) (n + 1) refl e
kind_numberless _ F G e t log nu i a c = absurd (cc)

-- what is remembered of a subformula without a bound is the same with each number
pub numberless : (s : Setting) → IsPlan s → (log : List Event) (k : ℕ) (u : Sub) → 1 ≤ k →
    slice_get s.subs (k - 1) ≡ Some u → oldest u.kind ≡ None → IsTrue (is_temporal u.kind) →
    (nu : Texts) (i a c : ℕ) → memo_at s.subs k log nu i a ↔ memo_at s.subs k log nu i c
numberless s plan log k u from at timeless temporal nu i a c =
    subst (λ (F : CoreFormula). Memo log F nu i a ↔ Memo log F nu i c)
    (sym (unfolds s.subs k u plan.table from at))
    (kind_numberless u.kind (formula_at s.subs u.left) (formula_at s.subs u.right) timeless temporal
    log nu i a c)

-- what is remembered of a timed subformula, if anything, is a number that the time block holds
pub age_fits : (s : Setting) → IsPlan s → (log : List Event) (k : ℕ) (u : Sub) (most : ℕ) →
    1 ≤ k → slice_get s.subs (k - 1) ≡ Some u → oldest u.kind ≡ Some most →
    (nu : Texts) (i a : ℕ) → memo_at s.subs k log nu i a → a < 2 ^ time_width s
age_fits s plan log k u most from at timed nu i a m =
    let b = subst (λ (F : CoreFormula). IsBounded u.kind most (Memo log F nu i))
    (sym (unfolds s.subs k u plan.table from at))
    (kind_bounded u.kind (formula_at s.subs u.left) (formula_at s.subs u.right) most timed log
    nu i) in
    let l = b.small a m in
    let w = b.within in
    let f = ages_fit s.subs (k - 1) u at
    (b.lawful (all_at (λ z. HasLawfulBound z.kind) s.subs (k - 1) u plan.bounds at)) in
    omega arith

-- a variable's block stands before the time block
block_before : (s : Setting) (x l : ℕ) → x < s.variables → l < first_of s x + s.bits → l < time_first s
block_before s x l p q = let e = block_end s x p in omega arith

-- bits that are the same before the time block read as the same texts
pub readings_same : (s : Setting) (books : ℕ → Pairs) (other : Text) (p q : List Bool) → SameBefore (time_first s) p q → SameBelow s.variables (readings s books other p) (readings s books other q)
readings_same s books other p q h x l =
    ap (λ (c : ℕ). reads (books x) other c) (sym (spelled_same p q (first_of s x) s.bits (λ k a b. sym (h k (block_before s x k l b)))))

module _ (s : Setting) (plan : IsPlan s) (log : List Event) (i : ℕ) (books : ℕ → Pairs) (k : ℕ) (u : Sub) (most : ℕ)
    (from : 1 ≤ k) (to : k ≤ length s.subs) (at : slice_get s.subs (k - 1) ≡ Some u) (timed : oldest u.kind ≡ Some most) where
  -- what is remembered where the bits spell the texts
  abbrev pub Claimed : List Bool → ℕ → Type 0
  Claimed p a = memo_at s.subs k log (readings s books (fresh s.subs log i) p) i a

  claim_bounded : (p : List Bool) → IsBounded u.kind most (Claimed p)
  claim_bounded p =
      subst (λ (F : CoreFormula). IsBounded u.kind most (Memo log F (readings s books (fresh s.subs log i) p) i)) (sym (unfolds s.subs k u plan.table from at))
      (kind_bounded u.kind (formula_at s.subs u.left) (formula_at s.subs u.right) most timed log (readings s books (fresh s.subs log i) p) i)

  claim_same : (p q : List Bool) (a : ℕ) → SameBefore (time_first s) p q → Claimed p a → Claimed q a
  claim_same p q a h =
      (memo_below log s.variables (formula_at s.subs k) (each_atom_below s.variables s.subs plan.table plan.uses k from to)
      (temporal_at s.subs k plan.table (from, subst (λ o. IsSomeAnd o (λ z. IsTrue (is_temporal z.kind))) (sym at) (claim_bounded p).temporal))
      (readings s books (fresh s.subs log i) p) (readings s books (fresh s.subs log i) q) (readings_same s books (fresh s.subs log i) p q h) i a).0

  claim_small : (p : List Bool) (a : ℕ) → Claimed p a → a < 2 ^ time_width s
  claim_small p a m =
      age_fits s plan log k u most from at timed (readings s books (fresh s.subs log i) p) i a m

  claim_one : (p : List Bool) (a c : ℕ) → Claimed p a → Claimed p c → a ≡ c
  claim_one p = (claim_bounded p).one

  -- the remembered tree of a timed subformula is an age tree with bounded ages
  pub remembered_ages : (t : Tree) → IsRemembered s log i books k t → HasAgesTo (time_first s) (time_width s) most t
  remembered_ages t d =
      let drawn = d.values in (
        age_of (time_first s) (time_width s) t Claimed drawn claim_same claim_small claim_one,
        has_ages (time_first s) (time_width s) t Claimed drawn claim_same claim_small claim_one d.ordered d.reduced,
        λ p. if_some (age_of (time_first s) (time_width s) t Claimed drawn claim_same claim_small claim_one p) (λ a. a ≤ most)
            (λ a e. (claim_bounded p).small a ((is_age_of (time_first s) (time_width s) t Claimed drawn claim_same claim_small claim_one p a).0 e)),
      )
