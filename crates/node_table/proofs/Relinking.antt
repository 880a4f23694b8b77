-- Nodes come into their buckets again, from the first one up.
use Rattle.std.proofs.Common.{◌≡◌, ◌≢◌, ℕ, ◌+◌, ◌<◌, ◌≤◌, List, length, set, refl, ap, sym, ◌∙◌, arith, subst, ⊎_elim}
use Rattle.std.specs.Prelude.{true, false, cond, ◌==◌, nat_lt, Option, Some, None}
use Rattle.std.proofs.Math.Path.{fun_ext}
use Rattle.std.proofs.lemmas.Bool.{cases_eq, cases_lt}
use Rattle.std.proofs.lemmas.Bool.Decides.{Decides-eqb, nat_tests}
use Rattle.node_table.specs.declared.node.Node.{Node}
use Rattle.node_table.specs.Hash.{bucket_of}
use Rattle.node_table.specs.Chains.{head_in, IsChained}
use Rattle.node_table.proofs.Chaining.{chained_head}

-- the nodes below a number
abbrev pub below : ℕ → (ℕ → Option Node) → ℕ → Option Node
below at f h = cond (nat_lt h at) (f h) None

-- the nodes below a number are in their buckets
pub record Relinks (f : ℕ → Option Node) (chain : ℕ → ℕ) (g : ℕ → Option Node) (next : ℕ → ℕ) (heads : List ℕ) (at : ℕ) : Type 0 where
  pub nodes : (h : ℕ) → g h ≡ f h
  pub frees : (h : ℕ) → f h ≡ None → next h ≡ chain h
  pub chained : IsChained (below at g) next heads at

yes_lt : (a b : ℕ) → a < b → nat_lt a b ≡ true
yes_lt a b l = grind (arith, nat_tests)

no_lt : (a b : ℕ) → b ≤ a → nat_lt a b ≡ false
no_lt a b l = grind (arith, nat_tests)

is_below : (f : ℕ → Option Node) (at h : ℕ) → h < at → below at f h ≡ f h
is_below f at h l = ap (λ b. cond b (f h) None) (yes_lt h at l)

not_below : (f : ℕ → Option Node) (at h : ℕ) → at ≤ h → below at f h ≡ None
not_below f at h l = ap (λ b. cond b (f h) None) (no_lt h at l)

within : (f : ℕ → Option Node) (at h : ℕ) (s : Node) → below at f h ≡ Some s → h < at
within f at h s e = ⊎_elim (λ (q : h < at). q) (λ (q : at ≤ h). (let x = not_below f at h q in absurd (none_some s (sym x ∙ e)))) (cases_lt h at)
  where
    none_some : (s : Node) → None ≡ Some s → ⊥
    none_some s e = cc

pub relinks_none : (f : ℕ → Option Node) (chain : ℕ → ℕ) (heads : List ℕ) → f 0 ≡ None → f 1 ≡ None → ((b : ℕ) → head_in heads b ≡ 0) → Relinks f chain f chain heads 2
relinks_none f chain heads z o empty = record {
  nodes = λ h. refl;
  frees = λ h e. refl;
  chained = record {
    head = λ b l. record { below = omega (arith, empty b); real = λ q. absurd (q (empty b)); greatest = λ k s e. absurd (none k s e) };
    link = λ h s e. absurd (none h s e);
  };
}
  where
    none : (h : ℕ) (s : Node) → below 2 f h ≡ Some s → ⊥
    none h s e =
        let l = within f 2 h s e in
        let x : f h ≡ Some s = sym (is_below f 2 h l) ∙ e in
        ⊎_elim (λ (q : h ≡ 0). (let y = ap f q in cc)) (λ (q : h ≢ 0). (let i : h ≡ 1 = omega (arith, l, q) in let y = ap f i in cc)) (cases_eq h 0)

module _ (f : ℕ → Option Node) (chain : ℕ → ℕ) (g : ℕ → Option Node) (next : ℕ → ℕ) (heads : List ℕ) (at : ℕ) (x : Relinks f chain g next heads at) (two : 2 ≤ at) where
  pub relinks_free : g at ≡ None → Relinks f chain g next heads (at + 1)
  relinks_free free =
      let same : below (at + 1) g ≡ below at g = fun_ext (λ h. ⊎_elim
      (λ (q : h ≡ at). subst (λ z. below (at + 1) g z ≡ below at g z) (sym q) (is_below g (at + 1) at (omega arith) ∙ free ∙ sym (not_below g at at (omega arith))))
      (λ (q : h ≢ at). ap (λ b. cond b (g h) None) (other h at q)) (cases_eq h at)) in
      record {
        nodes = x.nodes;
        frees = x.frees;
        chained = subst (λ k. IsChained k next heads (at + 1)) (sym same) (record {
          head = λ b l. (let n = x.chained.head b l in record { below = omega (arith, n.below); real = n.real; greatest = λ k s e i m. n.greatest k s e i (within g at k s e) });
          link = x.chained.link;
        });
      }
    where
      other : (h at : ℕ) → h ≢ at → nat_lt h (at + 1) ≡ nat_lt h at
      other h at a = grind (arith, nat_tests)

  pub relinks_node : (k : ℕ → Option Node) (after : ℕ → ℕ) (n : Node) (bucket : ℕ) → g at ≡ Some n → bucket ≡ bucket_of (length heads) n → bucket < length heads → ((h : ℕ) → k h ≡ g h) → after at ≡ head_in heads bucket → ((h : ℕ) → h ≢ at → after h ≡ next h) → Relinks f chain k after (set heads bucket at) (at + 1)
  relinks_node k after n bucket node belongs fits same own others = record {
    nodes = λ h. same h ∙ x.nodes h;
    frees = λ h e. others h (λ i. none_some n (sym e ∙ sym (x.nodes h) ∙ ap g i ∙ node)) ∙ x.frees h e;
    chained = chained_head (below at g) next heads at x.chained (within g at) (below (at + 1) k) after at bucket n (not_below g at at (omega arith)) two
        (λ h. ⊎_elim
        (λ (q : h ≡ at). is_below k (at + 1) h (omega (arith, q)) ∙ same h ∙ ap g q ∙ node ∙ sym (ap (λ b. cond b (Some n) (below at g h)) ((Decides-eqb h at).1 q)))
        (λ (q : h ≢ at). ap (λ b. cond b (k h) None) (other h at q) ∙ ap (λ o. cond (nat_lt h at) o None) (same h) ∙ sym (ap (λ b. cond b (Some n) (below at g h)) (unequal h at q)))
        (cases_eq h at))
        belongs fits (set heads bucket at) (at + 1) refl (x.chained.head bucket fits).below (omega arith) (omega arith) own others;
  }
    where
      none_some : (s : Node) → None ≡ Some s → ⊥
      none_some s e = cc

      other : (h at : ℕ) → h ≢ at → nat_lt h (at + 1) ≡ nat_lt h at
      other h at a = grind (arith, nat_tests)

      unequal : (a b : ℕ) → a ≢ b → (a == b) ≡ false
      unequal a b e = grind (arith, nat_tests)

-- with all nodes in their buckets
pub chained_at_end : (f : ℕ → Option Node) (chain : ℕ → ℕ) (g : ℕ → Option Node) (next : ℕ → ℕ) (heads : List ℕ) (at : ℕ) → Relinks f chain g next heads at → ((h : ℕ) → at ≤ h → g h ≡ None) → IsChained g next heads at
chained_at_end f chain g next heads at x past =
    let same : below at g ≡ g = fun_ext (λ h. ⊎_elim (λ (q : h < at). is_below g at h q) (λ (q : at ≤ h). not_below g at h q ∙ sym (past h q)) (cases_lt h at)) in
    subst (λ k. IsChained k next heads at) same x.chained
