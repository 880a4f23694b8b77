-- Chains: what a walk keeps, and what one number more changes.
use Rattle.std.proofs.Common.{◌≡◌, ◌≢◌, ℕ, ◌+◌, ◌<◌, ◌≤◌, List, length, set, refl, ap, sym, ◌∙◌, arith, subst, ⊎_elim, inl, inr, get_or-set_other, get_or-set_same, length-set}
use Rattle.std.specs.Prelude.{true, false, cond, ◌==◌, ◌⊎◌, Option, Some, None}
use Rattle.std.proofs.lemmas.Bool.{cases_eq, cases_lt}
use Rattle.std.proofs.lemmas.Bool.Decides.{Decides-eqb}
use Rattle.node_table.specs.declared.node.Node.{Node}
use Rattle.node_table.specs.Hash.{bucket_of}
use Rattle.node_table.specs.Chains.{IsNextNode, head_in, IsChained, IsNextFree, IsFree, IsPlace}

-- a search at a number: it belongs to the bucket, and the node has no greater one
pub record Seeks (f : ℕ → Option Node) (buckets bucket : ℕ) (node : Node) (at : ℕ) : Type 0 where
  pub real : at ≢ 0 → (s : Node) × (f at ≡ Some s) × (bucket_of buckets s ≡ bucket)
  pub left : (k : ℕ) → f k ≡ Some node → k ≤ at

-- a walk at a number of the bucket, above another number
pub record Passes (f : ℕ → Option Node) (buckets bucket number at : ℕ) : Type 0 where
  pub above : number < at
  pub real : (s : Node) × (f at ≡ Some s) × (bucket_of buckets s ≡ bucket)

module _ (f : ℕ → Option Node) (chain : ℕ → ℕ) (heads : List ℕ) (limit : ℕ) (c : IsChained f chain heads limit) (inside : (k : ℕ) (s : Node) → f k ≡ Some s → k < limit) where
  pub seek_first : (bucket : ℕ) (node : Node) → bucket < length heads → bucket ≡ bucket_of (length heads) node → Seeks f (length heads) bucket node (head_in heads bucket)
  seek_first bucket node l e = let n = c.head bucket l in record { real = n.real; left = λ k p. n.greatest k node p (sym e) (inside k node p) }

  pub seek_next : (bucket : ℕ) (node : Node) (at : ℕ) (s : Node) → bucket ≡ bucket_of (length heads) node → f at ≡ Some s → s ≢ node → Seeks f (length heads) bucket node at → at ≢ 0 → Seeks f (length heads) bucket node (chain at)
  seek_next bucket node at s e p apart k some =
      let r = k.real some in
      let n = c.link at r.0 r.1 in
      record {
        real = λ q. (let x = n.real q in (x.0, x.1, x.2 ∙ r.2));
        left = λ j q.
            (let le = k.left j q in
            let other : j ≢ at = λ i. apart (some_same s node (sym p ∙ ap f (sym i) ∙ q)) in
            n.greatest j node q (sym e ∙ sym r.2) (omega (arith, le, other)));
      }
    where
      some_same : (s t : Node) → Some s ≡ Some t → s ≡ t
      some_same s t e = cc

  pub seek_end : (bucket : ℕ) (node : Node) → f 0 ≡ None → Seeks f (length heads) bucket node 0 → (h : ℕ) → f h ≡ Some node → ⊥
  seek_end bucket node z k h p = let le = k.left h p in let e : h ≡ 0 = omega (arith, le) in let x = ap f e in cc

  pub pass_first : (bucket number : ℕ) → bucket < length heads → number < head_in heads bucket → Passes f (length heads) bucket number (head_in heads bucket)
  pass_first bucket number l b = record { above = b; real = (c.head bucket l).real (λ e. omega (arith, e, b)) }

  pub pass_next : (bucket number at : ℕ) → Passes f (length heads) bucket number at → number < chain at → Passes f (length heads) bucket number (chain at)
  pass_next bucket number at p b =
      let n = c.link at p.real.0 p.real.1 in
      let x = n.real (λ e. omega (arith, e, b)) in
      record { above = b; real = (x.0, x.1, x.2 ∙ p.real.2) }

  pub pass_end : (bucket number at : ℕ) → 2 ≤ number → f number ≡ None → Passes f (length heads) bucket number at → chain at ≤ number → IsPlace f chain (length heads) bucket number at
  pass_end bucket number at two free p b =
      let n = c.link at p.real.0 p.real.1 in
      let other : chain at ≢ number = λ e. (let x = n.real (λ z. omega (arith, e, z, two)) in let y = ap f e in let w = x.1 in cc) in
      record { above = p.above; real = p.real; next = omega (arith, b, other) }

  -- a number that has no node gets one
  module _ (g : ℕ → Option Node) (next : ℕ → ℕ) (number bucket : ℕ) (node : Node) (free : f number ≡ None) (two : 2 ≤ number) (put : (h : ℕ) → g h ≡ cond (h == number) (Some node) (f h)) (belongs : bucket ≡ bucket_of (length heads) node) (fits : bucket < length heads) where
    more : (h : ℕ) (s : Node) → f h ≡ Some s → g h ≡ Some s
    more h s e = put h ∙ elim (h == number) as (λ b. (h == number) ≡ b → cond b (Some node) (f h) ≡ Some s) [
      | true ↦ λ i. let n : h ≡ number = (Decides-eqb h number).0 i in let m : f h ≡ f number = ap f n in cc
      | false ↦ λ i. e
    ] refl

    here : g number ≡ Some node
    here = put number ∙ ap (λ b. cond b (Some node) (f number)) ((Decides-eqb number number).1 refl)

    cases : (h : ℕ) (s : Node) → g h ≡ Some s → ((h ≡ number) × (s ≡ node)) ⊎ (f h ≡ Some s)
    cases h s e =
        elim (h == number) as (λ b. (h == number) ≡ b → cond b (Some node) (f h) ≡ Some s → ((h ≡ number) × (s ≡ node)) ⊎ (f h ≡ Some s))
        [ true ↦ λ i e. inl ((Decides-eqb h number).0 i, (let r : s ≡ node = cc in r)) | false ↦ λ i e. inr e ] refl (sym (put h) ∙ e)

    -- where the new number is no candidate, what was next stays next
    still : (b n top : ℕ) → IsNextNode f (length heads) b n top → (bucket ≡ b → number < top → number ≤ n) → IsNextNode g (length heads) b n top
    still b n top x le = record {
      below = x.below;
      real = λ q. (let r = x.real q in (r.0, more n r.0 r.1, r.2));
      greatest = λ k s e i l. ⊎_elim
          (λ (q : (k ≡ number) × (s ≡ node)). (let y = le (belongs ∙ ap (bucket_of (length heads)) (sym q.1) ∙ i) (omega (arith, l, q.0)) in omega (arith, y, q.0)))
          (λ q. x.greatest k s q i l)
          (cases k s e);
    }

    -- where the new number is the greatest candidate, it is next
    becomes : (n top : ℕ) → number < top → n ≤ number → ((k : ℕ) (s : Node) → f k ≡ Some s → bucket_of (length heads) s ≡ bucket → k < top → k ≤ n) → IsNextNode g (length heads) bucket number top
    becomes n top l le all = record {
      below = l;
      real = λ q. (node, here, sym belongs);
      greatest = λ k s e i b. ⊎_elim (λ (q : (k ≡ number) × (s ≡ node)). omega (arith, q.0)) (λ q. (let y = all k s q i b in omega (arith, y, le))) (cases k s e);
    }

    pub chained_head : (newer : List ℕ) (top : ℕ) → newer ≡ set heads bucket number → head_in heads bucket < number → number < top → limit ≤ top → next number ≡ head_in heads bucket → ((h : ℕ) → h ≢ number → next h ≡ chain h) → IsChained g next newer top
    chained_head newer top e first l wide own others =
        let first_of = c.head bucket fits in
        let size : length newer ≡ length heads = ap length e ∙ length-set heads bucket number in
        subst (λ (hs : List ℕ). IsChained g next hs top) (sym e) (record {
          head = λ b q.
              (let q' : b < length heads = subst (λ n. b < n) (length-set heads bucket number) q in
              subst (λ n. IsNextNode g n b (head_in (set heads bucket number) b) top) (sym (length-set heads bucket number))
              (⊎_elim
              (λ (i : b ≡ bucket). subst (λ x. IsNextNode g (length heads) x (head_in (set heads bucket number) x) top) (sym i)
              (subst (λ n. IsNextNode g (length heads) bucket n top) (sym (get_or-set_same heads bucket number 0 fits))
              (becomes (head_in heads bucket) top l (omega (arith, first)) (λ k s p i l. first_of.greatest k s p i (inside k s p)))))
              (λ (i : b ≢ bucket). subst (λ n. IsNextNode g (length heads) b n top) (sym (get_or-set_other heads bucket b number 0 i))
              (let x = c.head b q' in still b (head_in heads b) top (record { below = omega (arith, x.below, wide); real = x.real; greatest = λ k s p j m. x.greatest k s p j (inside k s p) }) (λ j. absurd (i (sym j)))))
              (cases_eq b bucket)));
          link = λ h s p.
              subst (λ n. IsNextNode g n (bucket_of n s) (next h) h) (sym (length-set heads bucket number))
              (⊎_elim
              (λ (q : (h ≡ number) × (s ≡ node)). subst (λ z. IsNextNode g (length heads) (bucket_of (length heads) z) (next h) h) (sym q.1)
              (subst (λ z. IsNextNode g (length heads) (bucket_of (length heads) node) (next z) z) (sym q.0)
              (subst (λ z. IsNextNode g (length heads) (bucket_of (length heads) node) z number) (sym own)
              (subst (λ z. IsNextNode g (length heads) z (head_in heads bucket) number) belongs
              (still bucket (head_in heads bucket) number (record { below = first; real = first_of.real; greatest = λ k s p i l. first_of.greatest k s p i (inside k s p) }) (λ i m. absurd (omega (arith, m))))))))
              (λ (q : f h ≡ Some s).
              let apart : h ≢ number = λ i. (let x = ap f i in cc) in
              subst (λ z. IsNextNode g (length heads) (bucket_of (length heads) s) z h) (sym (others h apart))
              (still (bucket_of (length heads) s) (chain h) h (c.link h s q)
              (λ i m. (let y = first_of.greatest h s q (sym i) (inside h s q) in absurd (omega (arith, y, m, first))))))
              (cases h s p));
        })

    pub chained_place : (p : ℕ) → IsPlace f chain (length heads) bucket number p → next number ≡ chain p → next p ≡ number → ((h : ℕ) → h ≢ number → h ≢ p → next h ≡ chain h) → IsChained g next heads limit
    chained_place p x own before others =
        let at = c.link p x.real.0 x.real.1 in
        record {
          head = λ b q.
              (let n = c.head b q in
              still b (head_in heads b) limit n
              (λ i m. (let le = n.greatest p x.real.0 x.real.1 (x.real.2 ∙ i) (inside p x.real.0 x.real.1) in omega (arith, le, x.above))));
          link = λ h s e. ⊎_elim
              (λ (q : (h ≡ number) × (s ≡ node)). subst (λ z. IsNextNode g (length heads) (bucket_of (length heads) z) (next h) h) (sym q.1)
              (subst (λ z. IsNextNode g (length heads) (bucket_of (length heads) node) (next z) z) (sym q.0)
              (subst (λ z. IsNextNode g (length heads) (bucket_of (length heads) node) z number) (sym own)
              (subst (λ z. IsNextNode g (length heads) z (chain p) number) (x.real.2 ∙ belongs)
              (still (bucket_of (length heads) x.real.0) (chain p) number (record { below = x.next; real = at.real; greatest = λ k s q i l. at.greatest k s q i (omega (arith, l, x.above)) }) (λ i m. absurd (omega (arith, m))))))))
              (λ (q : f h ≡ Some s).
              let apart : h ≢ number = λ i. (let y = ap f i in cc) in
              ⊎_elim
              (λ (i : h ≡ p).
              let same : s ≡ x.real.0 = (let y = ap f i in let z = x.real.1 in cc) in
              let home : bucket_of (length heads) s ≡ bucket = ap (bucket_of (length heads)) same ∙ x.real.2 in
              subst (λ z. IsNextNode g (length heads) z (next h) h) (sym home)
              (subst (λ z. IsNextNode g (length heads) bucket (next z) z) (sym i)
              (subst (λ z. IsNextNode g (length heads) bucket z p) (sym before)
              (becomes (chain p) p x.above (omega (arith, x.next)) (λ k t w j l. at.greatest k t w (j ∙ sym x.real.2) l)))))
              (λ (i : h ≢ p).
              subst (λ z. IsNextNode g (length heads) (bucket_of (length heads) s) z h) (sym (others h apart i))
              (still (bucket_of (length heads) s) (chain h) h (c.link h s q)
              (λ j m.
              let home : bucket_of (length heads) x.real.0 ≡ bucket_of (length heads) s = x.real.2 ∙ j in
              ⊎_elim
              (λ (w : h < p). (let y = at.greatest h s q (sym home) w in absurd (omega (arith, y, m, x.next))))
              (λ (w : p ≤ h). (let y = (c.link h s q).greatest p x.real.0 x.real.1 home (omega (arith, w, i)) in omega (arith, y, x.above)))
              (cases_lt h p))))
              (cases_eq h p))
              (cases h s e);
        }

-- the first free slot gets a node
pub free_taken : (f g : ℕ → Option Node) (chain next : ℕ → ℕ) (number limit : ℕ) (node : Node) → number ≢ 0 → ((h : ℕ) → g h ≡ cond (h == number) (Some node) (f h)) → ((h : ℕ) → g h ≡ None → next h ≡ chain h) → IsFree f chain number limit → IsFree g next (chain number) limit
free_taken f g chain next number limit node some put same x =
    let first = x.start.real some in
    let after = x.link number first.0 first.1 first.2 in
    record {
      start = record {
        real = λ q. (let r = after.real q in (omega (arith, r.0, first.0), r.1, other (chain number) (λ e. omega (arith, e, r.0)) ∙ r.2));
        least = λ k l m e. (let a = apart k e in let y = x.start.least k l m (was k e) in after.least k (omega (arith, y.1, a)) m (was k e));
      };
      link = λ h l m e.
          (let n = x.link h l m (was h e) in
          let y = x.start.least h l m (was h e) in
          subst (λ z. IsNextFree g limit z h) (sym (same h e)) (record {
            real = λ q. (let r = n.real q in (r.0, r.1, other (chain h) (λ e. omega (arith, e, r.0, y.1)) ∙ r.2));
            least = λ k j w i. n.least k j w (was k i);
          }));
    }
  where
    other : (h : ℕ) → h ≢ number → g h ≡ f h
    other h a = put h ∙ elim (h == number) as (λ b. (h == number) ≡ b → cond b (Some node) (f h) ≡ f h) [ true ↦ λ i. absurd (a ((Decides-eqb h number).0 i)) | false ↦ λ i. refl ] refl

    apart : (k : ℕ) → g k ≡ None → k ≢ number
    apart k e q = let x = put k ∙ ap (λ b. cond b (Some node) (f k)) ((Decides-eqb k number).1 q) in cc

    was : (k : ℕ) → g k ≡ None → f k ≡ None
    was k e = sym (other k (apart k e)) ∙ e

-- where no slot is free, a node at the end leaves none free
pub free_none : (f g : ℕ → Option Node) (chain next : ℕ → ℕ) (limit : ℕ) (node : Node) → ((h : ℕ) → g h ≡ cond (h == limit) (Some node) (f h)) → IsFree f chain 0 limit → IsFree g next 0 (limit + 1)
free_none f g chain next limit node put x = record {
  start = record { real = λ q. absurd (q refl); least = λ k l m e. absurd (none k l m e) };
  link = λ h l m e. absurd (none h l m e);
}
  where
    none : (k : ℕ) → 1 < k → k < limit + 1 → g k ≡ None → ⊥
    none k l m e =
        elim (k == limit) as (λ b. (k == limit) ≡ b → cond b (Some node) (f k) ≡ None → ⊥) [
          | true ↦ λ i e. cc
          | false ↦ λ i e.
              let other : k ≢ limit = λ q. (let t = (Decides-eqb k limit).1 q in cc) in
              (x.start.least k l (omega (arith, m, other)) e).0 refl
        ] refl (sym (put k) ∙ e)
