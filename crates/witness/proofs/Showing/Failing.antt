-- A tree that a monitor has for a log is other than true exactly where texts make its formula false.
use Rattle.std.proofs.Common.{◌≡◌, ◌≢◌, ℕ, zero, suc, ◌-◌, ◌^◌, ◌<◌, ◌≤◌, ◌⊎◌, ◌↔◌, inl, inr, ⊎_elim, refl, sym, ◌∙◌, ap, subst, arith, List, [], ◌∷◌, ◌++◌, length, Bool, true, Option, Some, None, IsTrue}
use Rattle.std.specs.Prelude.{unwrap_or}
use Rattle.std.specs.List.{AllByRecursion}
use Rattle.std.proofs.lemmas.Nat.{pow_pos}
use Rattle.qtl_syntax.specs.Tree.{Text}
use Rattle.qtl_truth.specs.Truth.{IsLog, IsText}
use Rattle.qtl_truth.specs.declared.event.Event.{Event}
use Rattle.subformulas.specs.Assigned.{Texts, put, Truth}
use Rattle.subformulas.specs.Pinned.{constants, fresh}
use Rattle.subformulas.specs.Facts.{arguments}
use Rattle.subformulas.specs.Table.{Table}
use Rattle.subformulas.specs.Unfolded.{formula_at}
use Rattle.subformulas.proofs.Decide.{longer_text}
use Rattle.wellformed.specs.CoreTree.{CoreFormula}
use Rattle.node_tree.specs.Tree.{Tree, One, IsOrdered, IsReduced, value}
use Rattle.node_tree.proofs.Apart.{same_or_differ}
use Rattle.bdd_ops.specs.Reading.{set_block, with_code}
use Rattle.bdd_ops.proofs.Walks.{set_block-value}
use Rattle.value_codes.specs.Pairs.{Pairs, code_of, value_of}
use Rattle.value_codes.proofs.Lookups.{code_reads}
use Rattle.monitor_model.specs.Books.{IsBook, reads}
use Rattle.monitor_model.specs.Drawn.{code_at, readings}
use Rattle.monitor_model.specs.Setting.{Setting, first_of}
use Rattle.monitor_model.specs.Stands.{IsNow, IsPlan}
use Rattle.monitor_model.proofs.Books.Pairing.{ones_free}
use Rattle.monitor_model.proofs.Books.Sound.{IsBookFor, sound}
use Rattle.monitor_model.proofs.Spelling.Bits.{apart, readings_other, spelled_same}
use Rattle.monitor_model.proofs.Spelling.Codes.{with_code_outside, with_code_spells}
use Rattle.monitor_model.proofs.Telling.Given.{IsPointOf, now_point}
use Rattle.report.specs.Witness.{CanFail}
use Rattle.witness.proofs.Showing.Coded.{fresh_uncoded}
use Rattle.witness.proofs.Showing.Over.{Ascends, Fails, all_map, from_texts, over, over_alike, over_same, put_alike, to_texts}

module _ (table : Table) (s : Setting) (plan : IsPlan s) (log : List Event) (is_log : IsLog log) (i : ℕ) (some : 1 ≤ i) (books : ℕ → Pairs)
    (books_are : (x : ℕ) → x < s.variables → IsBook s.bits s.subs log x i (books x)) where
  abbrev pub other_text : Text
  other_text = fresh s.subs log i

  abbrev pub all_ones : ℕ
  all_ones = 2 ^ s.bits - 1

  book_for : (x : ℕ) → x < s.variables → IsBookFor s.bits s.subs log x i (books x)
  book_for x p = sound s.bits s.subs plan.table log x is_log i (books x) (books_are x p)

  pub other_uncoded : (x : ℕ) → x < s.variables → code_of (books x) other_text ≡ None
  other_uncoded x l = fresh_uncoded s.bits s.subs plan.table log x is_log i (books x) (books_are x l)

  pub ones_read : (x : ℕ) → x < s.variables → reads (books x) other_text all_ones ≡ other_text
  ones_read x l = ap (λ o. unwrap_or o other_text) (ones_free s.bits (books x) (book_for x l).below)

  pub code_reads_text : (x c : ℕ) (u : Text) → x < s.variables → code_of (books x) u ≡ Some c → reads (books x) other_text c ≡ u
  code_reads_text x c u l e = ap (λ o. unwrap_or o other_text) (code_reads (books x) u c (book_for x l).paired e)

  -- what a code reads as is a text
  reads_text : (x c : ℕ) → x < s.variables → IsText (reads (books x) other_text c)
  reads_text x c l = by_value (value_of (books x) c) refl
    where
      by_value : (o : Option Text) → value_of (books x) c ≡ o → IsText (unwrap_or o other_text)
      by_value None e = longer_text (constants s.subs ++ arguments log i)
      by_value (Some t) e = (book_for x l).texts c t e

  -- the code of a text has so many bits
  pub code_small : (x : ℕ) (u : Text) → x < s.variables → unwrap_or (code_of (books x) u) all_ones < 2 ^ s.bits
  code_small x u l = by_code (code_of (books x) u) refl
    where
      by_code : (o : Option ℕ) → code_of (books x) u ≡ o → unwrap_or o all_ones < 2 ^ s.bits
      by_code None e = let h = pow_pos s.bits in omega (arith, h)
      by_code (Some c) e = let h = (book_for x l).below c u (code_reads (books x) u c (book_for x l).paired e) in omega (arith, h)

  -- Points

  points : (nu : Texts) (n : ℕ) → n ≤ s.variables → (p : List Bool) × ((x : ℕ) → x < n → code_at s p x ≡ unwrap_or (code_of (books x) (nu x)) all_ones)
  points nu zero l = ([], λ x less. absurd (omega (arith, less)))
  points nu (suc n) l = next (points nu n (omega (arith, l)))
    where
      next : (p : List Bool) × ((x : ℕ) → x < n → code_at s p x ≡ unwrap_or (code_of (books x) (nu x)) all_ones) →
          (p : List Bool) × ((x : ℕ) → x < suc n → code_at s p x ≡ unwrap_or (code_of (books x) (nu x)) all_ones)
      next (p, h) = (q, by_place)
        where
          q : List Bool
          q = with_code p (first_of s n) s.bits (unwrap_or (code_of (books n) (nu n)) all_ones)

          here : code_at s q n ≡ unwrap_or (code_of (books n) (nu n)) all_ones
          here = with_code_spells p (first_of s n) s.bits (unwrap_or (code_of (books n) (nu n)) all_ones) (code_small n (nu n) (omega (arith, l)))

          there : (x : ℕ) → x < n → code_at s q x ≡ code_at s p x
          there x less =
              spelled_same p q (first_of s x) s.bits
              (λ k a b. with_code_outside p (first_of s n) s.bits (unwrap_or (code_of (books n) (nu n)) all_ones) k (apart n x s.bits k (λ e. omega (arith, less, e)) a b))

          last_or_less : (x : ℕ) → x < suc n → (x < n) ⊎ (n ≡ x)
          last_or_less x less = by_order (cases_less x n)
            where
              cases_less : (x n : ℕ) → (x < n) ⊎ (n ≤ x)
              cases_less x zero = inr (omega arith)
              cases_less zero (suc n) = inl (omega arith)
              cases_less (suc x) (suc n) = ⊎_elim (λ a. inl (omega (arith, a))) (λ a. inr (omega (arith, a))) (cases_less x n)

              by_order : (x < n) ⊎ (n ≤ x) → (x < n) ⊎ (n ≡ x)
              by_order (inl a) = inl a
              by_order (inr a) = inr (omega (arith, a, less))

          by_place : (x : ℕ) → x < suc n → code_at s q x ≡ unwrap_or (code_of (books x) (nu x)) all_ones
          by_place x less =
              ⊎_elim (λ a. there x a ∙ h x a) (λ e. subst (λ (y : ℕ). code_at s q y ≡ unwrap_or (code_of (books y) (nu y)) all_ones) e here) (last_or_less x less)

  pub some_point : (nu : Texts) → (p : List Bool) × IsPointOf s books nu p
  some_point nu = points nu s.variables (omega arith)

  -- texts with the same code
  abbrev pub SameCode : ℕ → Text → Text → Type 0
  SameCode x t u = code_of (books x) t ≡ code_of (books x) u

  -- the texts that a point's bits read as have the codes of its texts
  point_reads : (nu : Texts) (p : List Bool) → IsPointOf s books nu p → (x : ℕ) → x < s.variables → SameCode x (readings s books other_text p x) (nu x)
  point_reads nu p point x l = by_code (code_of (books x) (nu x)) refl (point x l)
    where
      by_code : (o : Option ℕ) → code_of (books x) (nu x) ≡ o → code_at s p x ≡ unwrap_or o all_ones → SameCode x (readings s books other_text p x) (nu x)
      by_code None e at = ap (code_of (books x)) (ap (reads (books x) other_text) at ∙ ones_read x l) ∙ (other_uncoded x l ∙ sym e)
      by_code (Some c) e at = ap (code_of (books x)) (ap (reads (books x) other_text) at ∙ code_reads_text x c (nu x) l e)

  module _ (b : ℕ) (from : 1 ≤ b) (to : b ≤ length s.subs) (tree : Tree) (drawn : IsNow s log i books b tree) where
    abbrev pub body : CoreFormula
    body = formula_at s.subs b

    -- texts with the same codes make the same true
    pub same_truth : (nu other : Texts) → ((x : ℕ) → x < s.variables → SameCode x (nu x) (other x)) → Truth log body nu i → Truth log body other i
    same_truth nu other h holds =
        let (p, point) = some_point nu in
        let there : IsPointOf s books other p = λ x l. point x l ∙ ap (λ o. unwrap_or o all_ones) (h x l) in
        (now_point s plan log is_log i books books_are some b tree other p from to drawn there).0
        ((now_point s plan log is_log i books books_are some b tree nu p from to drawn point).1 holds)

    -- the bits of t give the truth under the texts that they read as for these variables
    abbrev pub ReadsFor : List ℕ → Texts → Tree → Type 0
    ReadsFor xs nu t = (p : List Bool) → IsTrue (value t p) ↔ Truth log body (over xs (readings s books other_text p) nu) i

    -- a tree other than true gives texts that make it false
    pub tree_fails : (xs : List ℕ) (nu : Texts) (t : Tree) → AllByRecursion (λ x. x < s.variables) xs → IsOrdered t → IsReduced t → ReadsFor xs nu t → t ≢ One →
        CanFail table log i xs body nu
    tree_fails xs nu t low o r gives other = by_tree (same_or_differ t One o r tt tt)
      where
        by_tree : (t ≡ One) ⊎ ((bits : List Bool) × (value t bits ≢ true)) → CanFail table log i xs body nu
        by_tree (inl e) = absurd (other e)
        by_tree (inr (p, differ)) =
            from_texts table log i body xs (readings s books other_text p) nu
            (all_map (λ x. x < s.variables) (λ x. IsText (readings s books other_text p x)) (λ x l. reads_text x (code_at s p x) l) xs low)
            (λ holds. differ ((gives p).1 holds))

    -- and back
    pub fails_tree : (xs : List ℕ) (nu : Texts) (t : Tree) → AllByRecursion (λ x. x < s.variables) xs → Ascends xs → ReadsFor xs nu t → CanFail table log i xs body nu → t ≢ One
    fails_tree xs nu t low a gives can e = by_texts (to_texts table log i body xs nu a can)
      where
        by_texts : Fails table log i body xs nu → ⊥
        by_texts f =
            let (p, point) = some_point f.texts in
            let holds = (gives p).0 (ap (λ u. value u p) e) in
            f.fails (same_truth (over xs (readings s books other_text p) nu) (over xs f.texts nu)
            (over_alike s.variables SameCode xs (readings s books other_text p) f.texts nu nu
            (all_map (λ x. x < s.variables) (λ x. SameCode x (readings s books other_text p x) (f.texts x)) (point_reads f.texts p point) xs low) (λ x l. refl)) holds)

    -- a text without a code can be extended where a fresh one can
    pub fails_alike : (x : ℕ) (later : List ℕ) (nu : Texts) (t u : Text) → AllByRecursion (λ y. y < s.variables) later → Ascends later → SameCode x t u →
        CanFail table log i later body (put x t nu) → CanFail table log i later body (put x u nu)
    fails_alike x later nu t u low a same can = by_texts (to_texts table log i body later (put x t nu) a can)
      where
        put_both : (x : ℕ) (t u : Text) (nu : Texts) → SameCode x t u → (y : ℕ) → y < s.variables → SameCode y (put x u nu y) (put x t nu y)
        put_both x t u nu same = put_alike s.variables SameCode x u t nu nu (sym same) (λ y l. refl)

        by_texts : Fails table log i body later (put x t nu) → CanFail table log i later body (put x u nu)
        by_texts f =
            from_texts table log i body later f.texts (put x u nu) f.are_texts
            (λ holds. f.fails (same_truth (over later f.texts (put x u nu)) (over later f.texts (put x t nu))
            (over_alike s.variables SameCode later f.texts f.texts (put x u nu) (put x t nu) (all_map (λ y. y < s.variables) (λ y. SameCode y (f.texts y) (f.texts y)) (λ y l. refl) later low)
            (put_both x t u nu same)) holds))

    -- with a code set in the block of the first variable, the text that it reads as is chosen
    pub reads_later : (x c : ℕ) (later : List ℕ) (nu : Texts) (chosen : Text) (t : Tree) → AllByRecursion (λ y. x < y) later → c < 2 ^ s.bits → IsOrdered t →
        reads (books x) other_text c ≡ chosen → ReadsFor (x ∷ later) nu t → ReadsFor later (put x chosen nu) (set_block (first_of s x) s.bits c t)
    reads_later x c later nu chosen t greater small o is gives p =
        let q = with_code p (first_of s x) s.bits c in
        let own : readings s books other_text q x ≡ chosen = ap (reads (books x) other_text) (with_code_spells p (first_of s x) s.bits c small) ∙ is in
        let others : AllByRecursion (λ y. readings s books other_text q y ≡ readings s books other_text p y) later =
        all_map (λ y. x < y) (λ y. readings s books other_text q y ≡ readings s books other_text p y)
        (λ y l. readings_other s books other_text x y p q (with_code_outside p (first_of s x) s.bits c) (λ e. omega (arith, l, e))) later greater in
        let texts : over later (readings s books other_text q) (put x (readings s books other_text q x) nu) ≡ over later (readings s books other_text p) (put x chosen nu) =
        ap (λ w. over later (readings s books other_text q) (put x w nu)) own ∙ over_same later (readings s books other_text q) (readings s books other_text p) (put x chosen nu) others in
        let bits : value (set_block (first_of s x) s.bits c t) p ≡ value t q = set_block-value s.bits (first_of s x) c t o p in (
          λ e. subst (λ w. Truth log body w i) texts ((gives q).0 (sym bits ∙ e)),
          λ h. bits ∙ (gives q).1 (subst (λ w. Truth log body w i) (sym texts) h),
        )
