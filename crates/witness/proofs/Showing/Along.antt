-- What is shown along a chain is what the rule shows.
use Rattle.std.proofs.Common.{◌≡◌, ◌≢◌, ℕ, ◌^◌, ◌<◌, ◌≤◌, refl, sym, ◌∙◌, ap, subst, arith, List, [], ◌∷◌, length, Bool, true, false, Option, Some, None}
use Rattle.std.specs.Prelude.{if◌then◌else◌, slice_get, unwrap_or}
use Rattle.std.specs.List.{AllByRecursion}
use Rattle.std.specs.Option.{option_map}
use Rattle.std.proofs.lemmas.Nat.{pow_pos}
use Rattle.qtl_syntax.specs.Tree.{Text}
use Rattle.qtl_truth.specs.Truth.{IsLog}
use Rattle.qtl_truth.specs.declared.event.Event.{Event}
use Rattle.wellformed.specs.declared.core_formula.Variable.{Variable}
use Rattle.wellformed.specs.CoreTree.{CoreFormula}
use Rattle.subformulas.specs.Assigned.{Texts, put}
use Rattle.subformulas.specs.Unfolded.{formula_at}
use Rattle.subformulas.proofs.Unfold.{get_some}
use Rattle.node_tree.specs.Tree.{Tree, Zero, One, Branch, IsOrdered, IsReduced}
use Rattle.value_codes.specs.Pairs.{Contents, Pairs, IsPaired, code_of}
use Rattle.value_codes.specs.Pairs as book_pairs
use Rattle.value_codes.proofs.Lookups.{code_reads, reads_code}
use Rattle.code_reclaim.proofs.Trees.{block_ordered, block_reduced}
use Rattle.subformulas.proofs.ByNumber.{all_at}
use Rattle.monitor_model.specs.Books.{reads}
use Rattle.monitor_model.specs.Setting.{first_of}
use Rattle.monitor_model.specs.State.{State, IsLive, IsMonitor, Stands, is_one, pairs_in, setting_of}
use Rattle.monitor_model.specs.Stands.{IsNow, IsPlan}
use Rattle.monitor_model.proofs.Books.Sound.{sound}
use Rattle.monitor_model.proofs.Telling.Given.{plan_is}
use Rattle.report.specs.Witness.{AreShown, CanFail, IsLeast}
use Rattle.report.specs.declared.shown.Value.{Value}
use Rattle.report.specs.declared.shown.Value.TheVariants.{Any, Known}
use Rattle.witness.specs.Finding.{code_for, name_of, ones, shown_over, value_of, value_over, with_code_of}
use Rattle.witness.specs.Least.{least_failing}
use Rattle.witness.specs.Searching.{IsLeastIfAny}
use Rattle.witness.proofs.Choosing.{book_pairs as pairs_of_book}
use Rattle.witness.proofs.Splitting.{Leaves, least_listed, other_than_one}
use Rattle.witness.proofs.Showing.Coded.{coded_mark}
use Rattle.witness.proofs.Showing.Failing.{ReadsFor, code_reads_text, code_small, fails_alike, fails_tree, ones_read, other_text, other_uncoded, reads_later, tree_fails}
use Rattle.witness.proofs.Showing.Over.{Ascends}

is_one_is : (t : Tree) → is_one t ≡ true → t ≡ One
is_one_is One e = refl
is_one_is Zero e = absurd (let no : ⊥ = cc in no)
is_one_is (Branch l a b) e = absurd (let no : ⊥ = cc in no)

not_one : (t : Tree) → is_one t ≡ false → t ≢ One
not_one t e same = let no : true ≡ false = sym (ap is_one same) ∙ e in absurd (let impossible : ⊥ = cc in impossible)

module _ (m : State) (log : List Event) (monitor : IsMonitor m) (live : IsLive m) (is_log : IsLog log) (stands : Stands m log) (some : 1 ≤ length log)
    (b : ℕ) (from : 1 ≤ b) (to : b ≤ length m.plan.subs) (tree : Tree) (drawn : IsNow (setting_of m) log (length log) stands.books b tree) where
  abbrev i : ℕ
  i = length log

  abbrev f : CoreFormula
  f = formula_at m.plan.subs b

  abbrev plan : IsPlan (setting_of m)
  plan = plan_is m monitor

  abbrev other : Text
  other = other_text m.plan (setting_of m) plan log is_log i some stands.books stands.stands.books_are

  abbrev Reading : List ℕ → Texts → Tree → Type 0
  Reading = ReadsFor m.plan (setting_of m) plan log is_log i some stands.books stands.stands.books_are b from to tree drawn

  abbrev Can : List ℕ → Texts → Type 0
  Can xs nu = CanFail m.plan log i xs f nu

  -- the pairs of the monitor, and the log's book
  paired_in : (x : ℕ) → x < length m.plan.variables → IsPaired (pairs_in m x)
  paired_in x l = by_book (get_some m.books x (subst (λ (n : ℕ). x < n) (sym monitor.book_count) l))
    where
      by_book : (c : Contents) × (slice_get m.books x ≡ Some c) → IsPaired (pairs_in m x)
      by_book (c, at) = subst IsPaired (sym (pairs_of_book m x c at)) (all_at book_pairs.IsBook m.books x c live.books at).paired

  module _ (x : ℕ) (later : List ℕ) (nu : Texts) (t : Tree) (greater : AllByRecursion (λ y. x < y) later) (ascends : Ascends later)
      (known : x < length m.plan.variables) (later_known : AllByRecursion (λ y. y < length m.plan.variables) later)
      (ordered : IsOrdered t) (reduced : IsReduced t) (reading : Reading (x ∷ later) nu t) where
    -- with a code set, and the text that it reads as
    abbrev Set : ℕ → Tree
    Set c = with_code_of m x c t

    set_fails : (c : ℕ) (chosen : Text) → c < 2 ^ m.bits → reads (stands.books x) other c ≡ chosen → Set c ≢ One → Can later (put x chosen nu)
    set_fails c chosen small is n =
        tree_fails m.plan (setting_of m) plan log is_log i some stands.books stands.stands.books_are b from to tree drawn later (put x chosen nu) (Set c) later_known
        (block_ordered m.bits (first_of (setting_of m) x) c t 0 ordered) (block_reduced m.bits (first_of (setting_of m) x) c t reduced)
        (reads_later m.plan (setting_of m) plan log is_log i some stands.books stands.stands.books_are b from to tree drawn x c later nu chosen t greater small ordered is reading) n

    fails_set : (c : ℕ) (chosen : Text) → c < 2 ^ m.bits → reads (stands.books x) other c ≡ chosen → Can later (put x chosen nu) → Set c ≢ One
    fails_set c chosen small is can =
        fails_tree m.plan (setting_of m) plan log is_log i some stands.books stands.stands.books_are b from to tree drawn later (put x chosen nu) (Set c) later_known ascends
        (reads_later m.plan (setting_of m) plan log is_log i some stands.books stands.stands.books_are b from to tree drawn x c later nu chosen t greater small ordered is reading) can

    ones_small : ones m < 2 ^ m.bits
    ones_small = let h = pow_pos m.bits in omega (arith, h)

    ones_are : reads (stands.books x) other (ones m) ≡ other
    ones_are = ones_read m.plan (setting_of m) plan log is_log i some stands.books stands.stands.books_are x known

    coded_small : (c : ℕ) (u : Text) → code_of (pairs_in m x) u ≡ Some c → c < 2 ^ m.bits
    coded_small c u e =
        subst (λ (o : Option ℕ). unwrap_or o (ones m) < 2 ^ m.bits) (sym (stands.same x known u) ∙ e)
        (code_small m.plan (setting_of m) plan log is_log i some stands.books stands.stands.books_are x u known)

    coded_reads : (c : ℕ) (u : Text) → code_of (pairs_in m x) u ≡ Some c → reads (stands.books x) other c ≡ u
    coded_reads c u e = code_reads_text m.plan (setting_of m) plan log is_log i some stands.books stands.stands.books_are x c u known (sym (stands.same x known u) ∙ e)

    -- what can fail though a fresh text can't has a code
    coded_leaves : Set (ones m) ≡ One → (u : Text) → Can later (put x u nu) → Leaves (first_of (setting_of m) x) m.bits t (pairs_in m x) u
    coded_leaves whole u can = by_code (code_of (pairs_in m x) u) refl
      where
        by_code : (o : Option ℕ) → code_of (pairs_in m x) u ≡ o → Leaves (first_of (setting_of m) x) m.bits t (pairs_in m x) u
        by_code (Some c) e = record {
          code = c;
          given = code_reads (pairs_in m x) u c (paired_in x known) e;
          leaves = other_than_one (Set c) (fails_set c u (coded_small c u e) (coded_reads c u e) can);
        }
        by_code None e =
            absurd (fails_set (ones m) other ones_small ones_are
            (fails_alike m.plan (setting_of m) plan log is_log i some stands.books stands.stands.books_are b from to tree drawn x later nu u other later_known ascends
            (sym (stands.same x known u) ∙ (e ∙ sym (other_uncoded m.plan (setting_of m) plan log is_log i some stands.books stands.stands.books_are x known))) can) whole)

    abbrev Shows : Value → Type 0
    Shows v = AreShown m.plan log i (x ∷ later) f nu (record { name = name_of m x; value = v } ∷ shown_over m later (Set (code_for (ones m) (pairs_in m x) v)))

    abbrev Goes : Type 0
    Goes = (c : ℕ) (chosen : Text) → c < 2 ^ m.bits → reads (stands.books x) other c ≡ chosen → Set c ≢ One →
        AreShown m.plan log i later f (put x chosen nu) (shown_over m later (Set c))

    name_is : option_map (λ (v : Variable). v.name) (slice_get m.plan.variables x) ≡ Some (name_of m x)
    name_is = by_variable (get_some m.plan.variables x known)
      where
        by_variable : (v : Variable) × (slice_get m.plan.variables x ≡ Some v) → option_map (λ (v : Variable). v.name) (slice_get m.plan.variables x) ≡ Some (name_of m x)
        by_variable (v, at) = ap (option_map (λ (w : Variable). w.name)) at ∙ ap (λ o. Some (unwrap_or (option_map (λ (w : Variable). w.name) o) [])) (sym at)

    -- any text
    shows_any : Goes → Set (ones m) ≢ One → Shows Any
    shows_any goes n = (name_is, other, (refl, set_fails (ones m) other ones_small ones_are n), goes (ones m) other ones_small ones_are n)

    -- the least text
    shows_least : Goes → Set (ones m) ≡ One → (u : Text) → IsLeast (Leaves (first_of (setting_of m) x) m.bits t (pairs_in m x)) u → Shows (Known u)
    shows_least goes whole u least =
        let leaves = least.0 in
        let c = leaves.code in
        let coded : code_of (pairs_in m x) u ≡ Some c = reads_code (pairs_in m x) u c (paired_in x known) leaves.given in
        let code : code_for (ones m) (pairs_in m x) (Known u) ≡ c = ap (λ o. unwrap_or o (ones m)) coded in
        let small = coded_small c u coded in
        let is = coded_reads c u coded in
        let n = not_one (Set c) leaves.leaves in
        let in_book = code_reads (stands.books x) u c (paired_book x known) (sym (stands.same x known u) ∙ coded) in
        let mark = coded_mark m.bits m.plan.subs plan.table log x is_log i (stands.books x) (stands.stands.books_are x known) c u in_book in (
          name_is,
          u,
          (
            refl,
            (λ can. fails_set (ones m) other ones_small ones_are can whole),
            ((mark, set_fails c u small is n), λ v (has, can). least.1 v (coded_leaves whole v can)),
          ),
          subst (λ (d : ℕ). AreShown m.plan log i later f (put x u nu) (shown_over m later (Set d))) (sym code) (goes c u small is n),
        )
      where
        paired_book : (y : ℕ) → y < length m.plan.variables → IsPaired (stands.books y)
        paired_book y l = (sound m.bits m.plan.subs plan.table log y is_log i (stands.books y) (stands.stands.books_are y l)).paired

    value_is : (v : Value) → v ≡ value_over m x t → Shows v → AreShown m.plan log i (x ∷ later) f nu (shown_over m (x ∷ later) t)
    value_is v e shows = subst Shows e shows

    if_true : (c : Bool) (v w : Value) → c ≡ true → v ≡ (if c then v else w)
    if_true c v w e = rw e refl

    if_false : (c : Bool) (v w : Value) → c ≡ false → w ≡ (if c then v else w)
    if_false c v w e = rw e refl

    -- so the first variable is shown by the rule, and those behind it
    pub shows : Goes → t ≢ One → AreShown m.plan log i (x ∷ later) f nu (shown_over m (x ∷ later) t)
    shows goes n = by_ones (is_one (Set (ones m))) refl
      where
        least : Option Text
        least = least_failing (first_of (setting_of m) x) m.bits t (pairs_in m x)

        -- some text can fail, since the tree isn't true
        can_fail : Can (x ∷ later) nu
        can_fail =
            tree_fails m.plan (setting_of m) plan log is_log i some stands.books stands.stands.books_are b from to tree drawn (x ∷ later) nu t (known, later_known) ordered reduced reading n

        by_least : Set (ones m) ≡ One → is_one (Set (ones m)) ≡ true → (o : Option Text) → least ≡ o → IsLeastIfAny (Leaves (first_of (setting_of m) x) m.bits t (pairs_in m x)) o →
            AreShown m.plan log i (x ∷ later) f nu (shown_over m (x ∷ later) t)
        by_least whole e None d h = absurd (h can_fail.0 (coded_leaves whole can_fail.0 can_fail.2))
        by_least whole e (Some u) d h =
            value_is (Known u) (ap value_of (sym d) ∙ if_true (is_one (Set (ones m))) (value_of least) Any e) (shows_least goes whole u h)

        by_ones : (c : Bool) → is_one (Set (ones m)) ≡ c → AreShown m.plan log i (x ∷ later) f nu (shown_over m (x ∷ later) t)
        by_ones false e = value_is Any (if_false (is_one (Set (ones m))) (value_of least) Any e) (shows_any goes (not_one (Set (ones m)) e))
        by_ones true e =
            let paired = paired_in x known in
            by_least (is_one_is (Set (ones m)) e) e least refl (least_listed (first_of (setting_of m) x) m.bits t (pairs_in m x) paired)

  -- the whole chain
  pub along : (xs : List ℕ) (nu : Texts) (t : Tree) → Ascends xs → AllByRecursion (λ x. x < length m.plan.variables) xs → IsOrdered t → IsReduced t → Reading xs nu t → t ≢ One →
      AreShown m.plan log i xs f nu (shown_over m xs t)
  along [] nu t ascends known ordered reduced reading n = refl
  along (x ∷ later) nu t ascends known ordered reduced reading n =
      shows x later nu t ascends.0 ascends.1 known.0 known.1 ordered reduced reading
      (λ c chosen small is other_than.
      along later (put x chosen nu) (with_code_of m x c t) ascends.1 known.1
      (block_ordered m.bits (first_of (setting_of m) x) c t 0 ordered) (block_reduced m.bits (first_of (setting_of m) x) c t reduced)
      (reads_later m.plan (setting_of m) plan log is_log i some stands.books stands.stands.books_are b from to tree drawn x c later nu chosen t ascends.0 small ordered is reading) other_than) n
