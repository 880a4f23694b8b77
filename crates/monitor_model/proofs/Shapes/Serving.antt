-- What serving changes of the remembered trees' shape is that they read alike: they do so by the
-- new books too, since a code whose pair goes is one that no remembered tree tells apart.
use Rattle.std.proofs.Common.{◌≡◌, ℕ, ◌^◌, ◌<◌, ◌⊎◌, inl, inr, ⊎_elim, sym, ◌∙◌, subst, List, [], ◌∷◌, ◌++◌, length, Bool, true, false, Some, None}
use Rattle.std.specs.Prelude.{if◌then◌else◌, nat_eq, nat_lt, bytes_eq}
use Rattle.std.specs.List.{list_any}
use Rattle.std.proofs.lemmas.Bool.{cases_Bool}
use Rattle.std.proofs.lemmas.List.Folds.{list_any-from_Any}
use Rattle.qtl_syntax.specs.Tree.{Text}
use Rattle.qtl_truth.specs.declared.event.Event.{Event}
use Rattle.subformulas.specs.Memory.{IsTemporal}
use Rattle.subformulas.specs.Needs.{need}
use Rattle.subformulas.specs.Pinned.{pinned}
use Rattle.subformulas.specs.declared.table.Sub.{Sub}
use Rattle.subformulas.proofs.Alike.{has_left, has_right}
use Rattle.value_codes.specs.Pairs.{Pairs, value_of, IsPaired}
use Rattle.value_codes.proofs.Lookups.{reads_code}
use Rattle.node_tree.specs.Tree.{Tree}
use Rattle.code_reclaim.specs.Told.{differs, told_apart}
use Rattle.monitor_model.specs.Setting.{Setting, first_of}
use Rattle.monitor_model.specs.Books.{Gives, keep, without_code, free_count, with_room, IsNextBook}
use Rattle.monitor_model.specs.Ends.{AreNext}
use Rattle.monitor_model.specs.Reading.{AreTold}
use Rattle.monitor_model.specs.Rows.{of_temporal}
use Rattle.monitor_model.specs.Shape.{AreMemories, AreResults}
use Rattle.monitor_model.proofs.Books.Pairing.{any_has, swept}
use Rattle.monitor_model.proofs.Telling.Apart.{any_memory}

-- a code that the remembered trees don't tell apart is one that none of them tells apart
pub told_by_none : (subs : List Sub) (memory : ℕ → Tree) (first bits c : ℕ) →
    told_apart (of_temporal memory 1 subs) first bits c ≡ false → (k : ℕ) → IsTemporal subs k →
    differs first bits c (memory k) ≡ false
told_by_none subs memory first bits c h k t = by_test (cases_Bool (differs first bits c (memory k)))
  where
    by_test : (differs first bits c (memory k) ≡ true) ⊎ (differs first bits c (memory k) ≡ false) →
        differs first bits c (memory k) ≡ false
    by_test (inr e) = e
    by_test (inl e) =
        let some = (any_memory (λ u. differs first bits c u ≡ true) memory subs).1 (k, t, e) in
        let told = list_any-from_Any (differs first bits c) (of_temporal memory 1 subs) some in
        absurd (let f : false ≡ true = sym h ∙ told in cc)

-- a code that has no pair after serving had none before, or no remembered tree tells it apart
abbrev pub IsServed : Setting → (before books : ℕ → Pairs) → (memory : ℕ → Tree) → Type 0
IsServed s before books memory =
    (x c : ℕ) → x < s.variables → c < 2 ^ s.bits → value_of (books x) c ≡ None →
    (value_of (before x) c ≡ None) ⊎
    (told_apart (of_temporal memory 1 s.subs) (first_of s x) s.bits c ≡ false)

-- then the remembered trees read alike by the new books
pub served_memories : (s : Setting) (before books : ℕ → Pairs) (memory : ℕ → Tree) →
    IsServed s before books memory → AreMemories s before memory → AreMemories s books memory
served_memories s before books memory h m = record {
  shape = m.shape;
  alike = λ k t x c v l n. ⊎_elim
      (λ e. m.alike k t x c v l e)
      (λ e. told_by_none s.subs memory (first_of s x) s.bits c e k t)
      (h x c v l n);
}

-- books that have a pair for each code that had one, in whatever order, leave the shapes
pub same_memories : (s : Setting) (before books : ℕ → Pairs) (memory : ℕ → Tree) →
    ((x c : ℕ) → x < s.variables → value_of (books x) c ≡ None → value_of (before x) c ≡ None) →
    AreMemories s before memory → AreMemories s books memory
same_memories s before books memory h m =
    served_memories s before books memory (λ x c v l n. inl (h x c v n)) m

-- and those of the trees at an event
pub same_results : (s : Setting) (before books : ℕ → Pairs) (now : ℕ → Tree) →
    ((x c : ℕ) → x < s.variables → value_of (books x) c ≡ None → value_of (before x) c ≡ None) →
    AreResults s before now → AreResults s books now
same_results s before books now h r = record {
  shape = r.shape;
  alike = λ k one most x c v l n. r.alike k one most x c v l (h x c v n);
  over = r.over;
}

-- a code that is given stays
gives_value : (bits : ℕ) (ts : List Text) (book after : Pairs) → Gives bits ts book after →
    (c : ℕ) → value_of after c ≡ None → value_of book c ≡ None
gives_value bits [] book after g c h = subst (λ b. value_of b c ≡ None) g h
gives_value bits (u ∷ ts) book after (d, n, l, m, g) c h =
    by_test (nat_eq d c) (gives_value bits ts ((u, d) ∷ book) after g c h)
  where
    by_test : (b : Bool) → (if b then Some u else value_of book c) ≡ None → value_of book c ≡ None
    by_test true k = absurd (let f : Some u ≡ None = k in cc)
    by_test false k = k

-- the code has no pair, or one of a text that isn't among these
abbrev IsGone : List Text → Pairs → ℕ → Type 0
IsGone kept book c =
    (value_of book c ≡ None) ⊎
    ((t : Text) × (value_of book c ≡ Some t) × (list_any (bytes_eq t) kept ≡ false))

-- a code whose pair goes is one of a text that isn't kept
gone : (bits : ℕ) (pins told needed : List Text) (book : Pairs) (c : ℕ) → IsPaired book →
    value_of (with_room bits pins told needed book) c ≡ None →
    IsGone (pins ++ (told ++ needed)) book c
gone bits pins told needed book c p h =
    by_test (nat_lt (free_count bits book) (length (without_code book needed))) h
  where
    by_test : (b : Bool) →
        value_of (if b then keep (pins ++ (told ++ needed)) book else book) c ≡ None →
        IsGone (pins ++ (told ++ needed)) book c
    by_test true k = ⊎_elim
        (λ e. inl (sym e ∙ k))
        (λ (t, w, n, f). inr (t, w, f))
        (swept (pins ++ (told ++ needed)) book c p)
    by_test false k = inl k

-- the next book, where the texts told apart are those whose codes the trees tell apart
pub next_served : (bits first : ℕ) (trees : List Tree) (pins told needed : List Text)
    (before after : Pairs) → IsPaired before → IsNextBook bits pins told needed before after →
    AreTold trees first bits before told → (c : ℕ) → value_of after c ≡ None →
    (value_of before c ≡ None) ⊎ (told_apart trees first bits c ≡ false)
next_served bits first trees pins told needed before after p g tells c h =
    ⊎_elim
    (λ e. inl e)
    (λ (t, w, f). inr (by_test t w f (cases_Bool (told_apart trees first bits c))))
    (gone bits pins told needed before c p
    (gives_value bits (without_code before needed) (with_room bits pins told needed before) after g
    c h))
  where
    by_test : (t : Text) → value_of before c ≡ Some t →
        list_any (bytes_eq t) (pins ++ (told ++ needed)) ≡ false →
        (told_apart trees first bits c ≡ true) ⊎ (told_apart trees first bits c ≡ false) →
        told_apart trees first bits c ≡ false
    by_test t w f (inr e) = e
    by_test t w f (inl e) =
        let has = (tells.tells t c (reads_code before t c p w)).0 e in
        let kept = any_has (pins ++ (told ++ needed)) t
        (has_right pins (told ++ needed) t (has_left told needed t has)) in
        absurd (let z : false ≡ true = sym f ∙ kept in cc)

-- the books after an event, where the texts told apart are those whose codes the remembered trees
-- tell apart
pub next_memories : (s : Setting) (e : Event) (told : ℕ → List Text) (before books : ℕ → Pairs)
    (memory : ℕ → Tree) → ((x : ℕ) → x < s.variables → IsPaired (before x)) →
    AreNext s e told before books →
    ((x : ℕ) → x < s.variables →
    AreTold (of_temporal memory 1 s.subs) (first_of s x) s.bits (before x) (told x)) →
    AreMemories s before memory → AreMemories s books memory
next_memories s e told before books memory paired next tells m =
    served_memories s before books memory
    (λ x c v l n.
    next_served s.bits (first_of s x) (of_temporal memory 1 s.subs) (pinned s.subs x) (told x)
    (need s.subs x e) (before x) (books x) (paired x v) (next x v) (tells x v) c n)
    m
