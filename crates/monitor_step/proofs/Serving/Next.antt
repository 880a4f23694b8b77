-- Serving a variable does what the next book is defined by.
use Rattle.std.proofs.Common.{◌≡◌, ◌≢◌, ℕ, suc, ◌+◌, ◌-◌, ◌^◌, ◌<◌, ◌≤◌, ◌⊎◌, ◌↔◌, ◌∙◌, [], ◌∷◌, ◌++◌, List, length, inl, inr, ⊎_elim, refl, sym, ap, subst, arith, Bool, true, false, ◌||◌, Option, Some, None}
use Rattle.std.specs.Prelude.{nat_lt, is_some, if◌then◌else◌}
use Rattle.std.proofs.lemmas.Bool.Decides.{nat_tests}
use Rattle.std.proofs.lemmas.Nat.{pow_pos}
use Rattle.qtl_syntax.specs.Tree.{Text}
use Rattle.subformulas.specs.Texts.{Has}
use Rattle.subformulas.specs.Needs.{code_need}
use Rattle.subformulas.proofs.Alike.{has_left, has_right}
use Rattle.subformulas.proofs.Plain.{has_cases}
use Rattle.node_tree.specs.Tree.{Tree}
use Rattle.value_codes.specs.Pairs.{Pairs, Contents, code_of, IsBook, IsPaired}
use Rattle.value_codes.proofs.Lookups.{code_reads}
use Rattle.code_reclaim.specs.Told.{told_apart}
use Rattle.code_reclaim.specs.Swept.{stands_in, stays, kept_code, Keeps}
use Rattle.monitor_model.specs.Books.{AllApart, Gives, keep, without_code, free_count}
use Rattle.monitor_model.specs.Reading.{AreTold}
use Rattle.monitor_model.specs.State.{SameCodes}
use Rattle.monitor_model.proofs.Books.Counted.{need_is, need_small}
use Rattle.monitor_model.proofs.Books.Order.{same_length, kept_same}
use Rattle.monitor_model.proofs.Books.Pairing.{paired_kept}
use Rattle.monitor_step.specs.declared.serve.ServeEnd.{ServeEnd}
use Rattle.monitor_step.specs.declared.serve.ServeEnd.TheVariants as serve
use Rattle.monitor_step.specs.Giving.{marked, GivesAll, TakesTooMany}
use Rattle.monitor_step.specs.Serving.{IsServed, IsFull, IsEndAt}
use Rattle.monitor_step.proofs.Serving.Marked.{code_small, marked_from, marked_have, marked_same}

or_split : (x y : Bool) → (x || y) ≡ true → (x ≡ true) ⊎ (y ≡ true)
or_split true y h = inl refl
or_split false y h = inr h

or_right : (x y : Bool) → y ≡ true → (x || y) ≡ true
or_right true y h = refl
or_right false y h = h

-- texts with the same codes are new alike
same_new : (a b : Pairs) (ts : List Text) →
    ((t : Text) → Has ts t → code_of a t ≡ code_of b t) → without_code a ts ≡ without_code b ts
same_new a b [] h = refl
same_new a b (t ∷ ts) h = rw (h t (inl refl), same_new a b ts (λ u k. h u (inr k))) refl

test_no : (m n : ℕ) → n ≤ m → nat_lt m n ≡ false
test_no m n l = grind (arith, nat_tests)

test_yes : (m n : ℕ) → m < n → nat_lt m n ≡ true
test_yes m n l = grind (arith, nat_tests)

module _ (trees : List Tree) (first bits : ℕ) (needed : List Text) (book : Contents)
    (sound : IsBook book) where
  abbrev before : Pairs
  before = book.pairs

  abbrev kept : ℕ → Bool
  kept = stays trees first bits (marked before needed)

  -- a code that stays is that of a text that is told apart or needed
  stays_told : (told : List Text) → AreTold trees first bits before told → (t : Text) (c : ℕ) →
      code_of before t ≡ Some c → (kept c ≡ true) ↔ Has (told ++ needed) t
  stays_told told tells t c e = (
    λ h. ⊎_elim (λ p. has_left told needed t ((tells.tells t c e).0 p))
        (λ p. has_right told needed t
        (by_text (marked_from before needed c (code_small book sound t c e) p)))
        (or_split (told_apart trees first bits c) (stands_in (marked before needed) c) h),
    λ h. ⊎_elim (λ p. let q = (tells.tells t c e).1 p in rw q refl)
        (λ p. or_right (told_apart trees first bits c) (stands_in (marked before needed) c)
        (marked_have before needed t c p e))
        (has_cases told needed t h),
  )
    where
      by_text : (u : Text) × Has needed u × (code_of before u ≡ Some c) → Has needed t
      by_text (u, h, f) =
          let g : Some u ≡ Some t =
          sym (code_reads before u c sound.paired f) ∙ code_reads before t c sound.paired e in
          let k : u ≡ t = cc in
          subst (Has needed) k h

  -- a needed text keeps its code at a sweep
  needed_stay : (mid : Pairs) → Keeps kept before mid → (t : Text) → Has needed t →
      code_of mid t ≡ code_of before t
  needed_stay mid k t h = k.codes t ∙ by_code (code_of before t) refl
    where
      by_code : (o : Option ℕ) → code_of before t ≡ o → kept_code kept o ≡ o
      by_code None e = refl
      by_code (Some c) e =
          let s : kept c ≡ true =
          or_right (told_apart trees first bits c) (stands_in (marked before needed) c)
          (marked_have before needed t c h e) in
          ap (λ b. if b then Some c else None) s

  new_stay : (mid : Pairs) → Keeps kept before mid →
      without_code mid needed ≡ without_code before needed
  new_stay mid k = same_new mid before needed (needed_stay mid k)

  marked_stay : (mid : Pairs) → Keeps kept before mid → marked mid needed ≡ marked before needed
  marked_stay mid k = marked_same mid before needed (needed_stay mid k)

  module _ (few : length before ≤ 2 ^ bits - 1) (apart : AllApart needed) where
    -- where the new texts find free codes
    served_free : (after : Pairs) →
        length before + length (without_code before needed) < 2 ^ bits →
        GivesAll bits needed before after → IsServed trees first bits needed before after
    served_free after room gives told tells =
        let (next, g, r) = gives before sound.paired (λ t. refl) in
        let fits : length (without_code before needed) ≤ free_count bits before =
        omega (arith, room) in
        let small =
        need_small bits [] told needed before apart sound.paired (λ t h. absurd h) tells.coded few
        fits in
        let some = pow_pos bits in
        record {
          enough = omega (arith, small, some);
          next = next;
          is_next = rw
              (test_no (free_count bits before) (length (without_code before needed)) fits) g;
          same = r;
        }

    module _ (mid : Pairs) (keeps : Keeps kept before mid) (q : IsPaired mid)
        (full : 2 ^ bits ≤ length before + length (without_code before needed)) where
      swept_same : (told : List Text) → AreTold trees first bits before told →
          SameCodes mid (keep (told ++ needed) before)
      swept_same told tells =
          kept_same (told ++ needed) before before mid kept (λ t. refl) keeps
          (stays_told told tells)

      need_counted : (told : List Text) → AreTold trees first bits before told →
          code_need [] told needed ≡ length mid + length (without_code before needed)
      need_counted told tells =
          let e =
          need_is [] told needed before apart sound.paired (λ t h. absurd h) tells.coded in
          let same =
          same_length mid (keep (told ++ needed) before) q
          (paired_kept (told ++ needed) before sound.paired) (swept_same told tells) in
          omega (arith, e, same)

      -- where they find free codes after the sweep
      served_swept : (after : Pairs) →
          length mid + length (without_code before needed) < 2 ^ bits →
          GivesAll bits needed mid after → IsServed trees first bits needed before after
      served_swept after room gives told tells =
          let (next, g, r) =
          gives (keep (told ++ needed) before) (paired_kept (told ++ needed) before sound.paired)
          (swept_same told tells) in
          let some = pow_pos bits in
          let more : free_count bits before < length (without_code before needed) =
          omega (arith, full, few, some) in
          record {
            enough = rw (need_counted told tells) room;
            next = next;
            is_next = rw
                (test_yes (free_count bits before) (length (without_code before needed)) more)
                (subst (λ ts. Gives bits ts (keep (told ++ needed) before) next)
                (new_stay mid keeps) g);
            same = r;
          }

      -- where they don't
      full_swept : 2 ^ bits ≤ length mid + length (without_code before needed) →
          IsFull trees first bits needed before
          (length mid + length (without_code before needed))
      full_swept more told tells =
          record { counts = sym (need_counted told tells); more = more }

-- where there is no new text the book stays
gives_none : (bits : ℕ) (needed : List Text) (before : Pairs) →
    length (without_code before needed) ≡ 0 → GivesAll bits needed before before
gives_none bits needed before none book p s = (book, by_new (without_code before needed) none, s)
  where
    by_new : (ts : List Text) → length ts ≡ 0 → Gives bits ts book book
    by_new [] e = refl
    by_new (t ∷ ts) e = absurd (let f : suc (length ts) ≡ 0 = e in omega (arith, f))

-- where each text has a code there is no new one
none_new : (book : Pairs) (ts : List Text) → ((t : Text) → Has ts t → code_of book t ≢ None) →
    length (without_code book ts) ≡ 0
none_new book [] h = refl
none_new book (t ∷ ts) h =
    by_code (code_of book t) refl (none_new book ts (λ u k. h u (inr k)))
  where
    by_code : (o : Option ℕ) → code_of book t ≡ o → length (without_code book ts) ≡ 0 →
        length (if is_some o then without_code book ts else t ∷ without_code book ts) ≡ 0
    by_code None e k = absurd (h t (inl refl) e)
    by_code (Some c) e k = k

-- ---- where the codes are ready to be given

-- what is left after a sweep
pub record IsSwept (trees : List Tree) (first bits : ℕ) (needed : List Text) (before mid : Pairs) :
    Type 0 where
  pub keeps : Keeps (stays trees first bits (marked before needed)) before mid
  pub full : 2 ^ bits ≤ length before + length (without_code before needed)

-- the new texts find free codes, maybe after a sweep
pub record HasRoom (trees : List Tree) (first bits : ℕ) (needed : List Text) (before : Pairs)
    (mid : Contents) : Type 0 where
  pub ready : (mid.pairs ≡ before) ⊎ IsSwept trees first bits needed before mid.pairs
  pub room : length mid.pairs + length (without_code before needed) < 2 ^ bits
  pub same_bits : mid.bits ≡ bits
  pub sound : IsBook mid

-- what counting the free codes and the new texts tells, before there is a sweep
pub record IsCounted (bits : ℕ) (needed : List Text) (before : Contents) (free new : ℕ) :
    Type 0 where
  pub sound : IsBook before
  pub same_bits : before.bits ≡ bits
  pub frees : free + length before.pairs ≡ 2 ^ before.bits - 1
  pub news : new ≡ length (without_code before.pairs needed)

module _ (trees : List Tree) (first bits : ℕ) (needed : List Text) (before : Contents)
    (free new : ℕ) (c : IsCounted bits needed before free new) where
  all_codes : free + length before.pairs + 1 ≡ 2 ^ bits
  all_codes =
      let a = c.frees in let some = pow_pos before.bits in
      let e = ap (λ (n : ℕ). 2 ^ n) c.same_bits in
      omega (arith, a, some, e)

  few_pairs : length before.pairs ≤ 2 ^ bits - 1
  few_pairs = let a = all_codes in omega (arith, a)

  pub room_free : new ≤ free → HasRoom trees first bits needed before.pairs before
  room_free l = record {
    ready = inl refl;
    room = let a = all_codes in let n = c.news in omega (arith, a, n, l);
    same_bits = c.same_bits;
    sound = c.sound;
  }

  pub is_swept : (mid : Pairs) (codes : List ℕ) → free < new →
      codes ≡ marked before.pairs needed → Keeps (stays trees first bits codes) before.pairs mid →
      IsSwept trees first bits needed before.pairs mid
  is_swept mid codes l listed keeps = record {
    keeps = subst (λ (cs : List ℕ). Keeps (stays trees first bits cs) before.pairs mid) listed
        keeps;
    full = let a = all_codes in let n = c.news in omega (arith, a, n, l);
  }

  pub room_swept : (mid : Contents) → IsSwept trees first bits needed before.pairs mid.pairs →
      length mid.pairs + new < 2 ^ bits → mid.bits ≡ before.bits → IsBook mid →
      HasRoom trees first bits needed before.pairs mid
  room_swept mid swept room same sound = record {
    ready = inr swept;
    room = let n = c.news in omega (arith, n, room);
    same_bits = same ∙ c.same_bits;
    sound = sound;
  }

  pub none_counted : ((t : Text) → Has needed t → code_of before.pairs t ≢ None) → new ≡ 0
  none_counted coded = c.news ∙ none_new before.pairs needed coded

  pub ready_marked : (mid : Contents) → HasRoom trees first bits needed before.pairs mid →
      marked mid.pairs needed ≡ marked before.pairs needed
  ready_marked mid r = by_case r.ready
    where
      by_case : (mid.pairs ≡ before.pairs) ⊎
          IsSwept trees first bits needed before.pairs mid.pairs →
          marked mid.pairs needed ≡ marked before.pairs needed
      by_case (inl e) = ap (λ b. marked b needed) e
      by_case (inr s) = marked_stay trees first bits needed before c.sound mid.pairs s.keeps

  pub room_ready : (mid : Contents) → HasRoom trees first bits needed before.pairs mid →
      length mid.pairs + length (without_code mid.pairs needed) < 2 ^ mid.bits
  room_ready mid r = rw (by_case r.ready, r.same_bits) r.room
    where
      by_case : (mid.pairs ≡ before.pairs) ⊎
          IsSwept trees first bits needed before.pairs mid.pairs →
          without_code mid.pairs needed ≡ without_code before.pairs needed
      by_case (inl e) = ap (λ b. without_code b needed) e
      by_case (inr s) = new_stay trees first bits needed before c.sound mid.pairs s.keeps

  module _ (apart : AllApart needed) where
    pub served_ready : (mid : Contents) (after : Pairs) →
        HasRoom trees first bits needed before.pairs mid →
        GivesAll mid.bits needed mid.pairs after → IsServed trees first bits needed before.pairs after
    served_ready mid after r gives = by_case r.ready
      where
        all : GivesAll bits needed mid.pairs after
        all = subst (λ (n : ℕ). GivesAll n needed mid.pairs after) r.same_bits gives

        by_case : (mid.pairs ≡ before.pairs) ⊎
            IsSwept trees first bits needed before.pairs mid.pairs →
            IsServed trees first bits needed before.pairs after
        by_case (inl e) =
            served_free trees first bits needed before c.sound few_pairs apart after
            (subst (λ b. length b + length (without_code before.pairs needed) < 2 ^ bits) e r.room)
            (subst (λ b. GivesAll bits needed b after) e all)
        by_case (inr s) =
            served_swept trees first bits needed before c.sound few_pairs apart mid.pairs s.keeps
            r.sound.paired s.full after r.room all

    -- where there is no new text
    pub served_none : new ≡ 0 → IsServed trees first bits needed before.pairs before.pairs
    served_none e =
        served_ready before before.pairs (room_free (omega (arith, e)))
        (gives_none before.bits needed before.pairs (sym c.news ∙ e))

    -- an end says what it has to
    pub end_ready : (variable : ℕ) (mid : Contents) → IsBook mid →
        IsSwept trees first bits needed before.pairs mid.pairs → (e : ServeEnd) →
        TakesTooMany bits variable (length mid.pairs + new) e →
        IsEndAt trees first bits variable needed before.pairs e
    end_ready variable mid sound s (serve.CodesFull x need) (here, e, more) =
        let n : length mid.pairs + new ≡
        length mid.pairs + length (without_code before.pairs needed) =
        ap (λ (k : ℕ). length mid.pairs + k) c.news in (
          here,
          subst (IsFull trees first bits needed before.pairs) (sym (e ∙ n))
              (full_swept trees first bits needed before c.sound few_pairs apart mid.pairs s.keeps
              sound.paired s.full (subst (λ (k : ℕ). 2 ^ bits ≤ k) n more)),
        )
    end_ready variable mid sound s serve.NoMemory h = tt
