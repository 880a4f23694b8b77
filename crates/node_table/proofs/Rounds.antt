-- Notes, and their marks by rounds.
use Rattle.std.proofs.Common.{◌≡◌, ◌≢◌, ℕ, ◌<◌, ◌≤◌, List, length, set, refl, ap, sym, ◌∙◌, arith, subst, ⊎_elim, get_or-set_other, get_or-set_same}
use Rattle.std.specs.Prelude.{Bool, true, false, Option, Some, None, cond, not, ◌==◌, nat_eq, slice_index_or, IsTrue, ◌↔◌}
use Rattle.std.specs.Prelude.{map}
use Rattle.std.proofs.Math.ListN.{get_or-map}
use Rattle.std.proofs.lemmas.Bool.{cases_eq}
use Rattle.std.proofs.lemmas.Bool.Decides.{Decides-eqb}
use Rattle.node_table.specs.declared.arrays.Slot.{Slot}
use Rattle.node_table.specs.Table.{is_marked, note_of}
use Rattle.node_table.specs.Arrays.{notes_of, table_of}

pub unequal : (a b : ℕ) → a ≢ b → nat_eq a b ≡ false
unequal a b e = elim (nat_eq a b) as (λ x. nat_eq a b ≡ x → x ≡ false) [ true ↦ λ i. absurd (e ((Decides-eqb a b).0 i)) | false ↦ λ i. refl ] refl

-- what a number's note is in the arrays
abbrev note_in : List ℕ → List ℕ → ℕ → ℕ → Option ℕ
note_in marks found round h = cond (nat_eq (slice_index_or marks h 0) round) (Some (slice_index_or found h 0)) None

module _ (room : ℕ) (slots : List Slot) (marks found : List ℕ) (round : ℕ) (started : 0 < round) where
  -- a number has a note where its mark is the round's
  pub marked_at : (h : ℕ) → is_marked (table_of room slots (notes_of marks found round)) h ≡ nat_eq (slice_index_or marks h 0) round
  marked_at h =
      let none : nat_eq 0 round ≡ false = unequal 0 round (λ e. omega (arith, e, started)) in
      ap (λ b. slice_index_or (map (λ m. nat_eq m round) marks) h b) (sym none) ∙ get_or-map (λ m. nat_eq m round) marks h 0

  -- what the arrays note is what contracts see
  pub noted_at : (h : ℕ) → note_of (table_of room slots (notes_of marks found round)) h ≡ note_in marks found round h
  noted_at h = ap (λ b. cond b (Some (slice_index_or found h 0)) None) (marked_at h)

  -- in a new round nothing is noted
  pub none_noted : ((h : ℕ) → slice_index_or marks h 0 < round) → (h : ℕ) → note_of (table_of room slots (notes_of marks found round)) h ≡ None
  none_noted less h =
      noted_at h ∙ ap (λ b. cond b (Some (slice_index_or found h 0)) None) (unequal (slice_index_or marks h 0) round (λ e. (let l = less h in omega (arith, e, l))))

  -- what a note says, where there is one
  pub read_note : (h mark value : ℕ) → mark ≡ slice_index_or marks h 0 → mark ≡ round → value ≡ slice_index_or found h 0 → Some value ≡ note_of (table_of room slots (notes_of marks found round)) h
  read_note h mark value here same is =
      ap (λ (v : ℕ). Some v) is ∙ sym (noted_at h ∙ ap (λ b. cond b (Some (slice_index_or found h 0)) None) ((Decides-eqb (slice_index_or marks h 0) round).1 (sym here ∙ same)))

  pub no_note : (h mark : ℕ) → mark ≡ slice_index_or marks h 0 → mark ≢ round → None ≡ note_of (table_of room slots (notes_of marks found round)) h
  no_note h mark here other =
      sym (noted_at h ∙ ap (λ b. cond b (Some (slice_index_or found h 0)) None) (unequal (slice_index_or marks h 0) round (λ e. other (here ∙ e))))

  -- marks that read alike give the same notes
  pub notes_alike : (later : List Slot) (new : List ℕ) → ((h : ℕ) → slice_index_or new h 0 ≡ slice_index_or marks h 0) → (h : ℕ) → note_of (table_of room later (notes_of new found round)) h ≡ note_of (table_of room slots (notes_of marks found round)) h
  notes_alike later new same h =
      ap (λ b. cond b (Some (slice_index_or found h 0)) None) (alike h) ∙ sym (noted_at h)
    where
      alike : (h : ℕ) → slice_index_or (map (λ m. nat_eq m round) new) h false ≡ nat_eq (slice_index_or marks h 0) round
      alike h =
          let none : nat_eq 0 round ≡ false = unequal 0 round (λ e. omega (arith, e, started)) in
          ap (λ b. slice_index_or (map (λ m. nat_eq m round) new) h b) (sym none) ∙ get_or-map (λ m. nat_eq m round) new h 0 ∙ ap (λ m. nat_eq m round) (same h)

module _ (marks : List ℕ) (round number : ℕ) (fits : number < length marks) where
  pub set_rounds : ((h : ℕ) → slice_index_or marks h 0 ≤ round) → (h : ℕ) → slice_index_or (set marks number round) h 0 ≤ round
  set_rounds all h = ⊎_elim
      (λ (q : h ≡ number). subst (λ k. slice_index_or (set marks number round) k 0 ≤ round) (sym q) (subst (λ m. m ≤ round) (sym (get_or-set_same marks number round 0 fits)) (omega arith)))
      (λ (q : h ≢ number). subst (λ m. m ≤ round) (sym (get_or-set_other marks number h round 0 q)) (all h))
      (cases_eq h number)

  set_mark : (h : ℕ) → nat_eq (slice_index_or (set marks number round) h 0) round ≡ cond (h == number) true (nat_eq (slice_index_or marks h 0) round)
  set_mark h = ⊎_elim
      (λ (q : h ≡ number).
      ap (λ k. nat_eq (slice_index_or (set marks number round) k 0) round) q ∙ ap (λ m. nat_eq m round) (get_or-set_same marks number round 0 fits) ∙ (Decides-eqb round round).1 refl
      ∙ sym (ap (λ b. cond b true (nat_eq (slice_index_or marks h 0) round)) ((Decides-eqb h number).1 q)))
      (λ (q : h ≢ number).
      ap (λ m. nat_eq m round) (get_or-set_other marks number h round 0 q) ∙ sym (ap (λ b. cond b true (nat_eq (slice_index_or marks h 0) round)) (unequal h number q)))
      (cases_eq h number)

  module _ (room : ℕ) (slots : List Slot) (found : List ℕ) (started : 0 < round) where
    pub set_marked : (h : ℕ) → is_marked (table_of room slots (notes_of (set marks number round) found round)) h ≡ cond (h == number) true (is_marked (table_of room slots (notes_of marks found round)) h)
    set_marked h =
        marked_at room slots (set marks number round) found round started h
        ∙ set_mark h
        ∙ ap (λ b. cond (h == number) true b) (sym (marked_at room slots marks found round started h))

    -- a note that was taken, and the others
    pub set_noted : (later : List ℕ) (value : ℕ) → ((k : ℕ) → slice_index_or later k 0 ≡ cond (k == number) value (slice_index_or found k 0)) →
        (k : ℕ) → note_of (table_of room slots (notes_of (set marks number round) later round)) k ≡ cond (k == number) (Some value) (note_of (table_of room slots (notes_of marks found round)) k)
    set_noted later value written k =
        noted_at room slots (set marks number round) later round started k
        ∙ ap (λ b. cond b (Some (slice_index_or later k 0)) None) (set_mark k)
        ∙ ap (λ v. cond (cond (k == number) true (nat_eq (slice_index_or marks k 0) round)) (Some v) None) (written k)
        ∙ both (k == number) (nat_eq (slice_index_or marks k 0) round) value (slice_index_or found k 0)
        ∙ ap (λ n. cond (k == number) (Some value) n) (sym (noted_at room slots marks found round started k))
      where
        both : (b m : Bool) (v w : ℕ) → cond (cond b true m) (Some (cond b v w)) None ≡ cond b (Some v) (cond m (Some w) None)
        both true m v w = refl
        both false m v w = refl

pub was_unmarked : (b : Bool) → IsTrue (not b) ↔ (b ≡ false)
was_unmarked true = ((λ e. cc), (λ e. cc))
was_unmarked false = ((λ e. refl), (λ e. refl))
