-- The texts of a book whose codes trees tell apart are a list.
use Rattle.std.proofs.Common.{◌≡◌, ◌≢◌, ℕ, ◌↔◌, ◌⊎◌, inl, inr, ⊎_elim, refl, sym, ap, ◌∙◌, List, [], ◌∷◌, Bool, true, false, Some, None}
use Rattle.std.specs.Prelude.{if◌then◌else◌, bytes_eq}
use Rattle.qtl_syntax.specs.Tree.{Text}
use Rattle.subformulas.specs.Texts.{Has}
use Rattle.node_tree.specs.Tree.{Tree}
use Rattle.value_codes.specs.Pairs.{Pairs, code_of, IsPaired}
use Rattle.value_codes.proofs.Lookups.{Tells, texts_tell}
use Rattle.code_reclaim.specs.Told.{told_apart}
use Rattle.monitor_model.specs.Reading.{AreTold}

module _ (trees : List Tree) (first bits : ℕ) where
  -- the texts whose codes the trees tell apart, in order of the pairs
  abbrev pub told_in : Pairs → List Text
  told_in [] = []
  told_in (p ∷ book) = if told_apart trees first bits p.1 then p.0 ∷ told_in book else told_in book

  told_coded : (book : Pairs) (t : Text) → Has (told_in book) t → code_of book t ≢ None
  told_coded [] t h n = h
  told_coded (p ∷ book) t h n =
      by_test (λ k. told_coded book t k) (told_apart trees first bits p.1) h (texts_tell p.0 t) n
    where
      by_test : (Has (told_in book) t → code_of book t ≢ None) → (b : Bool) → Has (if b then p.0 ∷ told_in book else told_in book) t →
          Tells (bytes_eq p.0 t) (p.0 ≡ t) →
          (if bytes_eq p.0 t then Some p.1 else code_of book t) ≡ None → ⊥
      by_test rest b k (inl q) e =
          let x : (if true then Some p.1 else code_of book t) ≡ None = rw q.0 at e in
          let y : Some p.1 ≡ None = x in cc
      by_test rest true (inl s) (inr q) e = q.1 s
      by_test rest true (inr k) (inr q) e =
          rest k (let x : (if false then Some p.1 else code_of book t) ≡ None = rw q.0 at e in x)
      by_test rest false k (inr q) e =
          rest k (let x : (if false then Some p.1 else code_of book t) ≡ None = rw q.0 at e in x)

  told_tells : (book : Pairs) → IsPaired book → (t : Text) (c : ℕ) → code_of book t ≡ Some c →
      (told_apart trees first bits c ≡ true) ↔ Has (told_in book) t
  told_tells [] paired t c e = let no : ⊥ = cc in absurd no
  told_tells (p ∷ book) paired t c e =
      by_text (told_tells book paired.2 t c) (texts_tell p.0 t) (told_apart trees first bits p.1) refl e
    where
      none : p.0 ≡ t → Has (told_in book) t → ⊥
      none s h = told_coded book t h (ap (λ z. code_of book z) (sym s) ∙ paired.0)

      by_text : (code_of book t ≡ Some c →
          (told_apart trees first bits c ≡ true) ↔ Has (told_in book) t) →
          Tells (bytes_eq p.0 t) (p.0 ≡ t) → (b : Bool) → told_apart trees first bits p.1 ≡ b →
          (if bytes_eq p.0 t then Some p.1 else code_of book t) ≡ Some c →
          (told_apart trees first bits c ≡ true) ↔
          Has (if b then p.0 ∷ told_in book else told_in book) t
      by_text rest (inl q) true f k =
          let x : (if true then Some p.1 else code_of book t) ≡ Some c = rw q.0 at k in
          let same : p.1 ≡ c = (let y : Some p.1 ≡ Some c = x in cc) in
          (λ h. inl q.1, λ h. ap (told_apart trees first bits) (sym same) ∙ f)
      by_text rest (inl q) false f k =
          let x : (if true then Some p.1 else code_of book t) ≡ Some c = rw q.0 at k in
          let same : p.1 ≡ c = (let y : Some p.1 ≡ Some c = x in cc) in (
            λ h. absurd (let no : true ≡ false = sym h ∙ ap (told_apart trees first bits) (sym same) ∙ f in let never : ⊥ = cc in never),
            λ h. absurd (none q.1 h),
          )
      by_text rest (inr q) true f k =
          let x : (if false then Some p.1 else code_of book t) ≡ Some c = rw q.0 at k in
          let more = rest x in
          (λ h. inr (more.0 h), λ h. ⊎_elim (λ s. absurd (q.1 s)) more.1 h)
      by_text rest (inr q) false f k =
          let x : (if false then Some p.1 else code_of book t) ≡ Some c = rw q.0 at k in
          rest x

  -- so there is a list of them
  pub told_list : (book : Pairs) → IsPaired book →
      (told : List Text) × AreTold trees first bits book told
  told_list book paired = (
    told_in book,
    record {
      tells = told_tells book paired;
      coded = told_coded book;
    },
  )
