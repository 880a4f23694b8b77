-- Texts cut at their commas.
use Rattle.std.proofs.Common.{◌≡◌, ◌∙◌, ℕ, ◌<◌, Bool, true, false, List, [], ◌∷◌, ◌++◌, length, Option, Some, None, refl, sym, ap, subst, arith}
use Rattle.std.specs.Prelude.{MatchOption}
use Rattle.std.specs.Borrow.{Bor}
use Rattle.std.specs.List.{join_with_byte}
use Rattle.std.specs.Str.{all_ascii_digits}
use Rattle.std.proofs.lemmas.Grind.{common_steps}
use Rattle.std.proofs.lemmas.List.Splits.{join_with_byte-slice_split}
use Rattle.std.proofs.lemmas.Str.Parse.{not_in_digits}
use Rattle.std.proofs.lemmas.Str.Pattern.{IsSplitOnceResult, split_parts}
use Rattle.clap.proofs.CutLemmas.{slice_split-Lacks, slice_split-at}
use Rattle.settings.specs.Asked.{FromSample, pieces, sample_of}
use Rattle.settings.specs.Numbers.{given, number_within}
use Rattle.settings.proofs.Digits.{own}

-- at the first comma a text is cut
pub cut_once : (bs : List ℕ) (r : Option (Bor (List ℕ) × Bor (List ℕ))) → IsSplitOnceResult 44 bs r
    → MatchOption r (pieces bs ≡ bs ∷ []) (λ x. (pieces bs ≡ x.0.now ∷ pieces x.1.now) × (length x.1.now < length bs))
cut_once bs None h = slice_split-Lacks 44 bs (split_parts 44 bs None h (omega arith))
cut_once bs (Some x) h =
    let parts = split_parts 44 bs (Some x) h (omega arith) in
    let shorter : length x.1.now < length (x.0.now ++ (44 ∷ x.1.now)) = grind (arith, common_steps) in
    (ap pieces parts.0 ∙ slice_split-at 44 x.0.now x.1.now parts.1, subst (λ (t : List ℕ). length x.1.now < length t) (sym parts.0) shorter)

-- digits have no comma
pub pieces-digits : (bs : List ℕ) → all_ascii_digits bs ≡ true → pieces bs ≡ bs ∷ []
pieces-digits bs digits = slice_split-Lacks 44 bs (not_in_digits own bs 44 digits (λ within. omega (arith, within.0)))

given_none : {A B : Type 0} (o : Option A) → given {B = B} o (λ _. None) ≡ None
given_none None = refl
given_none (Some x) = refl

no_digits : (least most : ℕ) (t : List ℕ) → all_ascii_digits t ≡ false → number_within least most t ≡ None
no_digits least most t none = grind (arith, common_steps)

-- a sample by what stands behind the first comma
pub sample_of-cut : (seed events : List ℕ) → sample_of (seed ∷ pieces events)
    ≡ given (number_within 0 4294967295 seed) (λ s. given (number_within 1 10000000 events) (λ n. Some (FromSample s n)))
sample_of-cut seed events = by_digits (all_ascii_digits events) refl
  where
    by_pieces : (ps : List (List ℕ)) → pieces events ≡ ps → all_ascii_digits events ≡ false → sample_of (seed ∷ ps) ≡ None
    by_pieces [] e none = refl
    by_pieces (p ∷ []) e none =
        let same : p ≡ events = ap (join_with_byte 44) (sym e) ∙ join_with_byte-slice_split 44 events in
        rw (same, no_digits 1 10000000 events none) (given_none (number_within 0 4294967295 seed))
    by_pieces (p ∷ q ∷ ps) e none = refl

    by_digits : (b : Bool) → all_ascii_digits events ≡ b → sample_of (seed ∷ pieces events)
        ≡ given (number_within 0 4294967295 seed) (λ s. given (number_within 1 10000000 events) (λ n. Some (FromSample s n)))
    by_digits true digits = ap (λ (ps : List (List ℕ)). sample_of (seed ∷ ps)) (pieces-digits events digits)
    by_digits false none =
        by_pieces (pieces events) refl none ∙ sym (rw (no_digits 1 10000000 events none) (given_none (number_within 0 4294967295 seed)))

-- the same, by the two numbers
pub sample_of-numbers : (seed events : List ℕ) (s n : Option ℕ) → s ≡ number_within 0 4294967295 seed → n ≡ number_within 1 10000000 events
    → sample_of (seed ∷ pieces events) ≡ given s (λ s. given n (λ n. Some (FromSample s n)))
sample_of-numbers seed events s n seed_is events_is =
    sample_of-cut seed events
    ∙ ap (λ (o : Option ℕ). given o (λ s. given (number_within 1 10000000 events) (λ n. Some (FromSample s n)))) (sym seed_is)
    ∙ ap (λ (o : Option ℕ). given s (λ s. given o (λ n. Some (FromSample s n)))) (sym events_is)
