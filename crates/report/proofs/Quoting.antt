-- A list that is spelled element by element, in runs of elements that are spelled as they are.
use Rattle.std.proofs.Common.{◌≡◌, ℕ, ◌+◌, ◌<◌, ◌≤◌, List, [], ◌∷◌, ◌++◌, sym, ap, ◌∙◌, append_assoc, append-nil, take, drop, get_or, length, take-append-drop, arith}
use Rattle.std.specs.Prelude.{slice_range}
use Rattle.std.specs.List.{flat_map}
use Rattle.std.proofs.lemmas.List.{take_more, take_all, drop_all, drop-append-le, length-take, length-take-le}
use Rattle.std.proofs.lemmas.List.Concat.{flat_map-append}
use Rattle.std.proofs.lemmas.Slice.{between_is, between_to_end}

-- one element more
spelled_more : (f : ℕ → List ℕ) (xs : List ℕ) (i d : ℕ) → i < length xs → flat_map f (take (i + 1) xs) ≡ flat_map f (take i xs) ++ f (get_or xs i d)
spelled_more f xs i d h =
    ap (flat_map f) (take_more xs i d h) ∙ flat_map-append f (take i xs) (get_or xs i d ∷ []) ∙ ap (λ (l : List ℕ). flat_map f (take i xs) ++ l) (append-nil (f (get_or xs i d)))

-- a run that begins here
pub run_none : (f : ℕ → List ℕ) (xs : List ℕ) (i : ℕ) → flat_map f (take i xs) ++ drop i (take i xs) ≡ flat_map f (take i xs)
run_none f xs i =
    ap (λ (l : List ℕ). flat_map f (take i xs) ++ l) (drop_all i (take i xs) (let e = length-take i xs in omega (arith, e))) ∙ append-nil (flat_map f (take i xs))

-- a run that goes on
pub run_more : (f : ℕ → List ℕ) (xs : List ℕ) (from i d : ℕ) → from ≤ i → i < length xs → f (get_or xs i d) ≡ get_or xs i d ∷ [] →
    flat_map f (take from xs) ++ drop from (take i xs) ≡ flat_map f (take i xs) → flat_map f (take from xs) ++ drop from (take (i + 1) xs) ≡ flat_map f (take (i + 1) xs)
run_more f xs from i d below h plain run =
    let x = get_or xs i d in
    let front = flat_map f (take from xs) in
    let more : drop from (take (i + 1) xs) ≡ drop from (take i xs) ++ x ∷ [] =
    ap (drop from) (take_more xs i d h) ∙ drop-append-le from (take i xs) (x ∷ []) (let e = length-take-le i xs (omega (arith, h)) in omega (arith, e, below)) in
    ap (λ (l : List ℕ). front ++ l) more ∙ sym (append_assoc front (drop from (take i xs)) (x ∷ [])) ∙ ap (λ (l : List ℕ). l ++ x ∷ []) run ∙ ap (λ (l : List ℕ). flat_map f (take i xs) ++ l) (sym plain) ∙ sym (spelled_more f xs i d h)

-- a run that ends before an element that is spelled otherwise
pub run_ends : (f : ℕ → List ℕ) (xs : List ℕ) (from i d : ℕ) → i < length xs → flat_map f (take from xs) ++ drop from (take i xs) ≡ flat_map f (take i xs) →
    flat_map f (take from xs) ++ (slice_range xs from i ++ f (get_or xs i d)) ≡ flat_map f (take (i + 1) xs)
run_ends f xs from i d h run =
    let front = flat_map f (take from xs) in
    let last = f (get_or xs i d) in
    ap (λ (l : List ℕ). front ++ (l ++ last)) (between_is xs from i) ∙ sym (append_assoc front (drop from (take i xs)) last) ∙ ap (λ (l : List ℕ). l ++ last) run ∙ sym (spelled_more f xs i d h)

-- the elements before such a run, the run, this element, and those behind it
pub run_split : (f : ℕ → List ℕ) (xs : List ℕ) (from i d : ℕ) → i < length xs → flat_map f (take from xs) ++ drop from (take i xs) ≡ flat_map f (take i xs) →
    (flat_map f (take from xs) ++ (slice_range xs from i ++ f (get_or xs i d))) ++ flat_map f (drop (i + 1) xs) ≡ flat_map f xs
run_split f xs from i d h run =
    ap (λ (l : List ℕ). l ++ flat_map f (drop (i + 1) xs)) (run_ends f xs from i d h run) ∙ sym (flat_map-append f (take (i + 1) xs) (drop (i + 1) xs)) ∙ ap (flat_map f) (take-append-drop (i + 1) xs)

-- a run that goes to the end
pub run_last : (f : ℕ → List ℕ) (xs : List ℕ) (from i : ℕ) → length xs ≤ i → flat_map f (take from xs) ++ drop from (take i xs) ≡ flat_map f (take i xs) →
    flat_map f (take from xs) ++ slice_range xs from (length xs) ≡ flat_map f xs
run_last f xs from i h run =
    let all = take_all i xs h in
    ap (λ (l : List ℕ). flat_map f (take from xs) ++ l) (between_to_end xs from (length xs) (omega arith)) ∙ ap (λ (l : List ℕ). flat_map f (take from xs) ++ drop from l) (sym all) ∙ run ∙ ap (flat_map f) all
