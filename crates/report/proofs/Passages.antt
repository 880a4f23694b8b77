-- Bytes that pass through a buffer in several calls.
use Rattle.std.proofs.Common.{◌≡◌, ℕ, ◌+◌, ◌<◌, List, [], ◌∷◌, ◌++◌, refl, sym, ap, ◌∙◌, append_assoc, append-nil, map, take, drop, get_or, length, take-append-drop, subst}
use Rattle.std.specs.List.{concat}
use Rattle.std.proofs.lemmas.List.{take_more, map-append}
use Rattle.std.specs.Prelude.{Option}
use Rattle.std.specs.Io.KnownBytes.{Appends}
use Rattle.std.proofs.KnownBytes.{Appends-nil, Appends-trans}
use Rattle.mon_base.specs.Told.{AppendsFront}
use Rattle.mon_base.proofs.Appending.{front_after}
use Rattle.report.specs.Passing.{Passes}

-- all is held back
pub passes_held : (a : Option (List ℕ)) (held bytes : List ℕ) → Passes a a held (held ++ bytes) bytes
passes_held a held bytes = record { sent = []; grown = Appends-nil a; whole = refl }

-- what was held back is written first
pub passes_flushed : (a b : Option (List ℕ)) (held bytes : List ℕ) → Appends a b held → Passes a b held bytes bytes
passes_flushed a b held bytes h = record { sent = held; grown = h; whole = refl }

-- and the bytes too
pub passes_through : (a b c : Option (List ℕ)) (held bytes : List ℕ) → Appends a b held → Appends b c bytes → Passes a c held [] bytes
passes_through a b c held bytes h k = record { sent = held ++ bytes; grown = Appends-trans a b c held bytes h k; whole = append-nil (held ++ bytes) }

-- no bytes at all
pub passes_none : (a : Option (List ℕ)) (held : List ℕ) → Passes a a held held []
passes_none a held = record { sent = []; grown = Appends-nil a; whole = sym (append-nil held) }

-- one call after the other
pub passes_trans : (a b c : Option (List ℕ)) (p q r xs ys : List ℕ) → Passes a b p q xs → Passes b c q r ys → Passes a c p r (xs ++ ys)
passes_trans a b c p q r xs ys h k = record {
  sent = h.sent ++ k.sent;
  grown = Appends-trans a b c h.sent k.sent h.grown k.grown;
  whole = append_assoc h.sent k.sent r ∙ ap (λ (l : List ℕ). h.sent ++ l) k.whole ∙ sym (append_assoc h.sent q ys) ∙ ap (λ (l : List ℕ). l ++ ys) h.whole ∙ append_assoc p xs ys;
}

-- a front of some bytes is one of more
pub front_more : (a b : Option (List ℕ)) (bytes more : List ℕ) → AppendsFront a b bytes → AppendsFront a b (bytes ++ more)
front_more a b bytes more f = record {
  front = f.front;
  rest = f.rest ++ more;
  split = ap (λ (l : List ℕ). l ++ more) f.split ∙ append_assoc f.front f.rest more;
  grown = f.grown;
}

-- one call, and then one that fails
pub passes_front : (a b c : Option (List ℕ)) (p q xs ys : List ℕ) → Passes a b p q xs → AppendsFront b c (q ++ ys) → AppendsFront a c (p ++ (xs ++ ys))
passes_front a b c p q xs ys h f =
    front_after a b c h.sent (q ++ ys) [] (p ++ (xs ++ ys)) h.grown f
    (sym (append_assoc p xs ys) ∙ ap (λ (l : List ℕ). l ++ ys) (sym h.whole) ∙ append_assoc h.sent q ys ∙ ap (λ (l : List ℕ). h.sent ++ l) (sym (append-nil (q ++ ys))))

concat_append : (xs ys : List (List ℕ)) → concat (xs ++ ys) ≡ concat xs ++ concat ys
concat_append [] ys = refl
concat_append (x ∷ xs) ys = ap (λ (l : List ℕ). x ++ l) (concat_append xs ys) ∙ sym (append_assoc x (concat xs) (concat ys))

-- one part more
pub parts_more : {X : Type 0} (f : X → List ℕ) (xs : List X) (i : ℕ) (d : X) → i < length xs → concat (map f (take (i + 1) xs)) ≡ concat (map f (take i xs)) ++ f (get_or xs i d)
parts_more f xs i d h =
    ap (λ l. concat (map f l)) (take_more xs i d h) ∙ ap concat (map-append f (take i xs) (get_or xs i d ∷ [])) ∙ concat_append (map f (take i xs)) (f (get_or xs i d) ∷ []) ∙ ap (λ (l : List ℕ). concat (map f (take i xs)) ++ l) (append-nil (f (get_or xs i d)))

-- the parts so far, this one, and those behind it
pub parts_split : {X : Type 0} (f : X → List ℕ) (xs : List X) (i : ℕ) (d : X) → i < length xs →
    concat (map f xs) ≡ (concat (map f (take i xs)) ++ f (get_or xs i d)) ++ concat (map f (drop (i + 1) xs))
parts_split f xs i d h =
    ap (λ l. concat (map f l)) (sym (take-append-drop (i + 1) xs)) ∙ ap concat (map-append f (take (i + 1) xs) (drop (i + 1) xs)) ∙ concat_append (map f (take (i + 1) xs)) (map f (drop (i + 1) xs)) ∙ ap (λ (l : List ℕ). l ++ concat (map f (drop (i + 1) xs))) (parts_more f xs i d h)

-- what was held back is written, and a front of the bytes
pub flushed_front : (a b c : Option (List ℕ)) (held bytes : List ℕ) → Appends a b held → AppendsFront b c bytes → AppendsFront a c (held ++ bytes)
flushed_front a b c held bytes h f =
    front_after a b c held bytes [] (held ++ bytes) h f (ap (λ (l : List ℕ). held ++ l) (sym (append-nil bytes)))

-- a write of what is held back fails after some bytes more
pub front_flushed : (a b c : Option (List ℕ)) (p q xs : List ℕ) → Passes a b p q xs → AppendsFront b c q → AppendsFront a c (p ++ xs)
front_flushed a b c p q xs h f =
    subst (λ (l : List ℕ). AppendsFront a c (p ++ l)) (append-nil xs) (passes_front a b c p q xs [] h (subst (λ (l : List ℕ). AppendsFront b c l) (sym (append-nil q)) f))

-- one call that fails before another
pub front_before : (a b : Option (List ℕ)) (p xs ys : List ℕ) → AppendsFront a b (p ++ xs) → AppendsFront a b (p ++ (xs ++ ys))
front_before a b p xs ys f = subst (λ (l : List ℕ). AppendsFront a b l) (append_assoc p xs ys) (front_more a b (p ++ xs) ys f)
