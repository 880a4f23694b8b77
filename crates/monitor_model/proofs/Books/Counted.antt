-- How many codes an event takes, counted in the book.
use Rattle.std.proofs.Common.{◌≡◌, ◌≢◌, ℕ, ◌+◌, ◌-◌, ◌^◌, ◌≤◌, ◌⊎◌, inl, inr, arith, refl, List, [], ◌∷◌, ◌++◌, length, length-append, Bool, true, false, Option, Some, None}
use Rattle.std.specs.Prelude.{if◌then◌else◌, bytes_eq}
use Rattle.std.specs.List.{list_any}
use Rattle.qtl_syntax.specs.Tree.{Text}
use Rattle.qtl_truth.specs.declared.event.Event.{Event}
use Rattle.subformulas.specs.Memory.{Told}
use Rattle.subformulas.specs.Needs.{code_need, IsToldTexts}
use Rattle.subformulas.specs.Table.{IsTable}
use Rattle.subformulas.specs.Texts.{Has, unrepeated}
use Rattle.subformulas.specs.declared.table.Sub.{Sub}
use Rattle.subformulas.proofs.Alike.{has_left, has_right}
use Rattle.subformulas.proofs.Needed.{unrepeated_has}
use Rattle.subformulas.proofs.Plain.{has_cases, from_unrepeated, plain_untold}
use Rattle.value_codes.specs.Pairs.{Pairs, code_of, IsPaired}
use Rattle.value_codes.proofs.Lookups.{some_none}
use Rattle.monitor_model.specs.Books.{keep, AllApart, without_code, free_count}
use Rattle.monitor_model.proofs.Books.Exact.{selected}
use Rattle.monitor_model.proofs.Books.Pairing.{any_has, paired_kept, code_kept, code_back, without_has, without_from}
use Rattle.monitor_model.proofs.Books.Room.{no_longer, apart_append, unrepeated_apart, without_apart, texts_of, has_coded, texts_apart, kept_in, length-texts, code_has}
use Rattle.monitor_model.proofs.Books.Sound.{IsBookFor}

module _ (pins told needed : List Text) (book : Pairs) (apart : AllApart needed) (paired : IsPaired book)
    (pinned_coded : (t : Text) → Has pins t → code_of book t ≢ None) (coded : (t : Text) → Has told t → code_of book t ≢ None) where
  -- the texts whose pairs a sweep keeps
  abbrev stays : List Text
  stays = pins ++ (told ++ needed)

  abbrev kept : Pairs
  kept = keep (pins ++ (told ++ needed)) book

  abbrev new : List Text
  new = without_code book needed

  in_stays : (t : Text) → Has (texts_of kept) t ⊎ Has new t → Has stays t
  in_stays t (inl p) = kept_in stays book t p
  in_stays t (inr q) = has_right pins (told ++ needed) t (has_right told needed t (without_from book needed t q).0)

  with_code : (t : Text) → Has stays t → code_of book t ≢ None → Has (texts_of kept) t
  with_code t h n = code_has kept t (λ e. n (code_back stays book t (any_has stays t h) e))

  found : (t : Text) → Has pins t ⊎ Has (told ++ needed) t → Has (texts_of kept ++ new) t
  found t (inl p) = has_left (texts_of kept) new t (with_code t (has_left pins (told ++ needed) t p) (pinned_coded t p))
  found t (inr h) = by_list (has_cases told needed t h) (code_of book t) refl
    where
      by_list : Has told t ⊎ Has needed t → (o : Option ℕ) → code_of book t ≡ o → Has (texts_of kept ++ new) t
      by_list (inl p) o e = has_left (texts_of kept) new t (with_code t (has_right pins (told ++ needed) t h) (coded t p))
      by_list (inr q) None e = has_right (texts_of kept) new t (without_has book needed t q e)
      by_list (inr q) (Some c) e = has_left (texts_of kept) new t (with_code t (has_right pins (told ++ needed) t h) (λ n. some_none (code_of book t) c e n))

  -- the texts that are pinned, told apart or needed are those of the pairs that a sweep keeps, and the new ones
  pub need_is : code_need pins told needed ≡ length (keep (pins ++ (told ++ needed)) book) + length (without_code book needed)
  need_is =
      let a = no_longer (texts_of kept ++ new) (unrepeated stays)
      (apart_append (texts_of kept) new (texts_apart kept (paired_kept stays book paired)) (without_apart book needed apart)
      (λ t p q. has_coded kept t p (code_kept stays book t (without_from book needed t q).1)))
      (λ t p. unrepeated_has stays t (in_stays t (has_cases (texts_of kept) new t p))) in
      let b = no_longer (unrepeated stays) (texts_of kept ++ new) (unrepeated_apart stays)
      (λ t p. found t (has_cases pins (told ++ needed) t (from_unrepeated [] stays t p))) in
      let x = length-append (texts_of kept) new in
      let y = length-texts kept in
      omega arith

kept_shorter : (ts : List Text) (book : Pairs) → length (keep ts book) ≤ length book
kept_shorter ts [] = omega arith
kept_shorter ts (p ∷ book) = by_test (list_any (bytes_eq p.0) ts) (kept_shorter ts book)
  where
    by_test : (b : Bool) → length (keep ts book) ≤ length book → length (if b then p ∷ keep ts book else keep ts book) ≤ length (p ∷ book)
    by_test true h = omega arith
    by_test false h = omega arith

-- where the new texts have free codes, the codes suffice
pub need_small : (bits : ℕ) (pins told needed : List Text) (book : Pairs) → AllApart needed → IsPaired book → ((t : Text) → Has pins t → code_of book t ≢ None) → ((t : Text) → Has told t → code_of book t ≢ None) →
    length book ≤ 2 ^ bits - 1 → length (without_code book needed) ≤ free_count bits book → code_need pins told needed ≤ 2 ^ bits - 1
need_small bits pins told needed book apart paired pinned_coded coded few h =
    let e = need_is pins told needed book apart paired pinned_coded coded in
    let k = kept_shorter (pins ++ (told ++ needed)) book in
    omega arith

-- each text that is told apart has a code
pub told_coded : (bits : ℕ) (subs : List Sub) → IsTable 0 subs → (log : List Event) (x i : ℕ) (told : List Text) → IsToldTexts subs log x i told → (book : Pairs) → IsBookFor bits subs log x i book →
    (t : Text) → Has told t → code_of book t ≢ None
told_coded bits subs table log x i told is_told book sound t h n =
    plain_untold subs table log x i t (sound.plain t n) (selected (Told subs log x i) _ told is_told t h)
