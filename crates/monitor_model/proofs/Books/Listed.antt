-- What comes of the texts that are told apart hangs on which they are, and not on how they are
-- listed; and the list is there.
use Rattle.std.proofs.Common.{◌≡◌, ℕ, ◌<◌, ◌⊎◌, ◌↔◌, inl, inr, ⊎_elim, refl, sym, ap, ◌∙◌, subst, arith, ◌≤◌, List, [], ◌∷◌, ◌++◌, length, true, false, Option, Some, None}
use Rattle.std.specs.Prelude.{if◌then◌else◌, bytes_eq, nat_lt}
use Rattle.std.specs.List.{list_any}
use Rattle.std.proofs.lemmas.Bool.{cases_Bool}
use Rattle.qtl_syntax.specs.Tree.{Text}
use Rattle.qtl_truth.specs.declared.event.Event.{Event}
use Rattle.subformulas.specs.Memory.{Told}
use Rattle.subformulas.specs.Needs.{code_need, IsToldTexts}
use Rattle.subformulas.specs.Pinned.{marks}
use Rattle.subformulas.specs.Texts.{Has, unrepeated}
use Rattle.subformulas.proofs.Alike.{has_left, has_right}
use Rattle.subformulas.proofs.Needed.{unrepeated_has}
use Rattle.subformulas.proofs.Plain.{has_cases, from_unrepeated}
use Rattle.value_codes.specs.Pairs.{Pairs, code_of}
use Rattle.node_tree.specs.Tree.{Tree}
use Rattle.code_reclaim.specs.Told.{told_apart}
use Rattle.monitor_model.specs.Setting.{Setting, first_of}
use Rattle.monitor_model.specs.Books.{Gives, keep, without_code, free_count, IsNextBook}
use Rattle.monitor_model.specs.Laws.{TreesTell, StandsTell, ToldExist}
use Rattle.monitor_model.specs.Rows.{of_temporal}
use Rattle.monitor_model.proofs.Books.Exact.{selects_exist}
use Rattle.monitor_model.proofs.Books.Pairing.{any_has}
use Rattle.monitor_model.proofs.Books.Room.{any_from, no_longer, unrepeated_apart}
use Rattle.monitor_model.proofs.Drawing.Connectives.{alike}

module _ (pins needed : List Text) where
  across : (told other : List Text) → ((t : Text) → Has told t → Has other t) → (t : Text) →
      Has (pins ++ (told ++ needed)) t → Has (pins ++ (other ++ needed)) t
  across told other f t h =
      ⊎_elim (has_left pins (other ++ needed) t)
      (λ k. has_right pins (other ++ needed) t
      (⊎_elim (λ p. has_left other needed t (f t p)) (has_right other needed t)
      (has_cases told needed t k)))
      (has_cases pins (told ++ needed) t h)

  no_more : (told other : List Text) → ((t : Text) → Has told t → Has other t) →
      code_need pins told needed ≤ code_need pins other needed
  no_more told other f =
      no_longer (unrepeated (pins ++ (told ++ needed))) (unrepeated (pins ++ (other ++ needed)))
      (unrepeated_apart (pins ++ (told ++ needed)))
      (λ t p. unrepeated_has (pins ++ (other ++ needed)) t
      (across told other f t (from_unrepeated [] (pins ++ (told ++ needed)) t p)))

  -- lists of the same texts need as many codes
  pub same_need : (told other : List Text) → ((t : Text) → Has told t ↔ Has other t) →
      code_need pins told needed ≡ code_need pins other needed
  same_need told other same =
      let a = no_more told other (λ t. (same t).0) in
      let b = no_more other told (λ t. (same t).1) in
      omega arith

same_keep : (ts us : List Text) (book : Pairs) → ((t : Text) → Has ts t ↔ Has us t) →
    keep ts book ≡ keep us book
same_keep ts us [] same = refl
same_keep ts us (p ∷ book) same =
    ap (λ b. if b then p ∷ keep ts book else keep ts book)
    (alike (list_any (bytes_eq p.0) ts) (list_any (bytes_eq p.0) us) (
      λ h. any_has us p.0 ((same p.0).0 (any_from ts p.0 h)),
      λ h. any_has ts p.0 ((same p.0).1 (any_from us p.0 h)),
    )) ∙
    ap (λ kept. if list_any (bytes_eq p.0) us then p ∷ kept else kept) (same_keep ts us book same)

-- and the same next book
pub same_next_book : (bits : ℕ) (pins told other needed : List Text) (before after : Pairs) →
    ((t : Text) → Has told t ↔ Has other t) → IsNextBook bits pins told needed before after →
    IsNextBook bits pins other needed before after
same_next_book bits pins told other needed before after same next =
    subst (λ kept. Gives bits (without_code before needed)
    (if nat_lt (free_count bits before) (length (without_code before needed)) then kept
    else before) after)
    (same_keep (pins ++ (told ++ needed)) (pins ++ (other ++ needed)) before
    (λ t. (
      across pins needed told other (λ u. (same u).0) t,
      across pins needed other told (λ u. (same u).1) t,
    ))) next

module _ (s : Setting) (log : List Event) (i : ℕ) (books : ℕ → Pairs) (memory : ℕ → Tree)
    (tells : TreesTell s log i books memory) (x : ℕ) (low : x < s.variables) where
  told_cases : (t : Text) → Told s.subs log x i t ⊎ (¬ Told s.subs log x i t)
  told_cases t = by_code (code_of (books x) t) refl
    where
      by_code : (o : Option ℕ) → code_of (books x) t ≡ o →
          Told s.subs log x i t ⊎ (¬ Told s.subs log x i t)
      by_code None e = inr (tells.uncoded x t low e)
      by_code (Some c) e =
          let h = tells.coded x t c low e in
          ⊎_elim (λ p. inl (h.0 p))
          (λ f. inr (λ k. let g = h.1 k in let z : true ≡ false = sym g ∙ f in cc))
          (cases_Bool (told_apart (of_temporal memory 1 s.subs) (first_of s x) s.bits c))

  told_list : (told : List Text) × IsToldTexts s.subs log x i told
  told_list =
      selects_exist (Told s.subs log x i) told_cases (unrepeated (marks s.subs log i x))

-- where the trees tell which texts are told apart, these are a list
pub told_exist : StandsTell → ToldExist
told_exist tell s log i books memory plan is_log stands x low =
    told_list s log i books memory (tell s log i books memory plan is_log stands) x low
