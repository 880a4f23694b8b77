-- At most one end is that of an event: told texts, books and remembered trees are each given by the
-- log, and the rest is computed from them.
use Rattle.std.proofs.Common.{◌≡◌, ℕ, ◌<◌, ◌≤◌, ◌⊎◌, inl, inr, sym, ap, ◌∙◌, subst, arith, Option, Some, None}
use Rattle.std.specs.Prelude.{List}
use Rattle.std.proofs.lemmas.Bool.{cases_lt}
use Rattle.qtl_truth.specs.Truth.{time_at}
use Rattle.qtl_truth.specs.declared.event.Event.{Event}
use Rattle.subformulas.specs.Memory.{IsTemporal, Told, memo_at}
use Rattle.subformulas.specs.Needs.{need, code_need}
use Rattle.subformulas.specs.Pinned.{pinned, marks, fresh}
use Rattle.subformulas.specs.Texts.{unrepeated}
use Rattle.subformulas.proofs.Once.{selects_once}
use Rattle.value_codes.specs.Pairs.{Pairs, code_of}
use Rattle.node_tree.specs.Tree.{Tree}
use Rattle.monitor_model.specs.Setting.{Setting}
use Rattle.monitor_model.specs.Books.{reads}
use Rattle.monitor_model.specs.Drawn.{readings, code_at, age_at}
use Rattle.monitor_model.specs.Ends.{End, codes_full, AreNext, time_since, row_end, EndsAfter, IsEnd}
use Rattle.monitor_model.specs.Rows.{Frame}
use Rattle.monitor_model.specs.Stands.{IsPlan, StandsFor}
use Rattle.monitor_model.specs.State.{SameCodes}
use Rattle.monitor_model.proofs.Reading.Codes.{same_codes_from}
use Rattle.monitor_model.proofs.Books.Exact.{book_once, next_once}
use Rattle.monitor_model.proofs.Books.Reuse.{memo_same}
use Rattle.monitor_model.proofs.Drawing.Connectives.{draws_same, drawn_once}
use Rattle.monitor_model.proofs.Drawing.SameCodes.{same_full}
use Rattle.monitor_model.proofs.Ends.SameRows.{same_without_room}

module _ (s : Setting) (log : List Event) (i : ℕ) (plan : IsPlan s) where
  -- the book of each variable is given by the log
  pub books_once : (books other : ℕ → Pairs) (memory memory' : ℕ → Tree) →
      StandsFor s log i books memory → StandsFor s log i other memory' → (x : ℕ) →
      books x ≡ other x
  books_once books other memory memory' p q x = by_place (cases_lt x s.variables)
    where
      by_place : (x < s.variables) ⊎ (s.variables ≤ x) → books x ≡ other x
      by_place (inl l) =
          book_once s.bits s.subs log x i (books x) (other x) (p.books_are x l) (q.books_are x l)
      by_place (inr l) = p.no_more x l ∙ sym (q.no_more x l)

  -- and so is the tree that is remembered of each temporal subformula
  pub memory_once : (books other : ℕ → Pairs) (memory memory' : ℕ → Tree) →
      StandsFor s log i books memory → StandsFor s log i other memory' → (k : ℕ) →
      IsTemporal s.subs k → memory k ≡ memory' k
  memory_once books other memory memory' p q k h =
      let f = fresh s.subs log i in
      drawn_once (λ b. memo_at s.subs k log (readings s other f b) i (age_at s b)) (memory k)
      (memory' k)
      (draws_same (λ b. memo_at s.subs k log (readings s books f b) i (age_at s b)) _ (memory k)
      (λ b. memo_same s.subs plan.table log i k (age_at s b) h (readings s books f b)
      (readings s other f b)
      (λ x. ap (λ book. reads book f (code_at s b x))
      (books_once books other memory memory' p q x)))
      (p.memory_is k h))
      (q.memory_is k h)

-- the frame of an event after so many others, with these books
abbrev frame_of : Setting → (events last : ℕ) → Event → (books : ℕ → Pairs) → Frame
frame_of s events last e books =
    record { setting = s; books = books; event = e; delta = time_since events last e }

module _ (s : Setting) (log : List Event) (i : ℕ) (e : Event) (plan : IsPlan s) (a b : Option End)
    (p : IsEnd s log i e a) (q : IsEnd s log i e b) where
  same_told : (x : ℕ) → x < s.variables → p.told x ≡ q.told x
  same_told x l =
      selects_once (Told s.subs log x i) (unrepeated (marks s.subs log i x)) (p.told x) (q.told x)
      (p.told_is x l) (q.told_is x l)

  same_codes_full : codes_full s e p.told ≡ codes_full s e q.told
  same_codes_full =
      same_codes_from s.bits
      (λ x. code_need (pinned s.subs x) (p.told x) (need s.subs x e))
      (λ x. code_need (pinned s.subs x) (q.told x) (need s.subs x e)) 0 s.variables
      (λ x m. ap (λ ts. code_need (pinned s.subs x) ts (need s.subs x e))
      (same_told x (omega arith)))

  -- the books after the event have the same codes
  same_books : (books other : ℕ → Pairs) → AreNext s e p.told p.before books →
      AreNext s e q.told q.before other → (x : ℕ) → x < s.variables → SameCodes (books x) (other x)
  same_books books other n m x l t =
      ap (λ book. code_of book t)
      (next_once s.bits (pinned s.subs x) (p.told x) (q.told x) (need s.subs x e) (p.before x)
      (q.before x) (books x) (other x) (same_told x l)
      (books_once s log i plan p.before q.before p.memory q.memory p.stands q.stands x) (n x l)
      (m x l))

  by_codes : (full : Option (ℕ × ℕ)) →
      EndsAfter s i (time_at log i) e p.told p.before p.memory full a →
      EndsAfter s i (time_at log i) e q.told q.before q.memory full b → a ≡ b
  by_codes (Some c) f g = f ∙ sym g
  by_codes None (books, next, f) (other, nexts, g) =
      f ∙
      (ap row_end
      (same_full s e (time_since i (time_at log i) e) books other
      (same_books books other next nexts) p.memory ∙
      same_without_room (frame_of s i (time_at log i) e other) p.memory q.memory
      (memory_once s log i plan p.before q.before p.memory q.memory p.stands q.stands)) ∙ sym g)

  -- at most one end is that of the event
  pub one_end : a ≡ b
  one_end =
      by_codes (codes_full s e p.told) p.ends
      (subst (λ full. EndsAfter s i (time_at log i) e q.told q.before q.memory full b)
      (sym same_codes_full) q.ends)
