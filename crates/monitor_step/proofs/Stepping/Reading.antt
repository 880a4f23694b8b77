-- What a step does by the monitor's own books and trees.
use Rattle.std.proofs.Common.{◌≡◌, ℕ, zero, suc, ◌+◌, ◌*◌, ◌^◌, ◌<◌, ◌≤◌, ◌⊎◌, inl, inr, refl, sym, ap, ◌∙◌, subst, arith, List, [], ◌∷◌, length, true, Option, Some, None}
use Rattle.std.specs.Prelude.{Ok, Err}
use Rattle.std.specs.List.{AllByRecursion}
use Rattle.std.proofs.lemmas.Bool.{cases_lt}
use Rattle.qtl_syntax.specs.Tree.{Text}
use Rattle.qtl_truth.specs.declared.event.Event.{Event}
use Rattle.subformulas.specs.Needs.{need, code_need}
use Rattle.subformulas.specs.Memory.{IsTemporal}
use Rattle.subformulas.specs.Pinned.{pinned}
use Rattle.subformulas.specs.Table.{Table}
use Rattle.subformulas.specs.declared.table.Sub.{Sub}
use Rattle.node_tree.specs.Tree.{Tree}
use Rattle.value_codes.specs.Pairs.{Pairs, Contents, IsBook, IsPaired}
use Rattle.monitor_model.specs.Books.{IsNextBook}
use Rattle.monitor_model.specs.Ends.{CodesFull, NodesFull, codes_full, AreNext}
use Rattle.monitor_model.specs.Reading.{AreTold, IsNext, Reads, Rowed, sources_of}
use Rattle.monitor_model.specs.Rows.{nodes_full, nth, updates, Sources}
use Rattle.monitor_model.specs.State.{State, SameCodes, kept, memory_of, pairs_in, remembered, setting_of}
use Rattle.monitor_model.proofs.Drawing.SameCodes.{same_full, same_updates}
use Rattle.monitor_model.proofs.Ends.SameRows.{same_made, same_without_room}
use Rattle.monitor_step.specs.Handles.{HasRemembered}
use Rattle.monitor_step.specs.RowsMade.{memory_in}
use Rattle.monitor_step.proofs.Rows.Kept.{memory_among}
use Rattle.monitor_step.specs.Serving.{HasNext, pairs_at}
use Rattle.monitor_step.specs.Stages.{AnswersServing, EachServed}
use Rattle.monitor_step.specs.declared.serve.ServeEnd.TheVariants as serve
use Rattle.monitor_step.proofs.Serving.ToldList.{told_list}
use Rattle.monitor_step.proofs.Stepping.Codes.{none_full, first_full}

-- no text is pinned yet
pub none_pinned : (subs : List Sub) (x : ℕ) → pinned subs x ≡ []
none_pinned [] x = refl
none_pinned (u ∷ subs) x = none_pinned subs x

-- the pairs of each book are pairs
pub paired_at : (books : List Contents) → AllByRecursion IsBook books → (x : ℕ) →
    IsPaired (pairs_at books x)
paired_at [] h x = tt
paired_at (b ∷ books) h zero = h.0.paired
paired_at (b ∷ books) h (suc x) = paired_at books h.1 x

module _ (m : State) (books_are : AllByRecursion IsBook m.books) (count : length m.books ≡ length m.plan.variables)
    (e : Event) where
  abbrev subs : List Sub
  subs = m.plan.subs

  abbrev trees : List Tree
  trees = remembered m

  told_texts : (x : ℕ) →
      (told : List Text) × AreTold trees (x * m.bits) m.bits (pairs_in m x) told
  told_texts x = told_list trees (x * m.bits) m.bits (pairs_in m x) (paired_at m.books books_are x)

  -- the texts of x whose codes the remembered trees tell apart
  pub told_of : ℕ → List Text
  told_of x = (told_texts x).0

  pub told_is : (x : ℕ) → AreTold trees (x * m.bits) m.bits (pairs_in m x) (told_of x)
  unfolding told_of
  told_is x = (told_texts x).1

  -- how many codes x needs
  abbrev needs : ℕ → ℕ
  needs x = code_need (pinned subs x) (told_of x) (need subs x e)

  unpinned : (x : ℕ) → code_need [] (told_of x) (need subs x e) ≡ needs x
  unpinned x = ap (λ (ps : List Text). code_need ps (told_of x) (need subs x e)) (sym (none_pinned subs x))

  module _ (after : List Contents) (n : ℕ)
      (served : EachServed m.bits subs e trees n m.books after) where
    has_next : (x : ℕ) → x < n →
        HasNext m.bits (told_of x) (need subs x e) (pairs_in m x) (pairs_at after x)
    has_next x p = served x p (told_of x) (told_is x)

    pub enough : (x : ℕ) → x < n → needs x < 2 ^ m.bits
    enough x p =
        let few = (has_next x p).enough in
        let same = unpinned x in
        omega (arith, few, same)

  -- an event that is refused for its codes
  pub reads_codes : (after : State) (books : List Contents) (x n : ℕ) →
      AnswersServing m.bits subs e trees m.books books (Err (serve.CodesFull x n)) →
      Reads m e after (Some (CodesFull x n))
  reads_codes after books x n (within, served, full) = record {
    told = told_of;
    told_is = λ y p. told_is y;
    comes =
        let many = full (told_of x) (told_is x) in
        let same = unpinned x in
        let all : n ≡ needs x = many.counts ∙ same in
        first_full m.bits needs 0 (length m.plan.variables) x (omega arith) (omega (arith, within, count))
        (λ y from to. enough books x served y to) (let more = many.more in omega (arith, more, all)) ∙
        ap (λ (k : ℕ). Some (x, k)) (sym all);
  }

  module _ (books : List Contents)
      (served : AnswersServing m.bits subs e trees m.books books (Ok tt)) where
    their : (x : ℕ) → x < length m.plan.variables →
        HasNext m.bits (told_of x) (need subs x e) (pairs_in m x) (pairs_at books x)
    their x p = has_next books (length m.books) served x (omega (arith, p, count))

    next_at_place : (x : ℕ) → (x < length m.plan.variables) ⊎ (length m.plan.variables ≤ x) → Pairs
    next_at_place x (inl p) = (their x p).next
    next_at_place x (inr p) = []

    -- the next book of x; none where there is no such variable
    pub next_books : ℕ → Pairs
    next_books x = next_at_place x (cases_lt x (length m.plan.variables))

    at_next : (x : ℕ) → x < length m.plan.variables →
        IsNextBook m.bits (pinned subs x) (told_of x) (need subs x e) (pairs_in m x) (next_books x) ×
        SameCodes (pairs_at books x) (next_books x)
    unfolding next_books next_at_place
    at_next x p = by_place (cases_lt x (length m.plan.variables))
      where
        by_place : (o : (x < length m.plan.variables) ⊎ (length m.plan.variables ≤ x)) →
            IsNextBook m.bits (pinned subs x) (told_of x) (need subs x e) (pairs_in m x) (next_at_place x o) ×
            SameCodes (pairs_at books x) (next_at_place x o)
        by_place (inl q) = (
          subst (λ (ps : List Text). IsNextBook m.bits ps (told_of x) (need subs x e) (pairs_in m x) (their x q).next)
              (sym (none_pinned subs x)) (their x q).is_next,
          (their x q).same,
        )
        by_place (inr q) = absurd (omega (arith, p, q))

    pub are_next : AreNext (setting_of m) e told_of (pairs_in m) next_books
    are_next x p = (at_next x p).0

    pub same_next : (x : ℕ) → x < length m.plan.variables → SameCodes (pairs_at books x) (next_books x)
    same_next x p = (at_next x p).1

    pub no_more : (x : ℕ) → length m.plan.variables ≤ x → next_books x ≡ []
    unfolding next_books next_at_place
    no_more x p = by_place (cases_lt x (length m.plan.variables))
      where
        by_place : (o : (x < length m.plan.variables) ⊎ (length m.plan.variables ≤ x)) →
            next_at_place x o ≡ []
        by_place (inl q) = absurd (omega (arith, p, q))
        by_place (inr q) = refl

    pub codes_suffice : codes_full (setting_of m) e told_of ≡ None
    codes_suffice =
        none_full m.bits needs 0 (length m.plan.variables)
        (λ x from to. enough books (length m.books) served x (omega (arith, to, count)))

    -- the rows over the code's books are those over the definition's
    abbrev own_sources : Sources
    own_sources = sources_of m e (pairs_at books)

    rows_same : nodes_full own_sources ≡ nodes_full (sources_of m e next_books)
    rows_same =
        same_full (setting_of m) e own_sources.frame.delta (pairs_at books) next_books same_next
        (memory_of m)

    pub rowed : (full : Option (ℕ × ℕ)) → nodes_full own_sources ≡ full →
        Rowed m e told_of next_books full
    rowed full h = (codes_suffice, are_next, sym rows_same ∙ h)

    module _ (handles : kept m ≤ length m.handles) where
      -- the sources with the remembered trees as a list
      abbrev pub listed : Sources
      listed = record { frame = own_sources.frame; memory = memory_in subs (remembered m) }

      alike : (k : ℕ) → IsTemporal subs k → memory_in subs (remembered m) k ≡ memory_of m k
      alike k h = sym (memory_among m handles k h)

      pub listed_full : nodes_full listed ≡ nodes_full own_sources
      listed_full = same_without_room own_sources.frame (memory_in subs (remembered m)) (memory_of m) alike

      pub listed_own : updates listed ≡ updates own_sources
      listed_own = same_made own_sources.frame (memory_in subs (remembered m)) (memory_of m) alike

      pub listed_made : updates listed ≡ updates (sources_of m e next_books)
      listed_made =
          listed_own ∙
          same_updates (setting_of m) e own_sources.frame.delta (pairs_at books) next_books same_next
          (memory_of m)

      -- the monitor after an event whose rows fit
      pub is_next : (after : State) → HasRemembered listed after → after.live ≡ true →
          after.plan ≡ m.plan → after.bits ≡ m.bits → after.shelf.table.room ≡ m.shelf.table.room →
          after.books ≡ books → after.has_now ≡ true → after.events ≡ m.events + 1 →
          after.last_time ≡ e.time → IsNext m e after next_books
      is_next after has live plan bits room its_books has_now events time = record {
        live = live;
        plan = plan;
        bits = bits;
        room = room;
        same = λ x p.
            subst (λ (bs : List Contents). SameCodes (pairs_at bs x) (next_books x)) (sym its_books)
            (same_next x p);
        memory = λ k h.
            has.memory k (subst (λ (q : Table). IsTemporal q.subs k) (sym plan) h) ∙
            ap (λ us. (nth us k).next) listed_made;
        now = λ k low high.
            has.now k low (subst (λ (q : Table). k ≤ length q.subs) (sym plan) high) ∙
            ap (λ us. (nth us k).now) listed_made;
        has_now = has_now;
        events = events;
        time = time;
      }

      -- an event that is judged
      pub reads_next : (after : State) → nodes_full listed ≡ None → IsNext m e after next_books →
          Reads m e after None
      reads_next after fit next = record {
        told = told_of;
        told_is = λ y p. told_is y;
        comes = (next_books, rowed None (sym listed_full ∙ fit), next);
      }

    -- an event that is refused for its rows
    pub reads_rows : (after : State) (k r : ℕ) → nodes_full own_sources ≡ Some (k, r) →
        Reads m e after (Some (NodesFull k r))
    reads_rows after k r h = record {
      told = told_of;
      told_is = λ y p. told_is y;
      comes = (next_books, rowed (Some (k, r)) h);
    }
