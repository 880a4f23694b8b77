-- The rows of an event look at books by the codes that they give alone.
use Rattle.std.proofs.Common.{◌≡◌, ℕ, zero, suc, ◌+◌, ◌-◌, ◌<◌, ◌≤◌, refl, sym, ap, ◌∙◌, arith, List, [], ◌∷◌, ◌++◌, map, take, Bool, true, false, Option, Some, None}
use Rattle.std.specs.Prelude.{if◌then◌else◌}
use Rattle.std.specs.List.{flat_map}
use Rattle.std.specs.Option.{option_and_then}
use Rattle.qtl_syntax.specs.Tree.{Text}
use Rattle.qtl_truth.specs.declared.event.Event.{Event}
use Rattle.qtl_truth.specs.declared.numbered_atom.Atom.{Atom}
use Rattle.subformulas.specs.Facts.{Fact, facts_of}
use Rattle.subformulas.specs.Needs.{given, fits}
use Rattle.subformulas.specs.declared.table.Kind.{Kind}
use Rattle.subformulas.specs.declared.table.Kind.TheVariants as kind
use Rattle.subformulas.specs.declared.table.Sub.{Sub}
use Rattle.value_codes.specs.Pairs.{Pairs, code_of}
use Rattle.node_tree.specs.Tree.{Tree}
use Rattle.bdd_ops.specs.Cube.{cube_tree}
use Rattle.operation_rows.specs.Kinds.{atom_update}
use Rattle.operation_rows.specs.Rows.{Update, first_full}
use Rattle.monitor_model.specs.Rows.{Frame, Sources, block_literals, given_code, fact_literals, fact_cube, cubes, update, nth, of_temporal, at_row, update_after, updates_from, updates, kept_at, full_from, nodes_full}
use Rattle.monitor_model.specs.Setting.{Setting}
use Rattle.monitor_model.specs.State.{SameCodes}

module _ (s : Setting) (e : Event) (delta : ℕ) (a b : ℕ → Pairs)
    (same : (x : ℕ) → x < s.variables → SameCodes (a x) (b x)) where
  abbrev with_books : (ℕ → Pairs) → Frame
  with_books books = record { setting = s; books = books; event = e; delta = delta }

  given_same : (x : ℕ) → x < s.variables → (o : Option Text) →
      option_and_then (code_of (a x)) o ≡ option_and_then (code_of (b x)) o
  given_same x p None = refl
  given_same x p (Some t) = same x p t

  literals_same : (c : Atom) (q : Fact) (n : ℕ) → n ≤ s.variables →
      fact_literals (with_books a) c q n ≡ fact_literals (with_books b) c q n
  literals_same c q zero l = refl
  literals_same c q (suc n) l =
      let front = literals_same c q n (omega arith) in
      let own = ap (block_literals s n) (given_same n (omega arith) (given c.terms q.args n)) in
      cc (front, own)

  cube_same : (c : Atom) (q : Fact) → fact_cube (with_books a) c q ≡ fact_cube (with_books b) c q
  cube_same c q =
      ap (λ ls. if fits c q then cube_tree ls ∷ [] else []) (literals_same c q s.variables (omega arith))

  cubes_over : (c : Atom) (qs : List Fact) →
      flat_map (fact_cube (with_books a) c) qs ≡ flat_map (fact_cube (with_books b) c) qs
  cubes_over c [] = refl
  cubes_over c (q ∷ qs) =
      let one = cube_same c q in
      let rest = cubes_over c qs in
      cc (one, rest)

  update_same : (k : Kind) (f g m : Tree) →
      update (with_books a) k f g m ≡ update (with_books b) k f g m
  update_same (kind.Atom c) f g m = ap atom_update (cubes_over c (facts_of e))
  update_same _ f g m = refl

  module _ (memory : ℕ → Tree) where
    abbrev sources_with : (ℕ → Pairs) → Sources
    sources_with books = record { frame = with_books books; memory = memory }

    updates_same : (done : List Update) (subs : List Sub) →
        updates_from (sources_with a) done subs ≡ updates_from (sources_with b) done subs
    updates_same done [] = refl
    updates_same done (u ∷ subs) =
        let one = update_same u.kind (nth done u.left).now (nth done u.right).now _ in
        ap (λ (v : Update). updates_from (sources_with a) (done ++ v ∷ []) subs) one ∙
        updates_same (done ++ update_after (sources_with b) done u ∷ []) subs

    -- what the subformulas make is the same
    pub same_updates : updates (sources_with a) ≡ updates (sources_with b)
    same_updates = updates_same [] s.subs

    kept_over : (us : List Update) (k : ℕ) → List Tree
    kept_over us k =
        of_temporal memory 1 s.subs ++
        (of_temporal (λ j. (nth us j).next) 1 (take (k - 1) s.subs) ++ map (λ u. u.now) (take (k - 1) us))

    kept_same : (k : ℕ) → kept_at (sources_with a) k ≡ kept_at (sources_with b) k
    unfolding kept_over
    kept_same k = ap (λ us. kept_over us k) same_updates

    full_same : (k : ℕ) (us : List Update) →
        full_from (sources_with a) k us ≡ full_from (sources_with b) k us
    full_same k [] = refl
    full_same k (u ∷ us) =
        let here = ap (λ kept. first_full s.nodes kept u.rows) (kept_same k) in
        let rest = full_same (k + 1) us in
        cc (here, rest)

    -- and so is the first row that has no room
    pub same_full : nodes_full (sources_with a) ≡ nodes_full (sources_with b)
    same_full = full_same 1 (updates (sources_with a)) ∙ ap (full_from (sources_with b) 1) same_updates
