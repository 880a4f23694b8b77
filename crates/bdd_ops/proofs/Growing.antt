-- What grows in a table, and what has room there.
use Rattle.std.proofs.Common.{◌≡◌, ℕ, ◌<◌, ◌≤◌, List, ◌++◌, refl, ap, sym, ◌∙◌, arith, subst, ⊎_elim}
use Rattle.std.specs.Prelude.{Bool, true, ◌||◌, Option}
use Rattle.std.specs.Set.{is_member}
use Rattle.std.proofs.lemmas.Bool.{or_cases}
use Rattle.std.proofs.Math.Bool.{or-true}
use Rattle.std.proofs.lemmas.List.Folds.{list_any-append}
use Rattle.std.proofs.lemmas.Map.Made.{distinct_count-le}
use Rattle.node_tree.specs.Tree.{Tree, tree_eq, branches}
use Rattle.node_tree.proofs.Counting.{distinct_count-le_from_members}
use Rattle.node_table.specs.declared.node.Node.{Node}
use Rattle.node_table.specs.Table.{Table, tree_of, IsValid, held, need, KeepsTrees, HoldsAlso, IsShared}
use Rattle.node_table.proofs.Sharing.{live-held}
use Rattle.bdd_ops.specs.Applied.{Grows}

abbrev pub In : List Tree → Tree → Type 0
In xs q = is_member tree_eq xs q ≡ true

-- each branch of the part is one of the whole
abbrev pub IsPart : Tree → Tree → Type 0
IsPart part whole = (q : Tree) → In (branches part) q → In (branches whole) q

left_or : (a b : Bool) → a ≡ true → (a || b) ≡ true
left_or a b e = ap (λ x. x || b) e

right_or : (a b : Bool) → b ≡ true → (a || b) ≡ true
right_or a b e = ap (λ x. a || x) e ∙ or-true a

pub keeps_same : (t : Table) → KeepsTrees t t
keeps_same t = record { room = refl; trees = λ h v. (v, refl) }

pub grows_none : (t : Table) (tree : Tree) → IsShared t → Grows t t tree
grows_none t tree s = record { keeps = keeps_same t; kept = λ q m. m; only = λ q m. right_or _ _ m; shared = s }

-- where the nodes are the same, and maybe other notes
pub grows_noted : (t u : Table) (tree : Tree) → IsShared t → u.room ≡ t.room → u.nodes ≡ t.nodes → Grows t u tree
grows_noted t u tree s room nodes =
    let is : u ≡ record { room = t.room; nodes = t.nodes; notes = u.notes } =
    ap (λ (n : ℕ). record { room = n; nodes = u.nodes; notes = u.notes }) room ∙ ap (λ (ns : List (Option Node)). record { room = t.room; nodes = ns; notes = u.notes }) nodes in
    subst (λ (w : Table). Grows t w tree) (sym is) (record {
      keeps = record { room = refl; trees = λ h v. (v, refl) };
      kept = λ q m. m;
      only = λ q m. right_or _ _ m;
      shared = record {
        zero = s.zero;
        one = s.one;
        one_handle = s.one_handle;
        ordered = s.ordered;
        reduced = s.reduced;
        closed = s.closed;
        bound = s.bound;
      };
    })

pub widened : (t u : Table) (part whole : Tree) → IsPart part whole → Grows t u part → Grows t u whole
widened t u part whole wide a = record {
  keeps = a.keeps;
  kept = a.kept;
  shared = a.shared;
  only = λ q m. ⊎_elim (λ x. left_or _ _ (wide q x)) (λ x. right_or _ _ x) (or_cases _ _ (a.only q m));
}

pub chained : (t u w : Table) (tree : Tree) → Grows t u tree → Grows u w tree → Grows t w tree
chained t u w tree a b = record {
  keeps = record { room = b.keeps.room ∙ a.keeps.room; trees = λ h v. (let x = a.keeps.trees h v in let y = b.keeps.trees h x.0 in (y.0, y.1 ∙ x.1)) };
  kept = λ q m. b.kept q (a.kept q m);
  only = λ q m. ⊎_elim (λ x. left_or _ _ x) (λ x. a.only q x) (or_cases _ _ (b.only q m));
  shared = b.shared;
}

pub made_grows : (t u : Table) (tree : Tree) → KeepsTrees t u → HoldsAlso t u tree → IsShared u → Grows t u tree
made_grows t u tree k h s = record { keeps = k; kept = λ q m. h.also q ∙ right_or _ _ m; only = λ q m. sym (h.also q) ∙ m; shared = s }

-- what is too much for a part is too much for the whole
pub full_back : (t u : Table) (part whole : Tree) → Grows t u whole → IsPart part whole → u.room < need u part → t.room < need t whole
full_back t u part whole a wide full =
    let n = distinct_count-le_from_members (branches part ++ held u) (branches whole ++ held t) (λ q m.
    list_any-append (tree_eq q) (branches whole) (held t)
    ∙ ⊎_elim (λ x. left_or _ _ (wide q x)) (λ x. a.only q x) (or_cases _ _ (sym (list_any-append (tree_eq q) (branches part) (held u)) ∙ m))) in
    omega (arith, n, full, a.keeps.room)

-- what was made fits
pub fits_in : (t u : Table) (tree : Tree) (h : ℕ) → Grows t u tree → IsValid u h → tree_of u h ≡ tree → need t tree ≤ t.room
fits_in t u tree h a v e =
    let n = distinct_count-le_from_members (branches tree ++ held t) (held u) (λ q m.
    ⊎_elim (λ x. a.shared.closed h v q (subst (λ y. In (branches y) q) (sym e) x)) (λ x. a.kept q x) (or_cases _ _ (sym (list_any-append (tree_eq q) (branches tree) (held t)) ∙ m))) in
    omega (arith, n, distinct_count-le tree_eq (held u), live-held u, a.shared.bound, a.keeps.room)
