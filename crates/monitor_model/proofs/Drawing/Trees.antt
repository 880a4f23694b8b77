-- The trees that operations make by plain recursions are ordered, reduced, and what the operations say.
use Rattle.std.proofs.Common.{◌≡◌, ℕ, zero, suc, ◌+◌, ◌-◌, ap, subst, arith, Bool, true, false, not}
use Rattle.node_tree.specs.Tree.{Tree, IsOrdered, IsReduced}
use Rattle.bdd_ops.specs.declared.op.Op.{Op}
use Rattle.bdd_ops.specs.Numbers.{truth_of}
use Rattle.bdd_ops.specs.Apply.{map_leaves}
use Rattle.bdd_ops.proofs.Values.{map_leaves-value, map_leaves-ordered, map_leaves-reduced, apply-value, apply-ordered, apply-reduced}
use Rattle.bdd_ops.proofs.LevelLaws.{at_level-ordered, at_level-reduced}
use Rattle.quantify.specs.Quantified.{connective, quantified, after_rows, merge_of}
use Rattle.quantify.proofs.Quantifying.{quantified-is, quantified-value}
use Rattle.operation_rows.specs.Kinds.{applied}
use Rattle.monitor_model.specs.Operations.{IsApplied, IsNot, IsSomeOfBlock, IsEachOfBlock}
use Rattle.monitor_model.specs.Blocks.{IsOverBit, AreRows}
use Rattle.monitor_model.proofs.Spelling.Blocks.{some_of_block, each_of_block}

-- ordered and reduced
abbrev pub IsDiagram : Tree → Type 0
IsDiagram t = IsOrdered t × IsReduced t

-- an operation on two trees
pub applied_is : (op : Op) (u v : Tree) → IsDiagram u → IsDiagram v →
    IsApplied (truth_of op) u v (applied op u v)
applied_is op u v p q = record {
  ordered = apply-ordered (truth_of op) u v 0 p.0 q.0;
  reduced = apply-reduced (truth_of op) u v p.1 q.1;
  values = apply-value (truth_of op) u v;
}

pub applied_diagram : (op : Op) (u v : Tree) → IsDiagram u → IsDiagram v →
    IsDiagram (applied op u v)
applied_diagram op u v p q = let h = applied_is op u v p q in (h.ordered, h.reduced)

-- the opposite
pub not_is : (h : Tree) → IsDiagram h → IsNot h (map_leaves not h)
not_is h p = record { ordered = map_leaves-ordered not h 0 p.0; reduced = map_leaves-reduced not h p.1; values = map_leaves-value not h }

-- ---- a block

pub quantified_is : (all : Bool) (level : ℕ) (h : Tree) → IsDiagram h →
    IsOverBit (truth_of (connective all)) level h (quantified all level h)
quantified_is all level h p = record {
  ordered =
      subst IsOrdered (quantified-is all level h) (at_level-ordered (merge_of all) level h 0 p.0);
  reduced =
      subst IsReduced (quantified-is all level h) (at_level-reduced (merge_of all) level h p.1);
  values = quantified-value all level h 0 p.0;
}

pub after_rows_diagram : (all : Bool) (first bits r : ℕ) (h : Tree) → IsDiagram h →
    IsDiagram (after_rows all first bits r h)
after_rows_diagram all first bits zero h p = p
after_rows_diagram all first bits (suc r) h p =
    let q = quantified_is all (first + bits - suc r) (after_rows all first bits r h)
    (after_rows_diagram all first bits r h p) in
    (q.ordered, q.reduced)

-- the rows that are left after so many
rows_left : (all : Bool) (first bits n r : ℕ) (h : Tree) → n + r ≡ bits → IsDiagram h →
    AreRows (truth_of (connective all)) first n (after_rows all first bits r h) (after_rows all first bits bits h)
rows_left all first bits zero r h e p = let f : bits ≡ r = omega arith in ap (λ (k : ℕ). after_rows all first bits k h) f
rows_left all first bits (suc n) r h e p =
    let f : first + bits - suc r ≡ first + n = omega arith in (
      after_rows all first bits (suc r) h,
      subst
          (λ (l : ℕ). IsOverBit (truth_of (connective all)) l (after_rows all first bits r h) (after_rows all first bits (suc r) h))
          f
          (quantified_is all (first + bits - suc r) (after_rows all first bits r h) (after_rows_diagram all first bits r h p)),
      rows_left all first bits n (suc r) h (omega arith) p,
    )

-- the rows over a block are those that quantify over it
pub after_rows_rows : (all : Bool) (first bits : ℕ) (h : Tree) → IsDiagram h →
    AreRows (truth_of (connective all)) first bits h (after_rows all first bits bits h)
after_rows_rows all first bits h p = rows_left all first bits bits 0 h (omega arith) p

pub after_rows_some : (first bits : ℕ) (h : Tree) → IsDiagram h →
    IsSomeOfBlock first bits h (after_rows false first bits bits h)
after_rows_some first bits h p =
    some_of_block first bits h _ p.0 p.1 (after_rows_rows false first bits h p)

pub after_rows_each : (first bits : ℕ) (h : Tree) → IsDiagram h →
    IsEachOfBlock first bits h (after_rows true first bits bits h)
after_rows_each first bits h p =
    each_of_block first bits h _ p.0 p.1 (after_rows_rows true first bits h p)
