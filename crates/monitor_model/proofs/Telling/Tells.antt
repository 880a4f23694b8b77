-- Of a monitor that stands for a log the remembered trees tell which texts are told apart.
use Rattle.std.proofs.Common.{ℕ, ◌<◌, arith, List}
use Rattle.qtl_truth.specs.Truth.{IsLog}
use Rattle.qtl_truth.specs.declared.event.Event.{Event}
use Rattle.subformulas.proofs.Agree.{joined}
use Rattle.node_tree.specs.Tree.{Tree}
use Rattle.value_codes.specs.Pairs.{Pairs}
use Rattle.value_codes.proofs.Lookups.{code_reads}
use Rattle.monitor_model.specs.Laws.{TreesTell}
use Rattle.monitor_model.specs.Setting.{Setting}
use Rattle.monitor_model.specs.Stands.{StandsFor, IsPlan}
use Rattle.monitor_model.proofs.Books.Sound.{IsBookFor, sound}
use Rattle.monitor_model.proofs.Telling.Apart.{told_apart_is}
use Rattle.monitor_model.proofs.Telling.Told.{told_by_trees, uncoded_untold}

pub stands_tell : (s : Setting) (log : List Event) (i : ℕ) (books : ℕ → Pairs) (memory : ℕ → Tree) →
    IsPlan s → IsLog log → StandsFor s log i books memory → TreesTell s log i books memory
stands_tell s log i books memory plan is_log stands = record {
  coded = λ x t c low code.
      let l = (book x low).below c t (code_reads (books x) t c (book x low).paired code) in
      joined (told_apart_is s memory x c (omega (arith, l))
      (λ k h. (stands.memory_is k h).ordered) (λ k h. (stands.memory_is k h).reduced))
      (told_by_trees s log plan i books book memory stands.memory_is x low t c code);
  uncoded = λ x t low none. uncoded_untold s log plan i books book x t low none;
}
  where
    book : (x : ℕ) → x < s.variables → IsBookFor s.bits s.subs log x i (books x)
    book x p = sound s.bits s.subs plan.table log x is_log i (books x) (stands.books_are x p)
