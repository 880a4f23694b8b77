use Rattle.node_tree.proofs.Setting.{restrict_ordered, restrict_reduced, restrict_value}
use Rattle.node_tree.proofs.restricted.Goals as goal

pub returns : goal.returns
returns c = record { ordered = λ l v t o. restrict_ordered l v t 0 o; reduced = restrict_reduced; values = λ l v t o bits. restrict_value l v t 0 o bits }
