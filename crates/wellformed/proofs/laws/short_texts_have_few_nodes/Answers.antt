use Rattle.wellformed.proofs.Spelled.{short_items, short_nodes}
use Rattle.wellformed.proofs.laws.short_texts_have_few_nodes.Goals as goal

pub returns-clause-items : goal.returns-clause-items
returns-clause-items c = short_items

pub returns-clause-nodes : goal.returns-clause-nodes
returns-clause-nodes c = short_nodes
