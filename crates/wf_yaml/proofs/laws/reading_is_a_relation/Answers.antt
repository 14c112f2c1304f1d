use Rattle.wf_yaml.proofs.Documents.{trees_are_read, one_tree}
use Rattle.wf_yaml.proofs.Relation.{nodes_agree}
use Rattle.wf_yaml.proofs.laws.reading_is_a_relation.Goals as goal

pub returns-clause-trees : goal.returns-clause-trees
returns-clause-trees c = trees_are_read

pub returns-clause-nodes : goal.returns-clause-nodes
returns-clause-nodes c = λ m floor d delay rs t h. nodes_agree m d h floor delay rs t

pub returns-clause-one_tree : goal.returns-clause-one_tree
returns-clause-one_tree c = one_tree
