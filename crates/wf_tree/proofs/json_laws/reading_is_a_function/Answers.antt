use Rattle.wf_tree.proofs.Finding.{tree_found, found_tree}
use Rattle.wf_tree.proofs.json_laws.reading_is_a_function.Goals as goal

pub returns : goal.returns
returns c = λ b t. (tree_found b t, found_tree b t)
