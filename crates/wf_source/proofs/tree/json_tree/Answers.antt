use Rattle.std.proofs.Common.{sym, subst}
use Rattle.serde_json.specs.Read.{read}
use Rattle.wf_source.specs.Sources as sources
use Rattle.wf_source.specs.Views.{IsErrorOf}
use Rattle.wf_tree.specs.Faults.{IsFaultOf}
use Rattle.wf_tree.specs.Plain.{plain_tree}
use Rattle.wf_source.proofs.Json.{tree_read, too_deep}
use Rattle.wf_source.proofs.tree.json_tree.Goals as goal

pub returns-in-Ok-clause-tree : goal.returns-in-Ok-clause-tree
returns-in-Ok-clause-tree c = tree_read c.args.text.now (plain_tree c.in-Ok.tree) (c.reading_is_decided.ensures.apart c.args.text.now) c.in-Ok.ensures.tree

pub returns-in-Err-TooDeep-clause-fault : goal.returns-in-Err-TooDeep-clause-fault
returns-in-Err-TooDeep-clause-fault c =
    subst (IsErrorOf (sources.of_json (read c.args.text.now))) (sym c.refused-in-Err-TooDeep.ensures)
    (too_deep c.args.text.now (c.reading_is_decided.ensures.apart c.args.text.now) (subst (IsFaultOf c.args.text.now) c.in-Err-TooDeep.field-0-is c.in-Err-TooDeep.ensures.fault))
