use Rattle.std.proofs.Common.{None}
use Rattle.wf_table.proofs.growing.leaf.Goals as goal
use Rattle.wf_model.specs.Compiles.{code_list}
use Rattle.wf_model.specs.NodeKinds.{kind_by}

pub returns : goal.returns
returns c = λ none i. record { kind = kind_by (code_list c.args.codes) c.args.kind; name = none i; next = None; owner = c.args.here.owner }
