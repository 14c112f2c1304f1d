use Rattle.std.proofs.Common.{sym, subst}
use Rattle.wf_ast.specs.View.{program_view}
use Rattle.wf_check.proofs.Callable.{calls_lead}
use Rattle.wf_check.proofs.checked.Checked.nodes.Goals as goal
use Rattle.wf_check.specs.Callable.{CallsLead}
use Rattle.wf_model.proofs.Told.{resolves}
use Rattle.wf_model.specs.Spots.{spots}
use Rattle.wf_model.specs.Table.{Resolves}
use Rattle.wf_table.specs.Built.{node_list}

pub returns-clause-resolves : goal.returns-clause-resolves
returns-clause-resolves c =
    let ns = spots (program_view c.args.self.now.program).flows in
    subst (Resolves ns) (sym c.nodes.ensures) (resolves ns (node_list c.args.self.now.table) c.args.self.now.told)

pub returns-clause-lead : goal.returns-clause-lead
returns-clause-lead c =
    let ns = spots (program_view c.args.self.now.program).flows in
    subst (CallsLead (program_view c.args.self.now.program).flows) (sym c.nodes.ensures)
    (calls_lead (program_view c.args.self.now.program) c.args.self.now.accepted (node_list c.args.self.now.table) (resolves ns (node_list c.args.self.now.table) c.args.self.now.told))
