use Rattle.std.proofs.Common.{[], sym, ap, ◌∙◌}
use Rattle.wf_ast.specs.Nodes.{nodes}
use Rattle.wf_ast.specs.View.{program_view}
use Rattle.wf_check.proofs.Accepted.{accepted_when, built_of}
use Rattle.wf_check.proofs.top.check.Goals as goal
use Rattle.wf_check.specs.Said.{said_among}
use Rattle.wf_model.proofs.Told.{told}
use Rattle.wf_model.specs.Spots.{spots}
use Rattle.wf_table.specs.Built.{node_list}

pub returns-in-Ok-table_of-clause-built : goal.returns-in-Ok-table_of-clause-built
returns-in-Ok-table_of-clause-built c =
    let p = program_view c.args.program in
    built_of p (accepted_when p (ap (λ fs. said_among fs 0 [] (nodes fs)) (sym c.items.ensures.view) ∙ c.in-Ok.ensures.0) c.requires)

pub invariant_of-result-clause-accepted : goal.invariant_of-result-clause-accepted
invariant_of-result-clause-accepted c =
    let p = program_view c.args.program in
    accepted_when p (ap (λ fs. said_among fs 0 [] (nodes fs)) (sym c.items.ensures.view) ∙ c.in-Ok.ensures.0) c.requires

pub invariant_of-result-clause-told : goal.invariant_of-result-clause-told
invariant_of-result-clause-told c = told (spots (program_view c.args.program).flows) (node_list c.in-Ok-table_of.table) c.in-Ok-table_of.ensures.resolves

pub invariant_of-result-clause-numbered : goal.invariant_of-result-clause-numbered
invariant_of-result-clause-numbered c = c.in-Ok-table_of.ensures.flows
