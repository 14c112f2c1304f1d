use Rattle.std.proofs.Common.{refl, ap, ◌∙◌}
use Rattle.wf_assigned.proofs.Laying.{opens}
use Rattle.wf_assigned.proofs.edges.Walk.open.Goals as goal
use Rattle.wf_assigned.specs.Edges.{block_of, number_in}
use Rattle.wf_ast.specs.View.{steps_in}
use Rattle.wf_lemmas.proofs.Results.{on_ok}
use Rattle.wf_table.proofs.Forms.{steps_are}

pub returns : goal.returns
returns c = on_ok c.put.result (opens c.args.self.now c.put.new.self _ (block_of (steps_in c.args.steps.now) c.args.first c.args.depth) c.args.is_closed refl (λ x. c.in_ok-numbers.ensures x ∙ ap (λ ss. number_in x ss c.args.first) (steps_are c.args.steps.now c.items.result.now c.items.ensures.view)) refl) c.put.ensures
