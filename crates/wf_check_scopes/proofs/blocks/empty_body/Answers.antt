use Rattle.std.proofs.Common.{codes, sym, ap, ◌∙◌}
use Rattle.wf_ast.specs.Blocks.{body_empty, work_empty}
use Rattle.wf_ast.specs.Nodes.{below}
use Rattle.wf_ast.specs.View.{body_view, work_view}
use Rattle.wf_diagnostics.proofs.Told.{tells_as}
use Rattle.wf_check_scopes.proofs.Vacant.{branches_empty, looped_empty}
use Rattle.wf_check_scopes.proofs.blocks.empty_body.Goals as goal
use Rattle.wf_diagnostics.specs.Said.{as_said}
use Rattle.wf_diagnostics.specs.declared.kind.CheckKind.TheVariants as kinds

pub returns-in-Branches : goal.returns-in-Branches
returns-in-Branches c =
    tells_as c.speak_within-in-Branches.result _ _ (λ path. ap (as_said kinds.EmptySteps) (branches_empty c.items.result.now c.in-Branches.branches c.is_empty-in-Branches.result (below path (codes "parallel")) c.items.ensures.view c.is_empty-in-Branches.ensures
    ∙ sym (ap (λ y. work_empty (work_view y) (below path (codes "parallel"))) c.in-Branches.is) ∙ sym (ap (λ y. body_empty (body_view y) path) c.in-Parallel.is))) c.speak_within-in-Branches.ensures

pub returns-in-Loop : goal.returns-in-Loop
returns-in-Loop c =
    tells_as c.speak_deep.result _ _ (λ path. ap (as_said kinds.EmptySteps) (looped_empty c.in-Loop.repeated c.is_empty-in-Loop.result (below (below path (codes "parallel")) (codes "for")) c.is_empty-in-Loop.ensures
    ∙ sym (ap (λ y. work_empty (work_view y) (below path (codes "parallel"))) c.in-Loop.is) ∙ sym (ap (λ y. body_empty (body_view y) path) c.in-Parallel.is))) c.speak_deep.ensures
