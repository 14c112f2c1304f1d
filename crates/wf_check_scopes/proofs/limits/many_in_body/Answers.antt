use Rattle.std.proofs.Common.{codes, nat_lt, sym, ap, ◌∙◌}
use Rattle.wf_ast.specs.Accept.{body_many, work_many}
use Rattle.wf_ast.specs.Blocks.{at_if}
use Rattle.wf_ast.specs.Nodes.{below}
use Rattle.wf_ast.specs.View.{body_view, work_view}
use Rattle.wf_check_scopes.proofs.Most.{arms_counted, branches_counted}
use Rattle.wf_diagnostics.proofs.Told.{tells_as}
use Rattle.wf_check_scopes.proofs.limits.many_in_body.Goals as goal
use Rattle.wf_diagnostics.specs.Said.{as_said}
use Rattle.wf_diagnostics.specs.declared.kind.CheckKind.TheVariants as kinds

pub returns-in-Switch : goal.returns-in-Switch
returns-in-Switch c =
    tells_as c.speak_at-in-Switch.result _ _ (λ path. ap (as_said kinds.TooMany) (ap (λ n. at_if (nat_lt 50 n) (below path (codes "switch"))) (arms_counted c.items-in-Switch.result.now c.in-Switch.arms c.items-in-Switch.ensures.view)
    ∙ sym (ap (λ y. body_many (body_view y) path) c.in-Switch.is))) c.speak_at-in-Switch.ensures

pub returns-in-Branches : goal.returns-in-Branches
returns-in-Branches c =
    tells_as c.speak_within.result _ _ (λ path. ap (as_said kinds.TooMany) (ap (λ n. at_if (nat_lt 10 n) (below (below path (codes "parallel")) (codes "branches"))) (branches_counted c.items-in-Branches.result.now c.in-Branches.branches c.items-in-Branches.ensures.view)
    ∙ sym (ap (λ y. work_many (work_view y) (below path (codes "parallel"))) c.in-Branches.is) ∙ sym (ap (λ y. body_many (body_view y) path) c.in-Parallel.is))) c.speak_within.ensures
