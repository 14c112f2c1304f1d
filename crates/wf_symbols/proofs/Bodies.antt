-- What bodies hold, of their parts as the code holds them.
use Rattle.std.proofs.Common.{◌≡◌, ◌++◌, List, Some, map, sym, ap, ◌∙◌}
use Rattle.wf_ast.proofs.Views.{branch_level, except_level, steps_level, try_level}
use Rattle.wf_ast.specs.Nodes.{body_step_names, except_step_names, step_names, try_step_names}
use Rattle.wf_ast.specs.Tree as tree
use Rattle.wf_ast.specs.Tree.{except}
use Rattle.wf_ast.specs.View.{body_view, branch_view, except_option_view, step_view, steps_in, steps_view, try_view}
use Rattle.wf_ast.specs.declared.body.Body.TheViews.{out-Branch, out-Except, out-TryBody}
use Rattle.wf_ast.specs.declared.body.Body.{Body}
use Rattle.wf_ast.specs.declared.body.Branch.{Branch}
use Rattle.wf_ast.specs.declared.body.Except.{Except}
use Rattle.wf_ast.specs.declared.body.Step.{Step}
use Rattle.wf_ast.specs.declared.body.StepList.{StepList}
use Rattle.wf_ast.specs.declared.body.TryBody.{TryBody}

pub tried_names : (x : TryBody) (b : Body) (h : Except) → b ≡ (out-TryBody x).body.value → (out-TryBody x).except ≡ Some h → body_step_names (body_view b) ++ step_names (steps_in (out-Except h).steps) ≡ try_step_names (try_view x)
tried_names x b h same is =
    ap (λ c. body_step_names (body_view c) ++ step_names (steps_in (out-Except h).steps)) same
    ∙ ap (λ e. body_step_names (body_view (out-TryBody x).body.value) ++ except_step_names e) (sym (except_level h ∙ ap (λ s. except (out-Except h).name s) (sym (steps_level (out-Except h).steps))) ∙ ap except_option_view (sym is))
    ∙ ap try_step_names (sym (try_level x))

pub steps_same : (xs : List Step) (ss : StepList) → map step_view xs ≡ steps_view ss → tree.steps (map step_view xs) ≡ steps_in ss
steps_same xs ss e = ap tree.steps e ∙ sym (steps_level ss)

pub branch_named : (x : Branch) → (out-Branch x).name ≡ (branch_view x).0
branch_named x = sym (ap (λ p. p.0) (branch_level x))
