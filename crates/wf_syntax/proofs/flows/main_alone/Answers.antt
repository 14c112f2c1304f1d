use Rattle.std.proofs.Common.{◌∷◌, map, ap, sym, ◌∙◌, subst}
use Rattle.wf_ast.proofs.Views.{steps_level}
use Rattle.wf_ast.specs.Tree as t
use Rattle.wf_ast.specs.View.{flow_view, flows_view, params_view, steps_in, steps_view}
use Rattle.wf_syntax_rules.specs.Rules.{Steps}
use Rattle.wf_syntax.proofs.Sources.{alone_fails, alone_given}
use Rattle.wf_syntax.proofs.flows.main_alone.Goals as goal
use Rattle.wf_syntax.specs.Answers.{Fails}

pub returns-in-Err : goal.returns-in-Err
returns-in-Err c = λ xs is. alone_fails xs c.in-Err.stop c.at_key.result c.at_key-in-Err.result (subst (λ x. Fails Steps x c.in-Err.stop) is c.in-Err.ensures) c.at_key.ensures c.at_key-in-Err.ensures

pub returns : goal.returns
returns c =
    let main : t.Flow = record { name = c.in_ok-owned.field-0; params = params_view c.in_ok-new.field-0; steps = t.steps (steps_view c.in-Ok.steps) } in
    alone_given _ (steps_in c.in-Ok.steps) main (record { flows = flows_view c.in_ok-in_order.field-0 }) c.in-Ok.ensures
    (λ i. record { name = c.in_ok-owned.ensures i; params = c.in_ok-new.ensures i; steps = sym (steps_level c.in-Ok.steps) i })
    (c.in_ok-in_order.ensures ∙ ap (λ l. main ∷ map flow_view l) c.new-2.ensures.items)
