use Rattle.std.proofs.Common.{rules, ◌≡◌, sym, subst, map, Result, Err}
use Rattle.std.specs.Prelude.{Vec}
use Rattle.std.specs.declared.alloc.Global.{Global}
use Rattle.wf_ast.specs.Eval.{eval_all}
use Rattle.wf_ast.specs.Tree.{exprs}
use Rattle.wf_eval.specs.Answers.{Answers}
use Rattle.wf_eval.specs.Sight.{seen}
use Rattle.wf_model.specs.Shapes.{decoded}
use Rattle.wf_value.specs.Plain.{plain}
use Rattle.wf_value.specs.declared.errors.Raise.{Raise}
use Rattle.wf_value.specs.declared.value.Value.{Value}
use Rattle.wf_frames.proofs.Coded.{done, step, stops}
use Rattle.wf_frames.proofs.codes.values.Goals as goal

pub loop-code-preserved : goal.loop-code-preserved
loop-code-preserved g c =
    step (seen (g.K.Look.sight c.args.look.now) c.args.now) c.args.codes.now c.loop-code.code-index c.code-item.result c.loop-code.values.items c.loop-code-test.true c.code-item.is c.loop-code.invariant c.push.new.self.items c.in_ok-value.value c.in_ok-value.ensures c.in_ok-push.ensures.items

pub returns : goal.returns
returns g c = done (seen (g.K.Look.sight c.args.look.now) c.args.now) c.args.codes.now c.loop-code.code-index c.loop-code.values.items c.loop-code-test.false c.loop-code.invariant

pub returns-in_err-value : goal.returns-in_err-value
returns-in_err-value g c =
    let is : c.from_residual.result ≡ Err c.in_err-value.field-0.0 = search rules in
    subst (λ (r : Result (Vec Value Global) Raise). Answers (λ vs. map plain vs.items) r (eval_all (exprs (map decoded c.args.codes.now)) (seen (g.K.Look.sight c.args.look.now) c.args.now))) (sym is)
    (stops (seen (g.K.Look.sight c.args.look.now) c.args.now) c.args.codes.now c.loop-code.code-index c.code-item.result c.loop-code.values.items c.loop-code-test.true c.code-item.is c.loop-code.invariant c.in_err-value.field-0.0 c.in_err-value.ensures)
