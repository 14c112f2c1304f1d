use Rattle.std.proofs.Common.{Ok, Err, List, ap, subst, ◌∙◌}
use Rattle.wf_ast.specs.Apply.{apply}
use Rattle.wf_eval.specs.Answers.{Gives}
use Rattle.wf_eval.specs.Sight.{seen}
use Rattle.wf_frames.proofs.Called.{failed_kept, gave_kept}
use Rattle.wf_value.specs.Data.{Data}
use Rattle.wf_value.specs.Plain.{plain_items}
use Rattle.wf_frames.proofs.calling.call_function.Goals as goal

pub returns-in-Ok : goal.returns-in-Ok
returns-in-Ok g c =
    let s = seen (g.K.Look.sight c.args.look.now) c.args.now in
    let f = c.args.function.now.func in
    gave_kept c.keep.result c.in-Ok.value _
    (subst (λ (ds : List Data). Gives (Ok c.in-Ok.value) (apply s f ds)) (ap plain_items c.as_slice.ensures.value ∙ c.in_ok-values.ensures) c.in-Ok.ensures)
    c.keep.ensures

pub returns : goal.returns
returns g c =
    let s = seen (g.K.Look.sight c.args.look.now) c.args.now in
    let f = c.args.function.now.func in
    failed_kept c.in-Err.raise _
    (subst (λ (ds : List Data). Gives (Err c.in-Err.raise) (apply s f ds)) (ap plain_items c.as_slice.ensures.value ∙ c.in_ok-values.ensures) c.in-Err.ensures)
