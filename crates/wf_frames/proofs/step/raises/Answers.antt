use Rattle.wf_ast.specs.Eval.{fill}
use Rattle.wf_eval.specs.Sight.{seen}
use Rattle.wf_frames.proofs.Evaluated.{gave}
use Rattle.wf_frames.proofs.Shallow.{value_shallow}
use Rattle.wf_frames.proofs.Asking.{done_so}
use Rattle.wf_frames.specs.declared.step.Leads.TheVariants as leads
use Rattle.wf_lemmas.proofs.Results.{with_ok}
use Rattle.wf_model.specs.Shapes.{shape_by}
use Rattle.wf_value.specs.Plain.{plain}
use Rattle.wf_frames.proofs.step.raises.Goals as goal

pub returns-in-Text-clause-done : goal.returns-in-Text-clause-done
returns-in-Text-clause-done g c =
    let v = seen (g.K.Look.sight c.args.look.now) c.args.now in
    let t = shape_by c.args.codes.now c.args.shape.now in
    with_ok _ _ c.lead.result
    (λ st so. done_so (leads.Raises c.in-Ok.value) st so (value_shallow t v (plain c.in-Ok.value) (gave plain c.in-Ok.value (fill t v) c.in-Ok.ensures)))
    c.lead.ensures
