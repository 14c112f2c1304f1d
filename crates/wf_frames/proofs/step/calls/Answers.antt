use Rattle.std.proofs.Common.{refl}
use Rattle.wf_frames.specs.declared.step.Leads.TheVariants as leads
use Rattle.wf_ast.specs.Eval.{fill_fields}
use Rattle.wf_ast.specs.Tree.{fields}
use Rattle.wf_eval.specs.Sight.{seen}
use Rattle.wf_model.specs.NodeKinds.{call_by}
use Rattle.wf_model.specs.Shapes.{fields_by}
use Rattle.wf_frames.proofs.Asking.{ask_fails, asked_with, of_so, ready_so}
use Rattle.wf_frames.proofs.Evaluated.{gave}
use Rattle.wf_frames.proofs.Shallow.{args_shallow}
use Rattle.wf_frames.specs.Steps.{AsksWith, Fails}
use Rattle.wf_value.specs.Data.{pairs_of}
use Rattle.wf_frames.proofs.step.calls.Goals as goal
use Rattle.wf_lemmas.proofs.Results.{with_ok}

pub returns-in-Ok-clause-asked : goal.returns-in-Ok-clause-asked
returns-in-Ok-clause-asked g c =
    with_ok _ _ c.lead.result
    (λ st so. asked_with c.args.n (call_by c.args.codes.now c.args.call.now) (seen (g.K.Look.sight c.args.look.now) c.args.now) c.in-Ok.args st so c.in-Ok.ensures)
    c.lead.ensures

pub returns-in-Ok-clause-of : goal.returns-in-Ok-clause-of
returns-in-Ok-clause-of g c = with_ok _ _ c.lead.result (λ st so. of_so c.args.n (leads.Calls c.args.n c.in-Ok.args) st so refl) c.lead.ensures

pub returns-in-Ok-clause-ready : goal.returns-in-Ok-clause-ready
returns-in-Ok-clause-ready g c ns nodes fs is =
    let v = seen (g.K.Look.sight c.args.look.now) c.args.now in
    let args = fields (fields_by c.args.codes.now c.args.call.now.args) in
    with_ok _ _ c.lead.result
    (λ st so. ready_so ns nodes fs (leads.Calls c.args.n c.in-Ok.args) st so ((c.args.call.now, is), args_shallow args v (pairs_of c.in-Ok.args) (gave pairs_of c.in-Ok.args (fill_fields args v) c.in-Ok.ensures)))
    c.lead.ensures

pub returns-in-Err-clause-asked : goal.returns-in-Err-clause-asked
returns-in-Err-clause-asked g c =
    let v = seen (g.K.Look.sight c.args.look.now) c.args.now in
    let f = call_by c.args.codes.now c.args.call.now in
    with_ok (Fails c.in-Err.raise) (AsksWith c.args.n f v) c.fails.result (λ st h. ask_fails c.args.n f v c.in-Err.raise st c.in-Err.ensures h) c.fails.ensures.raises
