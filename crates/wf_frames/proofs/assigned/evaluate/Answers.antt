use Rattle.std.proofs.Common.{map, subst, take, Ok}
use Rattle.wf_ast.specs.Eval.{eval_all, fill}
use Rattle.wf_ast.specs.Tree.{exprs}
use Rattle.wf_eval.specs.Answers.{Answers}
use Rattle.wf_eval.specs.Sight.{seen}
use Rattle.wf_frames.proofs.Entered.{both_given}
use Rattle.wf_model.specs.Shapes.{Compiled, decoded, shape_by}
use Rattle.wf_value.specs.Plain.{plain}
use Rattle.wf_frames.proofs.assigned.evaluate.Goals as goal

pub returns : goal.returns
returns g c =
    let v = seen (g.K.Look.sight c.args.look.now) c.args.now in
    let places = subst (λ (cs : Compiled). Answers (λ vs. map plain vs.items) (Ok c.in_ok-places.places) (eval_all (exprs (map decoded cs)) v)) c.first_of.ensures c.in_ok-places.ensures in
    both_given (record { value = c.in_ok-value.value; places = c.in_ok-places.places }) (fill (shape_by c.args.codes.now c.args.entry.now.value) v) (eval_all (exprs (map decoded (take c.args.entry.now.places c.args.codes.now))) v) c.in_ok-value.ensures places
