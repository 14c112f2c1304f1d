use Rattle.std.proofs.Common.{ap, sym, ◌∙◌}
use Rattle.wf_model.specs.Shapes.{shape_by}
use Rattle.wf_eval.specs.Sight.{seen}
use Rattle.wf_frames.proofs.Evaluated.{left_items}
use Rattle.wf_value.specs.declared.Value.TheVariants as value
use Rattle.wf_frames.proofs.step.left_of.Goals as goal

pub returns-in_ok-list-in-List : goal.returns-in_ok-list-in-List
returns-in_ok-list-in-List g c =
    let is = c.in-List-value.is ∙ ap value.List (sym c.in_ok-list-in-List.ensures) in
    rw c.in-List.is (left_items (shape_by c.args.codes.now c.in-List.shape) (seen (g.K.Look.sight c.args.look.now) c.args.now) c.fill_shape.result c.in_ok-value-in-List.value c.in_ok-list-in-List.list c.fill_shape.ensures c.in_ok-value-in-List.was is)
