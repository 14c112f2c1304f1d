use Rattle.std.proofs.Common.{◌≡◌, List, [], ◌∷◌, map, ap, sym, subst, ◌∙◌, false}
use Rattle.wf_ast.specs.View.{param_view}
use Rattle.wf_frames.specs.Frames.{inner, own, owned}
use Rattle.wf_frames.specs.Owned.{IsLinked, local_of, own_of}
use Rattle.wf_frames.specs.declared.frames.Frame.TheVariants as frame
use Rattle.wf_moves.proofs.Starting.{begins_so, flow_fits}
use Rattle.wf_model.specs.Spots.{part_at}
use Rattle.wf_moves.specs.Tasks.{part_params}
use Rattle.wf_scope.specs.Store.{layers_of}
use Rattle.wf_frames.specs.Tasks.{Own}
use Rattle.wf_value.specs.Plain.{plain}
use Rattle.wf_moves.proofs.task.Task.new.Goals as goal

pub settle-requires : goal.settle-requires
settle-requires g c =
    let fs = c.in_ok-push.ensures.pushed ∙ ap (λ ys. frame.Do c.args.flow 0 ∷ ys) c.new-frames.ensures.none in
    let first = c.in_ok-push.ensures.first ∙ c.new-frames.ensures.first in
    let os : own_of c.push.new.self ≡ own c.in_ok-layer.layer.number false ∷ [] = ap (λ ys. owned c.push.new.self.first ys) fs ∙ ap (λ k. own k false ∷ []) first in (
      c.requires.0,
      record {
        fits = flow_fits g.around.spots c.args.nodes.now c.args.flow (inner c.push.new.self) c.requires.1.0 fs;
        linked = subst (λ (ys : List Own). IsLinked g.around ys c.first_layer.new.scopes) (sym os) c.in_ok-layer.ensures.linked;
      },
    )

pub returns-clause-begins : goal.returns-clause-begins
returns-clause-begins g c =
    let fs = c.in_ok-push.ensures.pushed ∙ ap (λ ys. frame.Do c.args.flow 0 ∷ ys) c.new-frames.ensures.none in
    let first = c.in_ok-push.ensures.first ∙ c.new-frames.ensures.first in
    let os : own_of c.push.new.self ≡ own c.in_ok-layer.layer.number false ∷ [] = ap (λ ys. owned c.push.new.self.first ys) fs ∙ ap (λ k. own k false ∷ []) first in
    begins_so g.around c.args.flow c.in_ok-layer.layer.number (inner c.push.new.self) (own_of c.push.new.self) (layers_of c.first_layer.new.scopes) (map param_view c.params.result.now) (part_params (part_at g.around.spots c.args.flow)) (plain c.args.argument)
    (local_of g.around c.settle.new.frames c.settle.new.scopes) fs os c.params.ensures c.in_ok-layer.ensures.begins (c.settle.ensures.left [])
