use Rattle.std.proofs.Common.{Some, sym, ap, subst, ◌∙◌}
use Rattle.wf_frames.specs.Fits.{Fits, HasNode, IsTry}
use Rattle.wf_frames.specs.Frames.{inner}
use Rattle.wf_frames.specs.Owned.{held_by, local_of}
use Rattle.wf_frames.specs.declared.frames.Frame.{Frame}
use Rattle.wf_frames.specs.declared.frames.Trying.{Trying}
use Rattle.wf_model.specs.declared.node.TryNode.{TryNode}
use Rattle.wf_moves.proofs.Leaving.{top_node}
use Rattle.wf_moves.proofs.Retrying.{again_inside, again_so, same_held, same_linked}
use Rattle.wf_moves.specs.Moved.{IsMove}
use Rattle.wf_frames.proofs.Parts.{tried_stands, try_built}
use Rattle.wf_moves.proofs.judging.try_again.Goals as goal

pub try_node-tried-requires : goal.try_node-tried-requires
try_node-tried-requires g c =
    subst (λ (x : Trying). (y : TryNode) × IsTry c.args.nodes.now x.node y) (sym c.deref.ensures)
    (subst (HasNode c.args.nodes.now) c.in-Try.is (top_node g.around.spots c.args.nodes.now c.in-Some.frame.now (inner c.args.frames.now) c.in-Some.ensures c.requires.1.0.fits))

pub body_frame-requires : goal.body_frame-requires
body_frame-requires g c =
    let t = subst (λ (x : Trying). IsTry c.args.nodes.now x.node c.try_node-tried.result.now) c.deref.ensures c.try_node-tried.ensures in (
      c.requires.0,
      (
        (tried_stands g.around.spots c.args.nodes.now c.in-Try.trying.value.node c.try_node-tried.result.now c.requires.0.resolves t).0,
        try_built c.args.nodes.now c.in-Try.trying.value.node t.node c.try_node-tried.result.now c.requires.0.built t.at t.is,
      ),
    )

pub goes-requires : goal.goes-requires
goes-requires g c =
    let t = subst (λ (x : Trying). IsTry c.args.nodes.now x.node c.try_node-tried.result.now) c.deref.ensures c.try_node-tried.ensures in
    let inside = again_inside g.around c.args.nodes.now c.requires.0 c.in-Try.trying c.try_node-tried.result.now t (inner c.args.frames.now) (c.in-Some.ensures ∙ ap (λ (f : Frame). Some f) c.in-Try.is) c.requires.1.0.fits in (
      c.requires.0,
      record {
        fits = subst (Fits g.around.spots c.args.nodes.now) (sym c.in_ok-push.ensures.pushed) (c.body_frame.ensures.fits (inner c.args.frames.now) inside, c.requires.1.0.fits);
        linked = same_linked g.around c.args.frames.now c.push.new.self c.body_frame.result c.args.scopes.now c.in_ok-push.ensures.pushed c.in_ok-push.ensures.first c.body_frame.ensures.own c.requires.1.0.linked;
      },
    )

pub returns-clause-moved : goal.returns-clause-moved
returns-clause-moved g c s d agrees =
    let t = subst (λ (x : Trying). IsTry c.args.nodes.now x.node c.try_node-tried.result.now) c.deref.ensures c.try_node-tried.ensures in
    subst (λ m. IsMove s m c.goes.result (local_of g.around c.goes.new.frames c.goes.new.scopes))
    (again_so g.around c.args.nodes.now c.requires.0 c.in-Try.trying c.try_node-tried.result.now t (inner c.args.frames.now) (c.in-Some.ensures ∙ ap (λ (f : Frame). Some f) c.in-Try.is)
    c.body_frame.result (inner c.push.new.self) (held_by g.around c.args.frames.now c.args.scopes.now) (held_by g.around c.push.new.self c.args.scopes.now) d c.body_frame.ensures.item c.in_ok-push.ensures.pushed
    (same_held g.around c.args.frames.now c.push.new.self c.body_frame.result c.args.scopes.now c.in_ok-push.ensures.pushed c.in_ok-push.ensures.first c.body_frame.ensures.own))
    (c.goes.ensures.moved s d)
