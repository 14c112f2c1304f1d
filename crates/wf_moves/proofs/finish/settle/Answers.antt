use Rattle.std.proofs.Common.{List, sym, ap, subst, ◌∙◌}
use Rattle.wf_frames.specs.Foreseen.{next_by}
use Rattle.wf_frames.specs.Frames.{control, inner}
use Rattle.wf_frames.specs.Held.{standing}
use Rattle.wf_frames.specs.Owned.{held_by, held_of}
use Rattle.wf_frames.specs.Tasks.{Own}
use Rattle.wf_frames.specs.declared.frames.Frame.{Frame}
use Rattle.wf_moves.proofs.Leaving.{fits_after, next_kept, next_moves, next_stands, none_ended, none_settled, nothing_kept, settles_here, settles_on, settles_out, top_node, top_settled}
use Rattle.wf_moves.specs.Moved.{IsSettled}
use Rattle.wf_scope.specs.Store.{layers_of}
use Rattle.wf_moves.proofs.finish.settle.Goals as goal

pub next_in-requires : goal.next_in-requires
next_in-requires g c = top_node g.around.spots c.args.nodes.now c.in-Some.frame.now (inner c.loop-frame.frames) c.in-Some.ensures c.loop-frame.invariant.stands.fits

pub returns-in-Some-next_in-clause-settled : goal.returns-in-Some-next_in-clause-settled
returns-in-Some-next_in-clause-settled g c =
    let node = top_node g.around.spots c.args.nodes.now c.in-Some.frame.now (inner c.loop-frame.frames) c.in-Some.ensures c.loop-frame.invariant.stands.fits in
    subst (IsSettled c.args.nodes.now) (sym c.set_next.ensures.same) (top_settled c.args.nodes.now c.in-Some.frame.now (inner c.loop-frame.frames) c.in-Some.ensures (next_moves c.args.nodes.now c.in-Some.frame.now c.in-Some-next_in.next node (sym c.in-Some-next_in.ensures)))

pub returns-in-Some-next_in-clause-next : goal.returns-in-Some-next_in-clause-next
returns-in-Some-next_in-clause-next g c =
    c.set_next.ensures.next ∙ next_kept c.args.nodes.now c.in-Some.frame.now c.in-Some-next_in.next (inner c.loop-frame.frames) c.in-Some.ensures (sym c.in-Some-next_in.ensures) ∙ ap (next_by c.args.nodes.now) (sym c.set_next.ensures.same)

pub returns-in-Some-next_in-clause-left : goal.returns-in-Some-next_in-clause-left
returns-in-Some-next_in-clause-left g c d =
    let frames = c.loop-frame.frames in
    let h = held_by g.around frames c.loop-frame.scopes in
    let node = top_node g.around.spots c.args.nodes.now c.in-Some.frame.now (inner frames) c.in-Some.ensures c.loop-frame.invariant.stands.fits in
    c.loop-frame.invariant.left d
    ∙ settles_here g.around.spots c.in-Some.frame.now (inner frames) h c.in-Some.ensures (next_stands g.around.spots c.args.nodes.now c.requires.0.resolves c.in-Some.frame.now c.in-Some-next_in.next node (sym c.in-Some-next_in.ensures)) d
    ∙ ap (λ (fs : List Frame). standing (control g.around.spots fs) h) (sym c.set_next.ensures.same)
    ∙ ap (λ (os : List Own). standing (control g.around.spots (inner c.set_next.new.self)) (held_of g.around.keys os (layers_of c.loop-frame.scopes))) (sym c.set_next.ensures.own)

pub loop-frame-preserved : goal.loop-frame-preserved
loop-frame-preserved g c =
    let node = top_node g.around.spots c.args.nodes.now c.in-Some.frame.now (inner c.loop-frame.frames) c.in-Some.ensures c.loop-frame.invariant.stands.fits in
    let ended = none_ended g.around.spots c.args.nodes.now c.requires.0.resolves c.in-Some.frame.now node (sym c.in_default-next_in.ensures) in
    record {
      stands = record {
        fits = fits_after g.around.spots c.args.nodes.now c.leave.result (inner c.loop-frame.frames) (inner c.leave.new.frames) (held_by g.around c.loop-frame.frames c.loop-frame.scopes) (held_by g.around c.leave.new.frames c.leave.new.scopes) c.leave.ensures.left c.loop-frame.invariant.stands.fits;
        linked = c.leave.ensures.linked;
      };
      left = λ d. c.loop-frame.invariant.left d
          ∙ settles_on g.around.spots c.in-Some.frame.now c.leave.result (inner c.loop-frame.frames) (inner c.leave.new.frames) (held_by g.around c.loop-frame.frames c.loop-frame.scopes) (held_by g.around c.leave.new.frames c.leave.new.scopes)
          c.in-Some.ensures ended c.leave.ensures.left d;
    }

pub returns-clause-settled : goal.returns-clause-settled
returns-clause-settled g c = subst (IsSettled c.args.nodes.now) (sym c.set_next-2.ensures.same) (none_settled c.args.nodes.now (inner c.loop-frame.frames) c.in_default.ensures)

pub returns-clause-next : goal.returns-clause-next
returns-clause-next g c = c.set_next-2.ensures.next ∙ nothing_kept c.args.nodes.now (inner c.loop-frame.frames) c.in_default.ensures ∙ ap (next_by c.args.nodes.now) (sym c.set_next-2.ensures.same)

pub returns-clause-left : goal.returns-clause-left
returns-clause-left g c d =
    let h = held_by g.around c.loop-frame.frames c.loop-frame.scopes in
    c.loop-frame.invariant.left d
    ∙ settles_out g.around.spots (inner c.loop-frame.frames) h c.in_default.ensures d
    ∙ ap (λ (fs : List Frame). standing (control g.around.spots fs) h) (sym c.set_next-2.ensures.same)
    ∙ ap (λ (os : List Own). standing (control g.around.spots (inner c.set_next-2.new.self)) (held_of g.around.keys os (layers_of c.loop-frame.scopes))) (sym c.set_next-2.ensures.own)
