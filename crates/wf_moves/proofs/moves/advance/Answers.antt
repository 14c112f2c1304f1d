use Rattle.std.proofs.Common.{sym, subst, ◌∙◌}
use Rattle.wf_frames.specs.Frames.{inner}
use Rattle.wf_frames.specs.Owned.{beside, control_of, local_of}
use Rattle.wf_model.specs.Local.{Moved}
use Rattle.wf_moves.proofs.Leaving.{back_kept, loop_kept, step_kept}
use Rattle.wf_moves.proofs.Returning.{moves_back}
use Rattle.wf_moves.proofs.Stepping.{back_stepped, loop_stepped}
use Rattle.wf_moves.specs.Moved.{IsMove}
use Rattle.wf_moves.specs.Stepped.{stepped_at}
use Rattle.wf_moves.proofs.moves.advance.Goals as goal

pub turn-requires : goal.turn-requires
turn-requires g c = (c.requires.0, (c.requires.1.1.0, loop_kept c.args.nodes.now (inner c.args.frames.now) (sym (c.in-Loop.ensures ∙ c.requires.1.1.1.1))))

pub step_on-requires : goal.step_on-requires
step_on-requires g c =
    let fs = inner c.args.frames.now in
    let is = c.next.ensures ∙ c.requires.1.1.1.1 in
    (c.requires.0, (c.requires.1.0, (c.requires.1.1.0, (step_kept c.args.nodes.now fs c.requires.1.1.1.0 (λ e. c.in_default.not-Back (is ∙ e)) (λ e. c.in_default.not-Loop (is ∙ e)), c.requires.1.1.1.1))))

pub returns-in_ok-returns-in-Back-clause-moved : goal.returns-in_ok-returns-in-Back-clause-moved
returns-in_ok-returns-in-Back-clause-moved g c s d sees reaches agrees =
    let at = back_kept c.args.nodes.now (inner c.args.frames.now) (sym (c.in-Back.ensures ∙ c.requires.1.1.1.1)) in
    let l = beside d g.around c.args.frames.now c.args.scopes.now in
    c.done_of.ensures.moved g.around s (stepped_at s (control_of g.around c.args.frames.now) l) (local_of g.around c.returns.new.frames c.returns.new.scopes)
    (subst (λ (m : Moved). IsMove s m c.in_ok-returns-in-Back.field-0 (local_of g.around c.returns.new.frames c.returns.new.scopes))
    (sym (back_stepped g.around.spots s (inner c.args.frames.now) l at ∙ moves_back g.around.spots s (inner c.args.frames.now) l at)) (c.in_ok-returns-in-Back.ensures.moved s d agrees))

pub returns-in_ok-turn-in-Loop-clause-moved : goal.returns-in_ok-turn-in-Loop-clause-moved
returns-in_ok-turn-in-Loop-clause-moved g c s d sees reaches agrees =
    let at = loop_kept c.args.nodes.now (inner c.args.frames.now) (sym (c.in-Loop.ensures ∙ c.requires.1.1.1.1)) in
    let l = beside d g.around c.args.frames.now c.args.scopes.now in
    let m = local_of g.around c.turn.new.frames c.turn.new.scopes in
    c.done_of-in-Loop.ensures.moved g.around s (stepped_at s (control_of g.around c.args.frames.now) l) m
    (subst (λ (y : Moved). IsMove s y c.in_ok-turn-in-Loop.field-0 m) (sym (loop_stepped g.around.spots s (inner c.args.frames.now) l at)) (c.in_ok-turn-in-Loop.ensures.moved s d agrees))
