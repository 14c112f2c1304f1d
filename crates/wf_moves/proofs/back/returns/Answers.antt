use Rattle.std.proofs.Common.{ℕ, refl, sym, subst, ◌∙◌}
use Rattle.std.specs.Prelude.{Option}
use Rattle.wf_lemmas.proofs.Results.{with_ok}
use Rattle.wf_frames.specs.Fits.{IsCallOf}
use Rattle.wf_frames.specs.Frames.{inner, result_of}
use Rattle.wf_frames.specs.Owned.{beside, control_of, held_by, local_of}
use Rattle.wf_model.specs.Leave.{gives, returned}
use Rattle.wf_model.specs.Unwind.{Found}
use Rattle.wf_moves.proofs.Leaving.{fits_after, none_there, top_node}
use Rattle.wf_moves.proofs.Raised.{turned_left, turned_move}
use Rattle.wf_moves.proofs.Returning.{call_node, ends_with, gives_on, judge_top, judged_on, says_left, top_back}
use Rattle.wf_moves.specs.Moved.{IsMove, back_found}
use Rattle.wf_moves.specs.declared.finish.End.TheVariants as end
use Rattle.wf_moves.specs.declared.finish.Turned.TheVariants as turned
use Rattle.wf_value.specs.Plain.{plain}
use Rattle.wf_moves.proofs.back.returns.Goals as goal

pub give-requires : goal.give-requires
give-requires g c =
    let mid = c.leave_to_back.ensures.fits c.args.nodes.now c.requires.1.0.fits in
    let node = call_node c.args.nodes.now c.in-Some.frame.now (top_node g.around.spots c.args.nodes.now c.in-Some.frame.now (inner c.leave_to_back.new.frames) c.in-Some.ensures mid)
    (top_back c.in-Some.frame.now (inner c.leave_to_back.new.frames) c.in-Some.ensures c.leave_to_back.ensures.top) in (
      c.requires.0,
      (
        record {
          fits = fits_after g.around.spots c.args.nodes.now c.leave.result (inner c.leave_to_back.new.frames) (inner c.leave.new.frames) (held_by g.around c.leave_to_back.new.frames c.leave_to_back.new.scopes) (held_by g.around c.leave.new.frames c.leave.new.scopes) c.leave.ensures.left mid;
          linked = c.leave.ensures.linked;
        },
        subst (IsCallOf c.args.nodes.now) (sym c.call_of-call.ensures) node,
      ),
    )

pub returns-in-None-clause-moved : goal.returns-in-None-clause-moved
returns-in-None-clause-moved g c =
    let mid = local_of g.around c.leave_to_back.new.frames c.leave_to_back.new.scopes in
    with_ok _ _ c.turns.result
    (λ w is s d agrees.
    subst (λ (f : Found). IsMove s (returned s (plain c.args.value) (beside d g.around c.args.frames.now c.args.scopes.now) f) w mid) (sym (c.leave_to_back.ensures.found d))
    (turned_move s (returned s (plain c.args.value) (beside d g.around c.args.frames.now c.args.scopes.now) (back_found g.around.spots (inner c.leave_to_back.new.frames) (beside d g.around c.leave_to_back.new.frames c.leave_to_back.new.scopes))) (turned.Ended (end.Value c.args.value)) w mid is
    (ends_with g.around.spots s (plain c.args.value) c.args.value (inner c.leave_to_back.new.frames) d (control_of g.around c.leave_to_back.new.frames) (held_by g.around c.args.frames.now c.args.scopes.now) (held_by g.around c.leave_to_back.new.frames c.leave_to_back.new.scopes)
    refl c.in-None.ensures c.requires.1.1 c.leave_to_back.ensures.outside)))
    c.turns.ensures

pub returns-in-None-clause-left : goal.returns-in-None-clause-left
returns-in-None-clause-left g c =
    with_ok _ _ c.turns.result
    (λ w is. turned_left c.args.nodes.now c.leave_to_back.new.frames (turned.Ended (end.Value c.args.value)) w is (none_there (inner c.leave_to_back.new.frames) c.in-None.ensures))
    c.turns.ensures

pub returns-in-None-clause-stands : goal.returns-in-None-clause-stands
returns-in-None-clause-stands g c =
    with_ok _ _ c.turns.result (λ w is. record { fits = c.leave_to_back.ensures.fits c.args.nodes.now c.requires.1.0.fits; linked = c.leave_to_back.ensures.linked }) c.turns.ensures

pub returns-else-is_judge-clause-moved : goal.returns-else-is_judge-clause-moved
returns-else-is_judge-clause-moved g c =
    with_ok _ _ c.give.result
    (λ w h s d agrees.
    subst (λ (f : Found). IsMove s (returned s (plain c.args.value) (beside d g.around c.args.frames.now c.args.scopes.now) f) w (local_of g.around c.give.new.frames c.give.new.scopes)) (sym (c.leave_to_back.ensures.found d))
    (gives_on g.around.spots s (plain c.args.value) c.in-Some.frame.now c.leave.result (inner c.leave_to_back.new.frames) (inner c.leave.new.frames) d (held_by g.around c.args.frames.now c.args.scopes.now) (held_by g.around c.leave_to_back.new.frames c.leave_to_back.new.scopes) (held_by g.around c.leave.new.frames c.leave.new.scopes)
    w (local_of g.around c.give.new.frames c.give.new.scopes) c.in-Some.ensures c.leave_to_back.ensures.top (sym c.is_judge.ensures ∙ c.if-is_judge.false) c.leave.ensures.left
    (subst (λ (o : Option ℕ). IsMove s (gives s (result_of g.around.spots o) (plain c.args.value) (control_of g.around c.leave.new.frames) (beside d g.around c.leave.new.frames c.leave.new.scopes)) w (local_of g.around c.give.new.frames c.give.new.scopes)) c.call_of-call.ensures (h s d agrees))))
    c.give.ensures.moved

pub returns-then-is_judge-clause-moved : goal.returns-then-is_judge-clause-moved
returns-then-is_judge-clause-moved g c =
    with_ok _ _ c.says.result
    (λ w says s d agrees.
    subst (λ (f : Found). IsMove s (returned s (plain c.args.value) (beside d g.around c.args.frames.now c.args.scopes.now) f) w (local_of g.around c.leave_to_back.new.frames c.leave_to_back.new.scopes)) (sym (c.leave_to_back.ensures.found d))
    (judged_on g.around.spots s (plain c.args.value) c.in-Some.frame.now (inner c.leave_to_back.new.frames) d (held_by g.around c.args.frames.now c.args.scopes.now) (held_by g.around c.leave_to_back.new.frames c.leave_to_back.new.scopes) w
    c.in-Some.ensures (sym c.is_judge.ensures ∙ c.if-is_judge.true) says))
    c.says.ensures

pub returns-then-is_judge-clause-left : goal.returns-then-is_judge-clause-left
returns-then-is_judge-clause-left g c =
    with_ok _ _ c.says.result
    (λ w says. says_left c.args.nodes.now c.leave_to_back.new.frames (plain c.args.value) w (judge_top c.in-Some.frame.now (inner c.leave_to_back.new.frames) c.in-Some.ensures (sym c.is_judge.ensures ∙ c.if-is_judge.true)) says)
    c.says.ensures

pub returns-then-is_judge-clause-stands : goal.returns-then-is_judge-clause-stands
returns-then-is_judge-clause-stands g c =
    with_ok _ _ c.says.result (λ w says. record { fits = c.leave_to_back.ensures.fits c.args.nodes.now c.requires.1.0.fits; linked = c.leave_to_back.ensures.linked }) c.says.ensures
