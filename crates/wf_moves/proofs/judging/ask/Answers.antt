use Rattle.std.proofs.Common.{◌≡◌, inl, length, map, sym, ap, ◌∙◌, arith}
use Rattle.wf_ast.specs.View.{param_view}
use Rattle.wf_frames.specs.Frames.{inner}
use Rattle.wf_frames.specs.Owned.{beside, control_of, held_by, local_of}
use Rattle.wf_model.specs.Unwind.{unwind}
use Rattle.wf_moves.proofs.Retrying.{ask_other, asked_begun, asked_deep, asks_flow, breaks_led, one_long, one_param, params_are}
use Rattle.wf_moves.specs.Retries.{ask_at}
use Rattle.wf_value.specs.Data.{Data}
use Rattle.wf_value.specs.Plain.{plain}
use Rattle.wf_moves.proofs.judging.ask.Goals as goal

pub params-params-requires : goal.params-params-requires
params-params-requires g c = (c.requires.0, (asked_begun g.around c.args.nodes.now c.requires.0 c.args.targets.now c.args.tried (plain c.args.error) c.requires.1.0 c.in-Flow.flow c.in-Flow.is).is)

pub returns-then-params-ne1-clause-moved : goal.returns-then-params-ne1-clause-moved
returns-then-params-ne1-clause-moved g c last s d same agrees =
    let b = asked_begun g.around c.args.nodes.now c.requires.0 c.args.targets.now c.args.tried (plain c.args.error) c.requires.1.0 c.in-Flow.flow c.in-Flow.is in
    let ps = c.params-params.result.now in
    let other : length ps ≡ 1 → ⊥ = λ e. omega (arith, e) in
    breaks_led g.around (ask_at g.around.spots c.args.tried s (plain c.args.error) (control_of g.around c.args.frames.now) (beside d g.around c.args.frames.now c.args.scopes.now)) c.lead_on.result (local_of g.around c.lead_on.new.frames c.lead_on.new.scopes)
    (ask_other g.around c.args.tried (plain c.args.error) c.requires.1.0.0 c.requires.1.0.1 s agrees b.workflow b.named (control_of g.around c.args.frames.now) (beside d g.around c.args.frames.now c.args.scopes.now)
    (map param_view ps) (params_are g.around.spots c.in-Flow.flow b.workflow (map param_view ps) b.part c.params-params.ensures) (λ x e. other (one_long ps x e)))

pub returns-then-calls-ge-CALL_LIMIT-clause-moved : goal.returns-then-calls-ge-CALL_LIMIT-clause-moved
returns-then-calls-ge-CALL_LIMIT-clause-moved g c last s d same agrees =
    let b = asked_begun g.around c.args.nodes.now c.requires.0 c.args.targets.now c.args.tried (plain c.args.error) c.requires.1.0 c.in-Flow.flow c.in-Flow.is in
    let ps = c.params-params.result.now in
    let one = params_are g.around.spots c.in-Flow.flow b.workflow (map param_view ps) b.part c.params-params.ensures ∙ one_param ps c.index-params-0.result (omega arith) (omega arith) c.index-params-0.is in
    inl (asked_deep g.around c.args.tried (plain c.args.error) c.requires.1.0.0 c.requires.1.0.1 s agrees b.workflow b.named (param_view c.index-params-0.result) one (inner c.args.frames.now) d (held_by g.around c.args.frames.now c.args.scopes.now) (omega (arith, c.if-calls-ge-CALL_LIMIT.true, c.calls.ensures))
    ∙ ap (λ (v : Data). unwind s (control_of g.around c.args.frames.now) (beside d g.around c.args.frames.now c.args.scopes.now) v) (sym c.in_ok-map_of.ensures.error))

pub question-requires : goal.question-requires
question-requires g c =
    let ps = c.params-params.result.now in (
      c.requires.0,
      (
        asks_flow g.around c.args.targets.now c.args.tried (plain c.args.error) c.requires.1.0 c.in-Flow.flow c.in-Flow.is,
        (
          c.requires.1.1.0,
          (
            c.requires.1.1.1.0,
            (c.requires.1.1.1.1, (sym c.params-params.ensures ∙ one_param ps c.index-params-0.result (omega arith) (omega arith) c.index-params-0.is, omega (arith, c.if-calls-ge-CALL_LIMIT.false, c.calls.ensures))),
          ),
        ),
      ),
    )
