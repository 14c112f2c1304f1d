use Rattle.std.proofs.Common.{inl, sym, ap, subst, ◌∙◌}
use Rattle.wf_lemmas.proofs.Results.{with_ok}
use Rattle.wf_frames.specs.Owned.{beside, control_of, local_of}
use Rattle.wf_moves.proofs.Retrying.{asked_there, decided_asks, decided_no, decided_yes}
use Rattle.wf_moves.specs.Retries.{IsDecided, IsLed, caught}
use Rattle.wf_value.specs.Plain.{plain}
use Rattle.wf_moves.proofs.judging.decide.Goals as goal

pub ask-requires : goal.ask-requires
ask-requires g c =
    (c.requires.0, (asked_there g.around c.args.nodes.now c.requires.0 c.args.tried c.try_node-node.result.now c.try_node-node.ensures (plain c.args.error) c.args.targets.now c.requires.1.0 (sym c.in-Asks.is ∙ c.judge.ensures), c.requires.1.1))

pub returns-in_ok-retry-in-Yes-clause-moved : goal.returns-in_ok-retry-in-Yes-clause-moved
returns-in_ok-retry-in-Yes-clause-moved g c s d last agrees =
    subst (λ m. IsLed g.around m c.in_ok-retry-in-Yes.field-0 (local_of g.around c.retry.new.frames c.retry.new.scopes))
    (sym (decided_yes g.around c.args.nodes.now c.requires.0 c.args.tried c.try_node-node.result.now c.try_node-node.ensures (plain c.args.error) s (control_of g.around c.args.frames.now) (beside d g.around c.args.frames.now c.args.scopes.now) (sym c.in-Yes.is ∙ c.judge.ensures)))
    (c.in_ok-retry-in-Yes.ensures.moved s d last agrees)

pub returns-in-Asks-clause-moved : goal.returns-in-Asks-clause-moved
returns-in-Asks-clause-moved g c =
    let asked = asked_there g.around c.args.nodes.now c.requires.0 c.args.tried c.try_node-node.result.now c.try_node-node.ensures (plain c.args.error) c.args.targets.now c.requires.1.0 (sym c.in-Asks.is ∙ c.judge.ensures) in
    with_ok _ _ c.ask.result
    (λ o h s d last agrees.
    subst (λ m. IsDecided g.around s d m o c.ask.new.frames c.ask.new.scopes)
    (sym (decided_asks g.around c.args.nodes.now c.requires.0 c.args.tried c.try_node-node.result.now c.try_node-node.ensures (plain c.args.error) s (control_of g.around c.args.frames.now) (beside d g.around c.args.frames.now c.args.scopes.now) asked.0 asked.1))
    (h c.args.last s d last agrees))
    c.ask.ensures.moved

pub returns-in-Some-clause-moved : goal.returns-in-Some-clause-moved
returns-in-Some-clause-moved g c s d last agrees =
    inl (decided_no g.around c.args.nodes.now c.requires.0 c.args.tried c.try_node-node.result.now c.try_node-node.ensures (plain c.args.error) s (control_of g.around c.args.frames.now) (beside d g.around c.args.frames.now c.args.scopes.now) (sym c.in-No.is ∙ c.judge.ensures)
    ∙ c.in_ok-another-in-No.ensures.moved s d agrees ∙ ap (λ o. caught o s (control_of g.around c.take.new.frames) (beside d g.around c.take.new.frames c.take.new.scopes)) c.in-Some.is)

pub returns-in-None-clause-moved : goal.returns-in-None-clause-moved
returns-in-None-clause-moved g c s d last agrees =
    subst (λ m. IsLed g.around m c.lead_on.result (local_of g.around c.lead_on.new.frames c.lead_on.new.scopes))
    (sym (decided_no g.around c.args.nodes.now c.requires.0 c.args.tried c.try_node-node.result.now c.try_node-node.ensures (plain c.args.error) s (control_of g.around c.args.frames.now) (beside d g.around c.args.frames.now c.args.scopes.now) (sym c.in-No.is ∙ c.judge.ensures)
    ∙ c.in_ok-another-in-No.ensures.moved s d agrees ∙ ap (λ o. caught o s (control_of g.around c.take.new.frames) (beside d g.around c.take.new.frames c.take.new.scopes)) c.in-None.is))
    (c.lead_on.ensures.moved d)
