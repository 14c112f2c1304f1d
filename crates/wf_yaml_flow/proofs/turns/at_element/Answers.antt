use Rattle.std.proofs.Common.{◌≡◌, Ok, sym, ◌∙◌}
use Rattle.std.proofs.lemmas.Result.{IfOk-weaker}
use Rattle.wf_yaml_flow.specs.Flow.{goes}
use Rattle.wf_yaml_flow.specs.FlowWalk.{turned, ended, from_element}
use Rattle.wf_yaml_flow.proofs.FlowTurns.{missing_at, closes_at}
use Rattle.wf_yaml_flow.proofs.turns.at_element.Goals as goal

pub returns-then-is_empty-clause-seen : goal.returns-then-is_empty-clause-seen
returns-then-is_empty-clause-seen c = λ d. missing_at c.args.line d c.args.hand c.args.s.now (turned c.args.line d c.stopped.result) (sym c.is_empty.ensures ∙ c.if-is_empty.true) (c.stopped.ensures.seen c.args.line d)

pub returns-then-closes-clause-seen : goal.returns-then-closes-clause-seen
returns-then-closes-clause-seen c = λ d.
    IfOk-weaker c.finished.result (λ t. turned c.args.line d t ≡ goes (Ok (ended c.args.hand)) c.behind_first.result.now) (λ t. turned c.args.line d t ≡ from_element c.args.line d c.args.hand c.args.s.now)
    (λ t is. closes_at c.args.line d c.args.hand c.args.s.now c.behind_first.result.now (turned c.args.line d t) (sym c.closes.ensures ∙ c.if-closes.true) c.behind_first.ensures.rest is)
    (c.finished.ensures.seen c.args.line d)
