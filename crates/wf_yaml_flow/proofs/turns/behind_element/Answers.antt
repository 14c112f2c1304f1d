use Rattle.std.proofs.Common.{◌≡◌, Ok, sym, ◌∙◌}
use Rattle.std.proofs.lemmas.Result.{IfOk-weaker}
use Rattle.wf_yaml_flow.specs.Flow.{goes}
use Rattle.wf_yaml_flow.specs.FlowWalk.{turned, ended, behind_one}
use Rattle.wf_yaml_flow.proofs.FlowTurns.{comma_at, end_at, stop_at}
use Rattle.wf_yaml_flow.proofs.turns.behind_element.Goals as goal

pub returns-then-starts_comma-clause-seen : goal.returns-then-starts_comma-clause-seen
returns-then-starts_comma-clause-seen c = λ n d. comma_at n d c.args.hand c.args.r.now c.flow_blanks-s.result.now c.behind_first.result.now c.flow_blanks-more.result.now c.flow_blanks-s.ensures.rest
    (sym c.starts_comma.ensures.value ∙ c.if-starts_comma.true) c.behind_first.ensures.rest c.flow_blanks-more.ensures.rest

pub returns-then-closes-clause-seen : goal.returns-then-closes-clause-seen
returns-then-closes-clause-seen c = λ n d.
    let rest = c.behind_first-then-closes.result.now in
    IfOk-weaker c.finished.result (λ t. turned n d t ≡ goes (Ok (ended c.args.hand)) rest) (λ t. turned n d t ≡ behind_one n d c.args.hand c.args.r.now)
    (λ t is. end_at n d c.args.hand c.args.r.now c.flow_blanks-s.result.now rest (turned n d t) c.flow_blanks-s.ensures.rest
    (sym c.starts_comma.ensures.value ∙ c.if-starts_comma.false) (sym c.closes.ensures ∙ c.if-closes.true) c.behind_first-then-closes.ensures.rest is)
    (c.finished.ensures.seen n d)

pub returns-clause-seen : goal.returns-clause-seen
returns-clause-seen c = λ n d. stop_at n d c.args.hand c.args.r.now c.flow_blanks-s.result.now (turned n d c.stopped.result) c.flow_blanks-s.ensures.rest
    (sym c.starts_comma.ensures.value ∙ c.if-starts_comma.false) (sym c.closes.ensures ∙ c.if-closes.false) (c.stopped.ensures.seen n d)
