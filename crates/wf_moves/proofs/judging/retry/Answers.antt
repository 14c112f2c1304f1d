use Rattle.std.proofs.Common.{sym, ap, subst, arith}
use Rattle.wf_frames.specs.declared.frames.Trying.{Trying}
use Rattle.wf_frames.specs.Held.{standing}
use Rattle.wf_frames.specs.Owned.{control_of, held_by, local_of}
use Rattle.wf_moves.proofs.Retrying.{retry_none, retry_stands, retry_waits}
use Rattle.wf_moves.specs.Retries.{IsLed}
use Rattle.wf_moves.proofs.judging.retry.Goals as goal

pub returns-clause-moved : goal.returns-clause-moved
returns-clause-moved g c =
    retry_waits g.around c.args.nodes.now c.requires.0 c.args.tried c.try_node-node.result.now c.try_node-node.ensures c.in-Some.policy c.in-Some.is c.args.frames.now c.push.new.self c.args.scopes.now
    c.in_ok-boxed.field-0 c.in-Some-checked_add.tries c.next_delay-delay.result c.saturating_add.result c.args.last (omega arith) c.next_delay-delay.ensures c.saturating_add.ensures c.in_ok-boxed.ensures c.in_ok-push.ensures.pushed c.in_ok-push.ensures.first

pub returns-clause-stands : goal.returns-clause-stands
returns-clause-stands g c =
    retry_stands g.around c.args.nodes.now c.requires.0 c.args.tried c.try_node-node.result.now c.try_node-node.ensures c.args.frames.now c.push.new.self c.args.scopes.now
    c.in_ok-boxed.field-0 c.requires.1.1.inside (ap (λ (x : Trying). x.node) c.in_ok-boxed.ensures) c.in_ok-push.ensures.pushed c.in_ok-push.ensures.first c.requires.1.0

pub returns-in_default-clause-moved : goal.returns-in_default-clause-moved
returns-in_default-clause-moved g c s d same agrees =
    subst (λ m. IsLed g.around m c.lead_on.result (local_of g.around c.lead_on.new.frames c.lead_on.new.scopes))
    (sym (retry_none g.around c.args.nodes.now c.requires.0 c.args.tried c.try_node-node.result.now c.try_node-node.ensures c.in_default.is s (control_of g.around c.args.frames.now) (standing d (held_by g.around c.args.frames.now c.args.scopes.now))))
    (c.lead_on.ensures.moved d)
