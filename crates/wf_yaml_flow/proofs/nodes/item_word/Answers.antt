use Rattle.std.proofs.Common.{ap, sym, ◌∙◌}
use Rattle.wf_yaml_line.specs.Fault.{both, kept}
use Rattle.wf_yaml_flow.specs.FlowWalk.{found_word}
use Rattle.wf_yaml_flow.proofs.FlowTurns.{item_turn}
use Rattle.wf_yaml_flow.proofs.nodes.item_word.Goals as goal

pub returns-clause-seen : goal.returns-clause-seen
returns-clause-seen c = item_turn c.args.line c.args.depth c.in-Some.word c.args.s.now c.in-Some-behind_colon.behind.now _ c.has_delay-delay.result _ (ap found_word (sym c.in-Some.is) ∙ c.in_ok-word.ensures)
    c.in-Some-behind_colon.ensures.rest c.in_ok-key.ensures c.has_delay-delay.ensures (c.both_noted.ensures ∙ (λ i. both kept (c.key_fault.ensures i) (c.depth_fault.ensures i)))
