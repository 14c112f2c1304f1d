use Rattle.std.proofs.Common.{ap, sym, ◌∙◌}
use Rattle.wf_yaml_line.specs.Fault.{both, kept}
use Rattle.wf_yaml_line.specs.Marks.{is_one_of}
use Rattle.wf_yaml_line.specs.Views.{keys_of}
use Rattle.wf_yaml_flow.specs.FlowWalk.{found_word}
use Rattle.wf_yaml_flow.proofs.FlowTurns.{pair_turn}
use Rattle.wf_yaml_flow.proofs.turns.read_pair.Goals as goal

pub returns-clause-seen : goal.returns-clause-seen
returns-clause-seen c = λ d.
    pair_turn c.args.line d c.args.map c.in_ok-keys.keys c.in-Some.word c.args.s.now c.in-Some-behind_colon.behind.now _ c.has_delay-delay.result c.holds-is_double.result _ (ap found_word (sym c.in-Some.is) ∙ c.in_ok-word.ensures)
    c.in-Some-behind_colon.ensures.rest c.in_ok-key.ensures c.has_delay-delay.ensures (c.holds-is_double.ensures ∙ ap (is_one_of (keys_of c.args.map.keys)) c.as_str.ensures)
    (c.both_noted.ensures ∙ (λ i. both kept (c.key_fault.ensures i) (c.refuse_if.ensures i))) c.in_ok-keys.ensures
