use Rattle.std.proofs.Common.{◌≡◌, ◌-◌, length}
use Rattle.std.specs.Prelude.{option_copied, string_bytes}
use Rattle.wf_machine.specs.Seen.{state_of}
use Rattle.wf_report.proofs.Lines.{so_far}
use Rattle.wf_report.proofs.log.log_lines.Given as goal

abbrev pub invariant-loop-entry : goal.invariant-loop-entry
invariant-loop-entry l = string_bytes l.text ≡ so_far (option_copied l.grep) (state_of l.machine).config.log l.index

abbrev pub decreases-loop-entry : goal.decreases-loop-entry
decreases-loop-entry l = length (state_of l.machine).config.log - l.index
