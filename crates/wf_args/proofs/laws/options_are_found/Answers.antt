use Rattle.wf_args.proofs.Lookups.{found_in_lines}
use Rattle.wf_args.proofs.laws.options_are_found.Goals as goal

pub returns : goal.returns
returns c = found_in_lines
