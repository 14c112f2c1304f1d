use Rattle.std.proofs.Common.{◌-◌, length}
use Rattle.wf_args.specs.Lines.{env_of}
use Rattle.wf_args.specs.Plain.{plain_line}
use Rattle.wf_cli.proofs.Pairs.{SoFar}
use Rattle.wf_cli.proofs.execution.env_for.Given as goal

abbrev pub invariant-loop-env : goal.invariant-loop-env
invariant-loop-env l = SoFar (plain_line l.line) l.env l.index

abbrev pub decreases-loop-env : goal.decreases-loop-env
decreases-loop-env l = length (env_of (plain_line l.line)) - l.index
