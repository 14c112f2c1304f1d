use Rattle.std.proofs.Common.{◌-◌, length}
use Rattle.wf_args.specs.Lines.{routes_of}
use Rattle.wf_args.specs.Plain.{plain_line}
use Rattle.wf_cli.proofs.Routes.{SoFar}
use Rattle.wf_cli.proofs.execution.routes_for.Given as goal

abbrev pub invariant-loop-parts : goal.invariant-loop-parts
invariant-loop-parts l = SoFar (plain_line l.line) l.routes l.index

abbrev pub decreases-loop-parts : goal.decreases-loop-parts
decreases-loop-parts l = length (routes_of (plain_line l.line)) - l.index
