use Rattle.std.proofs.Common.{◌≡◌, ◌+◌, ◌≤◌, drop}
use Rattle.wf_check_expressions.proofs.Logged.{logged}
use Rattle.wf_check_expressions.proofs.arguments.logs_one.Given as goal

-- those so far and those of what is left are all
abbrev pub invariant-loop-argument : goal.invariant-loop-argument
invariant-loop-argument l = record {
  all : l.count + logged (drop l.argument-index l.arguments) ≡ logged l.arguments;
  few : l.count ≤ l.argument-index;
}
