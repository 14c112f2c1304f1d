use Rattle.wf_calls.proofs.Scanning.{IsScanned}
use Rattle.wf_calls.proofs.calls.Calls.next_open.Given as goal

abbrev pub invariant-loop-place : goal.invariant-loop-place
invariant-loop-place l = IsScanned l.self-inside.calls.items l.after l.place
