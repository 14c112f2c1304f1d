use Rattle.std.proofs.Common.{◌≤◌, length}
use Rattle.wf_file_host.proofs.journal_file.fill.Given as goal

-- no more than the room was filled
abbrev pub invariant-loop : goal.invariant-loop
invariant-loop l = l.count ≤ length l.into
