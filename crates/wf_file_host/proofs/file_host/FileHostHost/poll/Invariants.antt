use Rattle.std.proofs.Common.{◌≡◌, ◌≤◌}
use Rattle.wf_file_host.specs.FileHost.{file_host_faults, last_reading}
use Rattle.wf_file_host.proofs.file_host.FileHostHost.poll.Given as goal

-- nothing failed, and the clock didn't go back
abbrev pub invariant-loop : goal.invariant-loop
invariant-loop g l = record {
  faults : file_host_faults l.self ≡ file_host_faults l.fn.self;
  clock : last_reading l.fn.self ≤ last_reading l.self;
}
