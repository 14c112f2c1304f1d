use Rattle.run_cases.proofs.records.counts_in.Given as goal
use Rattle.std.proofs.Common.{◌≡◌, false}
use Rattle.wf_host.specs.MemHost.{mem_world}
use Rattle.wf_host.specs.World.{Told}
use Rattle.wf_journal.specs.Stands.{is_closed, Stands}

-- the journal stands as the host's file reads
abbrev pub invariant-loop : goal.invariant-loop
invariant-loop l = is_closed l.journal ≡ false → Told (mem_world l.host) (Stands l.journal (mem_world l.host))
