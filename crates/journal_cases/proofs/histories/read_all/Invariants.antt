use Rattle.std.proofs.Common.{◌≡◌, false}
use Rattle.wf_history.specs.Stands.{is_closed, Stands}
use Rattle.wf_host.specs.MemHost.{mem_world}
use Rattle.wf_host.specs.World.{Told}
use Rattle.journal_cases.proofs.histories.read_all.Given as goal

-- the history stands at its file
abbrev pub invariant-loop : goal.invariant-loop
invariant-loop l = is_closed l.history ≡ false → Told (mem_world l.host) (Stands l.history (mem_world l.host))
