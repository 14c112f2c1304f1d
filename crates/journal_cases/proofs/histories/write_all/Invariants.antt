use Rattle.std.proofs.Common.{◌≡◌, ◌≢◌, [], true, false}
use Rattle.wf_history.specs.Stands.{at_end, is_closed, is_new, Stands}
use Rattle.wf_host.specs.MemHost.{mem_world}
use Rattle.wf_host.specs.World.{Told}
use Rattle.wf_journal.specs.Records.{records}
use Rattle.journal_cases.proofs.histories.write_all.Given as goal

-- the history stands at its file, is begun and read to its end
abbrev pub invariant-loop-payload : goal.invariant-loop-payload
invariant-loop-payload l =
    (at_end l.history ≡ true)
    × (is_new l.history ≡ false)
    × Told (mem_world l.host) (records (mem_world l.host).seen ≢ [])
    × (is_closed l.history ≡ false → Told (mem_world l.host) (Stands l.history (mem_world l.host)))
