use Rattle.std.proofs.Common.{◌≡◌, false}
use Rattle.wf_host.specs.World.{Told}
use Rattle.wf_journal.specs.Stands.{is_closed, Stands}
use Rattle.journal_cases.proofs.journals.make_all.Given as goal

-- the journal stands at its file
abbrev pub invariant-loop-call : goal.invariant-loop-call
invariant-loop-call g l = is_closed l.journal ≡ false → Told (g.H.Host.world l.host) (Stands l.journal (g.H.Host.world l.host))
