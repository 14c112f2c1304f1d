-- A suspended command has made all its polls, and few of them brought something.
use Rattle.std.specs.Prelude.{◌≤◌, ◌+◌}
use Rattle.std.proofs.Common.{subst}
use Rattle.wf_deeds.specs.At.{journal, session_turns}
use Rattle.wf_deeds.specs.Deeds.{polls}
use Rattle.wf_deeds.specs.HistoryLaws.{ComputedIsHistory}
use Rattle.wf_deeds.specs.Waits.{SessionsWaitIdly, arrivals_in, idle}
use Rattle.wf_ends.specs.Pauses.{PausesAreIdle}
use Rattle.wf_journal.specs.Records.{records}

pub pauses_are_idle : ComputedIsHistory → SessionsWaitIdly → PausesAreIdle
pauses_are_idle computed idly L R s image D paused =
    let (l, line, polled) = paused.1 in
    let (st, is, active) = paused.0.1 in
    (l, line, λ session. subst (λ w. w ≤ idle (session_turns (journal L (records image)) session) (polls D) + 300001 + arrivals_in (records image)) polled (idly L (records image) st.config (computed L (records image) st is) session (polls D)))
