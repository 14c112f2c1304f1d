-- What a command has waited for that is suspended.
use Rattle.std.specs.Prelude.{◌≤◌, ◌+◌, ℕ, List}
use Rattle.wf_args.specs.Lines.{PlainLine, waits_of}
use Rattle.wf_deeds.specs.At.{journal, session_turns}
use Rattle.wf_deeds.specs.Deeds.{polls}
use Rattle.wf_deeds.specs.Language.{Language}
use Rattle.wf_deeds.specs.Waits.{arrivals_in, idle}
use Rattle.wf_engine.specs.Printed.{Reports, Scene, IsLine, IsSuspended}
use Rattle.wf_host.specs.declared.data.Deed.{Deed}
use Rattle.wf_journal.specs.Records.{records}

-- a command is suspended only where of its polls all were idle, but 300,001 and as many as requests came
abbrev pub PausesAreIdle : Type 0
PausesAreIdle = (L : Language) (R : Reports) (s : Scene) (image : List ℕ) (D : List Deed) → IsSuspended L R s image D
    → (l : PlainLine) × IsLine s l × ((session : ℕ) → waits_of l ≤ idle (session_turns (journal L (records image)) session) (polls D) + 300001 + arrivals_in (records image))
