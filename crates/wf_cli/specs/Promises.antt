-- What the top call promises of a call: each row by its name.
use Rattle.wf_cli.specs.Top.{Call, Ends, BadLineRow, BadArgumentRow, ReadFaultRow, RefusedRow, DiskFaultRow, NotAJournalRow, AlreadyStartedRow, NotStartedRow, NotAHistoryRow, SuspendedRow, OutcomeRow, DoneRow, TellingRow, AcceptedRow, ComesBackRow, PrintFaultRow, PollFaultRow, Completes, FinishedStays, RefusedStays, PollsWithin, ReportsStay, SilentStays, SafeThroughout, SafeAtEnd, LateAtEnd}
use Rattle.wf_host.specs.World.{Told}
use Rattle.wf_replay.specs.TheLanguage.{the_language}

pub record Promised (x : Call) : Type 0 where
  -- it ends in one of these ways, and exactly that was printed
  pub ends : Ends x
  -- ## Each status comes exactly where its cause holds, and then its line was printed whole
  -- the words are no line
  pub bad_line : BadLineRow x
  -- the word of `--args` says no value, or one past its limit
  pub bad_argument : BadArgumentRow x
  -- only where the count of failed reads rose
  pub read_fault : ReadFaultRow x
  -- the source is refused
  pub refused : RefusedRow x
  -- only where the count of failed disk calls rose
  pub disk_fault : DiskFaultRow x
  -- only where the count of failed polls rose
  pub poll_fault : PollFaultRow x
  -- the file has another magic
  pub not_a_journal : Told x.old (NotAJournalRow x)
  -- `run` finds a first record
  pub already_started : Told x.old (AlreadyStartedRow x)
  -- a command that needs a history finds none
  pub not_started : Told x.old (NotStartedRow x)
  -- a command that needs a history finds records that are none
  pub not_a_history : Told x.old (NotAHistoryRow the_language x)
  -- at the end the journal has no outcome, and the call has polled as often as it may
  pub suspended : Told x.old (SuspendedRow the_language x)
  -- Done and Raised of a command that executes: the outcome that the journal has at the end
  pub outcome : Told x.old (OutcomeRow the_language x)
  -- Done of a command that uses no journal: its report
  pub done : DoneRow x
  -- Done of a command that tells of a history: what is told of the one that was found
  pub telling : Told x.old (TellingRow the_language x)
  -- `check` prints `accepted` exactly where the checker accepts the source
  pub accepted : AcceptedRow x
  -- the tree is read back from the layout that `format` printed
  pub comes_back : ComesBackRow x
  -- only where the count of failed prints rose or a print took no byte
  pub print_fault : PrintFaultRow x
  -- where no cause holds, the command does its work, or is suspended, or there is no memory
  pub completes : Told x.old (Completes the_language x)
  -- ## What isn't written
  -- a journal with an outcome
  pub finished_stays : Told x.old (FinishedStays the_language x)
  -- a journal that is refused; and nothing but prints and readings of the clock is done
  pub refused_stays : Told x.old (RefusedStays the_language x)
  -- the file of a command that executes nothing; and it does nothing but print
  pub reports_stay : Told x.old (ReportsStay x)
  -- the file where the words are no line, or the argument or the source is refused, or the source couldn't be read; and nothing but prints
  -- is done
  pub silent_stays : Told x.old (SilentStays x)
  -- ## How often it polls
  -- never more often than its line says: by any moment, and at the end, whatever the status
  pub polls_within : Told x.old (PollsWithin x)
  -- ## Killed at any moment
  -- what a crash may leave is safe with what was done by then
  pub safe : Told x.old (SafeThroughout the_language x)
  -- and so is what one behind the end may leave
  pub safe_end : Told x.old (SafeAtEnd the_language x)
  -- behind the opening's sync, where the status tells what was read then
  pub late_end : Told x.old (LateAtEnd the_language x)
