-- The faults of replaying, by those of a history.
use Rattle.wf_history.specs.declared.fault.HistoryFault.{HistoryFault}
use Rattle.wf_history.specs.declared.fault.HistoryFault.TheVariants as history
use Rattle.wf_replay.specs.declared.fault.ReplayFault.{ReplayFault}
use Rattle.wf_replay.specs.declared.fault.ReplayFault.TheVariants as replay

-- no read of a record tells that the file is no journal, so that fault never comes
abbrev pub fault_of : HistoryFault → ReplayFault
fault_of history.DiskFault = replay.DiskFault
fault_of history.NotAJournal = replay.OutOfMemory
fault_of (history.BadRecord n) = replay.BadEvent n
fault_of history.Closed = replay.Closed
fault_of history.OutOfMemory = replay.OutOfMemory
