-- The faults of an engine, by those of its history, of replaying and of polls.
use Rattle.wf_history.specs.declared.fault.HistoryFault.TheVariants as history
use Rattle.wf_history.specs.declared.fault.HistoryFault.{HistoryFault}
use Rattle.wf_host.specs.declared.data.PollError.TheVariants as poll
use Rattle.wf_host.specs.declared.data.PollError.{PollError}
use Rattle.wf_replay.specs.declared.engine_fault.EngineFault.TheVariants as engine
use Rattle.wf_replay.specs.declared.engine_fault.EngineFault.{EngineFault}
use Rattle.wf_replay.specs.declared.fault.ReplayFault.TheVariants as replay
use Rattle.wf_replay.specs.declared.fault.ReplayFault.{ReplayFault}

-- a record that is none is against the history
abbrev pub fault_of : HistoryFault → EngineFault
fault_of history.DiskFault = engine.DiskFault
fault_of history.NotAJournal = engine.NotAJournal
fault_of (history.BadRecord n) = engine.NotAHistory n
fault_of history.Closed = engine.Closed
fault_of history.OutOfMemory = engine.OutOfMemory

-- and so is one that doesn't go on
abbrev pub replay_fault : ReplayFault → EngineFault
replay_fault replay.DiskFault = engine.DiskFault
replay_fault (replay.BadEvent n) = engine.NotAHistory n
replay_fault replay.Closed = engine.Closed
replay_fault replay.OutOfMemory = engine.OutOfMemory

-- a poll that failed
abbrev pub poll_fault : PollError → EngineFault
poll_fault poll.Failed = engine.PollFault
poll_fault poll.OutOfMemory = engine.OutOfMemory
