-- What the record of a host in memory stands for.
use Rattle.std.specs.Prelude.{ℕ, List}
use Rattle.wf_host.specs.declared.memory.CallRecord.{CallRecord}
use Rattle.wf_host.specs.World.{World}
use Rattle.wf_host.specs.Memory.{world_by, stable}

abbrev pub record_world : CallRecord → World
record_world r = world_by r.first.items r.image.items r.past.items r.deeds.items

-- the file as it was at the last sync
abbrev pub record_stable : CallRecord → List ℕ
record_stable r = stable r.first.items r.first.items r.past.items
