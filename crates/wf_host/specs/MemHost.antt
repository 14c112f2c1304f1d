-- What a host in memory stands for.
use Rattle.std.specs.Prelude.{ℕ, List}
use Rattle.wf_host.specs.declared.mem_host.MemHost.{MemHost}
use Rattle.wf_host.specs.declared.plan.Plan.{Plan}
use Rattle.wf_host.specs.World.{World, Faults}
use Rattle.wf_host.specs.Stage.{Stage}
use Rattle.wf_host.specs.CallRecord.{record_world, record_stable}

-- what the record of its calls tells
abbrev pub mem_world : MemHost → World
mem_world h = record_world h.log

-- the file as it was at the last sync
abbrev pub mem_stable : MemHost → List ℕ
mem_stable h = record_stable h.log

-- how far it has come in its plan
abbrev pub mem_stage : MemHost → Stage
mem_stage h = h.progress

-- how often each part failed
abbrev pub mem_faults : MemHost → Faults
mem_faults h = record { disk = h.disk_faults; poll = h.poll_faults; print = h.print_faults }

-- how often a disk call or a print found no memory, or no room in the longest file
abbrev pub mem_short : MemHost → ℕ
mem_short h = h.short

-- a plan before the first call
abbrev pub first_stage : Plan → Stage
first_stage p = record { fail = p.fail.items; stop = p.stop; clock = p.clock.items; print_room = p.print_room; services = p.services.items; calls = 0; changes = 0; ticks = 0 }
