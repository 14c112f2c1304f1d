-- What the real host stands for: its counts of faults alone.
use Rattle.std.specs.Prelude.{ℕ}
use Rattle.wf_file_host.specs.declared.file_host.FileHost.{FileHost}
use Rattle.wf_host.specs.World.{Faults}

-- how often each part failed
abbrev pub file_host_faults : {R S : Type 0} → FileHost R S → Faults
file_host_faults h = record { disk = h.disk_faults; poll = h.poll_faults; print = h.print_faults }

-- the greatest reading of the clock so far
abbrev pub last_reading : {R S : Type 0} → FileHost R S → ℕ
last_reading h = h.last
