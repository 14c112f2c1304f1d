-- What a source in memory stands for.
use Rattle.std.specs.Prelude.{ℕ, ◌==◌, Bool, List, drop}
use Rattle.std.specs.List.{list_any}
use Rattle.wf_host.specs.declared.mem_source.MemSource.{MemSource}
use Rattle.wf_host.specs.World.{next_count}

-- the bytes that weren't read yet
abbrev pub source_left : MemSource → List ℕ
source_left s = drop s.at s.bytes.items

-- the numbers of the reads that fail
abbrev pub source_fail : MemSource → List ℕ
source_fail s = s.fail.items

-- how many reads there were
abbrev pub source_reads : MemSource → ℕ
source_reads s = s.reads

-- how many of them failed
abbrev pub source_faults : MemSource → ℕ
source_faults s = s.faults

-- the number of the next read is one of those that fail
abbrev pub read_fails : MemSource → Bool
read_fails s = list_any (λ n. n == next_count s.reads) s.fail.items
