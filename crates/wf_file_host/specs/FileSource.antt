-- What a source that std reads stands for.
use Rattle.std.specs.Prelude.{ℕ}
use Rattle.wf_file_host.specs.declared.file_source.FileSource.{FileSource}

-- how many reads failed
abbrev pub file_source_faults : {R : Type 0} → FileSource R → ℕ
file_source_faults s = s.faults
