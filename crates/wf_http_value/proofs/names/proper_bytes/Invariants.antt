use Rattle.std.proofs.Common.{◌≡◌, ◌++◌, drop, true}
use Rattle.wf_value.specs.HttpText.{proper_name}
use Rattle.wf_http_value.proofs.names.proper_bytes.Given as goal

-- the letters so far, and those of what is left
abbrev pub invariant-loop-byte : goal.invariant-loop-byte
invariant-loop-byte l = l.proper.items ++ proper_name l.is_first (drop l.byte-index l.name) ≡ proper_name true l.name
