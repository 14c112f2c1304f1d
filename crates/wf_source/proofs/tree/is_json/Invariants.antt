use Rattle.std.proofs.Common.{◌≡◌, drop}
use Rattle.wf_source.specs.Sources.{is_json}
use Rattle.wf_source.proofs.tree.is_json.Given as goal

-- what is left decides
abbrev pub invariant-loop-byte : goal.invariant-loop-byte
invariant-loop-byte l = is_json (drop l.byte-index l.text) ≡ is_json l.text
