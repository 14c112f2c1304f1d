use Rattle.std.proofs.Common.{◌≡◌, take}
use Rattle.wf_callbacks.proofs.fields.Fields.copied.Given as goal

-- the fields so far
abbrev pub invariant-loop-field : goal.invariant-loop-field
invariant-loop-field l = l.copied ≡ take l.field-index l.fields
