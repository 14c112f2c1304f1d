use Rattle.std.proofs.Common.{◌≡◌, ◌+◌, drop}
use Rattle.wf_span.specs.Scans.{scan, text_end}
use Rattle.wf_span.proofs.piece.end_of_text.Given as goal

abbrev pub invariant-loop-byte : goal.invariant-loop-byte
invariant-loop-byte l = record { at : l.at ≡ l.byte-index + 1; left : scan l.quote (drop l.byte-index l.bytes) l.slash l.at l.bad ≡ text_end l.quote l.bytes }
