use Rattle.std.proofs.Common.{◌≡◌, ◌+◌, drop}
use Rattle.wf_span.specs.Tokens.{is_blank}
use Rattle.wf_span.specs.Scans.{count_while}
use Rattle.wf_span.proofs.piece.blank_length.Given as goal

abbrev pub invariant-loop-byte : goal.invariant-loop-byte
invariant-loop-byte l = record { at : l.count ≡ l.byte-index; left : l.count + count_while is_blank (drop l.byte-index l.bytes) ≡ count_while is_blank l.bytes }
