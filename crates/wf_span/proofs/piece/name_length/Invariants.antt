use Rattle.std.proofs.Common.{◌≡◌, ◌+◌, drop}
use Rattle.wf_span.specs.Tokens.{is_name_byte}
use Rattle.wf_span.specs.Scans.{count_while}
use Rattle.wf_span.proofs.piece.name_length.Given as goal

abbrev pub invariant-loop-byte : goal.invariant-loop-byte
invariant-loop-byte l = record { at : l.count ≡ l.byte-index; left : l.count + count_while is_name_byte (drop l.byte-index l.bytes) ≡ count_while is_name_byte l.bytes }
