use Rattle.std.proofs.Common.{◌≡◌, ◌++◌, length, map}
use denote.Shadow.{shadow}
use denote.Text.{Utf8}
use Rattle.wf_expr.specs.Pieces.{pieces}
use Rattle.wf_expr.specs.Splits.{piece_of}
use Rattle.wf_expr.proofs.split.pieces.Given as goal

abbrev pub invariant-cut : goal.invariant-cut
invariant-cut l = record { utf8 : shadow (Utf8 l.rest); left : map piece_of l.made.items ++ pieces l.rest ≡ pieces l.text }

abbrev pub decreases-cut : goal.decreases-cut
decreases-cut l = length l.rest
