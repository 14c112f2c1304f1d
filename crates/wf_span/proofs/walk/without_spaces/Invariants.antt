use Rattle.std.proofs.Common.{◌≡◌, ◌+◌, length, drop}
use denote.Text.{Utf8}
use denote.Shadow.{shadow}
use Rattle.wf_span.specs.Lines.{spaces}
use Rattle.wf_span.proofs.walk.without_spaces.Given as goal

abbrev pub invariant-skip : goal.invariant-skip
invariant-skip l = shadow (Utf8 l.rest) × (drop (spaces l.rest) l.rest ≡ drop (spaces l.fn.text) l.fn.text) × (length l.rest + spaces l.fn.text ≡ length l.fn.text + spaces l.rest)

abbrev pub decreases-skip : goal.decreases-skip
decreases-skip l = length l.rest
