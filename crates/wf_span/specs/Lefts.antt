-- What a walk over the lines has left.
use Rattle.std.specs.Prelude.{◌≡◌, suc, [], ◌∷◌, List, Option, MatchOption}
use Rattle.wf_span.specs.Lines.{Placed, lines_from}
use Rattle.wf_span.specs.declared.line.Line.{Line}
use Rattle.wf_span.specs.declared.line.Lines.{Lines}

abbrev pub view : Line → Placed
view l = record { number = l.number; at = l.at; indent = l.indent; body = l.body.now }

-- what is left of the lines
abbrev pub left : Lines → List Placed
left s = lines_from (suc s.count) s.at s.rest.now

-- the next line and those behind it
abbrev pub YieldsLine : Lines → Option Line → Lines → Type 0
YieldsLine s r t = MatchOption r (left s ≡ []) (λ l. left s ≡ view l ∷ left t)
