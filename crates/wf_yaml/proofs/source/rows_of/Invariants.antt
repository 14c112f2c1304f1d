use Rattle.std.proofs.Common.{◌≡◌, ◌++◌, ◌+◌, ◌<◌, map, length}
use Rattle.std.specs.List.{AllByRecursion}
use Rattle.wf_span.specs.Lefts.{left}
use Rattle.wf_yaml.specs.Rows.{row, rows}
use Rattle.wf_yaml.specs.Views.{see_all}
use Rattle.wf_yaml.proofs.source.rows_of.Given as goal

abbrev pub invariant-loop-line : goal.invariant-loop-line
invariant-loop-line l =
    (see_all l.rows.items ++ map row (left l.line-iterator) ≡ rows l.src)
    × AllByRecursion (λ p. p.indent + length p.body < 4294967296) (left l.line-iterator)
