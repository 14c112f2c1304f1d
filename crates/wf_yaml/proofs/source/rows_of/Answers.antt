use Rattle.std.proofs.Common.{◌++◌, map, subst, sym, ap, ◌∙◌}
use Rattle.std.specs.List.{AllByRecursion}
use Rattle.wf_span.specs.Lefts.{left}
use Rattle.wf_span.specs.Lines.{source_lines}
use Rattle.wf_yaml.specs.Rows.{row}
use Rattle.wf_yaml.specs.Views.{see_all}
use Rattle.wf_yaml.proofs.Sources.{IsSmall, lines_small}
use Rattle.wf_yaml.proofs.source.rows_of.Goals as goal

pub loop-line-init : goal.loop-line-init
loop-line-init c =
    let source = c.args.src.now in
    let all = ap left c.into_iter-line-iterator.ensures.into_iter_gives ∙ c.lines-line-items.ensures.lines in (
      (λ i. see_all (c.new-rows.ensures.items i) ++ map row (all i)),
      subst (AllByRecursion (IsSmall 4294967296)) (sym all) (lines_small 4294967296 1 0 source (source_lines source) c.requires c.lines-line-items.ensures.whole),
    )
