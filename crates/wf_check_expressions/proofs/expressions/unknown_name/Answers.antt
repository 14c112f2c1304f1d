use Rattle.std.proofs.Common.{map, ap, ◌∙◌}
use Rattle.wf_ast.specs.Accept.{first_unseen}
use Rattle.wf_ast.specs.Reads.{part_reads}
use Rattle.wf_check_expressions.proofs.Failing.{part_seen}
use Rattle.wf_diagnostics.proofs.Told.{tells_as}
use Rattle.wf_check_expressions.proofs.expressions.unknown_name.Goals as goal
use Rattle.wf_symbols.specs.Around.{layer_view}
use Rattle.wf_diagnostics.specs.Parts.{part_view}
use Rattle.wf_diagnostics.specs.Said.{as_said}
use Rattle.wf_diagnostics.specs.declared.kind.CheckKind.TheVariants as kinds

pub returns : goal.returns
returns c =
    let part = part_view c.args.part.now in
    tells_as c.part_failing.result _ _
    (λ path. ap (as_said kinds.UnknownName) (part_seen (map layer_view c.as_slice.result.now) part path ∙ ap (λ l. first_unseen (map layer_view l) (part_reads part path)) c.as_slice.ensures.value))
    c.part_failing.ensures
