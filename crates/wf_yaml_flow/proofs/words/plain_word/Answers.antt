use Rattle.std.proofs.Common.{◌≡◌, length, false, ap, ◌∙◌, arith}
use Rattle.wf_yaml_line.specs.Marks.{trimmed}
use Rattle.wf_yaml_flow.specs.Flow.{plain_part}
use Rattle.wf_yaml_flow.proofs.FlowFronts.{part_short, plain_cut}
use Rattle.wf_yaml_flow.proofs.words.plain_word.Goals as goal

pub unquoted-requires : goal.unquoted-requires
unquoted-requires c =
    let e : length c.trimmed-part.result.now ≡ length (trimmed (plain_part false c.args.s.now)) = ap length (c.trimmed-part.ensures ∙ ap trimmed c.plain_part.ensures) in
    omega (arith, e, part_short c.args.s.now)

pub returns : goal.returns
returns c = c.in_ok-unquoted.ensures ∙ plain_cut c.args.s.now c.trimmed-part.result.now c.ends_with_colon.result (c.trimmed-part.ensures ∙ ap trimmed c.plain_part.ensures) c.ends_with_colon.ensures c.if-ends_with_colon.false
