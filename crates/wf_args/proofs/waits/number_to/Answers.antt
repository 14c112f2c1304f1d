use Rattle.std.proofs.Common.{◌≡◌, ◌∙◌, arith, false}
use Rattle.std.proofs.lemmas.Grind.{common_steps}
use Rattle.std.specs.Prelude.{slice_index, ◌==◌}
use Rattle.wf_args.proofs.Words.{number_not_parsed, number_parsed, parsed_number}
use Rattle.wf_args.proofs.waits.number_to.Goals as goal

pub returns-in-Ok : goal.returns-in-Ok
returns-in-Ok c =
    let no_plus : (slice_index c.args.word.now 0 == 43) ≡ false = grind (arith, common_steps) in
    let no_zero : (slice_index c.args.word.now 0 == 48) ≡ false = grind (arith, common_steps) in
    c.at_most.ensures
    ∙ number_parsed c.args.greatest c.args.word.now c.in-Ok.number (parsed_number c.args.word.now c.parse.result c.in-Ok.number c.parse.ensures.value.0 no_plus no_zero c.in-Ok.is)

pub returns-in-Err : goal.returns-in-Err
returns-in-Err c =
    let no_plus : (slice_index c.args.word.now 0 == 43) ≡ false = grind (arith, common_steps) in
    number_not_parsed c.args.greatest c.args.word.now c.parse.result c.in-Err.field-0 (omega arith) c.parse.ensures.value.0 no_plus c.in-Err.is
