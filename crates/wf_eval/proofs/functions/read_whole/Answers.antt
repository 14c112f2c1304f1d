use Rattle.std.proofs.Common.{rules, ◌≢◌, ◌∙◌, slice_index, w64, FitsSigned}
use Rattle.std.proofs.lemmas.Int.{to_z-of_z}
use Rattle.wf_eval.proofs.Digits.{reads, reads_none}
use Rattle.wf_eval.proofs.functions.read_whole.Goals as goal

pub returns-in-Ok : goal.returns-in-Ok
returns-in-Ok c =
    let fits : FitsSigned w64 c.in-Ok.n = search rules in
    let plus : slice_index c.args.s.now 0 ≢ 43 = search rules in
    reads c.args.s.now _ plus c.in-Ok.ensures.value.0.0 (to_z-of_z w64 c.in-Ok.n fits ∙ c.in-Ok.ensures.value.0.1)

pub returns-in-Err : goal.returns-in-Err
returns-in-Err c =
    let plus : slice_index c.args.s.now 0 ≢ 43 = search rules in
    reads_none c.args.s.now plus c.in-Err.ensures.value.0
