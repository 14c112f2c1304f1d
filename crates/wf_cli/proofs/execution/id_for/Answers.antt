use Rattle.std.proofs.Common.{◌≡◌, ◌≤◌, length, sym, ◌∙◌, subst, arith}
use Rattle.std.proofs.lemmas.Fmt.{length-decimal-le}
use Rattle.std.proofs.lemmas.Result.{IfOk-weaker}
use Rattle.wf_cli.proofs.execution.id_for.Goals as goal

pub returns-clause-short : goal.returns-clause-short
returns-clause-short c =
    let fits = c.ranges.reading.fits in
    let few = length-decimal-le 20 c.args.reading (omega arith) (omega (arith, fits)) fits in
    IfOk-weaker c.utf8_text-2.result (λ t. t ≡ c.as_str.result.now) (λ t. length t ≤ 64) (λ t is. subst (λ l. length l ≤ 64) (sym (is ∙ c.as_str.ensures.value ∙ c.in_ok-id.ensures.ok)) (omega (arith, few))) c.utf8_text-2.ensures.same
