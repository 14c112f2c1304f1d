use Rattle.std.proofs.Common.{◌∙◌, ap, arith, Err}
use Rattle.wf_http_in.proofs.Fronts.{crowded_by}
use Rattle.wf_http_in.proofs.Sizes.{few_fields}
use Rattle.wf_http_in.proofs.heads.look_in.Goals as goal

pub returns-in-Ok-Complete : goal.returns-in-Ok-Complete
returns-in-Ok-Complete c =
    crowded_by c.args.front.now _ _ c.requires.many (rw c.in-Ok-Complete.field-0-is at c.in-Ok-Complete.ensures.complete)

pub unreachable-requires : goal.unreachable-requires
unreachable-requires c =
    let was = c.in-Err-TooManyHeaders.is ∙ ap Err c.in-Err-TooManyHeaders.field-0-is in
    let few = few_fields _ _ (c.parse_response.ensures.too_many was) in
    omega (arith, few)
