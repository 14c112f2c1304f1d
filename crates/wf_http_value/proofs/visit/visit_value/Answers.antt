use Rattle.wf_http_value.proofs.Bodies.{lenient_value}
use Rattle.wf_http_value.proofs.visit.visit_value.Goals as goal

pub unreachable-requires : goal.unreachable-requires
unreachable-requires c =
    lenient_value c.in-Err-NoJson.field-0 c.items-fields.result.now c.as_slice.result.now c.in-Err-NoJson.field-0-is c.in-Err-NoJson.ensures
