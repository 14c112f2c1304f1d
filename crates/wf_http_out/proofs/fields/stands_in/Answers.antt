use Rattle.http_uri.specs.ByteClasses.{lowercase}
use Rattle.wf_http_out.proofs.Naming.{among_names}
use Rattle.wf_http_out.proofs.fields.stands_in.Goals as goal

pub returns-then-is_same_name : goal.returns-then-is_same_name
returns-then-is_same_name c =
    among_names (lowercase c.args.name.now) c.args.fields.now c.loop-field.field-index c.field-item.result c.as_str.result.now c.loop-field-test.true c.field-item.is c.as_str.ensures c.if-is_same_name.ensures
