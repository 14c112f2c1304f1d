use Rattle.std.proofs.Common.{◌≢◌, rules}
use Rattle.wf_value.specs.Plain.{plain}
use Rattle.wf_value.specs.declared.json_text.JsonFault.TheVariants.{OutOfMemory}
use Rattle.wf_http_value.proofs.Bodies.{no_json, read_value}
use Rattle.wf_http_value.proofs.json.json_value.Goals as goal

pub returns-in-Ok : goal.returns-in-Ok
returns-in-Ok c = read_value c.reading_is_a_function.ensures c.args.bytes.now (plain c.in-Ok.value) c.in-Ok.ensures.ok

pub returns-in-Err : goal.returns-in-Err
returns-in-Err c =
    let other : c.in-Err.field-0 ≢ OutOfMemory = search rules in
    no_json c.reading_is_a_function.ensures c.args.bytes.now c.in-Err.field-0 (c.reading_is_decided.ensures.apart c.args.bytes.now) c.in-Err.ensures.fault other
