use Rattle.wf_lib_data.proofs.Codes.{json_fails, json_gives}
use Rattle.wf_lib_data.proofs.json_text.decoded.Goals as goal

pub returns-in-Ok : goal.returns-in-Ok
returns-in-Ok c = json_gives c.reading_is_a_function.ensures c.sized.result c.args.b.now c.in-Ok.value c.in-Ok.ensures.ok c.sized.ensures

pub returns-in-Err : goal.returns-in-Err
returns-in-Err c = json_fails c.reading_is_a_function.ensures c.args.b.now (c.reading_is_decided.ensures.apart c.args.b.now) c.in-Err.fault c.raised.result c.raised.ensures c.in-Err.ensures.fault
