use Rattle.wf_lib_text.proofs.Texts.{utf8_text, no_utf8}
use Rattle.wf_lib_text.proofs.bytes.decoded.Goals as goal

pub returns-in-Ok : goal.returns-in-Ok
returns-in-Ok c = utf8_text c.sized_text.result c.args.b.now c.in-Ok.s.now c.in-Ok.ensures.cases.1 c.in-Ok.ensures.cases.0 c.sized_text.ensures

pub returns-in-Err : goal.returns-in-Err
returns-in-Err c = no_utf8 c.args.b.now c.in-Err.ensures.cases.0
