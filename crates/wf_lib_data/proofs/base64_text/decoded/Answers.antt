use Rattle.wf_lib_data.proofs.Codes.{base64_fails, base64_gives}
use Rattle.wf_lib_data.proofs.base64_text.decoded.Goals as goal

pub returns-in-Ok : goal.returns-in-Ok
returns-in-Ok c = base64_gives c.sized_bytes.result c.args.s.now c.as_bytes.result.now c.in-Ok.b.items c.as_slice.result.now c.as_bytes.ensures.value c.in-Ok.ensures.ok c.as_slice.ensures.value c.sized_bytes.ensures

pub returns-in-Err-DecodeError : goal.returns-in-Err-DecodeError
returns-in-Err-DecodeError c = base64_fails c.args.s.now c.as_bytes.result.now c.in-Err-DecodeError.field-0 c.in-Err-DecodeError.field-0-0 c.as_bytes.ensures.value c.in-Err-DecodeError.field-0-is c.in-Err-DecodeError.ensures.err
