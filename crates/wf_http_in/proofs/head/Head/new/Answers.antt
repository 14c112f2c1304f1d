use Rattle.std.proofs.Common.{arith}
use Rattle.wf_http_in.proofs.Codes.{three_digits}
use Rattle.wf_http_in.proofs.head.Head.new.Goals as goal

pub invariant_of-result : goal.invariant_of-result
invariant_of-result c =
    let head = c.requires.head in
    let most = three_digits head.0 head.1.reads.0 in
    let code = head.1.code in
    omega arith
