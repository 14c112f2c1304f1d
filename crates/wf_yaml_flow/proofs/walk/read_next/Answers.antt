use Rattle.std.proofs.Common.{◌≡◌, ◌+◌, length, subst, arith}
use Rattle.wf_yaml_flow.specs.FlowWalk.{turned, next}
use Rattle.wf_yaml_flow.proofs.FlowWhole.{reads_on}
use Rattle.wf_yaml_flow.proofs.walk.read_next.Goals as goal

pub returns-clause-seen : goal.returns-clause-seen
returns-clause-seen c =
    let n = c.args.line in
    let d = c.args.depth in
    let fs = c.args.frames.now.items in
    let found = c.in_ok-found.found in
    let deep : d + c.len.result ≡ d + length fs = omega arith in
    let seen : turned n (d + length fs) found ≡ next n (d + length fs) c.args.spot = subst (λ k. turned n k found ≡ next n k c.args.spot) deep c.in_ok-found.ensures.seen in
    reads_on n d fs c.open_frame.new.frames.items found.frame c.args.fault.now found.fault c.both_noted.result found.place (next n (d + length fs) c.args.spot) c.in_ok-open_frame.ensures c.both_noted.ensures seen
