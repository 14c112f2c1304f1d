use Rattle.wf_http_in.proofs.Coming.{interim_step, smaller}
use Rattle.wf_http_in.proofs.heads.read_heads.Goals as goal

pub loop-heading-smaller-in-Some : goal.loop-heading-smaller-in-Some
loop-heading-smaller-in-Some c =
    let step = interim_step c.args.heard.now c.split_at.result.1.now c.loop-heading.passed c.in-Some.len c.in_ok-heading.heading c.split_at.ensures.back c.loop-heading.invariant.within c.loop-heading.invariant.passed c.in_ok-heading.ensures c.in-Some.ensures in
    smaller _ _ _ step.0 step.1

pub loop-heading-preserved-in-Some : goal.loop-heading-preserved-in-Some
loop-heading-preserved-in-Some c =
    let step = interim_step c.args.heard.now c.split_at.result.1.now c.loop-heading.passed c.in-Some.len c.in_ok-heading.heading c.split_at.ensures.back c.loop-heading.invariant.within c.loop-heading.invariant.passed c.in_ok-heading.ensures c.in-Some.ensures in
    record { within = step.1; passed = step.2 }
