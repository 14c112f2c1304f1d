use Rattle.wf_engine.proofs.Clock.{settled_still}
use Rattle.wf_engine.proofs.opening.session_reading.Goals as goal
use Rattle.std.proofs.Common.{[], ◌∷◌}
use Rattle.wf_host.specs.declared.data.Deed.TheVariants.{Now}
use Rattle.wf_replay.proofs.StillOpen.{tells_still}

pub returns-in_err-now-in-Active-clause-settled : goal.returns-in_err-now-in-Active-clause-settled
returns-in_err-now-in-Active-clause-settled g c = λ told only.
    let w = g.H.Host.world c.args.host.now in
    let new = g.H.Host.world c.now.new.self in
    settled_still w new [] only (c.in_err-now-in-Active.ensures.time told) (λ t i le left. g.met.H.Host.counts_now c.now.new.self t i (tells_still w new c.now.ensures.tells told) le left) (c.now.ensures.seen told)

pub returns-in_ok-now-in-Active-clause-settled : goal.returns-in_ok-now-in-Active-clause-settled
returns-in_ok-now-in-Active-clause-settled g c = λ told only.
    let w = g.H.Host.world c.args.host.now in
    let new = g.H.Host.world c.now.new.self in
    settled_still w new (Now c.in_ok-now-in-Active.field-0 ∷ []) only (c.in_ok-now-in-Active.ensures.time told) (λ t i le left. g.met.H.Host.counts_now c.now.new.self t i (tells_still w new c.now.ensures.tells told) le left) (c.now.ensures.seen told)
