use Rattle.std.proofs.Common.{subst}
use Rattle.wf_frames.proofs.Placing.{keys_done, keys_fail, keys_step}
use Rattle.wf_frames.specs.Keys.{IsKey}
use Rattle.wf_value.specs.Plain.{plain}
use Rattle.wf_frames.proofs.places.keys_of.Goals as goal

pub loop-place-preserved : goal.loop-place-preserved
loop-place-preserved c =
    keys_step c.args.places.now c.loop-place.place-index c.place-item.result c.loop-place-test.true c.place-item.is c.loop-place.keys.items c.loop-place.invariant c.in-Some.key c.push.new.self.items
    (subst (IsKey (plain c.place-item.result)) c.in-Some.is c.in_ok-found.ensures) c.in_ok-push.ensures.items

pub returns : goal.returns
returns c = keys_done c.args.places.now c.loop-place.place-index c.loop-place.keys.items c.loop-place-test.false c.loop-place.invariant

pub returns-in_default : goal.returns-in_default
returns-in_default c =
    keys_fail c.args.places.now c.loop-place.place-index c.place-item.result c.loop-place-test.true c.place-item.is c.loop-place.keys.items c.loop-place.invariant
    (subst (IsKey (plain c.place-item.result)) c.in_default.is c.in_ok-found.ensures)
