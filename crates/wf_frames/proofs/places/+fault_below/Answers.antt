use Rattle.wf_value.specs.Plain.{plain}
use Rattle.std.proofs.Common.{arith}
use Rattle.wf_frames.proofs.Placing.{shorter, walk_on, walk_rest, walk_stops}
use Rattle.wf_frames.proofs.places.+fault_below.Goals as goal

pub returns-in-Err : goal.returns-in-Err
returns-in-Err t c = walk_stops c.args.places.now c.first-item.result (plain c.args.value.now) c.in-len1-up.len_at_least c.first-item.is c.requires c.in-Err.tag c.in-Err.ensures

pub returns-in-Ok : goal.returns-in-Ok
returns-in-Ok t c = walk_on c.args.places.now c.first-item.result (plain c.args.value.now) c.in-len1-up.len_at_least c.first-item.is c.requires (plain c.in-Ok.inner.now) c.fault_below.result c.in-Ok.ensures c.fault_below.ensures

pub fault_below-requires : goal.fault_below-requires
fault_below-requires t c = (
  omega (arith, shorter c.args.places.now c.first-item.result c.in-len1-up.len_at_least c.first-item.is),
  walk_rest c.args.places.now c.first-item.result (plain c.args.value.now) c.in-len1-up.len_at_least c.first-item.is c.requires (plain c.in-Ok.inner.now) c.in-Ok.ensures,
)
