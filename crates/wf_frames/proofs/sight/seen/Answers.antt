use Rattle.wf_frames.specs.Frames.{inner}
use Rattle.wf_frames.proofs.Seeing.{innermost_live, seen_so}
use Rattle.wf_frames.proofs.sight.seen.Goals as goal

pub returns : goal.returns
returns g c s sees = seen_so g.around c.args.frames.now.first (inner c.args.frames.now) c.args.scopes.now c.layer.result.number c.requires c.layer.ensures c.args.scopes.now.standing c.args.facts.now s sees

pub invariant_of-result : goal.invariant_of-result
invariant_of-result g c = record { live = innermost_live g.around c.args.frames.now.first (inner c.args.frames.now) c.args.scopes.now c.layer.result.number c.requires c.layer.ensures }
