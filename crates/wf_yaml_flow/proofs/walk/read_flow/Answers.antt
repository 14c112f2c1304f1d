use Rattle.std.proofs.Common.{◌+◌, length, None, sym, ap, ◌∙◌}
use Rattle.wf_tree.specs.Plain.{plain_tree}
use Rattle.wf_yaml_flow.specs.FlowWalk.{here, whole}
use Rattle.wf_yaml_flow.specs.declared.places.Spot.TheVariants as spot
use Rattle.wf_yaml_flow.specs.declared.places.Place.TheVariants as place
use Rattle.wf_yaml_flow.proofs.FlowWhole.{begins, stops_there, goes_on}
use Rattle.wf_yaml_flow.proofs.walk.read_flow.Goals as goal

pub walk-init : goal.walk-init
walk-init c =
    ap (λ fs. whole c.args.line c.args.depth fs None (place.Reading (spot.Open c.starts_map.result c.behind_first.result))) c.new-frames.ensures.items
    ∙ begins c.args.line c.args.depth c.starts_map.result c.behind_first.result.now c.args.s.now c.requires.some c.starts_map.ensures c.behind_first.ensures.rest

pub returns-in-Stopped : goal.returns-in-Stopped
returns-in-Stopped c =
    sym (stops_there c.args.line c.args.depth c.walk.frames.items c.walk.fault c.least.result c.least.ensures)
    ∙ sym (ap (λ p. whole c.args.line c.args.depth c.walk.frames.items c.walk.fault p) c.in-Stopped.is)
    ∙ c.walk.invariant

pub walk-preserved-in-Some : goal.walk-preserved-in-Some
walk-preserved-in-Some c =
    let n = c.args.line in
    let d = c.args.depth in
    let fs = c.walk.frames.items in
    let gs = c.pop.new.self.items in
    goes_on n d fs gs c.in-Some.frame c.walk.fault (plain_tree c.in-Node.tree) (plain_tree c.kept_tree.result) c.in-Node.rest.now (here n (d + length gs) c.in_ok-place-in-Some.place) c.in-Some.ensures.items
    c.kept_tree.ensures (c.in_ok-place-in-Some.ensures.seen n (d + length gs) c.walk.fault)
    ∙ sym (ap (λ p. whole n d fs c.walk.fault p) c.in-Node.is)
    ∙ c.walk.invariant
