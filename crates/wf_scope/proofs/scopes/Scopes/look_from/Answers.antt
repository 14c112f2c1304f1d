use Rattle.std.proofs.Common.{◌<◌, sym, ◌∙◌, arith}
use Rattle.wf_scope.specs.Layers.{chain, depth_in, find}
use Rattle.wf_scope.proofs.Numbers.{layer_at}
use Rattle.wf_scope.proofs.Seen.{chain_last, chain_outer, look_here, look_past, outer_live}
use Rattle.wf_scope.specs.Lives.{live_in}
use Rattle.wf_scope.specs.Store.{layers_of}
use Rattle.wf_scope.specs.Views.{layer_view}
use Rattle.wf_scope.proofs.Viewed.{view_read}
use Rattle.wf_scope.proofs.scopes.Scopes.look_from.Goals as goal

pub loop-value-smaller : goal.loop-value-smaller
loop-value-smaller c =
    let ls = layers_of c.args.self.now in
    let here = layer_at c.loop-value.here ls c.place-place.result (layer_view c.at-layer.result.now) c.place-place.ensures.within (view_read (live_in c.args.self.now.layers) c.place-place.result c.at-layer.result.now c.at-layer.ensures) c.place-place.ensures.found in
    let less : depth_in (find c.in-Some-outer.outer ls) < depth_in (find c.loop-value.here ls) = (outer_live c.loop-value.here c.in-Some-outer.outer ls (layer_view c.at-layer.result.now) c.args.self.now.standing here c.in-Some-outer.is).1 in
    omega (arith, less)

pub loop-value-preserved : goal.loop-value-preserved
loop-value-preserved c =
    let ls = layers_of c.args.self.now in
    let l = layer_view c.at-layer.result.now in
    let o = c.in-Some-outer.outer in
    let here = layer_at c.loop-value.here ls c.place-place.result l c.place-place.ensures.within (view_read (live_in c.args.self.now.layers) c.place-place.result c.at-layer.result.now c.at-layer.ensures) c.place-place.ensures.found in
    let seen = chain_outer c.loop-value.here o ls l c.args.self.now.standing here c.in-Some-outer.is in
    record {
      live = (outer_live c.loop-value.here o ls l c.args.self.now.standing here c.in-Some-outer.is).0;
      same = c.loop-value.invariant.same ∙ look_past (chain c.loop-value.here ls) (chain o ls) l c.args.name.now seen (sym c.in_default.ensures);
    }

pub returns-in-Some : goal.returns-in-Some
returns-in-Some c =
    let ls = layers_of c.args.self.now in
    let here = layer_at c.loop-value.here ls c.place-place.result (layer_view c.at-layer.result.now) c.place-place.ensures.within (view_read (live_in c.args.self.now.layers) c.place-place.result c.at-layer.result.now c.at-layer.ensures) c.place-place.ensures.found in
    sym (c.loop-value.invariant.same ∙ look_here c.loop-value.here ls (layer_view c.at-layer.result.now) c.args.name.now _ here (sym c.in-Some.ensures))

pub returns-in-None : goal.returns-in-None
returns-in-None c =
    let ls = layers_of c.args.self.now in
    let here = layer_at c.loop-value.here ls c.place-place.result (layer_view c.at-layer.result.now) c.place-place.ensures.within (view_read (live_in c.args.self.now.layers) c.place-place.result c.at-layer.result.now c.at-layer.ensures) c.place-place.ensures.found in
    let seen = chain_last c.loop-value.here ls (layer_view c.at-layer.result.now) here c.in-None.is in
    sym (c.loop-value.invariant.same ∙ look_past (chain c.loop-value.here ls) _ (layer_view c.at-layer.result.now) c.args.name.now seen (sym c.in_default.ensures))
