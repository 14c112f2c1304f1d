use Rattle.std.proofs.Common.{◌≡◌, ◌<◌, None, ap, sym, ◌∙◌, arith}
use Rattle.wf_value.specs.Maps.{value_at}
use Rattle.wf_scope.specs.Layers.{chain, depth_in, find, holder_in, vars_at}
use Rattle.wf_scope.specs.Lives.{live_in}
use Rattle.wf_scope.specs.Store.{layers_of}
use Rattle.wf_scope.specs.Views.{layer_view}
use Rattle.wf_scope.proofs.Numbers.{layer_at, number_found}
use Rattle.wf_scope.proofs.Seen.{outer_live, vars_found}
use Rattle.wf_scope.proofs.Spotted.{holder_outside}
use Rattle.wf_scope.proofs.Viewed.{view_read}
use Rattle.wf_scope.proofs.scopes.Scopes.nearest.Goals as goal

pub loop-layer-smaller : goal.loop-layer-smaller
loop-layer-smaller c =
    let ls = layers_of c.args.self.now in
    let here = layer_at c.loop-layer.here ls c.place-place.result (layer_view c.at-layer.result.now) c.place-place.ensures.within (view_read (live_in c.args.self.now.layers) c.place-place.result c.at-layer.result.now c.at-layer.ensures) c.place-place.ensures.found in
    let less : depth_in (find c.in-Some.outer ls) < depth_in (find c.loop-layer.here ls) = (outer_live c.loop-layer.here c.in-Some.outer ls (layer_view c.at-layer.result.now) c.args.self.now.standing here c.in-Some.is).1 in
    omega (arith, less)

pub loop-layer-preserved : goal.loop-layer-preserved
loop-layer-preserved c =
    let ls = layers_of c.args.self.now in
    let l = layer_view c.at-layer.result.now in
    let x = c.args.name.now in
    let n = c.loop-layer.here in
    let o = c.in-Some.outer in
    let here = layer_at n ls c.place-place.result l c.place-place.ensures.within (view_read (live_in c.args.self.now.layers) c.place-place.result c.at-layer.result.now c.at-layer.ensures) c.place-place.ensures.found in
    let none : value_at x (vars_at n ls) ≡ None = ap (value_at x) (vars_found n ls l here) ∙ c.hint-hint.ensures (omega arith) x c.class_of-class.ensures.class in
    record {
      live = (outer_live n o ls l c.args.self.now.standing here c.in-Some.is).0;
      same = c.loop-layer.invariant.same ∙ holder_outside n ls x o l c.args.self.now.standing here c.in-Some.is none;
    }

pub returns-then-hint-gt0 : goal.returns-then-hint-gt0
returns-then-hint-gt0 c =
    let ls = layers_of c.args.self.now in
    let x = c.args.name.now in (
      record {
        within = c.place-place.ensures.within;
        seen = λ l at. c.loop-layer.invariant.same ∙ ap (λ m. holder_in x (chain m ls)) (sym (number_found c.loop-layer.here ls l (sym c.place-place.ensures.found ∙ at)));
      },
      omega arith,
    )
