use Rattle.std.proofs.Common.{◌≡◌, ◌<◌, None, Some, ap, subst, sym, ◌∙◌, arith}
use Rattle.std.specs.Prelude.{option_map}
use Rattle.wf_value.specs.Maps.{value_at}
use Rattle.wf_value.specs.Plain.{plain}
use Rattle.wf_scope.specs.Layers.{depth_in, find, vars_at}
use Rattle.wf_scope.proofs.Numbers.{layer_at}
use Rattle.wf_scope.proofs.Seen.{outer_live, vars_found}
use Rattle.wf_scope.proofs.Spotted.{held_nowhere, holder_held, holder_nowhere, holder_outside}
use Rattle.wf_scope.specs.Spots.{IsKept}
use Rattle.wf_scope.specs.Lives.{live_in}
use Rattle.wf_scope.specs.Store.{layers_of}
use Rattle.wf_scope.specs.Views.{layer_view}
use Rattle.wf_scope.proofs.Viewed.{view_read}
use Rattle.wf_scope.proofs.scopes.Scopes.target.Goals as goal
use Rattle.wf_scope.proofs.scopes.Scopes.target.Goals.{then-hint-gt0+in_default+then-here-number, then-hint-gt0+in_default+else-here-number, else-hint-gt0}

pub loop-spot-smaller : goal.loop-spot-smaller
loop-spot-smaller c =
    let ls = layers_of c.args.self.now in
    let here = layer_at c.loop-spot.here ls c.place-place.result (layer_view c.at-layer.result.now) c.place-place.ensures.within (view_read (live_in c.args.self.now.layers) c.place-place.result c.at-layer.result.now c.at-layer.ensures) c.place-place.ensures.found in
    let less : depth_in (find c.in-Some-outer.outer ls) < depth_in (find c.loop-spot.here ls) = (outer_live c.loop-spot.here c.in-Some-outer.outer ls (layer_view c.at-layer.result.now) c.args.self.now.standing here c.in-Some-outer.is).1 in
    omega (arith, less)

pub loop-spot-preserved : goal.loop-spot-preserved
loop-spot-preserved c =
    let ls = layers_of c.args.self.now in
    let l = layer_view c.at-layer.result.now in
    let x = c.args.name.now in
    let o = c.in-Some-outer.outer in
    let here = layer_at c.loop-spot.here ls c.place-place.result l c.place-place.ensures.within (view_read (live_in c.args.self.now.layers) c.place-place.result c.at-layer.result.now c.at-layer.ensures) c.place-place.ensures.found in
    let none : value_at x (vars_at c.loop-spot.here ls) ≡ None = elim c.if-hint-gt0.branch [
      | then-hint-gt0+in_default+then-here-number w ↦ sym w.spot_at.ensures.value ∙ ap (option_map (λ v. plain v.now)) w.in_default.is
      | then-hint-gt0+in_default+else-here-number w ↦ sym w.spot_at.ensures.value ∙ ap (option_map (λ v. plain v.now)) w.in_default.is
      | else-hint-gt0 w ↦ ap (value_at x) (vars_found c.loop-spot.here ls l here) ∙ c.hint.ensures (omega (arith, w.if-hint-gt0.false)) x c.class_of-class.ensures.class
    ] in
    record {
      live = (outer_live c.loop-spot.here o ls l c.args.self.now.standing here c.in-Some-outer.is).0;
      same = c.loop-spot.invariant.same ∙ holder_outside c.loop-spot.here ls x o l c.args.self.now.standing here c.in-Some-outer.is none;
      kept = elim c.if-hint-gt0.branch [
        | then-hint-gt0+in_default+then-here-number w ↦ subst (IsKept c.args.number x (live_in c.args.self.now.layers)) (sym w.home-is) (w.spot_at.ensures.number ∙ (let same : c.loop-spot.here ≡ c.args.number = omega (arith, w.if-here-number.true) in same), w.spot_at.ensures.spot)
        | then-hint-gt0+in_default+else-here-number w ↦ subst (IsKept c.args.number x (live_in c.args.self.now.layers)) (sym w.home-is) c.loop-spot.invariant.kept
        | else-hint-gt0 w ↦ subst (IsKept c.args.number x (live_in c.args.self.now.layers)) (sym w.home-is) c.loop-spot.invariant.kept
      ];
    }

pub returns-in-Some-clause-holder : goal.returns-in-Some-clause-holder
returns-in-Some-clause-holder c =
    let at = sym c.spot_at.ensures.value ∙ ap (option_map (λ v. plain v.now)) c.in-Some.is in
    ap Some c.spot_at.ensures.number ∙ sym (c.loop-spot.invariant.same ∙ holder_held c.loop-spot.here (layers_of c.args.self.now) c.args.name.now (plain c.in-Some.value.now) at)

pub returns-in-Some-home-clause-holder : goal.returns-in-Some-home-clause-holder
returns-in-Some-home-clause-holder c =
    let ls = layers_of c.args.self.now in
    let l = layer_view c.at-layer.result.now in
    let x = c.args.name.now in
    let here = layer_at c.loop-spot.here ls c.place-place.result l c.place-place.ensures.within (view_read (live_in c.args.self.now.layers) c.place-place.result c.at-layer.result.now c.at-layer.ensures) c.place-place.ensures.found in
    let none : value_at x (vars_at c.loop-spot.here ls) ≡ None = elim c.if-hint-gt0.branch [
      | then-hint-gt0+in_default+then-here-number w ↦ sym w.spot_at.ensures.value ∙ ap (option_map (λ v. plain v.now)) w.in_default.is
      | then-hint-gt0+in_default+else-here-number w ↦ sym w.spot_at.ensures.value ∙ ap (option_map (λ v. plain v.now)) w.in_default.is
      | else-hint-gt0 w ↦ ap (value_at x) (vars_found c.loop-spot.here ls l here) ∙ c.hint.ensures (omega (arith, w.if-hint-gt0.false)) x c.class_of-class.ensures.class
    ] in
    sym (c.loop-spot.invariant.same ∙ holder_nowhere c.loop-spot.here ls x l here c.in-None.is none)

pub returns-in-Some-home-clause-value : goal.returns-in-Some-home-clause-value
returns-in-Some-home-clause-value c =
    let ls = layers_of c.args.self.now in
    let l = layer_view c.at-layer.result.now in
    let x = c.args.name.now in
    let here = layer_at c.loop-spot.here ls c.place-place.result l c.place-place.ensures.within (view_read (live_in c.args.self.now.layers) c.place-place.result c.at-layer.result.now c.at-layer.ensures) c.place-place.ensures.found in
    let none : value_at x (vars_at c.loop-spot.here ls) ≡ None = elim c.if-hint-gt0.branch [
      | then-hint-gt0+in_default+then-here-number w ↦ sym w.spot_at.ensures.value ∙ ap (option_map (λ v. plain v.now)) w.in_default.is
      | then-hint-gt0+in_default+else-here-number w ↦ sym w.spot_at.ensures.value ∙ ap (option_map (λ v. plain v.now)) w.in_default.is
      | else-hint-gt0 w ↦ ap (value_at x) (vars_found c.loop-spot.here ls l here) ∙ c.hint.ensures (omega (arith, w.if-hint-gt0.false)) x c.class_of-class.ensures.class
    ] in
    let nobody = c.loop-spot.invariant.same ∙ holder_nowhere c.loop-spot.here ls x l here c.in-None.is none in
    let kept : IsKept c.args.number x (live_in c.args.self.now.layers) (Some c.in-Some-home.spot) = elim c.if-hint-gt0.branch [
      | then-hint-gt0+in_default+then-here-number w ↦ subst (IsKept c.args.number x (live_in c.args.self.now.layers)) (sym w.home-is ∙ c.in-Some-home.is) (w.spot_at.ensures.number ∙ (let same : c.loop-spot.here ≡ c.args.number = omega (arith, w.if-here-number.true) in same), w.spot_at.ensures.spot)
      | then-hint-gt0+in_default+else-here-number w ↦ subst (IsKept c.args.number x (live_in c.args.self.now.layers)) (sym w.home-is ∙ c.in-Some-home.is) c.loop-spot.invariant.kept
      | else-hint-gt0 w ↦ subst (IsKept c.args.number x (live_in c.args.self.now.layers)) (sym w.home-is ∙ c.in-Some-home.is) c.loop-spot.invariant.kept
    ] in
    sym (ap (λ n. value_at x (vars_at n ls)) kept.0 ∙ held_nowhere c.args.number ls x nobody)

pub returns-in-None-home-clause-holder : goal.returns-in-None-home-clause-holder
returns-in-None-home-clause-holder c =
    let ls = layers_of c.args.self.now in
    let l = layer_view c.at-layer.result.now in
    let x = c.args.name.now in
    let here = layer_at c.loop-spot.here ls c.place-place.result l c.place-place.ensures.within (view_read (live_in c.args.self.now.layers) c.place-place.result c.at-layer.result.now c.at-layer.ensures) c.place-place.ensures.found in
    let none : value_at x (vars_at c.loop-spot.here ls) ≡ None = elim c.if-hint-gt0.branch [
      | then-hint-gt0+in_default+then-here-number w ↦ sym w.spot_at.ensures.value ∙ ap (option_map (λ v. plain v.now)) w.in_default.is
      | then-hint-gt0+in_default+else-here-number w ↦ sym w.spot_at.ensures.value ∙ ap (option_map (λ v. plain v.now)) w.in_default.is
      | else-hint-gt0 w ↦ ap (value_at x) (vars_found c.loop-spot.here ls l here) ∙ c.hint.ensures (omega (arith, w.if-hint-gt0.false)) x c.class_of-class.ensures.class
    ] in
    sym (c.loop-spot.invariant.same ∙ holder_nowhere c.loop-spot.here ls x l here c.in-None.is none)

pub returns-in-None-home-clause-value : goal.returns-in-None-home-clause-value
returns-in-None-home-clause-value c =
    let ls = layers_of c.args.self.now in
    let l = layer_view c.at-layer.result.now in
    let x = c.args.name.now in
    let here = layer_at c.loop-spot.here ls c.place-place.result l c.place-place.ensures.within (view_read (live_in c.args.self.now.layers) c.place-place.result c.at-layer.result.now c.at-layer.ensures) c.place-place.ensures.found in
    let none : value_at x (vars_at c.loop-spot.here ls) ≡ None = elim c.if-hint-gt0.branch [
      | then-hint-gt0+in_default+then-here-number w ↦ sym w.spot_at.ensures.value ∙ ap (option_map (λ v. plain v.now)) w.in_default.is
      | then-hint-gt0+in_default+else-here-number w ↦ sym w.spot_at.ensures.value ∙ ap (option_map (λ v. plain v.now)) w.in_default.is
      | else-hint-gt0 w ↦ ap (value_at x) (vars_found c.loop-spot.here ls l here) ∙ c.hint.ensures (omega (arith, w.if-hint-gt0.false)) x c.class_of-class.ensures.class
    ] in
    let nobody = c.loop-spot.invariant.same ∙ holder_nowhere c.loop-spot.here ls x l here c.in-None.is none in
    sym (ap (λ n. value_at x (vars_at n ls)) c.spot.ensures.number ∙ held_nowhere c.args.number ls x nobody)
