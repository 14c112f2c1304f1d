use Rattle.std.proofs.Common.{◌≡◌, ◌+◌, ap, length, min, subst, sym, ◌∙◌}
use Rattle.std.specs.Prelude.{option_map}
use Rattle.wf_value.specs.Data.{size}
use Rattle.wf_value.specs.Maps.{place_of, value_at}
use Rattle.wf_value.specs.Plain.{plain}
use Rattle.std.proofs.lemmas.Option.{get_or_from_slice_get}
use Rattle.wf_scope.specs.declared.layer.Layer as declared
use Rattle.wf_scope.proofs.Numbers.{layer_at}
use Rattle.wf_scope.proofs.Seen.{vars_found}
use Rattle.wf_scope.proofs.Totals.{counted_none, counted_some}
use Rattle.wf_scope.specs.Lives.{live_in}
use Rattle.wf_scope.specs.Store.{layers_of}
use Rattle.wf_scope.specs.Views.{layer_view}
use Rattle.wf_scope.proofs.Viewed.{view_read}
use Rattle.wf_scope.proofs.scopes.Scopes.spot_at.Goals as goal
use Rattle.wf_scope.proofs.scopes.Scopes.spot_at.Goals.{in-Some, in-None}

pub returns-clause-spot : goal.returns-clause-spot
returns-clause-spot c =
    let s = c.args.self.now in
    let ls = layers_of s in
    let l = layer_view c.at-here.result.now in
    let is = view_read (live_in s.layers) c.args.layer c.at-here.result.now c.at-here.ensures in
    let x = c.args.name.now in
    let here = layer_at c.args.number ls c.args.layer l c.requires.within is c.requires.found in
    record {
      within = c.requires.within;
      layer = c.requires.found;
      pair = λ m at. c.find-pair.ensures.place ∙ ap (λ (y : declared.Layer). place_of x y.vars.items) (c.at-here.ensures ∙ get_or_from_slice_get (live_in s.layers) c.args.layer m c.at-here.result.now at);
      class = c.requires.class;
      below = c.requires.below;
      counted = elim c.match-value.branch [
        | in-Some w ↦ w.counted-is ∙ counted_some c.args.number x (plain w.in-Some.value.now) ls l w.size_of_variable-counted.result s.total here (sym c.find-pair.ensures.value ∙ ap (option_map (λ v. plain v.now)) w.in-Some.is) s.counted s.room (subst (λ y. w.size_of_variable-counted.result ≡ min (2 + length y + size (plain w.in-Some.value.now)) 18446744073709551615) w.as_str.ensures w.size_of_variable-counted.ensures)
        | in-None w ↦ w.counted-is ∙ counted_none c.args.number x ls l here (sym c.find-pair.ensures.value ∙ ap (option_map (λ v. plain v.now)) w.in-None.is)
      ];
    }

pub returns-clause-value : goal.returns-clause-value
returns-clause-value c =
    let ls = layers_of c.args.self.now in
    let l = layer_view c.at-here.result.now in
    let here = layer_at c.args.number ls c.args.layer l c.requires.within (view_read (live_in c.args.self.now.layers) c.args.layer c.at-here.result.now c.at-here.ensures) c.requires.found in
    c.find-pair.ensures.value ∙ ap (value_at c.args.name.now) (sym (vars_found c.args.number ls l here))
