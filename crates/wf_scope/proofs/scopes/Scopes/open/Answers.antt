use Rattle.std.proofs.Common.{refl, ◌∙◌}
use Rattle.std.specs.Prelude.{is_ok}
use Rattle.wf_scope.specs.Layers.{new_layer}
use Rattle.wf_scope.specs.Lives.{live_in}
use Rattle.wf_scope.specs.Store.{layers_of}
use Rattle.wf_scope.specs.Views.{views}
use Rattle.wf_scope.proofs.Kept.{pushed}
use Rattle.wf_scope.proofs.Live.{pushed_innermost, pushed_live, pushed_stay}
use Rattle.wf_scope.proofs.Totals.{pushed_total}
use Rattle.wf_scope.proofs.scopes.Scopes.open.Goals as goal

pub invariant_of-self : goal.invariant_of-self
invariant_of-self c =
    let s = c.args.self.now in
    let ls = layers_of s in
    let l = new_layer c.in_ok-number.number c.args.outer c.args.depth in
    let ok = is_ok c.open.result in
    let new = views (live_in c.open.new.self) in
    let keeps = pushed ok ls new l c.open.ensures s.standing c.requires s.rising c.in_ok-number.ensures in
    record {
      counted = s.counted ∙ pushed_total ok ls new l c.open.ensures refl;
      room = s.room;
      within = s.within;
      rising = keeps.0;
      standing = keeps.1;
    }

pub returns-clause-live : goal.returns-clause-live
returns-clause-live c =
    let l = new_layer c.in_ok-number.number c.args.outer c.args.depth in
    pushed_live c.in_ok-number.number (layers_of c.args.self.now) (views (live_in c.open.new.self)) l c.in_ok-open.ensures refl

pub returns-clause-innermost : goal.returns-clause-innermost
returns-clause-innermost c =
    let s = c.args.self.now in
    let l = new_layer c.in_ok-number.number c.args.outer c.args.depth in
    pushed_innermost c.in_ok-number.number (layers_of s) (views (live_in c.open.new.self)) l c.in_ok-open.ensures c.in_ok-number.ensures s.standing c.requires

pub returns-clause-stay : goal.returns-clause-stay
returns-clause-stay c =
    let l = new_layer c.in_ok-number.number c.args.outer c.args.depth in
    pushed_stay (layers_of c.args.self.now) (views (live_in c.open.new.self)) l c.in_ok-open.ensures
