use Rattle.std.proofs.Common.{◌≡◌, ℕ, Ok, refl, sym, ap, ◌∙◌}
use Rattle.wf_frames.specs.Bound.{bindings_of}
use Rattle.wf_frames.specs.Turns.{bound_all}
use Rattle.wf_frames.proofs.Names.{bound_closed, bound_more}
use Rattle.wf_scope.specs.Changes.{bound}
use Rattle.wf_scope.specs.Store.{layers_of}
use Rattle.wf_value.specs.Plain.{plain}
use Rattle.wf_frames.proofs.entering.bind_all.Goals as goal

pub loop-both-preserved : goal.loop-both-preserved
loop-both-preserved c =
    let lim = c.args.scopes.now.limit in
    let n = c.args.layer.number in
    let v = plain c.in-Some.both.1 in
    let ls = layers_of c.loop-both.scopes in
    let new = layers_of c.bind.new.self in
    let xs = bindings_of c.take_first.new.self in
    let name = c.in-Some.both.0 in
    let inv = c.loop-both.invariant in
    let put = c.in_ok-bind.ensures.outcome in
    let here : bound lim n c.in-Some.both.0 v ls ≡ Ok new = sym (ap (λ (k : ℕ). bound k n name v ls) inv.limit) ∙ put in
    record {
      bound = sym (bound_more lim n c.in-Some.both.0 v xs ls new (bound_all lim n xs new) here refl) ∙ ap (λ ys. bound_all lim n ys ls) (sym c.in-Some.ensures.first) ∙ inv.bound;
      rest = bound_closed c.loop-both.scopes.limit n name v ls new put ∙ inv.rest;
      limit = c.in_ok-bind.ensures.limit ∙ inv.limit;
      live = c.in_ok-bind.ensures.stay n inv.live;
      innermost = c.in_ok-bind.ensures.apart n inv.innermost;
    }
