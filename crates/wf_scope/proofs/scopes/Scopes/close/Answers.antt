use Rattle.std.proofs.Common.{◌≡◌, sym, ap, ◌∙◌, arith}
use Rattle.wf_scope.specs.Layers.{all_stand, closed, rises, total_of}
use Rattle.wf_scope.specs.Lives.{live_in}
use Rattle.wf_scope.specs.Store.{layers_of}
use Rattle.wf_scope.specs.Views.{views}
use Rattle.wf_scope.proofs.Kept.{all_stand_closed, removed, rises_closed}
use Rattle.wf_scope.proofs.Numbers.{live_found, number_found}
use Rattle.wf_scope.proofs.Totals.{ended}
use Rattle.wf_scope.proofs.Viewed.{view_remove}
use Rattle.wf_scope.proofs.scopes.Scopes.close.Goals as goal

pub overflow_sub-self : goal.overflow_sub-self
overflow_sub-self c =
    let s = c.args.self.now in
    let n = c.args.c.number in
    let found = live_found n (layers_of s) c.requires.live in
    let counted = c.end-counted.ensures.counted found.0 (c.place-place.ensures.found ∙ found.1) in
    (ended n (layers_of s) found.0 c.end-counted.result s.total found.1 s.counted counted).0

pub invariant_of-self : goal.invariant_of-self
invariant_of-self c =
    let s = c.args.self.now in
    let ls = layers_of s in
    let n = c.args.c.number in
    let i = c.place-place.result in
    let found = live_found n ls c.requires.live in
    let at = c.place-place.ensures.found ∙ found.1 in
    let end = ended n ls found.0 c.end-counted.result s.total found.1 s.counted (c.end-counted.ensures.counted found.0 at) in
    let gone : views (live_in c.end-counted.new.self) ≡ closed n ls =
    ap views c.end-counted.ensures.rest ∙ view_remove (live_in s.layers) i ∙ removed n ls i found.0 s.rising at (number_found n ls found.0 found.1) in
    record {
      counted = end.1 ∙ ap total_of (sym gone);
      room = omega (arith, s.room, end.0);
      within = omega (arith, s.within, end.0);
      rising = ap rises gone ∙ rises_closed n ls s.rising;
      standing = ap (λ ys. all_stand ys ys) gone ∙ all_stand_closed n ls c.requires.innermost s.standing;
    }

pub returns-clause-closed : goal.returns-clause-closed
returns-clause-closed c =
    let s = c.args.self.now in
    let ls = layers_of s in
    let n = c.args.c.number in
    let i = c.place-place.result in
    let found = live_found n ls c.requires.live in
    ap views c.end-counted.ensures.rest ∙ view_remove (live_in s.layers) i ∙ removed n ls i found.0 s.rising (c.place-place.ensures.found ∙ found.1) (number_found n ls found.0 found.1)
