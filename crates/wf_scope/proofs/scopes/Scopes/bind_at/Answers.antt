use Rattle.std.proofs.Common.{◌≡◌, ◌+◌, min, Ok, length, sym, ap, subst, ◌∙◌, arith}
use Rattle.wf_value.specs.Data.{size}
use Rattle.wf_value.specs.Plain.{plain}
use Rattle.wf_scope.specs.Layers.{total_of}
use Rattle.wf_scope.proofs.Binding.{exceeds, fits, nests}
use Rattle.wf_scope.proofs.Kept.{put_kept}
use Rattle.wf_scope.proofs.Live.{bound_apart, bound_stay}
use Rattle.wf_scope.specs.Lives.{live_in}
use Rattle.wf_scope.specs.Store.{layers_of}
use Rattle.wf_scope.specs.Views.{views}
use Rattle.wf_scope.proofs.Spotted.{spot_total}
use Rattle.wf_scope.proofs.scopes.Scopes.bind_at.Goals as goal

pub overflow_sub-rest : goal.overflow_sub-rest
overflow_sub-rest c =
    let s = c.args.self.now in
    omega (arith, s.counted, (spot_total c.args.spot c.args.name.now (plain c.args.v) (live_in s.layers) c.requires.spot c.requires.live).0)

pub returns-then-total-self-clause-outcome : goal.returns-then-total-self-clause-outcome
returns-then-total-self-clause-outcome c =
    let s = c.args.self.now in
    let counted = subst (λ x. c.size_of_variable-counted.result ≡ min (2 + length x + size (plain c.args.v)) 18446744073709551615) c.as_str.ensures c.size_of_variable-counted.ensures in
    let total = spot_total c.args.spot c.args.name.now (plain c.args.v) (live_in s.layers) c.requires.spot c.requires.live in
    exceeds s.limit c.args.spot.number c.args.name.now (plain c.args.v) (layers_of s) (omega (arith, counted, s.counted, total.0, total.1, c.saturating_add-total.ensures))

pub returns-then-depth-gt-NESTING_LIMIT-clause-outcome : goal.returns-then-depth-gt-NESTING_LIMIT-clause-outcome
returns-then-depth-gt-NESTING_LIMIT-clause-outcome c =
    let s = c.args.self.now in
    let counted = subst (λ x. c.size_of_variable-counted.result ≡ min (2 + length x + size (plain c.args.v)) 18446744073709551615) c.as_str.ensures c.size_of_variable-counted.ensures in
    let total = spot_total c.args.spot c.args.name.now (plain c.args.v) (live_in s.layers) c.requires.spot c.requires.live in
    nests s.limit c.args.spot.number c.args.name.now (plain c.args.v) (layers_of s) (omega (arith, counted, s.counted, total.0, total.1, c.saturating_add-total.ensures)) (omega (arith, c.depth.ensures))

pub put-requires-clause-counted : goal.put-requires-clause-counted
put-requires-clause-counted c =
    let counted = subst (λ x. c.size_of_variable-counted.result ≡ min (2 + length x + size (plain c.args.v)) 18446744073709551615) c.as_str.ensures c.size_of_variable-counted.ensures in
    omega (arith, counted, c.saturating_add-total.ensures)

pub put-requires-clause-room : goal.put-requires-clause-room
put-requires-clause-room c = omega (arith, c.saturating_add-total.ensures, c.args.self.now.counted)

pub invariant_of-self : goal.invariant_of-self
invariant_of-self c =
    let s = c.args.self.now in
    let kept = put_kept c.args.spot.number c.args.name.now (plain c.args.v) (layers_of s) (views (live_in c.put.new.self)) c.args.spot.layer (sym c.requires.spot.layer) c.requires.live c.in-Ok.ensures s.rising s.standing in
    let counted = subst (λ x. c.size_of_variable-counted.result ≡ min (2 + length x + size (plain c.args.v)) 18446744073709551615) c.as_str.ensures c.size_of_variable-counted.ensures in
    let total = spot_total c.args.spot c.args.name.now (plain c.args.v) (live_in s.layers) c.requires.spot c.requires.live in
    record {
      counted = omega (arith, counted, s.counted, total.0, total.1, c.saturating_add-total.ensures, ap total_of kept.0);
      room = omega arith;
      within = omega arith;
      rising = kept.1;
      standing = kept.2;
    }

pub returns-in-Ok-clause-outcome : goal.returns-in-Ok-clause-outcome
returns-in-Ok-clause-outcome c =
    let s = c.args.self.now in
    let kept = put_kept c.args.spot.number c.args.name.now (plain c.args.v) (layers_of s) (views (live_in c.put.new.self)) c.args.spot.layer (sym c.requires.spot.layer) c.requires.live c.in-Ok.ensures s.rising s.standing in
    let counted = subst (λ x. c.size_of_variable-counted.result ≡ min (2 + length x + size (plain c.args.v)) 18446744073709551615) c.as_str.ensures c.size_of_variable-counted.ensures in
    let total = spot_total c.args.spot c.args.name.now (plain c.args.v) (live_in s.layers) c.requires.spot c.requires.live in
    fits s.limit c.args.spot.number c.args.name.now (plain c.args.v) (layers_of s) (omega (arith, counted, s.counted, total.0, total.1, c.saturating_add-total.ensures)) (omega (arith, c.depth.ensures)) ∙ ap Ok (sym kept.0)

pub returns-in-Ok-clause-stay : goal.returns-in-Ok-clause-stay
returns-in-Ok-clause-stay c =
    let s = c.args.self.now in
    let kept = put_kept c.args.spot.number c.args.name.now (plain c.args.v) (layers_of s) (views (live_in c.put.new.self)) c.args.spot.layer (sym c.requires.spot.layer) c.requires.live c.in-Ok.ensures s.rising s.standing in
    bound_stay c.args.spot.number c.args.name.now (plain c.args.v) (layers_of s) (views (live_in c.put.new.self)) kept.0

pub returns-in-Ok-clause-apart : goal.returns-in-Ok-clause-apart
returns-in-Ok-clause-apart c =
    let s = c.args.self.now in
    let kept = put_kept c.args.spot.number c.args.name.now (plain c.args.v) (layers_of s) (views (live_in c.put.new.self)) c.args.spot.layer (sym c.requires.spot.layer) c.requires.live c.in-Ok.ensures s.rising s.standing in
    bound_apart c.args.spot.number c.args.name.now (plain c.args.v) (layers_of s) (views (live_in c.put.new.self)) kept.0
