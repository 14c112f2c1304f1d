use Rattle.std.proofs.Common.{refl, sym, ap, ◌∙◌}
use Rattle.std.specs.Prelude.{vec_len}
use Rattle.wf_frames.specs.Frames.{inner, owned}
use Rattle.wf_frames.specs.Innermost.{innermost}
use Rattle.wf_frames.proofs.Owning.{innermost_on, owned_on}
use Rattle.wf_frames.proofs.Reversed.{goes_on}
use Rattle.wf_frames.proofs.frames.Frames.go_on.Goals as goal

pub invariant_of-self : goal.invariant_of-self
invariant_of-self c =
    let self = c.args.self.now in
    let is = c.in-Some.ensures in
    let on = goes_on self.items.items (vec_len self.items) c.in-Some.frame.now c.go_on.new.self self.items.ok.0 (is.variant.0 refl) is.value c.go_on.ensures.on in
    record { layered = self.layered ∙ sym (innermost_on self.first (inner self)) ∙ ap (innermost self.first) (sym on) }

pub returns-in-Some-clause-on : goal.returns-in-Some-clause-on
returns-in-Some-clause-on c =
    let self = c.args.self.now in
    let is = c.in-Some.ensures in
    goes_on self.items.items (vec_len self.items) c.in-Some.frame.now c.go_on.new.self self.items.ok.0 (is.variant.0 refl) is.value c.go_on.ensures.on

pub returns-in-Some-clause-own : goal.returns-in-Some-clause-own
returns-in-Some-clause-own c =
    let self = c.args.self.now in
    let is = c.in-Some.ensures in
    let on = goes_on self.items.items (vec_len self.items) c.in-Some.frame.now c.go_on.new.self self.items.ok.0 (is.variant.0 refl) is.value c.go_on.ensures.on in
    ap (owned self.first) on ∙ owned_on self.first (inner self)
