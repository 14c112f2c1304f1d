use Rattle.std.proofs.Common.{sym, ap, subst, ◌∙◌}
use Rattle.wf_lemmas.proofs.Results.{with_ok}
use Rattle.wf_frames.specs.Frames.{inner}
use Rattle.wf_frames.specs.Owned.{beside, control_of, held_by, local_of}
use Rattle.wf_moves.proofs.Leaving.{fits_after}
use Rattle.wf_moves.proofs.Retrying.{judge_at, judge_no, judge_yes}
use Rattle.wf_moves.specs.Retries.{IsLed, caught}
use Rattle.wf_moves.proofs.leading.answered.Goals as goal

pub retry-requires : goal.retry-requires
retry-requires g c =
    let p = c.in_ok-asked.asked in
    let q = c.in_ok-asked.ensures in
    let j = judge_at g.around.spots c.args.nodes.now c.leave.result (inner c.args.frames.now) (inner c.leave.new.frames) (held_by g.around c.args.frames.now c.args.scopes.now) (held_by g.around c.leave.new.frames c.leave.new.scopes) p.0 p.1 q c.leave.ensures.left c.requires.1.1.0.fits in
    (c.requires.0, (record { fits = fits_after g.around.spots c.args.nodes.now c.leave.result (inner c.args.frames.now) (inner c.leave.new.frames) (held_by g.around c.args.frames.now c.args.scopes.now) (held_by g.around c.leave.new.frames c.leave.new.scopes) c.leave.ensures.left c.requires.1.1.0.fits; linked = c.leave.ensures.linked }, j.at))

pub take-requires : goal.take-requires
take-requires g c =
    let p = c.in_ok-asked.asked in
    let q = c.in_ok-asked.ensures in
    let j = judge_at g.around.spots c.args.nodes.now c.leave.result (inner c.args.frames.now) (inner c.leave.new.frames) (held_by g.around c.args.frames.now c.args.scopes.now) (held_by g.around c.leave.new.frames c.leave.new.scopes) p.0 p.1 q c.leave.ensures.left c.requires.1.1.0.fits in
    (c.requires.0, (record { fits = fits_after g.around.spots c.args.nodes.now c.leave.result (inner c.args.frames.now) (inner c.leave.new.frames) (held_by g.around c.args.frames.now c.args.scopes.now) (held_by g.around c.leave.new.frames c.leave.new.scopes) c.leave.ensures.left c.requires.1.1.0.fits; linked = c.leave.ensures.linked }, ((j.at.node, j.at.is), (j.at.inside, j.shallow))))

pub returns-then-yes-clause-moved : goal.returns-then-yes-clause-moved
returns-then-yes-clause-moved g c =
    let p = c.in_ok-asked.asked in
    let q = c.in_ok-asked.ensures in
    with_ok _ _ c.retry.result
    (λ d h s k last agrees.
    subst (λ m. IsLed g.around m d (local_of g.around c.retry.new.frames c.retry.new.scopes))
    (sym (judge_yes g.around.spots c.leave.result (inner c.args.frames.now) (inner c.leave.new.frames) (held_by g.around c.args.frames.now c.args.scopes.now) (held_by g.around c.leave.new.frames c.leave.new.scopes) p.0 p.1 q c.leave.ensures.left s k c.args.yes c.if-yes.true))
    (h s k last agrees))
    c.retry.ensures.moved

pub returns-in-Some-clause-moved : goal.returns-in-Some-clause-moved
returns-in-Some-clause-moved g c =
    let p = c.in_ok-asked.asked in
    let q = c.in_ok-asked.ensures in
    with_ok _ _ c.outward.result
    (λ d h s k last agrees.
    subst (λ m. IsLed g.around m d (local_of g.around c.outward.new.frames c.outward.new.scopes))
    (sym (judge_no g.around.spots c.leave.result (inner c.args.frames.now) (inner c.leave.new.frames) (held_by g.around c.args.frames.now c.args.scopes.now) (held_by g.around c.leave.new.frames c.leave.new.scopes) p.0 p.1 q c.leave.ensures.left s k c.args.yes c.if-yes.false
    ∙ c.in_ok-another.ensures.moved s k agrees ∙ ap (λ o. caught o s (control_of g.around c.take.new.frames) (beside k g.around c.take.new.frames c.take.new.scopes)) c.in-Some.is))
    (h s k last agrees))
    c.outward.ensures.moved

pub returns-in-None-clause-moved : goal.returns-in-None-clause-moved
returns-in-None-clause-moved g c s k last agrees =
    let p = c.in_ok-asked.asked in
    let q = c.in_ok-asked.ensures in
    subst (λ m. IsLed g.around m c.lead_on.result (local_of g.around c.lead_on.new.frames c.lead_on.new.scopes))
    (sym (judge_no g.around.spots c.leave.result (inner c.args.frames.now) (inner c.leave.new.frames) (held_by g.around c.args.frames.now c.args.scopes.now) (held_by g.around c.leave.new.frames c.leave.new.scopes) p.0 p.1 q c.leave.ensures.left s k c.args.yes c.if-yes.false
    ∙ c.in_ok-another.ensures.moved s k agrees ∙ ap (λ o. caught o s (control_of g.around c.take.new.frames) (beside k g.around c.take.new.frames c.take.new.scopes)) c.in-None.is))
    (c.lead_on.ensures.moved k)
