use Rattle.std.proofs.Common.{subst}
use Rattle.wf_lemmas.proofs.Results.{with_ok}
use Rattle.wf_frames.specs.Frames.{inner}
use Rattle.wf_frames.specs.Owned.{local_of}
use Rattle.wf_moves.proofs.Led.{ends_lead, raised_leads, said_leads}
use Rattle.wf_moves.specs.Moved.{IsTurned, IsTurnedLeft}
use Rattle.wf_moves.proofs.leading.lead_turned.Goals as goal

pub outward-requires : goal.outward-requires
outward-requires g c = (c.requires.0, (c.requires.1.0, (c.requires.1.1.0, subst (λ x. IsTurnedLeft x (inner c.args.frames.now)) c.in-Raises.is c.requires.1.1.1)))

pub answered-requires : goal.answered-requires
answered-requires g c = (c.requires.0, (c.requires.1.0, (c.requires.1.1.0, subst (λ x. IsTurnedLeft x (inner c.args.frames.now)) c.in-Says.is c.requires.1.1.1)))

pub returns-in-Ended-clause-moved : goal.returns-in-Ended-clause-moved
returns-in-Ended-clause-moved g c s m last agrees h = ends_lead g.around s m c.in-Ended.end (local_of g.around c.args.frames.now c.args.scopes.now) (subst (λ x. IsTurned s m x (local_of g.around c.args.frames.now c.args.scopes.now)) c.in-Ended.is h)

pub returns-in-Raises-clause-moved : goal.returns-in-Raises-clause-moved
returns-in-Raises-clause-moved g c =
    with_ok _ _ c.outward.result
    (λ d o s m last agrees h. raised_leads g.around s m c.in-Raises.error c.args.frames.now c.args.scopes.now d (local_of g.around c.outward.new.frames c.outward.new.scopes) (λ k. o s k last agrees)
    (subst (λ x. IsTurned s m x (local_of g.around c.args.frames.now c.args.scopes.now)) c.in-Raises.is h))
    c.outward.ensures.moved

pub returns-in-Says-clause-moved : goal.returns-in-Says-clause-moved
returns-in-Says-clause-moved g c =
    with_ok _ _ c.answered.result
    (λ d o s m last agrees h. said_leads g.around s m c.in-Says.yes c.args.frames.now c.args.scopes.now d (local_of g.around c.answered.new.frames c.answered.new.scopes) (λ k. o s k last agrees)
    (subst (λ x. IsTurned s m x (local_of g.around c.args.frames.now c.args.scopes.now)) c.in-Says.is h))
    c.answered.ensures.moved
