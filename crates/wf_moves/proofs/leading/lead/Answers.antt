use Rattle.std.proofs.Common.{sym, subst}
use Rattle.wf_lemmas.proofs.Results.{with_ok}
use Rattle.wf_frames.specs.Frames.{inner}
use Rattle.wf_frames.specs.Owned.{local_of}
use Rattle.wf_moves.proofs.Led.{goes_leads, last_leads}
use Rattle.wf_moves.proofs.Raised.{turned_is}
use Rattle.wf_moves.specs.Moved.{IsLeft, IsMove, IsTurned, IsTurnedLeft}
use Rattle.wf_moves.proofs.leading.lead.Goals as goal

pub lead_turned-requires : goal.lead_turned-requires
lead_turned-requires g c = (
  c.requires.0,
  (
    c.requires.1.0,
    (c.requires.1.1.0, subst (λ t. IsTurnedLeft t (inner c.args.frames.now)) (sym c.into_inner-by.ensures) (subst (λ x. IsLeft c.args.nodes.now x c.args.frames.now) c.in-Turned.is c.requires.1.1.1)),
  ),
)

pub returns-in-Goes-clause-moved : goal.returns-in-Goes-clause-moved
returns-in-Goes-clause-moved g c s m last agrees h = goes_leads g.around s m (local_of g.around c.args.frames.now c.args.scopes.now) (subst (λ x. IsMove s m x (local_of g.around c.args.frames.now c.args.scopes.now)) c.in-Goes.is h)

pub returns-in-Ends-clause-moved : goal.returns-in-Ends-clause-moved
returns-in-Ends-clause-moved g c s m last agrees h = last_leads s m (local_of g.around c.args.frames.now c.args.scopes.now) (subst (λ x. IsMove s m x (local_of g.around c.args.frames.now c.args.scopes.now)) c.in-Ends.is h)

pub returns-in-Turned-clause-moved : goal.returns-in-Turned-clause-moved
returns-in-Turned-clause-moved g c =
    let l = local_of g.around c.args.frames.now c.args.scopes.now in
    with_ok _ _ c.lead_turned.result
    (λ d o s m last agrees h. o s m last agrees (subst (λ t. IsTurned s m t l) (sym c.into_inner-by.ensures) (turned_is s m c.in-Turned.turned l (subst (λ x. IsMove s m x l) c.in-Turned.is h))))
    c.lead_turned.ensures.moved
