use Rattle.std.proofs.Common.{◌≡◌, sym, ap, ◌∙◌}
use Rattle.wf_ast.specs.View.{policy_option_view}
use Rattle.wf_frames.specs.Fits.{reach}
use Rattle.wf_frames.specs.Frames.{inner}
use Rattle.wf_frames.specs.declared.frames.Trying.{Trying}
use Rattle.wf_model.specs.NodeKinds.{handler_view}
use Rattle.wf_model.specs.Spots.{owners_at}
use Rattle.wf_model.specs.Table.{except_of}
use Rattle.wf_frames.proofs.Fitting.{try_fits}
use Rattle.wf_frames.proofs.Parts.{tried_body, tried_stands, try_built}
use Rattle.wf_frames.proofs.Performed.{tried_performs}
use Rattle.wf_frames.proofs.step.enter_try.Goals as goal

pub body_frame-requires : goal.body_frame-requires
body_frame-requires g c =
    let t = c.requires.1.0 in
    let stands = tried_stands g.ns c.args.nodes.now c.args.n c.args.tried.now c.requires.0.resolves t in
    let built = try_built c.args.nodes.now c.args.n t.node c.args.tried.now c.requires.0.built t.at t.is in
    (c.requires.0, (stands.0, built))

pub returns-clause-performed : goal.returns-clause-performed
returns-clause-performed g c v =
    let t = c.requires.1.0 in
    let body = tried_body g.ns c.args.nodes.now c.args.n c.args.tried.now c.requires.0.resolves t in
    let p = policy_option_view c.args.tried.now.policy in
    let x = except_of g.ns (handler_view c.args.tried.now.except) in
    tried_performs g.ns c.args.n c.args.tried.now.body c.in_ok-boxed.field-0 p x c.body_frame.result v (inner c.args.frames.now) (inner c.push.new.self) (inner c.push-2.new.self)
    body c.body_frame.ensures.item c.in_ok-boxed.ensures c.in_ok-push.ensures.pushed c.in_ok-push-2.ensures.pushed

pub returns-clause-fits : goal.returns-clause-fits
returns-clause-fits g c =
    let t = c.requires.1.0 in
    let inside = c.requires.1.1.1 in
    let stands = tried_stands g.ns c.args.nodes.now c.args.n c.args.tried.now c.requires.0.resolves t in
    let same : c.in_ok-boxed.field-0.value.node ≡ c.args.n = ap (λ (x : Trying). x.node) c.in_ok-boxed.ensures in
    let here : owners_at g.ns c.args.tried.now.body ≡ reach (inner c.push.new.self) =
    stands.1 ∙ inside ∙ sym (ap reach c.in_ok-push.ensures.pushed) in
    try_fits g.ns c.args.nodes.now c.args.n c.in_ok-boxed.field-0 c.args.tried.now c.body_frame.result (inner c.args.frames.now) (inner c.push.new.self) (inner c.push-2.new.self) t same inside c.in_ok-push.ensures.pushed c.in_ok-push-2.ensures.pushed
    (c.body_frame.ensures.fits (inner c.push.new.self) here) c.requires.1.1.0
