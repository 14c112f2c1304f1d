use Rattle.std.proofs.Common.{◌≡◌, ◌+◌, None, refl, ◌∙◌, ap, subst, sym}
use Rattle.std.specs.Option.{option_map}
use Rattle.std.specs.Prelude.{slice_get}
use Rattle.wf_args.specs.Lines.{routes_of}
use Rattle.wf_args.specs.Plain.{plain_line, plain_route}
use Rattle.wf_cli.proofs.Routes.{AreAll, SoFar, all_routes, fewer_left, none_yet, route_more}
use Rattle.wf_cli.proofs.execution.routes_for.Goals as goal

pub loop-parts-init : goal.loop-parts-init
loop-parts-init c = none_yet (plain_line c.args.line.now) c.new-routes.result c.new-routes.ensures

pub loop-parts-preserved : goal.loop-parts-preserved
loop-parts-preserved c =
    let l = plain_line c.args.line.now in
    subst (λ rs. SoFar l rs (c.loop-parts.index + 1)) (sym c.in_ok-push.ensures.ok)
    (route_more l c.loop-parts.routes c.loop-parts.index (plain_route c.in-Some.parts) c.in_ok-utf8_text-2.field-0 (record { name = c.in_ok-utf8_text.field-0; port = c.in-Some.parts.port }) c.loop-parts.invariant (sym c.in-Some.ensures.route) c.in-Some.ensures.proper
    c.in_ok-utf8_text-2.ensures.same c.in_ok-utf8_text.ensures.same refl c.in_ok-utf8_text-2.ensures.utf8 c.in_ok-utf8_text.ensures.utf8)

pub loop-parts-smaller : goal.loop-parts-smaller
loop-parts-smaller c = fewer_left (plain_line c.args.line.now) c.loop-parts.index (plain_route c.in-Some.parts) (sym c.in-Some.ensures.route)

all : (c : goal.In_default) → AreAll (plain_line c.args.line.now) c.loop-parts.routes
all c =
    let l = plain_line c.args.line.now in
    let past : slice_get (routes_of l) c.loop-parts.index ≡ None = sym (sym (ap (option_map plain_route) c.in_default.is) ∙ c.route.ensures.route) in
    all_routes l c.loop-parts.routes c.loop-parts.index c.loop-parts.invariant past c.route.ensures.few

pub returns-clause-same : goal.returns-clause-same
returns-clause-same c = (all c).same

pub returns-clause-spelled : goal.returns-clause-spelled
returns-clause-spelled c = (all c).spelled

pub returns-clause-short : goal.returns-clause-short
returns-clause-short c = (all c).short
