use Rattle.std.proofs.Common.{◌≡◌, drop}
use Rattle.wf_value.specs.HttpUrl.{route}
use Rattle.wf_http_out.specs.View.{routes_view}
use Rattle.wf_http_out.proofs.route.find_route.Given as goal

abbrev pub invariant-loop-pair : goal.invariant-loop-pair
invariant-loop-pair l = route (routes_view (drop l.pair-index l.routes)) l.host ≡ route (routes_view l.routes) l.host
