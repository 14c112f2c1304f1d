use Rattle.wf_http_out.specs.View.{routes_view}
use Rattle.wf_http_out.proofs.UrlReading.{fails, leads}
use Rattle.wf_http_out.proofs.leading.address.Goals as goal

pub returns-in-Err-clause-as_function : goal.returns-in-Err-clause-as_function
returns-in-Err-clause-as_function c =
    fails c.args.url.now (routes_view c.args.routes.now) c.in-Err.fault c.in-Err.ensures.bad_url c.in-Err.ensures.no_route c.in-Err.ensures.bad_header c.in-Err.ensures.bad_body

pub returns-in-Ok-clause-as_function : goal.returns-in-Ok-clause-as_function
returns-in-Ok-clause-as_function c =
    let read = c.in-Ok.ensures.ok in
    leads c.args.url.now (routes_view c.args.routes.now) read.0 c.goal_of.result read.1 (c.goal_of.ensures read.0 read.2)
