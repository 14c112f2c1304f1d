use Rattle.std.proofs.Common.{ap, subst, sym, ◌∙◌}
use Rattle.wf_http_body.specs.declared.chunk.Place.{Place}
use Rattle.wf_http_body.specs.declared.chunk.Place.TheVariants as place
use Rattle.wf_http_body.specs.Found.{Steps}
use Rattle.wf_http_body.proofs.Steps.{last_steps}
use Rattle.wf_http_body.proofs.chunk.read_step.Goals as goal

pub returns-in-Line-clause-step : goal.returns-in-Line-clause-step
returns-in-Line-clause-step c =
    subst (λ (p : Place). Steps p c.args.heard.now c.args.room c.read_line.result) (sym c.in-Line.is) (c.read_line.ensures.step c.args.room)

pub returns-in-Content-eq0-clause-step : goal.returns-in-Content-eq0-clause-step
returns-in-Content-eq0-clause-step c =
    subst (λ (p : Place). Steps p c.args.heard.now c.args.room c.read_end.result) (sym (c.in-Content-eq0.is ∙ ap place.Content (sym c.in-Content-eq0.field-0-is ∙ c.in-Content-eq0.field-0-test))) (c.read_end.ensures.step c.args.room)

pub returns-in-Trailer-clause-step : goal.returns-in-Trailer-clause-step
returns-in-Trailer-clause-step c = last_steps c.read_last.result c.args.place c.args.heard.now c.args.room c.in-Trailer.is c.read_last.ensures.step
