use Rattle.std.proofs.Common.{ap, inl, inr, refl, ◌∙◌}
use Rattle.wf_http_body.specs.declared.body.End.TheVariants as end
use Rattle.wf_http_serve.specs.declared.stage.Stage.TheVariants as stage
use Rattle.wf_http_serve.specs.Stages.{settled}
use Rattle.wf_http_serve.proofs.Coming.{refused_little, whole_little}
use Rattle.wf_http_serve.proofs.visit.Visit.settle.Goals as goal

pub returns-in-Whole-clause-little : goal.returns-in-Whole-clause-little
returns-in-Whole-clause-little c = λ little.
    let v = c.args.self.now in
    whole_little v.stage c.whole.result v.unread.items v.content.items v.chunks c.new.result (c.whole.ensures ∙ ap (settled end.Whole) c.replace-stage.ensures.value) c.new.ensures little

pub returns-in-Bad-clause-little : goal.returns-in-Bad-clause-little
returns-in-Bad-clause-little c = λ little.
    refused_little stage.Bad _ _ _ _ c.refuse.ensures.stage (inl refl) c.refuse.ensures.unread c.refuse.ensures.chunks c.refuse.ensures.content

pub returns-in-TooLarge-clause-little : goal.returns-in-TooLarge-clause-little
returns-in-TooLarge-clause-little c = λ little.
    refused_little stage.TooLarge _ _ _ _ c.refuse-in-TooLarge.ensures.stage (inr refl) c.refuse-in-TooLarge.ensures.unread c.refuse-in-TooLarge.ensures.chunks c.refuse-in-TooLarge.ensures.content
