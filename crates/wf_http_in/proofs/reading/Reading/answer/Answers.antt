use Rattle.std.proofs.Common.{List, ℕ, Some, ap, subst, sym, ◌∙◌}
use Rattle.wf_value.specs.Events.{Response}
use Rattle.wf_http_in.specs.AnswerOf.{AnswerOf}
use Rattle.wf_http_in.specs.Stages.{unfinished}
use Rattle.wf_http_in.proofs.Coming.{is_open_body, is_whole, is_bad, is_too_long}
use Rattle.wf_http_in.proofs.reading.Reading.answer.Goals as goal

pub returns-in_default : goal.returns-in_default
returns-in_default c = λ heard close h.
    subst (AnswerOf heard close) (sym (c.unfinished-in_default.ensures ∙ ap unfinished (sym h.close_is)))
    (is_open_body _ _ _ _ _ _ heard close c.in-Body.is c.in_default.not-ToTheEnd h.stage)

pub returns-in-Whole : goal.returns-in-Whole
returns-in-Whole c = λ heard close h.
    let r = c.in-Whole.head in
    subst (λ (b : List ℕ). AnswerOf heard close (Some (Response r.code r.fields b))) (sym c.as_slice-in-Whole.ensures.value) (is_whole _ r _ _ _ heard close c.in-Whole.is h.stage)

pub returns-in-Bad : goal.returns-in-Bad
returns-in-Bad c = λ heard close h. is_bad _ _ _ _ heard close c.in-Bad.is h.stage

pub returns-in-TooLong : goal.returns-in-TooLong
returns-in-TooLong c = λ heard close h. is_too_long _ _ _ _ heard close c.in-TooLong.is h.stage
