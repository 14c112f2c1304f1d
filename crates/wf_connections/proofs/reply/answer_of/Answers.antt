use Rattle.std.proofs.Common.{◌∙◌, Some, ap, option_map, subst, sym}
use Rattle.wf_http_in.specs.AnswerOf.{AnswerOf}
use Rattle.wf_http_in.specs.View.{answer_view}
use Rattle.wf_connections.proofs.reply.answer_of.Goals as goal

pub returns-in_ok-reply_of-in-Some : goal.returns-in_ok-reply_of-in-Some
returns-in_ok-reply_of-in-Some c = λ heard close had.
    subst (AnswerOf heard close) (ap (option_map answer_view) c.in-Some.is ∙ ap Some (sym c.in_ok-reply_of-in-Some.ensures)) (c.answer.ensures heard close had)
