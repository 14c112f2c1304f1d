use Rattle.std.proofs.Common.{sym, ◌∙◌, ap, slice_set}
use Rattle.wf_host.specs.Ahead.{Line}
use Rattle.wf_host.proofs.Speakers.{told_none, told_some}
use Rattle.wf_host.proofs.outlook.tell.Goals as goal

pub returns-in_default : goal.returns-in_default
returns-in_default c = sym (told_none c.args.limit c.args.polls c.args.speakers.now (sym c.first_speaker.ensures ∙ c.in_default.is))

pub returns-in-Some : goal.returns-in-Some
returns-in-Some c =
    ap (λ (l : Line). slice_set c.args.speakers.now c.in-Some.i l) c.tell.ensures
    ∙ sym (told_some c.args.limit c.args.polls c.args.speakers.now c.in-Some.i c.index-speakers-i.result (sym c.first_speaker.ensures ∙ c.in-Some.is))
