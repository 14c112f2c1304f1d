use Rattle.std.proofs.Common.{sym, ◌∙◌}
use Rattle.wf_frames.proofs.Foreseeing.{body_kinds, body_within, entry_kinds, entry_within, plain_kinds}
use Rattle.wf_frames.proofs.kinds.next_kind.Goals as goal

pub returns-in-Body : goal.returns-in-Body
returns-in-Body c p ns nodes fs tells fits is named =
    let e = sym is ∙ c.in-Body.is in
    c.body_at.ensures _ _ (named.each c.in-Body.n (body_within ns nodes tells.resolves fs c.in-Body.n fits e)) ∙ sym (body_kinds ns nodes tells.resolves fs c.in-Body.n fits e p)

pub returns-in-Entry : goal.returns-in-Entry
returns-in-Entry c p ns nodes fs tells fits is named =
    let e = sym is ∙ c.in-Entry.is in
    c.entry_at.ensures _ _ (named.each c.in-Entry.n (entry_within ns nodes tells.resolves fs c.in-Entry.n fits e)) ∙ sym (entry_kinds ns nodes tells.resolves fs c.in-Entry.n fits e p)

pub returns-in_default : goal.returns-in_default
returns-in_default c p ns nodes fs tells fits is named = sym (plain_kinds ns nodes tells.resolves p fs fits (λ n q. c.in_default.not-Body n (is ∙ q)) (λ n q. c.in_default.not-Entry n (is ∙ q)))
