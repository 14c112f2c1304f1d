use Rattle.std.proofs.Common.{◌≡◌, sym, ◌∙◌, ap, subst, IfOk, List}
use Rattle.std.specs.List.{position}
use Rattle.wf_host.specs.declared.data.What.{What}
use Rattle.wf_host.specs.Ahead.{Line, speaks}
use Rattle.wf_host.proofs.Speakers.{heard_of_call, heard_nothing}
use Rattle.wf_host.proofs.outlook.Outlook.next_thing.Goals as goal

pub returns-in-Some : goal.returns-in-Some
returns-in-Some c =
    let o = c.self.inside in
    let at = ap (λ (l : List Line). position (speaks o.polls) l) (sym c.deref.ensures.value) ∙ sym c.first_speaker.ensures ∙ c.in-Some.is in
    subst (λ (x : What). IfOk c.first.result (λ w. w ≡ x))
    (heard_of_call o.polls o.calls.items c.args.self.now c.self.view_is c.piece_limit.result c.in-Some.i c.index.result.now c.piece_limit.ensures at c.index.ensures) c.first.ensures

pub returns-in-None : goal.returns-in-None
returns-in-None c =
    let o = c.self.inside in
    let none = ap (λ (l : List Line). position (speaks o.polls) l) (sym c.deref.ensures.value) ∙ sym c.first_speaker.ensures ∙ c.in-None.is in
    heard_nothing o.polls o.calls.items c.args.self.now c.self.view_is none
