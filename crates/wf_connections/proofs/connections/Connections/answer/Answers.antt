use Rattle.std.proofs.Common.{◌≡◌, ◌≤◌, length, true, false, IfOk, IfSome, ap, inl, inr, subst, sym, ◌∙◌, option_map}
use Rattle.std.proofs.Math.Logic.{∥∥₁_map}
use Rattle.std.proofs.lemmas.Result.{IfOk-weaker}
use Rattle.wf_connections.specs.Calls.{told}
use Rattle.wf_connections.specs.Lines.{HasRead, is_heard}
use Rattle.wf_connections.proofs.Replies.{answer_is_short, answer_is_spelled}
use Rattle.wf_connections.proofs.Steps.{line_at, listening_line, listening_within, reading_told}
use Rattle.wf_deeds.specs.Deeds.{IsAnswered}
use Rattle.wf_record_parts.specs.Spelling.{IsReply, reply}
use Rattle.wf_record_parts.specs.View.{reply_view}
use Rattle.wf_connections.proofs.connections.Connections.answer.Goals as goal

pub index-line-requires : goal.index-line-requires
index-line-requires c = listening_within c.args.self.now c.args.call c.requires

pub unreachable-requires : goal.unreachable-requires
unreachable-requires c =
    let self = c.args.self.now in
    let line = c.index-line.result.now in
    let was = line_at self c.args.call line (listening_within self c.args.call c.requires) c.index-line.ensures in
    let heard = listening_line self c.args.call line was c.requires in
    elim c.in-Unused.is [
      | inl unused ↦ (let f : true ≡ false = sym heard ∙ ap is_heard unused in cc f)
      | inr others ↦ elim others [
        | inl forgotten ↦ (let f : true ≡ false = sym heard ∙ ap is_heard forgotten in cc f)
        | inr dropped ↦ (let f : true ≡ false = sym heard ∙ ap is_heard dropped in cc f)
      ]
    ]

answered : (c : goal.After-answer_of) → IfOk c.answer_of.result (λ a. IsAnswered (told c.args.self.now c.args.call) (option_map reply_view a))
answered c =
    let self = c.args.self.now in
    let t = told self c.args.call in
    let line = c.index-line.result.now in
    let was = line_at self c.args.call line (listening_within self c.args.call c.requires) c.index-line.ensures in
    IfOk-weaker c.answer_of.result _ (λ a. IsAnswered t (option_map reply_view a))
    (λ a answer. ∥∥₁_map self.read (λ are.
    answer t.bytes t.close (subst (λ r. HasRead r t) (sym c.deref.ensures) (reading_told self c.args.call line c.in-Heard.reading was c.in-Heard.is are))))
    c.answer_of.ensures

pub returns-clause-answered : goal.returns-clause-answered
returns-clause-answered c = answered c

pub returns-clause-spelled : goal.returns-clause-spelled
returns-clause-spelled c =
    let t = told c.args.self.now c.args.call in
    IfOk-weaker c.answer_of.result (λ a. IsAnswered t (option_map reply_view a)) (λ a. IfSome a (λ r. IsReply (reply_view r))) (answer_is_spelled c.answers_are_small.ensures t) (answered c)

pub returns-clause-short : goal.returns-clause-short
returns-clause-short c =
    let t = told c.args.self.now c.args.call in
    IfOk-weaker c.answer_of.result (λ a. IsAnswered t (option_map reply_view a)) (λ a. IfSome a (λ r. length (reply (reply_view r)) ≤ 2200000)) (answer_is_short c.answers_are_small.ensures t) (answered c)
