use Rattle.std.proofs.Common.{ℕ, ap, arith, drop, inl, refl, subst, sym, ◌∙◌}
use Rattle.wf_http_body.specs.Parts.{IsFresh}
use Rattle.wf_http_serve.specs.declared.stage.Stage.{Stage}
use Rattle.wf_http_serve.specs.declared.stage.Stage.TheVariants as stage
use Rattle.wf_http_serve.specs.Stages.{IsStage}
use Rattle.wf_http_serve.proofs.Coming.{head_bad, head_read, refused_little}
use Rattle.wf_http_serve.proofs.visit.Visit.read_head.Goals as goal

pub returns-in-Bad-clause-read : goal.returns-in-Bad-clause-read
returns-in-Bad-clause-read c = λ heard at.
    let v = c.args.self.now in
    let at_head = subst (λ (s : Stage). IsStage s v.unread.items v.chunks v.content.items heard) c.requires at in (
      head_bad _ c.in_ok-find_head.field-0 heard v.unread.items c.args.piece.now c.find_head.new.heard.items _ v.content.items _ v.chunks _ at_head c.in-Bad.is c.in_ok-find_head.ensures.found
          c.refuse.ensures.stage,
      refused_little stage.Bad _ _ _ _ c.refuse.ensures.stage (inl refl) c.refuse.ensures.unread c.refuse.ensures.chunks c.refuse.ensures.content,
    )

pub returns-in_ok-end-in-Whole-clause-read : goal.returns-in_ok-end-in-Whole-clause-read
returns-in_ok-end-in-Whole-clause-read c = λ heard at.
    let v = c.args.self.now in
    let at_head = subst (λ (s : Stage). IsStage s v.unread.items v.chunks v.content.items heard) c.requires at in
    let rest_is = c.split_at.ensures.back ∙ ap (λ (k : ℕ). drop k c.args.piece.now) (omega arith) in (
      head_read _ c.in_ok-find_head.field-0 c.in-Whole.request c.in-Whole.framing c.in-Whole.len heard v.unread.items c.args.piece.now c.find_head.new.heard.items c.split_at.result.1.now _
          v.content.items c.read_body.new.content.items _ v.chunks c.read_body.new.chunks _ c.in_ok-end-in-Whole.end at_head c.in-Whole.is c.in_ok-find_head.ensures.found rest_is c.in_ok-end-in-Whole.ensures.read
          c.settle.ensures.stage c.settle.ensures.left,
      c.settle.ensures.little (c.new.ensures.items, λ other. subst IsFresh (sym (c.in_ok-end-in-Whole.ensures.chunks other)) at_head.2),
    )
