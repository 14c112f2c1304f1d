use Rattle.std.proofs.Common.{sym, ap, ◌∙◌}
use Rattle.wf_http_serve.specs.Plain.{close_of}
use Rattle.wf_http_serve.proofs.Coming.{body_little, body_read}
use Rattle.wf_http_serve.proofs.visit.Visit.hear_body.Goals as goal

pub returns : goal.returns
returns c = λ heard close h.
    let v = c.args.self.now in
    record {
      stage = body_read v.stage _ c.requires.0 c.args.framing heard v.unread.items _ v.content.items c.args.piece.now c.read_body.new.content.items _ v.chunks c.read_body.new.chunks _ c.in_ok-end.end
          c.requires.1 h.stage c.in_ok-end.ensures.read c.settle.ensures.stage c.settle.ensures.left;
      close_is = h.close_is ∙ ap close_of (sym c.settle.ensures.ended);
      little = c.settle.ensures.little (body_little v.stage _ c.args.framing v.unread.items v.content.items c.read_body.new.content.items v.chunks c.read_body.new.chunks
          c.requires.1 c.read_body.ensures.chunks h.little);
    }
