use Rattle.std.proofs.Common.{sym, ap, ◌∙◌}
use Rattle.wf_http_in.specs.View.{close_view}
use Rattle.wf_http_in.proofs.Coming.{body_little, body_read}
use Rattle.wf_http_in.proofs.reading.Reading.hear_body.Goals as goal

pub returns : goal.returns
returns c = λ heard close h.
    let r = c.args.self.now in
    record {
      stage = body_read r.stage _ c.requires.0 c.args.framing heard r.unread.items _ r.content.items c.args.piece.now c.read_body.new.content.items _ r.chunks c.read_body.new.chunks _ c.in_ok-end.end
          c.requires.1 h.stage c.in_ok-end.ensures.read c.settle.ensures.stage c.settle.ensures.left;
      close_is = h.close_is ∙ ap close_view (sym c.settle.ensures.close);
      little = c.settle.ensures.little (body_little r.stage _ c.args.framing r.unread.items r.content.items c.read_body.new.content.items r.chunks c.read_body.new.chunks
          c.requires.1 c.read_body.ensures.chunks h.little);
    }
