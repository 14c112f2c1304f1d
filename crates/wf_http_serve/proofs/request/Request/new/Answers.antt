use Rattle.std.proofs.Common.{subst, sym, ◌∙◌}
use Rattle.std.specs.Prelude.{IsUtf8}
use Rattle.wf_http_serve.proofs.Targets.{token_text}
use Rattle.wf_http_serve.proofs.request.Request.new.Goals as goal

pub text_of-requires : goal.text_of-requires
text_of-requires c =
    let head = c.requires.head in
    subst IsUtf8 (sym (c.of.ensures ∙ head.1.method)) (token_text head.0.method head.1.reads.0.method)
