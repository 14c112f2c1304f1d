use Rattle.std.proofs.Common.{◌∙◌, IsUtf8, subst, sym}
use Rattle.wf_http_value.proofs.Naming.{proper_is_text}
use Rattle.wf_http_value.proofs.names.proper_name.Goals as goal

pub unreachable-requires : goal.unreachable-requires
unreachable-requires c =
    c.in-Err.ensures.cases.0 (subst IsUtf8 (sym (c.as_slice.ensures.value ∙ c.in_ok-bytes.ensures)) (proper_is_text c.as_bytes.result.now c.as_bytes.ensures.utf8))
