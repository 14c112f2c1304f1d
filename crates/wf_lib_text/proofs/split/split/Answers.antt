use Rattle.std.proofs.Common.{◌<◌, length, rules}
use Rattle.wf_lib_text.proofs.Pieces.{split_is}
use Rattle.wf_lib_text.proofs.Texts.{gives_same}
use Rattle.wf_lib_text.proofs.split.split.Goals as goal

pub returns : goal.returns
returns c =
    let some : 0 < length c.args.separator.now = search rules in
    gives_same c.sized.result _ _ (split_is c.args.separator.now c.args.s.now c.in_ok-parts.field-0 some c.in_ok-parts.ensures) c.sized.ensures
