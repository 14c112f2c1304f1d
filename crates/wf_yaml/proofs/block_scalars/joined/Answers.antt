use Rattle.std.proofs.Common.{◌++◌, sym, ◌∙◌}
use Rattle.std.proofs.lemmas.List.{at_drop_all, append-nil}
use Rattle.wf_yaml.specs.Views.{see_all}
use Rattle.wf_yaml.proofs.Weaving.{woven, woven_all}
use Rattle.wf_yaml.proofs.block_scalars.joined.Goals as goal

pub returns : goal.returns
returns c =
    let left = at_drop_all (λ rs. c.loop-row.text.items ++ woven c.args.folded c.args.indent c.loop-row.begun c.loop-row.ends (see_all rs)) c.args.rows.now c.loop-row.row-index c.loop-row-test.false in
    sym (append-nil c.loop-row.text.items) ∙ sym left ∙ c.loop-row.invariant.0 ∙ woven_all c.args.folded c.args.indent (see_all c.args.rows.now)
