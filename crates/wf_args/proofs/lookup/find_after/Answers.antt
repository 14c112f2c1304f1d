use Rattle.std.proofs.Common.{sym, ◌∙◌}
use Rattle.wf_args.proofs.Names.{few_words}
use Rattle.wf_args.proofs.lookup.find_after.Goals as goal

pub returns : goal.returns
returns c = sym (c.loop-rest.invariant ∙ few_words c.args.name.now c.loop-rest.rest.now c.in_default.len_below)
