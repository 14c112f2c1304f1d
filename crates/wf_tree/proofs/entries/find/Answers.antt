use Rattle.std.proofs.Common.{sym}
use Rattle.wf_value.proofs.Seeks.{found_value, missing_value}
use Rattle.wf_tree.proofs.entries.find.Goals as goal

pub returns-in-Ok : goal.returns-in-Ok
returns-in-Ok c = sym (found_value c.args.pairs.now c.args.key.now c.in-Ok.i c.index-pairs-i.result c.in-Ok.ensures.place)

pub returns-in-Err : goal.returns-in-Err
returns-in-Err c = sym (missing_value c.args.pairs.now c.args.key.now c.in-Err.field-0 c.requires c.in-Err.ensures.place)
