use Rattle.wf_assigned.proofs.Stepping.{entry_there}
use Rattle.wf_assigned.proofs.edges.next_entry.Goals as goal

pub returns-then-index-entries : goal.returns-then-index-entries
returns-then-index-entries c = entry_there c.args.entries.now c.args.index c.args.number c.args.assign c.if-index-entries.true
