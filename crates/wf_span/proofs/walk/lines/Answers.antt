use Rattle.wf_span.proofs.Places.{lines_are_parts}
use Rattle.wf_span.proofs.Whole.{lines_count, lines_rise, lines_stand}
use Rattle.wf_span.proofs.walk.lines.Goals as goal

pub returns-clause-parts : goal.returns-clause-parts
returns-clause-parts c = lines_are_parts c.args.src.now

pub returns-clause-numbers : goal.returns-clause-numbers
returns-clause-numbers c = lines_count c.args.src.now

pub returns-clause-rising : goal.returns-clause-rising
returns-clause-rising c = lines_rise c.args.src.now

pub returns-clause-whole : goal.returns-clause-whole
returns-clause-whole c = lines_stand c.args.src.now
