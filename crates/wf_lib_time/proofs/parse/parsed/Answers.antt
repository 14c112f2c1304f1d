use Rattle.wf_lib_time.proofs.Ranges.{told_short}
use Rattle.wf_lib_time.proofs.parse.parsed.Goals as goal

pub returns-then-text-lt-CIVIL_LENGTH : goal.returns-then-text-lt-CIVIL_LENGTH
returns-then-text-lt-CIVIL_LENGTH c = told_short c.args.text.now c.if-text-lt-CIVIL_LENGTH.true
