use Rattle.wf_lib_time.proofs.Forms.{two_value}
use Rattle.wf_lib_time.proofs.form.two_digits.Goals as goal

pub returns-clause-value : goal.returns-clause-value
returns-clause-value c = (two_value c.args.text.now c.args.at c.requires).4
