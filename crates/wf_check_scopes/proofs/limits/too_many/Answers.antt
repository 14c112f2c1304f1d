use Rattle.wf_check_scopes.proofs.Most.{few_of}
use Rattle.wf_check_scopes.proofs.limits.too_many.Goals as goal

pub returns-clause-few : goal.returns-clause-few
returns-clause-few c = few_of c.speak.result c.args.number c.speak.ensures
