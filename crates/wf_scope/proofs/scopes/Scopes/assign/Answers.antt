use Rattle.wf_scope.proofs.scopes.Scopes.assign.Goals as goal

pub returns-else-renew-clause-apart : goal.returns-else-renew-clause-apart
returns-else-renew-clause-apart c = λ n out. c.assign_alone.ensures.apart n (c.renew.ensures.apart n out)
