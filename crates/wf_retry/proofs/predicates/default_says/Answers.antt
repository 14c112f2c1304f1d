use Rattle.wf_retry.proofs.Held.{pair_list-pairs_of}
use Rattle.wf_retry.proofs.predicates.default_says.Goals as goal

pub returns-in-Idempotent : goal.returns-in-Idempotent
returns-in-Idempotent c = rw (c.in-Map.is, c.in-Idempotent.is, pair_list-pairs_of) c.may_pass.ensures

pub returns-in-NonIdempotent : goal.returns-in-NonIdempotent
returns-in-NonIdempotent c = rw (c.in-Map.is, c.in-NonIdempotent.is, pair_list-pairs_of) c.has_code.ensures
