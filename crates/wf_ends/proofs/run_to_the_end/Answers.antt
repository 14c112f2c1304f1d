use Rattle.wf_ends.proofs.Finishes as finishes
use Rattle.wf_ends.proofs.run_to_the_end.Goals as goal

pub returns-clause-finishes : goal.returns-clause-finishes
returns-clause-finishes g c = λ told. finishes.completes_finishes c.laws_of_pauses.ensures.idly _ (c.run_line.ensures.promised.completes told)

pub returns-clause-outcome : goal.returns-clause-outcome
returns-clause-outcome g c = finishes.ends_with_the_outcome c.laws_of_histories.ensures.computed c.laws_of_pauses.ensures.idly _ c.run_line.ensures.promised
