use Rattle.wf_args.proofs.Words.{envs_are_spelled, numbers_are_spelled, routes_are_spelled, turns_are_spelled}
use Rattle.wf_args.proofs.laws.words_are_spelled.Goals as goal

pub returns-clause-numbers : goal.returns-clause-numbers
returns-clause-numbers c = numbers_are_spelled

pub returns-clause-turns : goal.returns-clause-turns
returns-clause-turns c = turns_are_spelled

pub returns-clause-routes : goal.returns-clause-routes
returns-clause-routes c = routes_are_spelled

pub returns-clause-envs : goal.returns-clause-envs
returns-clause-envs c = envs_are_spelled
