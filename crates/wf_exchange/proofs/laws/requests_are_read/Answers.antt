use Rattle.wf_exchange.proofs.Reading.{request_is_read}
use Rattle.wf_exchange.proofs.Urls.{goals_are_sent}
use Rattle.wf_exchange.proofs.Whole.{no_front_is_whole}
use Rattle.wf_exchange.proofs.laws.requests_are_read.Goals as goal

pub returns-clause-read : goal.returns-clause-read
returns-clause-read c = request_is_read

pub returns-clause-whole : goal.returns-clause-whole
returns-clause-whole c = no_front_is_whole

pub returns-clause-goals : goal.returns-clause-goals
returns-clause-goals c = goals_are_sent
