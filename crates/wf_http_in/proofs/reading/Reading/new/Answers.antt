use Rattle.std.proofs.Common.{refl, rules}
use Rattle.wf_http_in.proofs.Coming.{fresh}
use Rattle.wf_http_in.proofs.reading.Reading.new.Goals as goal

pub returns : goal.returns
returns c = record { stage = fresh _ _ _ (search rules) (search rules) c.new-2.ensures; close_is = refl; little = tt }
