use Rattle.wf_lib_data.proofs.Giving.{lent_at}
use Rattle.wf_lib_data.proofs.lookups.at_key.Goals as goal

pub returns-in-Map : goal.returns-in-Map
returns-in-Map c = lent_at c.get.result c.args.value c.in_ok-map.field-0 c.in-Map.map c.args.key.now c.in_ok-map.was c.in-Map.is c.get.ensures.value
