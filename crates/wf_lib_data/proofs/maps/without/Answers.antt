use Rattle.wf_lib_data.proofs.Giving.{delete_gives, no_key}
use Rattle.wf_lib_data.proofs.maps.without.Goals as goal

pub returns-in-None : goal.returns-in-None
returns-in-None c = no_key c.args.map.now c.in_ok-rest.rest c.in-Map.pairs c.args.key.now c.in_ok-remove-in-Map.field-0 c.in_ok-rest.ensures c.in-Map.is c.in-None.is c.in_ok-remove-in-Map.ensures.old

pub returns : goal.returns
returns c = delete_gives c.sized.result c.args.map.now c.in_ok-rest.rest c.in-Map.pairs c.remove.new.self c.args.key.now c.in_ok-remove-in-Map.field-0 c.in-Some.field-0 c.in_ok-rest.ensures c.in-Map.is c.in_ok-remove-in-Map.ensures.after c.in-Some.is c.in_ok-remove-in-Map.ensures.old c.sized.ensures
