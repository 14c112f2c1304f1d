use Rattle.wf_eval.proofs.Entries.{map_counted, list_counted}
use Rattle.wf_eval.proofs.functions.len.Goals as goal

pub returns-in-List : goal.returns-in-List
returns-in-List c = list_counted c.counted-in-List.result c.args.v.now c.in-List.l c.items.result.now c.in-List.is c.items.ensures c.counted-in-List.ensures

pub returns-in_ok-pair_count-in-Map : goal.returns-in_ok-pair_count-in-Map
returns-in_ok-pair_count-in-Map c = map_counted c.counted-in-Map.result c.args.v.now c.in-Map.m c.in_ok-pair_count-in-Map.field-0 c.in-Map.is c.in_ok-pair_count-in-Map.ensures c.counted-in-Map.ensures
