use Rattle.wf_lib_data.proofs.Giving.{concat_gives}
use Rattle.wf_lib_data.proofs.lists.list_concat.Goals as goal

pub returns : goal.returns
returns c = concat_gives c.sized.result c.args.objs.now c.in_ok-longer.longer c.args.val.now c.in_ok-last.last c.in-List.items c.push.new.self c.in_ok-longer.ensures c.in-List.is c.in_ok-last.ensures c.in_ok-push-in-List.ensures c.sized.ensures
