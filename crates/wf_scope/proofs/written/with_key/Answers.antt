use Rattle.wf_scope.proofs.Writing.{key_put}
use Rattle.wf_scope.proofs.written.with_key.Goals as goal

pub returns : goal.returns
returns c = key_put c.args.value.now c.in-Ok-Ok.changed c.in-Map.pairs c.insert.new.self c.in-Ok-Ok.name c.args.name.now c.args.new c.in-Ok-Ok.ensures' c.in-Map.is c.in-Ok-Ok.ensures c.in-Ok.ensures.after
