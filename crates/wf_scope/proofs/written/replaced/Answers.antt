use Rattle.wf_scope.proofs.Writing.{replaced_is}
use Rattle.wf_scope.proofs.written.replaced.Goals as goal

pub returns : goal.returns
returns c =
    replaced_is c.args.items.now c.split_at.result.0.now c.split_at-2.result.1.now c.args.place c.args.new c.in_ok-list.list c.append.new.list c.push.new.self c.append-2.new.list c.requires c.split_at.ensures.front c.split_at-2.ensures.back c.in_ok-list.ensures c.in_ok-append.ensures c.in_ok-push.ensures c.in_ok-append-2.ensures
