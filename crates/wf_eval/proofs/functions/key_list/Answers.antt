use Rattle.wf_eval.proofs.Entries.{key_step, further, keys_done}
use Rattle.wf_eval.proofs.functions.key_list.Goals as goal

pub loop-key-preserved : goal.loop-key-preserved
loop-key-preserved c = record {
  within = further c.args.m.now c.loop-key.i c.in_ok-i.i _ c.in-Some.ensures c.in_ok-i.ensures;
  keys = key_step c.args.m.now c.loop-key.i c.in_ok-i.i _ _ _ c.loop-key.list c.push.new.self c.in-Some.ensures c.in_ok-push.ensures c.in_ok-text.ensures c.in_ok-i.ensures c.loop-key.invariant.keys;
}

pub returns : goal.returns
returns c = keys_done c.args.m.now c.loop-key.i c.loop-key.list c.in_default.ensures c.loop-key.invariant.keys
