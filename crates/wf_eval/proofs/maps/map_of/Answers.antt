use Rattle.wf_value.specs.Data.{no_pairs, pairs_of}
use Rattle.wf_eval.specs.Answers.{put_all}
use Rattle.wf_eval.proofs.Filled.{popped}
use Rattle.wf_eval.proofs.maps.map_of.Goals as goal

pub loop-key-preserved : goal.loop-key-preserved
loop-key-preserved c = popped c.loop-key.pairs.items c.pop.new.self.items c.in-Some.key c.in-Some.value (pairs_of c.loop-key.made) (pairs_of c.put.new.m) (put_all c.args.pairs.items no_pairs) c.in-Some.ensures.items c.in_ok-put.ensures c.loop-key.invariant
