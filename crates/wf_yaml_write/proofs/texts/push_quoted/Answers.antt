use Rattle.wf_yaml_write.proofs.Escapes.{escaped_next}
use Rattle.wf_yaml_write.proofs.texts.push_quoted.Goals as goal

pub loop-c-preserved : goal.loop-c-preserved
loop-c-preserved c = escaped_next _ _ _ _ _ c.in-Some.c c.loop-c.invariant c.in-Some.ensures.steps.0 c.in_ok-push_escaped.ensures
