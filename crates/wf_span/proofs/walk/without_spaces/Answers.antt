use Rattle.std.proofs.Common.{None, arith}
use Rattle.std.proofs.lemmas.Str.Pattern.{strip_prefix_char}
use Rattle.wf_span.proofs.Ends.{no_space, behind_none}
use Rattle.wf_span.proofs.walk.without_spaces.Goals as goal

pub returns-in-None-clause-rest : goal.returns-in-None-clause-rest
returns-in-None-clause-rest c = behind_none _ _ (strip_prefix_char 32 c.skip.rest.now None c.in-None.ensures.cases (omega arith)) c.skip.invariant.1

pub returns-in-None-clause-len : goal.returns-in-None-clause-len
returns-in-None-clause-len c = let h = no_space c.skip.rest.now (strip_prefix_char 32 c.skip.rest.now None c.in-None.ensures.cases (omega arith)) in omega (arith, c.skip.invariant.2, h)
