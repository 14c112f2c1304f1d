-- The check carries the examples out.
use Rattle.std.specs.Prelude.{refl}
use Rattle.wf_value.proofs.OnLiterals.{on_literals}
use Rattle.wf_deeds.proofs.outside_laws.worked_verdicts.Goals as goal

pub returns-clause-strange : goal.returns-clause-strange
unfolding on_literals
returns-clause-strange c = refl

pub returns-clause-query : goal.returns-clause-query
unfolding on_literals
returns-clause-query c = refl

pub returns-clause-nameless : goal.returns-clause-nameless
unfolding on_literals
returns-clause-nameless c = refl

pub returns-clause-other : goal.returns-clause-other
unfolding on_literals
returns-clause-other c = refl

pub returns-clause-full : goal.returns-clause-full
unfolding on_literals
returns-clause-full c = refl

pub returns-clause-body : goal.returns-clause-body
unfolding on_literals
returns-clause-body c = refl

pub returns-clause-arrives : goal.returns-clause-arrives
unfolding on_literals
returns-clause-arrives c = refl
