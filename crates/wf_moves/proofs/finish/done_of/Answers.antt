use Rattle.std.proofs.Common.{subst}
use Rattle.wf_moves.specs.Moved.{IsLeft, IsMove}
use Rattle.wf_moves.proofs.finish.done_of.Goals as goal

pub returns-in-Goes-clause-moved : goal.returns-in-Goes-clause-moved
returns-in-Goes-clause-moved c a s m l h = subst (λ w. IsMove s m w l) c.in-Goes.is h

pub returns-in-Goes-clause-left : goal.returns-in-Goes-clause-left
returns-in-Goes-clause-left c nodes fs h = subst (λ w. IsLeft nodes w fs) c.in-Goes.is h

pub returns-in-Ends-clause-moved : goal.returns-in-Ends-clause-moved
returns-in-Ends-clause-moved c a s m l h = subst (λ w. IsMove s m w l) c.in-Ends.is h

pub returns-in-Ends-clause-left : goal.returns-in-Ends-clause-left
returns-in-Ends-clause-left c nodes fs h = subst (λ w. IsLeft nodes w fs) c.in-Ends.is h

pub returns-in-Turned-clause-moved : goal.returns-in-Turned-clause-moved
returns-in-Turned-clause-moved c a s m l h = subst (λ w. IsMove s m w l) c.in-Turned.is h

pub returns-in-Turned-clause-left : goal.returns-in-Turned-clause-left
returns-in-Turned-clause-left c nodes fs h = subst (λ w. IsLeft nodes w fs) c.in-Turned.is h
