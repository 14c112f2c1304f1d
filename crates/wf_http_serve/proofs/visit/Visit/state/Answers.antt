use Rattle.std.proofs.Common.{List, ℕ, subst, sym}
use Rattle.wf_http_serve.specs.Visits.{VisitOf, Asks}
use Rattle.wf_http_serve.proofs.Coming.{is_asked, is_bad, is_cut, is_not_yet, is_too_large}
use Rattle.wf_http_serve.proofs.visit.Visit.state.Goals as goal

pub returns-then-self : goal.returns-then-self
returns-then-self c = λ heard close h. is_cut _ _ _ _ heard close _ c.if-self.true h.close_is c.in-Head.is h.stage

pub returns-else-self : goal.returns-else-self
returns-else-self c = λ heard close h. is_not_yet _ _ _ _ heard close _ c.if-self.false h.close_is c.in-Head.is h.stage

pub returns-in-Asked : goal.returns-in-Asked
returns-in-Asked c = λ heard close h.
    let r = c.in-Asked.request in
    subst (λ (b : List ℕ). VisitOf heard close (Asks r.method r.target r.fields b)) (sym c.as_slice.ensures.value) (is_asked _ r _ _ _ heard close c.in-Asked.is h.stage)

pub returns-in-Bad : goal.returns-in-Bad
returns-in-Bad c = λ heard close h. is_bad _ _ _ _ heard close c.in-Bad.is h.stage

pub returns-in-TooLarge : goal.returns-in-TooLarge
returns-in-TooLarge c = λ heard close h. is_too_large _ _ _ _ heard close c.in-TooLarge.is h.stage
