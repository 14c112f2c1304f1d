use Rattle.std.proofs.Common.{[], ◌∷◌, sym, ap, ◌∙◌}
use Rattle.wf_assigned.proofs.Laying.{of_these}
use Rattle.wf_assigned.proofs.edges.Walk.retrying.Goals as goal
use Rattle.wf_assigned.specs.Edges.{At, FailOf, passing, retrying}
use Rattle.wf_assigned.specs.Laid.{site_of}
use Rattle.wf_ast.specs.View.{policy_option_view}
use Rattle.wf_lemmas.proofs.Results.{on_ok}

pub returns-in_ok-body-in-Some : goal.returns-in_ok-body-in-Some
returns-in_ok-body-in-Some c = on_ok c.passing.result (λ h around.
    let a = site_of c.args.here around in
    of_these c.args.self.now c.passing.new.self _ _ (ap (λ n. passing a (FailOf c.args.number) (At n) ∷ []) c.in_ok-body-in-Some.ensures ∙ ap (λ o. retrying (policy_option_view o) c.args.number a) (sym c.in-Some.is)) (h around)) c.passing.ensures
