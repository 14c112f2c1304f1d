use Rattle.std.proofs.Common.{[], ◌∷◌, subst}
use Rattle.wf_assigned.proofs.edges.Walk.passing.Goals as goal
use Rattle.wf_assigned.specs.Edges as edges
use Rattle.wf_assigned.specs.Laid.{Adds, site_of}
use Rattle.wf_lemmas.proofs.Results.{on_ok}

pub returns : goal.returns
returns c = on_ok c.writing.result (λ h around. subst (λ names. Adds c.args.self.now c.writing.new.self (edges.writing (site_of c.args.here around) c.args.from c.args.to names ∷ [])) c.new.ensures (h around)) c.writing.ensures
