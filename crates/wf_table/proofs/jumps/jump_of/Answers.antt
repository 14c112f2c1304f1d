use Rattle.std.proofs.Common.{Option, None, map, refl, sym, subst}
use Rattle.wf_table.proofs.jumps.jump_of.Goals as goal
use Rattle.wf_model.specs.NodeKinds.{node_view}
use Rattle.wf_model.specs.Spots.{owners_at, spots}
use Rattle.wf_model.specs.Table.{Leads, NextLeads}
use Rattle.wf_value.specs.Pairs.{Text}

pub returns-in-None : goal.returns-in-None
returns-in-None c = λ fs i made long finds is.
    subst (λ (o : Option Text). NextLeads (spots fs) (map node_view c.args.nodes.now) o None (owners_at (spots fs) i)) (sym c.in-None.is) refl

pub returns-in-Some : goal.returns-in-Some
returns-in-Some c = λ fs i made long finds is.
    subst (λ (o : Option Text). NextLeads (spots fs) (map node_view c.args.nodes.now) o c.jump_to.result (owners_at (spots fs) i)) (sym c.in-Some.is)
    (subst (λ (x : Text). Leads (spots fs) (map node_view c.args.nodes.now) x c.jump_to.result (owners_at (spots fs) i)) c.as_str.ensures (c.jump_to.ensures fs i made long finds is))
