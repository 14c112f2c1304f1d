use Rattle.wf_wants.proofs.wants.node_kind.Given as goal

abbrev pub ghost-first_kind : goal.ghost-first_kind
ghost-first_kind g a = g.ns

abbrev pub ghost-are_arms : goal.ghost-are_arms
ghost-are_arms g a = g.ns
