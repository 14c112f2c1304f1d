use Rattle.wf_wants.proofs.wants.first_kind.Given as goal

abbrev pub ghost-is_entry_at : goal.ghost-is_entry_at
ghost-is_entry_at g a = g.ns
