use Rattle.wf_engine.proofs.turns.choose_turn.Given as goal

-- a ledger of its own
abbrev pub ghosts-choose_from_blank : goal.ghosts-choose_from_blank
ghosts-choose_from_blank a = record { name = a.blank.name; parts = a.blank.parts }
