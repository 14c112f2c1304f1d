use Rattle.machine_cases.proofs.engines.make_session.Given as goal

-- a ledger of its own
abbrev pub ghosts-reopened : goal.ghosts-reopened
ghosts-reopened a = record { name = a.blank.name; parts = a.blank.parts }
