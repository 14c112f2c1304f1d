use Rattle.machine_cases.proofs.machines.calls.Given as goal

-- a ledger of its own
abbrev pub ghosts-make_all : goal.ghosts-make_all
ghosts-make_all a = record { name = a.blank.name; parts = a.blank.parts }
