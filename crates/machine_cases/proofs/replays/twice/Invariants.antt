use Rattle.machine_cases.proofs.replays.twice.Given as goal

-- a ledger of its own
abbrev pub ghosts-replay_twice : goal.ghosts-replay_twice
ghosts-replay_twice a = record { name = a.blank.name; parts = a.blank.parts }
