use Rattle.wf_cli.proofs.execution.resume.Given as goal

-- a ledger of its own
abbrev pub ghosts-resume_from_blank : goal.ghosts-resume_from_blank
ghosts-resume_from_blank g a = record { name = a.blank.name; parts = a.blank.parts }
