use Rattle.wf_cli.proofs.reporting.report.Given as goal

-- a ledger of its own
abbrev pub ghosts-report_from_blank : goal.ghosts-report_from_blank
ghosts-report_from_blank g a = record { name = a.blank.name; parts = a.blank.parts }
