-- All rows of a call together.
use Rattle.std.proofs.Common.{◌≡◌, ◌≤◌, ℕ, Result, ◌∙◌}
use Rattle.wf_cli.proofs.Completes.{completes}
use Rattle.wf_cli.proofs.Finish.{only_printed, ends, safe_throughout, safe_at_end, late_at_end, finished_stays, refused_stays, polls_within, reports_stay, silent_stays}
use Rattle.wf_cli.proofs.Rows.{bad_line_row, bad_argument_row, read_fault_row, refused_row, disk_fault_row, not_a_journal_row, already_started_row, not_started_row, not_a_history_row, suspended_row, outcome_row, done_row, telling_row, accepted_row, comes_back_row, print_fault_row, poll_fault_row}
use Rattle.wf_cli.specs.Promises.{Promised}
use Rattle.wf_cli.specs.Said.{IsEnd, Worked, PrintsSaid, Printing, text_of}
use Rattle.wf_cli.specs.Top.{Call, Ends}
use Rattle.wf_cli.specs.declared.end.Said.{Said}
use Rattle.wf_cli.specs.declared.end.Silence.{Silence}
use Rattle.wf_cli.proofs.Outsides.{in_some}
use Rattle.wf_deeds.specs.Rules.{DeedKeepsRules, EndKeepsRules}
use Rattle.wf_engine.specs.TheOutside.{InTheOutside}
use Rattle.wf_host.specs.Moments.{CountsNow}
use Rattle.wf_host.specs.World.{World, Faults, Told, NoneFell}
use Rattle.wf_source.specs.Laws.{OneRefusal, NotBoth}

-- from the work of the command and the printing of what it says
pub promised : (x : Call) (mid : World) (reads2 : ℕ) (faults2 : Faults) (r : Result Said Silence) → IsEnd x.scene x.old mid x.reads_old reads2 x.faults_old faults2 r → InTheOutside (λ O. Told x.old (Worked O x.scene x.old mid r))
    → PrintsSaid r mid x.new faults2 x.faults_new x.status → Told mid (Printing (text_of r) mid x.new) → mid.tells ≡ x.old.tells → reads2 ≤ x.reads_new → NoneFell x.faults_old faults2 → NoneFell faults2 x.faults_new
    → Told x.old (CountsNow mid) → Told x.old (CountsNow x.new) → Told x.old (x.new.may_leave x.new.seen) → DeedKeepsRules → EndKeepsRules → OneRefusal → NotBoth → Promised x
promised x mid reads2 faults2 r is worked tells printing same reads before after counts_mid counts_new reads_back deed end once apart =
    let all : Ends x = ends x mid reads2 faults2 same r is (λ told. (in_some (λ O. Told x.old (Worked O x.scene x.old mid r)) worked told).silently) tells (λ told. only_printed mid x.new (text_of r) (printing (same ∙ told))) reads before after in
    record {
      ends = all;
      bad_line = bad_line_row x all;
      bad_argument = bad_argument_row x all;
      read_fault = read_fault_row x all;
      refused = refused_row once apart x all;
      disk_fault = disk_fault_row x all;
      poll_fault = poll_fault_row x all;
      not_a_journal = λ told. not_a_journal_row x told all;
      already_started = λ told. already_started_row x told all;
      not_started = λ told. not_started_row x told all;
      not_a_history = λ told. not_a_history_row x told all;
      suspended = λ told. suspended_row x told all;
      outcome = λ told. outcome_row x told all;
      done = done_row x all;
      telling = λ told. telling_row x told all;
      accepted = accepted_row x all;
      comes_back = comes_back_row x all;
      print_fault = print_fault_row x all;
      completes = λ told. completes x told all;
      finished_stays = λ told. finished_stays x mid r (λ O. worked O told) (printing (same ∙ told)) (counts_mid told) (counts_new told) deed end;
      refused_stays = λ told. refused_stays x mid r (λ O. worked O told) (printing (same ∙ told)) (counts_mid told) (counts_new told) deed end;
      reports_stay = λ told. reports_stay x mid r (λ O. worked O told) (printing (same ∙ told)) (counts_mid told) (counts_new told) deed end;
      silent_stays = λ told. silent_stays x mid r (λ O. worked O told) (printing (same ∙ told)) (counts_mid told) (counts_new told) deed end x.reads_old reads2 x.faults_old faults2 x.faults_new is tells;
      polls_within = λ told. polls_within x mid r (λ O. worked O told) (printing (same ∙ told)) (counts_mid told) (counts_new told) deed end (reads_back told);
      safe = λ told. safe_throughout x mid r (λ O. worked O told) (printing (same ∙ told)) (counts_mid told) (counts_new told) deed end;
      safe_end = λ told. safe_at_end x mid r (λ O. worked O told) (printing (same ∙ told)) (counts_mid told) (counts_new told) deed end faults2 x.faults_new tells;
      late_end = λ told. late_at_end x mid r (λ O. worked O told) (printing (same ∙ told)) (counts_mid told) (counts_new told) deed end faults2 x.faults_new tells;
    }
