use Rattle.std.proofs.Common.{◌∙◌, sym}
use Rattle.std.specs.Prelude.{option_copied}
use Rattle.wf_args.specs.Lines.{word_of}
use Rattle.wf_args.specs.Plain.{plain_line}
use Rattle.wf_args.specs.declared.option.OptionName.TheVariants.{Grep}
use Rattle.wf_cli.proofs.Readings.{logs_by, shows_by}
use Rattle.wf_cli.proofs.reporting.text_of_state.Goals as goal
use Rattle.wf_machine.specs.Seen.{state_of}

pub returns-in-Log : goal.returns-in-Log
returns-in-Log c =
    let l = plain_line c.args.line.now in
    logs_by l.command (word_of Grep l) (option_copied c.grep.result) (state_of c.args.machine.now).config c.log_lines.result (sym c.command.ensures.command ∙ c.in-Log.is) c.grep.ensures c.log_lines.ensures

pub returns-in_default : goal.returns-in_default
returns-in_default c =
    let l = plain_line c.args.line.now in
    shows_by l.command (word_of Grep l) (state_of c.args.machine.now).config c.id.result.now c.show.result (λ log. c.in_default.not-Log (c.command.ensures.command ∙ log)) c.id.ensures c.show.ensures
