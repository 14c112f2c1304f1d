use Rattle.std.proofs.Common.{◌≡◌, ◌+◌, ◌∙◌, ap, rules, sym}
use Rattle.std.specs.Option.{option_map}
use Rattle.std.specs.Prelude.{option_copied, string_bytes}
use Rattle.wf_machine.specs.Log.{entry_by}
use Rattle.wf_machine.specs.Seen.{state_of}
use Rattle.wf_report.proofs.Lines.{all_lines, fewer_left, line_more}
use Rattle.wf_report.proofs.log.log_lines.Goals as goal
use Rattle.wf_value.specs.Plain.{plain}

pub loop-entry-preserved : goal.loop-entry-preserved
loop-entry-preserved c =
    let e = c.in-Some.entry in
    let one : c.in-Some-checked_add.next ≡ c.loop-entry.index + 1 = search rules in
    line_more (option_copied c.args.grep) (state_of c.args.machine.now).config.log c.loop-entry.index c.in-Some-checked_add.next (entry_by e.0 e.1 (plain e.2.now)) (string_bytes c.loop-entry.text) (string_bytes c.add_line.new.text) one c.loop-entry.invariant (sym c.in-Some.ensures.entry) c.in_ok-add_line.ensures

pub loop-entry-smaller : goal.loop-entry-smaller
loop-entry-smaller c =
    let e = c.in-Some.entry in
    let one : c.in-Some-checked_add.next ≡ c.loop-entry.index + 1 = search rules in
    fewer_left (state_of c.args.machine.now).config.log c.loop-entry.index c.in-Some-checked_add.next (entry_by e.0 e.1 (plain e.2.now)) one (sym c.in-Some.ensures.entry)

pub returns : goal.returns
returns c =
    all_lines (option_copied c.args.grep) (state_of c.args.machine.now).config.log c.loop-entry.index (string_bytes c.loop-entry.text) c.loop-entry.invariant (sym (sym (ap (option_map (λ e. entry_by e.0 e.1 (plain e.2.now))) c.in_default.is) ∙ c.log.ensures.entry))
