use Rattle.std.proofs.Common.{◌≡◌, ◌<◌, length, rules, sym, ap, ◌∙◌, subst}
use Rattle.std.proofs.lemmas.Option.{get_or_from_slice_get}
use Rattle.wf_branches.specs.Seen.{table_of}
use Rattle.wf_check.specs.Seen.{program_of}
use Rattle.wf_machine.proofs.Answering.{dues_at}
use Rattle.wf_machine.proofs.Good.{as_many, good_of, here_at}
use Rattle.wf_machine.proofs.Moves.{not_running, runs}
use Rattle.wf_machine.proofs.Places.{dues_gone, dues_not}
use Rattle.wf_machine.proofs.machine.Machine.due_place.Goals as goal
use Rattle.wf_machine.specs.Seen.{shown, wait_by}
use Rattle.wf_model.specs.Ready.{due_of, is_by}
use Rattle.wf_moves.specs.declared.task.Task.{Task}

-- as many tasks stand beside the table as in it
pub index-requires : goal.index-requires
index-requires c =
    let m = c.args.self.now in
    let within : c.in_ok-place.place < length m.moving.items = subst (λ n. c.in_ok-place.place < n) (as_many (program_of m.program) (table_of m.tasks).live m.moving.items (m.alike c.requires)) c.in_ok-place.ensures.within in
    search (rules, within)

pub returns-then-is_by-clause-some : goal.returns-then-is_by-clause-some
returns-then-is_by-clause-some c =
    let m = c.args.self.now in
    let run = runs m.ending (sym c.is_running.ensures ∙ c.if-not-is_running.false) in
    dues_at m (good_of m c.requires run) run c.in_ok-place.place c.args.task c.args.reading c.in_ok-place.ensures.found c.index.result.now c.index.ensures c.due_of.result c.due_of.ensures (sym c.is_by.ensures ∙ c.if-is_by.true)

-- the execution has ended
pub returns-then-not-is_running-clause-none : goal.returns-then-not-is_running-clause-none
returns-then-not-is_running-clause-none c = λ none i at run. absurd (not_running c.args.self.now.ending (sym c.is_running.ensures ∙ c.if-not-is_running.true) run)

-- no task of this number lives
pub returns-in_err-place-clause-none : goal.returns-in_err-place-clause-none
returns-in_err-place-clause-none c = λ none. dues_gone c.args.self.now c.args.task c.args.reading c.in_err-place.ensures.none

-- it waits for what is due later, or for nothing that is
pub returns-else-is_by-clause-none : goal.returns-else-is_by-clause-none
returns-else-is_by-clause-none c = λ none.
    let m = c.args.self.now in
    let run = runs m.ending (sym c.is_running.ensures ∙ c.if-not-is_running.false) in
    let good = good_of m c.requires run in
    let at = here_at m good c.in_ok-place.place c.args.task c.in_ok-place.ensures.found in
    let same : c.index.result.now ≡ at.task = c.index.ensures ∙ get_or_from_slice_get m.moving.items c.in_ok-place.place at.task c.index.result.now at.is in
    dues_not m good c.in_ok-place.place c.args.task c.args.reading at
    (sym (ap (λ (t : Task). is_by c.args.reading (due_of (shown m) (wait_by m t))) same) ∙ ap (is_by c.args.reading) (sym c.due_of.ensures) ∙ sym c.is_by.ensures ∙ c.if-is_by.false)
