use Rattle.std.proofs.Common.{◌≡◌, ◌<◌, ◌%◌, ℕ, true, None, Option, Some, sym, ◌∙◌, subst, arith}
use Rattle.std.proofs.Math.Nat.{mod-le}
use Rattle.std.specs.Prelude.{IfNone}
use Rattle.wf_branches.specs.Seen.{table_of}
use Rattle.wf_branches.specs.Table.{status_in}
use Rattle.wf_check.specs.Seen.{program_of}
use Rattle.wf_machine.proofs.Choice.{made_some, none_is_chosen, one_is_chosen, ready_at, ready_awake, ready_found, ready_lives}
use Rattle.wf_machine.proofs.Good.{as_many, good_of, here_at, shows_it}
use Rattle.wf_machine.proofs.machine.Machine.next_ready.Goals as goal
use Rattle.wf_machine.specs.Ready.{IsChosen}
use Rattle.wf_machine.specs.Seen.{config_by}
use Rattle.wf_machine.specs.declared.choosing.Ready.{Ready}
use Rattle.wf_model.specs.Config.{Config}
use Rattle.wf_moves.specs.Waits.{is_awake_in}
use Rattle.wf_moves.specs.declared.task.Task.{Task}

pub nonzero_rem-from : goal.nonzero_rem-from
nonzero_rem-from c =
    let m = c.args.self.now in
    let some = made_some m (good_of m c.requires.whole c.requires.running) c.requires.running in
    omega (arith, some)

pub overflow_cast-from : goal.overflow_cast-from
overflow_cast-from c =
    let m = c.args.self.now in
    let most = m.most in
    let low = mod-le m.tally.moves c.from.result in
    omega (arith, most, low)

pub unreachable-requires : goal.unreachable-requires
unreachable-requires c =
    let m = c.args.self.now in
    let b = c.in_ok-task.task in
    let found = ready_found m c.from.result c.ready.result (Some b) (c.from.ensures ∙ c.made.ensures) c.ready.ensures c.in_ok-task.was in
    ready_lives m b (ready_at (table_of m.tasks).live (m.tally.moves % m.tasks.made) b (m.lone c.requires.whole) found)
    (subst (λ (o : Option ℕ). IfNone o (status_in (table_of m.tasks).live b ≡ None)) c.in_default.is c.place.ensures.none)

pub kind_at-requires-clause-within : goal.kind_at-requires-clause-within
kind_at-requires-clause-within c =
    let m = c.args.self.now in
    subst (λ (n : ℕ). c.in-Some.place < n) (as_many (program_of m.program) (table_of m.tasks).live m.moving.items (m.alike c.requires.whole)) c.in-Some.ensures.within

pub kind_at-requires-clause-awake : goal.kind_at-requires-clause-awake
kind_at-requires-clause-awake c = λ t is.
    let m = c.args.self.now in
    let b = c.in_ok-task.task in
    let good = good_of m c.requires.whole c.requires.running in
    let found = ready_found m c.from.result c.ready.result (Some b) (c.from.ensures ∙ c.made.ensures) c.ready.ensures c.in_ok-task.was in
    let at = here_at m good c.in-Some.place b c.in-Some.ensures.found in
    let both : Some at.task ≡ Some t = sym at.is ∙ is in
    let same : at.task ≡ t = cc both in
    subst (λ (u : Task). is_awake_in u.wait ≡ true) same
    (ready_awake m good c.in-Some.place b at (ready_at (table_of m.tasks).live (m.tally.moves % m.tasks.made) b good.lone found))

-- none is ready
pub returns-in_err-task-clause-chosen : goal.returns-in_err-task-clause-chosen
returns-in_err-task-clause-chosen c =
    let m = c.args.self.now in
    let none = ready_found m c.from.result c.ready.result None (c.from.ensures ∙ c.made.ensures) c.ready.ensures c.in_err-task.was in
    subst (λ (o : Option Ready). IsChosen (program_of m.program) (config_by m) o) (sym c.from_residual.ensures)
    (subst (λ (d : Config). IsChosen (program_of m.program) d None) (sym (shows_it m c.requires.whole))
    (none_is_chosen m (good_of m c.requires.whole c.requires.running) none))

-- one is
pub returns-clause-steps : goal.returns-clause-steps
returns-clause-steps c =
    let m = c.args.self.now in
    let b = c.in_ok-task.task in
    let good = good_of m c.requires.whole c.requires.running in
    let found = ready_found m c.from.result c.ready.result (Some b) (c.from.ensures ∙ c.made.ensures) c.ready.ensures c.in_ok-task.was in
    let at = here_at m good c.in-Some.place b c.in-Some.ensures.found in
    record {
      at = at;
      running = c.requires.running;
      awake = ready_awake m good c.in-Some.place b at (ready_at (table_of m.tasks).live (m.tally.moves % m.tasks.made) b good.lone found);
      wanted = sym (c.kind_at.ensures at.task at.is);
    }

pub returns-clause-chosen : goal.returns-clause-chosen
returns-clause-chosen c =
    let m = c.args.self.now in
    let b = c.in_ok-task.task in
    let good = good_of m c.requires.whole c.requires.running in
    let found = ready_found m c.from.result c.ready.result (Some b) (c.from.ensures ∙ c.made.ensures) c.ready.ensures c.in_ok-task.was in
    let at = here_at m good c.in-Some.place b c.in-Some.ensures.found in
    let n : Ready = record { place = c.in-Some.place; task = b; kind = c.kind_at.result } in
    subst (λ (d : Config). IsChosen (program_of m.program) d (Some n)) (sym (shows_it m c.requires.whole))
    (one_is_chosen m good n at (ready_at (table_of m.tasks).live (m.tally.moves % m.tasks.made) b good.lone found) (c.kind_at.ensures at.task at.is))
