use Rattle.std.proofs.Common.{◌≡◌, ◌∙◌, Ok, arith, sym}
use Rattle.wf_lemmas.proofs.Results.{passed_on}
use Rattle.wf_machine.specs.Seen.{state_of}
use Rattle.wf_machine.specs.declared.ApplyFault.TheVariants as fault
use Rattle.wf_model.proofs.After.{nowhere_is_no_config}
use Rattle.wf_replay.proofs.Applying.{none_comes, one_event, one_made, some_made}
use Rattle.wf_replay.proofs.replaying.apply_some.Goals as goal
use Rattle.wf_value.specs.Events.{Move}

pub returns-then-moves-gt0-clause-applied : goal.returns-then-moves-gt0-clause-applied
returns-then-moves-gt0-clause-applied g c = (
  c.if-moves-gt0.true,
  c.in-Ok.ensures.most,
  some_made (state_of c.args.machine.now) (state_of c.apply_moves.new.self) c.last_reading-reading.result c.in-Ok.moves c.args.steps.now c.apply_moves.new.steps c.in-Ok.ensures.moves,
)

pub returns-clause-applied : goal.returns-clause-applied
returns-clause-applied g c =
    let none : c.in-Ok.moves ≡ 0 = omega (arith, c.if-moves-gt0.false) in
    let mid = state_of c.apply_moves.new.self in (
      omega arith,
      omega (arith, c.requires.some),
      one_made (state_of c.args.machine.now) mid c.last_reading-reading.result c.in-Ok.moves c.args.steps.now c.apply_moves.new.steps none c.in-Ok.ensures.moves (state_of c.apply.new.self) c.apply.new.steps
          (one_event mid (state_of c.apply.new.self) (Move 0) c.apply_moves.new.steps c.apply.new.steps (Ok tt) c.in_ok-apply.ensures),
    )

pub returns-in_err-apply-clause-not_enabled : goal.returns-in_err-apply-clause-not_enabled
returns-in_err-apply-clause-not_enabled g c = λ is.
    let none : c.in-Ok.moves ≡ 0 = omega (arith, c.if-moves-gt0.false) in
    none_comes (state_of c.args.machine.now) (state_of c.apply_moves.new.self) c.last_reading-reading.result c.in-Ok.moves c.args.steps.now c.apply_moves.new.steps none c.in-Ok.ensures.moves
    (λ d comes. nowhere_is_no_config d (sym (c.in_err-apply.ensures.not_enabled (passed_on c.from_residual.result c.in_err-apply.field-0.0 fault.NotEnabled c.from_residual.ensures is)) ∙ comes))
