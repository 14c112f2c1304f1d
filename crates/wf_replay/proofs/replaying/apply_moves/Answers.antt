use Rattle.std.proofs.Common.{rules, refl, ◌≡◌, ◌-◌, ◌∷◌, [], ◌∙◌, ap, arith, length, replicate, sym}
use Rattle.std.proofs.lemmas.List.{length-replicate}
use Rattle.wf_lemmas.proofs.Results.{passed_on}
use Rattle.wf_machine.specs.declared.ApplyFault.TheVariants as fault
use Rattle.wf_replay.proofs.Events.{ends, leads, never, never_past, past, some_moves}
use Rattle.wf_replay.proofs.replaying.apply_moves.Goals as goal
use Rattle.wf_value.specs.Events.{Move}

pub returns-in_err-moves : goal.returns-in_err-moves
returns-in_err-moves g c =
    let m = c.loop-left.machine in
    let left = c.loop-left.left in
    let all = replicate c.args.count (Move 0) in
    record {
      applied = search rules;
      whole = search rules;
      program = search rules;
      steps = search rules;
      not_enabled = λ is.
          never c.args.machine.now m all (replicate left (Move 0)) all refl c.loop-left.invariant.0 (λ d leads_to.
          never_past m (Move 0 ∷ []) (replicate (left - 1) (Move 0)) (c.in_err-moves.ensures.not_enabled (passed_on c.from_residual.result c.in_err-moves.field-0.0 fault.NotEnabled c.from_residual.ensures is)) d
          (ap (λ l. leads m l) (sym (some_moves left 1 (omega (arith, c.loop-left-test.true)))) ∙ leads_to));
    }

pub loop-left-preserved : goal.loop-left-preserved
loop-left-preserved g c =
    let m = c.loop-left.machine in
    let left = c.loop-left.left in
    let n = c.in_ok-moves.moves in
    let did = c.in_ok-moves.ensures.applied.2 in (
      c.loop-left.invariant.0 ∙ ap (λ l. leads m l) (some_moves left n c.in_ok-moves.ensures.applied.1) ∙ past m c.apply_some.new.machine (replicate n (Move 0)) (replicate (left - n) (Move 0)) did.applied did.program,
      did.program ∙ c.loop-left.invariant.1,
      did.whole,
      omega (arith, did.steps, c.loop-left.invariant.3, c.in_ok-moves.ensures.applied.1, length-replicate n (Move 0)),
    )

pub returns : goal.returns
returns g c =
    let all = replicate c.args.count (Move 0) in
    let none : c.loop-left.left ≡ 0 = omega (arith, c.loop-left-test.false) in
    record {
      applied = ends c.args.machine.now c.loop-left.machine all (replicate c.loop-left.left (Move 0)) all refl (ap (λ k. replicate k (Move 0)) none) c.loop-left.invariant.0;
      whole = c.loop-left.invariant.2;
      program = c.loop-left.invariant.1;
      steps = omega (arith, c.loop-left.invariant.3, none, length-replicate c.args.count (Move 0));
      not_enabled = search rules;
    }
