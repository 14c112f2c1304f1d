use Rattle.std.proofs.Common.{◌≡◌, Some, sym, ap, ◌∙◌, subst}
use Rattle.wf_check.specs.Seen.{nodes_of, program_of}
use Rattle.wf_frames.specs.Kinds.{AreWants}
use Rattle.wf_machine.proofs.Good.{fit, good_of, place_at, stands_now, tells_of, there_at}
use Rattle.wf_machine.proofs.machine.Machine.kind_at.Goals as goal
use Rattle.wf_machine.specs.Main.{task_control}
use Rattle.wf_model.specs.Kinds.{next_kind}
use Rattle.wf_model.specs.Spots.{spots}
use Rattle.wf_moves.specs.declared.task.Task.{Task}

pub kind_of-requires : goal.kind_of-requires
kind_of-requires c =
    let m = c.args.self.now in
    let good = good_of m c.requires.whole c.requires.running in
    let there = there_at m.moving.items c.args.place c.index.result.now c.requires.within c.index.ensures in
    let at = place_at m good c.args.place c.index.result.now there in
    (tells_of m.program m.built, ((stands_now m good c.args.place at.0 at.1).fits, ((fit m good c.args.place at.0 at.1).1, c.requires.awake c.index.result.now there)))

pub returns : goal.returns
returns c = λ t is.
    let m = c.args.self.now in
    let p = program_of m.program in
    let there = there_at m.moving.items c.args.place c.index.result.now c.requires.within c.index.ensures in
    let both : Some c.index.result.now ≡ Some t = sym there ∙ is in
    let same : c.index.result.now ≡ t = cc both in
    c.kind_of.ensures p (subst (λ ws. AreWants p (spots p.flows) (nodes_of m.program) ws) (sym c.as_slice.ensures.value) m.wanted)
    ∙ ap (λ (u : Task). next_kind p (task_control p u)) same
