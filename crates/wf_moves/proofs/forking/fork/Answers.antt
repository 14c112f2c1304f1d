use Rattle.std.proofs.Common.{Err, sym, subst}
use Rattle.wf_eval.specs.Answers.{Answers}
use Rattle.wf_eval.specs.Sight.{seen}
use Rattle.wf_frames.proofs.Evaluated.{failed, gave}
use Rattle.wf_frames.specs.Forks.{parallel_at, work_view}
use Rattle.wf_frames.specs.Owned.{control_of, held_by, local_of}
use Rattle.wf_frames.specs.Sights.{sight_of}
use Rattle.wf_frames.specs.Steps.{forks_by}
use Rattle.wf_frames.specs.Held.{standing}
use Rattle.wf_frames.specs.declared.forking.Forked.{Forked}
use Rattle.wf_model.specs.Config.{limits}
use Rattle.wf_model.specs.Move.{work}
use Rattle.wf_model.specs.Spots.{part_at, part_body}
use Rattle.std.specs.Prelude.{nat_le}
use Rattle.wf_moves.proofs.Raised.{raised, raised_left}
use Rattle.wf_moves.proofs.Splitting.{fork_enters, fork_fails, fork_refused, is_deeper, not_deeper}
use Rattle.wf_moves.specs.Moved.{IsMove}
use Rattle.wf_moves.specs.Tasks.{IsAwaited}
use Rattle.wf_value.specs.Errors.{error_map}
use Rattle.wf_value.specs.declared.Tag.TheVariants.{ParallelNestingError}
use Rattle.wf_moves.proofs.forking.fork.Goals as goal

pub returns-then-not-facts-clause-moved : goal.returns-then-not-facts-clause-moved
returns-then-not-facts-clause-moved g c s d sees agrees =
    let p = c.requires.1.1 in
    let k = control_of g.around c.args.frames.now in
    let h = held_by g.around c.args.frames.now c.args.scopes.now in
    let m = forks_by s (part_body (part_at g.around.spots c.args.n)) k (standing d h) in
    let deep = not_deeper c.args.facts.now.deeper (nat_le (limits s.facts.rules).nesting s.nesting) sees.deeper c.if-not-facts.true in
    let w = c.in_ok-raises_tag.field-0 in
    c.done_of.ensures.moved g.around s m (local_of g.around c.args.frames.now c.args.scopes.now)
    (subst (λ x. IsMove s x w (standing k h)) (sym (fork_refused g.around c.args.nodes.now c.args.n p.0 c.requires.0 p.1 s k d h deep)) (raised s k d h (error_map ParallelNestingError) w c.in_ok-raises_tag.ensures))

pub returns-in_ok-boxed-in-Ok-clause-moved : goal.returns-in_ok-boxed-in-Ok-clause-moved
returns-in_ok-boxed-in-Ok-clause-moved g c s d sees agrees =
    let p = c.requires.1.1 in
    let k = control_of g.around c.args.frames.now in
    let h = held_by g.around c.args.frames.now c.args.scopes.now in
    let m = forks_by s (part_body (part_at g.around.spots c.args.n)) k (standing d h) in
    let v = seen (sight_of c.seen-look.result) c.args.facts.now.now in
    let P = parallel_at g.around.spots c.args.n in
    let deep = is_deeper c.args.facts.now.deeper (nat_le (limits s.facts.rules).nesting s.nesting) sees.deeper c.if-not-facts.false in
    let f = c.in-Ok.forked in
    subst (λ x. IsAwaited g.around s m x (local_of g.around c.args.frames.now c.args.scopes.now)) (sym c.in_ok-boxed-in-Ok.ensures)
    (fork_enters g.around c.args.nodes.now c.args.n p.0 c.requires.0 p.1 s k d h deep v (c.seen-look.ensures s sees) f.work f.total c.in_ok-joining-in-Ok.joining
    (gave (λ (x : Forked). work_view P 0 x.work) f (work v P) c.in-Ok.ensures.work) c.in_ok-joining-in-Ok.ensures c.in-Ok.ensures.total)

pub returns-in_ok-fails-in-Err-clause-moved : goal.returns-in_ok-fails-in-Err-clause-moved
returns-in_ok-fails-in-Err-clause-moved g c s d sees agrees =
    let p = c.requires.1.1 in
    let k = control_of g.around c.args.frames.now in
    let h = held_by g.around c.args.frames.now c.args.scopes.now in
    let m = forks_by s (part_body (part_at g.around.spots c.args.n)) k (standing d h) in
    let v = seen (sight_of c.seen-look.result) c.args.facts.now.now in
    let P = parallel_at g.around.spots c.args.n in
    let deep = is_deeper c.args.facts.now.deeper (nat_le (limits s.facts.rules).nesting s.nesting) sees.deeper c.if-not-facts.false in
    let e = c.in_ok-fails-in-Err.ensures in
    let t = e.error in
    let w = c.in_ok-fails-in-Err.field-0 in
    let err = failed (λ (x : Forked). work_view P 0 x.work) t.0 (work v P) (subst (λ r. Answers (λ (x : Forked). work_view P 0 x.work) (Err r) (work v P)) t.1 c.in-Err.ensures.work) in
    c.done_of-in-Err.ensures.moved g.around s m (local_of g.around c.args.frames.now c.args.scopes.now)
    (subst (λ x. IsMove s x w (standing k h)) (sym (fork_fails g.around c.args.nodes.now c.args.n p.0 c.requires.0 p.1 s k d h deep v (c.seen-look.ensures s sees) t.0 err)) (raised s k d h (error_map t.0) w (e.raised t.0 t.1)))

pub returns-in_ok-fails-in-Err-clause-left : goal.returns-in_ok-fails-in-Err-clause-left
returns-in_ok-fails-in-Err-clause-left g c =
    let e = c.in_ok-fails-in-Err.ensures in
    let t = e.error in
    c.done_of-in-Err.ensures.left c.args.nodes.now c.args.frames.now (raised_left c.args.nodes.now c.args.frames.now (error_map t.0) c.in_ok-fails-in-Err.field-0 (e.raised t.0 t.1))
