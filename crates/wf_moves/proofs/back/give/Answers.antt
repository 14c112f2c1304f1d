use Rattle.std.specs.Prelude.{Option}
use Rattle.std.proofs.Common.{subst}
use Rattle.wf_lemmas.proofs.Results.{with_ok}
use Rattle.wf_frames.specs.Owned.{beside, control_of, local_of}
use Rattle.wf_model.specs.Leave.{gives}
use Rattle.wf_moves.specs.Moved.{IsMove}
use Rattle.wf_value.specs.Pairs.{Text}
use Rattle.wf_value.specs.Plain.{plain}
use Rattle.wf_moves.proofs.back.give.Goals as goal

pub returns-in-Some-clause-moved : goal.returns-in-Some-clause-moved
returns-in-Some-clause-moved g c =
    with_ok _ _ c.store_value.result
    (λ w h s d agrees.
    subst (λ (o : Option Text). IsMove s (gives s o (plain c.args.value) (control_of g.around c.args.frames.now) (beside d g.around c.args.frames.now c.args.scopes.now)) w (local_of g.around c.store_value.new.frames c.store_value.new.scopes)) c.in-Some.ensures (h s d agrees))
    c.store_value.ensures.moved
