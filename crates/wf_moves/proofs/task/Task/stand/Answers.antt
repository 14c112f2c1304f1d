use Rattle.std.proofs.Common.{sym, subst}
use Rattle.wf_frames.specs.Owned.{local_of}
use Rattle.wf_moves.proofs.Waiting.{awake_local, went_left}
use Rattle.wf_moves.specs.Moved.{IsEnd, IsMove, IsWent}
use Rattle.wf_moves.specs.Retries.{IsLed, IsLedSo}
use Rattle.wf_moves.specs.declared.task.Task.{Task}
use Rattle.wf_moves.proofs.task.Task.stand.Goals as goal

pub returns-in-Goes-clause-moved : goal.returns-in-Goes-clause-moved
returns-in-Goes-clause-moved g c s m sees agrees h =
    let w = c.args.self.now.wait in
    let awake = c.requires.1.1.1.1 in
    let here = subst (λ l. IsMove s m c.args.went l) (awake_local g.around w c.args.self.now.frames c.args.scopes.now awake) h in
    subst (IsWent m) (sym (awake_local g.around w c.lead.new.frames c.lead.new.scopes awake))
    (subst (λ d. IsLed g.around m d (local_of g.around c.lead.new.frames c.lead.new.scopes)) c.in-Goes.is (c.in_ok-led.ensures.moved s m sees.last agrees here))

pub returns-in-Goes-clause-left : goal.returns-in-Goes-clause-left
returns-in-Goes-clause-left g c =
    let t : Task = record { alloc = c.args.self.now.alloc; frames = c.lead.new.frames; wait = c.args.self.now.wait } in
    went_left c.args.nodes.now t c.requires.1.1.1.1 (subst (λ d. IsLedSo c.args.nodes.now d c.lead.new.frames) c.in-Goes.is c.in_ok-led.ensures.left)

pub returns-in-Ended-clause-moved : goal.returns-in-Ended-clause-moved
returns-in-Ended-clause-moved g c s m sees agrees h =
    let w = c.args.self.now.wait in
    let awake = c.requires.1.1.1.1 in
    let here = subst (λ l. IsMove s m c.args.went l) (awake_local g.around w c.args.self.now.frames c.args.scopes.now awake) h in
    subst (IsEnd m c.in-Ended.end) (sym (awake_local g.around w c.lead.new.frames c.lead.new.scopes awake))
    (subst (λ d. IsLed g.around m d (local_of g.around c.lead.new.frames c.lead.new.scopes)) c.in-Ended.is (c.in_ok-led.ensures.moved s m sees.last agrees here))

pub returns-in-Ended-clause-left : goal.returns-in-Ended-clause-left
returns-in-Ended-clause-left g c = subst (λ d. IsLedSo c.args.nodes.now d c.lead.new.frames) c.in-Ended.is c.in_ok-led.ensures.left

pub returns-in-Waits-clause-moved : goal.returns-in-Waits-clause-moved
returns-in-Waits-clause-moved g c s m sees agrees h =
    let w = c.args.self.now.wait in
    let here = subst (λ l. IsMove s m c.args.went l) (awake_local g.around w c.args.self.now.frames c.args.scopes.now c.requires.1.1.1.1) h in
    subst (λ d. IsLed g.around m d (local_of g.around c.lead.new.frames c.lead.new.scopes)) c.in-Waits.is (c.in_ok-led.ensures.moved s m sees.last agrees here)

pub returns-in-Waits-clause-left : goal.returns-in-Waits-clause-left
returns-in-Waits-clause-left g c = subst (λ d. IsLedSo c.args.nodes.now d c.lead.new.frames) c.in-Waits.is c.in_ok-led.ensures.left
