use Rattle.std.proofs.Common.{sym, subst, ◌∙◌}
use Rattle.wf_lemmas.proofs.Results.{with_ok}
use Rattle.wf_eval.specs.Sight.{seen}
use Rattle.wf_frames.specs.Frames.{inner}
use Rattle.wf_frames.specs.Steps.{CarriesCall, CarriesOut, IsOf, Issues, Moves, WantsSame}
use Rattle.wf_frames.specs.declared.frames.Frame.TheVariants as frame
use Rattle.wf_frames.specs.declared.step.Step.TheVariants as step
use Rattle.wf_frames.proofs.Advancing.{taken_first}
use Rattle.wf_frames.proofs.Asking.{then_issues}
use Rattle.wf_frames.proofs.Foreseeing.{body_fits, body_inside, body_issues, body_moves, body_same, body_within, entry_goes, entry_within, no_other, then_first}
use Rattle.wf_model.specs.Spots.{part_at, part_body, part_next}
use Rattle.wf_frames.proofs.advance.step_of.Goals as goal

pub carry_out-requires : goal.carry_out-requires
carry_out-requires g c κs within =
    let nodes = c.args.nodes.now in
    let fs = inner c.args.frames.now in
    let mid = inner c.go_on.new.self in
    let r = c.requires.1.0.resolves in
    let fits = c.requires.1.1.1.1 in
    let e = sym (c.in-Body.ensures ∙ c.requires.1.1.1.0) in
    (within, (c.requires.1.0, (body_within g.ns nodes r fs c.in-Body.n fits e, (body_fits g.ns nodes r fs c.in-Body.n fits e mid c.go_on.ensures.on, body_inside g.ns nodes r fs c.in-Body.n fits e mid c.go_on.ensures.on))))

pub unreachable-requires : goal.unreachable-requires
unreachable-requires g c = no_other c.args.nodes.now (inner c.args.frames.now) c.next.result c.requires.1.1.0 (c.next.ensures ∙ c.requires.1.1.1.0) c.in-Nothing.is

pub returns-in-Body-clause-moves : goal.returns-in-Body-clause-moves
returns-in-Body-clause-moves g c =
    let n = c.in-Body.n in
    let v = seen (g.K.Look.sight c.args.look.now) c.args.now in
    let fs = inner c.args.frames.now in
    let mid = inner c.go_on.new.self in
    let new = inner c.carry_out.new.frames in
    let e = sym (c.in-Body.ensures ∙ c.requires.1.1.1.0) in
    with_ok (CarriesOut g.ns (part_body (part_at g.ns n)) (part_next (part_at g.ns n)) v mid new) (Moves g.ns fs v new) c.carry_out.result
    (λ st h. body_moves g.ns c.args.nodes.now c.requires.1.0.resolves fs n c.requires.1.1.1.1 e v mid new st c.go_on.ensures.on h) c.carry_out.ensures.carried

pub returns-in-Body-clause-issues : goal.returns-in-Body-clause-issues
returns-in-Body-clause-issues g c =
    let n = c.in-Body.n in
    let v = seen (g.K.Look.sight c.args.look.now) c.args.now in
    let fs = inner c.args.frames.now in
    let mid = inner c.go_on.new.self in
    let new = inner c.carry_out.new.frames in
    let e = sym (c.in-Body.ensures ∙ c.requires.1.1.1.0) in
    with_ok (CarriesCall g.ns (part_body (part_at g.ns n)) (part_next (part_at g.ns n)) v mid new) (Issues g.ns fs v new) c.carry_out.result
    (λ st h. body_issues g.ns c.args.nodes.now c.requires.1.0.resolves fs n c.requires.1.1.1.1 e v mid new st c.go_on.ensures.on h) c.carry_out.ensures.asked

pub returns-in-Body-clause-same : goal.returns-in-Body-clause-same
returns-in-Body-clause-same g c =
    let fs = inner c.args.frames.now in
    let e = sym (c.in-Body.ensures ∙ c.requires.1.1.1.0) in
    with_ok (IsOf c.in-Body.n) (WantsSame g.ns fs) c.carry_out.result (body_same g.ns c.args.nodes.now c.requires.1.0.resolves fs c.in-Body.n c.requires.1.1.1.1 e) c.carry_out.ensures.of

pub returns-in-Entry-clause-moves : goal.returns-in-Entry-clause-moves
returns-in-Entry-clause-moves g c =
    let v = seen (g.K.Look.sight c.args.look.now) c.args.now in
    let e = sym (c.in-Entry.ensures ∙ c.requires.1.1.1.0) in
    entry_goes g.ns c.args.nodes.now c.requires.1.0.resolves (inner c.args.frames.now) c.in-Entry.n c.requires.1.1.1.1 e v (inner c.go_on-in-Entry.new.self) c.go_on-in-Entry.ensures.on

pub returns-in-Entry-clause-ready : goal.returns-in-Entry-clause-ready
returns-in-Entry-clause-ready g c =
    entry_within g.ns c.args.nodes.now c.requires.1.0.resolves (inner c.args.frames.now) c.in-Entry.n c.requires.1.1.1.1 (sym (c.in-Entry.ensures ∙ c.requires.1.1.1.0))

pub returns-in-Then-clause-issues : goal.returns-in-Then-clause-issues
returns-in-Then-clause-issues g c =
    let v = seen (g.K.Look.sight c.args.look.now) c.args.now in
    let n = c.in-Then.n in
    let fs = inner c.args.frames.now in
    let first = then_first c.args.nodes.now fs n (sym (c.in-Then.ensures ∙ c.requires.1.1.1.0)) in
    let t = taken_first fs (inner c.pop.new.self) (frame.Then n) c.pop.result first c.pop.ensures.popped c.pop.ensures.none in
    subst (λ gs. Issues g.ns gs v (inner c.pop.new.self) (step.Jumps n)) (sym t) (then_issues g.ns n v (inner c.pop.new.self) (inner c.pop.new.self) (step.Jumps n))
