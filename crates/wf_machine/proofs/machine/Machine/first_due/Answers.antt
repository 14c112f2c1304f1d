use Rattle.std.proofs.Common.{◌≡◌, ◌<◌, ◌≤◌, ◌+◌, ℕ, suc, length, sym, ap, ◌∙◌, subst, arith}
use Rattle.std.specs.Prelude.{drop}
use Rattle.wf_branches.specs.Seen.{table_of}
use Rattle.wf_check.specs.Seen.{program_of}
use Rattle.wf_machine.proofs.Answering.{view_same}
use Rattle.wf_machine.proofs.Choice.{due_behind, due_here, view_end}
use Rattle.wf_machine.proofs.Good.{as_many, entry_at, there_at}
use Rattle.wf_machine.proofs.machine.Machine.first_due.Goals as goal
use Rattle.wf_machine.specs.Seen.{shown}
use Rattle.wf_model.specs.Choose.{first_due}
use Rattle.wf_model.specs.Config.{Wait}
use Rattle.wf_model.specs.Ready.{due_of, is_by}

pub number-requires : goal.number-requires
number-requires c =
    let m = c.args.self.now in
    let w : c.loop-place.place < length m.moving.items = omega arith in
    subst (λ n. c.loop-place.place < n) (sym (as_many (program_of m.program) (table_of m.tasks).live m.moving.items (m.alike c.requires))) w

pub loop-place-preserved : goal.loop-place-preserved
loop-place-preserved c =
    let m = c.args.self.now in
    let p = program_of m.program in
    let t = c.index.result.now in
    let w : c.loop-place.place < length m.moving.items = omega arith in
    let there = there_at m.moving.items c.loop-place.place t w c.index.ensures in
    let e = entry_at p (table_of m.tasks).live m.moving.items c.loop-place.place t (m.alike c.requires) there in
    let next : suc c.loop-place.place ≡ c.loop-place.place + 1 = omega arith in
    c.loop-place.invariant
    ∙ due_behind p (table_of m.tasks).live m.moving.items m.scopes (shown m) c.loop-place.place e.0 t e.1 there c.args.reading
    (ap (λ (w : Wait). is_by c.args.reading (due_of (shown m) w)) (view_same p t.wait) ∙ ap (is_by c.args.reading) (sym c.due_of.ensures) ∙ sym c.is_by.ensures ∙ c.if-is_by.false)
    ∙ ap (λ (n : ℕ). first_due (shown m) c.args.reading (drop n (shown m).tasks)) next

pub returns-then-is_by : goal.returns-then-is_by
returns-then-is_by c =
    let m = c.args.self.now in
    let p = program_of m.program in
    let t = c.index.result.now in
    let w : c.loop-place.place < length m.moving.items = omega arith in
    let there = there_at m.moving.items c.loop-place.place t w c.index.ensures in
    sym (c.loop-place.invariant
    ∙ due_here p (table_of m.tasks).live m.moving.items m.scopes (shown m) c.loop-place.place (c.number.result, c.number.ensures.0) t c.number.ensures.1 there c.args.reading
    (ap (λ (w : Wait). is_by c.args.reading (due_of (shown m) w)) (view_same p t.wait) ∙ ap (is_by c.args.reading) (sym c.due_of.ensures) ∙ sym c.is_by.ensures ∙ c.if-is_by.true))

pub returns : goal.returns
returns c =
    let m = c.args.self.now in
    let le : length m.moving.items ≤ c.loop-place.place = omega arith in
    sym (c.loop-place.invariant
    ∙ ap (first_due (shown m) c.args.reading) (view_end (program_of m.program) c.loop-place.place (table_of m.tasks).live m.moving.items m.scopes le))
