use Rattle.std.proofs.Common.{Result, Ok, Err, OnErr, arith}
use Rattle.wf_lemmas.proofs.Results.{on_ok}
use Rattle.wf_callbacks.specs.Plain.{plain_visitor}
use Rattle.wf_callbacks.proofs.Places.{stands, joined_place, same_place}
use Rattle.wf_callbacks.proofs.endpoints.Endpoints.arrive.Goals as goal

on_err : {T E : Type 0} (r : Result T E) {P Q : Type 0} → (P → Q) → OnErr r P → OnErr r Q
on_err (Ok t) f h = tt
on_err (Err e) f h = f h

pub returns-clause-fault : goal.returns-clause-fault
returns-clause-fault c =
    let h = stands c.self.inside.endpoints.items c.args.self.now c.args.n c.in-Some.i c.index_mut-endpoint.result.now c.self.view_is (omega arith) (omega arith) c.in-Some.ensures.1 c.index_mut-endpoint.ensures.value in
    rw h c.arrive.ensures.fault

pub returns-clause-joined : goal.returns-clause-joined
returns-clause-joined c =
    let h = stands c.self.inside.endpoints.items c.args.self.now c.args.n c.in-Some.i c.index_mut-endpoint.result.now c.self.view_is (omega arith) (omega arith) c.in-Some.ensures.1 c.index_mut-endpoint.ensures.value in
    on_ok c.arrive.result (joined_place c.self.inside.endpoints.items c.args.self.now c.args.n c.in-Some.i c.index_mut-endpoint.result.now c.arrive.new.self (plain_visitor c.args.visitor) c.self.view_is (omega arith) c.in-Some.ensures.1 h) c.arrive.ensures.joined

pub returns-clause-kept : goal.returns-clause-kept
returns-clause-kept c =
    let h = stands c.self.inside.endpoints.items c.args.self.now c.args.n c.in-Some.i c.index_mut-endpoint.result.now c.self.view_is (omega arith) (omega arith) c.in-Some.ensures.1 c.index_mut-endpoint.ensures.value in
    on_err c.arrive.result (same_place c.self.inside.endpoints.items c.args.self.now c.args.n c.in-Some.i c.index_mut-endpoint.result.now c.arrive.new.self c.self.view_is (omega arith) c.in-Some.ensures.1 h) c.arrive.ensures.kept
