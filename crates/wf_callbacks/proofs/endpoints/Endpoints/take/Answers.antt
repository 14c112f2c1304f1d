use Rattle.std.proofs.Common.{arith, sym}
use Rattle.wf_callbacks.proofs.Places.{absent, stands, taken_place, nothing_put}
use Rattle.wf_callbacks.proofs.endpoints.Endpoints.take.Goals as goal

pub returns-in_default-clause-rest : goal.returns-in_default-clause-rest
returns-in_default-clause-rest c =
    let h = absent c.self.inside.endpoints.items c.args.self.now c.args.n c.self.view_is (λ within. c.in_default.ensures (within.0, omega arith)) in
    sym (nothing_put c.args.self.now c.args.n _ h)

pub returns-clause-visitor : goal.returns-clause-visitor
returns-clause-visitor c =
    let h = stands c.self.inside.endpoints.items c.args.self.now c.args.n c.in-Some.i c.index_mut-endpoint.result.now c.self.view_is (omega arith) (omega arith) c.in-Some.ensures.1 c.index_mut-endpoint.ensures.value in
    rw h c.take.ensures.visitor

pub returns-clause-rest : goal.returns-clause-rest
returns-clause-rest c =
    let h = stands c.self.inside.endpoints.items c.args.self.now c.args.n c.in-Some.i c.index_mut-endpoint.result.now c.self.view_is (omega arith) (omega arith) c.in-Some.ensures.1 c.index_mut-endpoint.ensures.value in
    taken_place c.self.inside.endpoints.items c.args.self.now c.args.n c.in-Some.i c.index_mut-endpoint.result.now c.take.new.self c.self.view_is (omega arith) c.in-Some.ensures.1 h c.take.ensures.rest
