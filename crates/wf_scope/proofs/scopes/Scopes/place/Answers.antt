use Rattle.std.proofs.Common.{◌<◌, length}
use Rattle.wf_scope.specs.Store.{layers_of}
use Rattle.wf_scope.proofs.Numbers.{placed}
use Rattle.wf_scope.proofs.Renewed.{there}
use Rattle.wf_scope.proofs.scopes.Scopes.place.Goals as goal

pub returns-then-is_straight-clause-found : goal.returns-then-is_straight-clause-found
returns-then-is_straight-clause-found c =
    let ls = layers_of c.args.self.now in
    let n = c.args.number in
    let within : n < length ls = c.is_straight.ensures.within c.if-is_straight.true in
    let at = there ls n within in
    placed n ls n at.0 c.args.self.now.rising at.1 (c.is_straight.ensures.number c.if-is_straight.true at.0 at.1)
