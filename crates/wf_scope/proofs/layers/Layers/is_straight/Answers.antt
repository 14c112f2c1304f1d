use Rattle.std.proofs.Common.{arith}
use Rattle.std.proofs.lemmas.Bool.{ltb-true}
use Rattle.wf_scope.proofs.Lives.{straight_at}
use Rattle.wf_scope.proofs.layers.Layers.is_straight.Goals as goal

pub returns-clause-number : goal.returns-clause-number
returns-clause-number c = λ below l at.
    let a = c.args.self.now in
    omega (arith, straight_at a.straight a.count 0 c.args.place a.all.items l a.numbered (ltb-true c.args.place a.straight below) a.straight_within at)
