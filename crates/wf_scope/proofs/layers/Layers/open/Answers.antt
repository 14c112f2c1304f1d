use Rattle.std.proofs.Common.{◌≡◌, ap, refl}
use Rattle.wf_scope.specs.Layers.{Layer}
use Rattle.wf_scope.proofs.Lives.{spared_open, straight_grown}
use Rattle.wf_scope.proofs.layers.Layers.open.Goals as goal

pub invariant_of-self-clause-straight_within : goal.invariant_of-self-clause-straight_within
invariant_of-self-clause-straight_within c =
    let b = c.spare.new.self in
    let m = c.stands.new.self in
    let number : m.number ≡ c.args.number = ap (λ (y : Layer). y.number) c.stands.ensures in
    (straight_grown b.straight b.count c.args.number c.grown-self.result b.all.items m b.straight_within c.in_ok-spare.ensures.one number b.numbered c.grown-self.ensures).0

pub invariant_of-self-clause-numbered : goal.invariant_of-self-clause-numbered
invariant_of-self-clause-numbered c =
    let b = c.spare.new.self in
    let m = c.stands.new.self in
    let number : m.number ≡ c.args.number = ap (λ (y : Layer). y.number) c.stands.ensures in
    (straight_grown b.straight b.count c.args.number c.grown-self.result b.all.items m b.straight_within c.in_ok-spare.ensures.one number b.numbered c.grown-self.ensures).1

pub invariant_of-self-clause-spared : goal.invariant_of-self-clause-spared
invariant_of-self-clause-spared c =
    let b = c.spare.new.self in
    spared_open b.count b.count b.all.items c.stands.new.self b.spared refl
