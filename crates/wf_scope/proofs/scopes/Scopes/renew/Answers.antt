use Rattle.std.proofs.Common.{FitsSigned, [], ap, arith, rules, sym, w64, ◌∙◌}
use Rattle.std.proofs.lemmas.Int.{to_z-of_z}
use Rattle.wf_value.specs.Plain.{plain}
use Rattle.wf_scope.specs.Changes.{assigned}
use Rattle.wf_scope.specs.Lives.{live_in}
use Rattle.wf_scope.specs.Store.{layers_of}
use Rattle.wf_scope.specs.Views.{views}
use Rattle.wf_scope.proofs.Renewed.{kept}
use Rattle.wf_scope.proofs.scopes.Scopes.renew.Goals as goal

pub invariant_of-self : goal.invariant_of-self
invariant_of-self c =
    let s = c.args.self.now in
    let fits : FitsSigned w64 c.in-Int.n = search rules in
    let after = simp to_z-of_z at c.renew.ensures.after in
    let k = kept s.limit c.args.number c.args.name.now c.in-Int.n (live_in s.layers) (views (live_in c.renew.new.self)) c.in-Some.place c.renew.result s.rising s.standing (omega (arith, s.counted, s.within)) c.in-Some.ensures.0 c.renew.ensures.whole after in
    record {
      counted = s.counted ∙ sym k.counted;
      room = s.room;
      within = s.within;
      rising = k.rising;
      standing = k.standing;
    }

pub returns-clause-outcome : goal.returns-clause-outcome
returns-clause-outcome c = λ done.
    let s = c.args.self.now in
    let fits : FitsSigned w64 c.in-Int.n = search rules in
    let after = simp to_z-of_z at c.renew.ensures.after in
    let k = kept s.limit c.args.number c.args.name.now c.in-Int.n (live_in s.layers) (views (live_in c.renew.new.self)) c.in-Some.place c.renew.result s.rising s.standing (omega (arith, s.counted, s.within)) c.in-Some.ensures.0 c.renew.ensures.whole after in
    ap (λ v. assigned s.limit c.args.number c.args.name.now [] (plain v) (layers_of s)) c.in-Int.is ∙ k.outcome done

pub returns-clause-kept : goal.returns-clause-kept
returns-clause-kept c =
    let s = c.args.self.now in
    let fits : FitsSigned w64 c.in-Int.n = search rules in
    let after = simp to_z-of_z at c.renew.ensures.after in
    let k = kept s.limit c.args.number c.args.name.now c.in-Int.n (live_in s.layers) (views (live_in c.renew.new.self)) c.in-Some.place c.renew.result s.rising s.standing (omega (arith, s.counted, s.within)) c.in-Some.ensures.0 c.renew.ensures.whole after in
    k.kept

pub returns-clause-stay : goal.returns-clause-stay
returns-clause-stay c =
    let s = c.args.self.now in
    let fits : FitsSigned w64 c.in-Int.n = search rules in
    let after = simp to_z-of_z at c.renew.ensures.after in
    let k = kept s.limit c.args.number c.args.name.now c.in-Int.n (live_in s.layers) (views (live_in c.renew.new.self)) c.in-Some.place c.renew.result s.rising s.standing (omega (arith, s.counted, s.within)) c.in-Some.ensures.0 c.renew.ensures.whole after in
    k.stay

pub returns-clause-apart : goal.returns-clause-apart
returns-clause-apart c =
    let s = c.args.self.now in
    let fits : FitsSigned w64 c.in-Int.n = search rules in
    let after = simp to_z-of_z at c.renew.ensures.after in
    let k = kept s.limit c.args.number c.args.name.now c.in-Int.n (live_in s.layers) (views (live_in c.renew.new.self)) c.in-Some.place c.renew.result s.rising s.standing (omega (arith, s.counted, s.within)) c.in-Some.ensures.0 c.renew.ensures.whole after in
    k.apart
