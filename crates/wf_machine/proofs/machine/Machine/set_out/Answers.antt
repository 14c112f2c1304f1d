use Rattle.std.proofs.Common.{refl, sym, ◌∙◌, arith}
use Rattle.wf_machine.proofs.Good.{good_of, shows_it}
use Rattle.wf_machine.proofs.Moves.{runs}
use Rattle.wf_machine.proofs.Runs.{no_more_ended, no_more_many}
use Rattle.wf_machine.proofs.machine.Machine.set_out.Goals as goal

pub invariant_of-self : goal.invariant_of-self
invariant_of-self c =
    let m = c.args.self.now in
    record {
      built = m.built;
      aims = m.aims;
      wanted = m.wanted;
      alike = λ whole. absurd (cc whole);
      standing = λ whole run. absurd (cc whole);
      stood = ∣ (λ whole run. absurd (cc whole)) ∣₁;
      lone = λ whole. absurd (cc whole);
      running = λ whole run. absurd (cc whole);
      shallow = m.shallow;
      most = m.most;
      bounded = m.bounded;
    }

pub returns-then-not-is_running-clause-ended : goal.returns-then-not-is_running-clause-ended
returns-then-not-is_running-clause-ended c = λ no reading. no_more_ended c.args.self.now (sym c.is_running.ensures ∙ c.if-not-is_running.true) reading

pub returns-then-len-ne1-clause-ended : goal.returns-then-len-ne1-clause-ended
returns-then-len-ne1-clause-ended c = λ no reading. no_more_many c.args.self.now c.requires.whole (λ one. let many = c.if-len-ne1.true in omega (arith, one, many)) reading

pub returns-clause-out : goal.returns-clause-out
returns-clause-out c = λ yes_.
    let m = c.args.self.now in
    let run = runs m.ending (sym c.is_running.ensures ∙ c.if-not-is_running.false) in
    let good = good_of m c.requires.whole run in
    let one = c.if-len-ne1.false in
    record {
      broken = refl;
      running = run;
      standing = good.standing;
      stood = good.stood;
      lone = good.lone;
      one = omega (arith, one);
      below = m.running c.requires.whole run;
      now = refl;
      last = refl;
      deeper = refl;
      calls = c.count-self.ensures.count;
      logged = c.size-self.ensures;
    }

pub returns-clause-shown : goal.returns-clause-shown
returns-clause-shown c = λ yes_. sym (shows_it c.args.self.now c.requires.whole)
