use Rattle.value_cases.proofs.assigns.bind_all.Goals as goal

pub returns-then-is_err-clause-apart : goal.returns-then-is_err-clause-apart
returns-then-is_err-clause-apart c = λ n h. c.bind-in-loop-i.ensures.apart n (c.loop-i.invariant.apart n h)

pub loop-i-preserved : goal.loop-i-preserved
loop-i-preserved c = record {
  stay = λ n h. c.bind-in-loop-i.ensures.stay n (c.loop-i.invariant.stay n h);
  apart = λ n h. c.bind-in-loop-i.ensures.apart n (c.loop-i.invariant.apart n h);
}
