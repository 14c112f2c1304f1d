use Rattle.value_cases.proofs.assigns.answer.Goals as goal

-- the inner layer is the last one that was opened
pub close-requires-clause-innermost : goal.close-requires-clause-innermost
close-requires-clause-innermost c = c.in_ok-told.ensures.apart _ (c.bind_all-2.ensures.apart _ c.in_ok-inner.ensures.innermost)
