use Rattle.std.proofs.Common.{arith}
use Rattle.wf_syntax_words.proofs.Digits.{few_bound, never_none, part_bound}
use Rattle.wf_syntax_words.proofs.numbers.joined.Goals as goal

pub returns-in_err-parsed : goal.returns-in_err-parsed
returns-in_err-parsed c = never_none 8 c.args.whole.now c.parsed.result c.requires.whole (omega arith) c.parsed.ensures c.in_err-parsed.was

pub overflow_mul-result : goal.overflow_mul-result
overflow_mul-result c = record { fits = omega (arith, few_bound 8 c.in_ok-parsed.field-0 c.args.whole.now c.parsed.result c.requires.whole (omega arith) c.parsed.ensures c.in_ok-parsed.was) }

pub returns-in_err-parsed-2 : goal.returns-in_err-parsed-2
returns-in_err-parsed-2 c = never_none 3 c.args.part.now c.parsed-2.result c.requires.part (omega arith) c.parsed-2.ensures c.in_err-parsed-2.was

pub overflow_mul-result-2 : goal.overflow_mul-result-2
overflow_mul-result-2 c =
    let part = few_bound 3 c.in_ok-parsed-2.field-0 c.args.part.now c.parsed-2.result c.requires.part (omega arith) c.parsed-2.ensures c.in_ok-parsed-2.was in
    record { fits = omega (arith, part_bound _ _ c.scale.result part c.scale.ensures) }

pub overflow_add-result : goal.overflow_add-result
overflow_add-result c =
    let whole = few_bound 8 c.in_ok-parsed.field-0 c.args.whole.now c.parsed.result c.requires.whole (omega arith) c.parsed.ensures c.in_ok-parsed.was in
    let part = few_bound 3 c.in_ok-parsed-2.field-0 c.args.part.now c.parsed-2.result c.requires.part (omega arith) c.parsed-2.ensures c.in_ok-parsed-2.was in
    record { fits = omega (arith, whole, part_bound _ _ c.scale.result part c.scale.ensures) }
