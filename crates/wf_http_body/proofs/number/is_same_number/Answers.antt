use Rattle.std.proofs.Common.{◌∙◌, length, ◌-◌}
use Rattle.std.specs.Char.{is_ascii_digit}
use Rattle.wf_http_body.proofs.Digits.{all_take, same_step, other_step}
use Rattle.wf_http_body.proofs.number.is_same_number.Goals as goal

pub returns-then-one_last-other_last : goal.returns-then-one_last-other_last
returns-then-one_last-other_last c =
    other_step c.loop-one.one.now c.loop-one.other.now c.in-len1-up.len_at_least c.in-len1-up-other.len_at_least c.loop-one.invariant.one c.loop-one.invariant.other c.if-one_last-other_last.true ∙ c.loop-one.invariant.same

pub loop-one-preserved : goal.loop-one-preserved
loop-one-preserved c =
    let one = c.loop-one.one.now in
    let other = c.loop-one.other.now in
    record {
      one = all_take is_ascii_digit one (length one - 1) c.loop-one.invariant.one;
      other = all_take is_ascii_digit other (length other - 1) c.loop-one.invariant.other;
      same = same_step one other c.in-len1-up.len_at_least c.in-len1-up-other.len_at_least c.if-one_last-other_last.false ∙ c.loop-one.invariant.same;
    }
