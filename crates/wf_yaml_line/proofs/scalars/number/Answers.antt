use Rattle.std.proofs.Common.{◌≡◌, ◌≤◌, ◌^◌, ℕ, refl, sym, subst, arith}
use Rattle.std.specs.Option.{MatchOption}
use Rattle.wf_yaml_line.specs.Words.{number_from, digit_of}
use Rattle.wf_yaml_line.proofs.Numbers.{has_at_least}
use Rattle.wf_yaml_line.proofs.scalars.number.Goals as goal

pub returns-in_err-checked_mul : goal.returns-in_err-checked_mul
returns-in_err-checked_mul c =
    let whole : ℕ = number_from c.args.base 0 c.args.s.now in
    let least = has_at_least c.args.base c.loop-c.n c.loop-c.c-index c.c-item.result (digit_of c.c-item.result) whole c.args.s.now c.requires c.loop-c-test.true c.c-item.is refl c.loop-c.invariant in
    subst (λ r. MatchOption r (2 ^ 64 ≤ whole) (λ n. n ≡ whole)) (sym c.from_residual.ensures) (omega (arith, least, c.in_err-checked_mul.ensures))

pub returns-in_err-n : goal.returns-in_err-n
returns-in_err-n c =
    let whole : ℕ = number_from c.args.base 0 c.args.s.now in
    let least = has_at_least c.args.base c.loop-c.n c.loop-c.c-index c.c-item.result c.digit_of.result whole c.args.s.now c.requires c.loop-c-test.true c.c-item.is c.digit_of.ensures.value c.loop-c.invariant in
    subst (λ r. MatchOption r (2 ^ 64 ≤ whole) (λ n. n ≡ whole)) (sym c.from_residual-in_err-n.ensures) (omega (arith, least, c.in_ok-checked_mul.ensures, c.in_err-n.ensures))
