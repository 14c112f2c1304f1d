use Rattle.std.proofs.Common.{rules, ◌≡◌, ◌<◌, ◌≤◌, ◌∷◌, length, arith}
use Rattle.std.proofs.lemmas.Bool.{false_from_ne_true}
use Rattle.std.proofs.lemmas.Grind.{common_steps}
use Rattle.std.specs.Str.Parse.{IsNumeral, digits_value}
use Rattle.wf_http_out.proofs.Hosts.{no_colon, port_tells, port_yes}
use Rattle.wf_http_out.proofs.port.port_behind.Goals as goal

pub returns-in_err-digits : goal.returns-in_err-digits
returns-in_err-digits c =
    let some : 0 < length c.args.tail.now = grind (arith, common_steps) in
    rw c.from_residual.ensures (no_colon c.args.tail.now some c.in_err-digits.ensures.cases)

pub returns-in-Ok : goal.returns-in-Ok
returns-in-Ok c =
    let is : c.args.tail.now ≡ 58 ∷ c.in_ok-digits.digits.now = search rules in
    let numeral : IsNumeral 10 c.in_ok-digits.digits.now = search rules in
    let value : c.in-Ok.port ≡ digits_value 10 c.in_ok-digits.digits.now = search rules in
    let low : 1 ≤ digits_value 10 c.in_ok-digits.digits.now = grind (arith, common_steps) in
    let high : digits_value 10 c.in_ok-digits.digits.now < 65536 = search rules in
    rw is (port_yes c.in_ok-digits.digits.now numeral low high, value)

pub returns-in-Err : goal.returns-in-Err
returns-in-Err c =
    let is : c.args.tail.now ≡ 58 ∷ c.in_ok-digits.digits.now = search rules in
    let never : IsNumeral 10 c.in_ok-digits.digits.now → digits_value 10 c.in_ok-digits.digits.now < 65536 → ⊥ = search rules in
    false_from_ne_true _ λ yes.
    let told = port_tells c.in_ok-digits.digits.now (rw is at yes) in
    never told.0 told.2
