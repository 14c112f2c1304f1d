use Rattle.std.proofs.Common.{◌≡◌, ◌+◌, ◌*◌, arith, refl, rules, true}
use Rattle.std.specs.Prelude.{codes}
use Rattle.wf_value.specs.LibTime.{has_form, number_at}
use Rattle.wf_lib_time.proofs.Forms.{form_length, two_of, year_number}
use Rattle.wf_lib_time.proofs.Reals.{tells_civil}
use Rattle.wf_lib_time.proofs.civil.civil_seconds.Goals as goal

pub two_digits-month-requires : goal.two_digits-month-requires
two_digits-month-requires c =
    let form : has_form (codes "dddd-dd-ddTdd:dd:dd") c.args.text.now ≡ true = search rules in
    two_of (codes "dddd-dd-ddTdd:dd:dd") c.args.text.now 5 form (omega arith) refl refl

pub two_digits-day-requires : goal.two_digits-day-requires
two_digits-day-requires c =
    let form : has_form (codes "dddd-dd-ddTdd:dd:dd") c.args.text.now ≡ true = search rules in
    two_of (codes "dddd-dd-ddTdd:dd:dd") c.args.text.now 8 form (omega arith) refl refl

pub two_digits-hour-requires : goal.two_digits-hour-requires
two_digits-hour-requires c =
    let form : has_form (codes "dddd-dd-ddTdd:dd:dd") c.args.text.now ≡ true = search rules in
    two_of (codes "dddd-dd-ddTdd:dd:dd") c.args.text.now 11 form (omega arith) refl refl

pub two_digits-minute-requires : goal.two_digits-minute-requires
two_digits-minute-requires c =
    let form : has_form (codes "dddd-dd-ddTdd:dd:dd") c.args.text.now ≡ true = search rules in
    two_of (codes "dddd-dd-ddTdd:dd:dd") c.args.text.now 14 form (omega arith) refl refl

pub two_digits-second-requires : goal.two_digits-second-requires
two_digits-second-requires c =
    let form : has_form (codes "dddd-dd-ddTdd:dd:dd") c.args.text.now ≡ true = search rules in
    two_of (codes "dddd-dd-ddTdd:dd:dd") c.args.text.now 17 form (omega arith) refl refl

pub returns-clause-time : goal.returns-clause-time
returns-clause-time c =
    let form : has_form (codes "dddd-dd-ddTdd:dd:dd") c.args.text.now ≡ true = search rules in
    let length_is = form_length (codes "dddd-dd-ddTdd:dd:dd") c.args.text.now form in
    let year : c.from.result * 100 + c.from-2.result ≡ number_at 0 4 c.args.text.now = omega (arith, year_number c.args.text.now (omega (arith, length_is)), c.from.ensures, c.from-2.ensures, c.two_digits.ensures.value, c.two_digits-2.ensures.value) in
    tells_civil c.args.text.now (c.from.result * 100 + c.from-2.result) c.two_digits-month.result c.two_digits-day.result c.two_digits-hour.result c.two_digits-minute.result c.two_digits-second.result c.seconds_at.result
    form year c.two_digits-month.ensures.value c.two_digits-day.ensures.value c.two_digits-hour.ensures.value c.two_digits-minute.ensures.value c.two_digits-second.ensures.value c.seconds_at.ensures.time
