use Rattle.std.proofs.Common.{◌≡◌, ◌-ℤ◌, FitsSigned, arith, false, pos, rules, true, w64}
use Rattle.std.specs.Prelude.{bytes_eq, codes}
use Rattle.std.proofs.lemmas.Int.{to_z-of_z}
use Rattle.jiff_core.proofs.SignedLemmas.{signed_arith}
use Rattle.wf_value.specs.LibTime.{has_form}
use Rattle.wf_lib_time.proofs.Zones.{behind}
use Rattle.wf_lib_time.proofs.zone.seconds_ahead.Goals as goal

pub returns-in_ok-offset-clause-zone : goal.returns-in_ok-offset-clause-zone
returns-in_ok-offset-clause-zone c =
    let short = c.in_ok-offset.ensures.short in
    let zulu : bytes_eq c.args.zone.now (codes "Z") ≡ false = search rules in
    let ahead : has_form (codes "+dd:dd") c.args.zone.now ≡ false = search rules in
    let back : has_form (codes "-dd:dd") c.args.zone.now ≡ true = search rules in
    let fits : FitsSigned w64 c.in_ok-offset.field-0 = omega (arith, signed_arith, short) in
    let fits_back : FitsSigned w64 (pos 0 -ℤ c.in_ok-offset.field-0) = omega (arith, signed_arith, short) in
    simp to_z-of_z (behind c.args.zone.now c.in_ok-offset.field-0 zulu ahead back c.in_ok-offset.ensures.zone.0 c.in_ok-offset.ensures.zone.1)
