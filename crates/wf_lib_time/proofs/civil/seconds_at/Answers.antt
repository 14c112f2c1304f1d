use Rattle.std.proofs.Common.{◌≡◌, FitsSigned, ap, arith, refl, w16, w64, w8, ◌∙◌}
use Rattle.std.proofs.lemmas.Bool.{false≢true}
use Rattle.std.proofs.lemmas.Int.{to_z-of_z, to_z_pos}
use Rattle.jiff_core.proofs.SignedLemmas.{signed_arith}
use Rattle.jiff_core.specs.DateTime.{civil_seconds}
use Rattle.wf_lib_time.proofs.Reals.{civil_is, real_told, unreal}
use Rattle.wf_lib_time.proofs.civil.seconds_at.Goals as goal

pub returns-in-Ok-clause-time : goal.returns-in-Ok-clause-time
returns-in-Ok-clause-time c =
    let at = c.in-Ok.at in
    let a = c.args in
    let year = to_z_pos w16 a.year (omega (arith, c.requires.year)) in
    let month = to_z_pos w8 a.month (omega (arith, c.requires.month)) in
    let day = to_z_pos w8 a.day (omega (arith, c.requires.day)) in
    let hour = to_z_pos w8 a.hour (omega (arith, c.requires.hour)) in
    let minute = to_z_pos w8 a.minute (omega (arith, c.requires.minute)) in
    let second = to_z_pos w8 a.second (omega (arith, c.requires.second)) in
    let succeeds = simp (year, month, day, hour, minute, second) at c.in-Ok.ensures.succeeds in
    let parts = simp (year, month, day, hour, minute, second) at c.in-Ok.ensures.value in
    let fits : FitsSigned w64 c.to_second.result = omega (arith, signed_arith, c.to_second.ensures.bound) in
    let months : at.date.month ≡ a.month = omega (arith, signed_arith, parts.0.1) in
    let days : at.date.day ≡ a.day = omega (arith, signed_arith, parts.0.2) in
    let hours : at.time.hour ≡ a.hour = omega (arith, signed_arith, parts.1.0) in
    let minutes : at.time.minute ≡ a.minute = omega (arith, signed_arith, parts.1.1) in
    let seconds : at.time.second ≡ a.second = omega (arith, signed_arith, parts.1.2) in (
      real_told a.year a.month a.day a.hour a.minute a.second (succeeds.0 refl),
      to_z-of_z w64 c.to_second.result fits ∙ c.to_second.ensures.value ∙ ap (λ x. civil_seconds x) c.to_plain.ensures
          ∙ civil_is at a.year a.month a.day a.hour a.minute a.second parts.0.0 months days hours minutes seconds,
    )

pub returns-in-Err-clause-time : goal.returns-in-Err-clause-time
returns-in-Err-clause-time c =
    let a = c.args in
    let year = to_z_pos w16 a.year (omega (arith, c.requires.year)) in
    let month = to_z_pos w8 a.month (omega (arith, c.requires.month)) in
    let day = to_z_pos w8 a.day (omega (arith, c.requires.day)) in
    let hour = to_z_pos w8 a.hour (omega (arith, c.requires.hour)) in
    let minute = to_z_pos w8 a.minute (omega (arith, c.requires.minute)) in
    let second = to_z_pos w8 a.second (omega (arith, c.requires.second)) in
    let succeeds = simp (year, month, day, hour, minute, second) at c.in-Err.ensures.succeeds in
    unreal a.year a.month a.day a.hour a.minute a.second c.requires.year (λ is. false≢true (succeeds.1 is))
