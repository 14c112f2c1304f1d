use Rattle.std.proofs.Common.{◌≡◌, ℕ, ℤ, pos, negsuc, FitsSigned, w64, rules, ap, sym}
use Rattle.std.proofs.lemmas.Int.{to_z-of_z}
use Rattle.std.specs.Int.{FitsUnsignedBits}
use lib.IntN.{nat_abs}
use Rattle.wf_retry.proofs.predicates.has_code.Goals as goal

is_whole : (z : ℤ) (n : ℕ) → FitsUnsignedBits 64 z × (n ≡ nat_abs z) → z ≡ pos n
is_whole (pos m) n h = ap pos (sym h.1)
is_whole (negsuc m) n h = absurd h.0

pub returns-in-Ok : goal.returns-in-Ok
returns-in-Ok c =
    let e = rw c.in-Some-Int.field-0-is at c.in-Some-Int.ensures.value in
    let f : FitsSigned w64 c.in-Some-Int.code = search rules in
    let h = simp to_z-of_z at c.in-Ok.ensures in
    rw (← e, is_whole c.in-Some-Int.code c.in-Ok.code h) c.is_among.ensures
