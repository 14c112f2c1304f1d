use Rattle.std.proofs.Common.{◌≡◌, ◌+◌, ◌*◌, ◌-◌, ◌<◌, ◌≤◌, ℕ, zero, suc, List, length, drop, get_or, min, Fits, w8, arith, sym}
use Rattle.wf_name.proofs.Digits.{AreBytes-drop, AreBytes-each, digits-at, digits-fit}
use Rattle.wf_name.specs.Marks.{AreBytes, digits}
use Rattle.wf_name.proofs.name.mark_of.Goals as goal

are_bytes : (bs : List ℕ) → ((k : ℕ) → Fits w8 (get_or bs k 0)) → AreBytes bs
are_bytes bs h = AreBytes-each bs (λ k. omega (arith, h k))

-- the digits so far and one more fit
fits : (mark i : ℕ) (bs : List ℕ) → i ≤ 7 → 0 < i → mark ≡ digits (7 - i) (drop i bs) (min (length bs) 8) → AreBytes bs
    → mark * 256 + 255 < 18446744073709551616
fits mark i bs most some e h =
    rw e (digits-fit (7 - i) (drop i bs) (min (length bs) 8) (omega arith) (omega arith) (AreBytes-drop i bs h))

-- a digit more
more : (mark i : ℕ) (bs : List ℕ) → i ≤ 7 → 0 < i → mark ≡ digits (7 - i) (drop i bs) (min (length bs) 8)
    → mark * 256 + get_or bs (i - 1) 0 ≡ digits (7 - (i - 1)) (drop (i - 1) bs) (min (length bs) 8)
more mark zero bs most some e = absurd (omega (arith, some))
more mark (suc j) bs most some e =
    let one_less : suc j - 1 ≡ j = omega arith in
    let one_more : 7 - j ≡ suc (7 - suc j) = omega arith in
    rw one_less (rw one_more (rw e (sym (digits-at (7 - suc j) j bs (min (length bs) 8)))))

pub overflow_mul-mark : goal.overflow_mul-mark
overflow_mul-mark c =
    let now = c.loop-at in
    omega (arith, fits now.mark now.at c.args.name.now now.invariant.0 (omega arith) now.invariant.1 (are_bytes _ c.type_inv.name))

pub overflow_add-mark : goal.overflow_add-mark
overflow_add-mark c =
    let now = c.loop-at in
    omega (arith, fits now.mark now.at c.args.name.now now.invariant.0 (omega arith) now.invariant.1 (are_bytes _ c.type_inv.name), c.byte_at.type_inv)

pub loop-at-preserved : goal.loop-at-preserved
loop-at-preserved c =
    let now = c.loop-at in
    (omega (arith, now.invariant.0), rw c.byte_at.ensures (more now.mark now.at c.args.name.now now.invariant.0 (omega arith) now.invariant.1))

pub returns-clause-bytes : goal.returns-clause-bytes
returns-clause-bytes c = are_bytes _ c.type_inv.name
