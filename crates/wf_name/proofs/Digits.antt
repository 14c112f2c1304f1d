-- Digits of marks.
--     digits-at             a digit more
--     digits-fit            a digit more fits in 64 bits
--     AreBytes-drop         the bytes behind others
--     AreBytes-each         bytes at each place
use Rattle.std.proofs.Common.{◌≡◌, ◌+◌, ◌*◌, ◌<◌, ◌≤◌, ℕ, zero, suc, List, [], ◌∷◌, drop, get_or, refl, arith}
use Rattle.wf_name.specs.Marks.{AreBytes, digits}

-- a number above so many digits
abbrev scaled : ℕ → ℕ → ℕ
scaled zero m = m
scaled (suc n) m = scaled n m * 256

scaled-rises : (n m k : ℕ) → m ≤ k → scaled n m ≤ scaled n k
scaled-rises zero m k h = h
scaled-rises (suc n) m k h = omega (arith, scaled-rises n m k h)

scaled-grows : (n k m : ℕ) → n ≤ k → scaled n m ≤ scaled k m
scaled-grows zero zero m h = omega arith
scaled-grows zero (suc k) m h = omega (arith, scaled-grows zero k m (omega arith))
scaled-grows (suc n) zero m h = absurd (omega (arith, h))
scaled-grows (suc n) (suc k) m h = omega (arith, scaled-grows n k m (omega (arith, h)))

below : (n : ℕ) (bs : List ℕ) (m : ℕ) → AreBytes bs → digits n bs m < scaled n (m + 1)
below zero bs m h = omega arith
below (suc n) [] m h = omega (arith, below n [] m tt)
below (suc n) (b ∷ bs) m h = omega (arith, below n bs m h.1, h.0)

pub digits-fit : (n : ℕ) (bs : List ℕ) (m : ℕ) → n ≤ 6 → m ≤ 8 → AreBytes bs → digits n bs m * 256 + 255 < 18446744073709551616
digits-fit n bs m small most h =
    omega (arith, below n bs m h, scaled-rises n (m + 1) 9 (omega (arith, most)), scaled-grows n 6 9 small)

pub digits-at : (n i : ℕ) (bs : List ℕ) (m : ℕ) → digits (suc n) (drop i bs) m ≡ digits n (drop (suc i) bs) m * 256 + get_or bs i 0
digits-at n zero [] m = omega arith
digits-at n (suc i) [] m = omega arith
digits-at n zero (b ∷ bs) m = refl
digits-at n (suc i) (b ∷ bs) m = digits-at n i bs m

pub AreBytes-drop : (i : ℕ) (bs : List ℕ) → AreBytes bs → AreBytes (drop i bs)
AreBytes-drop zero bs h = h
AreBytes-drop (suc i) [] h = tt
AreBytes-drop (suc i) (b ∷ bs) h = AreBytes-drop i bs h.1

pub AreBytes-each : (bs : List ℕ) → ((k : ℕ) → get_or bs k 0 < 256) → AreBytes bs
AreBytes-each [] h = tt
AreBytes-each (b ∷ bs) h = (h 0, AreBytes-each bs (λ k. h (suc k)))
