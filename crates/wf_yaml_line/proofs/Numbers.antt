-- Numbers only grow with more digits.
use Rattle.std.proofs.Common.{◌≡◌, ℕ, suc, ◌+◌, ◌*◌, ◌<◌, ◌≤◌, List, [], ◌∷◌, length, get_or, drop, sym, ap, ◌∙◌, arith, drop-cons}
use Rattle.std.proofs.lemmas.List.{get_or_read}
use Rattle.std.proofs.Math.Nat.{mul-le-mul_right}
use Rattle.wf_yaml_line.specs.Words.{number_from, digit_of}

stays : (base n d : ℕ) → 1 ≤ base → n ≤ base * n + d
stays base n d h = omega (arith, mul-le-mul_right n h)

grows : (base n : ℕ) (r : List ℕ) → 1 ≤ base → n ≤ number_from base n r
grows base n [] h = omega arith
grows base n (b ∷ r) h = omega (arith, stays base n (digit_of b) h, grows base (base * n + digit_of b) r h)

-- the number is no less than what a loop has after the digit x at i
pub has_at_least : (base n i x d whole : ℕ) (s : List ℕ) → 1 ≤ base → i < length s → x ≡ get_or s i x → d ≡ digit_of x → number_from base n (drop i s) ≡ whole → base * n + d ≤ whole
has_at_least base n i x d whole s one h r e k =
    let cut : drop i s ≡ x ∷ drop (suc i) s = drop-cons s i 0 h ∙ ap (λ y. y ∷ drop (suc i) s) (sym (get_or_read s i x h r 0)) in
    let more = grows base (base * n + digit_of x) (drop (suc i) s) one in
    let all : number_from base (base * n + digit_of x) (drop (suc i) s) ≡ whole = sym (ap (number_from base n) cut) ∙ k in
    omega (arith, more, all, e)
