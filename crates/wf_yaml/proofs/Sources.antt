-- The lines of a source are no longer than it.
use Rattle.std.proofs.Common.{◌≡◌, ℕ, zero, suc, ◌+◌, ◌≤◌, ◌<◌, List, [], ◌∷◌, ◌++◌, length, refl, ap, arith, length-append}
use Rattle.std.specs.List.{AllByRecursion, repeat}
use Rattle.wf_span.specs.Lines.{Placed}
use Rattle.wf_span.specs.Places.{IsLine, StandFrom}

abbrev pub IsSmall : ℕ → Placed → Type 0
IsSmall n p = p.indent + length p.body < n

abbrev a_space : List ℕ
a_space = 32 ∷ []

spaces_length : (n : ℕ) → length (repeat n a_space) ≡ n
spaces_length zero = refl
spaces_length (suc n) = ap suc (spaces_length n)

line_length : (at : ℕ) (source : List ℕ) (l : Placed) (ending rest : List ℕ) → IsLine at source l ending rest → l.indent + length l.body + length rest ≤ length source
line_length at source l ending rest is =
    omega (arith, ap length is.whole, length-append (repeat l.indent a_space) (l.body ++ (ending ++ rest)), length-append l.body (ending ++ rest), length-append ending rest, spaces_length l.indent)

pub lines_small : (n number at : ℕ) (source : List ℕ) (ls : List Placed) → length source < n → StandFrom number at source ls → AllByRecursion (IsSmall n) ls
lines_small n number at source [] h s = tt
lines_small n number at source (l ∷ ls) h s =
    let k = line_length at source l s.0 s.1 s.3 in
    (omega (arith, h, k), lines_small n (suc number) (l.at + (length l.body + length s.0)) s.1 ls (omega (arith, h, k)) s.4)
