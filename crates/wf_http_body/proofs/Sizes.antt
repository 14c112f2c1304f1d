-- A field line has at least three bytes, so short bytes hold few fields.
use Rattle.std.proofs.Common.{◌≡◌, ℕ, ◌+◌, ◌*◌, ◌<◌, ◌≤◌, List, [], ◌∷◌, ◌++◌, length, ap, arith, length-append}
use Rattle.std.specs.Prelude.{All}
use Rattle.std.specs.List.{flat_map}
use Rattle.std.proofs.lemmas.List.Elements.{All-head, All-tail}
use Rattle.httparse.specs.Grammar.{LineEnd, crlf, lf, print_end, Field, print_field, IsField, print_section}
use Rattle.httparse.specs.Spans.{SectionExceeds}

end_some : (e : LineEnd) → 1 ≤ length (print_end e)
end_some crlf = omega arith
end_some lf = omega arith

three : (name raw end : List ℕ) → 0 < length name → 1 ≤ length end → 3 ≤ length (name ++ 58 ∷ raw ++ end)
three name raw end n e = rw (length-append (name ++ 58 ∷ raw) end, length-append name (58 ∷ raw)) (omega arith)

fields_three : (fs : List Field) → All IsField fs → 3 * length fs ≤ length (flat_map print_field fs)
fields_three [] all = omega arith
fields_three (f ∷ fs) all =
    let here : 3 ≤ length (print_field f) = three f.name f.raw (print_end f.end) (All-head IsField f fs all).name.0 (end_some f.end) in
    let later = fields_three fs (All-tail IsField f fs all) in
    rw (length-append (print_field f) (flat_map print_field fs)) (omega arith)

pub section_three : (fs : List Field) (last : LineEnd) → All IsField fs → 3 * length fs + 1 ≤ length (print_section fs last)
section_three fs last all =
    let here = fields_three fs all in
    let end = end_some last in
    rw (length-append (flat_map print_field fs) (print_end last)) (omega arith)

pub few_section_fields : (buf : List ℕ) (room : ℕ) → SectionExceeds room buf → 3 * room < length buf
few_section_fields buf room x =
    let front = x.0 in let rest = x.1 in let fields = x.3 in
    let size : length (front ++ 10 ∷ []) ≡ length (print_section fields lf ++ []) = ap length x.4.1 in
    let big = section_three fields lf x.4.0 in
    let all : length buf ≡ length (front ++ rest) = ap length x.2 in
    omega (arith, length-append front (10 ∷ []), length-append front rest, length-append (print_section fields lf) [])
