-- A field line has at least three bytes, so short bytes hold few fields.
use Rattle.std.proofs.Common.{◌≡◌, ℕ, ◌+◌, ◌*◌, ◌<◌, ◌≤◌, List, [], ◌∷◌, ◌++◌, length, ap, arith, length-append}
use Rattle.std.specs.Prelude.{All}
use Rattle.wf_lemmas.proofs.Lists.{end_length}
use Rattle.httparse.specs.Grammar.{print_end, print_blank, print_version, IsField, print_section, RequestHead, print_request, HasNoRequest}
use Rattle.httparse.specs.Spans.{RequestExceeds}
use Rattle.wf_http_body.proofs.Sizes.{section_three}

request_three : (h : RequestHead) → All IsField h.fields → 3 * length h.fields + 1 ≤ length (print_request h)
unfolding print_request
request_three h all =
    let here = section_three h.fields h.last all in
    let more = end_length (print_blank h.blank ++ h.method ++ 32 ∷ h.target ++ 32 ∷ print_version h.minor ++ print_end h.line_end) (print_section h.fields h.last) in
    omega arith

pub few_request_fields : (buf : List ℕ) (room : ℕ) → RequestExceeds room buf → 3 * room < length buf
few_request_fields buf room x =
    let front = x.0 in let rest = x.1 in let h = x.3 in
    let size : length (front ++ 10 ∷ []) ≡ length (print_request h ++ []) = ap length x.4.1 in
    let big = request_three h x.4.0.fields in
    let all : length buf ≡ length (front ++ rest) = ap length x.2 in
    omega (arith, length-append front (10 ∷ []), length-append front rest, length-append (print_request h) [])

-- a head has bytes
pub nothing_is_no_head : HasNoRequest []
nothing_is_no_head h rest x =
    let some = request_three h x.0.fields in
    let size : 0 ≡ length (print_request h ++ rest) = ap length x.1 in
    omega (arith, length-append (print_request h) rest)
