-- A head has at least three bytes for each field, so short bytes hold few fields.
use Rattle.std.proofs.Common.{◌≡◌, ℕ, ◌+◌, ◌*◌, ◌<◌, ◌≤◌, List, [], ◌∷◌, ◌++◌, length, ap, refl, arith, length-append, append-nil, sym}
use Rattle.std.specs.Prelude.{All, None, codes}
use Rattle.std.specs.Char.{is_ascii_digit}
use Rattle.std.proofs.lemmas.List.Elements.{All-nil}
use Rattle.std.proofs.lemmas.List.Sums.{AllPass-from_list_all}
use Rattle.wf_lemmas.proofs.Lists.{end_length}
use Rattle.httparse.specs.Grammar.{crlf, MayBecomeResponse, print_end, print_blank, print_version, print_reason, IsField, print_section, ResponseHead, IsResponseHead, print_response, HasNoResponse}
use Rattle.httparse.specs.Spans.{ResponseExceeds}
use Rattle.wf_http_body.proofs.Sizes.{section_three}

response_three : (h : ResponseHead) → All IsField h.fields → 3 * length h.fields + 1 ≤ length (print_response h)
unfolding print_response
response_three h all =
    let here = section_three h.fields h.last all in
    let more = end_length (print_blank h.blank ++ print_version h.minor ++ 32 ∷ h.digits ++ print_reason h.reason ++ print_end h.line_end) (print_section h.fields h.last) in
    omega arith

pub few_fields : (buf : List ℕ) (room : ℕ) → ResponseExceeds room buf → 3 * room < length buf
few_fields buf room x =
    let front = x.0 in let rest = x.1 in let h = x.3 in
    let size : length (front ++ 10 ∷ []) ≡ length (print_response h ++ []) = ap length x.4.1 in
    let big = response_three h x.4.0.fields in
    let all : length buf ≡ length (front ++ rest) = ap length x.2 in
    omega (arith, length-append front (10 ∷ []), length-append front rest, length-append (print_response h) [])

-- a head has bytes
pub head_some : (h : ResponseHead) → IsResponseHead h → 1 ≤ length (print_response h)
head_some h is =
    let big = response_three h is.fields in
    omega arith

pub nothing_is_no_head : HasNoResponse []
nothing_is_no_head h rest x =
    let some = head_some h x.0 in
    let size : 0 ≡ length (print_response h ++ rest) = ap length x.1 in
    omega (arith, length-append (print_response h) rest)

ok_head : ResponseHead
ok_head = record { blank = []; minor = 1; digits = codes "200"; reason = None; line_end = crlf; fields = []; last = crlf }

ok_is_head : IsResponseHead ok_head
unfolding ok_head
ok_is_head = record {
  minor = omega arith;
  digits = (refl, AllPass-from_list_all is_ascii_digit (codes "200") refl);
  reason = All-nil _;
  fields = All-nil _;
}

-- of no bytes a head may come
pub may_begin : MayBecomeResponse []
may_begin = (print_response ok_head, ok_head, (ok_is_head, sym (append-nil (print_response ok_head))))
