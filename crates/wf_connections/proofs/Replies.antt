-- Small answers have a spelling, which is short.
use Rattle.std.proofs.Common.{◌≡◌, ℕ, ◌+◌, ◌*◌, ◌≤◌, List, [], ◌∷◌, ◌++◌, length, Option, Some, None, option_map, IfSome, arith, length-append}
use Rattle.std.proofs.Math.Logic.{∥∥₁_elim}
use Rattle.std.specs.Coded.{Unit-prop, le_prop}
use Rattle.std.specs.List.{flat_map, AllByRecursion}
use Rattle.std.proofs.lemmas.List.Sums.{sum_by-cons}
use Rattle.wf_deeds.specs.Deeds.{Told, IsAnswered}
use Rattle.wf_http_in.specs.AnswerOf.{AnswersAreSmall, IsSmall, IsSmallResponse, fields_size}
use Rattle.wf_record_parts.specs.Spelling.{IsField, IsReply, four, headers, pair, reply, string, two}
use Rattle.wf_record_parts.specs.View.{reply_view}
use Rattle.wf_record_parts.specs.declared.reply.Reply.{Reply as Stored}
use Rattle.wf_value.specs.Events.{Headers, Reply, Response, Broken, TooLong}

-- being small has at most one proof
small_response_prop : (code : ℕ) (fields : Headers) (body : List ℕ) → IsProp (IsSmallResponse code fields body)
small_response_prop code fields body = hlevel le_prop

pub small_prop : (a : Reply) → IsProp (IsSmall a)
small_prop (Response code fields body) = small_response_prop code fields body
small_prop Broken = Unit-prop
small_prop TooLong = Unit-prop

size_more : (f : List ℕ × List ℕ) (fs : Headers) → fields_size (f ∷ fs) ≡ (length f.0 + length f.1) + fields_size fs
size_more f fs = sum_by-cons (λ (g : List ℕ × List ℕ). length g.0 + length g.1) f fs

fields_fit : (fs : Headers) → fields_size fs ≤ 65536 → AllByRecursion IsField fs
fields_fit [] short = tt
fields_fit (f ∷ fs) short =
    let size = size_more f fs in
    ((omega (arith, size, short), omega (arith, size, short)), fields_fit fs (omega (arith, size, short)))

pub small_is_reply : (a : Reply) → IsSmall a → IsReply a
small_is_reply (Response code fields body) small = (
  omega (arith, small.code_most),
  (omega (arith, small.few), fields_fit fields small.short),
  omega (arith, small.body_most),
)
small_is_reply Broken small = tt
small_is_reply TooLong small = tt

string_size : (s : List ℕ) → length (string s) ≡ 4 + length s
string_size s = length-append (four (length s)) s

pair_size : (f : List ℕ × List ℕ) → length (pair f) ≡ (8 + length f.0) + length f.1
pair_size f = omega (arith, length-append (string f.0) (string f.1), string_size f.0, string_size f.1)

pairs_size : (fs : Headers) → length (flat_map pair fs) ≡ 8 * length fs + fields_size fs
pairs_size [] = omega arith
pairs_size (f ∷ fs) =
    let bytes : length (flat_map pair (f ∷ fs)) ≡ length (pair f) + length (flat_map pair fs) = length-append (pair f) (flat_map pair fs) in
    omega (arith, bytes, pairs_size fs, pair_size f, size_more f fs)

headers_size : (fs : Headers) → length (headers fs) ≡ (4 + 8 * length fs) + fields_size fs
headers_size fs =
    let bytes : length (headers fs) ≡ 4 + length (flat_map pair fs) = length-append (four (length fs)) (flat_map pair fs) in
    omega (arith, bytes, pairs_size fs)

pub small_is_short : (a : Reply) → IsSmall a → length (reply a) ≤ 2200000
small_is_short (Response code fields body) small =
    let all : length (reply (Response code fields body)) ≡ length ((0 ∷ two code) ++ headers fields) + length (string body) = length-append ((0 ∷ two code) ++ headers fields) (string body) in
    let head : length ((0 ∷ two code) ++ headers fields) ≡ 3 + length (headers fields) = length-append (0 ∷ two code) (headers fields) in
    omega (arith, all, head, headers_size fields, string_size body, small.few, small.short, small.body_most)
small_is_short Broken small = omega arith
small_is_short TooLong small = omega arith

-- ## What is read as an answer
small_answer : AnswersAreSmall → (t : Told) (r : Stored) → IsAnswered t (Some (reply_view r)) → IsSmall (reply_view r)
small_answer law t r answered = ∥∥₁_elim answered (small_prop (reply_view r)) (λ p. law t.bytes t.close (reply_view r) p)

pub answer_is_spelled : AnswersAreSmall → (t : Told) (a : Option Stored) → IsAnswered t (option_map reply_view a) → IfSome a (λ r. IsReply (reply_view r))
answer_is_spelled law t None answered = tt
answer_is_spelled law t (Some r) answered = small_is_reply (reply_view r) (small_answer law t r answered)

pub answer_is_short : AnswersAreSmall → (t : Told) (a : Option Stored) → IsAnswered t (option_map reply_view a) → IfSome a (λ r. length (reply (reply_view r)) ≤ 2200000)
answer_is_short law t None answered = tt
answer_is_short law t (Some r) answered = small_is_short (reply_view r) (small_answer law t r answered)
