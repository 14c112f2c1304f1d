-- A request that comes to a callback, of all bytes heard of it (RFC 9112).
--     VisitOf        not yet a request, a bad one, one that is too large, or what is asked
--     HasOneState    the same bytes come to one of these
use Rattle.std.specs.Prelude.{◌≡◌, ℕ, ◌<◌, ◌≤◌, Bool, true, false, ◌≢◌, ◌⊎◌, List, [], ◌∷◌, length, if◌then◌else◌, ◌==◌, IsTrue}
use Rattle.std.specs.List.{list_any}
use Rattle.httparse.specs.Grammar.{RequestHead, ReadsRequest, print_request, NeverHasRequest, HasNoRequest}
use Rattle.httparse.specs.Pieces.{is_newline}
use Rattle.wf_value.specs.Events.{Headers}
use Rattle.wf_value.specs.HttpBody.{Close, Open, BodyState, Complete, Waiting, Malformed, Oversize, Framing, NoBody, OfLength, InChunks, ToTheEnd, BadFraming, headers_of, by_length, lengths_in, by_fields, length_state, end_state, head_limit, field_limit, IsSmallHead}
use Rattle.wf_value.specs.Pairs.{Text}
use Rattle.wf_http_body.specs.Chunks.{IsChunkedBody}

pub data VisitState : Type 0 where
  NotYet : VisitState
  Bad : VisitState
  TooLarge : VisitState
  Asks : (method target : Text) → (headers : Headers) → (body : List ℕ) → VisitState

-- ## Heads
-- a line feed stands behind the first byte that is neither CR nor LF
abbrev pub has_first_line : List ℕ → Bool
has_first_line [] = false
has_first_line (b ∷ s) = if is_newline b then has_first_line s else list_any (λ c. c == 10) s

pub record HasHead (heard : List ℕ) (h : RequestHead) (b : List ℕ) : Type 0 where
  pub reads : ReadsRequest heard h b
  pub small : IsSmallHead (print_request h) h.fields

-- each head that can still come is too long
pub record IsLongHead (heard : List ℕ) : Type 0 where
  pub heard_more : head_limit < length heard
  pub heads : (h : RequestHead) (b : List ℕ) → ReadsRequest heard h b → head_limit < length (print_request h)

-- the head is whole, and has too many fields
abbrev pub IsCrowdedHead : List ℕ → Type 0
IsCrowdedHead heard = (h : RequestHead) × (b : List ℕ) × ReadsRequest heard h b × (field_limit < length h.fields)

-- the first line is there and no head can come, or the head is too large, also where it isn't whole yet
abbrev pub IsBadHead : List ℕ → Type 0
IsBadHead heard = (IsTrue (has_first_line heard) × NeverHasRequest heard) ⊎ (IsLongHead heard ⊎ IsCrowdedHead heard)

-- a head isn't whole yet
pub record IsHeadless (heard : List ℕ) : Type 0 where
  pub none : HasNoRequest heard
  pub possible : IsTrue (has_first_line heard) → ¬ (NeverHasRequest heard)
  pub short : length heard ≤ head_limit

-- ## Bodies
-- the bytes of a body, at most
abbrev pub visit_limit : ℕ
visit_limit = 262144

abbrev pub is_bad_framing : Framing → Bool
is_bad_framing BadFraming = true
is_bad_framing f = false

-- how long a body is: a wrong Content-Length is so beside a Transfer-Encoding too, and a body that no field tells is none
abbrev pub framing : Headers → Framing
framing fs = if is_bad_framing (by_length NoBody (lengths_in fs)) then BadFraming else by_fields NoBody fs

abbrev pub IsVisitBody : Framing → Close → List ℕ → BodyState → Type 0
IsVisitBody NoBody close b s = s ≡ Complete []
IsVisitBody (OfLength n) close b s = s ≡ length_state visit_limit close b n
IsVisitBody InChunks close b s = IsChunkedBody visit_limit close b s
IsVisitBody ToTheEnd close b s = s ≡ end_state visit_limit close b
IsVisitBody BadFraming close b s = s ≡ Malformed

pub record HasBody (heard : List ℕ) (close : Close) (h : RequestHead) (s : BodyState) : Type 0 where
  pub rest : List ℕ
  pub head : HasHead heard h rest
  pub body : IsVisitBody (framing (headers_of h.fields)) close rest s

abbrev pub HasSomeBody : List ℕ → Close → BodyState → Type 0
HasSomeBody heard close s = (h : RequestHead) × HasBody heard close h s

-- ## The states
abbrev pub VisitOf : List ℕ → Close → VisitState → Type 0
VisitOf heard close (Asks method target fields body) =
    (h : RequestHead) × HasBody heard close h (Complete body) × (method ≡ h.method) × (target ≡ h.target) × (fields ≡ headers_of h.fields)
VisitOf heard close TooLarge = HasSomeBody heard close Oversize
VisitOf heard close Bad = HasSomeBody heard close Malformed ⊎ (IsBadHead heard ⊎ ((close ≢ Open) × IsHeadless heard))
VisitOf heard close NotYet = (close ≡ Open) × (HasSomeBody heard close Waiting ⊎ IsHeadless heard)

abbrev pub HasOneState : Type 0
HasOneState = (heard : List ℕ) (close : Close) (v w : VisitState) → VisitOf heard close v → VisitOf heard close w → v ≡ w
