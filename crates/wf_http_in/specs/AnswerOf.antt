-- The answer to a call, of all bytes heard of it and of how the connection stands.
--     AnswerOf        none yet, a response, a broken connection, or a body that is too long
--     HasOneAnswer    the same bytes have one answer
--     NoneAtFirst     before anything is heard there is none
--     AnswersAreSmall    each answer is within the limits on heads and bodies
use Rattle.std.specs.Prelude.{⊤, ◌≡◌, ◌≢◌, ◌⊎◌, ◌≤◌, ◌+◌, ℕ, List, [], length, Some, None, Option}
use Rattle.std.specs.List.{sum_by}
use Rattle.httparse.specs.Grammar.{ResponseHead, status_code}
use Rattle.wf_value.specs.Events.{Headers, Reply, Response, Broken, TooLong}
use Rattle.wf_value.specs.HttpBody.{Close, Open, BodyState, Complete, Waiting, Malformed, Oversize, Framing, headers_of, field_limit, head_limit}
use Rattle.wf_http_in.specs.Bodies.{answer_limit, framing_of, IsBody}
use Rattle.wf_http_in.specs.Heads.{HasHead, BehindInterim, IsBadHead, IsHeadless}

abbrev pub framing : ResponseHead → Framing
framing h = framing_of (status_code h) (headers_of h.fields)

-- the bytes behind the answer's head are a body in this state
abbrev pub HasBody : List ℕ → Close → ResponseHead → BodyState → Type 0
HasBody heard close h s = (b : List ℕ) × HasHead heard h b × IsBody answer_limit (framing h) close b s

abbrev pub HasSomeBody : List ℕ → Close → BodyState → Type 0
HasSomeBody heard close s = (h : ResponseHead) × HasBody heard close h s

-- what the answer is
abbrev pub IsReply : List ℕ → Close → Reply → Type 0
IsReply heard close (Response code fields body) =
    (h : ResponseHead) × HasBody heard close h (Complete body) × (code ≡ status_code h) × (fields ≡ headers_of h.fields)
IsReply heard close TooLong = HasSomeBody heard close Oversize
IsReply heard close Broken =
    HasSomeBody heard close Malformed ⊎ (BehindInterim heard IsBadHead ⊎ ((close ≢ Open) × BehindInterim heard IsHeadless))

-- there is none yet where the connection is open and a head or a body isn't whole
abbrev pub AnswerOf : List ℕ → Close → Option Reply → Type 0
AnswerOf heard close (Some a) = IsReply heard close a
AnswerOf heard close None = (close ≡ Open) × (HasSomeBody heard close Waiting ⊎ BehindInterim heard IsHeadless)

abbrev pub HasOneAnswer : Type 0
HasOneAnswer = (heard : List ℕ) (close : Close) (a b : Option Reply) → AnswerOf heard close a → AnswerOf heard close b → a ≡ b

abbrev pub NoneAtFirst : Type 0
NoneAtFirst = AnswerOf [] Open None

-- the bytes of the names and values of fields
abbrev pub fields_size : Headers → ℕ
fields_size fields = sum_by (λ f. length f.0 + length f.1) fields

-- within the limits
pub record IsSmallResponse (code : ℕ) (fields : Headers) (body : List ℕ) : Type 0 where
  pub code_most : code ≤ 999
  pub few : length fields ≤ field_limit
  pub short : fields_size fields ≤ head_limit
  pub body_most : length body ≤ answer_limit

abbrev pub IsSmall : Reply → Type 0
IsSmall (Response code fields body) = IsSmallResponse code fields body
IsSmall Broken = ⊤
IsSmall TooLong = ⊤

abbrev pub AnswersAreSmall : Type 0
AnswersAreSmall = (heard : List ℕ) (close : Close) (a : Reply) → AnswerOf heard close (Some a) → IsSmall a
