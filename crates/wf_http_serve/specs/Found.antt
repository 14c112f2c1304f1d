-- What the code finds at the front of bytes.
use Rattle.std.specs.Prelude.{◌≡◌, ℕ, ◌≤◌, Bool, true, false, List, ◌++◌, length, take, drop}
use Rattle.httparse.specs.Grammar.{RequestHead, ReadsRequest, HasNoRequest, NeverHasRequest, MayBecomeRequest}
use Rattle.wf_value.specs.HttpBody.{field_limit, headers_of}
use Rattle.wf_http_serve.specs.declared.framing.Framing.{Framing}
use Rattle.wf_http_serve.specs.declared.head.Heading.{Heading}
use Rattle.wf_http_serve.specs.declared.head.Heading.TheVariants as heading
use Rattle.wf_http_serve.specs.declared.head.Look.{Look}
use Rattle.wf_http_serve.specs.declared.head.Look.TheVariants as look
use Rattle.wf_http_serve.specs.declared.request.Request.{Request}
use Rattle.wf_http_serve.specs.Plain.{IsFramed, IsAskedBy}
use Rattle.wf_http_serve.specs.Visits.{HasHead, IsBadHead, IsCrowdedHead, IsHeadless, framing}

-- ## Heads
-- what a whole head is to the code
pub record IsTaken (h : RequestHead) (r : Request) (f : Framing) : Type 0 where
  pub asked : IsAskedBy h r
  pub framed : IsFramed f (framing (headers_of h.fields))

-- a whole head with few fields
pub record IsWholeLook (front : List ℕ) (r : Request) (f : Framing) (len : ℕ) : Type 0 where
  pub head : RequestHead
  pub reads : ReadsRequest front head (drop len front)
  pub within : len ≤ length front
  pub few : length head.fields ≤ field_limit
  pub taken : IsTaken head r f

abbrev pub IsLook : List ℕ → Look → Type 0
IsLook front (look.Whole r f len) = IsWholeLook front r f len
IsLook front look.Crowded = IsCrowdedHead front
IsLook front look.NotYet = HasNoRequest front × MayBecomeRequest front
IsLook front look.Never = NeverHasRequest front

-- a whole head that is taken
pub record IsWholeHead (heard : List ℕ) (r : Request) (f : Framing) (len : ℕ) : Type 0 where
  pub head : RequestHead
  pub has : HasHead heard head (drop len heard)
  pub within : len ≤ length heard
  pub taken : IsTaken head r f

abbrev pub IsHeading : List ℕ → Heading → Type 0
IsHeading heard (heading.Whole r f len) = IsWholeHead heard r f len
IsHeading heard heading.Bad = IsBadHead heard
IsHeading heard heading.NotYet = IsHeadless heard

-- no more bytes are wanted for it
abbrev pub is_settled : Heading → Bool
is_settled heading.NotYet = false
is_settled h = true

-- behind the bytes begun and a front of the piece, which is all of it where no head is whole
pub record IsHeadFound (begun piece heard : List ℕ) (h : Heading) : Type 0 where
  pub front : ℕ
  pub heard_is : heard ≡ begun ++ take front piece
  pub heading_is : IsHeading heard h
  pub all : h ≡ heading.NotYet → take front piece ≡ piece
