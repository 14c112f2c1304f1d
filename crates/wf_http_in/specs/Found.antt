-- What the code finds at the front of bytes.
use Rattle.std.specs.Prelude.{◌≡◌, ℕ, ◌<◌, ◌≤◌, Bool, true, false, List, ◌++◌, length, take, drop, IsTrue, IsFalse, ⊤}
use Rattle.httparse.specs.Grammar.{ResponseHead, ReadsResponse, status_code, HasNoResponse, NeverHasResponse, MayBecomeResponse}
use Rattle.wf_value.specs.HttpBody as plain
use Rattle.wf_value.specs.HttpBody.{field_limit, headers_of}
use Rattle.wf_http_in.specs.declared.framing.Framing.{Framing}
use Rattle.wf_http_in.specs.declared.framing.Framing.TheVariants as framing
use Rattle.wf_http_in.specs.declared.heads.Heading.{Heading}
use Rattle.wf_http_in.specs.declared.heads.Heading.TheVariants as heading
use Rattle.wf_http_in.specs.declared.heads.Look.{Look}
use Rattle.wf_http_in.specs.declared.heads.Look.TheVariants as look
use Rattle.wf_http_in.specs.AnswerOf as answer
use Rattle.wf_http_in.specs.Bodies.{answer_limit}
use Rattle.wf_http_in.specs.HeadData.{HeadData}
use Rattle.wf_http_in.specs.Heads.{IsHeadless, IsBadHead, IsCrowdedHead, IsSmallResponse, IsPassed, is_interim_code}

-- the code's framing is this one
abbrev pub IsFramed : Framing → plain.Framing → Type 0
IsFramed framing.Empty f = f ≡ plain.NoBody
IsFramed (framing.OfLength n) f = (f ≡ plain.OfLength n) × (n ≤ answer_limit)
IsFramed framing.TooLong f = (n : ℕ) × (f ≡ plain.OfLength n) × (answer_limit < n)
IsFramed framing.InChunks f = f ≡ plain.InChunks
IsFramed framing.ToTheEnd f = f ≡ plain.ToTheEnd
IsFramed framing.Bad f = f ≡ plain.BadFraming

-- the code and the fields are those of this head
pub record IsHeadOf (h : ResponseHead) (r : HeadData) : Type 0 where
  pub code : r.code ≡ status_code h
  pub fields : r.fields ≡ headers_of h.fields

-- what a whole head is to the code
pub record IsTaken (h : ResponseHead) (r : HeadData) (f : Framing) : Type 0 where
  pub head : IsHeadOf h r
  pub framed : IsFramed f (answer.framing h)

-- a whole head with few fields
pub record IsWholeLook (front : List ℕ) (r : HeadData) (f : Framing) (len : ℕ) : Type 0 where
  pub head : ResponseHead
  pub reads : ReadsResponse front head (drop len front)
  pub within : len ≤ length front
  pub few : length head.fields ≤ field_limit
  pub taken : IsTaken head r f

abbrev pub IsLook : List ℕ → Look → Type 0
IsLook front (look.Whole r f len) = IsWholeLook front r f len
IsLook front look.Crowded = IsCrowdedHead front
IsLook front look.NotYet = HasNoResponse front × MayBecomeResponse front
IsLook front look.Never = NeverHasResponse front

-- a whole head that is taken
pub record IsWholeHead (rest : List ℕ) (r : HeadData) (f : Framing) (len : ℕ) : Type 0 where
  pub head : ResponseHead
  pub reads : ReadsResponse rest head (drop len rest)
  pub within : len ≤ length rest
  pub small : IsSmallResponse head
  pub taken : IsTaken head r f

abbrev pub IsHeading : List ℕ → Heading → Type 0
IsHeading rest (heading.Whole r f len) = IsWholeHead rest r f len
IsHeading rest heading.Bad = IsBadHead rest
IsHeading rest heading.NotYet = IsHeadless rest

-- it isn't the whole head of an interim answer
abbrev pub IsFinal : Heading → Type 0
IsFinal (heading.Whole r f len) = IsFalse (is_interim_code r.code)
IsFinal h = ⊤

-- it is one, of so many bytes
abbrev pub IsInterim : Heading → ℕ → Type 0
IsInterim (heading.Whole r f len) n = IsTrue (is_interim_code r.code) × (n ≡ len)
IsInterim h n = ⊥

-- no more bytes are wanted for it
abbrev pub is_settled : Heading → Bool
is_settled heading.NotYet = false
is_settled h = true

-- behind the bytes begun and a front of the piece, which is all of it where no head is whole
pub record IsHeadFound (begun piece heard : List ℕ) (n : ℕ) (h : Heading) : Type 0 where
  pub front : ℕ
  pub heard_is : heard ≡ begun ++ take front piece
  pub within : n ≤ length heard
  pub passed : IsPassed heard n
  pub heading_is : IsHeading (drop n heard) h
  pub final : IsFinal h
  pub all : h ≡ heading.NotYet → take front piece ≡ piece
