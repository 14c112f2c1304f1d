-- The head of an answer, and the interim heads before it (RFC 9110, section 15.2). Heads are those of `httparse`.
--     HasHead       the head of the answer, and the bytes behind it
--     IsHeadless    a head isn't whole yet
--     IsBadHead     no head can come, each that can is too long, or a whole one has too many fields
use Rattle.std.specs.Prelude.{◌≡◌, ℕ, ◌<◌, ◌≤◌, Bool, ◌&&◌, ◌⊎◌, List, ◌++◌, length, drop, nat_le, All, IsTrue, IsFalse}
use Rattle.std.specs.List.{flat_map}
use Rattle.httparse.specs.Grammar.{ResponseHead, ReadsResponse, status_code, IsResponseHead, print_response, NeverHasResponse, HasNoResponse, MayBecomeResponse}
use Rattle.wf_value.specs.HttpBody.{head_limit, field_limit, IsSmallHead}

-- heads of these codes are skipped
abbrev pub is_interim_code : ℕ → Bool
is_interim_code code = nat_le 100 code && nat_le code 199

abbrev pub is_interim : ResponseHead → Bool
is_interim h = is_interim_code (status_code h)

-- within the limits on its bytes and its fields
abbrev pub IsSmallResponse : ResponseHead → Type 0
IsSmallResponse h = IsSmallHead (print_response h) h.fields

-- interim heads, and then rest
pub record SkipsHeads (heard : List ℕ) (interim : List ResponseHead) (rest : List ℕ) : Type 0 where
  pub heads : All IsResponseHead interim
  pub codes : All (λ h. IsTrue (is_interim h)) interim
  pub small : All IsSmallResponse interim
  pub bytes : heard ≡ flat_map print_response interim ++ rest

-- the rest behind all interim heads so far
abbrev pub BehindInterim : List ℕ → (List ℕ → Type 0) → Type 0
BehindInterim heard P = (interim : List ResponseHead) × (rest : List ℕ) × SkipsHeads heard interim rest × P rest

-- so many bytes at the front are interim heads
abbrev pub IsPassed : List ℕ → ℕ → Type 0
IsPassed heard n = (interim : List ResponseHead) × SkipsHeads heard interim (drop n heard)

-- the head of the answer, and the bytes behind it
pub record HasHead (heard : List ℕ) (h : ResponseHead) (b : List ℕ) : Type 0 where
  pub interim : List ResponseHead
  pub rest : List ℕ
  pub skips : SkipsHeads heard interim rest
  pub reads : ReadsResponse rest h b
  pub final : IsFalse (is_interim h)
  pub small : IsSmallResponse h

-- a head isn't whole yet
pub record IsHeadless (rest : List ℕ) : Type 0 where
  pub none : HasNoResponse rest
  pub possible : MayBecomeResponse rest
  pub short : length rest ≤ head_limit

-- each head that can still come is too long
pub record IsLongHead (rest : List ℕ) : Type 0 where
  pub heard : head_limit < length rest
  pub heads : (h : ResponseHead) (b : List ℕ) → ReadsResponse rest h b → head_limit < length (print_response h)

-- a whole head with too many fields
abbrev pub IsCrowdedHead : List ℕ → Type 0
IsCrowdedHead rest = (h : ResponseHead) × (b : List ℕ) × ReadsResponse rest h b × (field_limit < length h.fields)

abbrev pub IsBadHead : List ℕ → Type 0
IsBadHead rest = NeverHasResponse rest ⊎ (IsLongHead rest ⊎ IsCrowdedHead rest)
