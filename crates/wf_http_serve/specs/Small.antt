-- What is asked is within the limits on heads and bodies.
use Rattle.std.specs.Prelude.{◌≡◌, ℕ, ◌+◌, ◌≤◌, List, [], ◌∷◌, length}
use Rattle.std.specs.List.{sum_by}
use Rattle.wf_http_serve.specs.Visits.{Asks, VisitOf, visit_limit}
use Rattle.wf_value.specs.Events.{Headers}
use Rattle.wf_value.specs.HttpBody.{Close, field_limit, head_limit}
use Rattle.wf_value.specs.HttpText.{values_of}
use Rattle.wf_value.specs.Pairs.{Text}

-- the bytes of the names and values of fields
abbrev pub fields_size : Headers → ℕ
fields_size fields = sum_by (λ f. length f.0 + length f.1) fields

-- a request within the limits
pub record IsSmallRequest (target : Text) (fields : Headers) (body : List ℕ) : Type 0 where
  -- 65,536 bytes of target
  pub target_most : length target ≤ head_limit
  -- 100 fields
  pub few : length fields ≤ field_limit
  -- 65,536 bytes of names and values
  pub short : fields_size fields ≤ head_limit
  -- 262,144 bytes of body
  pub body_most : length body ≤ visit_limit

-- each request that a visit asks is within the limits on heads and bodies
abbrev pub VisitsAreSmall : Type 0
VisitsAreSmall = (heard : List ℕ) (close : Close) (method target : Text) (fields : Headers) (body : List ℕ) → VisitOf heard close (Asks method target fields body) → IsSmallRequest target fields body

-- and so is the only value of a name
abbrev pub LoneValuesAreSmall : Type 0
LoneValuesAreSmall = (name value : Text) (fields : Headers) → values_of name fields ≡ value ∷ [] → length value ≤ fields_size fields
