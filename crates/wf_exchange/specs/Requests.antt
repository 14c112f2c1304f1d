-- Requests that were heard in part.
--     IsCall            a call whose request is sent as it is
--     RequestIsRead     a front of a call's request asks with the call's identifier, or asks nothing
--     NoFrontIsWhole    and where it asks anything it is all of it
--     GoalsAreSent      what is sent of a URL that leads somewhere is sent as it is
use Rattle.std.specs.Prelude.{◌≡◌, ℕ, ◌≤◌, ◌<◌, ◌^◌, true, List, [], ◌∷◌, ◌++◌, length, codes, decimal, Ok}
use Rattle.std.specs.List.{list_all}
use Rattle.wf_http_serve.specs.Visits.{VisitOf, Asks}
use Rattle.wf_value.specs.Events.{Headers, Routes}
use Rattle.wf_value.specs.HttpBody.{Close}
use Rattle.wf_value.specs.HttpRequest.{Asked, request_text, good_fields, with_query, payload, payload_bytes}
use Rattle.wf_value.specs.HttpText.{values_of}
use Rattle.wf_value.specs.HttpUrl.{Goal, goal, is_url_byte}
use Rattle.wf_value.specs.Pairs.{Text}

-- a target and an authority of visible ASCII
pub record IsSent (g : Goal) (a : Asked) : Type 0 where
  -- the target isn't empty
  pub some : 1 ≤ length (with_query g.target a.query)
  pub target : list_all is_url_byte (with_query g.target a.query) ≡ true
  pub authority : list_all is_url_byte g.authority ≡ true

-- the id of an execution: visible ASCII, and not empty
pub record IsId (id : Text) : Type 0 where
  pub some : 1 ≤ length id
  pub bytes : list_all is_url_byte id ≡ true

-- a call of an execution with this id, by its number, that asks this of a goal
pub record IsCall (g : Goal) (a : Asked) (id : Text) (k : ℕ) : Type 0 where
  pub sent : IsSent g a
  pub of_id : IsId id
  pub number : k < 2 ^ 64
  -- its own fields may be sent
  pub fields : good_fields [] a.fields ≡ true

-- the identifier of a call
abbrev pub call_id : Text → ℕ → Text
call_id id k = id ++ codes "-" ++ decimal k

-- the front of a call's request, if it asks anything, has one identifier, and it is the call's
abbrev pub RequestIsRead : Type 0
RequestIsRead = (g : Goal) (a : Asked) (id : Text) (k : ℕ) (front rest : List ℕ) (close : Close) (method target : Text) (fields : Headers) (body : List ℕ)
    → IsCall g a id k → request_text g a id k ≡ front ++ rest → VisitOf front close (Asks method target fields body)
    → values_of (codes "x-workflow-call") fields ≡ call_id id k ∷ []

-- a front of a call's request that asks anything is all of it: no strict front of it is a whole request
abbrev pub NoFrontIsWhole : Type 0
NoFrontIsWhole = (g : Goal) (a : Asked) (id : Text) (k : ℕ) (front rest : List ℕ) (close : Close) (method target : Text) (fields : Headers) (body : List ℕ)
    → IsCall g a id k → length (payload_bytes (payload a.body)) < 2 ^ 64 → request_text g a id k ≡ front ++ rest → VisitOf front close (Asks method target fields body)
    → rest ≡ []

-- what is sent of a URL that leads somewhere, with any query
abbrev pub GoalsAreSent : Type 0
GoalsAreSent = (s : Text) (routes : Routes) (g : Goal) (a : Asked) → goal s routes ≡ Ok g → IsSent g a
