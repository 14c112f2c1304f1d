-- Laws of visits: their bytes come to a state, and what is asked stays.
use Rattle.std.specs.Prelude.{◌≡◌, ℕ, List, ◌++◌}
use Rattle.wf_http_serve.specs.Visits.{Asks, VisitState, VisitOf}
use Rattle.wf_value.specs.Events.{Headers}
use Rattle.wf_value.specs.HttpBody.{Close}
use Rattle.wf_value.specs.Pairs.{Text}

-- the bytes of each visit come to a state: a function of them and of how the connection stands, which computes
abbrev pub EachVisitHasAState : Type 0
EachVisitHasAState = (heard : List ℕ) (close : Close) → (s : VisitState) × VisitOf heard close s

-- what is asked stays, whatever is heard behind it and however the connection stands
abbrev pub AskedStays : Type 0
AskedStays = (heard more : List ℕ) (close later : Close) (method target : Text) (fields : Headers) (body : List ℕ)
    → VisitOf heard close (Asks method target fields body) → VisitOf (heard ++ more) later (Asks method target fields body)

-- what a visit asks that has heard a front of this text
pub record AskedOfAFront (text : List ℕ) (asked : VisitState) : Type 0 where
  pub front : List ℕ
  pub rest : List ℕ
  pub close : Close
  pub method : Text
  pub target : Text
  pub fields : Headers
  pub body : List ℕ
  pub is : asked ≡ Asks method target fields body
  pub parts : text ≡ front ++ rest
  pub heard : VisitOf front close asked

-- fronts of one text ask the same, if they ask anything
abbrev pub FrontsAskOne : Type 0
FrontsAskOne = (text : List ℕ) (one other : VisitState) → AskedOfAFront text one → AskedOfAFront text other → one ≡ other
