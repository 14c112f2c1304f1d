-- There is a meaning of the bytes of visits: it is made of their states.
use Rattle.std.proofs.Common.{◌≡◌, ◌⊎◌, ℕ, Bool, true, false, List, refl, ap, inl, inr}
use Rattle.std.proofs.Math.Logic.{∥∥₁_elim}
use Rattle.std.specs.Coded.{Coded, Coded-set, code_by, coded_bool, coded_list, coded_ℕ, coded×, coded⊎}
use Rattle.wf_deeds.specs.Outside.{Outside}
use Rattle.wf_deeds.specs.Verdicts.{IsState, is_known, by_state, verdict_of, ThereIsAnOutside}
use Rattle.wf_http_serve.specs.VisitLaws.{EachVisitHasAState}
use Rattle.wf_http_serve.specs.Visits.{HasOneState, VisitState, NotYet, Bad, TooLarge, Asks}
use Rattle.wf_value.specs.Events.{Headers}
use Rattle.wf_value.specs.HttpBody.{Close}
use Rattle.wf_value.specs.Pairs.{Text}

-- ## States are data
abbrev Parts : Type 0
Parts = (Text × (Text × (Headers × List ℕ))) ⊎ (Bool ⊎ Bool)

abbrev parts_of : VisitState → Parts
parts_of (Asks method target fields body) = inl (method, (target, (fields, body)))
parts_of NotYet = inr (inl false)
parts_of Bad = inr (inl true)
parts_of TooLarge = inr (inr true)

abbrev of_parts : Parts → VisitState
of_parts (inl p) = Asks p.0 p.1.0 p.1.1.0 p.1.1.1
of_parts (inr (inl false)) = NotYet
of_parts (inr (inl true)) = Bad
of_parts (inr (inr b)) = TooLarge

as_before : (s : VisitState) → of_parts (parts_of s) ≡ s
as_before (Asks method target fields body) = refl
as_before NotYet = refl
as_before Bad = refl
as_before TooLarge = refl

coded_bytes : Coded (List ℕ)
coded_bytes = coded_list coded_ℕ

coded_parts : Coded Parts
coded_parts = coded⊎ (coded× coded_bytes (coded× coded_bytes (coded× (coded_list (coded× coded_bytes coded_bytes)) coded_bytes))) (coded⊎ coded_bool coded_bool)

states_are_a_set : IsSet VisitState
states_are_a_set = Coded-set (code_by Parts coded_parts parts_of of_parts as_before)

-- ## The meaning
module _ (one : HasOneState) (each : EachVisitHasAState) where
  abbrev state : List ℕ → Close → VisitState
  state bytes close = (each bytes close).0

  same : (bytes : List ℕ) (close : Close) (s : VisitState) → IsState bytes close s → state bytes close ≡ s
  same bytes close s x = ∥∥₁_elim x (states_are_a_set (state bytes close) s) (λ p. one bytes close (state bytes close) s (each bytes close).1 p)

  abbrev made : Outside
  made = record { is_asked = λ bytes close. is_known (state bytes close); verdict = λ c crowded bytes close. verdict_of c crowded (state bytes close) }

pub there_is_an_outside : HasOneState → EachVisitHasAState → ThereIsAnOutside
there_is_an_outside one each = (
  made one each,
  record {
    asked = λ bytes close s x. ap is_known (same one each bytes close s x);
    crowded = λ c bytes close. refl;
    verdict = λ c bytes close s x. ap (by_state c) (same one each bytes close s x);
  },
)
