-- What was told of a call comes to one answer.
use Rattle.std.proofs.Common.{◌≡◌, ◌⊎◌, ℕ, Bool, true, false, List, Option, None, refl, inl, inr}
use Rattle.std.proofs.Math.Logic.{∥∥₁_elim}
use Rattle.std.specs.Coded.{Coded, Coded-set, code_by, coded_bool, coded_list, coded_option, coded_ℕ, coded×, coded⊎}
use Rattle.wf_deeds.specs.Deeds.{Told, nothing_told, IsAnswered}
use Rattle.wf_http_in.specs.AnswerOf.{HasOneAnswer, NoneAtFirst}
use Rattle.wf_value.specs.Events.{Headers, Reply, Response, Broken, TooLong}

-- ## Answers are data
abbrev Parts : Type 0
Parts = (ℕ × (Headers × List ℕ)) ⊎ Bool

abbrev parts_of : Reply → Parts
parts_of (Response code fields body) = inl (code, (fields, body))
parts_of Broken = inr false
parts_of TooLong = inr true

abbrev of_parts : Parts → Reply
of_parts (inl p) = Response p.0 p.1.0 p.1.1
of_parts (inr false) = Broken
of_parts (inr true) = TooLong

as_before : (a : Reply) → of_parts (parts_of a) ≡ a
as_before (Response code fields body) = refl
as_before Broken = refl
as_before TooLong = refl

coded_bytes : Coded (List ℕ)
coded_bytes = coded_list coded_ℕ

coded_parts : Coded Parts
coded_parts = coded⊎ (coded× coded_ℕ (coded× (coded_list (coded× coded_bytes coded_bytes)) coded_bytes)) coded_bool

coded_reply : Coded Reply
coded_reply = code_by Parts coded_parts parts_of of_parts as_before

answers_are_a_set : IsSet (Option Reply)
answers_are_a_set = Coded-set (coded_option coded_reply)

-- ## One answer
abbrev pub OneAnswered : Type 0
OneAnswered = (t : Told) (a b : Option Reply) → IsAnswered t a → IsAnswered t b → a ≡ b

pub one_answered : HasOneAnswer → OneAnswered
one_answered one t a b x y = ∥∥₁_elim x (answers_are_a_set a b) (λ p. ∥∥₁_elim y (answers_are_a_set a b) (λ q. one t.bytes t.close a b p q))

-- before anything is told there is none
pub none_answered : NoneAtFirst → IsAnswered nothing_told None
none_answered none = ∣ none ∣₁
