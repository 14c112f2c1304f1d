-- What an engine makes of a visit is what the rules ask.
use Rattle.std.specs.Prelude.{◌≡◌, ℕ, max, Bool, true, false, [], ◌∷◌, ◌++◌, ◌+◌, is_some, nat_eq, if◌then◌else◌, Option, Some, None, option_and_then}
use Rattle.std.proofs.Common.{refl, sym, ap, ◌∙◌, subst}
use Rattle.wf_deeds.specs.Deeds.{Told, Decision, tells}
use Rattle.wf_deeds.specs.Memory.{Memory, Owed, Brings, arrival_by, decided_by, owes_by, visit_by}
use Rattle.wf_deeds.specs.Outside.{Outside}
use Rattle.wf_deeds.specs.Steps.{HearingGoesOn, ReplyGoesOn, TurnGoesOn, VisitsAre, turned, weight}
use Rattle.wf_host.specs.World.{call_of, visit_of}
use Rattle.wf_host.specs.declared.data.What.{What}
use Rattle.wf_host.specs.declared.data.What.TheVariants as what
use Rattle.wf_model.specs.Config.{Config}
use Rattle.wf_deeds.specs.Taking.{Judged, JudgedIsHeard, TurnReplies, VisitGoesOn, decision_in, owed_of}
use Rattle.wf_deeds.specs.Verdicts.{IsTheOutside, verdict_of}

-- nothing is told of a call
untold : (k : ℕ) (w : What) (t : Told) → call_of w ≡ None → tells k w t ≡ t
untold k what.Nothing t is = refl
untold k (what.Visit v b) t is = refl
untold k (what.VisitEnd v) t is = refl
untold k (what.Bytes j b) t is = absurd (let f : Some j ≡ None = is in cc f)
untold k (what.End j) t is = absurd (let f : Some j ≡ None = is in cc f)
untold k (what.Broken j) t is = absurd (let f : Some j ≡ None = is in cc f)

module _ (O : Outside) (here : IsTheOutside O) (c : Config) where
  same_verdict : (j : Judged) (t : Bool) → j.decision.crowded ≡ t → verdict_of c t j.state ≡ O.verdict c t j.decision.told.bytes j.decision.told.close
  same_verdict j true is = sym (here.crowded c j.decision.told.bytes j.decision.told.close)
  same_verdict j false is = sym (here.verdict c j.decision.told.bytes j.decision.told.close j.state (j.read is))

module _ (O : Outside) (m : Memory) (here : IsTheOutside O) where
  owes_same : (j : Option Judged) → owed_of m.config j ≡ owes_by O m (decision_in j)
  owes_same None = refl
  owes_same (Some j) = ap (λ v. Some (record { visit = j.decision.visit; verdict = v })) (same_verdict O here m.config j j.decision.crowded refl)

pub judged_is_heard : JudgedIsHeard
judged_is_heard O m h told visit undecided taken owed here x = record {
  told_is = λ k opened started. x.told_is k ∙ sym (untold k h.what (m.told k) x.of_no_call);
  visits_are = visits (visit_of h.what) refl;
  taken_is = subst (Brings O m h taken) (sym x.of_no_call) (x.taken_is ∙ ap (λ o. option_and_then (λ (y : Owed). arrival_by y.verdict (max m.reading h.reading)) o) owed_is);
  owed_is = owed_is;
}
  where
    decided : decision_in x.judged ≡ decided_by O m h
    decided = x.visits_are.decides

    owed_is : owed ≡ owes_by O m (decided_by O m h)
    owed_is = x.owed_is ∙ owes_same O m here x.judged ∙ ap (owes_by O m) decided

    visits : (o : Option ℕ) → visit_of h.what ≡ o → VisitsAre O m h visit undecided o
    visits None is = x.visits_are.elsewhere is
    visits (Some n) is = subst (λ (d : Option Decision). ((j : ℕ) → visit j ≡ (if nat_eq n j then Some (visit_by h.what n (m.visit n) (is_some d)) else m.visit j)) × (undecided + weight (m.visit n) ≡ m.undecided + weight (visit n))) decided (x.visits_are.here n is)

pub visit_goes_on : HearingGoesOn → VisitGoesOn
visit_goes_on goes L O command handed m J D until h told visit undecided taken owed here stands settled active may x =
    goes L O command handed m J D until h told visit undecided taken owed stands settled active may (judged_is_heard O m h told visit undecided taken owed here x)

pub turn_replies : TurnGoesOn → ReplyGoesOn → TurnReplies
turn_replies turn reply L O command handed m J D payload es c o stands chooses some meant owes =
    reply L O command handed (turned m c) (J ++ payload ∷ []) D o (turn L O command handed m J D payload es c stands chooses some meant) refl owes
