-- A front of a history, and the rest.
use Rattle.std.proofs.Common.{◌≡◌, ◌∙◌, ℕ, List, ◌∷◌, ◌++◌, take, drop, Some, Result, Ok, Err, IfErr, refl, sym, ap, subst}
use Rattle.std.proofs.lemmas.List.{take-append-drop}
use Rattle.std.specs.Prelude.{IsErr, IsErrAnd, suc}
use Rattle.wf_events.specs.Reading.{meaning}
use Rattle.wf_history.specs.declared.history.History.{History}
use Rattle.wf_deeds.proofs.Playing.{front_is, played_is_history}
use Rattle.wf_deeds.specs.History.{Standing, first_standing, goes_to, history, plays}
use Rattle.wf_deeds.specs.Language.{Language}
use Rattle.wf_deeds.specs.HistoryLaws.{RecordsGoOn}
use Rattle.wf_machine.specs.Seen.{state_of}
use Rattle.wf_machine.specs.declared.machine.Machine.{Machine}
use Rattle.wf_model.specs.Config.{Config}
use Rattle.wf_replay.proofs.FirstRecords.{IsNone, records_lead, same_number}
use Rattle.wf_replay.proofs.StillOpen.{some_first}
use Rattle.wf_replay.specs.EngineFaults.{replay_fault}
use Rattle.wf_replay.specs.Standing.{standing, stands_at}
use Rattle.wf_replay.specs.declared.engine_fault.EngineFault.{EngineFault}
use Rattle.wf_replay.specs.declared.fault.ReplayFault.TheVariants as cause
use Rattle.wf_replay.specs.declared.fault.ReplayFault.{ReplayFault}
use Rattle.wf_report.specs.Journals.{StandsAt}

-- the configuration of a machine that stands somewhere
pub config_is : (h : History) (m : Machine) → (standing h m).config ≡ (state_of m).config
unfolding stands_at
config_is h m = refl

module _ (go_on : RecordsGoOn) (L : Language) (J : List (List ℕ)) (b : List ℕ) (A : List (List ℕ)) (turns : ℕ) (s s2 : Standing) (is : J ≡ b ∷ A) (first : first_standing L (meaning b) ≡ Some s) (front : goes_to L s (take turns A) ≡ Ok s2) where
  lead : history L (b ∷ take turns A) ≡ Ok s2
  lead = records_lead L (b ∷ take turns A) b (take turns A) s (Ok s2) refl first front

  parts : (b ∷ take turns A) ++ drop turns A ≡ b ∷ A
  parts = ap (λ l. b ∷ l) (take-append-drop turns A)

  -- all of them lead where the rest leads from there
  pub rest_leads : history L J ≡ goes_to L s2 (drop turns A)
  rest_leads = ap (history L) (is ∙ sym parts) ∙ go_on L (b ∷ take turns A) (drop turns A) s2 lead

  pub stands : (s3 : Standing) (c : Config) → goes_to L s2 (drop turns A) ≡ Ok s3 → s2.config ≡ c → StandsAt L J turns c
  stands s3 c rest same = record {
    whole = s3;
    played = played_is_history L J ∙ rest_leads ∙ rest;
    front = (s2, ap (plays L) (front_is L J s3 turns (rest_leads ∙ rest)) ∙ played_is_history L (take (suc turns) J) ∙ ap (λ K. history L (take (suc turns) K)) is ∙ lead, same);
  }

  stops : (e : ReplayFault) → ((n : ℕ) → e ≡ cause.BadEvent n → goes_to L s2 (drop turns A) ≡ Err n) → IsNone L (replay_fault e) J
  stops (cause.BadEvent m) bad = λ n same. (rest_leads ∙ bad m refl ∙ ap Err (same_number m n same), some_first J A b is)
  stops cause.DiskFault bad = λ n same. absurd (cc same)
  stops cause.Closed bad = λ n same. absurd (cc same)
  stops cause.OutOfMemory bad = λ n same. absurd (cc same)

  -- or where it stops
  pub rest_stops : {T : Type 0} (r : Result T EngineFault) (e : ReplayFault) → IsErr r × IsErrAnd r (λ f. f ≡ replay_fault e) → ((n : ℕ) → e ≡ cause.BadEvent n → goes_to L s2 (drop turns A) ≡ Err n) → IfErr r (λ f. IsNone L f J)
  rest_stops (Ok x) e gives bad = absurd gives.1
  rest_stops (Err f) e gives bad = subst (λ g. IsNone L g J) (sym gives.1) (stops e bad)
