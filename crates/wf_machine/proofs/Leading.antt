-- Answers that can come, and calls that are awaited.
use Rattle.std.proofs.Common.{◌≡◌, ◌≤◌, ℕ, false, refl, sym, ap, ◌∙◌, subst}
use Rattle.std.proofs.Math.Logic.{∥∥₁_elim, ∥∥₁_map}
use Rattle.wf_check.specs.Seen.{program_of}
use Rattle.wf_machine.proofs.Good.{Good, good_of, goes_right, shows_it}
use Rattle.wf_machine.specs.Seen.{state_of}
use Rattle.wf_machine.specs.declared.ending.Ending.TheVariants.{Running}
use Rattle.wf_machine.specs.declared.machine.Machine.{Machine}
use Rattle.wf_model.specs.Config.{Active, After, Config, NotNow, Open, To, Wrong}
use Rattle.wf_model.specs.Ready.{call}
use Rattle.wf_model.specs.Step.{next}
use Rattle.wf_model.specs.WaitLaws.{AnswersLead, Sound, SoundIsAwaited}
use Rattle.wf_never_wrong.specs.Stands.{StepsStand}
use Rattle.wf_value.specs.Events.{Event, Reply}
use Rattle.wf_value.specs.HttpRequest.{Request}

-- an answer to an open call leads somewhere
pub answer_leads : StepsStand → SoundIsAwaited → AnswersLead → (m : Machine) → m.broken ≡ false → m.ending ≡ Running → (state_of m).config.outcome ≡ Active
    → (k b r : ℕ) (q : Request) (due : ℕ) (a : Reply) → call (state_of m).config k ≡ Open b q due → (state_of m).config.last ≤ r → (d : Config) × (next (program_of m.program) (state_of m).config (Event.Answer k r a) ≡ To d)
answer_leads law awaited leads m whole run active k b r q due a its le = by (next (program_of m.program) (state_of m).config (Event.Answer k r a)) refl
  where
    good : Good m
    good = good_of m whole run

    by : (x : After) → next (program_of m.program) (state_of m).config (Event.Answer k r a) ≡ x → (d : Config) × (next (program_of m.program) (state_of m).config (Event.Answer k r a) ≡ To d)
    by (To d) it = (d, it)
    by (Wrong kind) it = absurd (goes_right law m good (Event.Answer k r a) kind (sym (ap (λ (c : Config). next (program_of m.program) c (Event.Answer k r a)) (shows_it m whole)) ∙ it))
    by NotNow it =
        absurd (∥∥₁_elim good.stood (λ x y. absurd x)
        (λ stood. leads (program_of m.program) (state_of m).config k b r q due a (awaited (state_of m).config (subst Sound (sym (shows_it m whole)) stood.1)) active its le it))

-- its calls are awaited
pub sound_now : (m : Machine) → m.broken ≡ false → m.ending ≡ Running → ∥ Sound (state_of m).config ∥₁
sound_now m whole run = ∥∥₁_map (good_of m whole run).stood (λ stood. subst Sound (sym (shows_it m whole)) stood.1)
