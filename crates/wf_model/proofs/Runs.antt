-- Runs in parts.
use Rattle.std.specs.Prelude.{◌≡◌, List, [], ◌∷◌}
use mathlib.Core.Path.{refl, sym, ap, ◌∙◌}
use Rattle.wf_ast.specs.Tree.{Program}
use Rattle.wf_model.proofs.After.{wrong_is_no_config, nowhere_is_no_config, same_config}
use Rattle.wf_model.specs.Config.{Config, After, To, Wrong, NotNow}
use Rattle.wf_model.specs.Run.{run_on, run}
use Rattle.wf_model.specs.RunLaws.{RunsJoin, FrontIsARun, StepGoesOn, RunsAgree, StepIsOne}
use Rattle.wf_model.specs.Step.{next}
use Rattle.wf_value.specs.Events.{Event}

-- nothing comes behind what isn't a configuration
from_nowhere : (p : Program) (es : List Event) → run_on p NotNow es ≡ NotNow
from_nowhere p [] = refl
from_nowhere p (e ∷ es) = refl

pub runs_join : RunsJoin
runs_join p a [] fs = refl
runs_join p (To c) (e ∷ es) fs = runs_join p (next p c e) es fs
runs_join p (Wrong k) (e ∷ es) fs = sym (from_nowhere p fs)
runs_join p NotNow (e ∷ es) fs = sym (from_nowhere p fs)

-- where more events lead to a configuration, the front led to one
to_config : (p : Program) (a : After) (fs : List Event) (c : Config) → run_on p a fs ≡ To c → (b : Config) × (a ≡ To b) × (run_on p (To b) fs ≡ To c)
to_config p (To b) fs c h = (b, refl, h)
to_config p (Wrong k) [] c h = absurd (wrong_is_no_config k c h)
to_config p (Wrong k) (f ∷ fs) c h = absurd (nowhere_is_no_config c h)
to_config p NotNow fs c h = absurd (nowhere_is_no_config c (sym (from_nowhere p fs) ∙ h))

pub front_is_a_run : FrontIsARun
front_is_a_run p s es fs c h = to_config p (run p s es) fs c (sym (runs_join p _ es fs) ∙ h)

pub step_goes_on : StepGoesOn
step_goes_on p s es e b c h k = runs_join p _ es (e ∷ []) ∙ ap (λ a. run_on p a (e ∷ [])) h ∙ k

pub runs_agree : RunsAgree
runs_agree p s es b c h k = same_config b c (sym h ∙ k)

pub step_is_one : StepIsOne
step_is_one p a b c e h k = same_config b c (sym h ∙ k)
