-- What a run keeps and counts, by its steps.
use Rattle.std.specs.Prelude.{◌≡◌, suc, ◌<◌, ◌≤◌, ◌≢◌, ◌⊎◌, List, [], ◌∷◌, None, unwrap_or}
use Rattle.std.proofs.Common.{inl, inr, arith}
use mathlib.Core.Path.{refl, ◌∙◌}
use Rattle.wf_ast.specs.Tree.{Program}
use Rattle.wf_model.proofs.After.{Leads, led_to}
use Rattle.wf_model.proofs.Counts.{Same, same_stays, next_counts}
use Rattle.wf_model.proofs.Walk.{leads_on, merged_stays}
use Rattle.wf_model.specs.Config.{Do, Outcome, Active, Returned, Raised, Cancelled, Config, After, To, Wrong, NotNow, move_limit}
use Rattle.wf_model.specs.Local.{goes}
use Rattle.wf_model.specs.RunLaws.{Counts, Bounds, RunsAreBounded}
use Rattle.wf_model.specs.Run.{empty, initial, run_on, main_steps, main_local}
use Rattle.wf_model.specs.Step.{next, step_from}
use Rattle.wf_value.specs.Data.{null}
use Rattle.wf_value.specs.Decode.{json_value}
use Rattle.wf_value.specs.Events.{Event, Start}

-- the moves of a step from below the limit
module _ (b c : Config) (below : b.moves < move_limit) where
  moves_within : (c.moves ≡ b.moves) ⊎ ((c.moves ≡ suc b.moves) × ((suc b.moves < move_limit) ⊎ (c.outcome ≢ Active))) → c.moves ≤ move_limit
  moves_within (inl e) = omega (arith, e, below)
  moves_within (inr h) = omega (arith, h.0, below)

  moves_below : (c.moves ≡ b.moves) ⊎ ((c.moves ≡ suc b.moves) × ((suc b.moves < move_limit) ⊎ (c.outcome ≢ Active))) → c.outcome ≡ Active → c.moves < move_limit
  moves_below (inl e) a = omega (arith, e, below)
  moves_below (inr (e, inl less)) a = omega (arith, e, less)
  moves_below (inr (e, inr ended)) a = absurd (ended a)

-- a step from a configuration within the bounds, without an outcome
step_bounded : (s : Start) (b c : Config) → Bounds s b → b.outcome ≡ Active → Counts b c → Bounds s c
step_bounded s b c h a k = record {
  facts = k.facts ∙ h.facts;
  readings = omega (arith, h.readings, k.readings);
  moves = moves_within b c (h.active a) k.moves;
  active = moves_below b c (h.active a) k.moves;
}

from_outcome : (s : Start) (o : Outcome) (p : Program) (b : Config) (e : Event) → b.outcome ≡ o → Bounds s b → Leads (Counts b) (step_from o p b e) → Leads (Bounds s) (step_from o p b e)
from_outcome s Active p b e a h k = leads_on (Counts b) (Bounds s) (step_from Active p b e) (λ c. step_bounded s b c h a) k
from_outcome s (Returned v) p b e a h k = tt
from_outcome s (Raised v) p b e a h k = tt
from_outcome s Cancelled p b e a h k = tt

next_bounded : (s : Start) (p : Program) (b : Config) (e : Event) → Bounds s b → Leads (Bounds s) (next p b e)
next_bounded s p b e h = from_outcome s b.outcome p b e refl h (next_counts p b e)

run_bounded : (s : Start) (p : Program) (a : After) (es : List Event) → Leads (Bounds s) a → Leads (Bounds s) (run_on p a es)
run_bounded s p a [] h = h
run_bounded s p (To c) (e ∷ es) h = run_bounded s p (next p c e) es (next_bounded s p c e h)
run_bounded s p (Wrong k) (e ∷ es) h = tt
run_bounded s p NotNow (e ∷ es) h = tt

at_start : (s : Start) (c : Config) → Same (empty s) c → Bounds s c
at_start s c h = record { facts = h.0; readings = omega (arith, h.1); moves = omega (arith, h.2); active = λ a. omega (arith, h.2) }

initial_bounded : (s : Start) (p : Program) → Leads (Bounds s) (initial p s)
initial_bounded s p = leads_on (Same (empty s)) (Bounds s) (initial p s) (at_start s) (merged_stays (Same (empty s)) (same_stays (empty s)) 0 None (goes (Do (main_steps p.flows) (main_steps p.flows) ∷ []) (main_local p (unwrap_or (json_value s.argument) null))) (empty s) (refl, refl, refl))

pub runs_are_bounded : RunsAreBounded
runs_are_bounded p s es c h = led_to (Bounds s) _ c (run_bounded s p (initial p s) es (initial_bounded s p)) h
