-- Layers that a task enters, leaves and writes.
--     Leaves       the innermost frame is left, with its layer if it has one
--     Enters       a layer of names begins
--     Writes       a value is assigned
use Rattle.std.specs.Prelude.{◌≡◌, ℕ, ℤ, Bool, true, false, List, [], ◌∷◌, drop, Some, None, Ok, Err, Option, Result, ◌⊎◌}
use Rattle.wf_frames.specs.Frames.{own}
use Rattle.wf_frames.specs.Held.{Held, standing}
use Rattle.wf_frames.specs.Owned.{Around}
use Rattle.wf_frames.specs.declared.frames.Frame.{Frame}
use Rattle.wf_frames.specs.declared.frames.Frame.TheVariants as frame
use Rattle.wf_model.specs.Config.{limits}
use Rattle.wf_model.specs.Layers.{opened, assign, Done, Refused, Undeclared}
use Rattle.wf_model.specs.Local.{Local, Scene, leave}
use Rattle.wf_scope.specs.Changes.{bound}
use Rattle.wf_frames.specs.Tasks.{Own}
use Rattle.wf_scope.specs.Layers.{Layer}
use Rattle.wf_scope.specs.declared.fault.AssignFault.{AssignFault}
use Rattle.wf_value.specs.Data.{Data, integer, Pairs}
use Rattle.wf_value.specs.Pairs.{Text}
use Rattle.wf_value.specs.declared.Tag.{Tag}
use Rattle.wf_value.specs.declared.Tag.TheVariants.{ResourceLimitError}

-- ## Leaving
-- the task without this frame
abbrev pub left_by : Frame → Local → Local
left_by (frame.Mark number) l = leave l
left_by (frame.Back call number) l = leave l
left_by (frame.Judge judging) l = leave l
left_by f l = l

abbrev pub dropped : Frame → Held → Held
dropped (frame.Mark number) h = record h { own = drop 1 h.own }
dropped (frame.Back call number) h = record h { own = drop 1 h.own }
dropped (frame.Judge judging) h = record h { own = drop 1 h.own }
dropped f h = h

abbrev pub Leaves : Bool → List Frame → Held → List Frame → Held → Type 0
Leaves false old h new g = (old ≡ []) × (new ≡ []) × (h ≡ g)
Leaves true old h new g = (f : Frame) × (old ≡ f ∷ new) × (g ≡ dropped f h)

-- ## Sums
-- the scene's limit on variables, what those come to that the task doesn't see, and the workflows of the program
abbrev pub Agrees : Scene → Around → Type 0
Agrees s a = ((limits s.facts.rules).variables ≡ a.limit) × (s.others ≡ a.others) × (s.program.flows ≡ a.flows)

-- ## Entering
-- the names that an iteration binds, the value before the index
abbrev pub names_of : Text → Data → Option Text → ℤ → List (Text × Data)
names_of x v None i = (x, v) ∷ []
names_of x v (Some y) i = (x, v) ∷ (y, integer i) ∷ []

-- a new layer stands inside the own ones, and a call has opened it or not
abbrev pub with_layer : Bool → Pairs → Held → Held
with_layer b ps h = record h { own = record { vars = ps; by_call = b } ∷ h.own }

-- the own layers, with a new one of this number if there is one
abbrev pub with_own : Bool → Option ℕ → List Own → List Own
with_own b None os = os
with_own b (Some n) os = own n b ∷ os

-- the names fit into a new layer, which has this number, or don't
abbrev pub Enters : Bool → Scene → Option ℕ → Held → List (Text × Data) → Held → Type 0
Enters b s (Some n) h xs g = (ps : Pairs) × (opened s (standing [] h) xs ≡ Ok ps) × (g ≡ with_layer b ps h)
Enters b s None h xs g = (opened s (standing [] h) xs ≡ Err ResourceLimitError) × (g ≡ h)

-- so, for each scene that agrees on the limit and on the sum of the rest
abbrev pub EntersAll : Bool → Around → Option ℕ → Held → List (Text × Data) → Held → Type 0
EntersAll b a o h xs g = (s : Scene) → Agrees s a → Enters b s o h xs g

-- some names are bound one after another in a layer of a store
abbrev pub bound_all : ℕ → ℕ → List (Text × Data) → List Layer → Result (List Layer) AssignFault
bound_all limit n [] ls = Ok ls
bound_all limit n (x ∷ xs) ls = elim (bound limit n x.0 x.1 ls) [ Ok ms ↦ bound_all limit n xs ms | Err f ↦ Err f ]

-- ## Writing
-- an assignment is done, or refused with this error's tag, or no accepted program makes it
abbrev pub Writes : Scene → Option Tag → Held → Text → List Data → Data → Held → Type 0
Writes s None h x ks v g = (assign s x ks v (standing [] h) ≡ Undeclared) ⊎ (assign s x ks v (standing [] h) ≡ Done (standing [] g))
Writes s (Some t) h x ks v g = (g ≡ h) × ((assign s x ks v (standing [] h) ≡ Undeclared) ⊎ (assign s x ks v (standing [] h) ≡ Refused t))
