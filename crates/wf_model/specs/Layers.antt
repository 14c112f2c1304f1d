-- Layers: which variables a task sees, and what an assignment changes.
--     held, view        what a task sees
--     opened, enter     a new layer with its names
--     assign            what an assignment leads to
use Rattle.std.specs.Prelude.{ℕ, zero, suc, ◌+◌, Bool, true, false, ◌&&◌, List, [], ◌∷◌, if◌then◌else◌, nat_le, Some, None, Ok, Err, Option}
use Rattle.wf_ast.specs.Apply.{View}
use Rattle.wf_model.specs.Config.{Layer, limits}
use Rattle.wf_model.specs.Local.{Outer, Local, Scene, total}
use Rattle.wf_value.specs.Data.{Data, Pairs, no_pairs, depth, pairs_size}
use Rattle.wf_value.specs.Errors.{Answer}
use Rattle.wf_value.specs.declared.Tag.{Tag}
use Rattle.wf_value.specs.declared.Tag.TheVariants.{ResourceLimitError}
use Rattle.wf_value.specs.HttpRequest.{is_among}
use Rattle.wf_value.specs.Pairs.{Text, get, put}
pub use Rattle.wf_ast.specs.Places.{written, made_new}

-- ## What a task sees
-- where a variable stands: in an own layer, in one outside, or nowhere. `above` counts the layers inside that one
pub data Held : Type 0 where
  Own : (above : ℕ) → Data → Held
  Outside : (above : ℕ) → (shared : List (List Text)) → Data → Held
  Nowhere : Held

-- in the innermost layer outside that has the name
abbrev pub held_outside : Text → ℕ → List Outer → Held
held_outside x n [] = Nowhere
held_outside x n (o ∷ os) = elim (get x o.layer.vars) [ Some v ↦ Outside n o.shared v | None ↦ held_outside x (suc n) os ]

-- outward to the innermost layer that a call opened, and past the own layers where there is none
abbrev pub held_in : Text → ℕ → List Layer → Held → Held
held_in x n [] outside = outside
held_in x n (l ∷ ls) outside =
    elim (get x l.vars) [ Some v ↦ Own n v | None ↦ if l.by_call then Nowhere else held_in x (suc n) ls outside ]

-- where a task sees a variable
abbrev pub held : Text → Local → Held
held x l = held_in x 0 l.layers (held_outside x 0 l.outer)

abbrev pub value_of : Held → Option Data
value_of (Own n v) = Some v
value_of (Outside n shared v) = Some v
value_of Nowhere = None

-- what the expressions of a move read
abbrev pub view : Scene → Local → View
view s l = record { look = λ x. value_of (held x l); env = s.facts.env; id = s.facts.id; base = s.facts.base; now = s.now }

-- ## Names bound in a new layer
-- one after another, beside variables that come to `rest`
abbrev pub bound : ℕ → ℕ → List (Text × Data) → Pairs → Answer Pairs
bound limit rest [] ps = Ok ps
bound limit rest (x ∷ xs) ps =
    if nat_le (rest + pairs_size (put x.0 x.1 ps)) limit then bound limit rest xs (put x.0 x.1 ps) else Err ResourceLimitError

-- in a layer that is opened inside the task's own
abbrev pub opened : Scene → Local → List (Text × Data) → Answer Pairs
opened s l xs = bound (limits s.facts.rules).variables (total s l) xs no_pairs

-- the task inside a new layer, and whether a call opened it
abbrev pub enter : Bool → Pairs → Local → Local
enter by_call ps l = record l { layers = record { vars = ps; by_call = by_call } ∷ l.layers }

-- ## Assignments
-- with the variable in the layer that stands so many further out
abbrev pub put_layer : ℕ → Text → Data → List Layer → List Layer
put_layer n x v [] = []
put_layer zero x v (l ∷ ls) = record l { vars = put x v l.vars } ∷ ls
put_layer (suc n) x v (l ∷ ls) = l ∷ put_layer n x v ls

abbrev pub put_outer : ℕ → Text → Data → List Outer → List Outer
put_outer n x v [] = []
put_outer zero x v (o ∷ os) = record o { layer = record o.layer { vars = put x v o.layer.vars } } ∷ os
put_outer (suc n) x v (o ∷ os) = o ∷ put_outer n x v os

-- each parallel step between shares the name
abbrev pub all_share : Text → List (List Text) → Bool
all_share x [] = true
all_share x (names ∷ rest) = is_among x names && all_share x rest

-- what an assignment leads to: the task with its layers changed, an error that is raised, or a write that no accepted program makes
pub data Assigned : Type 0 where
  Done : Local → Assigned
  Refused : Tag → Assigned
  Undeclared : Assigned

-- the task with this value assigned, if the total of variables and the value's nesting are within their limits
abbrev pub within_limits : Scene → Data → Local → Assigned
within_limits s v l = if nat_le (total s l) (limits s.facts.rules).variables && nat_le (depth v) 100 then Done l else Refused ResourceLimitError

-- in an own layer
abbrev pub put_own : Scene → Text → ℕ → Answer Data → Local → Assigned
put_own s x n (Err t) l = Refused t
put_own s x n (Ok v) l = within_limits s v (record l { layers = put_layer n x v l.layers })

-- in a layer outside, where the name must be shared
abbrev pub put_outside : Scene → Text → ℕ → Bool → Answer Data → Local → Assigned
put_outside s x n shared (Err t) l = Refused t
put_outside s x n false (Ok v) l = Undeclared
put_outside s x n true (Ok v) l = within_limits s v (record l { outer = put_outer n x v l.outer })

-- a name that a visible layer has is changed there, and else it is made in the innermost layer
abbrev pub assign_at : Scene → Text → List Data → Data → Held → Local → Assigned
assign_at s x ks v (Own n w) l = put_own s x n (written ks w v) l
assign_at s x ks v (Outside n shared w) l = put_outside s x n (all_share x shared) (written ks w v) l
assign_at s x ks v Nowhere l = put_own s x 0 (made_new ks v) l

-- the value goes to the name, or to the places below it
abbrev pub assign : Scene → Text → List Data → Data → Local → Assigned
assign s x ks v l = assign_at s x ks v (held x l) l
