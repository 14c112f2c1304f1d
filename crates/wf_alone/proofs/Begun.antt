-- How an execution begins.
--     initial_to           each program starts
--     begun, begun_ended   what with
use Rattle.std.proofs.Common.{◌≡◌, false, List, [], ◌∷◌, None, refl, sym, ◌∙◌, ap}
use Rattle.wf_alone.specs.Laws.{EachProgramStarts}
use Rattle.wf_alone.specs.Machine.{argument_of, config_by, main_at, main_local, rest_of}
use Rattle.wf_ast.specs.Tree.{Program, Step, Steps, more, no_steps}
use Rattle.wf_model.specs.Config.{After, Awake, Config, Do, Item, Returned, To}
use Rattle.wf_model.specs.Local.{Local, ended, goes, settle}
use Rattle.wf_model.specs.Run.{empty, initial, main_steps, main_vars}
use Rattle.wf_model.specs.Taken.{merged}
use Rattle.wf_value.specs.Events.{Start}
use Rattle.wf_value.specs.Data.{Pairs, null}

-- whether a control has ended or not
ended_to : (k : List Item) (l : Local) (c : Config) → (d : Config) × (merged 0 None (ended k l) c ≡ To d)
ended_to [] l c = (_, refl)
ended_to (i ∷ k) l c = (_, refl)

-- each program starts
pub initial_to : EachProgramStarts
initial_to p s =
    let before : Local = main_local [] (record { vars = main_vars p.flows (argument_of s); by_call = false } ∷ []) Awake in
    let after : Local = settle (Do (main_steps p.flows) (main_steps p.flows) ∷ []) before in
    ended_to after.control after (empty s)

-- with these steps and variables
abbrev from_steps : Start → Steps → Pairs → After
from_steps s ss vars = merged 0 None (goes (Do ss ss ∷ []) (main_local [] (record { vars = vars; by_call = false } ∷ []) Awake)) (empty s)

-- `main` that has steps stands before the first
pub begun : (p : Program) (s : Start) (st : Step) (rest : Steps) (vars : Pairs) → main_steps p.flows ≡ more st rest → main_vars p.flows (argument_of s) ≡ vars
    → initial p s ≡ To (main_at (rest_of s) (Do (main_steps p.flows) (main_steps p.flows) ∷ []) (record { vars = vars; by_call = false } ∷ []) Awake)
begun p s st rest vars some bound =
    ap (from_steps s (main_steps p.flows)) bound
    ∙ ap (λ ss. from_steps s ss vars) some
    ∙ ap (λ ss. To (main_at (rest_of s) (Do ss ss ∷ []) (record { vars = vars; by_call = false } ∷ []) Awake)) (sym some)

-- and without steps it has ended
pub begun_ended : (p : Program) (s : Start) → main_steps p.flows ≡ no_steps → initial p s ≡ To (config_by (rest_of s) [] (Returned null))
begun_ended p s none = ap (λ ss. from_steps s ss (main_vars p.flows (argument_of s))) none
