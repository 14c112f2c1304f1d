-- The move of a task, or its request, by the event that it wants.
--     stepped     of a task
--     leads       what is left of a step leads on so
use Rattle.wf_ast.specs.Tree.{Body}
use Rattle.wf_model.specs.Config.{Item}
use Rattle.wf_model.specs.Kinds.{NextKind, Plainly, ByClock, ByCall, body_kind, next_kind}
use Rattle.wf_model.specs.Local.{Local, Moved, Scene}
use Rattle.wf_model.specs.Move.{issues, moves}
use Rattle.wf_model.specs.Spots.{Spot, part_at, part_body}
use Rattle.wf_frames.specs.Steps.{asks_with, calls_by, come, come_to}
use Rattle.wf_frames.specs.declared.step.Leads.{Leads}
use Rattle.wf_frames.specs.declared.step.Leads.TheVariants as leading
use Rattle.wf_frames.specs.declared.step.Step.{Step}
use Rattle.wf_frames.specs.declared.step.Step.TheVariants as step
use Rattle.wf_value.specs.Data.{Pairs, pairs_of}
use Rattle.std.specs.Prelude.{List}

-- a request where one is wanted, and else a move
abbrev pub by_kind : NextKind → (request move : Moved) → Moved
by_kind Plainly request move = move
by_kind ByClock request move = move
by_kind ByCall request move = request

-- at this control
abbrev pub stepped_at : Scene → List Item → Local → Moved
stepped_at s k l = by_kind (next_kind s.program k) (issues s k l) (moves s k l)

abbrev pub stepped : Scene → Local → Moved
stepped s l = stepped_at s l.control l

-- a call goes on with its arguments
abbrev pub leads_with : Scene → Body → Pairs → List Item → Local → Moved
leads_with s body args k l = by_kind (body_kind s.program body) (asks_with s body args k l) (calls_by s body args k l)

-- what is left of a step leads on so, at this control
abbrev pub leads_to : List Spot → Leads → Scene → List Item → Local → Moved
leads_to ns (leading.Calls n m) s k l = leads_with s (part_body (part_at ns n)) (pairs_of m) k l
leads_to ns x s k l = come_to ns x s k l

abbrev pub leads : List Spot → Step → Scene → List Item → Local → Moved
leads ns (step.Leads x) s k l = leads_to ns x.value s k l
leads ns st s k l = come ns st s k l
