-- The forms of the language that aren't built yet: one line a form, so that a line goes when its form comes.
--     not_yet     where a node uses one of them
use Rattle.std.specs.Prelude.{Bool, true, false, List, codes, Option, Some, None, if◌then◌else◌}
use Rattle.wf_ast.specs.Flows.{flow}
use Rattle.wf_ast.specs.Func.{HttpCall, Listing, Special, SpecialListing, SysLog, SysSleep, SysSleepUntil, func_named, special_named}
use Rattle.wf_ast.specs.Nodes.{Path, NodePart, part_body, below}
use Rattle.wf_ast.specs.Tree.{Body, Flow}
use Rattle.wf_value.specs.Pairs.{Text}

-- a call of HTTP, a sleep, or the log
abbrev pub is_special_built : Special → Bool
is_special_built (HttpCall m) = true
is_special_built SysLog = true
is_special_built SysSleep = true
is_special_built SysSleepUntil = true
is_special_built s = false

-- there is a function of this name that only steps may call, and it is built: a call of HTTP, a sleep, or the log
abbrev pub is_built : Option SpecialListing → Bool
is_built None = false
is_built (Some e) = is_special_built e.special

-- the key of a call that names no workflow: none where expressions may call the function, or it is built
abbrev pub uncalled : Option Listing → Option SpecialListing → Option Text
uncalled (Some e) g = None
uncalled None g = if is_built g then None else Some (codes "call")

-- the key of a body whose form isn't built: a call of a function that only steps may call, unless it is one of HTTP, a sleep, or the log, and
-- what runs in parallel
abbrev pub form_key : List Flow → Body → Option Text
form_key fs (Body.Call f) = elim (flow fs f.name) [ None ↦ uncalled (func_named f.name) (special_named f.name) | Some g ↦ None ]
form_key fs (Body.Parallel p) = Some (codes "parallel")
form_key fs body = None

-- such a body
abbrev pub form : List Flow → Body → Path → Option Path
form fs body path = elim (form_key fs body) [ None ↦ None | Some k ↦ Some (below path k) ]

-- where rule 13 speaks of a node of a program with these workflows
abbrev pub not_yet : List Flow → NodePart → Path → Option Path
not_yet fs part path = form fs (part_body part) path
