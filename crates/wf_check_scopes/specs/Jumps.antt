-- What the rules of jumps and returns say of a node, and what of its surroundings they look at.
use Rattle.std.specs.Prelude.{Bool, false, [], Option}
use Rattle.wf_ast.specs.Blocks as rules
use Rattle.wf_ast.specs.Nodes.{Around, Inside, NodePart, NoLoop, Path}
use Rattle.wf_diagnostics.specs.Said.{Said, as_said}
use Rattle.wf_diagnostics.specs.declared.kind.CheckKind.TheVariants as kinds
use Rattle.wf_symbols.specs.Around.{reach}
use Rattle.wf_symbols.specs.Names.{names_of}
use Rattle.wf_symbols.specs.declared.around.Scopes.{Scopes}

-- ## Surroundings, as far as these rules look at them
-- the steps of the workflow, and those that a jump reaches
abbrev pub scopes_view : Scopes → Around
scopes_view s = record { workflow = names_of s.workflow; blocks = reach s.blocks.items; inside = NoLoop; in_branch = false; layers = [] }

-- whether a branch, or the body of a parallel loop, is around it
abbrev pub branch_view : Bool → Around
branch_view b = record { workflow = []; blocks = []; inside = NoLoop; in_branch = b; layers = [] }

-- ## The rules
-- its `next` names no step of the workflow
abbrev pub unknown_step_said : Around → NodePart → Path → Option Said
unknown_step_said a part path = as_said kinds.UnknownStep (rules.rule_next (rules.unknown_step a) part path)

-- its `next` names a step that no jump from there reaches
abbrev pub out_of_scope_said : Around → NodePart → Path → Option Said
out_of_scope_said a part path = as_said kinds.JumpOutOfScope (rules.rule_next (rules.out_of_scope a) part path)

-- its `break` or `continue` has no loop to act on
abbrev pub outside_loop_said : Inside → NodePart → Path → Option Said
outside_loop_said i part path = as_said kinds.BreakOutsideLoop (rules.rule_next (rules.outside_loop i) part path)

-- it would end the workflow from within a branch
abbrev pub return_said : Around → NodePart → Path → Option Said
return_said a part path = as_said kinds.ReturnInBranch (rules.rule_return a part path)
