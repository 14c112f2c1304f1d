-- The checker's rules of blocks: empty lists, names that stand twice, jumps and returns. Each says of one node where it speaks.
use Rattle.std.specs.Prelude.{Bool, true, false, not, ◌&&◌, ◌||◌, List, [], ◌∷◌, Some, None, codes, bytes_eq, Option}
use Rattle.wf_ast.specs.Nodes.{Path, Inside, NoLoop, InLoop, InParallelLoop, Around, NodePart, FlowPart, StepPart, ArmPart, BodyPart, EntryPart, BranchPart, part_body, below}
use Rattle.wf_ast.specs.Tree.{step, Steps, no_steps, more, Body, LoopBody, loop, parallel, Work, OfBranches, OfLoop, no_branches, branch, try, Except, no_except, except}
use Rattle.wf_value.specs.HttpRequest.{is_among}
use Rattle.wf_value.specs.Pairs.{Text}

-- the first that is there
abbrev pub first : {A : Type 0} → List (Option A) → Option A
first [] = None
first (Some a ∷ os) = Some a
first (None ∷ os) = first os

-- the path where it speaks
abbrev pub at_if : Bool → Path → Option Path
at_if true path = Some path
at_if false path = None

-- ## 1: a list of steps, or of branches, has no item
-- the list is empty
abbrev pub has_no_steps : Steps → Bool
has_no_steps no_steps = true
has_no_steps (more s ss) = false

-- of a loop
abbrev pub loop_empty : LoopBody → Path → Option Path
loop_empty (loop x i o ss) path = at_if (has_no_steps ss) (below path (codes "steps"))

-- of an `except`
abbrev pub except_empty : Except → Path → Option Path
except_empty no_except path = None
except_empty (except x ss) path = at_if (has_no_steps ss) (below path (codes "steps"))

-- of what runs in parallel
abbrev pub work_empty : Work → Path → Option Path
work_empty (OfBranches no_branches) path = Some (below path (codes "branches"))
work_empty (OfBranches (branch x ss bs)) path = None
work_empty (OfLoop l) path = loop_empty l (below path (codes "for"))

-- of a body
abbrev pub body_empty : Body → Path → Option Path
body_empty (Body.Block ss) path = at_if (has_no_steps ss) (below path (codes "steps"))
body_empty (Body.For l) path = loop_empty l (below path (codes "for"))
body_empty (Body.Parallel (parallel shared limit w)) path = work_empty w (below path (codes "parallel"))
body_empty (Body.Try (try body policy x)) path = except_empty x (below path (codes "except"))
body_empty body path = None

-- where rule 1 speaks
abbrev pub rule_empty : NodePart → Path → Option Path
rule_empty (FlowPart f) path = at_if (has_no_steps f.steps) (below path (codes "steps"))
rule_empty (StepPart x body next) path = body_empty body path
rule_empty (ArmPart t next) path = None
rule_empty (BodyPart body) path = body_empty body path
rule_empty (EntryPart e) path = None
rule_empty (BranchPart before x ss) path = at_if (has_no_steps ss) (below path (codes "steps"))

-- ## 2: a step's name stands earlier in its workflow, or a branch's earlier in its step
-- where rule 2 speaks
abbrev pub rule_double : List Text → NodePart → Path → Option Path
rule_double earlier (StepPart x body next) path = at_if (is_among x earlier) path
rule_double earlier (BranchPart before x ss) path = at_if (is_among x before) path
rule_double earlier part path = None

-- ## 3 to 6: jumps and returns
-- the name is one of the words that name no step
abbrev pub is_word : Text → Bool
is_word x = bytes_eq x (codes "end") || bytes_eq x (codes "break") || bytes_eq x (codes "continue")

-- the step is one of the block's own
abbrev pub has_step : Text → Steps → Bool
has_step x no_steps = false
has_step x (more (step y body next) ss) = bytes_eq x y || has_step x ss

-- the step is of one of the blocks
abbrev pub in_blocks : Text → List Steps → Bool
in_blocks x [] = false
in_blocks x (ss ∷ bs) = has_step x ss || in_blocks x bs

-- no step of the workflow has the name
abbrev pub unknown_step : Around → Text → Bool
unknown_step a x = not (is_word x) && not (is_among x a.workflow)

-- a step of the workflow has the name, and no jump from here may reach it
abbrev pub out_of_scope : Around → Text → Bool
out_of_scope a x = not (is_word x) && is_among x a.workflow && not (in_blocks x a.blocks)

-- no loop is there to end or go on with; a parallel loop cannot be ended
abbrev pub outside_loop : Inside → Text → Bool
outside_loop NoLoop x = bytes_eq x (codes "break") || bytes_eq x (codes "continue")
outside_loop InLoop x = false
outside_loop InParallelLoop x = bytes_eq x (codes "break")

-- it would end the workflow from within a branch
abbrev pub ends_in_branch : Around → Text → Bool
ends_in_branch a x = a.in_branch && bytes_eq x (codes "end")

-- the node's `next`
abbrev pub part_next : NodePart → Option Text
part_next (StepPart x body next) = next
part_next (ArmPart t next) = next
part_next part = None

-- a rule of the node's `next`
abbrev pub rule_next : (Text → Bool) → NodePart → Path → Option Path
rule_next bad part path = elim (part_next part) [ None ↦ None | Some x ↦ at_if (bad x) (below path (codes "next")) ]

-- the body returns
abbrev pub is_return : Body → Bool
is_return (Body.Return t) = true
is_return body = false

-- where rule 6 speaks
abbrev pub rule_return : Around → NodePart → Path → Option Path
rule_return a part path = first (at_if (a.in_branch && is_return (part_body part)) (below path (codes "return")) ∷ rule_next (ends_in_branch a) part path ∷ [])
