-- Parallel steps: what they have left.
--     work_view     the branches or the values that are left, behind so many
--     body_parallel  the parallel step that a body is
--     OpensFor       the layer of a branch
use Rattle.std.specs.Prelude.{◌≡◌, ℕ, zero, suc, Bool, true, false, List, [], slice_get, Some, None, Ok, Err, Option}
use Rattle.wf_ast.specs.Tree.{Body, Branches, no_branches, branch, OfBranches, OfLoop, ParallelBody, parallel}
use Rattle.wf_frames.specs.Frames.{left_view}
use Rattle.wf_frames.specs.declared.forking.Work.{Work}
use Rattle.wf_frames.specs.declared.forking.Work.TheVariants as work
use Rattle.wf_model.specs.Config.{BranchesLeft, ValuesLeft, WorkLeft}
use Rattle.wf_frames.specs.Turns.{bound_all}
use Rattle.wf_model.specs.Spots.{Spot, part_at, part_body}
use Rattle.wf_model.specs.declared.node.Node.{Node}
use Rattle.wf_model.specs.declared.node.NodeKind.{NodeKind}
use Rattle.wf_model.specs.declared.node.NodeKind.TheVariants as kind
use Rattle.wf_model.specs.declared.node.WorkNode.{WorkNode}
use Rattle.wf_model.specs.declared.node.WorkNode.TheVariants as node_work
use Rattle.wf_scope.specs.Layers.{Layer, depth_in, find, fresh, opened}
use Rattle.wf_scope.specs.declared.fault.AssignFault.TheVariants as fault
use Rattle.wf_value.specs.Data.{Data}
use Rattle.wf_value.specs.Pairs.{Text}

-- the parallel step that a body is
abbrev pub body_parallel : Body → ParallelBody
body_parallel (Body.Parallel p) = p
body_parallel body = parallel [] None (OfBranches no_branches)

abbrev pub parallel_at : List Spot → ℕ → ParallelBody
parallel_at ns n = body_parallel (part_body (part_at ns n))

abbrev pub branches_of : ParallelBody → Branches
branches_of (parallel names limit (OfBranches bs)) = bs
branches_of (parallel names limit (OfLoop l)) = no_branches

-- the branches from one on
abbrev pub branches_from : ℕ → Branches → Branches
branches_from zero bs = bs
branches_from (suc n) no_branches = no_branches
branches_from (suc n) (branch x ss bs) = branches_from n bs

-- what is left of a parallel step, where so many branches or iterations have begun
abbrev pub work_view : ParallelBody → ℕ → Work → WorkLeft
work_view p next work.Branches = BranchesLeft (branches_from next (branches_of p))
work_view p next (work.Values l) = ValuesLeft (left_view l)

abbrev pub is_loop_work : Work → Bool
is_loop_work work.Branches = false
is_loop_work (work.Values l) = true

-- branches are left of branches, and values of a loop
abbrev pub same_work : WorkNode → Work → Bool
same_work (node_work.Branches v) work.Branches = true
same_work (node_work.Loop l) (work.Values left) = true
same_work w x = false

abbrev pub is_work_of : NodeKind → Work → Bool
is_work_of (kind.Parallel p) w = same_work p.work w
is_work_of k w = false

abbrev pub is_work_in : Option Node → Work → Bool
is_work_in None w = false
is_work_in (Some x) w = is_work_of x.kind w

-- the node of this number is a parallel step of which this can be left
abbrev pub is_work_at : List Node → ℕ → Work → Bool
is_work_at nodes n w = is_work_in (slice_get nodes n) w

-- ## Layers
-- with a new layer directly inside this one
abbrev pub opened_in : ℕ → List Layer → List Layer
opened_in o ls = opened (Some o) (suc (depth_in (find o ls))) ls

-- it has this number, and these names; or they don't fit, and all is as it was
abbrev pub OpensFor : Option ℕ → ℕ → ℕ → List (Text × Data) → List Layer → List Layer → Type 0
OpensFor (Some n) limit o xs old new = (n ≡ fresh old) × (bound_all limit n xs (opened_in o old) ≡ Ok new)
OpensFor None limit o xs old new = (bound_all limit (fresh old) xs (opened_in o old) ≡ Err fault.TooLarge) × (new ≡ old)
