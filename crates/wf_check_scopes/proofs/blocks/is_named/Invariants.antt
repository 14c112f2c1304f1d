use Rattle.std.proofs.Common.{◌≡◌, drop, map}
use Rattle.wf_ast.specs.View.{branch_view}
use Rattle.wf_check_scopes.proofs.blocks.is_named.Given as goal
use Rattle.wf_value.specs.HttpRequest.{is_among}

-- what is left tells
abbrev pub invariant-loop-branch : goal.invariant-loop-branch
invariant-loop-branch l = is_among l.name (map (λ b. (branch_view b).0) l.branches) ≡ is_among l.name (map (λ b. (branch_view b).0) (drop l.branch-index l.branches))
