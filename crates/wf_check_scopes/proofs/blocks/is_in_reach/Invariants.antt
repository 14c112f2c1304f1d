use Rattle.std.proofs.Common.{◌≡◌, drop}
use Rattle.wf_ast.specs.Blocks.{in_blocks}
use Rattle.wf_check_scopes.proofs.blocks.is_in_reach.Given as goal
use Rattle.wf_symbols.specs.Around.{reach}

-- what is left tells
abbrev pub invariant-loop-block : goal.invariant-loop-block
invariant-loop-block l = in_blocks l.name (reach l.blocks) ≡ in_blocks l.name (reach (drop l.block-index l.blocks))
