use Rattle.std.proofs.Common.{◌≡◌, drop}
use Rattle.wf_ast.specs.Apply.{env_in}
use Rattle.expression_cases.proofs.names.find.Given as goal

-- what is left tells
abbrev pub invariant-loop-name : goal.invariant-loop-name
invariant-loop-name l = env_in l.pairs l.key ≡ env_in (drop l.name-index l.pairs) l.key
