use Rattle.std.proofs.Common.{◌≡◌, ◌++◌, drop, map}
use Rattle.wf_ast.specs.Func.{listed_args}
use Rattle.wf_ast.proofs.arguments.add_values.Given as goal
use Rattle.wf_value.specs.Data.{pairs_of}
use Rattle.wf_value.specs.Plain.{plain_items}

-- with the values of the names that are left, all are there
abbrev pub invariant-loop-name : goal.invariant-loop-name
invariant-loop-name l = plain_items l.values.items ++ listed_args (map (λ n. n.now) (drop l.name-index l.names)) (pairs_of l.args) ≡ plain_items l.initial.values.items ++ listed_args (map (λ n. n.now) l.names) (pairs_of l.args)
