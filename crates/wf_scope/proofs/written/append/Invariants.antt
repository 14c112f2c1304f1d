use Rattle.std.proofs.Common.{◌≡◌, ◌++◌, take}
use Rattle.wf_value.specs.Plain.{plain_items}
use Rattle.wf_scope.proofs.written.append.Given as goal

-- the items so far stand behind those of the list
abbrev pub invariant-loop-item : goal.invariant-loop-item
invariant-loop-item l = l.list ≡ l.fn.list ++ take l.item-index (plain_items l.items)
