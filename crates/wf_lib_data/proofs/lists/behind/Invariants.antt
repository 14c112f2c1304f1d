use Rattle.std.proofs.Common.{◌≡◌, ◌∷◌, take}
use Rattle.wf_value.specs.Plain.{plain, plain_items}
use Rattle.wf_lib_data.proofs.lists.behind.Given as goal

-- the value, and the items so far
abbrev pub invariant-loop-item : goal.invariant-loop-item
invariant-loop-item l = l.list ≡ plain l.first ∷ take l.item-index (plain_items l.items)
