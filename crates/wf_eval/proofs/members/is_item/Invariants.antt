use Rattle.std.proofs.Common.{◌≡◌, drop}
use Rattle.std.specs.List.{list_any}
use Rattle.wf_value.specs.Pairs.{same}
use Rattle.wf_value.specs.Plain.{plain, plain_items}
use Rattle.wf_eval.proofs.members.is_item.Given as goal

-- it is one of what is left, if it is one at all
abbrev pub invariant-loop-w : goal.invariant-loop-w
invariant-loop-w l = list_any (same (plain l.v)) (plain_items l.items) ≡ list_any (same (plain l.v)) (plain_items (drop l.w-index l.items))
