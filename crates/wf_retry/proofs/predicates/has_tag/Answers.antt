use Rattle.wf_retry.proofs.Held.{items-items_of, list_any-map}
use Rattle.wf_retry.proofs.predicates.has_tag.Goals as goal

pub returns-in-Some-List : goal.returns-in-Some-List
returns-in-Some-List c =
    let e = rw c.in-Some-List.field-0-is at c.in-Some-List.ensures.value in rw (← e, items-items_of, ← c.items.ensures, list_any-map) c.holds_text.ensures
