use Rattle.wf_value.specs.Plain.{plain}
use Rattle.wf_eval.proofs.Listed.{item_found, key_found}
use Rattle.wf_eval.proofs.members.found_in.Goals as goal

pub returns-in-Text : goal.returns-in-Text
returns-in-Text c =
    key_found c.is_some.result c.args.v.now c.args.w.now c.in-Text.k c.as_str.result.now c.in-Map.m (λ v. plain v.now) c.get.result c.in-Map.is c.in-Text.is c.as_str.ensures c.get.ensures.value c.is_some.ensures

pub returns-in-List : goal.returns-in-List
returns-in-List c = item_found c.is_item.result (plain c.args.v.now) c.args.w.now c.in-List.l c.items.result.now c.in-List.is c.items.ensures c.is_item.ensures
