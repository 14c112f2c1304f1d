use Rattle.std.proofs.Common.{rules}
use Rattle.wf_ast.specs.View.{template_view}
use Rattle.wf_syntax.proofs.Valued.{two, range_first, range_last, range_gives, range_length}
use Rattle.wf_syntax.proofs.values.range.Goals as goal
use Rattle.wf_syntax.proofs.values.range.Goals.{in_default-items-via-then-items-lt2, in_default-items-via-else-items-lt2+else-this-lt3}

pub returns-in-Err : goal.returns-in-Err
returns-in-Err c =
    let ts = c.items.result.now in
    let e = two ts c.first-item.result c.last-item.result c.in-len2.len_at_least c.in-len2.len_below c.first-item.is c.last-item.is in
    range_first c.args.tree.now _ ts c.first-item.result c.last-item.result c.in-Err.stop c.at_index.result c.in-List.is c.items.ensures e c.in-Err.ensures c.at_index.ensures

pub returns-in-Ok-value : goal.returns-in-Ok-value
returns-in-Ok-value c =
    let ts = c.items.result.now in
    let e = two ts c.first-item.result c.last-item.result c.in-len2.len_at_least c.in-len2.len_below c.first-item.is c.last-item.is in
    range_gives c.args.tree.now _ ts c.first-item.result c.last-item.result (template_view c.in-Ok.value) (template_view c.in-Ok-value.last) c.in-List.is c.items.ensures e c.in-Ok.ensures c.in-Ok-value.ensures

pub returns-in-Err-value : goal.returns-in-Err-value
returns-in-Err-value c =
    let ts = c.items.result.now in
    let e = two ts c.first-item.result c.last-item.result c.in-len2.len_at_least c.in-len2.len_below c.first-item.is c.last-item.is in
    range_last c.args.tree.now _ ts c.first-item.result c.last-item.result c.in-Err-value.stop c.at_index-in-Err-value.result c.in-List.is c.items.ensures e c.in-Ok.ensures.0 c.in-Err-value.ensures c.at_index-in-Err-value.ensures

pub returns-in_default-items : goal.returns-in_default-items
returns-in_default-items c =
    range_length c.args.tree.now _ c.items.result.now c.here-in_default-items.result c.in-List.is c.items.ensures
    (elim c.in_default-items.branch [ in_default-items-via-then-items-lt2 w ↦ λ e. search rules | in_default-items-via-else-items-lt2+else-this-lt3 w ↦ λ e. search rules ])
    c.here-in_default-items.ensures
