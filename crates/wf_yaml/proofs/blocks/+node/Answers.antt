use Rattle.std.proofs.Common.{◌≡◌, ◌+◌, ◌-◌, [], true, false, Result, Ok, subst, sym, ap, ◌∙◌, length, take, drop}
use Rattle.wf_tree.specs.Trees.{Tree}
use Rattle.wf_tree.specs.Plain.{plain_tree}
use Rattle.wf_yaml_line.specs.declared.fault.Fault.{Fault}
use Rattle.wf_yaml_line.specs.Views.{so_far, keys_of, key_view, ReadsAs}
use Rattle.std.specs.Option.{option_map}
use Rattle.wf_lemmas.proofs.Bools.{cond_false}
use Rattle.wf_yaml.specs.Rows as lines
use Rattle.wf_yaml.specs.Cuts.{cut, heads, entries_of}
use Rattle.wf_yaml.specs.Blocks as blocks
use Rattle.wf_yaml.specs.Views.{see, see_all, see_head}
use Rattle.wf_yaml_line.specs.Scalars.{is_delay_key}
use Rattle.wf_yaml_line.specs.Marks.{ends_line}
use Rattle.wf_yaml.proofs.Steps.{block_none, block_some, first_line, holds_first, item_goes_on, list_next, map_next}
use Rattle.wf_yaml.proofs.blocks.+node.Goals as goal

pub block-returns-in-empty : goal.block-returns-in-empty
block-returns-in-empty t c = block_none (101 - c.args.depth) (c.args.indent + 1) (c.args.depth + 1) c.args.delay c.counting.result.now _ c.counting.ensures c.in-empty.len_below

pub block-returns-else-depth-gt100 : goal.block-returns-else-depth-gt100
block-returns-else-depth-gt100 t c =
    subst (λ (read : Result Tree Fault). ReadsAs plain_tree c.node.result read)
    (block_some c.args.depth (c.args.indent + 1) c.args.delay c.counting.result.now c.row-item.result (see_head c.head_of.result) (lines.counting (see_all c.args.body.now)) c.if-depth-gt100.false c.counting.ensures c.in-len1-up.len_at_least c.row-item.is c.head_of.ensures)
    c.node.ensures

pub list_entries-items-preserved : goal.list_entries-items-preserved
list_entries-items-preserved t c =
    let p = heads false c.args.first.column in
    let inner = blocks.inside (101 - c.args.depth) in
    let r = see_head c.items.head in
    let h = see_head c.head_of-head.result in
    let next = c.split_at.result.1.now in
    let body = see_all c.split_at.result.0.now in
    let lead : (cut p (see_all c.items.rest.now)).lead ≡ body = c.body_len-count.ensures.lead ∙ ap see_all (sym c.split_at.ensures.front) in
    let entries : (cut p (see_all c.items.rest.now)).entries ≡ (cut p (see_all next)).entries = c.body_len-count.ensures.entries ∙ ap (λ x. (cut p (see_all x)).entries) (sym c.split_at.ensures.back) in
    let whole = blocks.list_entries inner c.args.first.column c.args.depth (Ok []) (entries_of p (see_head c.args.first) (see_all c.args.behind.now)) in
    list_next inner c.args.first.column c.args.depth p (so_far c.items.items c.items.found) (so_far c.add_item.new.items c.in_ok-found.found) r h
    (see_all c.items.rest.now) body (see_all next) (see_all (take (length next - 1) (drop 1 next))) whole
    lead entries
    (first_line next c.row-item.result h c.in-len1-up.len_at_least c.row-item.is c.head_of-head.ensures)
    (ap p c.head_of-head.ensures ∙ holds_first (λ x. p (see x) ≡ true) c.items.rest.now c.body_len-count.result next c.row-item.result c.split_at.ensures.back c.in-len1-up.len_at_least c.row-item.is c.body_len-count.ensures.head)
    (c.in_ok-found.ensures (blocks.list_entry inner c.args.first.column c.args.depth (r, body)) c.list_entry-entry.ensures)
    c.items.invariant

pub list_entry-returns : goal.list_entry-returns
list_entry-returns t c =
    subst (λ (read : Result Tree Fault). ReadsAs plain_tree c.node.result read)
    (item_goes_on c.args.indent c.args.depth (see_head c.args.head) c.behind_first-rest.result.now c.skip_blanks-text.result.now (see_all c.args.body.now)
    c.if-depth-gt100.false (sym c.starts_tab.ensures ∙ c.if-starts_tab.false) c.if-head-indent.false (sym c.is_item.ensures.value ∙ c.if-not-is_item.false)
    c.behind_first-rest.ensures.rest (sym c.ends_line.ensures ∙ c.if-ends_line.false) c.skip_blanks-text.ensures.rest (sym c.in_ok-is_refused.ensures ∙ c.if-is_refused.false))
    c.node.ensures

pub map_entries-pairs-preserved : goal.map_entries-pairs-preserved
map_entries-pairs-preserved t c =
    let p = heads true c.args.first.column in
    let inner = blocks.inside (101 - c.args.depth) in
    let r = see_head c.pairs.head in
    let h = see_head c.head_of-head.result in
    let next = c.split_at.result.1.now in
    let body = see_all c.split_at.result.0.now in
    let lead : (cut p (see_all c.pairs.rest.now)).lead ≡ body = c.body_len-count.ensures.lead ∙ ap see_all (sym c.split_at.ensures.front) in
    let entries : (cut p (see_all c.pairs.rest.now)).entries ≡ (cut p (see_all next)).entries = c.body_len-count.ensures.entries ∙ ap (λ x. (cut p (see_all x)).entries) (sym c.split_at.ensures.back) in
    let whole = blocks.map_entries inner c.args.first.column c.args.depth (Ok []) [] (entries_of p (see_head c.args.first) (see_all c.args.behind.now)) in
    map_next inner c.args.first.column c.args.depth p (so_far c.pairs.pairs c.pairs.found) (so_far c.add_pair.new.pairs c.in_ok-found.found) (keys_of c.pairs.keys) (keys_of c.add_key.new.keys) (option_map key_view c.in_ok-key.key) r h
    (see_all c.pairs.rest.now) body (see_all next) (see_all (take (length next - 1) (drop 1 next))) whole
    lead entries
    (first_line next c.row-item.result h c.in-len1-up.len_at_least c.row-item.is c.head_of-head.ensures)
    (ap p c.head_of-head.ensures ∙ holds_first (λ x. p (see x) ≡ true) c.pairs.rest.now c.body_len-count.result next c.row-item.result c.split_at.ensures.back c.in-len1-up.len_at_least c.row-item.is c.body_len-count.ensures.head)
    (c.in_ok-found.ensures (blocks.map_entry inner c.args.first.column c.args.depth (keys_of c.pairs.keys) (r, body)) c.map_entry-entry.ensures)
    c.in_ok-key.ensures
    c.in_ok-add_key.ensures
    c.pairs.invariant

pub pair_value-returns : goal.pair_value-returns
pair_value-returns t c =
    let delay = c.is_delay_key-delay.ensures ∙ ap is_delay_key c.as_str.ensures in
    subst (λ (read : Result Tree Fault). ReadsAs plain_tree c.scalar.result read)
    ((λ i. blocks.scalar (c.args.indent + 1) (c.args.depth + 1) (delay i) c.args.number (c.skip_blanks-text.ensures.rest i) (see_all c.args.body.now))
    ∙ sym (cond_false (ends_line c.args.key.now.rest.now) _ _ (sym c.ends_line.ensures ∙ c.if-ends_line.false)))
    c.scalar.ensures
