use Rattle.wf_table.proofs.Going.{adds_all, all_numbers, begins, goes}
use Rattle.wf_table.proofs.Laid.{entries_lay, entry_own, entry_parts, numbers_of_entries}
use Rattle.wf_table.proofs.growing.entries.Goals as goal

pub loop-entry-init : goal.loop-entry-init
loop-entry-init c = λ os st. begins (entry_parts os) numbers_of_entries _ _ _ c.new-numbers.ensures.items

pub loop-entry-preserved : goal.loop-entry-preserved
loop-entry-preserved c = λ os st.
    goes (entry_parts os) numbers_of_entries (entry_own os) (entries_lay os) _ c.loop-entry.nodes.items _ c.args.entries.now c.loop-entry.entry-index c.entry-item.result c.loop-entry.numbers.items _ c.in_ok-entry_node.field-0
    c.loop-entry-test.true c.entry-item.is c.in_ok-entry_node.ensures.number c.in_ok-add.ensures (c.in_ok-entry_node.ensures.adds os st) (c.loop-entry.invariant os st)

pub returns : goal.returns
returns c = λ os st. (
  all_numbers (entry_parts os) numbers_of_entries (entry_own os) (entries_lay os) _ c.loop-entry.nodes.items c.args.entries.now c.loop-entry.entry-index c.loop-entry.numbers.items c.loop-entry-test.false (c.loop-entry.invariant os st),
  adds_all (entry_parts os) numbers_of_entries (entry_own os) (entries_lay os) _ c.loop-entry.nodes.items c.args.entries.now c.loop-entry.entry-index c.loop-entry.numbers.items c.loop-entry-test.false (c.loop-entry.invariant os st),
)
