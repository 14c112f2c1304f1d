use Rattle.std.proofs.Common.{◌∙◌, rules}
use Rattle.wf_value.proofs.Measured.{pair_measured}
use Rattle.wf_value.proofs.Seeks.{missing_inserts, missing_value, missing_within}
use Rattle.wf_value.proofs.entries.insert_at.Goals as goal

pub insert-requires : goal.insert-requires
insert-requires c = search (rules, missing_within c.args.entries.now.pairs.items c.args.key c.args.i c.requires.place)

pub returns-in_default-clause-old : goal.returns-in_default-clause-old
returns-in_default-clause-old c = missing_value c.args.entries.now.pairs.items c.args.key c.args.i c.requires.order c.requires.place

pub returns-clause-after : goal.returns-clause-after
returns-clause-after c = c.in-Ok.ensures.items ∙ missing_inserts c.args.entries.now.pairs.items c.args.key c.args.i c.args.value c.requires.place

pub returns-clause-old : goal.returns-clause-old
returns-clause-old c = missing_value c.args.entries.now.pairs.items c.args.key c.args.i c.requires.order c.requires.place

pub returns-clause-measure : goal.returns-clause-measure
returns-clause-measure c =
    let old = c.args.entries.now in
    let ps = old.pairs.items in
    let more = c.with_pair-measure in
    pair_measured old.measure c.of_value.result more.result c.args.key c.args.value ps c.insert.new.self.items
    c.requires.measured c.of_value.ensures more.ensures.size more.ensures.depth (missing_value ps c.args.key c.args.i c.requires.order c.requires.place)
    (c.in-Ok.ensures.items ∙ missing_inserts ps c.args.key c.args.i c.args.value c.requires.place)
