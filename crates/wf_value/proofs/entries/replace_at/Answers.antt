use Rattle.std.proofs.Common.{ap, sym, ◌∙◌, Some, rules}
use Rattle.wf_value.proofs.Measured.{value_measured}
use Rattle.wf_value.proofs.Seeks.{found_value, found_within, found_writes}
use Rattle.wf_value.proofs.entries.replace_at.Goals as goal

pub index_mut-requires : goal.index_mut-requires
index_mut-requires c = search (rules, found_within c.args.entries.now.pairs.items c.args.key.now c.args.i c.requires.place)

pub returns-in_default-clause-after : goal.returns-in_default-clause-after
returns-in_default-clause-after c =
    rw c.replace-replaced.ensures.after (found_writes c.args.entries.now.pairs.items c.args.key.now c.args.i c.index_mut.result.now c.args.value c.index_mut.ensures.value c.requires.place)

pub returns-in_default-clause-old : goal.returns-in_default-clause-old
returns-in_default-clause-old c =
    ap Some (c.replace-replaced.ensures.value ∙ ap (λ p. p.1) c.index_mut.ensures.value) ∙ sym (found_value c.args.entries.now.pairs.items c.args.key.now c.args.i c.index_mut.result.now c.requires.place)

pub returns-clause-after : goal.returns-clause-after
returns-clause-after c =
    rw c.replace-replaced.ensures.after (found_writes c.args.entries.now.pairs.items c.args.key.now c.args.i c.index_mut.result.now c.args.value c.index_mut.ensures.value c.requires.place)

pub returns-clause-old : goal.returns-clause-old
returns-clause-old c =
    ap Some (c.replace-replaced.ensures.value ∙ ap (λ p. p.1) c.index_mut.ensures.value) ∙ sym (found_value c.args.entries.now.pairs.items c.args.key.now c.args.i c.index_mut.result.now c.requires.place)

pub returns-clause-measure : goal.returns-clause-measure
returns-clause-measure c =
    let old = c.args.entries.now in
    let ps = old.pairs.items in
    let k = c.args.key.now in
    let v = c.replace-replaced.result in
    let more = c.in-Some in
    let there = ap Some (c.replace-replaced.ensures.value ∙ ap (λ p. p.1) c.index_mut.ensures.value) ∙ sym (found_value ps k c.args.i c.index_mut.result.now c.requires.place) in
    value_measured old.measure c.of_value-old.result c.of_value-new.result more.measure k v c.args.value ps _
    c.requires.measured c.of_value-old.ensures c.of_value-new.ensures more.ensures.known.0 more.ensures.known.1 more.ensures.size more.ensures.depth
    c.requires.order (sym there) (rw c.replace-replaced.ensures.after (found_writes ps k c.args.i c.index_mut.result.now c.args.value c.index_mut.ensures.value c.requires.place))
