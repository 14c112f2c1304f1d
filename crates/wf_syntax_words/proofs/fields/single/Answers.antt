use Rattle.std.proofs.Common.{◌∙◌, sym, ap}
use Rattle.wf_tree.specs.Plain.{plain_tree}
use Rattle.wf_syntax_words.proofs.Pairs.{two_pairs, one_pair}
use Rattle.wf_syntax_words.proofs.fields.single.Goals as goal

pub returns-then-is_some : goal.returns-then-is_some
returns-then-is_some c = two_pairs (λ p. (p.0.now, plain_tree p.1.now)) c.in-Map.fields c.entry.result (plain_tree c.args.tree.now) (ap plain_tree c.in-Map.is) c.entry.ensures (sym c.is_some.ensures ∙ c.if-is_some.true)

pub returns-else-is_some : goal.returns-else-is_some
returns-else-is_some c = one_pair (λ p. (p.0.now, plain_tree p.1.now)) c.in-Map.fields c.entry.result _ (plain_tree c.args.tree.now) (ap plain_tree c.in-Map.is) c.entry.ensures (sym c.is_some.ensures ∙ c.if-is_some.false) c.entry-else-is_some.ensures
