use Rattle.std.proofs.Common.{rules}
use Rattle.std.proofs.lemmas.Fn.{always_returns_same}
use Rattle.wf_value.specs.Maps.{key_cmp}
use Rattle.wf_value.proofs.Searches.{search_is_seek}
use Rattle.wf_tree.proofs.entries.seek.Goals as goal

pub returns-clause-place : goal.returns-clause-place
returns-clause-place c =
    let facts = c.binary_search_by.ensures in
    search_is_seek c.args.key.now c.args.pairs.now c.binary_search_by.result c.requires facts.bound
    (facts.position (λ p. key_cmp p.0 c.args.key.now) (always_returns_same _ _ _ (λ a r f' called. search rules)))
