use Rattle.wf_source.proofs.Sourced.{source_is_it}
use Rattle.wf_source.proofs.laws.each_source_is_one.Goals as goal

pub returns : goal.returns
returns c = source_is_it c.laws_of_sources.ensures.one_program c.laws_of_sources.ensures.one_refusal c.laws_of_sources.ensures.not_both
