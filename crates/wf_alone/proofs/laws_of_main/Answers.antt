-- The law by its lemma.
use Rattle.wf_alone.proofs.Begun as begun
use Rattle.wf_alone.proofs.laws_of_main.Goals as goal

pub returns : goal.returns
returns c = begun.initial_to
