use Rattle.wf_branches.proofs.Entries.{changed_there, rises_there}
use Rattle.wf_branches.specs.Changes.{with_wait}
use Rattle.wf_branches.proofs.tasks.Tasks.mark.Goals as goal

pub invariant_of-self : goal.invariant_of-self
invariant_of-self c =
    record { rising = rises_there c.args.self.now c.at-place.result c.args.b c.index_mut.result.now c.set_waits.new.self c.at-place.ensures.found c.at-place.ensures.within c.index_mut.ensures.value (with_wait c.args.waits) c.set_waits.ensures }

pub returns : goal.returns
returns c =
    changed_there c.args.self.now c.at-place.result c.args.b c.index_mut.result.now c.set_waits.new.self c.at-place.ensures.found c.at-place.ensures.within c.index_mut.ensures.value (with_wait c.args.waits) c.set_waits.ensures
