use Rattle.std.proofs.Common.{refl}
use Rattle.std.proofs.lemmas.List.{append-nil}
use Rattle.wf_host.specs.World.{Same}
use Rattle.wf_host.specs.CallRecord.{record_world}
use Rattle.wf_host.proofs.Printed.{prints_go_on}
use Rattle.wf_host.proofs.Foreseen.{foreseen_goes_on, foreseen_at, same_services}
use Rattle.wf_host.proofs.mem_host.MemHostHost.print.Goals as goal

pub invariant_of-self-in-Ok : goal.invariant_of-self-in-Ok
invariant_of-self-in-Ok c =
    let h = c.args.self.now in
    record {
      shown = prints_go_on Same _ (record_world h.log) (record_world c.take_down.new.log) h.printed.items c.take_down.new.printed.items _ c.in-Ok.ensures.time h.shown c.in-Ok.ensures.printed (append-nil _);
      foreseen = foreseen_at h.progress c.begin_call.new.self h.outlook (record_world c.take_down.new.log).deeds (same_services _ _ c.begin_call.ensures.counts) (foreseen_goes_on h.progress.services Same _ (record_world h.log) (record_world c.take_down.new.log) h.outlook h.outlook c.in-Ok.ensures.time h.foreseen refl);
    }
