use Rattle.std.proofs.Common.{[], refl, sym}
use Rattle.std.proofs.lemmas.List.{append-nil}
use Rattle.wf_host.specs.World.{Same}
use Rattle.wf_host.specs.CallRecord.{record_world}
use Rattle.wf_host.proofs.Printed.{prints_go_on}
use Rattle.wf_host.proofs.Foreseen.{foreseen_goes_on, foreseen_at, same_services}
use Rattle.wf_host.proofs.mem_host.MemHostHost.drop_call.Goals as goal

pub invariant_of-self-2 : goal.invariant_of-self-2
invariant_of-self-2 c =
    let h = c.args.self.now in
    let w = record_world c.act.new.self in
    record {
      shown = prints_go_on Same _ (record_world h.log) w h.printed.items h.printed.items [] c.in_ok-act.ensures.time h.shown (sym (append-nil h.printed.items)) refl;
      foreseen = foreseen_at h.progress c.begin_call-fails.new.self c.drop_call.new.self w.deeds (same_services _ _ c.begin_call-fails.ensures.counts)
          (foreseen_goes_on h.progress.services Same _ (record_world h.log) w h.outlook c.drop_call.new.self c.in_ok-act.ensures.time h.foreseen c.drop_call.ensures);
    }
