use Rattle.std.proofs.Common.{◌∙◌, refl, sym, option_to_list}
use Rattle.wf_host.specs.declared.data.Deed.TheVariants.{Start}
use Rattle.wf_host.specs.CallRecord.{record_world}
use Rattle.wf_host.proofs.Foreseen.{foreseen_either, shown_either, started_line, more_calls, foreseen_at, same_services}
use Rattle.wf_host.proofs.mem_host.MemHostHost.start.Goals as goal

pub invariant_of-self-2 : goal.invariant_of-self-2
invariant_of-self-2 c =
    let h = c.args.self.now in
    let w = record_world c.start.new.log in
    let to = c.in_ok-copy.field-0 in
    let d = Start c.args.call to c.in_ok-new.field-0 in
    let script = same_services h.progress c.begin_call-fails.new.self c.begin_call-fails.ensures.counts in
    let line = started_line c.args.call h.outlook.polls c.services-services.result.now h.progress.services c.args.to.now to c.deeds.result.now (record_world h.log).deeds (option_to_list c.in_ok-speaker.speaker) c.in_ok-speaker.ensures (c.services-services.ensures ∙ script) (sym c.in_ok-copy.ensures) c.deeds.ensures in
    record {
      shown = shown_either c.start.result d (record_world h.log) w h.printed.items c.start.ensures.time refl h.shown;
      foreseen = foreseen_at h.progress c.begin_call-fails.new.self c.start.new.self w.deeds script
          (foreseen_either c.start.result h.progress.services d (record_world h.log) w h.outlook c.start.new.self _ c.start.ensures.time c.start.ensures.lines c.start.ensures.stays (more_calls h.outlook _ _ line) h.foreseen);
    }
