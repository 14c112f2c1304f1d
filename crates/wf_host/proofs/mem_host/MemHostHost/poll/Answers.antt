use Rattle.std.proofs.Common.{[], ◌≤◌, refl, sym, ◌∙◌, ap, subst}
use Rattle.std.proofs.lemmas.List.{append-nil}
use Rattle.wf_host.specs.declared.data.What.{What}
use Rattle.wf_host.specs.World.{Same, piece_len, visit_of}
use Rattle.wf_host.specs.CallRecord.{record_world}
use Rattle.wf_host.proofs.Printed.{prints_go_on}
use Rattle.wf_host.specs.Ahead.{Ahead, piece_limit, next_thing}
use Rattle.wf_host.proofs.Speakers.{small_thing}
use Rattle.wf_host.proofs.Owned.{heard_alone}
use Rattle.wf_host.proofs.Foreseen.{foreseen_goes_on, foreseen_at, same_services_read}
use Rattle.wf_host.proofs.mem_host.MemHostHost.poll.Goals as goal

pub invariant_of-self-in-Ok-act : goal.invariant_of-self-in-Ok-act
invariant_of-self-in-Ok-act c =
    let h = c.args.self.now in
    let w = record_world c.act.new.self in
    record {
      shown = prints_go_on Same _ (record_world h.log) w h.printed.items h.printed.items [] c.in-Ok-act.ensures.time h.shown (sym (append-nil h.printed.items)) refl;
      foreseen = foreseen_at h.progress c.count_reading.new.self c.count_poll.new.self w.deeds (same_services_read _ _ _ c.begin_call.ensures.counts c.count_reading.ensures)
          (foreseen_goes_on h.progress.services Same _ (record_world h.log) w h.outlook c.count_poll.new.self c.in-Ok-act.ensures.time h.foreseen c.count_poll.ensures);
    }

pub returns-in-Ok-act-clause-piece : goal.returns-in-Ok-act-clause-piece
returns-in-Ok-act-clause-piece c = subst (λ (w : What). piece_len w ≤ 65536) (sym c.in-Ok.ensures) (small_thing c.args.self.now.outlook)

pub returns-in-Ok-act-clause-calls_alone : goal.returns-in-Ok-act-clause-calls_alone
returns-in-Ok-act-clause-calls_alone c =
    let h = c.args.self.now in
    ap visit_of (c.in-Ok.ensures ∙ ap (λ (a : Ahead). next_thing piece_limit a) h.foreseen) ∙ heard_alone h.progress.services (record_world h.log).deeds
