use Rattle.std.proofs.Common.{◌≡◌, ◌∙◌, ap, sym, subst, List, ℕ, [], ◌∷◌, Some}
use Rattle.std.specs.Prelude.{MatchOption}
use Rattle.wf_lemmas.proofs.Results.{still_open}
use Rattle.wf_engine.proofs.opening.empty_history.Goals as goal
use Rattle.wf_events.specs.Reading.{meaning}
use Rattle.wf_events.specs.View.{record_view}
use Rattle.wf_history.specs.Stands.{ahead, is_closed}
use Rattle.wf_history.specs.declared.fault.HistoryFault.TheVariants as fault
use Rattle.wf_journal.specs.Records.{records}
use Rattle.wf_replay.proofs.OnlyReads.{settled_behind}
use Rattle.wf_replay.proofs.StillOpen.{some_first, tells_still}

pub returns-in-Ok-None-clause-stands : goal.returns-in-Ok-None-clause-stands
returns-in-Ok-None-clause-stands g c = λ told.
    c.next.ensures.stands (still_open (is_closed c.in_ok-history.history) (is_closed c.next.new.self) fault.DiskFault c.next.result c.in-Ok-None.field-0 c.in-Ok-None.is c.in_ok-history.ensures.open c.next.ensures.closes)
    (tells_still (g.H.Host.world c.args.host.now) (g.H.Host.world c.open.new.host) c.open.ensures.tells told)

pub returns-in-Ok-Some-clause-already_started : goal.returns-in-Ok-Some-clause-already_started
returns-in-Ok-Some-clause-already_started g c = λ told _.
    let w = g.H.Host.world c.args.host.now in
    let mid = g.H.Host.world c.open.new.host in
    let h = c.in_ok-history.history in
    let found = subst (λ o. MatchOption o (ahead h mid.seen ≡ []) (λ r. (payload : List ℕ) × (ahead h mid.seen ≡ payload ∷ ahead c.next.new.self mid.seen) × (meaning payload ≡ Some (record_view r)))) c.in-Ok-Some.field-0-is
    (c.in-Ok-Some.ensures.record (tells_still w mid c.open.ensures.tells told)) in (
      some_first (records w.seen) (ahead c.next.new.self mid.seen) found.0 (ap records (sym (c.open.ensures.seen told)) ∙ sym (c.in_ok-history.ensures.first told) ∙ found.1),
      c.in_ok-history.ensures.a_journal told,
    )

pub returns-in-Ok-Some-clause-settled : goal.returns-in-Ok-Some-clause-settled
returns-in-Ok-Some-clause-settled g c = λ told _.
    let mid = g.H.Host.world c.open.new.host in
    let new = g.H.Host.world c.next.new.host in
    let told_mid = tells_still (g.H.Host.world c.args.host.now) mid c.open.ensures.tells told in
    settled_behind mid new (c.next.ensures.any_moment c.in_ok-history.ensures.open told_mid) (λ t i le now. g.met.H.Host.counts_now c.next.new.host t i (tells_still mid new c.next.ensures.tells told_mid) le now) (c.next.ensures.seen told_mid)

pub returns-in-Err-BadRecord-clause-settled : goal.returns-in-Err-BadRecord-clause-settled
returns-in-Err-BadRecord-clause-settled g c = λ told _.
    let mid = g.H.Host.world c.open.new.host in
    let new = g.H.Host.world c.next.new.host in
    let told_mid = tells_still (g.H.Host.world c.args.host.now) mid c.open.ensures.tells told in
    settled_behind mid new (c.next.ensures.any_moment c.in_ok-history.ensures.open told_mid) (λ t i le now. g.met.H.Host.counts_now c.next.new.host t i (tells_still mid new c.next.ensures.tells told_mid) le now) (c.next.ensures.seen told_mid)

pub returns-in-Err-BadRecord-clause-already_started : goal.returns-in-Err-BadRecord-clause-already_started
returns-in-Err-BadRecord-clause-already_started g c = λ told _.
    let w = g.H.Host.world c.args.host.now in
    let mid = g.H.Host.world c.open.new.host in
    let bad = c.in-Err-BadRecord.ensures.bad_record (tells_still w mid c.open.ensures.tells told) c.in-Err-BadRecord.field-0-0 c.in-Err-BadRecord.field-0-is in (
      some_first (records w.seen) bad.rest bad.payload (ap records (sym (c.open.ensures.seen told)) ∙ sym (c.in_ok-history.ensures.first told) ∙ bad.next),
      c.in_ok-history.ensures.a_journal told,
    )
