use Rattle.std.proofs.Common.{◌≡◌, ◌∙◌, ◌+◌, ap, sym, Ok, take, drop}
use Rattle.wf_lemmas.proofs.Results.{still_open}
use Rattle.wf_history.specs.Stands.{ahead, is_closed}
use Rattle.wf_deeds.specs.At.{applied_by}
use Rattle.wf_deeds.specs.History.{goes_to}
use Rattle.wf_machine.specs.Seen.{state_of}
use Rattle.wf_replay.proofs.FirstRecords.{applied_in_all, at_first_record, at_later_record}
use Rattle.wf_replay.proofs.StillOpen.{some_first, tells_still}
use Rattle.wf_replay.specs.Standing.{standing}
use Rattle.wf_replay.specs.TheLanguage.{the_language}
use Rattle.wf_replay.specs.declared.fault.ReplayFault.TheVariants as fault
use Rattle.wf_report.proofs.Fronts.{config_is, rest_stops, stands}
use Rattle.wf_report.proofs.Opened.{stays_on}
use Rattle.wf_report.specs.Texts.{shown_as}
use Rattle.wf_report.proofs.opening.front_state.Goals as goal

pub returns-in_err-machine-clause-not_a_history : goal.returns-in_err-machine-clause-not_a_history
returns-in_err-machine-clause-not_a_history g c = λ told.
    at_first_record the_language (ahead c.args.history.now (g.H.Host.world c.args.host.now).seen) c.from_residual.result c.in_err-machine.field-0.0 c.from_residual.ensures (c.in_err-machine.ensures.not_a_history told)

pub returns-in_err-stood-clause-not_a_history : goal.returns-in_err-stood-clause-not_a_history
returns-in_err-stood-clause-not_a_history g c = λ told.
    let w = g.H.Host.world c.args.host.now in
    let m1 = g.H.Host.world c.first_machine.new.host in
    let told1 = tells_still w m1 c.first_machine.ensures.tells told in
    let seen1 = c.first_machine.ensures.seen told in
    let h1 = c.first_machine.new.history in
    let s = standing h1 c.in_ok-machine.machine in
    let (payload, next, first) = c.in_ok-machine.ensures.leads told in
    at_later_record the_language (ahead c.args.history.now w.seen) (ahead h1 w.seen) s c.from_residual-in_err-stood.result c.in_err-stood.field-0.0 c.from_residual-in_err-stood.ensures (record { payload = payload; next = next; first = first })
    (λ n is. ap (λ f. goes_to the_language s (ahead h1 f)) (sym seen1) ∙ c.in_err-stood.ensures.bad_event told1 n is)

pub returns-in_err-replay-clause-not_a_history : goal.returns-in_err-replay-clause-not_a_history
returns-in_err-replay-clause-not_a_history g c = λ told.
    let w = g.H.Host.world c.args.host.now in
    let m1 = g.H.Host.world c.first_machine.new.host in
    let told1 = tells_still w m1 c.first_machine.ensures.tells told in
    let seen1 = c.first_machine.ensures.seen told in
    let h1 = c.first_machine.new.history in
    let s = standing h1 c.in_ok-machine.machine in
    let (payload, next, first) = c.in_ok-machine.ensures.leads told in
    let m2 = g.H.Host.world c.replay_turns.new.host in
    let told2 = tells_still m1 m2 c.replay_turns.ensures.tells told1 in
    let seen2 = c.replay_turns.ensures.seen told1 in
    let h2 = c.replay_turns.new.history in
    let s2 = standing h2 c.in_ok-stood.stood in
    let front : goes_to the_language s (take c.args.turns (ahead h1 w.seen)) ≡ Ok s2 = ap (λ f. goes_to the_language s (take c.args.turns (ahead h1 f))) (sym seen1) ∙ c.in_ok-stood.ensures.replayed told1 in
    let behind : goes_to the_language s2 (drop c.args.turns (ahead h1 w.seen)) ≡ goes_to the_language s2 (ahead h2 m2.seen) =
    ap (λ f. goes_to the_language s2 (drop c.args.turns (ahead h1 f))) (sym seen1) ∙ ap (goes_to the_language s2) (sym (c.in_ok-stood.ensures.left told1)) ∙ ap (λ f. goes_to the_language s2 (ahead h2 f)) (sym seen2) in
    rest_stops c.laws_of_histories.ensures.records_go_on the_language (ahead c.args.history.now w.seen) payload (ahead h1 w.seen) c.args.turns s s2 next first front c.from_residual-in_err-replay.result c.in_err-replay.field-0.0 c.from_residual-in_err-replay.ensures
    (λ n is. behind ∙ c.in_err-replay.ensures.bad_event told2 n is)

pub returns-clause-shows : goal.returns-clause-shows
returns-clause-shows g c = λ told.
    let w = g.H.Host.world c.args.host.now in
    let m1 = g.H.Host.world c.first_machine.new.host in
    let told1 = tells_still w m1 c.first_machine.ensures.tells told in
    let seen1 = c.first_machine.ensures.seen told in
    let h1 = c.first_machine.new.history in
    let s = standing h1 c.in_ok-machine.machine in
    let (payload, next, first) = c.in_ok-machine.ensures.leads told in
    let m2 = g.H.Host.world c.replay_turns.new.host in
    let told2 = tells_still m1 m2 c.replay_turns.ensures.tells told1 in
    let seen2 = c.replay_turns.ensures.seen told1 in
    let h2 = c.replay_turns.new.history in
    let s2 = standing h2 c.in_ok-stood.stood in
    let front : goes_to the_language s (take c.args.turns (ahead h1 w.seen)) ≡ Ok s2 = ap (λ f. goes_to the_language s (take c.args.turns (ahead h1 f))) (sym seen1) ∙ c.in_ok-stood.ensures.replayed told1 in
    let behind : goes_to the_language s2 (drop c.args.turns (ahead h1 w.seen)) ≡ goes_to the_language s2 (ahead h2 m2.seen) =
    ap (λ f. goes_to the_language s2 (drop c.args.turns (ahead h1 f))) (sym seen1) ∙ ap (goes_to the_language s2) (sym (c.in_ok-stood.ensures.left told1)) ∙ ap (λ f. goes_to the_language s2 (ahead h2 f)) (sym seen2) in
    let config = (state_of c.in_ok-stood.stood).config in (
      config,
      stands c.laws_of_histories.ensures.records_go_on the_language (ahead c.args.history.now w.seen) payload (ahead h1 w.seen) c.args.turns s s2 next first front (standing c.replay.new.history c.in_ok-replay.field-0) config (behind ∙ c.in_ok-replay.ensures.replayed told2) (config_is h2 c.in_ok-stood.stood),
      c.in_ok-text.ensures ∙ ap (λ i. shown_as i config) c.id.ensures,
    )

pub returns-clause-steps : goal.returns-clause-steps
returns-clause-steps g c = λ told.
    let w = g.H.Host.world c.args.host.now in
    let m1 = g.H.Host.world c.first_machine.new.host in
    let told1 = tells_still w m1 c.first_machine.ensures.tells told in
    let seen1 = c.first_machine.ensures.seen told in
    let h1 = c.first_machine.new.history in
    let s = standing h1 c.in_ok-machine.machine in
    let (payload, next, first) = c.in_ok-machine.ensures.leads told in
    let m2 = g.H.Host.world c.replay_turns.new.host in
    let told2 = tells_still m1 m2 c.replay_turns.ensures.tells told1 in
    let seen2 = c.replay_turns.ensures.seen told1 in
    let h2 = c.replay_turns.new.history in
    let s2 = standing h2 c.in_ok-stood.stood in
    let front : goes_to the_language s (take c.args.turns (ahead h1 w.seen)) ≡ Ok s2 = ap (λ f. goes_to the_language s (take c.args.turns (ahead h1 f))) (sym seen1) ∙ c.in_ok-stood.ensures.replayed told1 in
    let behind : goes_to the_language s2 (drop c.args.turns (ahead h1 w.seen)) ≡ goes_to the_language s2 (ahead h2 m2.seen) =
    ap (λ f. goes_to the_language s2 (drop c.args.turns (ahead h1 f))) (sym seen1) ∙ ap (goes_to the_language s2) (sym (c.in_ok-stood.ensures.left told1)) ∙ ap (λ f. goes_to the_language s2 (ahead h2 f)) (sym seen2) in
    let turns_counted = c.in_ok-stood.ensures.steps told1 in
    let rest_counted = c.in_ok-replay.ensures.steps told2 ∙ ap (λ f. c.replay_turns.new.steps + applied_by (ahead h2 f)) seen2 in
    let all : c.replay.new.steps ≡ c.args.steps.now + applied_by (ahead h1 w.seen) = rest_counted ∙ turns_counted ∙ ap (λ f. c.args.steps.now + applied_by (ahead h1 f)) seen1 in
    applied_in_all the_language (ahead c.args.history.now w.seen) payload (ahead h1 w.seen) s c.args.steps.now c.replay.new.steps next first all

pub returns-clause-some : goal.returns-clause-some
returns-clause-some g c = λ told.
    let w = g.H.Host.world c.args.host.now in
    let m1 = g.H.Host.world c.first_machine.new.host in
    let told1 = tells_still w m1 c.first_machine.ensures.tells told in
    let seen1 = c.first_machine.ensures.seen told in
    let h1 = c.first_machine.new.history in
    let s = standing h1 c.in_ok-machine.machine in
    let (payload, next, first) = c.in_ok-machine.ensures.leads told in
    some_first (ahead c.args.history.now w.seen) (ahead h1 w.seen) payload next

pub returns-clause-stands : goal.returns-clause-stands
returns-clause-stands g c = λ told.
    let w = g.H.Host.world c.args.host.now in
    let m1 = g.H.Host.world c.first_machine.new.host in
    let told1 = tells_still w m1 c.first_machine.ensures.tells told in
    let m2 = g.H.Host.world c.replay_turns.new.host in
    let told2 = tells_still m1 m2 c.replay_turns.ensures.tells told1 in
    let open2 = still_open (is_closed c.first_machine.new.history) (is_closed c.replay_turns.new.history) fault.DiskFault c.replay_turns.result c.in_ok-stood.stood c.in_ok-stood.was c.in_ok-machine.ensures.still_open c.replay_turns.ensures.closes in
    c.replay.ensures.stands (still_open (is_closed c.replay_turns.new.history) (is_closed c.replay.new.history) fault.DiskFault c.replay.result c.in_ok-replay.field-0 c.in_ok-replay.was open2 c.replay.ensures.closes) told2

pub returns-in_err-replay-clause-any_moment : goal.returns-in_err-replay-clause-any_moment
returns-in_err-replay-clause-any_moment g c = λ told.
    let w = g.H.Host.world c.args.host.now in
    let m1 = g.H.Host.world c.first_machine.new.host in
    let m2 = g.H.Host.world c.replay_turns.new.host in
    let m3 = g.H.Host.world c.replay.new.host in
    let told1 = tells_still w m1 c.first_machine.ensures.tells told in
    let told2 = tells_still m1 m2 c.replay_turns.ensures.tells told1 in
    let seen1 = c.first_machine.ensures.seen told in
    let deeds1 = c.first_machine.ensures.deeds told in
    let both = stays_on w m1 m2 (c.first_machine.ensures.any_moment told) (c.replay_turns.ensures.any_moment c.in_ok-machine.ensures.still_open told1) seen1 deeds1 in
    let open2 = still_open (is_closed c.first_machine.new.history) (is_closed c.replay_turns.new.history) fault.DiskFault c.replay_turns.result c.in_ok-stood.stood c.in_ok-stood.was c.in_ok-machine.ensures.still_open c.replay_turns.ensures.closes in
    stays_on w m2 m3 both (c.replay.ensures.any_moment open2 told2) (c.replay_turns.ensures.seen told1 ∙ seen1) (c.replay_turns.ensures.deeds told1 ∙ deeds1)

pub returns-clause-any_moment : goal.returns-clause-any_moment
returns-clause-any_moment g c = λ told.
    let w = g.H.Host.world c.args.host.now in
    let m1 = g.H.Host.world c.first_machine.new.host in
    let m2 = g.H.Host.world c.replay_turns.new.host in
    let m3 = g.H.Host.world c.replay.new.host in
    let told1 = tells_still w m1 c.first_machine.ensures.tells told in
    let told2 = tells_still m1 m2 c.replay_turns.ensures.tells told1 in
    let seen1 = c.first_machine.ensures.seen told in
    let deeds1 = c.first_machine.ensures.deeds told in
    let both = stays_on w m1 m2 (c.first_machine.ensures.any_moment told) (c.replay_turns.ensures.any_moment c.in_ok-machine.ensures.still_open told1) seen1 deeds1 in
    let open2 = still_open (is_closed c.first_machine.new.history) (is_closed c.replay_turns.new.history) fault.DiskFault c.replay_turns.result c.in_ok-stood.stood c.in_ok-stood.was c.in_ok-machine.ensures.still_open c.replay_turns.ensures.closes in
    stays_on w m2 m3 both (c.replay.ensures.any_moment open2 told2) (c.replay_turns.ensures.seen told1 ∙ seen1) (c.replay_turns.ensures.deeds told1 ∙ deeds1)
