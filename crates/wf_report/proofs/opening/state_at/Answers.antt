use Rattle.std.proofs.Common.{rules, ◌≡◌, ◌∙◌, ◌+◌, ap, sym}
use Rattle.std.specs.Prelude.{IsTrue}
use Rattle.wf_lemmas.proofs.Results.{on_ok}
use Rattle.wf_history.specs.Stands.{ahead}
use Rattle.wf_host.specs.World.{Only}
use Rattle.wf_journal.specs.Records.{records}
use Rattle.wf_deeds.specs.At.{applied_by}
use Rattle.wf_replay.proofs.OnlyReads.{magic_found, quiet_stays, settled_behind}
use Rattle.wf_replay.proofs.StillOpen.{tells_still}
use Rattle.wf_replay.specs.TheLanguage.{the_language}
use Rattle.wf_report.proofs.Opened.{no_history_for, no_play_for, shows_found}
use Rattle.wf_report.proofs.opening.state_at.Goals as goal

pub returns : goal.returns
returns g c =
    let w = g.H.Host.world c.args.host.now in
    let mid = g.H.Host.world c.open.new.host in
    let late = g.H.Host.world c.front_state.new.host in
    let file = c.open.ensures in
    let rest = c.front_state.ensures in
    let J = ahead c.in_ok-history.history mid.seen in
    let on : IsTrue w.tells → IsTrue mid.tells = λ told. tells_still w mid file.tells told in
    let found : IsTrue w.tells → J ≡ records w.seen = λ told. c.in_ok-history.ensures.first told ∙ ap records (file.seen told) in
    record {
      shows = λ told. shows_found the_language w.seen J c.args.turns c.front_state.result (found told) (rest.shows (on told));
      steps = λ told. on_ok c.front_state.result (λ is. is ∙ ap (λ l. c.args.steps.now + applied_by l) (found told)) (rest.steps (on told));
      begins = λ told. on_ok c.front_state.result (λ some. magic_found w.seen (c.in_ok-history.ensures.a_journal told) (λ none. some (found told ∙ none))) (rest.some (on told));
      seen = λ told. rest.seen (on told) ∙ file.seen told;
      any_moment = λ told. quiet_stays w mid late (file.any_moment told) (rest.any_moment (on told)) (file.seen told) (file.deeds told) (g.met.H.Host.reads_back c.args.host.now told);
      disk_fault = search rules;
      not_a_journal = search rules;
      not_started = λ told is. (sym (found told) ∙ rest.not_started (on told) is, c.in_ok-history.ensures.a_journal told);
      settled = λ told. on_ok {Q = Only late.seen late.may_leave} c.front_state.result (λ stands. stands.journal.settled) (rest.stands (on told));
      settled_empty = λ told is.
          settled_behind mid late (rest.any_moment (on told)) (λ t i le now. g.met.H.Host.counts_now c.front_state.new.host t i (tells_still mid late rest.tells (on told)) le now) (rest.seen (on told));
      not_a_history = λ told. no_play_for the_language w.seen c.front_state.result (no_history_for the_language w.seen J c.front_state.result (found told) (c.in_ok-history.ensures.a_journal told) (rest.not_a_history (on told)));
      only = search rules;
      deeds = λ told. rest.deeds (on told) ∙ file.deeds told;
      tells = rest.tells ∙ file.tells;
      counts = search rules;
    }
