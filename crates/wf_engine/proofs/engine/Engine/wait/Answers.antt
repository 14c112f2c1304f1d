use Rattle.std.proofs.Common.{◌+◌, [], ◌∷◌, arith, sym, ◌∙◌, ap}
use Rattle.wf_engine.proofs.CallsSent.{told_then}
use Rattle.wf_engine.proofs.Parts.{MayPollNow, far_poll, more_within, poll_moments, silence_moments}
use Rattle.wf_engine.proofs.Polling.{has_waited, part_far, still_holds}
use Rattle.wf_engine.proofs.SentLists.{sending_polls}
use Rattle.wf_engine.proofs.engine.Engine.wait.Goals as goal
use Rattle.wf_engine.specs.Engine.{memory}
use Rattle.wf_host.specs.declared.data.Deed.TheVariants.{Poll}
use Rattle.wf_model.specs.Config.{Config}
use Rattle.wf_replay.specs.TheLanguage.{the_language}

-- nothing was sent
pub returns-in_err-send_open-clause-any_moment : goal.returns-in_err-send_open-clause-any_moment
returns-in_err-send_open-clause-any_moment g c = λ O told.
    let w = g.H.Host.world c.args.host.now in
    more_within the_language O 0 1 (memory c.args.self.now) w (g.H.Host.world c.send_open.new.host) (omega arith) (c.send_open.ensures.any_moment O c.requires.«open» told)

-- the poll failed
pub returns-in_err-heard-clause-any_moment : goal.returns-in_err-heard-clause-any_moment
returns-in_err-heard-clause-any_moment g c = λ O told.
    let e = c.args.self.now in
    let d = c.send_open.new.self in
    let w = g.H.Host.world c.args.host.now in
    let mid = g.H.Host.world c.send_open.new.host in
    let told_mid = told_then w mid c.send_open.ensures.tells told in
    let s = c.in_ok-send_open.ensures.sends O told in
    let far =
    part_far O 1 0 e d w mid s.done (omega arith) (λ i deeds left. g.met.H.Host.only_now c.args.host.now i deeds told left) (λ t i le now. g.met.H.Host.counts_now c.send_open.new.host t i told_mid le now) (g.met.H.Host.reads_back c.send_open.new.host told_mid)
    c.requires.«open» (c.requires.kept told) c.in_ok-send_open.ensures.«open» (c.send_open.ensures.holds c.in_ok-send_open.ensures.«open» told) (c.send_open.ensures.any_moment O c.requires.«open» told) s.went in
    silence_moments the_language O 1 (memory e) (memory d) w mid (g.H.Host.world c.poll.new.self) s.done far (λ t i le now. g.met.H.Host.counts_now c.send_open.new.host t i told_mid le now) (c.in_err-heard.ensures.time told_mid)

-- there was no memory for what it heard
pub returns-in_err-take-clause-any_moment : goal.returns-in_err-take-clause-any_moment
returns-in_err-take-clause-any_moment g c = λ O told.
    let e = c.args.self.now in
    let d = c.send_open.new.self in
    let w = g.H.Host.world c.args.host.now in
    let mid = g.H.Host.world c.send_open.new.host in
    let told_mid = told_then w mid c.send_open.ensures.tells told in
    let s = c.in_ok-send_open.ensures.sends O told in
    let far =
    part_far O 1 0 e d w mid s.done (omega arith) (λ i deeds left. g.met.H.Host.only_now c.args.host.now i deeds told left) (λ t i le now. g.met.H.Host.counts_now c.send_open.new.host t i told_mid le now) (g.met.H.Host.reads_back c.send_open.new.host told_mid)
    c.requires.«open» (c.requires.kept told) c.in_ok-send_open.ensures.«open» (c.send_open.ensures.holds c.in_ok-send_open.ensures.«open» told) (c.send_open.ensures.any_moment O c.requires.«open» told) s.went in
    let active = ap (λ (x : Config). x.outcome) c.in_ok-send_open.ensures.same.config ∙ c.requires.active in
    let may : MayPollNow (memory d) c.in-Some.until = record { settled = c.in_ok-send_open.ensures.settled; active = active; sent = c.in_ok-send_open.ensures.all_sent c.requires.active; due = sym c.least_due.ensures.due ∙ c.in-Some.is } in
    poll_moments the_language O 1 c.laws_of_steps.ensures.poll (memory e) (memory d) w mid (g.H.Host.world c.poll.new.self) s.done c.in-Some.until c.in_ok-heard.heard far c.send_open.ensures.session (omega (arith, sending_polls (s.sends c.requires.active))) may (c.in_ok-heard.ensures.time told_mid)

pub returns-in_err-take-clause-session : goal.returns-in_err-take-clause-session
returns-in_err-take-clause-session g c = c.take.ensures.session ∙ c.send_open.ensures.session

-- it has heard
pub returns-clause-holds : goal.returns-clause-holds
returns-clause-holds g c = λ told.
    let d = c.send_open.new.self in
    let mid = g.H.Host.world c.send_open.new.host in
    let new = g.H.Host.world c.poll.new.self in
    let told_mid = told_then (g.H.Host.world c.args.host.now) mid c.send_open.ensures.tells told in
    let told_new = told_then mid new c.poll.ensures.tells told_mid in
    still_holds d c.take.new.self mid new (Poll c.in-Some.until c.in_ok-heard.heard ∷ []) c.take.ensures.holds (c.send_open.ensures.holds c.in_ok-send_open.ensures.«open» told) (c.in_ok-heard.ensures.time told_mid) (c.poll.ensures.seen told_mid)
    (λ t i le now. g.met.H.Host.counts_now c.poll.new.self t i told_new le now)

pub returns-clause-waits : goal.returns-clause-waits
returns-clause-waits g c = λ O told.
    let e = c.args.self.now in
    let d = c.send_open.new.self in
    let w = g.H.Host.world c.args.host.now in
    let mid = g.H.Host.world c.send_open.new.host in
    let told_mid = told_then w mid c.send_open.ensures.tells told in
    let s = c.in_ok-send_open.ensures.sends O told in
    let far =
    part_far O 1 0 e d w mid s.done (omega arith) (λ i deeds left. g.met.H.Host.only_now c.args.host.now i deeds told left) (λ t i le now. g.met.H.Host.counts_now c.send_open.new.host t i told_mid le now) (g.met.H.Host.reads_back c.send_open.new.host told_mid)
    c.requires.«open» (c.requires.kept told) c.in_ok-send_open.ensures.«open» (c.send_open.ensures.holds c.in_ok-send_open.ensures.«open» told) (c.send_open.ensures.any_moment O c.requires.«open» told) s.went in
    let active = ap (λ (x : Config). x.outcome) c.in_ok-send_open.ensures.same.config ∙ c.requires.active in
    let may : MayPollNow (memory d) c.in-Some.until = record { settled = c.in_ok-send_open.ensures.settled; active = active; sent = c.in_ok-send_open.ensures.all_sent c.requires.active; due = sym c.least_due.ensures.due ∙ c.in-Some.is } in
    let o = c.take.new.self in
    let new = g.H.Host.world c.poll.new.self in
    let told_new = told_then mid new c.poll.ensures.tells told_mid in
    let h = c.in_ok-heard.heard in
    let holds =
    still_holds d o mid new (Poll c.in-Some.until h ∷ []) c.take.ensures.holds (c.send_open.ensures.holds c.in_ok-send_open.ensures.«open» told) (c.in_ok-heard.ensures.time told_mid) (c.poll.ensures.seen told_mid)
    (λ t i le now. g.met.H.Host.counts_now c.poll.new.self t i told_new le now) in
    let polled =
    far_poll the_language O 1 c.laws_of_steps.ensures.poll (memory e) (memory d) (memory o) w mid new s.done c.in-Some.until h far c.send_open.ensures.session (omega (arith, sending_polls (s.sends c.requires.active))) may (c.in_ok-heard.ensures.time told_mid) (c.poll.ensures.seen told_mid)
    (c.in_ok-take.ensures.takes O) o.history holds.0 (o.ready c.in_ok-take.ensures.«open»).begun in
    has_waited O 1 (memory e) (memory o) w new s.done c.in-Some.until h polled (s.sends c.requires.active)

-- whatever it heard, the same is kept
pub returns-clause-any_moment : goal.returns-clause-any_moment
returns-clause-any_moment g c = λ O told.
    let e = c.args.self.now in
    let d = c.send_open.new.self in
    let w = g.H.Host.world c.args.host.now in
    let mid = g.H.Host.world c.send_open.new.host in
    let told_mid = told_then w mid c.send_open.ensures.tells told in
    let s = c.in_ok-send_open.ensures.sends O told in
    let far =
    part_far O 1 0 e d w mid s.done (omega arith) (λ i deeds left. g.met.H.Host.only_now c.args.host.now i deeds told left) (λ t i le now. g.met.H.Host.counts_now c.send_open.new.host t i told_mid le now) (g.met.H.Host.reads_back c.send_open.new.host told_mid)
    c.requires.«open» (c.requires.kept told) c.in_ok-send_open.ensures.«open» (c.send_open.ensures.holds c.in_ok-send_open.ensures.«open» told) (c.send_open.ensures.any_moment O c.requires.«open» told) s.went in
    let active = ap (λ (x : Config). x.outcome) c.in_ok-send_open.ensures.same.config ∙ c.requires.active in
    let may : MayPollNow (memory d) c.in-Some.until = record { settled = c.in_ok-send_open.ensures.settled; active = active; sent = c.in_ok-send_open.ensures.all_sent c.requires.active; due = sym c.least_due.ensures.due ∙ c.in-Some.is } in
    poll_moments the_language O 1 c.laws_of_steps.ensures.poll (memory e) (memory d) w mid (g.H.Host.world c.poll.new.self) s.done c.in-Some.until c.in_ok-heard.heard far c.send_open.ensures.session (omega (arith, sending_polls (s.sends c.requires.active))) may (c.in_ok-heard.ensures.time told_mid)

pub returns-clause-one : goal.returns-clause-one
returns-clause-one g c = c.in_ok-take.ensures.waits ∙ ap (λ n. n + 1) c.in_ok-send_open.ensures.same.waits
