use Rattle.std.proofs.Common.{rules, [], refl, sym, ◌∙◌, ap}
use Rattle.wf_deeds.specs.Clauses.{to_drop}
use Rattle.wf_engine.proofs.Connected.{lent_going, lent_over}
use Rattle.wf_engine.proofs.CallsSent.{all_is_sent, all_same, falls_then, moments_then, sends_over, sends_whole, settled_on, told_then, whole}
use Rattle.wf_engine.proofs.Sent.{kept_before}
use Rattle.wf_engine.proofs.engine.Engine.send_open.Goals as goal
use Rattle.wf_engine.specs.Engine.{memory}
use Rattle.wf_model.specs.Config.{Config}
use Rattle.wf_replay.specs.TheLanguage.{the_language}

-- there is an outcome
pub returns-in_default : goal.returns-in_default
returns-in_default g c =
    let e = c.args.self.now in
    let w = g.H.Host.world c.args.host.now in
    let m = memory e in
    let over = lent_over c.outcome.result m.config.outcome c.outcome.ensures.outcome (λ is. c.in_default.not-Active is) in
    record {
      holds = search rules;
      sends = λ O told. sends_over O m w over (c.requires.settled c.if-self.false);
      any_moment = λ O open_now told.
          kept_before c.laws_of_steps.ensures.moment the_language O m e.history w (λ i d left. g.met.H.Host.only_now c.args.host.now i d told left) (c.requires.kept open_now told).0 (e.ready open_now).begun;
      all_sent = λ active. absurd (over active);
      same = all_same m;
      settled = c.requires.settled c.if-self.false;
      session = refl;
      seen = λ told. refl;
      closed = search rules;
      closes = tt;
      idle = λ is. absurd (cc is);
      «open» = c.if-self.false;
      only = tt;
      tells = refl;
      counts = search rules;
    }

-- the drops
pub start_open-requires : goal.start_open-requires
start_open-requires g c =
    let e = c.args.self.now in
    let so = c.in_ok-drop_closed.ensures.sent in
    record {
      not_closed = so.not_closed;
      kept = λ told. so.holds (told_then (g.H.Host.world c.drop_closed.new.host) (g.H.Host.world c.args.host.now) (sym so.tells) told);
      settled = settled_on (memory e) (memory c.drop_closed.new.self) (c.requires.settled c.if-self.false) so.same refl;
      active = ap (λ (d : Config). d.outcome) so.same.config ∙ lent_going c.outcome.result (memory e).config.outcome c.outcome.ensures.outcome c.in-Active.is;
    }

pub returns-in_err-drop_closed : goal.returns-in_err-drop_closed
returns-in_err-drop_closed g c =
    let drops = c.drop_closed.ensures in
    record {
      holds = search rules;
      sends = search rules;
      any_moment = λ O open_now told. drops.any_moment O told;
      all_sent = search rules;
      same = search rules;
      settled = search rules;
      session = drops.session;
      seen = drops.seen;
      closed = search rules;
      closes = search rules;
      idle = search rules;
      «open» = search rules;
      only = search rules;
      tells = drops.tells;
      counts = drops.counts;
    }

-- the starts
pub returns-in_err-start_open : goal.returns-in_err-start_open
returns-in_err-start_open g c =
    let e = c.args.self.now in
    let w = g.H.Host.world c.args.host.now in
    let mid = g.H.Host.world c.drop_closed.new.host in
    let drops = c.drop_closed.ensures in
    let starts = c.start_open.ensures in
    record {
      holds = search rules;
      sends = search rules;
      any_moment = λ O open_now told.
          moments_then w mid (g.H.Host.faults c.args.host.now) (g.H.Host.faults c.drop_closed.new.host) e c.drop_closed.new.self (to_drop (memory e)) [] c.in_ok-drop_closed.ensures.sent (g.H.Host.world c.start_open.new.host) starts.any_moment O told;
      all_sent = search rules;
      same = search rules;
      settled = search rules;
      session = starts.session ∙ drops.session;
      seen = λ told. starts.seen (told_then w mid drops.tells told) ∙ drops.seen told;
      closed = search rules;
      closes = search rules;
      idle = search rules;
      «open» = search rules;
      only = search rules;
      tells = starts.tells ∙ drops.tells;
      counts = falls_then (g.H.Host.faults c.args.host.now) (g.H.Host.faults c.drop_closed.new.host) (g.H.Host.faults c.start_open.new.host) drops.counts starts.counts;
    }

-- both
pub returns : goal.returns
returns g c =
    let e = c.args.self.now in
    let w = g.H.Host.world c.args.host.now in
    let mid = g.H.Host.world c.drop_closed.new.host in
    let new = g.H.Host.world c.start_open.new.host in
    let f = g.H.Host.faults c.args.host.now in
    let f1 = g.H.Host.faults c.drop_closed.new.host in
    let f2 = g.H.Host.faults c.start_open.new.host in
    let first = c.in_ok-drop_closed.ensures in
    let next = c.in_ok-start_open.ensures in
    let going = lent_going c.outcome.result (memory e).config.outcome c.outcome.ensures.outcome c.in-Active.is in
    let both = whole w mid new f f1 f2 e c.drop_closed.new.self c.start_open.new.self first.sent next.sent first.drops next.starts in
    record {
      holds = λ open_now told. both.holds told;
      sends = sends_whole w mid new f f1 f2 e c.drop_closed.new.self c.start_open.new.self first.sent next.sent first.drops next.starts (c.requires.settled c.if-self.false) going;
      any_moment = λ O open_now told. both.moments O told;
      all_sent = λ active. all_is_sent (memory e) (memory c.drop_closed.new.self) (memory c.start_open.new.self) first.sent.same next.sent.same first.drops next.starts;
      same = both.same;
      settled = settled_on (memory e) (memory c.start_open.new.self) (c.requires.settled c.if-self.false) both.same refl;
      session = both.same.session;
      seen = both.seen;
      closed = search rules;
      closes = tt;
      idle = λ is. absurd (cc is);
      «open» = next.sent.not_closed;
      only = tt;
      tells = both.tells;
      counts = both.counts;
    }
