use Rattle.std.proofs.Common.{rules, ◌+◌, ◌-◌, [], Err, inl, refl, sym, ◌∙◌, ap, arith}
use Rattle.wf_engine.proofs.Failing.{is_err, no_disk, no_poll, of_turns, of_waits, session_failed}
use Rattle.wf_engine.proofs.Parts.{far_kept, far_moments, more_within}
use Rattle.wf_engine.proofs.Polling.{part_far}
use Rattle.wf_engine.proofs.Settling.{ends, lent_active, none_fell, result_is_over, rose_later, told_on}
use Rattle.wf_engine.proofs.Waiting.{has_ended, is_suspended, polled_first, polled_more, settled_over}
use Rattle.wf_engine.proofs.engine.Engine.session.Goals as goal
use Rattle.wf_engine.specs.Engine.{memory}
use Rattle.wf_model.specs.Config.{Config}
use Rattle.wf_replay.specs.TheLanguage.{the_language}

-- the first turns
pub returns-in_err-settle : goal.returns-in_err-settle
returns-in_err-settle g c =
    let first = c.settle.ensures in
    let failed = c.in_err-settle.ensures in
    let e = c.in_err-settle.field-0.0 in
    session_failed g.H.Host.world g.H.Host.faults c.args.self.now c.settle.new.self c.args.host.now c.settle.new.host c.args.waits e c.from_residual.result
    (is_err c.from_residual.result e c.from_residual.ensures) c.if-self.false failed.closes (of_turns e failed.only) (λ is. first.disk_fault (c.in_err-settle.was ∙ ap Err is)) (λ is. absurd (no_poll e failed.only is))
    (λ O open_now told. more_within the_language O 0 c.args.waits (memory c.args.self.now) (g.H.Host.world c.args.host.now) (g.H.Host.world c.settle.new.host) (omega arith) (first.any_moment O told)) (λ told over. (first.finished (settled_over c.args.self.now c.if-self.false over)).1) first.session first.tells first.counts

pub loop-left-init : goal.loop-left-init
loop-left-init g c =
    let e = c.args.self.now in
    let d = c.settle.new.self in
    let w = g.H.Host.world c.args.host.now in
    let mid = g.H.Host.world c.settle.new.host in
    record {
      not_closed = c.in_ok-settle.ensures.«open»;
      settled = c.in_ok-settle.ensures.settled;
      holds = λ told. c.in_ok-settle.ensures.holds told;
      number = c.settle.ensures.session;
      waits = ap (λ n. n + c.args.waits) c.settle.ensures.waits;
      so_far = λ O told.
          let told_mid = told_on w mid c.settle.ensures.tells told in
          polled_first O (memory e) (memory d) w mid c.args.waits
          (part_far O c.args.waits 0 e d w mid [] (omega arith) (λ i deeds left. g.met.H.Host.only_now c.args.host.now i deeds told left) (λ t i le now. g.met.H.Host.counts_now c.settle.new.host t i told_mid le now) (g.met.H.Host.reads_back c.settle.new.host told_mid) c.if-self.false
          (c.requires.kept c.if-self.false told) c.in_ok-settle.ensures.«open» (c.in_ok-settle.ensures.holds told) (c.settle.ensures.any_moment O told) (c.in_ok-settle.ensures.adds O told));
      tells = c.settle.ensures.tells;
      counts = c.settle.ensures.counts;
      rest = λ over. let same = c.settle.ensures.finished (settled_over e c.if-self.false over) in (same.1, ap (λ x. (memory x).config) same.0);
    }

-- it polled so often
pub returns-then-left-eq0 : goal.returns-then-left-eq0
returns-then-left-eq0 g c =
    let e = c.args.self.now in
    let d = c.loop-left.self in
    let w = g.H.Host.world c.args.host.now in
    let mid = g.H.Host.world c.loop-left.host in
    let so = c.loop-left.invariant in
    record {
      holds = λ open_now told. so.holds told;
      ended = λ O told. tt;
      suspended = λ O told is.
          is_suspended O (memory e) (memory d) w mid c.args.waits c.loop-left.left (so.so_far O told) (omega (arith, c.if-left-eq0.true)) so.settled
          (lent_active c.outcome.result (memory d).config.outcome c.outcome.ensures.outcome c.in-Active.is);
      result = tt;
      any_moment = λ O open_now told. let p = so.so_far O told in far_kept the_language O c.args.waits (memory e) (memory d) w mid p.done p.far;
      finished = λ told over. (so.rest over).0;
      session = so.number;
      disk_fault = λ is. absurd (cc is);
      poll_fault = λ is. absurd (cc is);
      closed = search rules;
      closes = inl refl;
      idle = λ is. absurd (cc is);
      «open» = tt;
      still_open = λ is. so.not_closed;
      only = search rules;
      tells = so.tells;
      counts = so.counts;
    }

pub wait-requires-clause-kept : goal.wait-requires-clause-kept
wait-requires-clause-kept g c = λ told.
    let so = c.loop-left.invariant in
    so.holds (told_on (g.H.Host.world c.loop-left.host) (g.H.Host.world c.args.host.now) (sym so.tells) told)

-- which failed
pub returns-in_err-wait : goal.returns-in_err-wait
returns-in_err-wait g c =
    let e = c.args.self.now in
    let d = c.loop-left.self in
    let w = g.H.Host.world c.args.host.now in
    let mid = g.H.Host.world c.loop-left.host in
    let so = c.loop-left.invariant in
    let wait = c.wait.ensures in
    let failed = c.in_err-wait.ensures in
    let fault = c.in_err-wait.field-0.0 in
    session_failed g.H.Host.world g.H.Host.faults e c.wait.new.self c.args.host.now c.wait.new.host c.args.waits fault c.from_residual-in_err-wait.result
    (is_err c.from_residual-in_err-wait.result fault c.from_residual-in_err-wait.ensures) c.if-self.false failed.closes (of_waits fault failed.only) (λ is. absurd (no_disk fault failed.only is))
    (λ is. rose_later (g.H.Host.faults c.args.host.now).poll (g.H.Host.faults c.loop-left.host).poll (g.H.Host.faults c.wait.new.host).poll so.counts.poll (wait.poll_fault (c.in_err-wait.was ∙ ap Err is)))
    (λ O open_now told.
    let p = so.so_far O told in far_moments the_language O c.args.waits 1 (memory e) (memory d) w mid (g.H.Host.world c.wait.new.host) p.done p.far so.number (omega (arith, p.count, c.if-left-eq0.false)) (wait.any_moment O (told_on w mid so.tells told)))
    (λ told over.
    let active = lent_active c.outcome.result (memory d).config.outcome c.outcome.ensures.outcome c.in-Active.is in
    absurd (over (sym (ap (λ (x : Config). x.outcome) (so.rest over).1) ∙ active)))
    (wait.session ∙ so.number) (wait.tells ∙ so.tells) (none_fell (g.H.Host.faults c.args.host.now) (g.H.Host.faults c.loop-left.host) (g.H.Host.faults c.wait.new.host) so.counts wait.counts)

-- the turns behind a wait
pub returns-in_err-settle-2 : goal.returns-in_err-settle-2
returns-in_err-settle-2 g c =
    let e = c.args.self.now in
    let d = c.loop-left.self in
    let w = g.H.Host.world c.args.host.now in
    let mid = g.H.Host.world c.loop-left.host in
    let then = g.H.Host.world c.wait.new.host in
    let so = c.loop-left.invariant in
    let wait = c.wait.ensures in
    let next = c.settle-in-loop-left.ensures in
    let failed = c.in_err-settle-2.ensures in
    let fault = c.in_err-settle-2.field-0.0 in
    let fell = none_fell (g.H.Host.faults c.args.host.now) (g.H.Host.faults c.loop-left.host) (g.H.Host.faults c.wait.new.host) so.counts wait.counts in
    session_failed g.H.Host.world g.H.Host.faults e c.settle-in-loop-left.new.self c.args.host.now c.settle-in-loop-left.new.host c.args.waits fault c.from_residual-in_err-settle-2.result
    (is_err c.from_residual-in_err-settle-2.result fault c.from_residual-in_err-settle-2.ensures) c.if-self.false failed.closes (of_turns fault failed.only)
    (λ is. rose_later (g.H.Host.faults c.args.host.now).disk (g.H.Host.faults c.wait.new.host).disk (g.H.Host.faults c.settle-in-loop-left.new.host).disk fell.disk (next.disk_fault (c.in_err-settle-2.was ∙ ap Err is)))
    (λ is. absurd (no_poll fault failed.only is))
    (λ O open_now told.
    let told_mid = told_on w mid so.tells told in
    let told_then = told_on mid then wait.tells told_mid in
    let waited = c.in_ok-wait.ensures.waits O told_mid in
    let p =
    polled_more O e d c.wait.new.self w mid then c.args.waits c.loop-left.left (c.loop-left.left - 1) 1 waited.done (so.so_far O told) so.number (omega (arith, c.if-left-eq0.false)) (wait.any_moment O told_mid) waited.went (omega (arith, waited.once, c.if-left-eq0.false))
    (λ t i le now. g.met.H.Host.counts_now c.wait.new.host t i told_then le now) (g.met.H.Host.reads_back c.wait.new.host told_then) c.in_ok-wait.ensures.«open» (c.in_ok-wait.ensures.holds told_mid) in
    far_moments the_language O c.args.waits 0 (memory e) (memory c.wait.new.self) w then (g.H.Host.world c.settle-in-loop-left.new.host) p.done p.far (wait.session ∙ so.number) (omega (arith, p.count)) (next.any_moment O told_then))
    (λ told over.
    let active = lent_active c.outcome.result (memory d).config.outcome c.outcome.ensures.outcome c.in-Active.is in
    absurd (over (sym (ap (λ (x : Config). x.outcome) (so.rest over).1) ∙ active)))
    (next.session ∙ wait.session ∙ so.number) (next.tells ∙ wait.tells ∙ so.tells)
    (none_fell (g.H.Host.faults c.args.host.now) (g.H.Host.faults c.wait.new.host) (g.H.Host.faults c.settle-in-loop-left.new.host) fell next.counts)

pub loop-left-preserved : goal.loop-left-preserved
loop-left-preserved g c =
    let d = c.loop-left.self in
    let w = g.H.Host.world c.args.host.now in
    let mid = g.H.Host.world c.loop-left.host in
    let then = g.H.Host.world c.wait.new.host in
    let new = g.H.Host.world c.settle-in-loop-left.new.host in
    let so = c.loop-left.invariant in
    let active = lent_active c.outcome.result (memory d).config.outcome c.outcome.ensures.outcome c.in-Active.is in
    let next = c.settle-in-loop-left.ensures in
    let went = c.in_ok-settle-2.ensures in
    record {
      not_closed = went.«open»;
      settled = went.settled;
      holds = λ told. went.holds (told_on mid then c.wait.ensures.tells (told_on w mid so.tells told));
      number = next.session ∙ c.wait.ensures.session ∙ so.number;
      waits = omega (arith, next.waits, c.in_ok-wait.ensures.one, so.waits, c.if-left-eq0.false);
      so_far = λ O told.
          let e = c.args.self.now in
          let d = c.loop-left.self in
          let w = g.H.Host.world c.args.host.now in
          let mid = g.H.Host.world c.loop-left.host in
          let then = g.H.Host.world c.wait.new.host in
          let so = c.loop-left.invariant in
          let told_mid = told_on w mid so.tells told in
          let told_then = told_on mid then c.wait.ensures.tells told_mid in
          let wait = c.in_ok-wait.ensures.waits O told_mid in
          let p =
          polled_more O e d c.wait.new.self w mid then c.args.waits c.loop-left.left (c.loop-left.left - 1) 1 wait.done (so.so_far O told) so.number (omega (arith, c.if-left-eq0.false)) (c.wait.ensures.any_moment O told_mid) wait.went (omega (arith, wait.once, c.if-left-eq0.false))
          (λ t i le now. g.met.H.Host.counts_now c.wait.new.host t i told_then le now) (g.met.H.Host.reads_back c.wait.new.host told_then) c.in_ok-wait.ensures.«open» (c.in_ok-wait.ensures.holds told_mid) in
          let told_new = told_on then new next.tells told_then in
          polled_more O e c.wait.new.self c.settle-in-loop-left.new.self w then new c.args.waits (c.loop-left.left - 1) (c.loop-left.left - 1) 0 [] p (c.wait.ensures.session ∙ so.number) (omega arith) (next.any_moment O told_then) (went.adds O told_then) (omega arith)
          (λ t i le now. g.met.H.Host.counts_now c.settle-in-loop-left.new.host t i told_new le now) (g.met.H.Host.reads_back c.settle-in-loop-left.new.host told_new) went.«open» (went.holds told_then);
      tells = next.tells ∙ c.wait.ensures.tells ∙ so.tells;
      counts = none_fell (g.H.Host.faults c.args.host.now) (g.H.Host.faults c.wait.new.host) (g.H.Host.faults c.settle-in-loop-left.new.host) (none_fell (g.H.Host.faults c.args.host.now) (g.H.Host.faults c.loop-left.host) (g.H.Host.faults c.wait.new.host) so.counts c.wait.ensures.counts) next.counts;
      rest = λ over. absurd (over (sym (ap (λ (x : Config). x.outcome) (so.rest over).1) ∙ active));
    }

-- there is an outcome
pub returns-in_default : goal.returns-in_default
returns-in_default g c =
    let e = c.args.self.now in
    let d = c.loop-left.self in
    let w = g.H.Host.world c.args.host.now in
    let mid = g.H.Host.world c.loop-left.host in
    let so = c.loop-left.invariant in
    let result = ends c.outcome.result (memory d).config.outcome c.outcome.ensures.outcome (λ is. c.in_default.not-Active is) in
    record {
      holds = λ open_now told. so.holds told;
      ended = λ O told. has_ended O (memory e) (memory d) w mid c.args.waits c.loop-left.left (so.so_far O told) so.settled (result_is_over (memory d).config.outcome result);
      suspended = λ O told is. absurd (cc is);
      result = result;
      any_moment = λ O open_now told. let p = so.so_far O told in far_kept the_language O c.args.waits (memory e) (memory d) w mid p.done p.far;
      finished = λ told over. (so.rest over).0;
      session = so.number;
      disk_fault = λ is. absurd (cc is);
      poll_fault = λ is. absurd (cc is);
      closed = search rules;
      closes = tt;
      idle = λ is. absurd (cc is);
      «open» = so.not_closed;
      still_open = λ is. so.not_closed;
      only = tt;
      tells = so.tells;
      counts = so.counts;
    }
