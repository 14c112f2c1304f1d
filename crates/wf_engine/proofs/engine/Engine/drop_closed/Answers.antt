use Rattle.std.proofs.Common.{◌≡◌, [], refl, sym, ◌∙◌, arith, length}
use Rattle.wf_deeds.specs.Clauses.{those}
use Rattle.wf_engine.proofs.CallsSent.{drops_all, drops_first, drops_on, drops_sent, falls_then, moments_then, part_first, settled_on, told_then}
use Rattle.wf_engine.proofs.engine.Engine.drop_closed.Goals as goal
use Rattle.wf_engine.specs.Engine.{memory}
use Rattle.wf_engine.specs.Sending.{is_to_drop}

pub loop-place-init : goal.loop-place-init
loop-place-init g c =
    let e = c.args.self.now in
    let w = g.H.Host.world c.args.host.now in
    drops_first w (g.H.Host.faults c.args.host.now) e e.done (e.through c.requires.not_closed).dropped (part_first c.laws_of_steps.ensures.moment w (g.H.Host.faults c.args.host.now) e (λ told i d left. g.met.H.Host.only_now c.args.host.now i d told left) c.requires.not_closed c.requires.kept)

pub drop_one-requires : goal.drop_one-requires
drop_one-requires g c =
    let so = c.loop-place.invariant.part in
    record {
      not_closed = so.not_closed;
      kept = λ told. so.holds (told_then (g.H.Host.world c.loop-place.host) (g.H.Host.world c.args.host.now) (sym so.tells) told);
      settled = settled_on (memory c.args.self.now) (memory c.loop-place.self) c.requires.settled so.same refl;
    }

pub loop-place-preserved : goal.loop-place-preserved
loop-place-preserved g c =
    drops_on (g.H.Host.world c.args.host.now) (g.H.Host.world c.loop-place.host) (g.H.Host.faults c.args.host.now) (g.H.Host.faults c.loop-place.host) c.args.self.now c.loop-place.self c.loop-place.place c.loop-place.invariant
    (g.H.Host.world c.drop_one.new.host) (g.H.Host.faults c.drop_one.new.host) c.drop_one.new.self c.in_ok-drop_one.ensures.sent c.in_ok-drop_one.ensures.drops

pub returns-in_err-drop_one-clause-any_moment : goal.returns-in_err-drop_one-clause-any_moment
returns-in_err-drop_one-clause-any_moment g c =
    moments_then (g.H.Host.world c.args.host.now) (g.H.Host.world c.loop-place.host) (g.H.Host.faults c.args.host.now) (g.H.Host.faults c.loop-place.host) c.args.self.now c.loop-place.self
    (those (is_to_drop (memory c.args.self.now)) 1 c.loop-place.place) [] c.loop-place.invariant.part (g.H.Host.world c.drop_one.new.host) c.drop_one.ensures.any_moment

pub returns-in_err-drop_one-clause-session : goal.returns-in_err-drop_one-clause-session
returns-in_err-drop_one-clause-session g c = c.drop_one.ensures.session ∙ c.loop-place.invariant.part.same.session

pub returns-in_err-drop_one-clause-seen : goal.returns-in_err-drop_one-clause-seen
returns-in_err-drop_one-clause-seen g c = λ told.
    let so = c.loop-place.invariant.part in
    c.drop_one.ensures.seen (told_then (g.H.Host.world c.args.host.now) (g.H.Host.world c.loop-place.host) so.tells told) ∙ so.seen told

pub returns-in_err-drop_one-clause-tells : goal.returns-in_err-drop_one-clause-tells
returns-in_err-drop_one-clause-tells g c = c.drop_one.ensures.tells ∙ c.loop-place.invariant.part.tells

pub returns-in_err-drop_one-clause-counts : goal.returns-in_err-drop_one-clause-counts
returns-in_err-drop_one-clause-counts g c = falls_then (g.H.Host.faults c.args.host.now) (g.H.Host.faults c.loop-place.host) (g.H.Host.faults c.drop_one.new.host) c.loop-place.invariant.part.counts c.drop_one.ensures.counts

pub returns : goal.returns
returns g c =
    let e = c.args.self.now in
    let so = c.loop-place.invariant in
    let within = (e.through c.requires.not_closed).closed.within in
    let all : c.loop-place.place ≡ length (memory e).config.calls = omega (arith, c.calls-place-end.ensures, within) in
    let sent = drops_sent (g.H.Host.world c.args.host.now) (g.H.Host.world c.loop-place.host) (g.H.Host.faults c.args.host.now) (g.H.Host.faults c.loop-place.host) e c.loop-place.self c.loop-place.place so all in
    record {
      sent = record {
        not_closed = sent.not_closed;
        holds = sent.holds;
        same = sent.same;
        sends = sent.sends;
        moments = sent.moments;
        seen = sent.seen;
        tells = sent.tells;
        counts = sent.counts;
      };
      any_moment = so.part.moments;
      drops = drops_all (g.H.Host.world c.args.host.now) (g.H.Host.world c.loop-place.host) (g.H.Host.faults c.args.host.now) (g.H.Host.faults c.loop-place.host) e c.loop-place.self c.loop-place.place so all;
      session = so.part.same.session;
      seen = so.part.seen;
      closes = tt;
      only = tt;
      tells = so.part.tells;
      counts = so.part.counts;
    }
