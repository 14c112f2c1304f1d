use Rattle.std.proofs.Common.{◌≡◌, ◌&&◌, not, [], refl, sym, ◌∙◌, ap, arith, length}
use Rattle.wf_deeds.specs.Clauses.{those}
use Rattle.wf_engine.proofs.CallsSent.{starts_all, starts_first, starts_on, starts_sent, falls_then, moments_then, part_first, settled_on, told_then}
use Rattle.wf_engine.proofs.engine.Engine.start_open.Goals as goal
use Rattle.wf_engine.specs.Engine.{memory}
use Rattle.wf_engine.specs.Sending.{is_to_start}
use Rattle.wf_model.specs.Config.{Config}

pub loop-place-init : goal.loop-place-init
loop-place-init g c =
    let e = c.args.self.now in
    let w = g.H.Host.world c.args.host.now in
    starts_first w (g.H.Host.faults c.args.host.now) e e.done (λ k le. ap (λ b. b && not ((memory e).started k)) ((e.through c.requires.not_closed).closed.shut k le)) (part_first c.laws_of_steps.ensures.moment w (g.H.Host.faults c.args.host.now) e (λ told i d left. g.met.H.Host.only_now c.args.host.now i d told left) c.requires.not_closed c.requires.kept)

pub start_one-requires : goal.start_one-requires
start_one-requires g c =
    let so = c.loop-place.invariant.part in
    record {
      not_closed = so.not_closed;
      kept = λ told. so.holds (told_then (g.H.Host.world c.loop-place.host) (g.H.Host.world c.args.host.now) (sym so.tells) told);
      settled = settled_on (memory c.args.self.now) (memory c.loop-place.self) c.requires.settled so.same refl;
      active = ap (λ (d : Config). d.outcome) c.loop-place.invariant.part.same.config ∙ c.requires.active;
    }

pub loop-place-preserved : goal.loop-place-preserved
loop-place-preserved g c =
    starts_on (g.H.Host.world c.args.host.now) (g.H.Host.world c.loop-place.host) (g.H.Host.faults c.args.host.now) (g.H.Host.faults c.loop-place.host) c.args.self.now c.loop-place.self c.loop-place.place c.loop-place.invariant
    (g.H.Host.world c.start_one.new.host) (g.H.Host.faults c.start_one.new.host) c.start_one.new.self c.in_ok-start_one.ensures.sent c.in_ok-start_one.ensures.starts

pub returns-in_err-start_one-clause-any_moment : goal.returns-in_err-start_one-clause-any_moment
returns-in_err-start_one-clause-any_moment g c =
    moments_then (g.H.Host.world c.args.host.now) (g.H.Host.world c.loop-place.host) (g.H.Host.faults c.args.host.now) (g.H.Host.faults c.loop-place.host) c.args.self.now c.loop-place.self
    [] (those (is_to_start (memory c.args.self.now)) 1 c.loop-place.place) c.loop-place.invariant.part (g.H.Host.world c.start_one.new.host) c.start_one.ensures.any_moment

pub returns-in_err-start_one-clause-session : goal.returns-in_err-start_one-clause-session
returns-in_err-start_one-clause-session g c = c.start_one.ensures.session ∙ c.loop-place.invariant.part.same.session

pub returns-in_err-start_one-clause-seen : goal.returns-in_err-start_one-clause-seen
returns-in_err-start_one-clause-seen g c = λ told.
    let so = c.loop-place.invariant.part in
    c.start_one.ensures.seen (told_then (g.H.Host.world c.args.host.now) (g.H.Host.world c.loop-place.host) so.tells told) ∙ so.seen told

pub returns-in_err-start_one-clause-tells : goal.returns-in_err-start_one-clause-tells
returns-in_err-start_one-clause-tells g c = c.start_one.ensures.tells ∙ c.loop-place.invariant.part.tells

pub returns-in_err-start_one-clause-counts : goal.returns-in_err-start_one-clause-counts
returns-in_err-start_one-clause-counts g c = falls_then (g.H.Host.faults c.args.host.now) (g.H.Host.faults c.loop-place.host) (g.H.Host.faults c.start_one.new.host) c.loop-place.invariant.part.counts c.start_one.ensures.counts

pub returns : goal.returns
returns g c =
    let e = c.args.self.now in
    let so = c.loop-place.invariant in
    let within = (e.through c.requires.not_closed).closed.within in
    let all : c.loop-place.place ≡ length (memory e).config.calls = omega (arith, c.calls-place-end.ensures, within) in
    record {
      sent = starts_sent (g.H.Host.world c.args.host.now) (g.H.Host.world c.loop-place.host) (g.H.Host.faults c.args.host.now) (g.H.Host.faults c.loop-place.host) e c.loop-place.self c.loop-place.place so all;
      any_moment = so.part.moments;
      starts = starts_all (g.H.Host.world c.args.host.now) (g.H.Host.world c.loop-place.host) (g.H.Host.faults c.args.host.now) (g.H.Host.faults c.loop-place.host) e c.loop-place.self c.loop-place.place so all;
      session = so.part.same.session;
      seen = so.part.seen;
      closes = tt;
      only = tt;
      tells = so.part.tells;
      counts = so.part.counts;
    }
