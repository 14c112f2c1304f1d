use Rattle.std.proofs.Common.{◌≡◌, false, true, [], ◌∷◌, refl, sym, ◌∙◌}
use Rattle.wf_deeds.specs.Clauses.{those}
use Rattle.wf_engine.proofs.Connected.{are_of_starts, behind, lent_request, starts_goes, starts_one, starts_same, starts_this, still_ready}
use Rattle.wf_engine.proofs.CallsSent.{holds_later, part_none, sends_start, starts_no_old, starts_no_shut, starts_none, told_then}
use Rattle.wf_engine.proofs.Done.{done_started}
use Rattle.wf_engine.proofs.Sent.{kept_before, kept_with, kept_without, starting, starting_goes}
use Rattle.wf_engine.proofs.SentLists.{not_this}
use Rattle.wf_engine.proofs.engine.Engine.start_one.Goals as goal
use Rattle.wf_engine.specs.Engine.{memory}
use Rattle.wf_engine.specs.Sending.{is_to_start}
use Rattle.wf_host.specs.declared.data.Deed.TheVariants.{Start}
use Rattle.wf_replay.specs.TheLanguage.{the_language}

-- it was started before
pub returns-then-is_started-clause-sent : goal.returns-then-is_started-clause-sent
returns-then-is_started-clause-sent g c =
    let e = c.args.self.now in
    let was : (memory e).started c.args.call ≡ true = sym c.is_started.ensures ∙ c.if-is_started.true in
    let none = part_none c.laws_of_steps.ensures.moment (g.H.Host.world c.args.host.now) (g.H.Host.faults c.args.host.now) e [] (those (is_to_start (memory e)) c.args.call 1) (λ told i d left. g.met.H.Host.only_now c.args.host.now i d told left) c.requires.not_closed c.requires.kept refl (not_this (is_to_start (memory e)) c.args.call (starts_no_old (memory e) c.args.call was)) in
    record {
      not_closed = none.not_closed;
      holds = none.holds;
      same = none.same;
      sends = none.sends;
      moments = none.moments;
      seen = none.seen;
      tells = none.tells;
      counts = none.counts;
    }

pub returns-then-is_started-clause-starts : goal.returns-then-is_started-clause-starts
returns-then-is_started-clause-starts g c =
    let e = c.args.self.now in
    let was : (memory e).started c.args.call ≡ true = sym c.is_started.ensures ∙ c.if-is_started.true in
    starts_none (memory e) c.args.call (starts_no_old (memory e) c.args.call was)

pub returns-then-is_started-clause-any_moment : goal.returns-then-is_started-clause-any_moment
returns-then-is_started-clause-any_moment g c = λ O told.
    let e = c.args.self.now in
    kept_before c.laws_of_steps.ensures.moment the_language O (memory e) e.history (g.H.Host.world c.args.host.now) (λ i d left. g.met.H.Host.only_now c.args.host.now i d told left) (c.requires.kept told).0 (e.ready c.requires.not_closed).begun

-- it isn't open
pub returns-in_default-clause-sent : goal.returns-in_default-clause-sent
returns-in_default-clause-sent g c =
    let e = c.args.self.now in
    let none = part_none c.laws_of_steps.ensures.moment (g.H.Host.world c.args.host.now) (g.H.Host.faults c.args.host.now) e [] (those (is_to_start (memory e)) c.args.call 1) (λ told i d left. g.met.H.Host.only_now c.args.host.now i d told left) c.requires.not_closed c.requires.kept refl (not_this (is_to_start (memory e)) c.args.call (starts_no_shut (memory e) c.args.call (sym c.in_default.ensures))) in
    record {
      not_closed = none.not_closed;
      holds = none.holds;
      same = none.same;
      sends = none.sends;
      moments = none.moments;
      seen = none.seen;
      tells = none.tells;
      counts = none.counts;
    }

pub returns-in_default-clause-starts : goal.returns-in_default-clause-starts
returns-in_default-clause-starts g c =
    let e = c.args.self.now in
    starts_none (memory e) c.args.call (starts_no_shut (memory e) c.args.call (sym c.in_default.ensures))

pub returns-in_default-clause-any_moment : goal.returns-in_default-clause-any_moment
returns-in_default-clause-any_moment g c = λ O told.
    let e = c.args.self.now in
    kept_before c.laws_of_steps.ensures.moment the_language O (memory e) e.history (g.H.Host.world c.args.host.now) (λ i d left. g.met.H.Host.only_now c.args.host.now i d told left) (c.requires.kept told).0 (e.ready c.requires.not_closed).begun

-- there was no memory for its start
pub returns-in_err-start-clause-any_moment : goal.returns-in_err-start-clause-any_moment
returns-in_err-start-clause-any_moment g c = λ O told.
    let e = c.args.self.now in
    kept_without c.laws_of_steps.ensures.moment the_language O (memory e) e.history (g.H.Host.world c.args.host.now) (λ i d left. g.met.H.Host.only_now c.args.host.now i d told left) (c.requires.kept told).0 (e.ready c.requires.not_closed).begun
    (g.H.Host.world c.start.new.self) (λ t i le now. g.met.H.Host.counts_now c.args.host.now t i told le now) (c.in_err-start.ensures.time told)

-- it is started, and there was no memory for its answer
pub returns-in_err-start-2-clause-any_moment : goal.returns-in_err-start-2-clause-any_moment
returns-in_err-start-2-clause-any_moment g c = λ O told.
    let e = c.args.self.now in
    let m = memory e in
    let k = c.args.call in
    let to = c.in-Some.request.now.address in
    let bytes = c.as_slice.result.now in
    let asks = lent_request m k c.in-Some.request.now bytes c.in-Some.ensures c.as_slice.ensures in
    let new : (memory e).started k ≡ false = sym c.is_started.ensures ∙ c.if-is_started.false in
    kept_with c.laws_of_steps.ensures.moment the_language O m e.history (g.H.Host.world c.args.host.now) (λ i d left. g.met.H.Host.only_now c.args.host.now i d told left) (c.requires.kept told).0 (e.ready c.requires.not_closed).begun
    (g.H.Host.world c.start.new.self) (starting m k) (Start k to bytes) (c.in_ok-start.ensures.time told) (starting_goes m k the_language O c.laws_of_steps.ensures.start to bytes c.requires.settled c.requires.active asks new) refl refl

-- it is started
pub returns-clause-starts : goal.returns-clause-starts
returns-clause-starts g c =
    let e = c.args.self.now in
    let new : (memory e).started c.args.call ≡ false = sym c.is_started.ensures ∙ c.if-is_started.false in
    starts_one (memory e) e.connections c.start-2.new.self c.args.call c.in_ok-start-2.ensures new _ (sym c.in-Some.ensures)

pub returns-clause-any_moment : goal.returns-clause-any_moment
returns-clause-any_moment g c = λ O told.
    let e = c.args.self.now in
    let m = memory e in
    let k = c.args.call in
    let to = c.in-Some.request.now.address in
    let bytes = c.as_slice.result.now in
    let asks = lent_request m k c.in-Some.request.now bytes c.in-Some.ensures c.as_slice.ensures in
    let new : (memory e).started k ≡ false = sym c.is_started.ensures ∙ c.if-is_started.false in
    kept_with c.laws_of_steps.ensures.moment the_language O m e.history (g.H.Host.world c.args.host.now) (λ i d left. g.met.H.Host.only_now c.args.host.now i d told left) (c.requires.kept told).0 (e.ready c.requires.not_closed).begun
    (g.H.Host.world c.start.new.self) (starting m k) (Start k to bytes) (c.in_ok-start.ensures.time told) (starting_goes m k the_language O c.laws_of_steps.ensures.start to bytes c.requires.settled c.requires.active asks new) refl refl

pub returns-clause-sent : goal.returns-clause-sent
returns-clause-sent g c =
    let e = c.args.self.now in
    let m = memory e in
    let k = c.args.call in
    let a = e.connections in
    let b = c.start-2.new.self in
    let to = c.in-Some.request.now.address in
    let bytes = c.as_slice.result.now in
    let asks = lent_request m k c.in-Some.request.now bytes c.in-Some.ensures c.as_slice.ensures in
    let w = g.H.Host.world c.args.host.now in
    let last = g.H.Host.world c.start.new.self in
    let new : (memory e).started k ≡ false = sym c.is_started.ensures ∙ c.if-is_started.false in
    record {
      not_closed = refl;
      holds = λ told.
          holds_later e.history w last (Start k to bytes ∷ []) (c.requires.kept told) (c.in_ok-start.ensures.time told) (c.start.ensures.seen told)
          (λ t i le now. g.met.H.Host.counts_now c.start.new.self t i (told_then w last c.start.ensures.tells told) le now);
      same = starts_same m a b k c.in_ok-start-2.ensures new;
      sends = λ O told.
          sends_start the_language O m (behind m a b k) w last k to bytes (starts_goes m a b k c.in_ok-start-2.ensures new the_language O c.laws_of_steps.ensures.start to bytes c.requires.settled c.requires.active asks) (c.in_ok-start.ensures.time told).deeds
          (c.start.ensures.seen told) (starts_this m k _ asks new);
      moments = λ O told.
          kept_with c.laws_of_steps.ensures.moment the_language O m e.history w (λ i d left. g.met.H.Host.only_now c.args.host.now i d told left) (c.requires.kept told).0 (e.ready c.requires.not_closed).begun last (starting m k)
          (Start k to bytes) (c.in_ok-start.ensures.time told) (starting_goes m k the_language O c.laws_of_steps.ensures.start to bytes c.requires.settled c.requires.active asks new) refl refl;
      seen = λ told. c.start.ensures.seen told;
      tells = c.start.ensures.tells;
      counts = c.start.ensures.counts;
    }

-- it can go on
pub invariant_of-self-2 : goal.invariant_of-self-2
invariant_of-self-2 g c =
    let e = c.args.self.now in
    let was = e.ready c.requires.not_closed in
    record {
      ready = λ open_now.
          still_ready e.history e.machine e.reading e.connections c.start-2.new.self e.taken was
          (are_of_starts (memory e).config e.connections c.start-2.new.self c.args.call was.calls _ (sym c.in-Some.ensures) c.in_ok-start-2.ensures);
      through = λ open_now. done_started (memory e).config e.connections c.start-2.new.self e.done c.args.call _ (sym c.in-Some.ensures) c.in_ok-start-2.ensures (e.through c.requires.not_closed);
    }
