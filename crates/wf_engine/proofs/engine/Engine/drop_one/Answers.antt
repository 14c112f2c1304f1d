use Rattle.std.proofs.Common.{◌≡◌, false, true, [], ◌∷◌, refl, sym, ◌∙◌}
use Rattle.wf_host.proofs.Printings.{NoneFell-refl}
use Rattle.wf_deeds.specs.Clauses.{those}
use Rattle.wf_engine.proofs.Connected.{behind, drops_goes, drops_one, drops_same, forgets_goes, forgets_one, forgets_same, lent_some}
use Rattle.wf_engine.proofs.CallsSent.{drops_no_open, drops_none, holds_later, part_none, sends_drop, sends_none, told_then}
use Rattle.wf_engine.proofs.Sent.{kept_before, kept_with, kept_without}
use Rattle.wf_engine.proofs.SentLists.{not_this}
use Rattle.wf_engine.proofs.engine.Engine.drop_one.Goals as goal
use Rattle.wf_engine.specs.Engine.{memory}
use Rattle.wf_engine.specs.Sending.{is_to_drop}
use Rattle.wf_host.specs.declared.data.Deed.TheVariants.{Drop}
use Rattle.wf_model.specs.Ready.{request_of}
use Rattle.wf_replay.specs.TheLanguage.{the_language}

-- it is open
pub returns-then-is_some-clause-sent : goal.returns-then-is_some-clause-sent
returns-then-is_some-clause-sent g c =
    let e = c.args.self.now in
    let q = lent_some c.request.result (request_of (memory e).config c.args.call) c.request.ensures (sym c.is_some.ensures ∙ c.if-is_some.true) in
    part_none c.laws_of_steps.ensures.moment (g.H.Host.world c.args.host.now) (g.H.Host.faults c.args.host.now) e (those (is_to_drop (memory e)) c.args.call 1) [] (λ told i d left. g.met.H.Host.only_now c.args.host.now i d told left) c.requires.not_closed c.requires.kept (not_this (is_to_drop (memory e)) c.args.call (drops_no_open (memory e) c.args.call q.0 q.1)) refl

pub returns-then-is_some-clause-drops : goal.returns-then-is_some-clause-drops
returns-then-is_some-clause-drops g c =
    let e = c.args.self.now in
    let q = lent_some c.request.result (request_of (memory e).config c.args.call) c.request.ensures (sym c.is_some.ensures ∙ c.if-is_some.true) in
    drops_none (memory e) c.args.call (drops_no_open (memory e) c.args.call q.0 q.1)

pub returns-then-is_some-clause-any_moment : goal.returns-then-is_some-clause-any_moment
returns-then-is_some-clause-any_moment g c = λ O told.
    let e = c.args.self.now in
    kept_before c.laws_of_steps.ensures.moment the_language O (memory e) e.history (g.H.Host.world c.args.host.now) (λ i d left. g.met.H.Host.only_now c.args.host.now i d told left) (c.requires.kept told).0 (e.ready c.requires.not_closed).begun

-- it is forgotten
pub returns-then-not-is_to_drop-clause-any_moment : goal.returns-then-not-is_to_drop-clause-any_moment
returns-then-not-is_to_drop-clause-any_moment g c = λ O told.
    let e = c.args.self.now in
    kept_before c.laws_of_steps.ensures.moment the_language O (memory e) e.history (g.H.Host.world c.args.host.now) (λ i d left. g.met.H.Host.only_now c.args.host.now i d told left) (c.requires.kept told).0 (e.ready c.requires.not_closed).begun

pub returns-then-not-is_to_drop-clause-drops : goal.returns-then-not-is_to_drop-clause-drops
returns-then-not-is_to_drop-clause-drops g c =
    let e = c.args.self.now in
    forgets_one (memory e) e.connections c.forget.new.self c.args.call c.forget.ensures (sym c.is_to_drop.ensures ∙ c.if-not-is_to_drop.true)

pub returns-then-not-is_to_drop-clause-sent : goal.returns-then-not-is_to_drop-clause-sent
returns-then-not-is_to_drop-clause-sent g c =
    let e = c.args.self.now in
    let m = memory e in
    let k = c.args.call in
    let a = e.connections in
    let b = c.forget.new.self in
    let w = g.H.Host.world c.args.host.now in
    let no : is_to_drop m k ≡ false = sym c.is_to_drop.ensures ∙ c.if-not-is_to_drop.true in
    record {
      not_closed = c.requires.not_closed;
      holds = c.requires.kept;
      same = forgets_same m a b k c.forget.ensures;
      sends = λ O told. sends_none the_language O m (behind m a b k) w w (those (is_to_drop m) k 1) [] (forgets_goes m a b k c.forget.ensures the_language O) refl refl (not_this (is_to_drop m) k no) refl;
      moments = λ O told. kept_before c.laws_of_steps.ensures.moment the_language O m e.history w (λ i d left. g.met.H.Host.only_now c.args.host.now i d told left) (c.requires.kept told).0 (e.ready c.requires.not_closed).begun;
      seen = λ told. refl;
      tells = refl;
      counts = NoneFell-refl (g.H.Host.faults c.args.host.now);
    }

-- there was no memory for its drop
pub returns-in_err-drop_call-clause-any_moment : goal.returns-in_err-drop_call-clause-any_moment
returns-in_err-drop_call-clause-any_moment g c = λ O told.
    let e = c.args.self.now in
    let w = g.H.Host.world c.args.host.now in
    kept_without c.laws_of_steps.ensures.moment the_language O (memory e) e.history w (λ i d left. g.met.H.Host.only_now c.args.host.now i d told left) (c.requires.kept told).0 (e.ready c.requires.not_closed).begun
    (g.H.Host.world c.drop_call.new.self) (λ t i le now. g.met.H.Host.counts_now c.args.host.now t i told le now) (c.in_err-drop_call.ensures.time told)

-- it is dropped
pub returns-clause-drops : goal.returns-clause-drops
returns-clause-drops g c =
    let e = c.args.self.now in
    let yes_drop : is_to_drop (memory e) c.args.call ≡ true = sym c.is_to_drop.ensures ∙ c.if-not-is_to_drop.false in
    drops_one (memory e) e.connections c.drop_call-2.new.self c.args.call c.drop_call-2.ensures yes_drop

pub returns-clause-any_moment : goal.returns-clause-any_moment
returns-clause-any_moment g c = λ O told.
    let e = c.args.self.now in
    let m = memory e in
    let k = c.args.call in
    let a = e.connections in
    let b = c.drop_call-2.new.self in
    let w = g.H.Host.world c.args.host.now in
    let is : is_to_drop m k ≡ true = sym c.is_to_drop.ensures ∙ c.if-not-is_to_drop.false in
    kept_with c.laws_of_steps.ensures.moment the_language O m e.history w (λ i d left. g.met.H.Host.only_now c.args.host.now i d told left) (c.requires.kept told).0 (e.ready c.requires.not_closed).begun
    (g.H.Host.world c.drop_call.new.self) (behind m a b k) (Drop k) (c.in_ok-drop_call.ensures.time told) (drops_goes m a b k c.drop_call-2.ensures is the_language O c.laws_of_steps.ensures.drop c.requires.settled) refl refl

pub returns-clause-sent : goal.returns-clause-sent
returns-clause-sent g c =
    let e = c.args.self.now in
    let m = memory e in
    let k = c.args.call in
    let a = e.connections in
    let b = c.drop_call-2.new.self in
    let w = g.H.Host.world c.args.host.now in
    let new = g.H.Host.world c.drop_call.new.self in
    let is : is_to_drop m k ≡ true = sym c.is_to_drop.ensures ∙ c.if-not-is_to_drop.false in
    record {
      not_closed = refl;
      holds = λ told.
          holds_later e.history w new (Drop k ∷ []) (c.requires.kept told) (c.in_ok-drop_call.ensures.time told) (c.drop_call.ensures.seen told)
          (λ t i le now. g.met.H.Host.counts_now c.drop_call.new.self t i (told_then w new c.drop_call.ensures.tells told) le now);
      same = drops_same m a b k c.drop_call-2.ensures is;
      sends = λ O told.
          sends_drop the_language O m (behind m a b k) w new k (drops_goes m a b k c.drop_call-2.ensures is the_language O c.laws_of_steps.ensures.drop c.requires.settled) (c.in_ok-drop_call.ensures.time told).deeds
          (c.drop_call.ensures.seen told) is;
      moments = λ O told.
          kept_with c.laws_of_steps.ensures.moment the_language O m e.history w (λ i d left. g.met.H.Host.only_now c.args.host.now i d told left) (c.requires.kept told).0 (e.ready c.requires.not_closed).begun new (behind m a b k)
          (Drop k) (c.in_ok-drop_call.ensures.time told) (drops_goes m a b k c.drop_call-2.ensures is the_language O c.laws_of_steps.ensures.drop c.requires.settled) refl refl;
      seen = λ told. c.drop_call.ensures.seen told;
      tells = c.drop_call.ensures.tells;
      counts = c.drop_call.ensures.counts;
    }
