use Rattle.std.proofs.Common.{[], arith, inl, inr, ⊎_elim, refl, sym, ◌∙◌, subst}
use Rattle.wf_host.proofs.Printings.{NoneFell-refl}
use Rattle.wf_lemmas.proofs.Results.{passed_on}
use Rattle.wf_deeds.specs.Memory.{IsSettled}
use Rattle.wf_engine.proofs.Parts.{far_at_first, far_kept, far_moments, far_on, far_went}
use Rattle.wf_engine.proofs.Settling.{first_of, is_busy, is_settled_now, none_fell, not_settled, rose_later, told_on, turn_takes}
use Rattle.wf_engine.proofs.engine.Engine.settle.Goals as goal
use Rattle.wf_engine.specs.Engine.{memory}
use Rattle.wf_replay.specs.TheLanguage.{the_language}
use Rattle.wf_replay.specs.declared.engine_fault.EngineFault.TheVariants as fault

pub loop-self-init : goal.loop-self-init
loop-self-init g c = record {
  not_closed = c.requires.«open»;
  holds = λ told. c.requires.kept told;
  number = refl;
  waits = refl;
  so_far = λ O told. far_at_first the_language O 0 c.args.self.now.history (g.H.Host.world c.args.host.now) (memory c.args.self.now) (λ i d left. g.met.H.Host.only_now c.args.host.now i d told left) (c.requires.kept told).0
      (c.args.self.now.ready c.requires.«open»).begun;
  tells = refl;
  counts = NoneFell-refl (g.H.Host.faults c.args.host.now);
  rest = inl (refl, refl);
}

pub turn-requires : goal.turn-requires
turn-requires g c = record {
  kept = λ open_now told.
      c.loop-self.invariant.holds (told_on (g.H.Host.world c.loop-self.host) (g.H.Host.world c.args.host.now) (sym c.loop-self.invariant.tells) told);
}

pub loop-self-smaller : goal.loop-self-smaller
loop-self-smaller g c =
    turn_takes (memory c.loop-self.self) (memory c.turn.new.self)
    (is_busy c.loop-self.self c.is_settled.result c.loop-self.invariant.not_closed c.is_settled.ensures.settled c.loop-self-test.true) c.in_ok-turn.ensures.goes_on

pub loop-self-preserved : goal.loop-self-preserved
loop-self-preserved g c =
    let w = g.H.Host.world c.args.host.now in
    let mid = g.H.Host.world c.loop-self.host in
    let new = g.H.Host.world c.turn.new.host in
    let so = c.loop-self.invariant in
    let busy = is_busy c.loop-self.self c.is_settled.result so.not_closed c.is_settled.ensures.settled c.loop-self-test.true in
    record {
      not_closed = c.in_ok-turn.ensures.«open»;
      holds = λ told. c.turn.ensures.holds c.in_ok-turn.ensures.«open» (told_on w mid so.tells told);
      number = c.turn.ensures.session ∙ so.number;
      waits = c.turn.ensures.waits ∙ so.waits;
      so_far = λ O told.
          let told1 = told_on w mid so.tells told in
          let told2 = told_on mid new c.turn.ensures.tells told1 in
          far_on the_language O 0 0 (memory c.args.self.now) (memory c.loop-self.self) (memory c.turn.new.self) w mid new [] [] (so.so_far O told) so.number (omega arith) (c.turn.ensures.any_moment O so.not_closed told1) (c.in_ok-turn.ensures.adds O told1).went
          c.turn.new.self.history (λ t i le now. g.met.H.Host.counts_now c.turn.new.host t i told2 le now) (g.met.H.Host.reads_back c.turn.new.host told2) (c.turn.ensures.holds c.in_ok-turn.ensures.«open» told1).0
          (c.turn.new.self.ready c.in_ok-turn.ensures.«open»).begun;
      tells = c.turn.ensures.tells ∙ so.tells;
      counts = none_fell (g.H.Host.faults c.args.host.now) (g.H.Host.faults c.loop-self.host) (g.H.Host.faults c.turn.new.host) so.counts c.turn.ensures.counts;
      rest = inr (⊎_elim (λ same. λ settled. not_settled (memory c.loop-self.self) busy (subst (λ e. IsSettled (memory e)) (sym same.0) settled)) (λ was. was) so.rest);
    }

-- a turn failed
pub returns-in_err-turn-clause-any_moment : goal.returns-in_err-turn-clause-any_moment
returns-in_err-turn-clause-any_moment g c = λ O told.
    let w = g.H.Host.world c.args.host.now in
    let mid = g.H.Host.world c.loop-self.host in
    let so = c.loop-self.invariant in
    far_moments the_language O 0 0 (memory c.args.self.now) (memory c.loop-self.self) w mid (g.H.Host.world c.turn.new.host) [] (so.so_far O told) so.number (omega arith) (c.turn.ensures.any_moment O so.not_closed (told_on w mid so.tells told))

pub returns-in_err-turn-clause-finished : goal.returns-in_err-turn-clause-finished
returns-in_err-turn-clause-finished g c = λ settled.
    let so = c.loop-self.invariant in
    let busy = is_busy c.loop-self.self c.is_settled.result so.not_closed c.is_settled.ensures.settled c.loop-self-test.true in
    absurd (⊎_elim (λ same. not_settled (memory c.loop-self.self) busy (subst (λ e. IsSettled (memory e)) (sym same.0) settled)) (λ was. was settled) so.rest)

pub returns-in_err-turn-clause-session : goal.returns-in_err-turn-clause-session
returns-in_err-turn-clause-session g c = c.turn.ensures.session ∙ c.loop-self.invariant.number

pub returns-in_err-turn-clause-waits : goal.returns-in_err-turn-clause-waits
returns-in_err-turn-clause-waits g c = c.turn.ensures.waits ∙ c.loop-self.invariant.waits

pub returns-in_err-turn-clause-disk_fault : goal.returns-in_err-turn-clause-disk_fault
returns-in_err-turn-clause-disk_fault g c = λ is.
    rose_later (g.H.Host.faults c.args.host.now).disk (g.H.Host.faults c.loop-self.host).disk (g.H.Host.faults c.turn.new.host).disk c.loop-self.invariant.counts.disk
    (c.in_err-turn.ensures.disk_fault (passed_on c.from_residual.result c.in_err-turn.field-0.0 fault.DiskFault c.from_residual.ensures is))

pub returns-in_err-turn-clause-tells : goal.returns-in_err-turn-clause-tells
returns-in_err-turn-clause-tells g c = c.turn.ensures.tells ∙ c.loop-self.invariant.tells

pub returns-in_err-turn-clause-counts : goal.returns-in_err-turn-clause-counts
returns-in_err-turn-clause-counts g c = none_fell (g.H.Host.faults c.args.host.now) (g.H.Host.faults c.loop-self.host) (g.H.Host.faults c.turn.new.host) c.loop-self.invariant.counts c.turn.ensures.counts

-- it is settled
pub returns : goal.returns
returns g c =
    let so = c.loop-self.invariant in
    record {
      holds = λ told. so.holds told;
      adds = λ O told. far_went the_language O 0 (memory c.args.self.now) (memory c.loop-self.self) (g.H.Host.world c.args.host.now) (g.H.Host.world c.loop-self.host) [] (so.so_far O told);
      settled = is_settled_now c.loop-self.self c.is_settled.result so.not_closed c.is_settled.ensures.settled c.loop-self-test.false;
      any_moment = λ O told. far_kept the_language O 0 (memory c.args.self.now) (memory c.loop-self.self) (g.H.Host.world c.args.host.now) (g.H.Host.world c.loop-self.host) [] (so.so_far O told);
      finished = λ settled. first_of so.rest (λ was. was settled);
      session = so.number;
      waits = so.waits;
      disk_fault = λ is. absurd (cc is);
      closes = tt;
      «open» = so.not_closed;
      only = tt;
      tells = so.tells;
      counts = so.counts;
    }
