use Rattle.std.proofs.Common.{◌≡◌, ◌-◌, [], true, false, rules, refl, arith}
use Rattle.std.specs.Prelude.{IsTrue}
use Rattle.wf_host.proofs.Printings.{NoneFell-refl}
use Rattle.wf_history.specs.Stands.{ahead}
use Rattle.wf_replay.proofs.Fronts.{as_at_first, none_gone, none_left, one_further}
use Rattle.wf_replay.proofs.Replays.{starts}
use Rattle.wf_replay.proofs.replaying.replay_turns.Goals as goal
use Rattle.wf_replay.specs.Standing.{Passes, standing}

pub loop-left-init : goal.loop-left-init
loop-left-init g c = record {
  within = omega arith;
  kept = record {
    so_far = λ told. starts (g.H.Host.world c.args.host.now) c.args.history.now c.args.machine c.args.steps.now (λ i d left. g.met.H.Host.only_now c.args.host.now i d told left) (λ open_now. c.requires.kept open_now told);
    closed = refl;
    new = refl;
    whole = c.requires.whole;
    tells = refl;
    counts = NoneFell-refl (g.H.Host.faults c.args.host.now);
    idle = λ _. (refl, refl);
  };
  gone = none_gone (g.H.Host.world c.args.host.now) c.args.history.now c.args.machine c.args.turns;
}

pub loop-left-preserved : goal.loop-left-preserved
loop-left-preserved g c =
    let first = g.H.Host.world c.args.host.now in
    let now = g.H.Host.world c.loop-left.host in
    let more : c.in_ok-replay_next.field-0 ≡ true = search rules in
    record {
      within = omega arith;
      kept = search rules;
      gone = one_further first c.args.history.now c.loop-left.history c.replay_next.new.history c.args.machine c.loop-left.machine c.replay_next.new.machine c.args.turns c.loop-left.left (c.loop-left.left - 1) c.loop-left.invariant.gone
          (as_at_first first now (λ file. Passes (standing c.loop-left.history c.loop-left.machine) (standing c.replay_next.new.history c.replay_next.new.machine) (ahead c.loop-left.history file) (ahead c.replay_next.new.history file))
          c.loop-left.invariant.kept.tells (λ told. (c.loop-left.invariant.kept.so_far told).seen) (λ told. c.in_ok-replay_next.ensures.one told more))
          c.loop-left.invariant.within (omega arith);
    }

pub returns-then-not-branch : goal.returns-then-not-branch
returns-then-not-branch g c =
    let first = g.H.Host.world c.args.host.now in
    let now = g.H.Host.world c.loop-left.host in
    let none : c.in_ok-replay_next.field-0 ≡ false = search rules in
    let all = λ (told : IsTrue first.tells).
    none_left first c.args.history.now c.loop-left.history c.replay_next.new.history c.args.machine c.loop-left.machine c.replay_next.new.machine c.args.turns c.loop-left.left c.loop-left.invariant.gone
    (as_at_first first now (λ file. (ahead c.loop-left.history file ≡ []) × (standing c.replay_next.new.history c.replay_next.new.machine ≡ standing c.loop-left.history c.loop-left.machine))
    c.loop-left.invariant.kept.tells (λ told. (c.loop-left.invariant.kept.so_far told).seen) (λ told. c.in_ok-replay_next.ensures.none_more told none))
    (as_at_first first now (λ file. ahead c.replay_next.new.history file ≡ [])
    c.loop-left.invariant.kept.tells (λ told. (c.loop-left.invariant.kept.so_far told).seen) (λ told. c.in_ok-replay_next.ensures.last told none))
    told in
    record {
      replayed = λ told. (all told).0;
      steps = search rules;
      whole = search rules;
      left = λ told. (all told).1;
      stands = search rules;
      closes = search rules;
      new = search rules;
      seen = search rules;
      any_moment = search rules;
      bad_event = search rules;
      disk_fault = search rules;
      closed = search rules;
      idle = search rules;
      deeds = search rules;
      tells = search rules;
      counts = search rules;
    }
