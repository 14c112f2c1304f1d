use Rattle.std.proofs.Common.{IsTrue, inr, refl, sym, ◌∙◌, subst}
use Rattle.wf_host.proofs.Printings.{SoFar, still_tells, starts, stays, one_more, none_more, front_so_far, some_so_far, took_nothing, NoneFell-refl, NoneFell-trans}
use Rattle.wf_host.proofs.printing.print_all.Goals as goal

pub loop-rest-init : goal.loop-rest-init
loop-rest-init g c = record {
  so_far = λ told. starts (g.H.Host.world c.args.host.now) c.args.text.now (λ i d left. g.met.H.Host.only_now c.args.host.now i d told left);
  tells = refl;
  counts = NoneFell-refl (g.H.Host.faults c.args.host.now);
}

pub returns-in_default-clause-not_whole : goal.returns-in_default-clause-not_whole
returns-in_default-clause-not_whole g c = λ _ told.
    let first = g.H.Host.world c.args.host.now in
    let mid = g.H.Host.world c.loop-rest.host in
    let new = g.H.Host.world c.print.new.self in
    let told1 = still_tells first mid c.loop-rest.invariant.tells told in
    let told2 = still_tells mid new c.print.ensures.tells told1 in
    some_so_far first new c.args.text.now c.loop-rest.rest.now c.loop-rest-test.ensures
    (stays first mid new c.args.text.now c.loop-rest.rest.now (c.loop-rest.invariant.so_far told)
    (λ t i le now. g.met.H.Host.counts_now c.loop-rest.host t i told1 le now) (λ t i le now. g.met.H.Host.counts_now c.print.new.self t i told2 le now)
    (c.print.ensures.seen told1) (c.in_default.ensures.time told1))

pub returns-then-taken-eq0 : goal.returns-then-taken-eq0
returns-then-taken-eq0 g c =
    let first = g.H.Host.world c.args.host.now in
    let mid = g.H.Host.world c.loop-rest.host in
    let new = g.H.Host.world c.print.new.self in
    let k = c.loop-rest.invariant in
    let so_far = λ (told : IsTrue first.tells).
    let told1 = still_tells first mid k.tells told in
    let told2 = still_tells mid new c.print.ensures.tells told1 in
    none_more first mid new c.args.text.now c.loop-rest.rest.now c.in-Ok.taken c.if-taken-eq0.true (k.so_far told)
    (λ t i le now. g.met.H.Host.counts_now c.print.new.self t i told2 le now) (c.print.ensures.seen told1) (c.in-Ok.ensures.time told1) in
    record {
      printed = λ told. front_so_far first new c.args.text.now c.loop-rest.rest.now (so_far told);
      whole = λ no. cc no;
      stuck = λ _. inr (λ told. took_nothing first mid new c.args.text.now c.loop-rest.rest.now c.in-Ok.taken c.if-taken-eq0.true (k.so_far told) (c.in-Ok.ensures.time (still_tells first mid k.tells told)));
      not_whole = λ _ told. some_so_far first new c.args.text.now c.loop-rest.rest.now c.loop-rest-test.ensures (so_far told);
      any_moment = λ told. (so_far told).moments;
      seen = λ told. (so_far told).seen;
      tells = c.print.ensures.tells ∙ k.tells;
      counts = NoneFell-trans (g.H.Host.faults c.args.host.now) (g.H.Host.faults c.loop-rest.host) (g.H.Host.faults c.print.new.self) k.counts c.print.ensures.counts;
    }

pub loop-rest-preserved : goal.loop-rest-preserved
loop-rest-preserved g c = record {
  so_far = λ told.
      let first = g.H.Host.world c.args.host.now in
      let mid = g.H.Host.world c.loop-rest.host in
      let new = g.H.Host.world c.print.new.self in
      let told1 = still_tells first mid c.loop-rest.invariant.tells told in
      let told2 = still_tells mid new c.print.ensures.tells told1 in
      subst (λ r. SoFar first new c.args.text.now r) (sym c.split_at.ensures.back)
      (one_more first mid new c.args.text.now c.loop-rest.rest.now c.in-Ok.taken (c.loop-rest.invariant.so_far told)
      (λ t i le now. g.met.H.Host.counts_now c.print.new.self t i told2 le now) (c.print.ensures.seen told1) (c.in-Ok.ensures.time told1));
  tells = c.print.ensures.tells ∙ c.loop-rest.invariant.tells;
  counts = NoneFell-trans (g.H.Host.faults c.args.host.now) (g.H.Host.faults c.loop-rest.host) (g.H.Host.faults c.print.new.self) c.loop-rest.invariant.counts c.print.ensures.counts;
}
