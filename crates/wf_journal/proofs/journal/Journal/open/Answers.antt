use Rattle.std.proofs.Common.{rules, ◌<◌, ◌≡◌, ℕ, List, [], length, take, refl, sym, ◌∙◌, ap, arith}
use Rattle.std.proofs.lemmas.List.{drop_at, length-take-le}
use Rattle.wf_host.specs.Moments.{goes_on_same, started, still_settled}
use Rattle.wf_host.specs.declared.data.Deed.{Deed}
use Rattle.wf_journal.specs.Records.{magic, records_from}
use Rattle.wf_journal.proofs.Front.{still_tells, first_four}
use Rattle.wf_journal.proofs.Standing.{stands_at_gate}
use Rattle.wf_journal.proofs.journal.Journal.open.Goals as goal

pub returns-then-size-le4 : goal.returns-then-size-le4
returns-then-size-le4 g c =
    record {
      stands = λ told.
          let w = g.H.Host.world c.args.host.now in
          let w1 = g.H.Host.world c.sync.new.self in
          let w2 = g.H.Host.world c.size.new.self in
          let told1 = still_tells w w1 c.sync.ensures.tells told in
          let told2 = still_tells w1 w2 c.size.ensures.tells told1 in
          let reads = c.size.ensures.seen told1 ∙ c.sync.ensures.seen told in
          let only = still_settled w.seen w1 w2 _ (c.in_ok-sync.ensures.durable told) (c.size.ensures.time told1) (λ t i le now. g.met.H.Host.counts_now c.size.new.self t i told2 le now) in
          record {
            settled = λ i now. only i now ∙ sym reads;
            fresh = λ _. (omega (arith, c.if-size-le4.true, c.in_ok-size.ensures.value told1, ap length (c.size.ensures.seen told1)), refl, refl);
            found = λ is. absurd (cc is);
            size = λ is. absurd (cc is);
            ended = λ is _. absurd (cc is);
            stale = λ is _ _. absurd (cc is);
          };
      «open» = search rules;
      first = search rules;
      fresh = search rules;
      fresh_end = search rules;
      seen = search rules;
      any_moment = λ told.
          let w = g.H.Host.world c.args.host.now in
          let w1 = g.H.Host.world c.sync.new.self in
          let w2 = g.H.Host.world c.size.new.self in
          let P = λ (i : List ℕ) (d : List Deed). w.may_leave i × (d ≡ w.deeds) in
          let told1 = still_tells w w1 c.sync.ensures.tells told in
          let entry = started w P (λ i d left. g.met.H.Host.only_now c.args.host.now i d told left) (λ i now. (now, refl)) in
          let synced = goes_on_same w w w1 P entry (λ t i le now. g.met.H.Host.counts_now c.args.host.now t i told le now) (c.sync.ensures.time told) in
          goes_on_same w w1 w2 P synced (λ t i le now. g.met.H.Host.counts_now c.sync.new.self t i told1 le now) (c.size.ensures.time told1);
      disk_fault = search rules;
      not_a_journal = search rules;
      a_journal = search rules;
      too_long = search rules;
      closed = search rules;
      no_memory = search rules;
      deeds = search rules;
      tells = search rules;
      counts = search rules;
    }

pub returns : goal.returns
returns g c =
    record {
      stands = λ told.
          let w = g.H.Host.world c.args.host.now in
          let w1 = g.H.Host.world c.sync.new.self in
          let w2 = g.H.Host.world c.size.new.self in
          let w3 = g.H.Host.world c.read_at.new.self in
          let told1 = still_tells w w1 c.sync.ensures.tells told in
          let told2 = still_tells w1 w2 c.size.ensures.tells told1 in
          let told3 = still_tells w2 w3 c.read_at.ensures.tells told2 in
          let same = c.read_at.ensures.seen told2 in
          let reads = same ∙ c.size.ensures.seen told1 ∙ c.sync.ensures.seen told in
          let only2 = still_settled w.seen w1 w2 _ (c.in_ok-sync.ensures.durable told) (c.size.ensures.time told1) (λ t i le now. g.met.H.Host.counts_now c.size.new.self t i told2 le now) in
          let only3 = still_settled w.seen w2 w3 _ only2 (c.read_at.ensures.time told2) (λ t i le now. g.met.H.Host.counts_now c.read_at.new.self t i told3 le now) in
          let long : c.in_ok-size.size ≡ length w3.seen = omega (arith, c.in_ok-size.ensures.value told1, ap length (c.size.ensures.seen told1), ap length same) in
          let longer : 4 < length w2.seen = omega (arith, c.if-size-le4.false, c.in_ok-size.ensures.value told1, ap length (c.size.ensures.seen told1)) in
          let is_magic : c.read_at.new.into ≡ magic = search rules in
          let begins : take 4 w3.seen ≡ magic = ap (λ (l : List ℕ). take 4 l) same
          ∙ first_four c.in_ok-read_at.field-0 w2.seen c.read_at.new.into (c.in_ok-read_at.ensures.count told2) longer (c.in_ok-read_at.ensures.bytes told2) ∙ is_magic in
          stands_at_gate refl refl long
          record {
            settled = λ i now. only3 i now ∙ sym reads;
            begins = begins;
            behind = omega arith;
            inside = omega (arith, c.if-size-le4.false, long);
            passed = [];
            opens = λ ahead some. ap records_from (drop_at (take 4 w3.seen) ahead 4 (length-take-le 4 w3.seen (omega (arith, c.if-size-le4.false, long))));
          };
      «open» = search rules;
      first = search rules;
      fresh = search rules;
      fresh_end = search rules;
      seen = search rules;
      any_moment = λ told.
          let w = g.H.Host.world c.args.host.now in
          let w1 = g.H.Host.world c.sync.new.self in
          let w2 = g.H.Host.world c.size.new.self in
          let w3 = g.H.Host.world c.read_at.new.self in
          let P = λ (i : List ℕ) (d : List Deed). w.may_leave i × (d ≡ w.deeds) in
          let told1 = still_tells w w1 c.sync.ensures.tells told in
          let told2 = still_tells w1 w2 c.size.ensures.tells told1 in
          let entry = started w P (λ i d left. g.met.H.Host.only_now c.args.host.now i d told left) (λ i now. (now, refl)) in
          let synced = goes_on_same w w w1 P entry (λ t i le now. g.met.H.Host.counts_now c.args.host.now t i told le now) (c.sync.ensures.time told) in
          let sized = goes_on_same w w1 w2 P synced (λ t i le now. g.met.H.Host.counts_now c.sync.new.self t i told1 le now) (c.size.ensures.time told1) in
          goes_on_same w w2 w3 P sized (λ t i le now. g.met.H.Host.counts_now c.size.new.self t i told2 le now) (c.read_at.ensures.time told2);
      disk_fault = search rules;
      not_a_journal = search rules;
      a_journal = search rules;
      too_long = search rules;
      closed = search rules;
      no_memory = search rules;
      deeds = search rules;
      tells = search rules;
      counts = search rules;
    }
