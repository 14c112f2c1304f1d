use Rattle.std.proofs.Common.{inl, inr, subst, ◌∙◌}
use Rattle.wf_host.specs.World.{Torn}
use Rattle.wf_host.specs.Moments.{weaker, joined}
use Rattle.wf_journal.specs.Journal.{HasNone}
use Rattle.wf_journal.specs.Writing.{TornAt}
use Rattle.wf_journal.proofs.Front.{on_ok_two, still_tells}
use Rattle.wf_journal.specs.Standing.{new_none}
use Rattle.wf_journal.proofs.Gates.{magic_whole, torn_magic, torn_first, begun_now}
use Rattle.wf_journal.proofs.record.write_start.Goals as goal

pub returns-in_err-write_synced-clause-any_moment :
    goal.returns-in_err-write_synced-clause-any_moment
returns-in_err-write_synced-clause-any_moment g c = λ told.
    let w = g.H.Host.world c.args.host.now in
    weaker w (g.H.Host.world c.write_synced.new.host) (TornAt w 0 4) (HasNone w) (c.write_synced.ensures.any_moment told)
    (λ i d pair.
    let short = torn_magic w.seen i (c.requires.fresh told) (subst (λ o. Torn 0 4 o i) (c.requires.settled told pair.0.0 pair.0.1) pair.0.2) in
    (inl short, new_none i short, pair.1))

pub returns-clause-ready : goal.returns-clause-ready
returns-clause-ready g c = λ told.
    let w = g.H.Host.world c.args.host.now in
    let w1 = g.H.Host.world c.write_synced.new.host in
    let told1 = still_tells w w1 c.write_synced.ensures.tells told in
    let whole = magic_whole w.seen w1.seen (c.requires.fresh told) (c.in_ok-write_synced.ensures.written told) in
    on_ok_two c.write_synced-2.result (λ holds durable. (begun_now w1.seen (g.H.Host.world c.write_synced-2.new.host) whole holds durable).0)
    (c.write_synced-2.ensures.written told1) (c.write_synced-2.ensures.durable told1)

pub returns-clause-none : goal.returns-clause-none
returns-clause-none g c = λ told.
    let w = g.H.Host.world c.args.host.now in
    let w1 = g.H.Host.world c.write_synced.new.host in
    let told1 = still_tells w w1 c.write_synced.ensures.tells told in
    let whole = magic_whole w.seen w1.seen (c.requires.fresh told) (c.in_ok-write_synced.ensures.written told) in
    on_ok_two c.write_synced-2.result (λ holds durable. (begun_now w1.seen (g.H.Host.world c.write_synced-2.new.host) whole holds durable).1)
    (c.write_synced-2.ensures.written told1) (c.write_synced-2.ensures.durable told1)

pub returns-clause-any_moment : goal.returns-clause-any_moment
returns-clause-any_moment g c = λ told.
    let w = g.H.Host.world c.args.host.now in
    let w1 = g.H.Host.world c.write_synced.new.host in
    let told1 = still_tells w w1 c.write_synced.ensures.tells told in
    let whole = magic_whole w.seen w1.seen (c.requires.fresh told) (c.in_ok-write_synced.ensures.written told) in
    let first = weaker w w1 (TornAt w 0 4) (HasNone w) (c.write_synced.ensures.any_moment told)
    (λ i d pair.
    let short = torn_magic w.seen i (c.requires.fresh told) (subst (λ o. Torn 0 4 o i) (c.requires.settled told pair.0.0 pair.0.1) pair.0.2) in
    (inl short, new_none i short, pair.1)) in
    joined w w1 (g.H.Host.world c.write_synced-2.new.host) (HasNone w) (TornAt w1 4 1) first (c.write_synced-2.ensures.any_moment told1)
    (λ i d pair.
    let torn = subst (λ o. Torn 4 1 o i) (c.in_ok-write_synced.ensures.durable told pair.0.0 pair.0.1) pair.0.2 in
    let both = torn_first w1.seen i whole torn in
    (inr both.0, both.1, pair.1 ∙ c.write_synced.ensures.deeds told))
