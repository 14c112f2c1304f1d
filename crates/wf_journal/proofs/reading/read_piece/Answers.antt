use Rattle.std.proofs.Common.{◌≡◌, ◌+◌, ◌-◌, ◌≤◌, length, drop, ◌∙◌, arith, rules, length-drop}
use Rattle.std.proofs.lemmas.Bool.{eq-eqb}
use borrow.Rule.Slice.PartMut.{mid_of, mid_len}
use Rattle.wf_host.specs.Moments.{still_settled}
use Rattle.wf_journal.proofs.Front.{still_tells}
use Rattle.wf_journal.proofs.Pieces.{room_after}
use Rattle.wf_journal.proofs.reading.read_piece.Goals as goal

pub returns-in_err-read-clause-settled : goal.returns-in_err-read-clause-settled
returns-in_err-read-clause-settled g c = λ told.
    let w = g.H.Host.world c.args.host.now in
    let w1 = g.H.Host.world c.read_at.new.self in
    let told1 = still_tells w w1 c.read_at.ensures.tells told in
    still_settled w.seen w w1 _ (c.requires.settled told) (c.read_at.ensures.time told) (λ t i le now. g.met.H.Host.counts_now c.read_at.new.self t i told1 le now)

pub returns-clause-settled : goal.returns-clause-settled
returns-clause-settled g c = λ told.
    let w = g.H.Host.world c.args.host.now in
    let w1 = g.H.Host.world c.read_at.new.self in
    let told1 = still_tells w w1 c.read_at.ensures.tells told in
    still_settled w.seen w w1 _ (c.requires.settled told) (c.read_at.ensures.time told) (λ t i le now. g.met.H.Host.counts_now c.read_at.new.self t i told1 le now)

pub returns-clause-piece : goal.returns-clause-piece
returns-clause-piece g c = λ told.
    let items = c.deref_mut.result.now in
    let held = c.len-held.result in
    let count = c.args.count in
    let file = (g.H.Host.world c.args.host.now).seen in
    let part = mid_of held (length items - held) items in
    let length_before : length c.args.room.now.items ≡ held = search rules in
    let length_items : length items ≡ held + count = search rules in
    let length_part : length part ≡ count = omega (arith, mid_len held (length items) items (omega arith), length_items) in
    let fits : count ≤ length (drop c.args.at file) = omega (arith, length-drop c.args.at file, c.requires.inside told) in
    let whole : c.in_ok-read.read ≡ count = omega (arith, c.in_ok-read.ensures.count told, length_part, c.requires.inside told) in (
      eq-eqb c.in_ok-read.read count whole,
      room_after c.args.room.now.items _ items part c.read_at.new.into (drop c.args.at file) _ _ held count c.in_ok-read.read c.resize.new.self.len length_before
          (c.deref_mut.ensures.value ∙ c.in_ok-resize.ensures.items) length_part whole (c.in_ok-read.ensures.bytes told) fits c.in_ok-resize.ensures.len,
    )
