use Rattle.std.proofs.Common.{◌≡◌, ℕ, ◌+◌, List, ◌∷◌, length, drop, sym, ◌∙◌, ap, subst, arith}
use Rattle.wf_host.specs.World.{Only}
use Rattle.wf_journal.specs.Reading.{IsBlock}
use Rattle.wf_journal.specs.declared.reading.Block.TheVariants.{Payload}
use Rattle.wf_journal.specs.Records.{records_from}
use Rattle.wf_journal.specs.Gates.{AtGate}
use Rattle.wf_journal.proofs.Gates.{passed_by, gate_past}
use Rattle.wf_journal.proofs.Standing.{not_new, stands_at_gate}
use Rattle.wf_journal.specs.Standing.{gate_after, none_ahead}
use Rattle.wf_journal.proofs.journal.Journal.fill_next.Goals as goal

pub returns-then-self-2-clause-none : goal.returns-then-self-2-clause-none
returns-then-self-2-clause-none g c = λ told _.
    none_ahead c.args.self.now (g.H.Host.world c.args.host.now) (c.requires.kept c.if-self.false told) c.if-self-2.true

pub returns-then-self-2-clause-none_ahead : goal.returns-then-self-2-clause-none_ahead
returns-then-self-2-clause-none_ahead g c = λ told _.
    none_ahead c.args.self.now (g.H.Host.world c.args.host.now) (c.requires.kept c.if-self.false told) c.if-self-2.true

pub returns-in-Ok-Payload-clause-stands : goal.returns-in-Ok-Payload-clause-stands
returns-in-Ok-Payload-clause-stands g c = λ is_open told.
    let w = g.H.Host.world c.args.host.now in
    let w1 = g.H.Host.world c.read_block.new.host in
    let j = c.args.self.now in
    let s = c.requires.kept c.if-self.false told in
    let old = not_new j w s c.if-self-2.false in
    let same = c.read_block.ensures.seen told in
    let durable : Only w1.seen w1.may_leave = λ i now. c.read_block.ensures.settled told i now ∙ sym same in
    let block : IsBlock w.seen j.gate c.read_block.new.room.items (Payload c.in-Ok-Payload.len) =
    subst (λ b. IsBlock w.seen j.gate c.read_block.new.room.items b) c.in-Ok-Payload.field-0-is (c.in-Ok-Payload.ensures.block told) in
    let past = gate_past w j.gate c.in-Ok-Payload.len (s.found old) block.0.0 block.0.1 block.0.2 in
    let there : j.gate + 5 + c.in-Ok-Payload.len ≡ j.gate + (5 + c.from.result) = omega (arith, c.from.ensures) in
    stands_at_gate old c.if-self-2.false (s.size c.if-self-2.false ∙ sym (ap length same)) (gate_after w w1 _ (subst (λ n. AtGate w n) there past) same durable)

pub returns-in-Ok-Payload-clause-payload : goal.returns-in-Ok-Payload-clause-payload
returns-in-Ok-Payload-clause-payload g c = λ told _.
    let w = g.H.Host.world c.args.host.now in
    let j = c.args.self.now in
    let s = c.requires.kept c.if-self.false told in
    let old = not_new j w s c.if-self-2.false in
    let block : IsBlock w.seen j.gate c.read_block.new.room.items (Payload c.in-Ok-Payload.len) =
    subst (λ b. IsBlock w.seen j.gate c.read_block.new.room.items b) c.in-Ok-Payload.field-0-is (c.in-Ok-Payload.ensures.block told) in
    let there : j.gate + 5 + c.in-Ok-Payload.len ≡ j.gate + (5 + c.from.result) = omega (arith, c.from.ensures) in
    passed_by w j.gate c.in-Ok-Payload.len (s.found old) block.0.0 block.0.1 block.0.2
    ∙ ap (λ (l : List ℕ). l ∷ records_from (drop (j.gate + 5 + c.in-Ok-Payload.len) w.seen)) (sym block.1)
    ∙ ap (λ (n : ℕ). c.read_block.new.room.items ∷ records_from (drop n w.seen)) there
