use Rattle.std.proofs.Common.{◌∙◌, ap, subst, sym}
use Rattle.std.specs.Prelude.{if◌then◌else◌, is_ok}
use Rattle.wf_connections.specs.Lines.{HasRead}
use Rattle.wf_connections.proofs.Tells.{Feeds, broken_read, bytes_read, end_read}
use Rattle.wf_deeds.specs.Deeds.{tells}
use Rattle.wf_host.specs.World.{call_of}
use Rattle.wf_connections.proofs.line.read.Goals as goal

pub returns-in-Bytes : goal.returns-in-Bytes
returns-in-Bytes c = λ k t of_it had.
    let old = c.args.reading.now in
    let new = c.feed.new.self in
    let feeds = subst (Feeds old new (is_ok c.feed.result)) c.as_slice.ensures c.feed.ensures in
    let same = sym (ap call_of c.in-Bytes.is) ∙ of_it in
    subst (λ w. HasRead new (if is_ok c.feed.result then tells k w t else t)) (sym c.in-Bytes.is)
    (bytes_read c.feed.result old new c.in-Bytes.field-0 k c.in-Bytes.bytes t feeds same had)

pub returns-in-End : goal.returns-in-End
returns-in-End c = λ k t of_it had.
    let same = sym (ap call_of c.in-End.is) ∙ of_it in
    subst (λ w. HasRead c.end.new.self (tells k w t)) (sym c.in-End.is) (end_read c.args.reading.now c.end.new.self c.in-End.field-0 k t c.end.ensures same had)

pub returns-in-Broken : goal.returns-in-Broken
returns-in-Broken c = λ k t of_it had.
    let same = sym (ap call_of c.in-Broken.is) ∙ of_it in
    subst (λ w. HasRead c.broke.new.self (tells k w t)) (sym c.in-Broken.is) (broken_read c.args.reading.now c.broke.new.self c.in-Broken.field-0 k t c.broke.ensures same had)
