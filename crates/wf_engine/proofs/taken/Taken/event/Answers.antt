use Rattle.std.proofs.Common.{arith, length-append, ◌++◌}
use Rattle.wf_engine.proofs.taken.Taken.event.Goals as goal
use Rattle.wf_record_parts.specs.Spelling.{eight, reply}
use Rattle.wf_record_parts.specs.View.{reply_view}

pub returns-clause-short : goal.returns-clause-short
returns-clause-short c =
    let a = reply_view c.args.self.reply.value in
    omega (arith, length-append (eight c.args.self.call) (eight c.args.reading ++ reply a), length-append (eight c.args.reading) (reply a), c.args.self.fits.short)

pub returns-clause-old : goal.returns-clause-old
returns-clause-old c = (omega arith, omega arith, c.args.self.fits.spelled)
