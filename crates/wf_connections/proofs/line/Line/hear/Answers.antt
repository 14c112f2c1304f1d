use Rattle.wf_connections.specs.Lines.{told_by}
use Rattle.wf_connections.proofs.Changes.{heard_read, other_read}
use Rattle.wf_connections.proofs.Tells.{more_read}
use Rattle.wf_connections.proofs.line.Line.hear.Goals as goal
use Rattle.wf_connections.proofs.line.Line.hear.Goals.{in-Heard+in_ok-read, in_default}

pub returns-in_err-read-clause-read : goal.returns-in_err-read-clause-read
returns-in_err-read-clause-read c = λ k of_it was.
    let told = told_by k c.args.self.now.heard.items in
    c.in_err-read.ensures k told of_it (heard_read c.args.self.now.state c.in-Heard.reading c.deref_mut.result.now told c.in-Heard.is c.deref_mut.ensures.value was)

pub returns-clause-read : goal.returns-clause-read
returns-clause-read c = λ k of_it was.
    let self = c.args.self.now in
    let told = told_by k self.heard.items in
    let line = c.match-self.self in
    elim c.match-self.branch [
      | in-Heard+in_ok-read w ↦
          let had = heard_read self.state w.in-Heard.reading w.deref_mut.result.now told w.in-Heard.is w.deref_mut.ensures.value was in
          more_read k _ line c.args.what.now c.and-self.result.items w.self-is c.and-self.ensures (w.in_ok-read.ensures k told of_it had)
      | in_default w ↦ more_read k _ line c.args.what.now c.and-self.result.items w.self-is c.and-self.ensures (other_read self.state _ w.in_default.not-Heard)
    ]
