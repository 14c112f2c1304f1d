use Rattle.wf_args.specs.Lines.{words_view}
use Rattle.wf_args.proofs.Spelled.{reads_line}
use Rattle.wf_args.proofs.line.Line.command.Goals as goal

pub returns-clause-proper : goal.returns-clause-proper
returns-clause-proper c = reads_line c.args.self.now.command (words_view c.args.self.now.options.now) c.args.self.now.reads
