use Rattle.std.proofs.Common.{Some, None, ap, sym, ◌∙◌}
use Rattle.std.specs.Option.{option_copied}
use Rattle.wf_args.specs.Lines.{words_view}
use Rattle.wf_args.proofs.Routes.{line_has_few_env, nth_env, read_is_env}
use Rattle.wf_args.proofs.line.Line.env.Goals as goal

pub returns-in-Some-clause-env : goal.returns-in-Some-clause-env
returns-in-Some-clause-env c =
    c.env_in.ensures
    ∙ nth_env c.args.self.now.command (words_view c.args.self.now.options.now) c.args.index (Some c.in-Some.word.now) c.args.self.now.reads (sym (ap option_copied c.in-Some.is) ∙ c.find_nth.ensures)

pub returns-in-Some-clause-proper : goal.returns-in-Some-clause-proper
returns-in-Some-clause-proper c = read_is_env c.in-Some.word.now c.env_in.result c.env_in.ensures

pub returns-in-Some-clause-few : goal.returns-in-Some-clause-few
returns-in-Some-clause-few c = line_has_few_env c.args.self.now.command (words_view c.args.self.now.options.now) c.args.self.now.reads

pub returns-in-None-clause-env : goal.returns-in-None-clause-env
returns-in-None-clause-env c =
    nth_env c.args.self.now.command (words_view c.args.self.now.options.now) c.args.index None c.args.self.now.reads (sym (ap option_copied c.in-None.is) ∙ c.find_nth.ensures)

pub returns-in-None-clause-few : goal.returns-in-None-clause-few
returns-in-None-clause-few c = line_has_few_env c.args.self.now.command (words_view c.args.self.now.options.now) c.args.self.now.reads
