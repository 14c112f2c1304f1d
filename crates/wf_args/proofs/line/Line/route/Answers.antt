use Rattle.std.proofs.Common.{Some, None, ap, sym, ◌∙◌}
use Rattle.std.specs.Option.{option_copied}
use Rattle.wf_args.specs.Lines.{words_view}
use Rattle.wf_args.proofs.Routes.{line_has_few, nth_route, read_is_route}
use Rattle.wf_args.proofs.line.Line.route.Goals as goal

pub returns-in-Some-clause-route : goal.returns-in-Some-clause-route
returns-in-Some-clause-route c =
    c.route_in.ensures
    ∙ nth_route c.args.self.now.command (words_view c.args.self.now.options.now) c.args.index (Some c.in-Some.word.now) c.args.self.now.reads (sym (ap option_copied c.in-Some.is) ∙ c.find_nth.ensures)

pub returns-in-Some-clause-proper : goal.returns-in-Some-clause-proper
returns-in-Some-clause-proper c = read_is_route c.in-Some.word.now c.route_in.result c.route_in.ensures

pub returns-in-Some-clause-few : goal.returns-in-Some-clause-few
returns-in-Some-clause-few c = line_has_few c.args.self.now.command (words_view c.args.self.now.options.now) c.args.self.now.reads

pub returns-in-None-clause-route : goal.returns-in-None-clause-route
returns-in-None-clause-route c =
    nth_route c.args.self.now.command (words_view c.args.self.now.options.now) c.args.index None c.args.self.now.reads (sym (ap option_copied c.in-None.is) ∙ c.find_nth.ensures)

pub returns-in-None-clause-few : goal.returns-in-None-clause-few
returns-in-None-clause-few c = line_has_few c.args.self.now.command (words_view c.args.self.now.options.now) c.args.self.now.reads
