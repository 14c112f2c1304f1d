-- What a line of the program stands for, a route, and a pair of the environment.
use Rattle.std.specs.Prelude.{ℕ, List}
use Rattle.wf_args.specs.declared.env.EnvParts.{EnvParts}
use Rattle.wf_args.specs.declared.line.Line.{Line}
use Rattle.wf_args.specs.declared.route.RouteParts.{RouteParts}
use Rattle.wf_args.specs.Lines.{PlainLine, PlainRoute, words_view, options_in}

abbrev pub plain_line : Line → PlainLine
plain_line l = record { command = l.command; options = options_in (words_view l.options.now) }

abbrev pub plain_route : RouteParts → PlainRoute
plain_route r = record { host = r.host.now; name = r.name.now; port = r.port }

abbrev pub plain_env : EnvParts → List ℕ × List ℕ
plain_env p = (p.key.now, p.value.now)
