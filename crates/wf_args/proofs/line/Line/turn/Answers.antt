use Rattle.std.proofs.Common.{Some, None, ap, sym, ◌∙◌, ◌≡◌}
use Rattle.std.specs.Option.{option_copied}
use Rattle.std.specs.Prelude.{unwrap_or}
use Rattle.wf_args.specs.Lines.{turn_in, words_view}
use Rattle.wf_args.proofs.Routes.{turn_found}
use Rattle.wf_args.proofs.line.Line.turn.Goals as goal

pub returns-in-Some : goal.returns-in-Some
returns-in-Some c =
    let told : c.unwrap_or.result ≡ unwrap_or (turn_in c.in-Some.word.now) 0 = c.unwrap_or.ensures ∙ ap (λ o. unwrap_or o 0) c.turn_in.ensures in
    told ∙ turn_found c.args.self.now.command (words_view c.args.self.now.options.now) (Some c.in-Some.word.now) (sym (ap option_copied c.in-Some.is) ∙ c.find_in.ensures)

pub returns-in-None : goal.returns-in-None
returns-in-None c =
    turn_found c.args.self.now.command (words_view c.args.self.now.options.now) None (sym (ap option_copied c.in-None.is) ∙ c.find_in.ensures)
