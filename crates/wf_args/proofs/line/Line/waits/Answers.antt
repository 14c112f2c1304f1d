use Rattle.std.proofs.Common.{Some, None, ap, sym, ◌∙◌, ◌≡◌, ◌≤◌, subst}
use Rattle.std.specs.Option.{option_copied}
use Rattle.std.specs.Prelude.{unwrap_or}
use Rattle.wf_args.specs.Lines.{waits_in, words_view}
use Rattle.wf_args.proofs.Routes.{waits_found, waits_within}
use Rattle.wf_args.proofs.line.Line.waits.Goals as goal

pub returns-in-Some-clause-waits : goal.returns-in-Some-clause-waits
returns-in-Some-clause-waits c =
    let told : c.unwrap_or.result ≡ unwrap_or (waits_in c.in-Some.word.now) 1000000 = c.unwrap_or.ensures ∙ ap (λ o. unwrap_or o 1000000) c.waits_in.ensures in
    told ∙ waits_found c.args.self.now.command (words_view c.args.self.now.options.now) (Some c.in-Some.word.now) (sym (ap option_copied c.in-Some.is) ∙ c.find_in.ensures)

pub returns-in-Some-clause-within : goal.returns-in-Some-clause-within
returns-in-Some-clause-within c =
    let told : c.unwrap_or.result ≡ unwrap_or (waits_in c.in-Some.word.now) 1000000 = c.unwrap_or.ensures ∙ ap (λ o. unwrap_or o 1000000) c.waits_in.ensures in
    subst (λ n. (1 ≤ n) × (n ≤ 1000000000)) (sym told) (waits_within (Some c.in-Some.word.now))

pub returns-in-None-clause-waits : goal.returns-in-None-clause-waits
returns-in-None-clause-waits c =
    waits_found c.args.self.now.command (words_view c.args.self.now.options.now) None (sym (ap option_copied c.in-None.is) ∙ c.find_in.ensures)
