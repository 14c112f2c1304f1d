use Rattle.std.proofs.Common.{◌∙◌, ap, sym}
use Rattle.std.proofs.lemmas.Str.Pattern.{contains_text}
use Rattle.std.specs.Prelude.{option_copied}
use Rattle.wf_report.proofs.Found.{is_found}
use Rattle.wf_report.proofs.log.is_wanted.Goals as goal
use Rattle.wf_report.specs.Texts.{is_wanted}

pub returns-in-Some : goal.returns-in-Some
returns-in-Some c =
    is_found c.contains.result c.in-Some.text.now c.args.json.now (contains_text c.contains.result c.in-Some.text.now c.args.json.now c.contains.ensures.cases)
    ∙ sym (ap (λ o. is_wanted (option_copied o) c.args.json.now) c.in-Some.is)
