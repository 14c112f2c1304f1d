use Rattle.std.proofs.Common.{◌∷◌, sym, ◌∙◌, ap}
use Rattle.wf_syntax_words.proofs.Marks.{still_marked}
use Rattle.wf_syntax_words.proofs.names.unmarked.Goals as goal

pub returns-in-None-strip_suffix : goal.returns-in-None-strip_suffix
returns-in-None-strip_suffix c =
    let front = c.in-Some.ensures.cases in
    still_marked c.args.text.now c.in-Some.opened.now (front.1.1 ∙ ap (λ l. 36 ∷ 123 ∷ l) (sym front.2)) c.in-None-strip_suffix.ensures.cases
