use Rattle.wf_ast.specs.View.{template_view}
use Rattle.wf_syntax.proofs.Valued.{text_sound}
use Rattle.wf_syntax.proofs.values.text_value.Goals as goal

pub returns-in-Ok : goal.returns-in-Ok
returns-in-Ok c = (text_sound c.args.text.now (template_view c.in-Ok.template) c.one_template.ensures.apart c.in-Ok.ensures.template, c.in-Ok.ensures.template)
