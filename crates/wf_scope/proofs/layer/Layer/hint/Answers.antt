use Rattle.wf_scope.proofs.Named.{none_has}
use Rattle.wf_scope.proofs.layer.Layer.hint.Goals as goal

pub returns : goal.returns
returns c = λ none. none_has c.args.self.now.firsts.hints c.args.self.now.vars.items c.args.class c.args.self.now.covering none
