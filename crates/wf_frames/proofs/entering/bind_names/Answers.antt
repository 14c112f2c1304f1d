use Rattle.wf_frames.proofs.Names.{bound_closed, kept_closed}
use Rattle.wf_scope.specs.Store.{layers_of}
use Rattle.wf_value.specs.Plain.{plain}
use Rattle.wf_frames.proofs.entering.bind_names.Goals as goal

pub returns-in-Some-clause-rest : goal.returns-in-Some-clause-rest
returns-in-Some-clause-rest c =
    kept_closed c.bind-in-Some.result c.args.layer.number (layers_of c.args.scopes.now) (layers_of c.bind.new.self) (layers_of c.bind-in-Some.new.self) c.bind-in-Some.ensures.kept
    (bound_closed c.args.scopes.now.limit c.args.layer.number c.args.name.now (plain c.args.value) (layers_of c.args.scopes.now) (layers_of c.bind.new.self) c.in_ok-bind.ensures.outcome)

pub returns-in-Some-clause-innermost : goal.returns-in-Some-clause-innermost
returns-in-Some-clause-innermost c = c.bind-in-Some.ensures.apart c.args.layer.number (c.in_ok-bind.ensures.apart c.args.layer.number c.requires.innermost)

pub returns-in-None-clause-innermost : goal.returns-in-None-clause-innermost
returns-in-None-clause-innermost c = c.in_ok-bind.ensures.apart c.args.layer.number c.requires.innermost
