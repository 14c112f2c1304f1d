use Rattle.std.proofs.Common.{map, sym, ◌∙◌}
use Rattle.wf_frames.specs.Frames.{inner}
use Rattle.wf_frames.specs.Owned.{own_of}
use Rattle.wf_frames.proofs.Seeing.{innermost_live}
use Rattle.wf_frames.proofs.Storing.{answers_same, assigned_linked, refused_is, same_linked, writes_done, writes_refused}
use Rattle.wf_scope.specs.Changes.{assigned}
use Rattle.wf_scope.specs.Places.{key_data}
use Rattle.wf_scope.specs.Store.{layers_of}
use Rattle.wf_value.specs.Plain.{plain}
use Rattle.wf_frames.proofs.writing.put.Goals as goal

pub assign-requires : goal.assign-requires
assign-requires g c = innermost_live g.around c.args.frames.now.first (inner c.args.frames.now) c.args.scopes.now c.layer.result.number c.requires c.layer.ensures

pub returns-in-Ok-clause-written : goal.returns-in-Ok-clause-written
returns-in-Ok-clause-written g c s agrees =
    let x = c.args.scopes.now in
    let name = c.args.name.now in
    let keys = map key_data c.args.path.now in
    writes_done g.around (own_of c.args.frames.now) (layers_of x) (layers_of c.assign.new.self) s (assigned x.limit c.layer.result.number name keys (plain c.args.value) (layers_of x)) name keys (plain c.args.value) c.in-Ok.ensures.outcome
    (answers_same g.around c.args.frames.now.first (inner c.args.frames.now) x c.layer.result.number s x.standing c.requires c.layer.ensures agrees.0 agrees.1 name keys (plain c.args.value))

pub returns-in-Ok-clause-linked : goal.returns-in-Ok-clause-linked
returns-in-Ok-clause-linked g c =
    let x = c.args.scopes.now in
    assigned_linked g.around c.args.frames.now.first (inner c.args.frames.now) x c.assign.new.self x.limit c.layer.result.number c.args.name.now (map key_data c.args.path.now) (plain c.args.value) x.standing c.requires c.layer.ensures c.in-Ok.ensures.outcome c.in-Ok.ensures.limit

pub returns-in-Error-clause-written : goal.returns-in-Error-clause-written
returns-in-Error-clause-written g c s agrees =
    let x = c.args.scopes.now in
    let name = c.args.name.now in
    let keys = map key_data c.args.path.now in
    let r = assigned x.limit c.layer.result.number name keys (plain c.args.value) (layers_of x) in
    let raised = sym c.raise.ensures ∙ c.in-Error.is in
    writes_refused g.around (own_of c.args.frames.now) (layers_of x) (layers_of c.assign.new.self) s r c.in-Err.fault c.in-Error.tag name keys (plain c.args.value)
    (refused_is c.in-Err.fault c.in-Error.tag (layers_of c.assign.new.self) r raised c.in-Err.ensures.outcome) raised c.in-Err.ensures.kept
    (answers_same g.around c.args.frames.now.first (inner c.args.frames.now) x c.layer.result.number s x.standing c.requires c.layer.ensures agrees.0 agrees.1 name keys (plain c.args.value))

pub returns-in-Error-clause-linked : goal.returns-in-Error-clause-linked
returns-in-Error-clause-linked g c = same_linked g.around (own_of c.args.frames.now) c.args.scopes.now c.assign.new.self c.requires c.in-Err.ensures.kept c.in-Err.ensures.limit
