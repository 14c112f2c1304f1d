use Rattle.std.proofs.Common.{sym, ◌∙◌}
use Rattle.wf_frames.proofs.Seeing.{names_look}
use Rattle.wf_scope.specs.Layers.{chain}
use Rattle.wf_scope.specs.Store.{layers_of}
use Rattle.wf_frames.proofs.sighted.SeenLook.look.Goals as goal

pub returns : goal.returns
returns c = c.look.ensures ∙ sym (names_look c.args.name.now (chain c.args.self.now.layer.number (layers_of c.args.self.now.scopes.now)))
