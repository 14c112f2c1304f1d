-- Where a task stands: its frames fit the table, and its layers stand in the store.
use Rattle.std.specs.Prelude.{List}
use Rattle.wf_frames.specs.Fits.{Fits}
use Rattle.wf_frames.specs.Frames.{inner}
use Rattle.wf_frames.specs.Owned.{Around, IsLinked, own_of}
use Rattle.wf_frames.specs.declared.frames.Frames.{Frames}
use Rattle.wf_scope.specs.declared.scopes.Scopes.{Scopes}
use Rattle.wf_model.specs.declared.node.Node.{Node}

pub record Stands (a : Around) (nodes : List Node) (fs : Frames) (x : Scopes) : Type 0 where
  pub fits : Fits a.spots nodes (inner fs)
  pub linked : IsLinked a (own_of fs) x
