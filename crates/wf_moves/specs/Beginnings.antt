-- Where a branch begins.
use Rattle.std.specs.Prelude.{◌≡◌, ◌<◌, ℕ, List, [], Some, length}
use Rattle.wf_frames.specs.Fits.{list_at, outside_at}
use Rattle.wf_model.specs.NodeKinds.{Listed}
use Rattle.wf_model.specs.Spots.{Spot}
use Rattle.wf_model.specs.declared.node.Node.{Node}

-- the node owns a list with a step, and no jump leads out of it
pub record IsBeginning (ns : List Spot) (nodes : List Node) (n : ℕ) : Type 0 where
  pub list : Listed
  pub at : list_at nodes n ≡ Some list
  pub some : 0 < length list.steps
  pub outside : outside_at ns nodes n ≡ []
