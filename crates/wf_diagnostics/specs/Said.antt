-- What is said of a node: a kind, and the place.
use Rattle.std.specs.Prelude.{Option, Some, None}
use Rattle.wf_ast.specs.Nodes.{Path}
use Rattle.wf_diagnostics.specs.declared.kind.CheckKind.{CheckKind}

-- what is said, and where
pub record Said : Type 0 where
  pub kind : CheckKind
  pub place : Path

-- the kind, where there is a place
abbrev pub as_said : CheckKind → Option Path → Option Said
as_said k None = None
as_said k (Some path) = Some (record { kind = k; place = path })
