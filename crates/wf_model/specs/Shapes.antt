-- The templates that shapes stand for, with the compiled expressions of their node.
use Rattle.std.specs.Prelude.{◌≡◌, ℕ, List, [], ◌∷◌, ◌++◌, map, Option, Some, None, slice_get}
use Rattle.wf_ast.specs.Tree as t
use Rattle.wf_ast.specs.Instrs.{instrs}
use Rattle.wf_ast.specs.Machine.{code}
use Rattle.wf_ast.specs.declared.code.Instr.{Instr}
use Rattle.wf_value.specs.Data.{null}
use Rattle.wf_value.specs.Pairs.{Text}
use Rattle.wf_value.specs.Plain.{plain}
use Rattle.wf_model.specs.Decoded.{decode}
use Rattle.wf_model.specs.declared.shape.NamedShape.{NamedShape}
use Rattle.wf_model.specs.declared.shape.NamedShapes.{NamedShapes, Row_of-NamedShape, end_of-NamedShape, more_of-NamedShape, NamedShapes', out-NamedShapes}
use Rattle.wf_model.specs.declared.shape.Piece.{Piece}
use Rattle.wf_model.specs.declared.shape.Piece.TheVariants as piece
use Rattle.wf_model.specs.declared.shape.Pieces.{Pieces}
use Rattle.wf_model.specs.declared.shape.Shape as s
use Rattle.wf_model.specs.declared.shape.Shape.{Shape, Row_of-Shape, end_of-Shape, more_of-Shape}
use Rattle.wf_model.specs.declared.shape.Shapes.{Shapes}

-- the codes of a node
abbrev pub Compiled : Type 0
Compiled = List (List Instr)

-- ## Holes
-- the expression whose code it is
abbrev pub decoded : List Instr → t.Expr
decoded is = decode (instrs is)

abbrev pub expr_of : Option (List Instr) → t.Expr
expr_of None = t.Expr.Lit null
expr_of (Some is) = decoded is

-- the expression at a place
abbrev pub hole_by : Compiled → ℕ → t.Expr
hole_by cs n = expr_of (slice_get cs n)

-- the code of one expression more
abbrev pub AddsCode : Compiled → Compiled → t.Expr → Type 0
AddsCode old new e = (is : List Instr) × (new ≡ old ++ is ∷ []) × (instrs is ≡ code e)

-- ## Lists
abbrev pub piece_list : Pieces → List Piece
piece_list ps = ps.items.items

abbrev pub shape_list : Shapes → List Shape
shape_list ss = ss.items.items

abbrev pub named_list : NamedShapes → List NamedShape
named_list ns = (out-NamedShapes ns).items.items

-- ## Shapes
abbrev pub piece_by : Compiled → Piece → t.Part
piece_by cs (piece.Text x) = t.Said x
piece_by cs (piece.Hole n) = t.Hole (hole_by cs n)

abbrev mutual
  -- the template of a shape
  pub shape_by : Compiled → Shape → t.Template
  shape_by cs (s.Lit x) = t.Scalar (plain x)
  shape_by cs (s.Hole n) = t.Whole (hole_by cs n)
  shape_by cs (s.Join ps) = t.Joined (map (piece_by cs) (piece_list ps))
  shape_by cs (s.List' shape all) = t.Listed (shape_row cs all)
  shape_by cs (s.Literals ds) = t.Listed (t.templates (map t.Scalar ds))
  shape_by cs (s.Map ns) = t.Mapped (named_in cs ns)

  pub named_in : Compiled → NamedShapes → t.Fields
  named_in cs (NamedShapes' shape all) = named_row cs all

  pub shape_row : {m : _} → Compiled → Row_of-Shape m → t.Templates
  shape_row cs end_of-Shape = t.no_templates
  shape_row cs (more_of-Shape x rest) = t.template (shape_by cs x) (shape_row cs rest)

  pub named_row : {m : _} → Compiled → Row_of-NamedShape m → t.Fields
  named_row cs end_of-NamedShape = t.no_fields
  named_row cs (more_of-NamedShape n x rest) = t.field n (shape_by cs x) (named_row cs rest)

-- the templates of a list
abbrev pub shapes_by : Compiled → Shapes → List t.Template
shapes_by cs ss = map (shape_by cs) (shape_list ss)

-- a key and its template
abbrev pub named_by : Compiled → NamedShape → Text × t.Template
named_by cs n = (n.name, shape_by cs n.shape)

-- the named templates of a list
abbrev pub fields_by : Compiled → NamedShapes → List (Text × t.Template)
fields_by cs ns = map (named_by cs) (named_list ns)
