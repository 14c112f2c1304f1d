-- The first expression of a node that fails a test, by the paths of the names that the node reads.
--     failing          in a template
--     part_failing     in what a node reads in its own move
use Rattle.std.specs.Prelude.{ℕ, suc, Bool, true, not, ◌&&◌, codes, Option, None}
use Rattle.std.specs.List.{list_all}
use Rattle.wf_ast.specs.Blocks.{at_if}
use Rattle.wf_ast.specs.Nodes.{Path, NodePart, ArmPart, EntryPart, part_body, below, nth}
use Rattle.wf_ast.specs.Tree.{Expr, Exprs, no_exprs, expr, Part, Said, Hole, Template, Scalar, Whole, Joined, Listed, Mapped, Templates, no_templates, template, Fields, no_fields, field, Over, InList, InRange, Body, LoopBody, loop, parallel, OfLoop}
use Rattle.wf_value.specs.HttpUrl.{first_of_two}

-- each of the expressions passes
abbrev pub are_fine : (Expr → Bool) → Exprs → Bool
are_fine fine no_exprs = true
are_fine fine (expr e es) = fine e && are_fine fine es

-- a part of a joined text passes
abbrev pub is_part_fine : (Expr → Bool) → Part → Bool
is_part_fine fine (Said t) = true
is_part_fine fine (Hole e) = fine e

abbrev mutual
  -- in a template with this path
  pub failing : (Expr → Bool) → Template → Path → Option Path
  failing fine (Scalar v) path = None
  failing fine (Whole e) path = at_if (not (fine e)) path
  failing fine (Joined ps) path = at_if (not (list_all (is_part_fine fine) ps)) path
  failing fine (Listed ts) path = items_failing fine ts path 0
  failing fine (Mapped fs) path = fields_failing fine fs path

  -- in the members of a list, from number i on
  pub items_failing : (Expr → Bool) → Templates → Path → ℕ → Option Path
  items_failing fine no_templates path i = None
  items_failing fine (template t ts) path i = first_of_two (failing fine t (nth path i)) (items_failing fine ts path (suc i))

  -- in the members of a map
  pub fields_failing : (Expr → Bool) → Fields → Path → Option Path
  fields_failing fine no_fields path = None
  fields_failing fine (field k t fs) path = first_of_two (failing fine t (below path k)) (fields_failing fine fs path)

-- in what a loop runs over
abbrev pub over_failing : (Expr → Bool) → Over → Path → Option Path
over_failing fine (InList t) path = failing fine t (below path (codes "in"))
over_failing fine (InRange t u) path = first_of_two (failing fine t (nth (below path (codes "range")) 0)) (failing fine u (nth (below path (codes "range")) 1))

-- in what a loop reads before its first step
abbrev pub loop_failing : (Expr → Bool) → LoopBody → Path → Option Path
loop_failing fine (loop x i o ss) path = over_failing fine o path

-- in what a body reads in its own move
abbrev pub body_failing : (Expr → Bool) → Body → Path → Option Path
body_failing fine (Body.Call f) path = fields_failing fine f.args (below path (codes "args"))
body_failing fine (Body.For l) path = loop_failing fine l (below path (codes "for"))
body_failing fine (Body.Parallel (parallel shared limit (OfLoop l))) path = loop_failing fine l (below (below path (codes "parallel")) (codes "for"))
body_failing fine (Body.Raise t) path = failing fine t (below path (codes "raise"))
body_failing fine (Body.Return t) path = failing fine t (below path (codes "return"))
body_failing fine body path = None

-- in what a node reads: of an entry the places come before the value
abbrev pub part_failing : (Expr → Bool) → NodePart → Path → Option Path
part_failing fine (EntryPart e) path = first_of_two (at_if (not (are_fine fine e.target.places)) path) (failing fine e.value path)
part_failing fine (ArmPart t next) path = failing fine t (below path (codes "condition"))
part_failing fine part path = body_failing fine (part_body part) path
