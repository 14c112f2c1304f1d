-- The plain data that a node is: what it is, with its templates whole and its parts by their numbers.
use Rattle.std.specs.Prelude.{ℕ, Bool, true, false, List, map, take, Option, Some, None}
use Rattle.wf_ast.specs.Tree as Tree
use Rattle.wf_ast.specs.Tree.{CallBody, Over, InList, InRange, Param, Policy, Template, exprs, fields}
use Rattle.wf_ast.specs.View.{params_view, policy_option_view, texts_view}
use Rattle.wf_value.specs.Pairs.{Text}
use Rattle.wf_model.specs.Shapes.{Compiled, decoded, fields_by, shape_by}
use Rattle.wf_model.specs.declared.node.Block.{Block as StepBlock}
use Rattle.wf_model.specs.declared.node.CallNode.{CallNode}
use Rattle.wf_model.specs.declared.node.EntryNode.{EntryNode}
use Rattle.wf_model.specs.declared.node.ExceptNode.{ExceptNode}
use Rattle.wf_model.specs.declared.node.LoopNode.{LoopNode}
use Rattle.wf_model.specs.declared.node.Node.{Node}
use Rattle.wf_model.specs.declared.node.NodeKind.{NodeKind}
use Rattle.wf_model.specs.declared.node.NodeKind.TheVariants as kind
use Rattle.wf_model.specs.declared.node.OverShape.{OverShape}
use Rattle.wf_model.specs.declared.node.OverShape.TheVariants as over
use Rattle.wf_model.specs.declared.node.WorkNode.{WorkNode}
use Rattle.wf_model.specs.declared.node.WorkNode.TheVariants as work

-- a list of steps by their numbers, and how many lists a jump from inside it may reach
pub record Listed : Type 0 where
  pub steps : List ℕ
  pub depth : ℕ

abbrev pub listed : List ℕ → ℕ → Listed
listed numbers depth = record { steps = numbers; depth = depth }

-- a loop
pub record Repeated : Type 0 where
  pub value : Text
  pub index : Option Text
  pub over : Over
  pub steps : Listed

-- what runs in parallel
pub data Side : Type 0 where
  Branches : List ℕ → Side
  Iterations : Repeated → Side

-- the steps that take an error
pub record Handler : Type 0 where
  pub name : Text
  pub steps : Listed

pub data Kind : Type 0 where
  Flow : List Param → Listed → Kind
  Nothing : Kind
  Assign : List ℕ → Kind
  Call : CallBody → Kind
  Switch : List ℕ → Kind
  For : Repeated → Kind
  Parallel : (shared : List Text) → (limit : Option ℕ) → Side → Kind
  Block : Listed → Kind
  Try : (body : ℕ) → (policy : Option Policy) → Option Handler → Kind
  Raise : Template → Kind
  Return : Template → Kind
  Arm : Template → Kind
  Entry : Tree.Entry → Kind
  Branch : Listed → Kind

-- ## Of nodes
abbrev pub block_view : StepBlock → Listed
block_view b = listed b.steps.items b.depth

abbrev pub over_by : Compiled → OverShape → Over
over_by cs (over.List x) = InList (shape_by cs x)
over_by cs (over.Range x y) = InRange (shape_by cs x) (shape_by cs y)

abbrev pub loop_by : Compiled → LoopNode → Repeated
loop_by cs l = record { value = l.value; index = l.index; over = over_by cs l.over; steps = block_view l.block }

abbrev pub call_by : Compiled → CallNode → CallBody
call_by cs f = record { name = f.name; args = fields (fields_by cs f.args); result = f.result }

abbrev pub side_by : Compiled → WorkNode → Side
side_by cs (work.Branches v) = Branches v.items
side_by cs (work.Loop l) = Iterations (loop_by cs l)

abbrev pub handler_view : Option ExceptNode → Option Handler
handler_view None = None
handler_view (Some x) = Some (record { name = x.name; steps = block_view x.block })

abbrev pub entry_by : Compiled → EntryNode → Tree.Entry
entry_by cs e = record {
  target = record { name = e.name; places = exprs (map decoded (take e.places cs)); written = e.text };
  value = shape_by cs e.value;
}

abbrev pub kind_by : Compiled → NodeKind → Kind
kind_by cs (kind.Flow f) = Flow (params_view f.params) (block_view f.block)
kind_by cs kind.Nothing = Nothing
kind_by cs (kind.Assign v) = Assign v.items
kind_by cs (kind.Call f) = Call (call_by cs f)
kind_by cs (kind.Switch v) = Switch v.items
kind_by cs (kind.For l) = For (loop_by cs l)
kind_by cs (kind.Parallel p) = Parallel (texts_view p.shared) p.limit (side_by cs p.work)
kind_by cs (kind.Block b) = Block (block_view b)
kind_by cs (kind.Try t) = Try t.body (policy_option_view t.policy) (handler_view t.except)
kind_by cs (kind.Raise x) = Raise (shape_by cs x)
kind_by cs (kind.Return x) = Return (shape_by cs x)
kind_by cs (kind.Arm x) = Arm (shape_by cs x)
kind_by cs (kind.Entry e) = Entry (entry_by cs e)
kind_by cs (kind.Branch b) = Branch (block_view b)

-- whether a jump leads out of the list that a node of this kind owns
abbrev pub is_left : Kind → Bool
is_left (Block b) = true
is_left (Try n policy x) = true
is_left k = false

-- a node but for where it jumps
pub record View : Type 0 where
  pub kind : Kind
  pub name : Text
  pub next : Option Text
  pub owner : Option ℕ

abbrev pub node_view : Node → View
node_view x = record { kind = kind_by x.codes.items.items x.kind; name = x.name; next = x.next; owner = x.owner }
