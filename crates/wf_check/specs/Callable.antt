-- What the calls of a checked program lead to.
--     is_callable     a workflow that may be called has the name, or a function that is built
--     CallsLead       the calls of a table have such names, and its predicates are workflows
use Rattle.std.specs.Prelude.{◌≡◌, ℕ, Bool, true, not, ◌&&◌, ◌||◌, List, Option, Some, None, IsTrue, is_some, slice_get}
use Rattle.wf_ast.specs.Accept.{call_of, no_flow, predicate_of}
use Rattle.wf_ast.specs.Flows.{flow}
use Rattle.wf_ast.specs.Func.{func_named, special_named}
use Rattle.wf_ast.specs.Tree.{Body, CallBody, Flow}
use Rattle.wf_ast.specs.declared.policy.Policy.{Policy}
use Rattle.wf_ast.specs.declared.policy.Predicate.TheVariants as predicate
use Rattle.wf_check_expressions.specs.Forms.{is_built}
use Rattle.wf_model.specs.declared.node.CallNode.{CallNode}
use Rattle.wf_model.specs.declared.node.Node.{Node}
use Rattle.wf_model.specs.declared.node.NodeKind.TheVariants as kind
use Rattle.wf_model.specs.declared.node.TryNode.{TryNode}
use Rattle.wf_value.specs.Pairs.{Text}

-- a workflow that may be called has the name, or a function of expressions, or one that only steps may call and that is built
abbrev pub is_callable : List Flow → Text → Bool
is_callable fs x = is_some (flow fs x) || (is_some (func_named x) || is_built (special_named x))

abbrev pub is_call_callable : List Flow → Option CallBody → Bool
is_call_callable fs None = true
is_call_callable fs (Some f) = is_callable fs f.name

-- the body, if it is a call, calls such a name, and asks only a workflow that may be called
abbrev pub is_body_callable : List Flow → Body → Bool
is_body_callable fs body = is_call_callable fs (call_of body) && not (no_flow fs (predicate_of body))

-- of a table of a program with these workflows
pub record CallsLead (fs : List Flow) (nodes : List Node) : Type 0 where
  -- each call names what may be called
  pub calls : (i : ℕ) (x : Node) (f : CallNode) → slice_get nodes i ≡ Some x → x.kind ≡ kind.Call f → IsTrue (is_callable fs f.name)
  -- and each predicate that is a workflow's name names one that may be called
  pub asks : (i : ℕ) (x : Node) (t : TryNode) (p : Policy) (f : Text) → slice_get nodes i ≡ Some x → x.kind ≡ kind.Try t → t.policy ≡ Some p → p.predicate ≡ predicate.Flow f
      → IsTrue (is_some (flow fs f))
