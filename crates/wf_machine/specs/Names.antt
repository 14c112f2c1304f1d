-- Names that lead somewhere, node by node.
--     NodeLeads       what a node calls or asks may be called
--     is_log_named    a function is the log
use Rattle.std.specs.Prelude.{◌≡◌, Bool, true, false, List, Some, None, Option, IsTrue, is_some}
use Rattle.wf_ast.specs.Flows.{flow}
use Rattle.wf_ast.specs.Func.{Special, SpecialListing, SysLog}
use Rattle.wf_ast.specs.Tree.{Flow}
use Rattle.wf_ast.specs.declared.policy.Policy.{Policy}
use Rattle.wf_ast.specs.declared.policy.Predicate.TheVariants as predicate
use Rattle.wf_check.specs.Callable.{is_callable}
use Rattle.wf_model.specs.declared.node.CallNode.{CallNode}
use Rattle.wf_model.specs.declared.node.Node.{Node}
use Rattle.wf_model.specs.declared.node.NodeKind.TheVariants as kind
use Rattle.wf_model.specs.declared.node.TryNode.{TryNode}
use Rattle.wf_value.specs.Pairs.{Text}

-- the workflow that a policy asks, if it asks one, may be called
abbrev pub PolicyLeads : List Flow → Option Policy → Type 0
PolicyLeads fs o = (p : Policy) (f : Text) → o ≡ Some p → p.predicate ≡ predicate.Flow f → IsTrue (is_some (flow fs f))

-- what a node calls or asks may be called
pub record NodeLeads (fs : List Flow) (x : Node) : Type 0 where
  pub call : (f : CallNode) → x.kind ≡ kind.Call f → IsTrue (is_callable fs f.name)
  pub ask : (t : TryNode) → x.kind ≡ kind.Try t → PolicyLeads fs t.policy

-- the function of call steps is the log
abbrev pub is_log_listed : Special → Bool
is_log_listed SysLog = true
is_log_listed s = false

abbrev pub is_log_named : Option SpecialListing → Bool
is_log_named None = false
is_log_named (Some g) = is_log_listed g.special
