-- The forms of steps: what the maps and lists of steps are, and the parts of a body before its form is taken.
use Rattle.std.specs.Prelude.{◌≡◌, ◌+◌, List, [], ◌∷◌, ◌++◌, Option, Some, None, option_map, codes}
use Rattle.wf_ast.specs.Tree as t
use Rattle.wf_ast.specs.Tree.{fields as fields_of, no_fields}
use Rattle.wf_ast.specs.View.{arms_in, body_view, entries_view, except_option_view, fields_view, loop_view, policy_option_view, steps_in, template_view, texts_view, work_view}
use Rattle.wf_ast.specs.declared.body.Body.{Body}
use Rattle.wf_ast.specs.declared.body.Except.{Except}
use Rattle.wf_ast.specs.declared.body.ParallelBody.{ParallelBody}
use Rattle.wf_ast.specs.declared.policy.Policy.{Policy}
use Rattle.wf_ast.specs.declared.template.Template.{Template}
use Rattle.wf_syntax_rules.specs.Meaning.{AreArguments, AreEntries, AreSteps, ArmsIn, At, BranchesIn, Else, IsBody, IsExcept, IsLoop, IsParallel, IsPolicy, IsText, IsTried, IsValue, Maybe, OfList, OfMap, OfSingle, StepsIn}
use Rattle.wf_syntax_rules.specs.Rules as rules
use Rattle.wf_syntax_rules.specs.Rules.{Role, Sub, at}
use Rattle.wf_syntax.specs.declared.parts.BlockParts.{BlockParts}
use Rattle.wf_syntax.specs.declared.parts.CallParts.{CallParts}
use Rattle.wf_syntax.specs.declared.parts.LoopParts.{LoopParts}
use Rattle.wf_syntax.specs.declared.parts.Parts.{Parts}
use Rattle.wf_syntax.specs.declared.parts.ValueParts.{ValueParts}
use Rattle.wf_tree.specs.Trees.{Tree, Pairs}
use Rattle.wf_value.specs.Pairs.{Text}

-- ## Trees of steps
-- what a step does, and where it goes on
abbrev pub IsStepBody : t.Body → Option Text → Tree → Type 0
IsStepBody b next x = OfMap x (λ fs. IsBody b fs × Maybe next (codes "next") fs IsText)

abbrev pub IsArm : t.Template × t.Body × Option Text → Tree → Type 0
IsArm a x = OfMap x (λ fs. At (codes "condition") fs (IsValue a.0) × IsBody a.1 fs × Maybe a.2 (codes "next") fs IsText)

abbrev pub AreArms : t.Arms → Tree → Type 0
AreArms arms x = OfList x (λ xs. ArmsIn arms xs)

abbrev pub IsLoopMap : t.LoopBody → Tree → Type 0
IsLoopMap l x = OfMap x (λ fs. IsLoop l fs)

-- what a loop runs over: the range, where it is there, or else the list
abbrev pub over_of : Option t.Template → Option (t.Template × t.Template) → Option t.Over
over_of v (Some r) = Some (t.InRange r.0 r.1)
over_of (Some v) None = Some (t.InList v)
over_of None None = None

-- a loop of its parts, where those are there that must be
abbrev pub loop_of : Option t.Over → Option Text → Option t.Steps → Option Text → Option t.LoopBody
loop_of (Some over) index (Some ss) (Some value) = Some (t.loop value index over ss)
loop_of over index ss value = None

-- what runs in parallel: the loop, where it is there, or else the branches
abbrev pub work_of : Option t.Branches → Option t.LoopBody → Option t.Work
work_of bs (Some l) = Some (t.OfLoop l)
work_of (Some bs) None = Some (t.OfBranches bs)
work_of None None = None

abbrev pub parallel_view : ParallelBody → t.ParallelBody
parallel_view p = t.parallel (texts_view p.shared) p.limit (work_view p.work)

abbrev pub IsParallelMap : t.ParallelBody → Tree → Type 0
IsParallelMap p x = OfMap x (λ fs. IsParallel p fs)

-- the ends of a range
abbrev pub ends_view : Template × Template → t.Template × t.Template
ends_view r = (template_view r.0, template_view r.1)

-- a map of steps alone
abbrev pub IsBlock : t.Steps → Tree → Type 0
IsBlock ss x = OfMap x (λ fs. At (codes "steps") fs (λ y. OfList y (λ ys. StepsIn ss ys)))

abbrev pub IsBranch : Text × t.Steps → Tree → Type 0
IsBranch b x = OfSingle x (λ k y. (b.0 ≡ k) × IsBlock b.1 y)

abbrev pub AreBranches : t.Branches → Tree → Type 0
AreBranches bs x = OfList x (λ xs. BranchesIn bs xs)

abbrev pub IsTriedMap : t.Body → Tree → Type 0
IsTriedMap b x = OfMap x (λ fs. IsTried b fs)

abbrev pub IsHandler : t.Except → Tree → Type 0
IsHandler t.no_except x = ⊥
IsHandler (t.except k ss) x = OfMap x (λ fs. At (codes "as") fs (IsText k) × At (codes "steps") fs (λ y. OfList y (λ ys. StepsIn ss ys)))

-- ## Fields in a row
-- the fields at some keys after other parts, grouped as the rules group them
abbrev pub row_after : List Sub → Pairs → List (Text × Role) → List Sub
row_after ss fs [] = ss
row_after ss fs (k ∷ ks) = row_after (ss ++ at k.0 k.1 fs) fs ks

abbrev pub row : Pairs → List (Text × Role) → List Sub
row fs [] = []
row fs (k ∷ ks) = row_after (at k.0 k.1 fs) fs ks

-- the keys of a body in four groups, in their order
abbrev pub call_part_keys : List (Text × Role)
call_part_keys =
    (codes "args", rules.Arguments) ∷ (codes "assign", rules.Entries) ∷ (codes "call", rules.AnyText)
    ∷ (codes "condition", rules.Value) ∷ []

abbrev pub loop_part_keys : List (Text × Role)
loop_part_keys =
    (codes "except", rules.Except) ∷ (codes "for", rules.Loop) ∷ (codes "next", rules.AnyText)
    ∷ (codes "parallel", rules.Parallel) ∷ []

abbrev pub value_part_keys : List (Text × Role)
value_part_keys =
    (codes "raise", rules.Value) ∷ (codes "result", rules.VariableName) ∷ (codes "retry", rules.Retry)
    ∷ (codes "return", rules.Value) ∷ []

abbrev pub block_part_keys : List (Text × Role)
block_part_keys =
    (codes "steps", rules.Steps) ∷ (codes "switch", rules.Arms) ∷ (codes "try", rules.Try) ∷ []

-- ## The parts of a body
-- each field of all forms, as it is built
pub record AreCallParts (p : CallParts) (fs : Pairs) : Type 0 where
  pub args : Else (fields_of (fields_view p.args)) no_fields (codes "args") fs AreArguments
  pub assign : Maybe (option_map entries_view p.assign) (codes "assign") fs AreEntries
  pub call : Maybe p.call (codes "call") fs IsText
  pub condition : Maybe (option_map template_view p.condition) (codes "condition") fs IsValue

pub record AreLoopParts (p : LoopParts) (fs : Pairs) : Type 0 where
  pub except : IsExcept (except_option_view p.except) fs
  pub repeated : Maybe (option_map loop_view p.repeated) (codes "for") fs IsLoopMap
  pub next : Maybe p.next (codes "next") fs IsText
  pub parallel : Maybe (option_map parallel_view p.parallel) (codes "parallel") fs IsParallelMap

pub record AreValueParts (p : ValueParts) (fs : Pairs) : Type 0 where
  pub raised : Maybe (option_map template_view p.raised) (codes "raise") fs IsValue
  pub result : Maybe p.result (codes "result") fs IsText
  pub retry : Maybe (policy_option_view p.retry) (codes "retry") fs IsPolicy
  pub returned : Maybe (option_map template_view p.returned) (codes "return") fs IsValue

pub record AreBlockParts (p : BlockParts) (fs : Pairs) : Type 0 where
  pub steps : Maybe (option_map steps_in p.steps) (codes "steps") fs AreSteps
  pub switch : Maybe (option_map arms_in p.switch) (codes "switch") fs AreArms
  pub tried : Maybe (option_map body_view p.tried) (codes "try") fs IsTriedMap

pub record ArePartsOf (p : Parts) (fs : Pairs) : Type 0 where
  pub calls : AreCallParts p.calls fs
  pub loops : AreLoopParts p.loops fs
  pub values : AreValueParts p.values fs
  pub blocks : AreBlockParts p.blocks fs

-- ## The first form that is there
abbrev pub first_of : Option t.Body → t.Body → t.Body
first_of (Some b) c = b
first_of None c = c

abbrev pub either : Option t.Body → Option t.Body → Option t.Body
either (Some b) o = Some b
either None o = o

-- assignments, or a call, whose result is stored under a name where there is one
abbrev pub call_of : CallParts → Option Text → Text → t.CallBody
call_of p stored name = record { name = name; args = fields_of (fields_view p.args); result = stored }

abbrev pub call_form : CallParts → Option Text → Option t.Body
call_form p stored =
    either (option_map (λ es. t.Body.Assign (entries_view es)) p.assign)
    (option_map (λ name. t.Body.Call (call_of p stored name)) p.call)

abbrev pub loop_form : LoopParts → Option t.Body
loop_form p =
    either (option_map (λ l. t.Body.For (loop_view l)) p.repeated)
    (option_map (λ b. t.Body.Parallel (parallel_view b)) p.parallel)

abbrev pub value_form : ValueParts → Option t.Body
value_form p =
    either (option_map (λ v. t.Body.Raise (template_view v)) p.raised)
    (option_map (λ v. t.Body.Return (template_view v)) p.returned)

-- a `try`, or nothing where there is no body to try
abbrev pub try_of : Option Policy → Option Except → Body → t.Body
try_of policy held b = t.Body.Try (t.try (body_view b) (policy_option_view policy) (except_option_view held))

abbrev pub try_form : Option Body → Option Policy → Option Except → t.Body
try_form tried policy held = first_of (option_map (λ b. try_of policy held b) tried) t.Body.Nothing

abbrev pub block_form : BlockParts → Option Policy → Option Except → t.Body
block_form p policy held =
    first_of (option_map (λ ss. t.Body.Block (steps_in ss)) p.steps)
    (first_of (option_map (λ arms. t.Body.Switch (arms_in arms)) p.switch) (try_form p.tried policy held))

abbrev pub body_of : Parts → t.Body
body_of p =
    first_of (call_form p.calls p.values.result) (first_of (loop_form p.loops)
    (first_of (value_form p.values) (block_form p.blocks p.values.retry p.loops.except)))
