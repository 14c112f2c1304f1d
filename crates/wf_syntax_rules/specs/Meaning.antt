-- Which program a source's tree is.
--     Builds     a tree is this program: it has no fault, and each part of the program is that of its place in the tree
use Rattle.std.specs.Prelude.{◌≡◌, ℕ, List, [], ◌∷◌, Option, Some, None, if◌then◌else◌, codes, bytes_eq}
use Rattle.wf_ast.specs.Tree as t
use Rattle.wf_ast.specs.Tree.{Template, Scalar, Listed, Mapped, Templates, no_templates, template, Fields, no_fields, field as named}
use Rattle.wf_expr.specs.Targets.{IsTarget}
use Rattle.wf_syntax_rules.specs.Faults.{IsSound, rooted}
use Rattle.wf_syntax_words.specs.Names.{unmarked}
use Rattle.wf_syntax_words.specs.Numbers.{thousandths, whole_within}
use Rattle.wf_syntax_rules.specs.Rules.{Flows}
use Rattle.wf_syntax_words.specs.Fields.{field, form_names}
use Rattle.wf_expr.specs.Texts.{IsTemplateOf}
use Rattle.wf_tree.specs.Trees.{Tree, null, boolean, integer, text, list, map, Items, no_items, item, Pairs, no_pairs, pair}
use Rattle.wf_value.specs.Data as values
use Rattle.wf_value.specs.Pairs.{Text}
use Rattle.wf_value.specs.declared.Backoff.{Backoff}
use Rattle.wf_value.specs.declared.DefaultKind.{DefaultKind}
use Rattle.wf_value.specs.declared.DefaultKind.TheVariants.{Idempotent, NonIdempotent}

-- ## Kinds of trees
abbrev pub OfList : Tree → (Items → Type 0) → Type 0
OfList (list xs) Is = Is xs
OfList x Is = ⊥

abbrev pub OfMap : Tree → (Pairs → Type 0) → Type 0
OfMap (map fs) Is = Is fs
OfMap x Is = ⊥

-- a map of one
abbrev pub OfSingle : Tree → (Text → Tree → Type 0) → Type 0
OfSingle (map (pair k x no_pairs)) Is = Is k x
OfSingle x Is = ⊥

-- ## Fields
-- the tree at a key
abbrev pub At : Text → Pairs → (Tree → Type 0) → Type 0
At k fs Is = (x : Tree) × (field k fs ≡ Some x) × Is x

-- a part that is there exactly where its field is
abbrev pub Maybe : {A : Type 0} → Option A → Text → Pairs → (A → Tree → Type 0) → Type 0
Maybe None k fs Is = field k fs ≡ None
Maybe (Some a) k fs Is = At k fs (Is a)

abbrev pub ElseBy : {A : Type 0} → Option Tree → A → A → (A → Tree → Type 0) → Type 0
ElseBy None a default Is = a ≡ default
ElseBy (Some x) a default Is = Is a x

-- a part with a default where its field isn't there
abbrev pub Else : {A : Type 0} → A → A → Text → Pairs → (A → Tree → Type 0) → Type 0
Else a default k fs Is = ElseBy (field k fs) a default Is

-- each item in its place
abbrev pub Each : {A : Type 0} → (A → Tree → Type 0) → List A → Items → Type 0
Each Is [] no_items = Unit {0}
Each Is (a ∷ all) (item x xs) = Is a x × Each Is all xs
Each Is all xs = ⊥

abbrev pub IsText : Text → Tree → Type 0
IsText s x = x ≡ text s

abbrev pub AreTexts : List Text → Tree → Type 0
AreTexts ss (list xs) = Each IsText ss xs
AreTexts ss x = ⊥

-- ## Values
abbrev mutual
  -- a value with expressions in it
  pub IsValue : Template → Tree → Type 0
  IsValue v (text s) = IsTemplateOf s v
  IsValue (Scalar d) null = d ≡ values.null
  IsValue (Scalar d) (boolean b) = d ≡ values.boolean b
  IsValue (Scalar d) (integer n) = d ≡ values.integer n
  IsValue (Listed vs) (list xs) = AreValues vs xs
  IsValue (Mapped fs) (map ps) = AreNamed fs ps
  IsValue v x = ⊥

  pub AreValues : Templates → Items → Type 0
  AreValues no_templates no_items = Unit {0}
  AreValues (template v vs) (item x xs) = IsValue v x × AreValues vs xs
  AreValues vs xs = ⊥

  pub AreNamed : Fields → Pairs → Type 0
  AreNamed no_fields no_pairs = Unit {0}
  AreNamed (named k v fs) (pair j x ps) = (k ≡ j) × IsValue v x × AreNamed fs ps
  AreNamed fs ps = ⊥

abbrev mutual
  -- a value without expressions
  pub IsLiteral : values.Data → Tree → Type 0
  IsLiteral values.null null = Unit {0}
  IsLiteral (values.boolean b) (boolean c) = b ≡ c
  IsLiteral (values.integer n) (integer m) = n ≡ m
  IsLiteral (values.text s) (text r) = s ≡ r
  IsLiteral (values.list ds) (list xs) = AreLiterals ds xs
  IsLiteral (values.map ds) (map ps) = AreNamedLiterals ds ps
  IsLiteral d x = ⊥

  pub AreLiterals : values.Items → Items → Type 0
  AreLiterals values.no_items no_items = Unit {0}
  AreLiterals (values.item d ds) (item x xs) = IsLiteral d x × AreLiterals ds xs
  AreLiterals ds xs = ⊥

  pub AreNamedLiterals : values.Pairs → Pairs → Type 0
  AreNamedLiterals values.no_pairs no_pairs = Unit {0}
  AreNamedLiterals (values.pair k d ds) (pair j x ps) = (k ≡ j) × IsLiteral d x × AreNamedLiterals ds ps
  AreNamedLiterals ds ps = ⊥

-- ## Assignments and calls
abbrev pub IsEntry : t.Entry → Tree → Type 0
IsEntry e (map (pair k x no_pairs)) = IsTarget k e.target × IsValue e.value x
IsEntry e x = ⊥

abbrev pub AreEntries : List t.Entry → Tree → Type 0
AreEntries es (list xs) = Each IsEntry es xs
AreEntries es x = ⊥

abbrev pub AreArguments : Fields → Tree → Type 0
AreArguments fs (map ps) = AreNamed fs ps
AreArguments fs x = ⊥

-- the fields of a call
abbrev pub IsCall : t.CallBody → Pairs → Type 0
IsCall c fs = At (codes "call") fs (IsText c.name) × Else c.args no_fields (codes "args") fs AreArguments × Maybe c.result (codes "result") fs IsText

-- ## Policies
abbrev pub default_backoff : Backoff
default_backoff = record { initial = 1000; max = 60000; multiplier = 1250 }

abbrev pub policy_kind : Text → DefaultKind
policy_kind s = if bytes_eq s (codes "http.default_retry") then Idempotent else NonIdempotent

-- the predicate of a word: a predefined one, or a workflow
abbrev pub predicate_of : Text → t.Predicate
predicate_of s =
    if bytes_eq s (codes "http.default_retry_predicate") then t.Predefined Idempotent
    else if bytes_eq s (codes "http.default_retry_predicate_non_idempotent") then t.Predefined NonIdempotent
    else if bytes_eq s (codes "retry.always") then t.Always
    else if bytes_eq s (codes "retry.never") then t.Never
    else t.FlowNamed s

abbrev pub IsPredicate : t.Predicate → Tree → Type 0
IsPredicate q (text s) = q ≡ predicate_of (unmarked s)
IsPredicate q x = ⊥

abbrev pub IsThousandths : ℕ → Tree → Type 0
IsThousandths n x = thousandths x ≡ Some n

abbrev pub IsBackoff : Backoff → Tree → Type 0
IsBackoff b (map fs) =
    Else b.initial default_backoff.initial (codes "initial_delay") fs IsThousandths
    × Else b.max default_backoff.max (codes "max_delay") fs IsThousandths
    × Else b.multiplier default_backoff.multiplier (codes "multiplier") fs IsThousandths
IsBackoff b x = ⊥

abbrev pub most_retries : ℕ
most_retries = 5

abbrev pub IsAttempts : ℕ → Tree → Type 0
IsAttempts n x = whole_within 0 1000000 x ≡ Some n

-- a predefined policy, or one with these fields
abbrev pub IsPolicy : t.Policy → Tree → Type 0
IsPolicy p (text s) = p ≡ record { predicate = t.Predefined (policy_kind (unmarked s)); max_retries = most_retries; backoff = default_backoff }
IsPolicy p (map fs) =
    Else p.predicate t.Always (codes "predicate") fs IsPredicate
    × Else p.max_retries most_retries (codes "max_retries") fs IsAttempts
    × Else p.backoff default_backoff (codes "backoff") fs IsBackoff
IsPolicy p x = ⊥

-- ## Loops and parallel steps
abbrev pub IsRange : Template → Template → Tree → Type 0
IsRange a b (list (item x (item y no_items))) = IsValue a x × IsValue b y
IsRange a b x = ⊥

abbrev pub IsOver : t.Over → Pairs → Type 0
IsOver (t.InList v) fs = (field (codes "range") fs ≡ None) × At (codes "in") fs (IsValue v)
IsOver (t.InRange a b) fs = At (codes "range") fs (IsRange a b)

abbrev pub IsLimit : ℕ → Tree → Type 0
IsLimit n x = whole_within 1 1000 x ≡ Some n

-- ## Steps
-- the one form that a body has
abbrev pub IsForm : Text → Pairs → Type 0
IsForm k fs = form_names fs ≡ k ∷ []

abbrev mutual
  pub StepsIn : t.Steps → Items → Type 0
  StepsIn t.no_steps no_items = Unit {0}
  StepsIn (t.more s ss) (item x xs) = IsStep s x × StepsIn ss xs
  StepsIn ss xs = ⊥

  -- a map of one, from the step's name to what it does
  pub IsStep : t.Step → Tree → Type 0
  IsStep (t.step k b next) x = OfSingle x (λ j y. (k ≡ j) × OfMap y (λ fs. IsBody b fs × Maybe next (codes "next") fs IsText))

  -- what a step or an arm does
  pub IsBody : t.Body → Pairs → Type 0
  IsBody t.Body.Nothing fs = form_names fs ≡ []
  IsBody (t.Body.Assign es) fs = IsForm (codes "assign") fs × At (codes "assign") fs (AreEntries es)
  IsBody (t.Body.Call c) fs = IsForm (codes "call") fs × IsCall c fs
  IsBody (t.Body.Switch arms) fs = IsForm (codes "switch") fs × At (codes "switch") fs (λ x. OfList x (λ xs. ArmsIn arms xs))
  IsBody (t.Body.For l) fs = IsForm (codes "for") fs × At (codes "for") fs (λ x. OfMap x (λ gs. IsLoop l gs))
  IsBody (t.Body.Parallel p) fs = IsForm (codes "parallel") fs × At (codes "parallel") fs (λ x. OfMap x (λ gs. IsParallel p gs))
  IsBody (t.Body.Block ss) fs = IsForm (codes "steps") fs × At (codes "steps") fs (λ x. OfList x (λ xs. StepsIn ss xs))
  IsBody (t.Body.Try y) fs = IsForm (codes "try") fs × IsTry y fs
  IsBody (t.Body.Raise v) fs = IsForm (codes "raise") fs × At (codes "raise") fs (IsValue v)
  IsBody (t.Body.Return v) fs = IsForm (codes "return") fs × At (codes "return") fs (IsValue v)

  pub ArmsIn : t.Arms → Items → Type 0
  ArmsIn t.no_arms no_items = Unit {0}
  ArmsIn (t.arm c b next arms) (item x xs) =
      OfMap x (λ fs. At (codes "condition") fs (IsValue c) × IsBody b fs × Maybe next (codes "next") fs IsText) × ArmsIn arms xs
  ArmsIn arms xs = ⊥

  pub IsLoop : t.LoopBody → Pairs → Type 0
  IsLoop (t.loop v i over ss) fs =
      At (codes "value") fs (IsText v) × Maybe i (codes "index") fs IsText × IsOver over fs × At (codes "steps") fs (λ x. OfList x (λ xs. StepsIn ss xs))

  pub IsParallel : t.ParallelBody → Pairs → Type 0
  IsParallel (t.parallel shared limit work) fs =
      Else shared [] (codes "shared") fs AreTexts × Maybe limit (codes "concurrency_limit") fs IsLimit × IsWork work fs

  pub IsWork : t.Work → Pairs → Type 0
  IsWork (t.OfBranches bs) fs = (field (codes "for") fs ≡ None) × At (codes "branches") fs (λ x. OfList x (λ xs. BranchesIn bs xs))
  IsWork (t.OfLoop l) fs = At (codes "for") fs (λ x. OfMap x (λ gs. IsLoop l gs))

  pub BranchesIn : t.Branches → Items → Type 0
  BranchesIn t.no_branches no_items = Unit {0}
  BranchesIn (t.branch k ss bs) (item x xs) =
      OfSingle x (λ j y. (k ≡ j) × OfMap y (λ fs. At (codes "steps") fs (λ z. OfList z (λ zs. StepsIn ss zs)))) × BranchesIn bs xs
  BranchesIn bs xs = ⊥

  pub IsTry : t.TryBody → Pairs → Type 0
  IsTry (t.try b policy handler) fs = At (codes "try") fs (λ x. OfMap x (λ gs. IsTried b gs)) × Maybe policy (codes "retry") fs IsPolicy × IsExcept handler fs

  -- a call, or steps
  pub IsTried : t.Body → Pairs → Type 0
  IsTried (t.Body.Call c) fs = IsCall c fs
  IsTried (t.Body.Block ss) fs = (field (codes "call") fs ≡ None) × At (codes "steps") fs (λ x. OfList x (λ xs. StepsIn ss xs))
  IsTried b fs = ⊥

  pub IsExcept : t.Except → Pairs → Type 0
  IsExcept t.no_except fs = field (codes "except") fs ≡ None
  IsExcept (t.except k ss) fs =
      At (codes "except") fs (λ x. OfMap x (λ gs. At (codes "as") gs (IsText k) × At (codes "steps") gs (λ y. OfList y (λ ys. StepsIn ss ys))))

-- steps in a list
abbrev pub AreSteps : t.Steps → Tree → Type 0
AreSteps ss x = OfList x (StepsIn ss)

-- ## Workflows
abbrev pub IsParam : t.Param → Tree → Type 0
IsParam p (text s) = p ≡ record { name = s; default = None }
IsParam p (map (pair k x no_pairs)) = (p.name ≡ k) × ((d : values.Data) × (p.default ≡ Some d) × IsLiteral d x)
IsParam p x = ⊥

abbrev pub AreParams : List t.Param → Tree → Type 0
AreParams ps (list xs) = Each IsParam ps xs
AreParams ps x = ⊥

abbrev pub IsFlow : t.Flow → Text → Tree → Type 0
IsFlow f k (map fs) = (f.name ≡ k) × Else f.params [] (codes "params") fs AreParams × At (codes "steps") fs (AreSteps f.steps)
IsFlow f k x = ⊥

abbrev pub FlowsIn : List t.Flow → Pairs → Type 0
FlowsIn [] no_pairs = Unit {0}
FlowsIn (f ∷ fs) (pair k x ps) = IsFlow f k x × FlowsIn fs ps
FlowsIn fs ps = ⊥

-- the workflows besides `main`
abbrev pub others : Pairs → Pairs
others no_pairs = no_pairs
others (pair k x ps) = let more = others ps in if bytes_eq k (codes "main") then more else pair k x more

-- `main` first, then the others in the order of their names
abbrev pub IsProgram : t.Program → Tree → Type 0
IsProgram p (map fs) = (main : t.Flow) × (rest : List t.Flow) × (p.flows ≡ main ∷ rest) × At (codes "main") fs (IsFlow main (codes "main")) × FlowsIn rest (others fs)
IsProgram p x = ⊥

-- a source's tree is this program
pub record Builds (x : Tree) (p : t.Program) : Type 0 where
  pub sound : IsSound Flows (rooted x)
  pub program : IsProgram p (rooted x)
