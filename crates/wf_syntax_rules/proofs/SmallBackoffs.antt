-- The backoffs of a program that the rules build are small.
use Rattle.std.proofs.Common.{◌≡◌, ◌++◌, ℕ, suc, Bool, true, false, List, [], ◌∷◌, Option, Some, None, if◌then◌else◌, is_some, nat_le, IsTrue, codes, refl, sym, ◌∙◌, subst, arith}
use Rattle.std.proofs.lemmas.Bool.{and_from, le-leb, leb-true}
use Rattle.std.proofs.lemmas.List.Folds.{list_all-append}
use Rattle.std.specs.List.{list_all}
use Rattle.wf_syntax_words.specs.Fields.{field}
use Rattle.wf_lemmas.proofs.Options.{some_not_none}
use Rattle.wf_ast.specs.Accept.{is_small_backoff, small_backoff}
use Rattle.wf_ast.specs.Nodes as n
use Rattle.wf_ast.specs.Nodes.{Around, Node, Path, BodyPart, node, nodes, below, nth, in_block, in_layer, in_loop, in_task, loop_binds, InParallelLoop, NoLoop}
use Rattle.wf_ast.specs.Tree as t
use Rattle.wf_syntax_rules.proofs.BodiesMade.{loop_keys, parallel_keys, try_keys, except_keys}
use Rattle.wf_syntax_rules.proofs.Deep.{body_keys}
use Rattle.wf_syntax_rules.proofs.ProgramsMade.{flow_sound, others_sound}
use Rattle.wf_syntax_rules.proofs.Soundness.{sound_own, sound_parts, AllSound, row_all, given}
use Rattle.wf_syntax_rules.specs.Faults.{AreSound, IsSound, rooted}
use Rattle.wf_syntax_rules.specs.Laws.{SmallBackoffs}
use Rattle.wf_syntax_rules.specs.Meaning.{default_backoff, others, ArmsIn, At, BranchesIn, ElseBy, FlowsIn, IsBackoff, IsBody, IsExcept, IsFlow, IsLoop, IsParallel, IsPolicy, IsProgram, IsStep, IsText, IsThousandths, IsTried, IsTry, IsWork, Maybe, OfList, OfMap, StepsIn}
use Rattle.wf_syntax_words.specs.Numbers.{at_most, thousandths}
use Rattle.wf_syntax_rules.specs.Rules.{Role, body_parts, demand, each, every, there, at, parts}
use Rattle.wf_syntax_rules.specs.Rules as r
use Rattle.wf_syntax_rules.specs.declared.fault.SyntaxKind.TheVariants.{WrongKind}
use Rattle.wf_tree.specs.Trees.{Tree, text, list, map, Items, no_items, item, Pairs, no_pairs, pair}
use Rattle.wf_value.specs.Pairs.{Text}
use Rattle.wf_value.specs.declared.Backoff.{Backoff}
use Rattle.wf_value.specs.declared.path.PathPart.TheVariants.{Key}

-- ## Numbers
abbrev IsSmall : ℕ → Type 0
IsSmall k = IsTrue (nat_le k 31536000000)

-- the numbers of a backoff
abbrev AreSmallNumbers : Backoff → Type 0
AreSmallNumbers b = IsTrue (list_all (λ k. nat_le k 31536000000) (b.initial ∷ b.max ∷ b.multiplier ∷ []))

within_by : (b : Bool) (k : ℕ) → demand (is_some (if b then Some k else None)) WrongKind ≡ None → IsTrue b
within_by true k h = refl
within_by false k h = absurd (some_not_none WrongKind h)

within : (most k : ℕ) (o : Option ℕ) → demand (is_some (at_most most o)) WrongKind ≡ None → o ≡ Some k → IsTrue (nat_le k most)
within most k None h e = absurd (some_not_none k (sym e))
within most k (Some j) h e = let same : j ≡ k = cc in subst (λ (i : ℕ). IsTrue (nat_le i most)) same (within_by (nat_le j most) j h)

seconds_small : (k : ℕ) (x : Tree) → IsSound r.Seconds x → IsThousandths k x → IsSmall k
seconds_small k x s h = within 31536000000 k (thousandths x) (sound_own r.Seconds x s) h

factor_small : (k : ℕ) (x : Tree) → IsSound r.Factor x → IsThousandths k x → IsSmall k
factor_small k x s h =
    let le = leb-true k 1000000 (within 1000000 k (thousandths x) (sound_own r.Factor x s) h) in
    le-leb k 31536000000 (omega (arith, le))

-- ## Policies
-- what holds of the default and of each part that is built holds of a part with a default
else_by : {A : Type 0} (P : A → Type 0) (Is : A → Tree → Type 0) (k : Text) (role : Role) (o : Option Tree) (a default : A) → P default → ((x : Tree) → IsSound role x → Is a x → P a) → AreSound (there k role o) → ElseBy o a default Is → P a
else_by P Is k role None a default d f s e = subst P (sym e) d
else_by P Is k role (Some x) a default d f s h = f x s.0 h

backoff_small : (b : Backoff) (x : Tree) → IsSound r.Backoff x → IsBackoff b x → AreSmallNumbers b
backoff_small b (map fs) s h =
    let a = row_all fs ((codes "initial_delay", r.Seconds) ∷ (codes "max_delay", r.Seconds) ∷ (codes "multiplier", r.Factor) ∷ []) (sound_parts r.Backoff (map fs) s) in
    let initial : IsSmall b.initial = else_by IsSmall IsThousandths (codes "initial_delay") r.Seconds (field (codes "initial_delay") fs) b.initial default_backoff.initial refl (seconds_small b.initial) a.0 h.0 in
    let most : IsSmall b.max = else_by IsSmall IsThousandths (codes "max_delay") r.Seconds (field (codes "max_delay") fs) b.max default_backoff.max refl (seconds_small b.max) a.1.0 h.1 in
    let multiplier : IsSmall b.multiplier = else_by IsSmall IsThousandths (codes "multiplier") r.Factor (field (codes "multiplier") fs) b.multiplier default_backoff.multiplier refl (factor_small b.multiplier) a.1.1.0 h.2 in
    and_from _ _ initial (and_from _ _ most (and_from _ _ multiplier refl))
backoff_small b x s h = absurd h

policy_small : (p : t.Policy) (x : Tree) → IsSound r.Retry x → IsPolicy p x → AreSmallNumbers p.backoff
policy_small p (text s) sound h = subst (λ (q : t.Policy). AreSmallNumbers q.backoff) (sym h) refl
policy_small p (map fs) sound h =
    let a = row_all fs ((codes "backoff", r.Backoff) ∷ (codes "max_retries", r.Attempts) ∷ (codes "predicate", r.Predicate) ∷ []) (sound_parts r.Retry (map fs) sound) in
    else_by AreSmallNumbers IsBackoff (codes "backoff") r.Backoff (field (codes "backoff") fs) p.backoff default_backoff refl (backoff_small p.backoff) a.0 h.2
policy_small p x sound h = absurd h

-- the tree at a key has no fault
found : (k : Text) (role : Role) (fs : Pairs) → AreSound (at k role fs) → (x : Tree) → field k fs ≡ Some x → IsSound role x
found k role fs s x e = given k role fs (IsSound role) s (λ y d h. h) x e

retry_small : (o : Option t.Policy) (fs : Pairs) → AreSound (at (codes "retry") r.Retry fs) → Maybe o (codes "retry") fs IsPolicy → IsTrue (is_small_backoff o)
retry_small None fs s h = refl
retry_small (Some p) fs s h = policy_small p h.0 (found (codes "retry") r.Retry fs s h.0 h.1) h.2

-- ## Lists and maps at a key
list_by : (role : Role) (Is : Items → Type 0) (x : Tree) → OfList x Is → IsSound role x → (xs : Items) × Is xs × AreSound (parts role (list xs))
list_by role Is (list xs) h s = (xs, h, sound_parts role (list xs) s)
list_by role Is x h s = absurd h

list_at : (k : Text) (role : Role) (Is : Items → Type 0) (fs : Pairs) → At k fs (λ x. OfList x Is) → AreSound (at k role fs) → (xs : Items) × Is xs × AreSound (parts role (list xs))
list_at k role Is fs h s = list_by role Is h.0 h.2 (found k role fs s h.0 h.1)

map_by : (role : Role) (Is : Pairs → Type 0) (x : Tree) → OfMap x Is → IsSound role x → (fs : Pairs) × Is fs × AreSound (parts role (map fs))
map_by role Is (map fs) h s = (fs, h, sound_parts role (map fs) s)
map_by role Is x h s = absurd h

map_at : (k : Text) (role : Role) (Is : Pairs → Type 0) (fs : Pairs) → At k fs (λ x. OfMap x Is) → AreSound (at k role fs) → (gs : Pairs) × Is gs × AreSound (parts role (map gs))
map_at k role Is fs h s = map_by role Is h.0 h.2 (found k role fs s h.0 h.1)

-- the fields of a body whose parts are steps or policies
record BodySound (fs : Pairs) : Type 0 where
  handler : AreSound (at (codes "except") r.Except fs)
  loop : AreSound (at (codes "for") r.Loop fs)
  parallel : AreSound (at (codes "parallel") r.Parallel fs)
  retry : AreSound (at (codes "retry") r.Retry fs)
  steps : AreSound (at (codes "steps") r.Steps fs)
  arms : AreSound (at (codes "switch") r.Arms fs)
  tried : AreSound (at (codes "try") r.Try fs)

body_sound : (fs : Pairs) → AreSound (body_parts fs) → BodySound fs
body_sound fs s =
    let a = (row_all fs body_keys s).1.1.1.1 in
    let b = a.1.1.1 in
    let c = b.1.1.1 in
    record { handler = a.0; loop = a.1.0; parallel = b.0; retry = c.0; steps = c.1.1.0; arms = c.1.1.1.0; tried = c.1.1.1.1.0 }

-- the steps of a loop
loop_steps : (fs : Pairs) → AreSound (parts r.Loop (map fs)) → AreSound (at (codes "steps") r.Steps fs)
loop_steps fs s = (row_all fs loop_keys s).1.1.1.0

-- ## Nodes
abbrev AreSmall : List Node → Type 0
AreSmall vs = IsTrue (list_all small_backoff vs)

both_small : (vs ws : List Node) → AreSmall vs → AreSmall ws → AreSmall (vs ++ ws)
both_small vs ws h g = list_all-append small_backoff vs ws ∙ and_from (list_all small_backoff vs) (list_all small_backoff ws) h g

-- an assignment has no policy
entries_small : (es : List t.Entry) (a : Around) (path : Path) (i : ℕ) → AreSmall (n.entry_nodes es a path i)
entries_small [] a path i = refl
entries_small (e ∷ es) a path i = entries_small es a path (suc i)

-- a body and what it holds
abbrev BodySmall : t.Body → Around → Path → Type 0
BodySmall b a path = AreSmall (node (BodyPart b) a path ∷ n.body_nodes b a path)

mutual
  steps_small : (ss : t.Steps) (xs : Items) (j : ℕ) → StepsIn ss xs → AreSound (each r.Step j xs) → (a : Around) (path : Path) (i : ℕ) → AreSmall (n.steps_nodes ss a path i)
  steps_small t.no_steps no_items j h s a path i = refl
  steps_small (t.more u ss) (item x xs) j h s a path i =
      both_small (n.step_nodes u a (nth path i)) (n.steps_nodes ss a path (suc i)) (step_small u x h.0 s.0 a (nth path i)) (steps_small ss xs (suc j) h.1 s.1 a path (suc i))
  steps_small ss xs j h s a path i = absurd h

  step_small : (u : t.Step) (x : Tree) → IsStep u x → IsSound r.Step x → (a : Around) (path : Path) → AreSmall (n.step_nodes u a path)
  step_small (t.step k b next) (map (pair j y no_pairs)) h s a path =
      let u = map_by r.Body (λ fs. IsBody b fs × Maybe next (codes "next") fs IsText) y h.1 (sound_parts r.Step (map (pair j y no_pairs)) s).0 in
      body_small b u.0 u.1.0 u.2 a (below path k)
  step_small u x h s a path = absurd h

  body_small : (b : t.Body) (fs : Pairs) → IsBody b fs → AreSound (body_parts fs) → (a : Around) (path : Path) → BodySmall b a path
  body_small t.Body.Nothing fs h s a path = refl
  body_small (t.Body.Assign es) fs h s a path = entries_small es a (below path (codes "assign")) 0
  body_small (t.Body.Call c) fs h s a path = refl
  body_small (t.Body.Switch arms) fs h s a path =
      let u = list_at (codes "switch") r.Arms (ArmsIn arms) fs h.1 (body_sound fs s).arms in
      arms_small arms u.0 0 u.1 u.2 a (below path (codes "switch")) 0
  body_small (t.Body.For l) fs h s a path =
      let u = map_at (codes "for") r.Loop (IsLoop l) fs h.1 (body_sound fs s).loop in
      loop_small l u.0 u.1 u.2 a (below path (codes "for"))
  body_small (t.Body.Parallel p) fs h s a path =
      let u = map_at (codes "parallel") r.Parallel (IsParallel p) fs h.1 (body_sound fs s).parallel in
      parallel_small p u.0 u.1 u.2 a (below path (codes "parallel"))
  body_small (t.Body.Block ss) fs h s a path =
      let u = list_at (codes "steps") r.Steps (StepsIn ss) fs h.1 (body_sound fs s).steps in
      steps_small ss u.0 0 u.1 u.2 (in_block ss a) (below path (codes "steps")) 0
  body_small (t.Body.Try y) fs h s a path = try_small y fs h.1 (body_sound fs s) a path
  body_small (t.Body.Raise v) fs h s a path = refl
  body_small (t.Body.Return v) fs h s a path = refl

  arms_small : (arms : t.Arms) (xs : Items) (j : ℕ) → ArmsIn arms xs → AreSound (each r.Arm j xs) → (a : Around) (path : Path) (i : ℕ) → AreSmall (n.arms_nodes arms a path i)
  arms_small t.no_arms no_items j h s a path i = refl
  arms_small (t.arm c b next rest) (item (map fs) xs) j h s a path i =
      both_small (node (BodyPart b) a (nth path i) ∷ n.body_nodes b a (nth path i)) (n.arms_nodes rest a path (suc i))
      (body_small b fs h.0.1 (sound_parts r.Arm (map fs) s.0) a (nth path i)) (arms_small rest xs (suc j) h.1 s.1 a path (suc i))
  arms_small (t.arm c b next rest) (item x xs) j h s a path i = absurd h.0
  arms_small arms xs j h s a path i = absurd h

  loop_small : (l : t.LoopBody) (fs : Pairs) → IsLoop l fs → AreSound (parts r.Loop (map fs)) → (a : Around) (path : Path) → AreSmall (n.loop_nodes l a path)
  loop_small (t.loop v i over ss) fs h s a path =
      let u = list_at (codes "steps") r.Steps (StepsIn ss) fs h.3 (loop_steps fs s) in
      steps_small ss u.0 0 u.1 u.2 (in_loop (loop_binds v i) ss a) (below path (codes "steps")) 0

  iterations_small : (l : t.LoopBody) (fs : Pairs) → IsLoop l fs → AreSound (parts r.Loop (map fs)) → (shared : List Text) (a : Around) (path : Path) → AreSmall (n.parallel_loop_nodes l shared a path)
  iterations_small (t.loop v i over ss) fs h s shared a path =
      let u = list_at (codes "steps") r.Steps (StepsIn ss) fs h.3 (loop_steps fs s) in
      steps_small ss u.0 0 u.1 u.2 (in_task shared (loop_binds v i) InParallelLoop ss a) (below path (codes "steps")) 0

  parallel_small : (p : t.ParallelBody) (fs : Pairs) → IsParallel p fs → AreSound (parts r.Parallel (map fs)) → (a : Around) (path : Path) → AreSmall (n.parallel_nodes p a path)
  parallel_small (t.parallel shared limit w) fs h s a path = work_small w fs h.2 (row_all fs parallel_keys s) shared a path

  work_small : (w : t.Work) (fs : Pairs) → IsWork w fs → AllSound fs parallel_keys → (shared : List Text) (a : Around) (path : Path) → AreSmall (n.work_nodes w shared a path)
  work_small (t.OfBranches bs) fs h s shared a path =
      let u = list_at (codes "branches") r.Branches (BranchesIn bs) fs h.1 s.0 in
      branches_small bs u.0 0 u.1 u.2 shared [] a (below path (codes "branches")) 0
  work_small (t.OfLoop l) fs h s shared a path =
      let u = map_at (codes "for") r.Loop (IsLoop l) fs h s.1.1.1.0 in
      iterations_small l u.0 u.1 u.2 shared a (below path (codes "for"))

  branches_small : (bs : t.Branches) (xs : Items) (j : ℕ) → BranchesIn bs xs → AreSound (each r.Branch j xs) → (shared before : List Text) (a : Around) (path : Path) (i : ℕ) → AreSmall (n.branches_nodes bs shared before a path i)
  branches_small t.no_branches no_items j h s shared before a path i = refl
  branches_small (t.branch k ss bs) (item (map (pair m y no_pairs)) xs) j h s shared before a path i =
      let block = map_by r.Block (λ fs. At (codes "steps") fs (λ z. OfList z (StepsIn ss))) y h.0.1 (sound_parts r.Branch (map (pair m y no_pairs)) s.0).0 in
      let u = list_at (codes "steps") r.Steps (StepsIn ss) block.0 block.1 (row_all block.0 ((codes "steps", r.Steps) ∷ []) block.2).0 in
      both_small (n.steps_nodes ss (in_task shared [] NoLoop ss a) (below (below (nth path i) k) (codes "steps")) 0) (n.branches_nodes bs shared (k ∷ before) a path (suc i))
      (steps_small ss u.0 0 u.1 u.2 (in_task shared [] NoLoop ss a) (below (below (nth path i) k) (codes "steps")) 0)
      (branches_small bs xs (suc j) h.1 s.1 shared (k ∷ before) a path (suc i))
  branches_small (t.branch k ss bs) (item x xs) j h s shared before a path i = absurd h.0
  branches_small bs xs j h s shared before a path i = absurd h

  try_small : (y : t.TryBody) (fs : Pairs) → IsTry y fs → BodySound fs → (a : Around) (path : Path) → BodySmall (t.Body.Try y) a path
  try_small (t.try b policy x) fs h s a path =
      let u = map_at (codes "try") r.Try (IsTried b) fs h.0 s.tried in
      and_from (is_small_backoff policy) _ (retry_small policy fs s.retry h.1)
      (both_small (node (BodyPart b) a (below path (codes "try")) ∷ n.body_nodes b a (below path (codes "try"))) (n.except_nodes x a (below path (codes "except")))
      (tried_small b u.0 u.1 u.2 a (below path (codes "try"))) (except_small x fs h.2 s.handler a (below path (codes "except"))))

  tried_small : (b : t.Body) (fs : Pairs) → IsTried b fs → AreSound (parts r.Try (map fs)) → (a : Around) (path : Path) → BodySmall b a path
  tried_small (t.Body.Call c) fs h s a path = refl
  tried_small (t.Body.Block ss) fs h s a path =
      let u = list_at (codes "steps") r.Steps (StepsIn ss) fs h.1 (row_all fs try_keys s).1.1.1.0 in
      steps_small ss u.0 0 u.1 u.2 (in_block ss a) (below path (codes "steps")) 0
  tried_small b fs h s a path = absurd h

  except_small : (x : t.Except) (fs : Pairs) → IsExcept x fs → AreSound (at (codes "except") r.Except fs) → (a : Around) (path : Path) → AreSmall (n.except_nodes x a path)
  except_small t.no_except fs h s a path = refl
  except_small (t.except k ss) fs h s a path =
      let e = map_at (codes "except") r.Except (λ gs. At (codes "as") gs (IsText k) × At (codes "steps") gs (λ y. OfList y (StepsIn ss))) fs h s in
      let u = list_at (codes "steps") r.Steps (StepsIn ss) e.0 e.1.1 (row_all e.0 except_keys e.2).1.0 in
      steps_small ss u.0 0 u.1 u.2 (in_block ss (in_layer (k ∷ []) ss a)) (below path (codes "steps")) 0

-- ## Workflows
flow_small : (f : t.Flow) (k : Text) (x : Tree) → IsFlow f k x → IsSound (r.Flow k) x → AreSmall (n.flow_nodes f)
flow_small f k (map fs) h s =
    let a = row_all fs ((codes "params", r.Parameters) ∷ (codes "steps", r.Steps) ∷ []) (sound_parts (r.Flow k) (map fs) s) in
    let u = list_at (codes "steps") r.Steps (StepsIn f.steps) fs h.2 a.1.0 in
    steps_small f.steps u.0 0 u.1 u.2 (n.flow_around f) (Key f.name ∷ Key (codes "steps") ∷ []) 0
flow_small f k x h s = absurd h

flows_small : (fs : List t.Flow) (ps : Pairs) → FlowsIn fs ps → AreSound (every r.Flow ps) → AreSmall (nodes fs)
unfolding nodes
flows_small [] no_pairs h s = refl
flows_small (f ∷ fs) (pair k x ps) h s = both_small (n.flow_nodes f) (nodes fs) (flow_small f k x h.0 s.0) (flows_small fs ps h.1 s.1)
flows_small fs ps h s = absurd h

program_small : (p : t.Program) (x : Tree) → IsProgram p x → IsSound r.Flows x → AreSmall (nodes p.flows)
unfolding nodes
program_small p (map fs) h s =
    let all = sound_parts r.Flows (map fs) s in
    let main = flow_small h.0 (codes "main") h.3.0 h.3.2 (flow_sound (codes "main") fs h.3.0 all h.3.1) in
    subst (λ (l : List t.Flow). AreSmall (nodes l)) (sym h.2) (both_small (n.flow_nodes h.0) (nodes h.1) main (flows_small h.1 (others fs) h.4 (others_sound fs all)))
program_small p x h s = absurd h

pub small_backoffs : SmallBackoffs
small_backoffs t p b = program_small p (rooted t) b.program b.sound
