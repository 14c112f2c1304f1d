-- No edge keeps a layer that isn't around its end.
use Rattle.std.specs.Prelude.{ℕ, suc, ◌+◌, ◌≤◌, List, [], ◌∷◌, ◌++◌, Some, None, Option}
use Rattle.std.proofs.Common.{arith}
use mathlib.Core.Logic.{inl, inr}
use mathlib.Core.Path.{sym, subst}
use Rattle.wf_ast.specs.Nodes.{loop_binds, param_names}
use Rattle.wf_ast.specs.Tree.{Entry, Step, step, Steps, no_steps, more, Body, Arms, no_arms, arm, LoopBody, loop, ParallelBody, parallel, Work, OfBranches, OfLoop, Branches, no_branches, branch, TryBody, try, Except, no_except, except, Policy, Flow}
use Rattle.wf_assigned.specs.Edges.{Point, At, HeadOf, FailOf, EndOf, Edge, Exit, Site, NoLoop, InTurn, to_some, failing, evaluated, entering, entries_edges, ending, follow, retrying, first_in, in_block, in_loop, in_task, in_except, in_try, in_flow, steps_edges, step_edges, body_edges, arms_edges, loop_edges, parallel_edges, work_edges, turn_edges, branches_edges, try_edges, except_edges, flow_edges}
use Rattle.wf_assigned.specs.Standing.{Proper}
use Rattle.wf_model.specs.Spots.{step_size, body_size, steps_size}
use Rattle.wf_value.specs.Pairs.{Text}

abbrev Fine : List Edge → Type 0
Fine [] = Unit {0}
Fine (e ∷ es) = (e.keeps ≤ e.depth) × Fine es

join : (xs ys : List Edge) → Fine xs → Fine ys → Fine (xs ++ ys)
join [] ys f g = g
join (x ∷ xs) ys f g = (f.0, join xs ys f.1 g)

proper_of : (es : List Edge) → Fine es → Proper es
proper_of [] f e i = absurd i
proper_of (x ∷ xs) f e (inl i) = subst (λ z. z.keeps ≤ z.depth) (sym i) f.0
proper_of (x ∷ xs) f e (inr i) = proper_of xs f.1 e i

some_fine : (p : Point) (o : Option Exit) → Fine (to_some p o)
some_fine p None = tt
some_fine p (Some e) = (omega arith, tt)

enters_fine : (d : ℕ) (p : Point) (ss : Steps) (n : ℕ) (xs : List Text) (out : Option Exit) → Fine (entering d p ss n xs out)
enters_fine d p no_steps n xs out = some_fine p out
enters_fine d p (more s ss) n xs out = (omega arith, tt)

entries_fine : (es : List Entry) (m n : ℕ) (a : Site) → Fine (entries_edges es m n a)
entries_fine [] m n a = tt
entries_fine (e ∷ es) m n a = (omega arith, join (failing a (At m)) (entries_edges es (suc m) n a) (some_fine (At m) a.fails) (entries_fine es (suc m) n a))

ending_fine : (a : Site) (n : ℕ) (next : Option Text) (out : Option Exit) → Fine (ending a n next out)
ending_fine a n next out = join (failing a (EndOf n)) (to_some (EndOf n) (follow a next out)) (some_fine (EndOf n) a.fails) (some_fine (EndOf n) (follow a next out))

evaluated_fine : (a : Site) (n : ℕ) (es : List Edge) → Fine es → Fine (evaluated a n es)
evaluated_fine a n es f = join (failing a (At n)) es (some_fine (At n) a.fails) f

retrying_fine : (p : Option Policy) (n : ℕ) (a : Site) → Fine (retrying p n a)
retrying_fine None n a = tt
retrying_fine (Some p) n a = (omega arith, tt)

mutual
  steps_fine : (ss : Steps) (n : ℕ) (a : Site) (out : Option Exit) → Fine (steps_edges ss n a out)
  steps_fine no_steps n a out = tt
  steps_fine (more s ss) n a out = join (step_edges s n a (first_in a ss (n + step_size s) out)) (steps_edges ss (n + step_size s) a out) (step_fine s n a (first_in a ss (n + step_size s) out)) (steps_fine ss (n + step_size s) a out)

  step_fine : (s : Step) (n : ℕ) (a : Site) (out : Option Exit) → Fine (step_edges s n a out)
  step_fine (step x body next) n a out = join (body_edges body n a) (ending a n next out) (body_fine body n a) (ending_fine a n next out)

  body_fine : (b : Body) (n : ℕ) (a : Site) → Fine (body_edges b n a)
  body_fine Body.Nothing n a = evaluated_fine a n _ (omega arith, tt)
  body_fine (Body.Assign es) n a = evaluated_fine a n _ (omega arith, entries_fine es (suc n) n a)
  body_fine (Body.Call f) n a = evaluated_fine a n _ (omega arith, tt)
  body_fine (Body.Switch arms) n a = evaluated_fine a n _ (omega arith, arms_fine arms (suc n) n a)
  body_fine (Body.For l) n a = evaluated_fine a n _ (omega arith, loop_fine l n a)
  body_fine (Body.Parallel p) n a = evaluated_fine a n _ (omega arith, parallel_fine p n a)
  body_fine (Body.Block ss) n a =
      let out = Some (record { point = EndOf n; depth = a.depth }) in
      evaluated_fine a n _ (join (to_some (At n) (first_in a ss (suc n) out)) (steps_edges ss (suc n) (in_block ss (suc n) a) out) (some_fine (At n) (first_in a ss (suc n) out)) (steps_fine ss (suc n) (in_block ss (suc n) a) out))
  body_fine (Body.Try t) n a = evaluated_fine a n _ (omega arith, try_fine t n a)
  body_fine (Body.Raise t) n a = evaluated_fine a n [] tt
  body_fine (Body.Return t) n a = evaluated_fine a n [] tt

  arms_fine : (arms : Arms) (m n : ℕ) (a : Site) → Fine (arms_edges arms m n a)
  arms_fine no_arms m n a = tt
  arms_fine (arm t body next rest) m n a =
      let end = Some (record { point = EndOf n; depth = a.depth }) in
      (omega arith, evaluated_fine a m _ (omega arith, join (body_edges body (suc m) a ++ ending a (suc m) next end) (arms_edges rest (m + suc (suc (body_size body))) n a) (join (body_edges body (suc m) a) (ending a (suc m) next end) (body_fine body (suc m) a) (ending_fine a (suc m) next end)) (arms_fine rest (m + suc (suc (body_size body))) n a)))

  loop_fine : (l : LoopBody) (n : ℕ) (a : Site) → Fine (loop_edges l n a)
  loop_fine (loop x i o ss) n a =
      let out = Some (record { point = HeadOf n; depth = a.depth }) in (
        omega arith,
        join (failing a (HeadOf n) ++ entering a.depth (HeadOf n) ss (suc n) (loop_binds x i) out) (steps_edges ss (suc n) (in_loop ss n a) out)
            (join (failing a (HeadOf n)) (entering a.depth (HeadOf n) ss (suc n) (loop_binds x i) out) (some_fine (HeadOf n) a.fails) (enters_fine a.depth (HeadOf n) ss (suc n) (loop_binds x i) out)) (steps_fine ss (suc n) (in_loop ss n a) out),
      )

  parallel_fine : (p : ParallelBody) (n : ℕ) (a : Site) → Fine (parallel_edges p n a)
  parallel_fine (parallel shared limit w) n a = work_fine w n a

  work_fine : (w : Work) (n : ℕ) (a : Site) → Fine (work_edges w n a)
  work_fine (OfBranches bs) n a = branches_fine bs (suc n) n a
  work_fine (OfLoop l) n a = turn_fine l n a

  turn_fine : (l : LoopBody) (n : ℕ) (a : Site) → Fine (turn_edges l n a)
  turn_fine (loop x i o ss) n a = join (entering a.depth (At n) ss (suc n) (loop_binds x i) None) (steps_edges ss (suc n) (in_task ss (suc n) InTurn a) None) (enters_fine a.depth (At n) ss (suc n) (loop_binds x i) None) (steps_fine ss (suc n) (in_task ss (suc n) InTurn a) None)

  branches_fine : (bs : Branches) (m n : ℕ) (a : Site) → Fine (branches_edges bs m n a)
  branches_fine no_branches m n a = tt
  branches_fine (branch x ss bs) m n a =
      join (entering a.depth (At n) ss (suc m) [] None ++ steps_edges ss (suc m) (in_task ss (suc m) NoLoop a) None) (branches_edges bs (m + suc (steps_size ss)) n a)
      (join (entering a.depth (At n) ss (suc m) [] None) (steps_edges ss (suc m) (in_task ss (suc m) NoLoop a) None) (enters_fine a.depth (At n) ss (suc m) [] None) (steps_fine ss (suc m) (in_task ss (suc m) NoLoop a) None)) (branches_fine bs (m + suc (steps_size ss)) n a)

  try_fine : (t : TryBody) (n : ℕ) (a : Site) → Fine (try_edges t n a)
  try_fine (try body policy x) n a =
      let end = Some (record { point = EndOf n; depth = a.depth }) in
      let one = body_edges body (suc n) (in_try n a) ++ ending (in_try n a) (suc n) None end in
      join (one ++ retrying policy n a ++ failing a (FailOf n)) (except_edges x (n + suc (suc (body_size body))) n a)
      (join (one ++ retrying policy n a) (failing a (FailOf n)) (join one (retrying policy n a) (join (body_edges body (suc n) (in_try n a)) (ending (in_try n a) (suc n) None end) (body_fine body (suc n) (in_try n a)) (ending_fine (in_try n a) (suc n) None end)) (retrying_fine policy n a)) (some_fine (FailOf n) a.fails))
      (except_fine x (n + suc (suc (body_size body))) n a)

  except_fine : (x : Except) (m n : ℕ) (a : Site) → Fine (except_edges x m n a)
  except_fine no_except m n a = tt
  except_fine (except x ss) m n a =
      let out = Some (record { point = EndOf n; depth = a.depth }) in
      join (entering a.depth (FailOf n) ss m (x ∷ []) out) (steps_edges ss m (in_except ss m a) out) (enters_fine a.depth (FailOf n) ss m (x ∷ []) out) (steps_fine ss m (in_except ss m a) out)

pub flows_proper : (f : Flow) (n : ℕ) → Proper (flow_edges f n)
unfolding flow_edges
flows_proper f n =
    proper_of (entering 0 (At n) f.steps (suc n) (param_names f.params) None ++ steps_edges f.steps (suc n) (in_flow f.steps n) None)
    (join (entering 0 (At n) f.steps (suc n) (param_names f.params) None) (steps_edges f.steps (suc n) (in_flow f.steps n) None) (enters_fine 0 (At n) f.steps (suc n) (param_names f.params) None) (steps_fine f.steps (suc n) (in_flow f.steps n) None))
