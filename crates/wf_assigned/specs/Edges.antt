-- Where a workflow may go on: the edges between the points of its text.
--     Site          what stands around a list of steps
--     flow_edges    the edges of a workflow
-- A layer is told by how many layers stand around a point in its text, itself among them. A walk is inside at most one of each number.
use Rattle.std.specs.Prelude.{ℕ, suc, ◌+◌, List, [], ◌∷◌, ◌++◌, if◌then◌else◌, Some, None, codes, bytes_eq, Option}
use Rattle.wf_ast.specs.Nodes.{listed, loop_binds, param_names}
use Rattle.wf_ast.specs.Tree.{Entry, no_exprs, Step, step, Steps, no_steps, more, Body, Arms, no_arms, arm, LoopBody, loop, ParallelBody, parallel, Work, OfBranches, OfLoop, Branches, no_branches, branch, TryBody, try, Except, no_except, except, Policy, Flow, expr}
pub use Rattle.wf_assigned.specs.declared.points.Edge.{Edge}
pub use Rattle.wf_assigned.specs.declared.points.Exit.{Exit}
pub use Rattle.wf_assigned.specs.declared.points.Looping.{Looping}
pub use Rattle.wf_assigned.specs.declared.points.Looping.TheVariants.{NoLoop, InLoop, InTurn}
pub use Rattle.wf_assigned.specs.declared.points.Point.{Point}
pub use Rattle.wf_assigned.specs.declared.points.Point.TheVariants.{At, HeadOf, FailOf, EndOf}
use Rattle.wf_model.specs.Spots.{step_size, body_size, steps_size}
use Rattle.wf_value.specs.Pairs.{Text}

-- ## What stands around
-- a list whose steps a jump may reach: the number of its first step, and the layers around it
pub record Block : Type 0 where
  pub steps : Steps
  pub first : ℕ
  pub depth : ℕ

pub record Site : Type 0 where
  pub depth : ℕ
  pub blocks : List Block
  pub loop : Looping
  -- where errors go
  pub fails : Option Exit

-- ## Edges
-- to a place around, or in the same list
abbrev pub to_exit : Point → Exit → Edge
to_exit p e = record { from = p; to = e.point; keeps = e.depth; depth = e.depth; writes = [] }

abbrev pub to_some : Point → Option Exit → List Edge
to_some p None = []
to_some p (Some e) = to_exit p e ∷ []

-- in the same layer, with these names written
abbrev pub writing : Site → Point → Point → List Text → Edge
writing a p q xs = record { from = p; to = q; keeps = a.depth; depth = a.depth; writes = xs }

abbrev pub passing : Site → Point → Point → Edge
passing a p q = writing a p q []

-- into a new layer with these names, to the first of the steps, which has the number n; a list without steps ends at once
abbrev pub entering : ℕ → Point → Steps → ℕ → List Text → Option Exit → List Edge
entering depth p no_steps n xs out = to_some p out
entering depth p (more s ss) n xs out = record { from = p; to = At n; keeps = depth; depth = suc depth; writes = xs } ∷ []

-- by an error
abbrev pub failing : Site → Point → List Edge
failing a p = to_some p a.fails

-- the first step of the list, or else where its end leads
abbrev pub first_in : Site → Steps → ℕ → Option Exit → Option Exit
first_in a no_steps n out = out
first_in a (more s ss) n out = Some (record { point = At n; depth = a.depth })

-- ## Jumps
-- the number of the step of this name, in a list whose first step has the number n
abbrev pub number_in : Text → Steps → ℕ → Option ℕ
number_in x no_steps n = None
number_in x (more (step y body next) ss) n = if bytes_eq x y then Some n else number_in x ss (n + suc (body_size body))

abbrev pub step_exit : ℕ → Option ℕ → Option Exit → Option Exit
step_exit depth None outward = outward
step_exit depth (Some n) outward = Some (record { point = At n; depth = depth })

-- outward to the first list that has the step
abbrev pub to_step : Text → List Block → Option Exit
to_step x [] = None
to_step x (b ∷ bs) = step_exit b.depth (number_in x b.steps b.first) (to_step x bs)

abbrev pub continues : Looping → Option Exit
continues NoLoop = None
continues (InLoop n depth) = Some (record { point = HeadOf n; depth = depth })
continues InTurn = None

abbrev pub breaks : Looping → Option Exit
breaks NoLoop = None
breaks (InLoop n depth) = Some (record { point = EndOf n; depth = depth })
breaks InTurn = None

-- where a `next` leads; `end` leads nowhere
abbrev pub jump : Site → Text → Option Exit
jump a x =
    if bytes_eq x (codes "end") then None else
    (if bytes_eq x (codes "continue") then continues a.loop else
    (if bytes_eq x (codes "break") then breaks a.loop else to_step x a.blocks))

-- an end leads to its `next`, or else on
abbrev pub follow : Site → Option Text → Option Exit → Option Exit
follow a None out = out
follow a (Some x) out = jump a x

-- ## Sites
abbrev pub block_of : Steps → ℕ → ℕ → Block
block_of ss n depth = record { steps = ss; first = n; depth = depth }

-- inside a list of steps from number n on, in the same layer
abbrev pub in_block : Steps → ℕ → Site → Site
in_block ss n a = record a { blocks = block_of ss n a.depth ∷ a.blocks }

-- inside the body of the loop of number n
abbrev pub in_loop : Steps → ℕ → Site → Site
in_loop ss n a = record { depth = suc a.depth; blocks = block_of ss (suc n) (suc a.depth) ∷ []; loop = InLoop n a.depth; fails = a.fails }

-- inside a branch, or an iteration of a parallel loop, whose first step has the number n: no error goes out of it
abbrev pub in_task : Steps → ℕ → Looping → Site → Site
in_task ss n l a = record { depth = suc a.depth; blocks = block_of ss n (suc a.depth) ∷ []; loop = l; fails = None }

-- inside an `except` block
abbrev pub in_except : Steps → ℕ → Site → Site
in_except ss n a = record a { depth = suc a.depth; blocks = block_of ss n (suc a.depth) ∷ a.blocks }

-- inside the body of the `try` of number n
abbrev pub in_try : ℕ → Site → Site
in_try n a = record a { fails = Some (record { point = FailOf n; depth = a.depth }) }

-- inside a workflow of number n
abbrev pub in_flow : Steps → ℕ → Site
in_flow ss n = record { depth = 1; blocks = block_of ss (suc n) 1 ∷ []; loop = NoLoop; fails = None }

-- ## The edges of a workflow
-- a plain name is written; a place below one isn't
abbrev pub plain_name : Entry → List Text
plain_name e = elim e.target.places [ no_exprs ↦ e.target.name ∷ [] | expr k ks ↦ [] ]

-- the next entry, or the assign's end
abbrev pub next_entry : List Entry → ℕ → ℕ → Point
next_entry [] m n = EndOf n
next_entry (e ∷ es) m n = At m

-- the entries from number m on, of the assign of number n
abbrev pub entries_edges : List Entry → ℕ → ℕ → Site → List Edge
entries_edges [] m n a = []
entries_edges (e ∷ es) m n a = writing a (At m) (next_entry es (suc m) n) (plain_name e) ∷ failing a (At m) ++ entries_edges es (suc m) n a

-- of what is evaluated at its number, and may fail there
abbrev pub evaluated : Site → ℕ → List Edge → List Edge
evaluated a n es = failing a (At n) ++ es

-- an end, which leads to its `next` or else on
abbrev pub ending : Site → ℕ → Option Text → Option Exit → List Edge
ending a n next out = failing a (EndOf n) ++ to_some (EndOf n) (follow a next out)

-- a `try` whose body failed: the body again where it has a policy
abbrev pub retrying : Option Policy → ℕ → Site → List Edge
retrying None n a = []
retrying (Some p) n a = passing a (FailOf n) (At (suc n)) ∷ []

abbrev mutual
  -- the steps from number n on, and where the end of the last one leads
  pub steps_edges : Steps → ℕ → Site → Option Exit → List Edge
  steps_edges no_steps n a out = []
  steps_edges (more s ss) n a out = step_edges s n a (first_in a ss (n + step_size s) out) ++ steps_edges ss (n + step_size s) a out

  pub step_edges : Step → ℕ → Site → Option Exit → List Edge
  step_edges (step x body next) n a out = body_edges body n a ++ ending a n next out

  -- from the evaluation of the body of number n to its end
  pub body_edges : Body → ℕ → Site → List Edge
  body_edges Body.Nothing n a = evaluated a n (passing a (At n) (EndOf n) ∷ [])
  body_edges (Body.Assign es) n a = evaluated a n (passing a (At n) (next_entry es (suc n) n) ∷ entries_edges es (suc n) n a)
  body_edges (Body.Call f) n a = evaluated a n (writing a (At n) (EndOf n) (listed f.result) ∷ [])
  body_edges (Body.Switch arms) n a = evaluated a n (passing a (At n) (EndOf n) ∷ arms_edges arms (suc n) n a)
  body_edges (Body.For l) n a = evaluated a n (passing a (At n) (HeadOf n) ∷ loop_edges l n a)
  body_edges (Body.Parallel p) n a = evaluated a n (passing a (At n) (EndOf n) ∷ parallel_edges p n a)
  body_edges (Body.Block ss) n a = evaluated a n (to_some (At n) (first_in a ss (suc n) (Some (record { point = EndOf n; depth = a.depth }))) ++ steps_edges ss (suc n) (in_block ss (suc n) a) (Some (record { point = EndOf n; depth = a.depth })))
  body_edges (Body.Try t) n a = evaluated a n (passing a (At n) (At (suc n)) ∷ try_edges t n a)
  body_edges (Body.Raise t) n a = evaluated a n []
  body_edges (Body.Return t) n a = evaluated a n []

  -- the arms from number m on, of the switch of number n
  pub arms_edges : Arms → ℕ → ℕ → Site → List Edge
  arms_edges no_arms m n a = []
  arms_edges (arm t body next rest) m n a =
      passing a (At n) (At m) ∷ evaluated a m (passing a (At m) (At (suc m)) ∷ body_edges body (suc m) a ++ ending a (suc m) next (Some (record { point = EndOf n; depth = a.depth })) ++ arms_edges rest (m + suc (suc (body_size body))) n a)

  pub loop_edges : LoopBody → ℕ → Site → List Edge
  loop_edges (loop x i o ss) n a =
      passing a (HeadOf n) (EndOf n) ∷ failing a (HeadOf n) ++ entering a.depth (HeadOf n) ss (suc n) (loop_binds x i) (Some (record { point = HeadOf n; depth = a.depth }))
      ++ steps_edges ss (suc n) (in_loop ss n a) (Some (record { point = HeadOf n; depth = a.depth }))

  pub parallel_edges : ParallelBody → ℕ → Site → List Edge
  parallel_edges (parallel shared limit w) n a = work_edges w n a

  pub work_edges : Work → ℕ → Site → List Edge
  work_edges (OfBranches bs) n a = branches_edges bs (suc n) n a
  work_edges (OfLoop l) n a = turn_edges l n a

  -- a parallel loop: each iteration is entered from the step
  pub turn_edges : LoopBody → ℕ → Site → List Edge
  turn_edges (loop x i o ss) n a = entering a.depth (At n) ss (suc n) (loop_binds x i) None ++ steps_edges ss (suc n) (in_task ss (suc n) InTurn a) None

  -- the branches from number m on, of the parallel step of number n
  pub branches_edges : Branches → ℕ → ℕ → Site → List Edge
  branches_edges no_branches m n a = []
  branches_edges (branch x ss bs) m n a =
      entering a.depth (At n) ss (suc m) [] None ++ steps_edges ss (suc m) (in_task ss (suc m) NoLoop a) None ++ branches_edges bs (m + suc (steps_size ss)) n a

  pub try_edges : TryBody → ℕ → Site → List Edge
  try_edges (try body policy x) n a =
      body_edges body (suc n) (in_try n a) ++ ending (in_try n a) (suc n) None (Some (record { point = EndOf n; depth = a.depth }))
      ++ retrying policy n a ++ failing a (FailOf n) ++ except_edges x (n + suc (suc (body_size body))) n a

  -- the `except` of the `try` of number n, whose first step has the number m
  pub except_edges : Except → ℕ → ℕ → Site → List Edge
  except_edges no_except m n a = []
  except_edges (except x ss) m n a =
      entering a.depth (FailOf n) ss m (x ∷ []) (Some (record { point = EndOf n; depth = a.depth })) ++ steps_edges ss m (in_except ss m a) (Some (record { point = EndOf n; depth = a.depth }))

-- a workflow of number n, whose entry is the point of that number
unfoldable pub flow_edges : Flow → ℕ → List Edge
flow_edges f n = entering 0 (At n) f.steps (suc n) (param_names f.params) None ++ steps_edges f.steps (suc n) (in_flow f.steps n) None
