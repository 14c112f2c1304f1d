-- The parts of a program are the nodes of the rules, in the same order.
use Rattle.std.proofs.Common.{◌≡◌, ℕ, suc, ◌+◌, List, [], ◌∷◌, ◌++◌, codes, map, refl, sym, ap, ◌∙◌}
use Rattle.std.proofs.lemmas.List.{map-append}
use Rattle.wf_ast.specs.Nodes as rules
use Rattle.wf_ast.specs.Nodes.{Around, Path, arms_nodes, below, body_nodes, branches_nodes, entry_nodes, except_nodes, flow_around, flow_nodes, in_block, in_layer, in_loop, in_task, loop_binds, loop_nodes, nodes, nth, parallel_loop_nodes, parallel_nodes, step_nodes, steps_nodes, try_nodes, work_nodes}
use Rattle.wf_ast.specs.Tree.{Entry, Step, step, Steps, no_steps, more, Body, Arms, no_arms, arm, LoopBody, loop, ParallelBody, parallel, Work, OfBranches, OfLoop, Branches, no_branches, branch, TryBody, try, Except, no_except, except, Flow}
use Rattle.wf_table.specs.Preorder.{ArmCore, BodyCore, BranchCore, EntryCore, FlowCore, InPreorder, node_core, spot_core}
use Rattle.wf_model.specs.Spots.{Spot, arms_spots, body_size, body_spots, branches_spots, entries_spots, except_spots, flow_spots, flows_spots, loop_spots, parallel_spots, step_size, step_spots, steps_size, steps_spots, try_spots, work_spots}
use Rattle.wf_value.specs.Pairs.{Text}
use Rattle.wf_value.specs.declared.path.PathPart.TheVariants.{Key}

joined : (vs ws : List rules.Node) (xs ys : List Spot) → map node_core vs ≡ map spot_core xs → map node_core ws ≡ map spot_core ys → map node_core (vs ++ ws) ≡ map spot_core (xs ++ ys)
joined vs ws xs ys h k = map-append node_core vs ws ∙ (λ i. h i ++ k i) ∙ sym (map-append spot_core xs ys)

entries_alike : (es : List Entry) (a : Around) (path : Path) (i : ℕ) (os : List ℕ) → map node_core (entry_nodes es a path i) ≡ map spot_core (entries_spots es os)
entries_alike [] a path i os = refl
entries_alike (e ∷ es) a path i os = ap (λ l. EntryCore e ∷ l) (entries_alike es a path (suc i) os)

mutual
  steps_alike : (ss : Steps) (a : Around) (path : Path) (i n : ℕ) (os : List ℕ) → map node_core (steps_nodes ss a path i) ≡ map spot_core (steps_spots ss n os)
  steps_alike no_steps a path i n os = refl
  steps_alike (more s ss) a path i n os =
      joined (step_nodes s a (nth path i)) (steps_nodes ss a path (suc i)) (step_spots s n os) (steps_spots ss (n + step_size s) os) (step_alike s a (nth path i) n os) (steps_alike ss a path (suc i) (n + step_size s) os)

  step_alike : (s : Step) (a : Around) (path : Path) (n : ℕ) (os : List ℕ) → map node_core (step_nodes s a path) ≡ map spot_core (step_spots s n os)
  step_alike (step x body next) a path n os = ap (λ l. BodyCore x body ∷ l) (body_alike body a (below path x) n os)

  body_alike : (body : Body) (a : Around) (path : Path) (n : ℕ) (os : List ℕ) → map node_core (body_nodes body a path) ≡ map spot_core (body_spots body n os)
  body_alike Body.Nothing a path n os = refl
  body_alike (Body.Assign es) a path n os = entries_alike es a (below path (codes "assign")) 0 os
  body_alike (Body.Call f) a path n os = refl
  body_alike (Body.Switch arms) a path n os = arms_alike arms a (below path (codes "switch")) 0 (suc n) os
  body_alike (Body.For l) a path n os = loop_alike l a (below path (codes "for")) n
  body_alike (Body.Parallel p) a path n os = parallel_alike p a (below path (codes "parallel")) n os
  body_alike (Body.Block ss) a path n os = steps_alike ss (in_block ss a) (below path (codes "steps")) 0 (suc n) (n ∷ os)
  body_alike (Body.Try t) a path n os = try_alike t a path n os
  body_alike (Body.Raise t) a path n os = refl
  body_alike (Body.Return t) a path n os = refl

  arms_alike : (arms : Arms) (a : Around) (path : Path) (i n : ℕ) (os : List ℕ) → map node_core (arms_nodes arms a path i) ≡ map spot_core (arms_spots arms n os)
  arms_alike no_arms a path i n os = refl
  arms_alike (arm t body next rest) a path i n os =
      ap (λ l. ArmCore t ∷ BodyCore [] body ∷ l)
      (joined (body_nodes body a (nth path i)) (arms_nodes rest a path (suc i)) (body_spots body (suc n) os) (arms_spots rest (n + suc (suc (body_size body))) os) (body_alike body a (nth path i) (suc n) os)
      (arms_alike rest a path (suc i) (n + suc (suc (body_size body))) os))

  loop_alike : (l : LoopBody) (a : Around) (path : Path) (n : ℕ) → map node_core (loop_nodes l a path) ≡ map spot_core (loop_spots l n)
  loop_alike (loop x i o ss) a path n = steps_alike ss (in_loop (loop_binds x i) ss a) (below path (codes "steps")) 0 (suc n) (n ∷ [])

  parallel_alike : (p : ParallelBody) (a : Around) (path : Path) (n : ℕ) (os : List ℕ) → map node_core (parallel_nodes p a path) ≡ map spot_core (parallel_spots p n os)
  parallel_alike (parallel shared limit w) a path n os = work_alike w shared a path n os

  work_alike : (w : Work) (shared : List Text) (a : Around) (path : Path) (n : ℕ) (os : List ℕ) → map node_core (work_nodes w shared a path) ≡ map spot_core (work_spots w n os)
  work_alike (OfBranches bs) shared a path n os = branches_alike bs shared [] a (below path (codes "branches")) 0 (suc n) os
  work_alike (OfLoop l) shared a path n os = parallel_loop_alike l shared a (below path (codes "for")) n

  parallel_loop_alike : (l : LoopBody) (shared : List Text) (a : Around) (path : Path) (n : ℕ) → map node_core (parallel_loop_nodes l shared a path) ≡ map spot_core (loop_spots l n)
  parallel_loop_alike (loop x i o ss) shared a path n = steps_alike ss (in_task shared (loop_binds x i) rules.InParallelLoop ss a) (below path (codes "steps")) 0 (suc n) (n ∷ [])

  branches_alike : (bs : Branches) (shared before : List Text) (a : Around) (path : Path) (i n : ℕ) (os : List ℕ) → map node_core (branches_nodes bs shared before a path i) ≡ map spot_core (branches_spots bs n os)
  branches_alike no_branches shared before a path i n os = refl
  branches_alike (branch x ss bs) shared before a path i n os =
      ap (λ l. BranchCore x ss ∷ l)
      (joined (steps_nodes ss (in_task shared [] rules.NoLoop ss a) (below (below (nth path i) x) (codes "steps")) 0) (branches_nodes bs shared (x ∷ before) a path (suc i)) (steps_spots ss (suc n) (n ∷ []))
      (branches_spots bs (n + suc (steps_size ss)) os) (steps_alike ss (in_task shared [] rules.NoLoop ss a) (below (below (nth path i) x) (codes "steps")) 0 (suc n) (n ∷ []))
      (branches_alike bs shared (x ∷ before) a path (suc i) (n + suc (steps_size ss)) os))

  try_alike : (t : TryBody) (a : Around) (path : Path) (n : ℕ) (os : List ℕ) → map node_core (try_nodes t a path) ≡ map spot_core (try_spots t n os)
  try_alike (try body policy x) a path n os =
      ap (λ l. BodyCore [] body ∷ l)
      (joined (body_nodes body a (below path (codes "try"))) (except_nodes x a (below path (codes "except"))) (body_spots body (suc n) os) (except_spots x (n + suc (suc (body_size body))) (n ∷ os))
      (body_alike body a (below path (codes "try")) (suc n) os) (except_alike x a (below path (codes "except")) (n + suc (suc (body_size body))) (n ∷ os)))

  except_alike : (x : Except) (a : Around) (path : Path) (n : ℕ) (os : List ℕ) → map node_core (except_nodes x a path) ≡ map spot_core (except_spots x n os)
  except_alike no_except a path n os = refl
  except_alike (except x ss) a path n os = steps_alike ss (in_block ss (in_layer (x ∷ []) ss a)) (below path (codes "steps")) 0 n os

flows_alike : (fs : List Flow) (n : ℕ) → map node_core (nodes fs) ≡ map spot_core (flows_spots fs n)
unfolding nodes
flows_alike [] n = refl
flows_alike (f ∷ fs) n =
    joined (flow_nodes f) (nodes fs) (flow_spots f n) (flows_spots fs (n + suc (steps_size f.steps)))
    (ap (λ l. FlowCore f ∷ l) (steps_alike f.steps (flow_around f) (Key f.name ∷ Key (codes "steps") ∷ []) 0 (suc n) (n ∷ []))) (flows_alike fs (n + suc (steps_size f.steps)))

pub in_preorder : InPreorder
in_preorder fs = flows_alike fs 0
